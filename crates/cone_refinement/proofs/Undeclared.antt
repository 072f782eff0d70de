-- The undeclared names of the answer: the places that the code lists are those of the undeclared names in the definition's
-- cone, ascending, at most 64.
use Rattle.std.specs.Prelude.{if◌then◌else◌}
use mathlib.Core.Path.{◌≡◌, refl, sym, ap, ◌∙◌}
use mathlib.Core.Bool.{Bool, true, false, not, ◌||◌, ◌&&◌, or_assoc}
use mathlib.Core.List.{List, [], ◌∷◌, ◌++◌, append-nil, append_assoc}
use Prim.Native.Nat.{ℕ, zero, suc, ◌+◌, ◌-◌, ◌<◌, ◌≤◌}
use native.Mathlib.Omega.{arith}
use native.Mathlib.Decide.{dec_lt}
use native.Mathlib.Nat.{zero-add}
use lib.Dec.{eqb, leb}
use lib.ListN.{length, get_or, replicate, length-append}
use borrow.Author.Tests.{lt-ltb, le-leb, lt-leb, eq-eqb, ne_eqb}
use Rattle.engine_spec.proofs.Bounds.{length_each}
use Rattle.texts.specs.Lists.{any, keep, each, flat}
use Rattle.texts.specs.Texts.{Text, eq_t, mem_t, sorted_t}
use Rattle.texts.proofs.Ordering.{not_both}
use Rattle.model_spec.specs.Model.{Automation, Model}
use Rattle.model_spec.specs.Notes.{notes_of}
use Rattle.model_spec.specs.Rewrite.{place_of}
use Rattle.model_walk.proofs.Found.{Case, is_true, is_false, case}
use Rattle.model_parts.specs.declared.Section.{Section}
use Rattle.lint_spec.specs.Reach.{places}
use Rattle.lint_spec.specs.Touches.{reads_of}
use Rattle.lint_reach.specs.Sets.{holds}
use Rattle.lint_access.proofs.Rising.{Rising, rising_sorted, mem_sorted, unique}
use Rattle.lint_conditions.specs.declared.Names.{Names}
use Rattle.lint_walk.specs.Walks.{walk_m}
use Rattle.lint_undeclared.specs.declared.Undeclared.{Undeclared}
use Rattle.lint_undeclared.specs.Undeclared.{strange_m, undeclared_m}
use Rattle.lint_spec.specs.Numbers.{padded, undeclared}
use Rattle.lint_refinement.proofs.Lists.{rising_keep, mem_keep}
use Rattle.lint_refinement.proofs.Sets.{Once, places_at}
use Rattle.lint_refinement.proofs.FileFacts.{Stage, rule_of, rule_start, id_number}
use Rattle.lint_refinement.proofs.Rules.{names, ids}
use Rattle.lint_refinement.proofs.ById.{flat_each, each_numbered}
use Rattle.lint_refinement.proofs.Cycled.{any_flat}
use Rattle.lint_refinement.proofs.Undeclared.{
  keep_texts,
  places_below,
  found_places,
  strange_is,
  strange_places,
  alien,
  alien_text,
}
use Rattle.lint_refinement.proofs.Packed.{packed, set_padded, P, Q, flat_long, few_strangers, undeclared_packed}
use Rattle.cone_close.specs.declared.ConeSets.{ConeSets}
use Rattle.cone_names.specs.declared.ConeNames.{ConeNames}
use Rattle.cone_names.specs.Undeclared.{with_m, no_names, read_m, some_m, wanted_m, name_m, from_m, names_m}
use Rattle.cone_refinement.proofs.Closing.{any_each, any_places, some_of, Kept}
use Rattle.cone_refinement.proofs.Start.{each_self}
use Rattle.engine_spec.proofs.Lists.{sorted_many}

-- ---- the list of names

-- so many places, and then zeros
unfoldable pub packed_n : List ℕ → ConeNames
packed_n l = record { count = length l; list = padded 64 l }

with_packed : (l : List ℕ) (t : ℕ) → length l < 64 → with_m (packed_n l) t ≡ packed_n (l ++ t ∷ [])
unfolding with_m packed_n
with_packed l t h =
    let n : length l + 1 ≡ length (l ++ t ∷ []) = sym (length-append l (t ∷ [])) in
    rw (lt-ltb (length l) 64 h) (rw (n, set_padded l t h))

module _ (u : Undeclared) (a : ℕ) where
  from_packed : (k t : ℕ) (l : List ℕ) → length l + length (keep (wanted_m u a) (places k t)) ≤ 64
      → from_m u a k t (packed_n l) ≡ packed_n (l ++ keep (wanted_m u a) (places k t))
  unfolding from_m name_m keep places
  from_packed zero t l h = ap packed_n (sym (append-nil l))
  from_packed (suc k) t l h = cases (wanted_m u a t) h (λ l h. from_packed k (t + 1) l h)
    where
      rest : List ℕ
      rest = keep (wanted_m u a) (places k (t + 1))

      cases : (b : Bool) → length l + length (if b then t ∷ rest else rest) ≤ 64
          → ((l : List ℕ) → length l + length rest ≤ 64 → from_m u a k (t + 1) (packed_n l) ≡ packed_n (l ++ rest))
          → from_m u a k (t + 1) (if b then with_m (packed_n l) t else packed_n l) ≡ packed_n
          (l ++ (if b then t ∷ rest else rest))
      cases true h ih =
          let n = length-append l (t ∷ []) in
          ap (from_m u a k (t + 1)) (with_packed l t (omega arith))
          ∙ ih (l ++ t ∷ []) (omega arith)
          ∙ ap packed_n (append_assoc l (t ∷ []) rest)
      cases false h ih = ih l h

  pub names_packed : (k : ℕ) → length (keep (wanted_m u a) (places k 0)) ≤ 64
      → names_m u a k ≡ packed_n (keep (wanted_m u a) (places k 0))
  unfolding names_m
  names_packed k h = ap (from_m u a k 0) none_packed ∙ from_packed k 0 [] (omega arith)
    where
      none_packed : no_names ≡ packed_n []
      none_packed = unfold packed_n padded in refl

  -- ---- whether a name is wanted

  some_any : (t left j : ℕ) → u.count ≤ j + left → j ≤ u.count
      → some_m u a t left j ≡ any (read_m u a t) (places (u.count - j) j)
  unfolding some_m any places
  some_any t zero j h k =
      let z : u.count - j ≡ 0 = omega arith in
      rw z
  some_any t (suc left) j h k = elim (dec_lt j u.count) [
    | yes l ↦
        let z : u.count - j ≡ suc (u.count - (j + 1)) = omega arith in
        rw (lt-leb u.count j l, z)
        (or_is (read_m u a t j) _ ∙ ap (λ (b : Bool). read_m u a t j || b)
        (some_any t left (j + 1) (omega arith) (omega arith)))
    | no l ↦
        let z : u.count - j ≡ 0 = omega arith in
        rw (le-leb u.count j (omega arith), z)
  ]
    where
      or_is : (b c : Bool) → (if b then true else c) ≡ (b || c)
      or_is true c = refl
      or_is false c = refl

  wanted_any : (t : ℕ) → u.count ≤ 64 → wanted_m u a t ≡ any (read_m u a t) (places u.count 0)
  unfolding wanted_m
  wanted_any t h =
      let z : u.count - 0 ≡ u.count = omega arith in
      some_any t 64 0 (omega arith) (omega arith) ∙ ap (λ (n : ℕ). any (read_m u a t) (places n 0)) z

-- ---- two lists side by side

unfoldable any2 : (ℕ → ℕ → Bool) → List ℕ → List ℕ → Bool
any2 g [] qs = false
any2 g (p ∷ ps) [] = false
any2 g (p ∷ ps) (q ∷ qs) = g p q || any2 g ps qs

any_zip : (g : ℕ → ℕ → Bool) (A B ps qs : List ℕ) (k : ℕ) → length qs ≡ length ps
    → ((j : ℕ) → j < length ps → get_or A (k + j) 0 ≡ get_or ps j 0)
    → ((j : ℕ) → j < length ps → get_or B (k + j) 0 ≡ get_or qs j 0)
    → any (λ j. g (get_or A j 0) (get_or B j 0)) (places (length ps) k) ≡ any2 g ps qs
unfolding any places any2
any_zip g A B [] qs k e f h = refl
any_zip g A B (p ∷ ps) [] k e f h = absurd (omega arith)
any_zip g A B (p ∷ ps) (q ∷ qs) k e f h =
    let z : k + 0 ≡ k = omega arith in
    let x : get_or A k 0 ≡ p = ap (λ (i : ℕ). get_or A i 0) (sym z) ∙ f 0 (omega arith) in
    let y : get_or B k 0 ≡ q = ap (λ (i : ℕ). get_or B i 0) (sym z) ∙ h 0 (omega arith) in
    ap (λ (b : Bool). b || any (λ j. g (get_or A j 0) (get_or B j 0)) (places (length ps) (k + 1)))
    (ap (λ (i : ℕ). g i (get_or B k 0)) x ∙ ap (g p) y)
    ∙ ap (λ (b : Bool). g p q || b) (any_zip g A B ps qs (k + 1) (omega arith)
    (λ j b. let w : k + 1 + j ≡ k + suc j = omega arith in ap (λ (i : ℕ). get_or A i 0) w ∙ f (suc j) (omega arith))
    (λ j b. let w : k + 1 + j ≡ k + suc j = omega arith in ap (λ (i : ℕ). get_or B i 0) w ∙ h (suc j) (omega arith)))

any2_append : (g : ℕ → ℕ → Bool) (ps qs ps' qs' : List ℕ) → length qs ≡ length ps
    → any2 g (ps ++ ps') (qs ++ qs') ≡ (any2 g ps qs || any2 g ps' qs')
unfolding any2
any2_append g [] [] ps' qs' e = refl
any2_append g [] (q ∷ qs) ps' qs' e = absurd (omega arith)
any2_append g (p ∷ ps) [] ps' qs' e = absurd (omega arith)
any2_append g (p ∷ ps) (q ∷ qs) ps' qs' e =
    ap (λ (b : Bool). g p q || b) (any2_append g ps qs ps' qs' (omega arith))
    ∙ sym (or_assoc (g p q) (any2 g ps qs) (any2 g ps' qs'))

any2_flat : {A : Type 0} (g : ℕ → ℕ → Bool) (F G : A → List ℕ) → ((x : A) → length (G x) ≡ length (F x)) → (l : List A)
    → any2 g (flat F l) (flat G l) ≡ any (λ x. any2 g (F x) (G x)) l
unfolding any flat any2
any2_flat g F G e [] = refl
any2_flat g F G e (x ∷ l) = any2_append g (F x) (G x) (flat F l) (flat G l) (e x)
    ∙ ap (λ (b : Bool). any2 g (F x) (G x) || b) (any2_flat g F G e l)

any2_same : {A : Type 0} (g : ℕ → ℕ → Bool) (f : A → ℕ) (q : ℕ) (l : List A)
    → any2 g (each f l) (each (λ x. q) l) ≡ any (λ p. g p q) (each f l)
unfolding any2 each any
any2_same g f q [] = refl
any2_same g f q (x ∷ l) = ap (λ (b : Bool). g (f x) q || b) (any2_same g f q l)

-- ---- numbers in a row

any_and : (b : Bool) (f : ℕ → Bool) (l : List ℕ) → any (λ p. f p && b) l ≡ (b && any f l)
unfolding any
any_and true f [] = refl
any_and false f [] = refl
any_and b f (x ∷ l) = ap (λ (c : Bool). f x && b || c) (any_and b f l) ∙ go (f x) b (any f l)
  where
    go : (x b c : Bool) → (x && b || (b && c)) ≡ (b && (x || c))
    go true true c = refl
    go true false c = refl
    go false true c = refl
    go false false c = refl

any_below : (f : ℕ → Bool) (t n i : ℕ) → t < i → any (λ p. eqb p t) (keep f (places n i)) ≡ false
unfolding any keep places
any_below f t zero i h = refl
any_below f t (suc n) i h = cases (f i) (any_below f t n (i + 1) (omega arith))
  where
    cases : (b : Bool) → any (λ p. eqb p t) (keep f (places n (i + 1))) ≡ false
        → any (λ p. eqb p t) (if b then i ∷ keep f (places n (i + 1)) else keep f (places n (i + 1))) ≡ false
    cases true ih = rw (ne_eqb i t (λ z. omega arith)) ih
    cases false ih = ih

any_at : (f : ℕ → Bool) (t n i : ℕ) → i ≤ t → t < i + n → any (λ p. eqb p t) (keep f (places n i)) ≡ f t
unfolding any keep places
any_at f t zero i h k = absurd (omega arith)
any_at f t (suc n) i h k = elim (dec_lt i t) [
  | yes l ↦ later (f i) (omega arith) (any_at f t n (i + 1) (omega arith) (omega arith))
  | no l ↦ let z : t ≡ i = omega arith in now (case (f i)) z
]
  where
    later : (b : Bool) → i < t → any (λ p. eqb p t) (keep f (places n (i + 1))) ≡ f t
        → any (λ p. eqb p t) (if b then i ∷ keep f (places n (i + 1)) else keep f (places n (i + 1))) ≡ f t
    later true l ih = rw (ne_eqb i t (λ z. omega arith)) ih
    later false l ih = ih

    now : Case (f i) → t ≡ i → any (λ p. eqb p t)
        (if f i then i ∷ keep f (places n (i + 1)) else keep f (places n (i + 1))) ≡ f t
    now (is_true b) z = rw b (rw (eq-eqb i t (sym z)) (sym (ap f z ∙ b)))
    now (is_false b) z = rw b (any_below f t n (i + 1) (omega arith) ∙ sym (ap f z ∙ b))

pub get_d_front : (l m : List ℕ) (j : ℕ) → j < length l → get_or (l ++ m) j 0 ≡ get_or l j 0
get_d_front [] m j h = absurd (omega arith)
get_d_front (x ∷ l) m zero h = refl
get_d_front (x ∷ l) m (suc j) h = get_d_front l m j (omega arith)

get_d_padded : (l : List ℕ) (j : ℕ) → j < length l → get_or (padded 64 l) (0 + j) 0 ≡ get_or l j 0
unfolding padded
get_d_padded l j h = ap (λ (i : ℕ). get_or (l ++ replicate (64 - length l) 0) i 0) (zero-add j) ∙ get_d_front l _ j h

some_false : (a n i : ℕ) → some_of a (λ j. false) n i ≡ false
unfolding some_of any places
some_false a zero i = refl
some_false a (suc n) i = go (holds a i) (some_false a n (i + 1))
  where
    go : (b : Bool) → some_of a (λ j. false) n (i + 1) ≡ false → (b && false || some_of a (λ j. false) n (i + 1)) ≡ false
    go true ih = ih
    go false ih = ih

-- one of the set's numbers that passes
record Passes (f : ℕ → Bool) (n i : ℕ) : Type 0 where
  number : ℕ
  low : i ≤ number
  high : number < i + n
  passes : f number ≡ true

some_found : (a : ℕ) (f : ℕ → Bool) (n i : ℕ) → some_of a f n i ≡ true → Passes f n i
unfolding some_of any places
some_found a f zero i e = absurd (not_both refl e)
some_found a f (suc n) i e = cases (case (holds a i)) (case (f i)) (λ k. some_found a f n (i + 1) k)
  where
    later : Passes f n (i + 1) → Passes f (suc n) i
    later p = record { number = p.number; low = omega (arith, p.low); high = omega (arith, p.high); passes = p.passes }

    cases : Case (holds a i) → Case (f i) → (some_of a f n (i + 1) ≡ true → Passes f n (i + 1)) → Passes f (suc n) i
    cases (is_true x) (is_true y) ih = record { number = i; low = omega arith; high = omega arith; passes = y }
    cases (is_true x) (is_false y) ih = later (ih (rw (x, y) at e))
    cases (is_false x) y ih = later (ih (rw x at e))

flat_fewer : (b : ℕ → Bool) (f : ℕ → List Text) (n i : ℕ)
    → length (flat (λ j. if b j then f j else []) (places n i)) ≤ length (flat f (places n i))
unfolding flat places
flat_fewer b f zero i = omega arith
flat_fewer b f (suc n) i = cases (b i) (flat_fewer b f n (i + 1))
  where
    X : List Text
    X = flat (λ j. if b j then f j else []) (places n (i + 1))

    Y : List Text
    Y = flat f (places n (i + 1))

    cases : (c : Bool) → length X ≤ length Y → length ((if c then f i else []) ++ X) ≤ length (f i ++ Y)
    cases true ih = omega (arith, length-append (f i) X, length-append (f i) Y, ih)
    cases false ih = omega (arith, length-append (f i) Y, ih)

module _ {s : List ℕ} {d : Names} {rs : Section} {ts : List Text} {m : Model} (st : Stage s d rs ts m) (ascends : Rising ts)
    (once : Once ts) (few : length (notes_of m) ≤ 64) (l ins : List Text) (c : ConeSets) (h : Kept st l ins c) where
  abbrev a : ℕ
  a = c.automations

  abbrev n : ℕ
  n = length m.rules

  abbrev R : ℕ → Automation
  R = rule_of st

  abbrev T : ℕ → Text
  T x = get_or ts x []

  abbrev places_of : Automation → List ℕ
  places_of = P st ascends once few

  abbrev readers_of : Automation → List ℕ
  readers_of = Q st ascends once few

  abbrev u : Undeclared
  u = undeclared_m s d.entities rs (length ts)

  u_is : u ≡ packed (flat places_of m.rules) (flat readers_of m.rules)
  u_is = undeclared_packed st ascends once few

  same_long : (r : Automation) → length (readers_of r) ≡ length (places_of r)
  same_long r = length_each _ (undeclared (names st) (reads_of r)) ∙ sym (length_each _ (undeclared (names st) (reads_of r)))

  all_long : (x : List Automation) → length (flat readers_of x) ≡ length (flat places_of x)
  unfolding flat
  all_long [] = refl
  all_long (r ∷ x) =
      omega (
        arith,
        same_long r,
        all_long x,
        length-append (readers_of r) (flat readers_of x),
        length-append
            (places_of r) (flat places_of x),
      )

  -- the name is the one at the place t, and its reader is in
  abbrev g : ℕ → ℕ → ℕ → Bool
  g t p q = eqb p t && (if leb 32 q then false else holds a q)

  read_is : (ps qs : List ℕ) (t j : ℕ)
      → read_m (packed ps qs) a t j ≡ g t (get_or (padded 64 ps) j 0) (get_or (padded 64 qs) j 0)
  unfolding read_m packed
  read_is ps qs t j = go (eqb (get_or (padded 64 ps) j 0) t) _
    where
      go : (x y : Bool) → (if x then y else false) ≡ (x && y)
      go true y = refl
      go false y = refl

  wanted_zip : (ps qs : List ℕ) → length ps ≤ 64 → length qs ≡ length ps → (t : ℕ)
      → wanted_m (packed ps qs) a t ≡ any2 (g t) ps qs
  unfolding packed
  wanted_zip ps qs f e t =
      wanted_any (packed ps qs) a t f
      ∙ any_places (read_m (packed ps qs) a t) (λ j. g t (get_or (padded 64 ps) j 0) (get_or (padded 64 qs) j 0))
      (length ps) 0 (λ j x y. read_is ps qs t j)
      ∙ any_zip (g t) (padded 64 ps) (padded 64 qs) ps qs 0 e (λ j b. get_d_padded ps j b)
      (λ j b. get_d_padded qs j (omega arith))

  -- the i-th automation
  one_rule : (t : ℕ) → t < length ts → (i : ℕ) (b : i < n)
      → any2 (g t) (places_of (R i)) (readers_of (R i)) ≡ (holds a i && alien st i b (T t))
  unfolding found_places
  one_rule t k i b =
      any2_same (g t) (λ x. place_of x ts) (place_of (R i).id (ids st)) (undeclared (names st) (reads_of (R i)))
      ∙ ap (λ (q : ℕ). any (λ p. g t p q) (places_of (R i))) (id_number st i b)
      ∙ any_and (if leb 32 i then false else holds a i) (λ p. eqb p t) (places_of (R i))
      ∙ ap (λ (x : Bool). (if x then false else holds a i) && any (λ p. eqb p t) (places_of (R i)))
      (lt-leb 32 i (omega (arith, st.lawful.few_rules)))
      ∙ ap (λ (x : List ℕ). holds a i && any (λ p. eqb p t) x) (sym (strange_places st i b ascends once))
      ∙ ap (λ (x : Bool). holds a i && x)
      (any_at (strange_m s d.entities (walk_m s (rule_start st i))) t (length ts) 0 (omega arith) (omega arith)
      ∙ strange_is st i b t k)

  numbered : m.rules ≡ each R (places n 0)
  numbered = sym (each_self m.rules) ∙ each_numbered (λ r. r) R m.rules (λ j b. refl)

  -- the name isn't declared
  abbrev und : Text → Bool
  und x = not (mem_t x (names st))

  wanted_some : (t : ℕ) → t < length ts → wanted_m u a t ≡ some_of a (λ i. und (T t) && mem_t (T t) (reads_of (R i))) n 0
  unfolding some_of
  wanted_some t k =
      ap (λ (x : Undeclared). wanted_m x a t) u_is
      ∙ wanted_zip (flat places_of m.rules) (flat readers_of m.rules) (few_strangers st ascends once few)
      (all_long m.rules) t
      ∙ any2_flat (g t) places_of readers_of same_long m.rules
      ∙ ap (any (λ r. any2 (g t) (places_of r) (readers_of r))) numbered
      ∙ any_each (λ r. any2 (g t) (places_of r) (readers_of r)) R (places n 0)
      ∙ any_places (λ i. any2 (g t) (places_of (R i)) (readers_of (R i)))
      (λ i. holds a i && (und (T t) && mem_t (T t) (reads_of (R i)))) n 0
      (λ i x y. one_rule t k i (omega arith))

  -- in the cone, and not declared
  abbrev G : Text → Bool
  G x = und x && mem_t x l

  some_strange : (x : Text) → some_of a (λ i. und x && mem_t x (reads_of (R i))) n 0 ≡ G x
  some_strange x = cases (case (mem_t x (names st)))
    where
      cases : Case (mem_t x (names st)) → some_of a (λ i. und x && mem_t x (reads_of (R i))) n 0 ≡ G x
      cases (is_true b) = rw b (some_false a n 0)
      cases (is_false b) = rw b (sym (h.strange x b))

  in_texts : (x : Text) → (G x && mem_t x ts) ≡ G x
  in_texts x = cases (case (G x))
    where
      cases : Case (G x) → (G x && mem_t x ts) ≡ G x
      cases (is_true b) =
          let p = some_found a (λ i. und x && mem_t x (reads_of (R i))) n 0 (some_strange x ∙ b) in
          let i = p.number in
          let k : i < n = omega (arith, p.high) in
          let q : (alien st i k x && mem_t x ts) ≡ alien st i k x = alien_text st i k x in
          rw b (sym (ap (λ (y : Bool). y && mem_t x ts) p.passes) ∙ q ∙ p.passes)
      cases (is_false b) = rw b

  abbrev found : List ℕ
  found = keep (wanted_m u a) (places (length ts) 0)

  found_texts : each T found ≡ keep und (sorted_t l)
  found_texts =
      keep_texts (wanted_m u a) G ts ts 0 (λ t b. ap T (zero-add t))
      (λ t b. ap (wanted_m u a) (zero-add t) ∙ wanted_some t b ∙ some_strange (T t))
      ∙ unique (keep G ts) (keep und (sorted_t l)) (rising_keep G ascends) (rising_keep und (rising_sorted l))
      (λ x. mem_keep G x ts ∙ in_texts x
      ∙ sym (mem_keep und x (sorted_t l) ∙ ap (λ (y : Bool). und x && y) (mem_sorted x l)))

  found_are : found ≡ each (λ t. place_of t ts) (undeclared (names st) (sorted_t l))
  unfolding undeclared
  found_are =
      sym (places_at ts once found (λ j b. let y = places_below (wanted_m u a) (length ts) 0 j b in omega arith))
      ∙ ap (each (λ t. place_of t ts)) found_texts

  -- ---- there are at most 64

  abbrev taken : List Text
  taken = flat (λ i. if holds a i then undeclared (names st) (reads_of (R i)) else []) (places n 0)

  mem_taken : (x : Text) → mem_t x taken ≡ some_of a (λ i. und x && mem_t x (reads_of (R i))) n 0
  unfolding some_of mem_t undeclared any
  mem_taken x =
      any_flat (eq_t x) (λ i. if holds a i then undeclared (names st) (reads_of (R i)) else []) (places n 0)
      ∙ any_places _ _ n 0 (λ i y z. go (holds a i) (undeclared (names st) (reads_of (R i)))
      ∙ ap (λ (b : Bool). holds a i && b) (mem_keep und x (reads_of (R i))))
    where
      go : (b : Bool) (k : List Text) → any (eq_t x) (if b then k else []) ≡ (b && any (eq_t x) k)
      go true k = refl
      go false k = refl

  listed : keep und (sorted_t l) ≡ sorted_t taken
  listed = unique (keep und (sorted_t l)) (sorted_t taken) (rising_keep und (rising_sorted l)) (rising_sorted taken)
      (λ x. mem_keep und x (sorted_t l) ∙ ap (λ (y : Bool). und x && y) (mem_sorted x l)
      ∙ sym (mem_sorted x taken ∙ mem_taken x ∙ some_strange x))

  found_few : length found ≤ 64
  unfolding undeclared
  found_few =
      omega (
        arith,
        ap length found_are,
        length_each (λ t. place_of t ts) (keep und (sorted_t l)),
        ap length listed,
        sorted_many taken,
        flat_fewer (holds a) (λ i. undeclared (names st) (reads_of (R i))) n 0,
        ap length (flat_each (λ r. undeclared (names st) (reads_of r)) R (places n 0)),
        ap (λ (x : List Automation). length (flat (λ r. undeclared (names st) (reads_of r)) x)) numbered,
        flat_long st ascends once few m.rules,
        few_strangers st ascends once few,
      )

  pub strays_are : names_m u a (length ts) ≡ packed_n (each (λ t. place_of t ts) (undeclared (names st) (sorted_t l)))
  strays_are = names_packed u a (length ts) found_few ∙ ap packed_n found_are
