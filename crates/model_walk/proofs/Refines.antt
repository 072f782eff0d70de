-- Each walk ends where the reader of `File` ends, with the notes of what the reader found.
use Rattle.std.specs.Prelude.{Some, None, if◌then◌else◌}
use mathlib.Core.Path.{◌≡◌, refl, sym, ap, ◌∙◌}
use mathlib.Core.List.{List, [], ◌∷◌, ◌++◌}
use mathlib.Core.Bool.{Bool, true, false}
use mathlib.Core.Option.{none, some}
use Prim.Native.Nat.{ℕ, zero, suc, ◌+◌, ◌<◌}
use native.Mathlib.Omega.{arith}
use native.Mathlib.Decide.{dec_lt}
use lib.ListN.{length, get_or, length-append}
use lib.Dec.{ltb, eqb}
use borrow.Author.Tests.{lt-ltb, le-ltb, ne_eqb}
use Rattle.texts.specs.Lists.{listed, flat}
use Rattle.texts.specs.Texts.{Text}
use Rattle.model_spec.specs.Model.{
  Source,
  observational,
  comfort,
  property,
  access_safety,
  single,
  queued,
  parallel,
  Predicate,
  state,
  window,
  Trigger,
  Mode,
  Effect,
  toggle,
  delay,
  condition,
  choose,
  wait,
  Actions,
  done,
  act,
  Branches,
  no_branch,
  branch,
}
use Rattle.model_spec.specs.Notes.{of_predicate, of_trigger, of_effect, of_actions, of_branches}
use Rattle.model_spec.specs.File.{
  Got,
  got,
  broken,
  Reader,
  ◌>>=◌,
  give,
  refuse,
  require,
  u8,
  u16,
  u32,
  times,
  counted,
  kinds,
  flag,
  or_zeros,
  source,
  tier,
  mode,
  place,
  place?,
  predicate,
  trigger,
  branches,
  effect,
  actions_of,
  actions,
}
use Rattle.model_walk.specs.Walk.{
  capped,
  seen,
  Walk,
  and_then,
  ◌⨾◌,
  by,
  stop,
  stay,
  noted,
  staying,
  bytes_m,
  or_zeros_m,
  times_m,
  counted_m,
  kind_m,
  place_m,
  place?M,
  note?M,
  note_m,
  predicate_m,
  trigger_m,
  piece_m,
  simple_m,
  branch_m,
  choice_m,
  action_m,
  actions_m,
}
use Rattle.model_walk.proofs.Laws as laws

-- the walk k, with m notes so far, ends where the reader r ends; w counts the notes of what r finds, and n stood before
abbrev pub Runs : {A : Type 0} → (A → ℕ) → ℕ → Reader A → ℕ → Walk → Type 0
Runs w n r m k = (s : List ℕ) (p : ℕ) → k s p (capped m) ≡ seen w n (r s p)

abbrev pub Sees : {A : Type 0} → (A → ℕ) → Reader A → Walk → Type 0
Sees w r k = (n : ℕ) → Runs w n r n k

-- ---- the ways to put readers together

module _ {B : Type 0} (w : B → ℕ) (n m : ℕ) where
  module _ {A : Type 0} (v : A → ℕ) (r : Reader A) (k : Walk) (e : Sees v r k) where
    pub bind : (f : A → Reader B) (l : Walk) → ((a : A) → Runs w n (f a) (m + v a) l) → Runs w n (r >>= f) m (k ⨾ l)
    unfolding ◌>>=◌ ◌⨾◌ and_then seen
    bind f l h s p = ap (λ x. and_then x (l s)) (e m s p) ∙ cases (r s p)
      where
        cases : (g : Got A) → and_then (seen v m g) (l s) ≡ seen w n (elim g [ got a q ↦ f a s q | broken ↦ broken ])
        cases (got a q) = h a s q
        cases broken = refl

    -- the last part
    pub last : (f : A → B) → ((a : A) → m + v a ≡ n + w (f a)) → Runs w n (r >>= λ a. give (f a)) m k
    unfolding ◌>>=◌ give seen
    last f h s p = e m s p ∙ cases (r s p)
      where
        cases : (g : Got A) → seen v m g ≡ seen w n (elim g [ got a q ↦ got (f a) q | broken ↦ broken ])
        cases (got a q) = ap (λ x. Some (q, capped x)) (h a)
        cases broken = refl

  -- a number that decides
  pub choice : (r : Reader ℕ) (f : ℕ → Reader B) (g : ℕ → Walk) → ((x : ℕ) → Runs w n (f x) m (g x)) →
      Runs w n (r >>= f) m (by r g)
  unfolding ◌>>=◌ by seen
  choice r f g h s p = cases (r s p)
    where
      cases : (x : Got ℕ) → elim x [ got a q ↦ g a s q (capped m) | broken ↦ None ]
          ≡ seen w n (elim x [ got a q ↦ f a s q | broken ↦ broken ])
      cases (got a q) = h a s q
      cases broken = refl

  pub gives : (b : B) → m ≡ n + w b → Runs w n (give b) m stay
  unfolding give stay seen
  gives b h s p = ap (λ x. Some (p, capped x)) h

  pub refuses : Runs w n refuse m stop
  unfolding refuse stop seen
  refuses s p = refl

  pub requires : (c : Bool) (b : B) → m ≡ n + w b → Runs w n (require c b) m (staying c)
  unfolding require staying stay stop seen
  requires true b h s p = ap (λ x. Some (p, capped x)) h
  requires false b h s p = refl

  capped_more : (x : ℕ) → capped (capped x + 1) ≡ capped (x + 1)
  unfolding capped
  capped_more x = elim (dec_lt 64 x) [
    | yes h ↦ rw (lt-ltb 64 x h, lt-ltb 64 (x + 1) (omega arith))
    | no h ↦ rw (le-ltb 64 x (omega arith))
  ]

  pub notes : (b : B) → m + 1 ≡ n + w b → Runs w n (give b) m noted
  unfolding give noted seen
  notes b h s p = ap (λ (x : ℕ). Some (p, x)) (capped_more m ∙ ap capped h)

-- no notes
abbrev pub quiet : {A : Type 0} → A → ℕ
quiet a = 0

-- ---- numbers

pub sees_u32 : Sees quiet u32 (bytes_m 4)
unfolding seen
sees_u32 n s p = elim (dec_lt (length s) (p + 4)) [
  | yes h ↦ rw (laws.bytes_out s p (capped n) 4 h, laws.u32_out s p h)
  | no h ↦ rw (laws.bytes_in s p (capped n) 4 (omega arith), laws.u32_in s p (omega arith))
      (ap (λ x. Some (p + 4, capped x)) (omega arith))
]

pub sees_u8 : Sees quiet u8 (bytes_m 1)
unfolding seen
sees_u8 n s p = elim (dec_lt (length s) (p + 1)) [
  | yes h ↦ rw (laws.bytes_out s p (capped n) 1 h, laws.u8_out s p (omega arith))
  | no h ↦ rw (laws.bytes_in s p (capped n) 1 (omega arith), laws.u8_in s p (omega arith))
      (ap (λ x. Some (p + 1, capped x)) (omega arith))
]

-- bytes side by side
pub bytes_sum : (a b : ℕ) (s : List ℕ) (p n : ℕ) → bytes_m (a + b) s p n ≡ (bytes_m a ⨾ bytes_m b) s p n
unfolding ◌⨾◌ and_then
bytes_sum a b s p n = elim (dec_lt (length s) (p + a)) [
  | yes h ↦ rw (laws.bytes_out s p n a h) (laws.bytes_out s p n (a + b) (omega arith))
  | no h ↦ rw (laws.bytes_in s p n a (omega arith)) (elim (dec_lt (length s) (p + a + b)) [
    | yes i ↦ laws.bytes_out s p n (a + b) (omega arith) ∙ sym (laws.bytes_out s (p + a) n b i)
    | no i ↦ laws.bytes_in s p n (a + b) (omega arith) ∙ ap (λ x. Some (x, n)) (omega arith)
        ∙ sym (laws.bytes_in s (p + a) n b (omega arith))
  ])
]

pub sees_source : Sees quiet source (bytes_m 8)
unfolding source
sees_source n s p = bytes_sum 4 4 s p (capped n) ∙ bind quiet n n quiet u32 (bytes_m 4) sees_u32 _ _
    (λ l. last quiet n (n + 0) quiet u32 (bytes_m 4) sees_u32 _ (λ c. omega arith)) s p

-- a group of fields that the file may end before, and of which zeros hold no note
pub sees_zeros : {A : Type 0} (w : A → ℕ) (z : A) (r : Reader A) (k : Walk) → w z ≡ 0 → Sees w r k
    → Sees w (or_zeros z r) (or_zeros_m k)
unfolding or_zeros or_zeros_m seen
sees_zeros w z r k h e n s p = cases (ltb p (length s))
  where
    cases : (b : Bool) → (if b then k s p (capped n) else Some (p, capped n)) ≡ seen w n (if b then r s p else got z p)
    cases true = e n s p
    cases false = ap (λ x. Some (p, capped x)) (omega (arith, h))

-- ---- lists

module _ {A : Type 0} (w : A → ℕ) (v : List A → ℕ) (z : v [] ≡ 0) (c : (x : A) (l : List A) → v (x ∷ l) ≡ w x + v l)
    (r : Reader A) (k : Walk) (e : Sees w r k) where
  pub sees_times : (i : ℕ) → Sees v (times i r) (times_m i k)
  unfolding times times_m
  sees_times zero n = gives v n n [] (omega (arith, z))
  sees_times (suc i) n =
      bind v n n w r k e _ _ (λ x. last v n (n + w x) v (times i r) (times_m i k) (sees_times i) _
      (λ l. omega (arith, c x l)))

  pub sees_counted : Sees v (counted r) (counted_m k)
  unfolding counted
  sees_counted n = choice v n n u16 _ _ (λ i. sees_times i n)

-- ---- kinds that hold nothing

pub sees_flag : Sees quiet flag (kind_m 2)
unfolding flag kinds staying
sees_flag n = choice quiet n n u8 _ _ cases
  where
    cases : (k : ℕ) → Runs quiet n (get_or (give false ∷ give true ∷ []) k refuse) n (staying (ltb k 2))
    cases zero = gives quiet n n false (omega arith)
    cases (suc zero) = gives quiet n n true (omega arith)
    cases (suc (suc k)) = rw (le-ltb (suc (suc k)) 2 (omega arith)) (refuses quiet n n)

pub sees_tier : Sees quiet tier (kind_m 4)
unfolding tier kinds staying
sees_tier n = choice quiet n n u8 _ _ cases
  where
    cases : (k : ℕ) →
        Runs quiet n (get_or (give observational ∷ give comfort ∷ give property ∷ give access_safety ∷ []) k refuse) n
        (staying (ltb k 4))
    cases zero = gives quiet n n _ (omega arith)
    cases (suc zero) = gives quiet n n _ (omega arith)
    cases (suc (suc zero)) = gives quiet n n _ (omega arith)
    cases (suc (suc (suc zero))) = gives quiet n n _ (omega arith)
    cases (suc (suc (suc (suc k)))) = rw (le-ltb (suc (suc (suc (suc k)))) 4 (omega arith)) (refuses quiet n n)

pub sees_mode : Sees quiet mode (kind_m 4)
unfolding mode kinds staying
sees_mode n = choice quiet n n u8 _ _ cases
  where
    cases : (k : ℕ) → Runs quiet n (get_or (give single ∷ give Mode.restart ∷ give queued ∷ give parallel ∷ []) k refuse) n
        (staying (ltb k 4))
    cases zero = gives quiet n n _ (omega arith)
    cases (suc zero) = gives quiet n n _ (omega arith)
    cases (suc (suc zero)) = gives quiet n n _ (omega arith)
    cases (suc (suc (suc zero))) = gives quiet n n _ (omega arith)
    cases (suc (suc (suc (suc k)))) = rw (le-ltb (suc (suc (suc (suc k)))) 4 (omega arith)) (refuses quiet n n)

pub above : (k a : ℕ) → a < k → eqb k a ≡ false
above k a h = ne_eqb k a (λ e. omega arith)

-- how many notes stand in a value
abbrev pub marks : {A : Type 0} → (A → List Text) → A → ℕ
marks of a = length (of a)

-- ---- parts that name texts
module _ (ts : List Text) where
  pub sees_place : Sees quiet (place ts) (place_m (length ts))
  unfolding place
  sees_place n = choice quiet n n u16 _ _ (λ x. requires quiet n n _ _ (omega arith))

  pub sees_place? : Sees quiet (place? ts) (place?M (length ts))
  unfolding place?
  sees_place? n = choice quiet n n u16 _ _ (λ x. cases x (eqb x 65535))
    where
      cases : (x : ℕ) (b : Bool) → Runs quiet n (if b then give none else require (ltb x (length ts)) (some (get_or ts x [])))
          n (if b then stay else staying (ltb x (length ts)))
      cases x true = gives quiet n n _ (omega arith)
      cases x false = requires quiet n n _ _ (omega arith)

  pub sees_note? : Sees (marks listed) (place? ts) (note?M (length ts))
  unfolding place? listed require refuse give
  sees_note? n = choice (marks listed) n n u16 _ _ (λ x. cases x (eqb x 65535))
    where
      inner : (x : ℕ) (b : Bool) → Runs (marks listed) n (require b (some (get_or ts x []))) n (if b then noted else stop)
      inner x true = notes (marks listed) n n (some (get_or ts x [])) (omega arith)
      inner x false = refuses (marks listed) n n

      cases : (x : ℕ) (b : Bool) → Runs (marks listed) n
          (if b then give none else require (ltb x (length ts)) (some (get_or ts x []))) n
          (if b then stay else if ltb x (length ts) then noted else stop)
      cases x true = gives (marks listed) n n none (omega arith)
      cases x false = inner x (ltb x (length ts))

  -- a place whose value is a note
  pub note_of_lem : {B : Type 0} (w : B → ℕ) (n m : ℕ) (f : Text → B) → ((t : Text) → m + 1 ≡ n + w (f t)) →
      Runs w n (place ts >>= λ t. give (f t)) m (note_m (length ts))
  note_of_lem w n m f h = bind w n m quiet (place ts) (place_m (length ts)) sees_place _ _
      (λ t. notes w n (m + 0) (f t) (omega (arith, h t)))

  pub two_places : {B : Type 0} (w : B → ℕ) (n m : ℕ) (f : Text → Text → B) → ((t u : Text) → m ≡ n + w (f t u)) →
      Runs w n (place ts >>= λ t. place ts >>= λ u. give (f t u)) m (place_m (length ts) ⨾ place_m (length ts))
  two_places w n m f h = bind w n m quiet (place ts) (place_m (length ts)) sees_place _ _
      (λ t. last w n (m + 0) quiet (place ts) (place_m (length ts)) sees_place (f t) (λ u. omega (arith, h t u)))

  -- a window's days, start and end
  window_of : (n : ℕ) → Runs (marks of_predicate) n (u8 >>= λ d. u32 >>= λ b. u32 >>= λ e. give (window d b e)) n (bytes_m 9)
  unfolding of_predicate
  window_of n s p =
      bytes_sum 1 8 s p (capped n)
      ∙ bind w n n quiet u8 (bytes_m 1) sees_u8 _ (bytes_m 8)
      (λ d s p. bytes_sum 4 4 s p (capped (n + 0))
      ∙ bind w n (n + 0) quiet u32 (bytes_m 4) sees_u32 _ (bytes_m 4)
      (λ b. last w n (n + 0 + 0) quiet u32 (bytes_m 4) sees_u32 (window d b) (λ e. omega arith)) s p) s p
    where
      w : Predicate → ℕ
      w = marks of_predicate

  pub sees_predicate : Sees (marks of_predicate) (predicate ts) (predicate_m (length ts))
  unfolding predicate kinds predicate_m of_predicate
  sees_predicate n = choice (marks of_predicate) n n u8 _ _ cases
    where
      cases : (k : ℕ) → Runs (marks of_predicate) n (get_or ((place ts >>= λ e. place ts >>= λ v. give (state e v))
          ∷ (place ts >>= λ r. give (Predicate.unknown r))
          ∷ (u8 >>= λ d. u32 >>= λ b. u32 >>= λ e. give (window d b e))
          ∷ []) k refuse) n (if eqb k 0 then place_m (length ts) ⨾ place_m (length ts) else if eqb k 1 then note_m (length ts)
          else if eqb k 2 then bytes_m 9 else stop)
      cases zero = two_places (marks of_predicate) n n state (λ t u. omega arith)
      cases (suc zero) = note_of_lem (marks of_predicate) n n Predicate.unknown (λ t. omega arith)
      cases (suc (suc zero)) = window_of n
      cases (suc (suc (suc k))) =
          rw (
            above (suc (suc (suc k))) 0 (omega arith),
            above (suc (suc (suc k))) 1 (omega arith),
            above (suc (suc (suc k))) 2 (omega arith),
          ) (refuses (marks of_predicate) n n)

  pub sees_trigger : Sees (marks of_trigger) (trigger ts) (trigger_m (length ts))
  unfolding trigger trigger_m of_trigger
  sees_trigger n =
      bind w n n quiet (place ts) (place_m c) sees_place _ _ λ e.
      bind w n (n + 0) quiet (place? ts) (place?M c) sees_place? _ _ λ f.
      bind w n (n + 0 + 0) quiet (place? ts) (place?M c) sees_place? _ _ λ t.
      bind w n (n + 0 + 0 + 0) quiet source (bytes_m 8) sees_source _ _ λ s.
      last w n (n + 0 + 0 + 0 + 0) (marks listed) (place? ts) (note?M c) sees_note? _ (λ o. omega arith)
    where
      w : Trigger → ℕ
      w = marks of_trigger

      c : ℕ
      c = length ts

  -- ---- actions

  -- conditions: their notes
  flat_nil : length (flat of_predicate []) ≡ 0
  unfolding flat
  flat_nil = refl

  flat_more : (x : Predicate) (l : List Predicate) →
      length (flat of_predicate (x ∷ l)) ≡ length (of_predicate x) + length (flat of_predicate l)
  unfolding flat
  flat_more x l = length-append (of_predicate x) (flat of_predicate l)

  pub sees_conditions : Sees (marks (flat of_predicate)) (counted (predicate ts)) (counted_m (predicate_m (length ts)))
  sees_conditions = sees_counted (marks of_predicate) (marks (flat of_predicate)) flat_nil flat_more (predicate ts)
      (predicate_m (length ts)) sees_predicate

  -- the notes of what holds lists
  in_branch : (ps : List Predicate) (l : Actions) (bs : Branches) →
      length (of_branches (branch ps l bs)) ≡ length (flat of_predicate ps) + length (of_actions l) + length (of_branches bs)
  unfolding of_effect
  in_branch ps l bs =
      let e : length (of_branches (branch ps l bs)) ≡ length (flat of_predicate ps ++ of_actions l) + length
      (of_branches bs) = length-append (flat of_predicate ps ++ of_actions l) (of_branches bs) in
      omega (arith, e, length-append (flat of_predicate ps) (of_actions l))

  in_choose : (bs : Branches) (l : Actions) → length (of_effect (choose bs l))
      ≡ length (of_branches bs) + length (of_actions l)
  unfolding of_effect
  in_choose bs l = length-append (of_branches bs) (of_actions l)

  in_act : (s : Source) (f : Effect) (l : Actions) →
      length (of_actions (act s f l)) ≡ length (of_effect f) + length (of_actions l)
  unfolding of_effect
  in_act s f l = length-append (of_effect f) (of_actions l)

  -- a list of lists' reader, and its walk
  module _ (r : Reader Actions) (k : Walk) (inner : Sees (marks of_actions) r k) where
    sees_branches : (i : ℕ) → Sees (marks of_branches) (branches ts r i) (times_m i (branch_m (length ts) k))
    unfolding branches times_m of_branches piece_m
    sees_branches zero n s p = gives (marks of_branches) n n no_branch (omega arith) s p
    sees_branches (suc i) n s p =
        laws.assoc s p (capped n) (counted_m (predicate_m (length ts))) k (times_m i (branch_m (length ts) k))
        ∙ (bind w n n (marks (flat of_predicate)) (counted (predicate ts)) (counted_m (predicate_m (length ts)))
        sees_conditions _ _ λ ps.
        bind w n (n + length (flat of_predicate ps)) (marks of_actions) r k inner _ _ λ as'.
        last w n (n + length (flat of_predicate ps) + length (of_actions as')) w (branches ts r i)
        (times_m i (branch_m (length ts) k)) (sees_branches i) _ (λ bs. omega (arith, in_branch ps as' bs))) s p
      where
        w : Branches → ℕ
        w = marks of_branches

    sees_choose : (n m : ℕ) → m ≡ n → Runs (marks of_effect) n
        (u16 >>= λ i. branches ts r i >>= λ bs. r >>= λ d. give (choose bs d)) m (choice_m (length ts) k)
    unfolding of_effect
    sees_choose n m e =
        choice w n m u16 _ _ λ i.
        bind w n m (marks of_branches) (branches ts r i) (times_m i (branch_m (length ts) k)) (sees_branches i) _ _ λ bs.
        last w n (m + length (of_branches bs)) (marks of_actions) r k inner _ (λ d. omega (arith, e, in_choose bs d))
      where
        w : Effect → ℕ
        w = marks of_effect

    sees_wait : (n : ℕ) → Runs (marks of_effect) n (trigger ts >>= λ t. u32 >>= λ i. flag >>= λ c. give (wait t i c)) n
        (trigger_m (length ts) ⨾ bytes_m 4 ⨾ kind_m 2)
    unfolding of_effect
    sees_wait n =
        bind w n n (marks of_trigger) (trigger ts) (trigger_m (length ts)) sees_trigger _ _ λ t.
        bind w n (n + length (of_trigger t)) quiet u32 (bytes_m 4) sees_u32 _ _ λ i.
        last w n (n + length (of_trigger t) + 0) quiet flag (kind_m 2) sees_flag _ (λ c. omega arith)
      where
        w : Effect → ℕ
        w = marks of_effect

    pub sees_effect : Sees (marks of_effect) (effect ts r)
        (by u8 (λ x. if eqb x 4 then choice_m (length ts) k else simple_m (length ts) x))
    unfolding effect kinds simple_m of_effect
    sees_effect n = choice w n n u8 _ _ cases
      where
        w : Effect → ℕ
        w = marks of_effect

        table : List (Reader Effect)
        table =
            (place ts >>= λ e. place ts >>= λ v. give (Effect.set e v))
            ∷ (place ts >>= λ e. give (toggle e))
            ∷ (u32 >>= λ i. give (delay i))
            ∷ (predicate ts >>= λ p. give (condition p))
            ∷ (u16 >>= λ i. branches ts r i >>= λ bs. r >>= λ d. give (choose bs d))
            ∷ (trigger ts >>= λ t. u32 >>= λ i. flag >>= λ c. give (wait t i c))
            ∷ (place ts >>= λ e. give (Effect.unknown e))
            ∷ []

        cases : (x : ℕ) → Runs w n (get_or table x refuse) n (if eqb x 4 then choice_m (length ts) k else simple_m (length ts) x)
        cases zero = two_places w n n Effect.set (λ t u. omega arith)
        cases (suc zero) = last w n n quiet (place ts) (place_m (length ts)) sees_place toggle (λ t. omega arith)
        cases (suc (suc zero)) = last w n n quiet u32 (bytes_m 4) sees_u32 delay (λ t. omega arith)
        cases (suc (suc (suc zero))) = last w n n (marks of_predicate) (predicate ts) (predicate_m (length ts))
            sees_predicate condition (λ p. omega arith)
        cases (suc (suc (suc (suc zero)))) = sees_choose n n refl
        cases (suc (suc (suc (suc (suc zero))))) = sees_wait n
        cases (suc (suc (suc (suc (suc (suc zero)))))) = note_of_lem w n n Effect.unknown (λ t. omega arith)
        cases (suc (suc (suc (suc (suc (suc (suc x))))))) =
            rw (
              above (suc (suc (suc (suc (suc (suc (suc x))))))) 0 (omega arith),
              above (suc (suc (suc (suc (suc (suc (suc x))))))) 1 (omega arith),
              above (suc (suc (suc (suc (suc (suc (suc x))))))) 2 (omega arith),
              above (suc (suc (suc (suc (suc (suc (suc x))))))) 3 (omega arith),
              above (suc (suc (suc (suc (suc (suc (suc x))))))) 4 (omega arith),
              above (suc (suc (suc (suc (suc (suc (suc x))))))) 5 (omega arith),
              above (suc (suc (suc (suc (suc (suc (suc x))))))) 6 (omega arith),
            ) (refuses w n n)

    pub sees_list : (i : ℕ) → Sees (marks of_actions) (actions_of ts r i) (times_m i (action_m (length ts) k))
    unfolding actions_of times_m of_actions
    sees_list zero n s p = gives (marks of_actions) n n done (omega arith) s p
    sees_list (suc i) n s p =
        laws.assoc s p (capped n) (bytes_m 8) _ (times_m i (action_m (length ts) k))
        ∙ (bind w n n quiet source (bytes_m 8) sees_source _ _ λ src.
        bind w n (n + 0) (marks of_effect) (effect ts r) _ sees_effect _ _ λ f.
        last w n (n + 0 + length (of_effect f)) w (actions_of ts r i) (times_m i (action_m (length ts) k)) (sees_list i) _
        (λ l. omega (arith, in_act src f l))) s p
      where
        w : Actions → ℕ
        w = marks of_actions

  pub sees_actions : (left : ℕ) → Sees (marks of_actions) (actions ts left) (actions_m (length ts) left)
  unfolding actions actions_m
  sees_actions zero n = refuses (marks of_actions) n n
  sees_actions (suc left) n = choice (marks of_actions) n n u16 _ _
      (λ i. sees_list (actions ts left) (actions_m (length ts) left) (sees_actions left) i n)
