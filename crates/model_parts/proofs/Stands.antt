-- A section: it ends where its walk ends, and its positions are those of its parts.
use Rattle.std.specs.Prelude.{Some, None}
use mathlib.Core.Path.{◌≡◌, refl, sym, ap, ◌∙◌, subst}
use mathlib.Core.List.{List, [], ◌∷◌}
use Prim.Native.Nat.{ℕ, zero, suc, ◌+◌, ◌<◌}
use native.Mathlib.Omega.{arith}
use native.Mathlib.Decide.{dec_lt}
use lib.ListN.{length, get_or, length-set, length-replicate}
use lib.Seq.{get_or-set_same, get_or-set_other}
use Rattle.model_spec.specs.File.{Got, got, broken, Reader, ◌>>=◌, give, u16, times}
use Rattle.model_walk.specs.Walk.{Walked, capped, seen, Walk, and_then, ◌⨾◌, by, stay, times_m, counted_m}
use Rattle.model_walk.proofs.Refines.{Sees}
use Rattle.model_walk.proofs.Laws as walks
use Rattle.model_parts.specs.declared.Section.{Section}
use Rattle.model_parts.specs.Parts.{put, no_starts, fill, section_m}
use Rattle.model_parts.specs.Stand.{Reads, Stand}
use Rattle.model_parts.proofs.Laws as laws

-- ---- where it ends

-- one part more: by the case of its walk
module _ (left i c : ℕ) (k : Walk) (l s : List ℕ) (p n : ℕ) (P : Walked → Section → Type 0) where
  next_case : ((q m : ℕ) → P (Some (q, m)) (fill left (i + 1) c k (put i p l) s q m)) →
      P None (record { count = c; starts = put i p l; end = None }) →
      P (k s p n) (fill (suc left) i c k l s p n)
  unfolding fill
  next_case f g = cases (k s p n)
    where
      cases : (x : Walked) →
          P x (elim x [
            | Some (q, m) ↦ fill left (i + 1) c k (put i p l) s q m
            | None ↦
                record { count = c; starts = put i p l; end = None }
          ])
      cases (Some (q, m)) = f q m
      cases None = g

module _ (k : Walk) (s : List ℕ) where
  fill_ends : (left i c : ℕ) (l : List ℕ) (p n : ℕ) → (fill left i c k l s p n).end ≡ times_m left k s p n
  unfolding fill times_m stay ◌⨾◌ and_then
  fill_ends zero i c l p n = refl
  fill_ends (suc left) i c l p n = next_case left i c k l s p n (λ x y. y.end ≡ and_then x (times_m left k s))
      (λ q m. fill_ends left (i + 1) c (put i p l) q m) refl

  fill_counts : (left i c : ℕ) (l : List ℕ) (p n : ℕ) → (fill left i c k l s p n).count ≡ c
  unfolding fill
  fill_counts zero i c l p n = refl
  fill_counts (suc left) i c l p n = next_case left i c k l s p n (λ x y. y.count ≡ c)
      (λ q m. fill_counts left (i + 1) c (put i p l) q m) refl

  pub section_ends : (p n : ℕ) → (section_m k s p n).end ≡ counted_m k s p n
  unfolding section_m by
  section_ends p n = cases (u16 s p)
    where
      section : Got ℕ → Section
      section (got c q) = fill c 0 c k no_starts s q n
      section broken = record { count = 0; starts = no_starts; end = None }

      cases : (x : Got ℕ) → (section x).end ≡ elim x [ got c q ↦ times_m c k s q n | broken ↦ None ]
      cases (got c q) = fill_ends c 0 c no_starts q n
      cases broken = refl

  pub section_counts : (p n : ℕ) {c q : ℕ} → u16 s p ≡ got c q → (section_m k s p n).count ≡ c
  unfolding section_m
  section_counts p n {c} {q} e = rw (e, section_m) (fill_counts c 0 c no_starts q n)

-- ---- its positions

put_length : (i p : ℕ) (l : List ℕ) → length (put i p l) ≡ length l
put_length i p l = elim (dec_lt i 100) [
  | yes h ↦ ap length (laws.put_in i p l h) ∙ length-set l i p
  | no h ↦ ap length (laws.put_out i p l (omega arith))
]

put_other : (i p : ℕ) (l : List ℕ) (j : ℕ) → j < i → get_or (put i p l) j 0 ≡ get_or l j 0
put_other i p l j g = elim (dec_lt i 100) [
  | yes h ↦ ap (λ (x : List ℕ). get_or x j 0) (laws.put_in i p l h) ∙ get_or-set_other l i j p 0 (λ e. absurd (omega arith))
  | no h ↦ ap (λ (x : List ℕ). get_or x j 0) (laws.put_out i p l (omega arith))
]

put_same : (i p : ℕ) (l : List ℕ) → i < 100 → length l ≡ 100 → get_or (put i p l) i 0 ≡ p
put_same i p l h e = ap (λ (x : List ℕ). get_or x i 0) (laws.put_in i p l h) ∙ get_or-set_same l i p 0 (omega arith)

-- positions before the i-th stay
stays : (left i c : ℕ) (k : Walk) (l s : List ℕ) (p n j : ℕ) → j < i →
    get_or (fill left i c k l s p n).starts j 0 ≡ get_or l j 0
unfolding fill
stays zero i c k l s p n j h = refl
stays (suc left) i c k l s p n j h =
    next_case left i c k l s p n (λ x y. get_or y.starts j 0 ≡ get_or l j 0)
    (λ q m. stays left (i + 1) c k (put i p l) s q m j (omega arith) ∙ put_other i p l j h)
    (put_other i p l j h)

first_at : (left i c : ℕ) (k : Walk) (l s : List ℕ) (p n : ℕ) → i < 100 → length l ≡ 100 →
    get_or (fill (suc left) i c k l s p n).starts i 0 ≡ p
first_at left i c k l s p n h o =
    next_case left i c k l s p n (λ x y. get_or y.starts i 0 ≡ p)
    (λ q m. stays left (i + 1) c k (put i p l) s q m i (omega arith) ∙ put_same i p l h o)
    (put_same i p l h o)

fill_to : (left i c : ℕ) (k : Walk) (l s : List ℕ) (p n : ℕ) {q m : ℕ} → k s p n ≡ Some (q, m) →
    fill (suc left) i c k l s p n ≡ fill left (i + 1) c k (put i p l) s q m
unfolding fill
fill_to left i c k l s p n e = rw (e, fill)

module _ {A : Type 0} (r : Reader A) (s : List ℕ) where
  -- one value more: the first, and the others
  pub record More (i p next : ℕ) (xs : List A) : Type 0 where
    pub first : A
    pub others : List A
    pub after : ℕ
    pub is_first : r s p ≡ got first after
    pub are_others : times i r s after ≡ got others next
    pub both : xs ≡ first ∷ others

  pub more : (i p : ℕ) {xs : List A} {next : ℕ} → times (suc i) r s p ≡ got xs next → More i p next xs
  unfolding times ◌>>=◌ give
  more i p {xs} {next} e = split (r s p) refl
    where
      split₂ : (x : A) (q : ℕ) → r s p ≡ got x q → (g : Got (List A)) → times i r s q ≡ g →
          (elim g [ got ys o ↦ got (x ∷ ys) o | broken ↦ broken ]) ≡ got xs next → More i p next xs
      split₂ x q a (got ys o) b h = record {
        first = x;
        others = ys;
        after = q;
        is_first = a;
        are_others = b ∙ cc;
        both =
            cc;
      }
      split₂ x q a broken b h = let z : ◌≡◌ {A = ℕ} 0 1 = cc in absurd (omega arith)

      split : (g : Got A) → r s p ≡ g → More i p next xs
      split (got x q) a = split₂ x q a (times i r s q) refl
          (sym (walks.bind_got r (λ x. times i r >>= λ ys. give (x ∷ ys)) a) ∙ e)
      split broken a = let z : ◌≡◌ {A = ℕ} 0 1 = cc (walks.bind_broken r (λ x. times i r >>= λ ys. give (x ∷ ys)) a) in
          absurd (omega arith)

module _ {A : Type 0} (w : A → ℕ) (r : Reader A) (k : Walk) (e : Sees w r k) (s : List ℕ) (d : A) where
  walks_on : (p n : ℕ) {x : A} {q : ℕ} → r s p ≡ got x q → k s p (capped n) ≡ Some (q, capped (n + w x))
  unfolding seen
  walks_on p n f = e n s p ∙ ap (seen w n) f

  none_read : (p : ℕ) (xs : List A) (next : ℕ) → times 0 r s p ≡ got xs next → length xs ≡ 0
  unfolding times give
  none_read p xs next h = let z : xs ≡ [] = cc in ap length z

  stands : (left i c : ℕ) (l : List ℕ) → length l ≡ 100 → (p n : ℕ) (xs : List A) (next : ℕ) →
      times left r s p ≡ got xs next →
      (j : ℕ) → i + j < 100 → j < length xs → Reads r s (get_or (fill left i c k l s p (capped n)).starts (i + j) 0)
      (get_or xs j d)
  stands zero i c l o p n xs next h j a b = absurd (omega (arith, none_read p xs next h))
  stands (suc left) i c l o p n xs next h zero a b =
      let m = more r s left p h in
      let z : i + 0 ≡ i = omega arith in (
        m.after,
        ap (λ (x : ℕ). r s (get_or (fill (suc left) i c k l s p (capped n)).starts x 0)) z
            ∙ ap (r s) (first_at left i c k l s p (capped n) (omega arith) o) ∙ m.is_first
            ∙ ap (λ (y : List A). got (get_or y 0 d) m.after) (sym m.both),
      )
  stands (suc left) i c l o p n xs next h (suc j) a b =
      let m = more r s left p h in
      let f = fill_to left i c k l s p (capped n) (walks_on p n m.is_first) in
      let z : i + suc j ≡ i + 1 + j = omega arith in
      let u : length xs ≡ suc (length m.others) = ap length m.both in
      let ih = stands left (i + 1) c (put i p l) (put_length i p l ∙ o) m.after (n + w m.first) m.others next
      m.are_others j (omega arith) (omega arith) in (
        ih.0,
        ap (λ (y : Section). r s (get_or y.starts (i + suc j) 0)) f
            ∙ ap (λ (x : ℕ). r s (get_or (fill left (i + 1) c k (put i p l) s m.after (capped (n + w m.first))).starts
            x 0)) z ∙ ih.1 ∙ ap (λ (y : List A). got (get_or y (suc j) d) ih.0) (sym m.both),
      )

-- a section's positions are those of its parts
module _ {A : Type 0} (w : A → ℕ) (r : Reader A) (k : Walk) (e : Sees w r k) (s : List ℕ) where
  pub section_stands : (p n : ℕ) {c q : ℕ} → u16 s p ≡ got c q → (xs : List A) (next : ℕ) → times c r s q ≡ got xs next →
      Stand r s (section_m k s p (capped n)).starts xs
  unfolding section_m
  section_stands p n {c} {q} f xs next h d j a b =
      let g = stands w r k e s d c 0 c no_starts (length-replicate {A = ℕ} 100 0) q n xs next h j (omega arith) b in
      let z : 0 + j ≡ j = omega arith in
      rw (f, section_m) (subst (λ (x : ℕ). Reads r s (get_or (fill c 0 c k no_starts s q (capped n)).starts x 0) (get_or xs j d))
      z g)
