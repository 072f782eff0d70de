-- The laws that the proofs of this crate's functions cite, of what the code does.
use Prim.Native.Nat.{ℕ, ◌+◌, ◌*◌, ◌/◌, ◌%◌, ◌≤◌, ◌<◌}
use mathlib.Core.Path.{◌≡◌, refl, ap, subst, ◌∙◌}
use mathlib.Core.List.{List}
use native.Mathlib.Omega.{arith}
use native.Mathlib.Nat.{mul-zero, mul-le-mul, mod-lt, div-lt_iff_lt-mul}
use lib.ListN.{length, get_or}
use Rattle.layout.specs.Sizes.{simulation_reasons, verdict_reasons}
use Rattle.bounds.specs.Bounds.{AtMost}
use Rattle.texts.specs.Texts.{Text, insert_t}
use Rattle.reasons.specs.Kinds as kinds
use Rattle.reasons.specs.Readable.{Readable}
use Rattle.reasons.specs.Lists.{listed, insert_all, Clean, Grows}
use Rattle.reasons.specs.Reasons.{render}
use Rattle.reasons.specs.declared.Reason.{Reason}
use Rattle.reasons.proofs.Listing as listing
use Rattle.engine_fields.specs.Fields.{four, cap, alone}
use Rattle.engine_fields.proofs.Readable.{alone_readable}
use Rattle.checker_collect.proofs.Laws.{all_many}
use Rattle.search_inputs.specs.declared.Alphabet.{Alphabet}
use Rattle.search_inputs.specs.declared.Gaps.{Gaps}
use Rattle.search_inputs.specs.declared.Placed.{Placed}
use Rattle.search_inputs.specs.Inputs.{last_m, Placing}
use Rattle.search_cases.specs.declared.Plan.{Plan}
use Rattle.search_cases.specs.Promises.{limit_m, Fitted, Gathers, next_at, Nexts}

pub limit_is : (f : List ℕ) (at k : ℕ) {p r : ℕ} → p ≡ cap at → r ≡ four f (p + k) → r ≡ limit_m f at k
unfolding limit_m
limit_is f at k e h = h ∙ ap (λ (p : ℕ). four f (p + k)) e

-- ---- reasons

-- room for m reasons more
pub merge_room : (f b : List ℕ) (m : ℕ) (a : List ℕ) (n : ℕ) → m * 5 ≤ length b → m + n ≤ 800 → length a ≡ 4000 →
    (m * 5 ≤ length b) × (length (insert_all (listed f m b) (listed f n a)) * 5 ≤ length a)
merge_room f b m a n h o l = (
  h,
  omega (
    arith,
    o,
    l,
    all_many (listed f m b) (listed f n a),
    listing.length_listed f m b,
    listing.length_listed f n a,
  ),
)

pub spent_reasons : (f w : List ℕ) {w' : List ℕ} {k n r : ℕ} {y : Reason} → AtMost k verdict_reasons n →
    y ≡ alone kinds.search_spent →
    Grows f (Readable f y) (insert_t (render f y) (listed f n w)) n w r w' → k ≤ verdict_reasons →
    Grows f (Unit {0}) (insert_t (render f (alone kinds.search_spent)) (listed f k w)) k w r w'
spent_reasons f w {w'} {k} {n} {r} a e h o =
    let g = subst (λ (z : Reason). Grows f (Readable f z) (insert_t (render f z) (listed f n w)) n w r w') e h in
    subst (λ (j : ℕ). Grows f (Unit {0}) (insert_t (render f (alone kinds.search_spent)) (listed f j w)) j w r w') (a.same o)
    (record {
      many = g.many;
      texts = g.texts;
      clean = λ u c. g.clean (alone_readable refl (record { known = omega arith; is = refl })) c;
    })

pub gathers_is : (f w : List ℕ) (n : ℕ) {un inc : ℕ} (us ws : List ℕ) {k many first j more r : ℕ} {w₁ w₂ : List ℕ} →
    AtMost n verdict_reasons k
    → AtMost un verdict_reasons many →
    Grows f (Clean f many us) (insert_all (listed f many us) (listed f k w)) k w first w₁ → AtMost first verdict_reasons j
    → AtMost inc 40 more →
    Grows f (Clean f more ws) (insert_all (listed f more ws) (listed f j w₁)) j w₁ r w₂ → Gathers f n un us inc ws w r w₂
gathers_is f w n {un} {inc} us ws {k} {many} {first} {j} {more} {r} {w₁} {w₂} ak am h aj ao g on om oo few =
    let h₁ : Grows f (Clean f un us) (insert_all (listed f un us) (listed f n w)) n w first w₁ =
    subst (λ (i : ℕ). Grows f (Clean f i us) (insert_all (listed f i us) (listed f n w)) n w first w₁) (am.same om)
    (subst (λ (i : ℕ). Grows f (Clean f many us) (insert_all (listed f many us) (listed f i w)) i w first w₁) (ak.same on)
    h) in
    let fj : j ≡ first = aj.same (omega (arith, h₁.many, few)) in
    let g₁ : Grows f (Clean f inc ws) (insert_all (listed f inc ws) (listed f first w₁)) first w₁ r w₂ =
    subst (λ (i : ℕ). Grows f (Clean f i ws) (insert_all (listed f i ws) (listed f first w₁)) first w₁ r w₂) (ao.same oo)
    (subst (λ (i : ℕ). Grows f (Clean f more ws) (insert_all (listed f more ws) (listed f i w₁)) i w₁ r w₂) fj g) in
    record {
      many = g₁.many ∙ ap (λ (l : List Text). length (insert_all (listed f inc ws) l)) h₁.texts;
      texts = g₁.texts ∙ ap (insert_all (listed f inc ws)) h₁.texts;
      clean = λ b c. g₁.clean b.1 (h₁.clean b.0 c);
    }

pub begins_reasons : (f w notes : List ℕ) {w' : List ℕ} {count n r : ℕ} → AtMost count simulation_reasons n →
    Grows f (Clean f n notes) (insert_all (listed f n notes) (listed f 0 w)) 0 w r w' → count ≤ simulation_reasons →
    Grows f (Clean f count notes) (insert_all (listed f count notes) (listed f 0 w)) 0 w r w'
begins_reasons f w notes {w'} {count} {n} {r} a h o =
    subst (λ (j : ℕ). Grows f (Clean f j notes) (insert_all (listed f j notes) (listed f 0 w)) 0 w r w') (a.same o) h

-- ---- pairs of a gap and an input

module _ (k g i : ℕ) (h : k < g * i) where
  pub some_inputs : 0 < i
  some_inputs = by i h
    where
      by : (i : ℕ) → k < g * i → 0 < i
      by Prim.Native.Nat.zero h = absurd (omega (arith, h, mul-zero g))
      by (Prim.Native.Nat.suc i) h = omega arith

  pub gap_below : k / i < g
  gap_below = (div-lt_iff_lt-mul {k = i} {x = k} {y = g} some_inputs).1 h

  pub input_below : k % i < i
  input_below = mod-lt k some_inputs

pub next_is : (gs : Gaps) (is : Alphabet) (placed : Placed) (k : ℕ) {last at : ℕ} {r : Placed} → last ≡ last_m placed →
    at ≡ cap (last + get_or gs.seconds (k / is.count) 0)
    → Placing placed at is (k % is.count) r → Nexts gs is placed k r
unfolding next_at
next_is gs is placed k {last} {at} {r} e a h =
    subst (λ (y : ℕ). Placing placed y is (k % is.count) r)
    (a ∙ ap (λ (y : ℕ). cap (y + get_or gs.seconds (k / is.count) 0)) e) h

-- at most 4 gaps and 12 inputs
pub few_pairs : (g i : ℕ) → g ≤ 4 → i ≤ 12 → g * i ≤ 48
few_pairs g i h k = mul-le-mul h k

pub fit_any : {p : Plan} {n m : ℕ} → Fitted p n → m ≡ n → Fitted p m
fit_any h e = record { inputs = h.inputs; gaps = h.gaps; cases = h.cases; area = e ∙ h.area }
