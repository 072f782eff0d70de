-- What an accepted file gives for a search: few inputs, few and short gaps, a depth of at most 5, at most 2,000 cases.
use Prim.Native.Nat.{ℕ, zero, suc, ◌≤◌, ◌<◌}
use mathlib.Core.Path.{◌≡◌}
use mathlib.Core.Bool.{Bool, false, ◌||◌}
use mathlib.Core.List.{List, [], ◌∷◌}
use native.Mathlib.Omega.{arith}
use lib.Dec.{ltb, eqb}
use lib.ListN.{length, get_or}
use borrow.Author.Tests.{ltb-false}
use Rattle.texts.specs.Lists.{is_empty, any}
use Rattle.model_spec.specs.Answer.{answer}
use Rattle.model_spec.specs.Model.{Model}
use Rattle.model_spec.specs.Validate.{day, bad_limits, bad_alphabet, accepted}
use Rattle.engine_spec.proofs.Lists.{or_no}
use Rattle.engine_spec.proofs.Validated.{or_no', accepted_passed}

pub record Searchable (m : Model) : Type 0 where
  pub few_inputs : length m.scenario.alphabet ≤ 12
  pub few_gaps : length m.scenario.gaps ≤ 4
  pub short : (k : ℕ) → k < length m.scenario.gaps → get_or m.scenario.gaps k 0 ≤ 86400
  pub depth : m.scenario.limits.search_depth ≤ 5
  pub cases : m.scenario.limits.max_cases ≤ 2000

all_short : (l : List ℕ) → any (ltb day) l ≡ false → (k : ℕ) → k < length l → get_or l k 0 ≤ 86400
unfolding any
all_short [] h k o = absurd (omega arith)
all_short (g ∷ l) h zero o = ltb-false day g (or_no (ltb day g) (any (ltb day) l) h)
all_short (g ∷ l) h (suc k) o = all_short l (or_no' (ltb day g) (any (ltb day) l) h) k (omega arith)

fourth_sixth : (a b c d e g : Bool) → (a || b || c || d || e || g) ≡ false → (d ≡ false) × (g ≡ false)
fourth_sixth a b c d e g h = (
  or_no' (a || b || c) d (or_no (a || b || c || d) e (or_no (a || b || c || d || e) g h)),
  or_no' (a || b || c || d || e) g h,
)

first_third_fourth : (a b c d : Bool) → (a || b || c || d) ≡ false → (a ≡ false) × ((c ≡ false) × (d ≡ false))
first_third_fourth a b c d h =
    let i = or_no (a || b || c) d h in
    (or_no a b (or_no (a || b) c i), (or_no' (a || b) c i, or_no' (a || b || c) d h))

pub accepted_searchable : (file : List ℕ) (m : Model) → accepted file ≡ answer m → Searchable m
unfolding bad_limits bad_alphabet
accepted_searchable file m e =
    let p = accepted_passed file m e in
    let sc = m.scenario in
    let li = sc.limits in
    let limits = fourth_sixth (ltb day li.horizon) (eqb li.max_steps 0) (ltb 10000 li.max_steps)
    (ltb 5 li.search_depth) (eqb li.max_cases 0) (ltb 2000 li.max_cases) p.limits in
    let chosen = first_third_fourth (ltb 12 (length sc.alphabet)) (is_empty sc.gaps) (ltb 4 (length sc.gaps))
    (any (ltb day) sc.gaps) p.alphabet in
    record {
      few_inputs = ltb-false 12 (length sc.alphabet) chosen.0;
      few_gaps = ltb-false 4 (length sc.gaps) chosen.1.0;
      short = all_short sc.gaps chosen.1.1;
      depth = ltb-false 5 li.search_depth limits.0;
      cases = ltb-false 2000 li.max_cases limits.1;
    }
