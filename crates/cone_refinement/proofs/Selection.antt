-- A round: the automation that the definition picks is the first that the sets give, and the others are left as they were.
use Rattle.std.specs.Prelude.{if◌then◌else◌}
use mathlib.Core.Path.{◌≡◌, refl, sym, ap, ◌∙◌}
use mathlib.Core.Bool.{Bool, true, false, not, ◌&&◌}
use mathlib.Core.List.{List, [], ◌∷◌}
use mathlib.Core.Option.{Option, none, some}
use Prim.Native.Nat.{ℕ, zero, suc, ◌+◌, ◌/◌, ◌%◌, ◌^◌, ◌*◌, ◌<◌, ◌≤◌, min}
use native.Mathlib.Omega.{arith}
use lib.Bits.{bit_and, and_shr, and_step, and_lt}
use lib.Dec.{eqb}
use borrow.Author.Tests.{eq-eqb, ne_eqb}
use Rattle.texts.specs.Lists.{is_empty, any, keep, each}
use Rattle.texts.specs.Texts.{Text}
use Rattle.model_spec.specs.Model.{Automation}
use Rattle.model_walk.proofs.Found.{Case, is_true, is_false, case}
use Rattle.lint_spec.specs.Reach.{places}
use Rattle.lint_reach.specs.Sets.{holds, members}
use Rattle.lint_reach.proofs.Bits.{keep_same}
use Rattle.lint_refinement.proofs.Sets.{set_empty}
use Rattle.cone_spec.specs.Cone.{writes_one, passing, pick}
use Rattle.cone_close.specs.declared.ConeSets.{ConeSets}
use Rattle.cone_close.specs.Rounds.{adds_m, first_m}

-- ---- the definition's pick, on numbers

unfoldable pub pass_n : ℕ → Option (ℕ × List ℕ) → Option (ℕ × List ℕ)
pass_n k none = none
pass_n k (some (q, l)) = some (q, k ∷ l)

unfoldable pub pick_n : (ℕ → Bool) → List ℕ → Option (ℕ × List ℕ)
pick_n f [] = none
pick_n f (k ∷ l) = if f k then some (k, l) else pass_n k (pick_n f l)

module _ (rule : ℕ → Automation) where
  abbrev pub lifted : Option (ℕ × List ℕ) → Option (Automation × List Automation)
  lifted none = none
  lifted (some (k, l)) = some (rule k, each rule l)

  pub pick_is : (es : List Text) (l : List ℕ) → pick es (each rule l) ≡ lifted (pick_n (λ k. writes_one es (rule k)) l)
  unfolding pick pick_n each
  pick_is es [] = refl
  pick_is es (k ∷ l) = go (writes_one es (rule k)) (pick_is es l)
    where
      pass : (o : Option (ℕ × List ℕ)) → passing (rule k) (lifted o) ≡ lifted (pass_n k o)
      pass none = unfold passing pass_n in refl
      pass (some (q, m)) = unfold passing pass_n each in refl

      go : (b : Bool) → pick es (each rule l) ≡ lifted (pick_n (λ k. writes_one es (rule k)) l)
          → (if b then some (rule k, each rule l) else passing (rule k) (pick es (each rule l)))
          ≡ lifted (if b then some (k, l) else pass_n k (pick_n (λ k. writes_one es (rule k)) l))
      go true ih = refl
      go false ih = ap (passing (rule k)) ih ∙ pass (pick_n (λ k. writes_one es (rule k)) l)

-- ---- the first that comes in

module _ (writes : List ℕ) (c : ConeSets) (f : ℕ → Bool) where
  -- not in yet
  abbrev pub out : ℕ → Bool
  out i = not (holds c.automations i)

  abbrev pub out_but : ℕ → ℕ → Bool
  out_but k i = out i && not (eqb k i)

  pub data Picks (left i : ℕ) : Type 0 where
    no_pick : first_m writes c left i ≡ i + left → pick_n f (keep out (places left i)) ≡ none → Picks left i
    a_pick : (k : ℕ) → i ≤ k → k < i + left → first_m writes c left i ≡ k
        → pick_n f (keep out (places left i)) ≡ some (k, keep (out_but k) (places left i)) → f k ≡ true → Picks left i

  pub picks : (left i : ℕ) → ((j : ℕ) → i ≤ j → j < i + left → adds_m writes c j ≡ (out j && f j)) → Picks left i
  unfolding first_m keep places pick_n pass_n
  picks zero i h = no_pick (omega arith) refl
  picks (suc left) i h = cases (case (out i)) (case (f i)) (picks left (i + 1) (λ j a b. h j (omega arith) (omega arith)))
    where
      here : adds_m writes c i ≡ (out i && f i)
      here = h i (omega arith) (omega arith)

      no_first : adds_m writes c i ≡ false → first_m writes c (suc left) i ≡ first_m writes c left (i + 1)
      no_first z = rw z

      step : i + 1 + left ≡ i + suc left
      step = omega arith

      other : (k : ℕ) → i + 1 ≤ k → eqb k i ≡ false
      other k b = ne_eqb k i (λ z. omega arith)

      adds : (a b : Bool) → out i ≡ a → f i ≡ b → adds_m writes c i ≡ (a && b)
      adds a b y z = here ∙ ap (λ (w : Bool). w && f i) y ∙ ap (λ (w : Bool). a && w) z

      no_one : out i ≡ false → adds_m writes c i ≡ false
      no_one y = here ∙ ap (λ (w : Bool). w && f i) y

      is_first : adds_m writes c i ≡ true → first_m writes c (suc left) i ≡ i
      is_first z = rw z

      rest_same : keep (out_but i) (places left (i + 1)) ≡ keep out (places left (i + 1))
      rest_same = keep_same (out_but i) out left (i + 1) (λ j a b. rw (ne_eqb i j (λ z. omega arith)) (and_true (out j)))
        where
          and_true : (b : Bool) → (b && true) ≡ b
          and_true true = refl
          and_true false = refl

      cases : Case (out i) → Case (f i) → Picks left (i + 1) → Picks (suc left) i
      cases (is_true a) (is_true b) ih = a_pick i (omega arith) (omega arith) (is_first (adds true true a b))
          (rw (a, b, eq-eqb i i refl) (ap (λ (l : List ℕ). some (i, l)) (sym rest_same))) b
      cases (is_true a) (is_false b) (no_pick u v) =
          no_pick (no_first (adds true false a b) ∙ u ∙ step) (rw (a, b, v))
      cases (is_true a) (is_false b) (a_pick k m n u v w) =
          a_pick k (omega arith) (omega arith) (no_first (adds true false a b) ∙ u) (rw (a, b, v, other k m)) w
      cases (is_false a) b (no_pick u v) = no_pick (no_first (no_one a) ∙ u ∙ step) (rw a v)
      cases (is_false a) b (a_pick k m n u v w) =
          a_pick k (omega arith) (omega arith) (no_first (no_one a) ∙ u) (rw a v) w

-- ---- sets that meet

min_is : (a b : ℕ) → a < 2 → b < 2 → eqb (min a b) 1 ≡ (eqb a 1 && eqb b 1)
min_is zero zero h k = refl
min_is zero (suc zero) h k = refl
min_is zero (suc (suc b)) h k = absurd (omega arith)
min_is (suc zero) zero h k = refl
min_is (suc zero) (suc zero) h k = refl
min_is (suc zero) (suc (suc b)) h k = absurd (omega arith)
min_is (suc (suc a)) b h k = absurd (omega arith)

low : (a b : ℕ) → b < 2 → (a * 2 + b) % 2 ≡ b
low a b h = omega arith

min_lt : (a b : ℕ) → a < 2 → b < 2 → min a b < 2
min_lt a b h k = omega arith

pub holds_and : (x y j : ℕ) → holds (bit_and x y) j ≡ (holds x j && holds y j)
unfolding holds
holds_and x y j =
    ap (λ (n : ℕ). eqb (n % 2) 1) (and_shr x y j ∙ and_step (x / 2 ^ j) (y / 2 ^ j))
    ∙ ap (λ (n : ℕ). eqb n 1)
    (low (bit_and (x / 2 ^ j / 2) (y / 2 ^ j / 2)) (min (x / 2 ^ j % 2) (y / 2 ^ j % 2))
    (min_lt (x / 2 ^ j % 2) (y / 2 ^ j % 2) (omega arith) (omega arith)))
    ∙ min_is (x / 2 ^ j % 2) (y / 2 ^ j % 2) (omega arith) (omega arith)

not_empty : (p q : ℕ → Bool) (l : List ℕ) → not (is_empty (keep (λ j. p j && q j) l)) ≡ any q (keep p l)
unfolding keep any is_empty
not_empty p q [] = refl
not_empty p q (x ∷ l) = cases (case (p x)) (case (q x)) (not_empty p q l)
  where
    cases : Case (p x) → Case (q x) → not (is_empty (keep (λ j. p j && q j) l)) ≡ any q (keep p l)
        → not (is_empty (if p x && q x then x ∷ keep (λ j. p j && q j) l else keep (λ j. p j && q j) l))
        ≡ any q (if p x then x ∷ keep p l else keep p l)
    cases (is_true a) (is_true b) ih = rw (a, b)
    cases (is_true a) (is_false b) ih = rw (a, b) ih
    cases (is_false a) b ih = rw a ih

pub meets : (x y : ℕ) → x < 2 ^ 32 → y < 2 ^ 32 → not (eqb (bit_and x y) 0) ≡ any (holds y) (members x)
unfolding members
meets x y h k =
    ap not (set_empty (bit_and x y) (and_lt 32 x y h k))
    ∙ ap (λ (l : List ℕ). not (is_empty l))
    (keep_same (holds (bit_and x y)) (λ j. holds x j && holds y j) 32 0 (λ j a b. holds_and x y j))
    ∙ not_empty (holds x) (holds y) (places 32 0)
