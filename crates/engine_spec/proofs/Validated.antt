-- What an accepted file's model has passed: each of validation's checks by itself, and what the file's reader counted.
use Rattle.std.specs.Prelude.{if◌then◌else◌}
use Prim.Native.Nat.{ℕ, ◌≤◌}
use mathlib.Core.Path.{◌≡◌, refl, ap, ◌∙◌, subst}
use mathlib.Core.Bool.{Bool, true, false, ◌||◌, true≢false, false≢true}
use mathlib.Core.List.{List, [], ◌++◌}
use lib.Dec.{ltb}
use lib.ListN.{length}
use borrow.Author.Tests.{ltb-false}
use Rattle.texts.specs.Lists.{is_empty, each}
use Rattle.model_spec.specs.Answer.{Answer, answer, refused, Verdict, accept, ◌>>=◌, ◌and◌, ◌when◌, each_accepted}
use Rattle.model_spec.specs.Model.{Model}
use Rattle.model_spec.specs.Notes.{notes_of}
use Rattle.model_spec.specs.File.{Got, got, broken, model, decoded, decode}
use Rattle.model_spec.specs.Validate.{
  bad_size,
  bad_limits,
  bad_start,
  bad_alphabet,
  check_entity,
  check_input,
  check_invariants,
  check_rules,
  validate,
  accepted,
}
use Rattle.engine_spec.proofs.Lists.{Case, is_true, is_false, case, or_no}

-- ---- answers

pub answer_eq : {A : Type 0} {a b : A} → answer a ≡ answer b → a ≡ b
answer_eq e = cc

pub refused_answer : {A : Type 0} {n : ℕ} {a : A} → refused n ≡ answer a → ⊥
refused_answer {A} e = false≢true (ap is_answer e)
  where
    is_answer : Answer A → Bool
    is_answer (answer a) = true
    is_answer (refused n) = false

pub bind_inv : {A B : Type 0} (x : Answer A) (f : A → Answer B) (b : B) → (x >>= f) ≡ answer b
    → (a : A) × ((x ≡ answer a) × (f a ≡ answer b))
unfolding ◌>>=◌
bind_inv (answer a) f b e = (a, (refl, e))
bind_inv (refused n) f b e = absurd (refused_answer e)

-- both verdicts of two
pub and_first : {A : Type 0} (v : Verdict) (x : Answer A) (b : A) → (v and x) ≡ answer b → v ≡ accept
unfolding ◌and◌
and_first (answer tt) x b e = refl
and_first (refused n) x b e = absurd (refused_answer e)

pub and_inv : {A : Type 0} (v : Verdict) (x : Answer A) (b : A) → (v and x) ≡ answer b → x ≡ answer b
unfolding ◌and◌
and_inv (answer u) x b e = e
and_inv (refused n) x b e = absurd (refused_answer e)

pub when_inv : {A : Type 0} (n : ℕ) (t : Bool) (x : Answer A) (b : A) → ((n when t) and x) ≡ answer b → t ≡ false
unfolding ◌and◌ ◌when◌
when_inv n true x b e = absurd (refused_answer e)
when_inv n false x b e = refl

pub or_no' : (a b : Bool) → a || b ≡ false → b ≡ false
or_no' true b h = absurd (true≢false h)
or_no' false b h = h

-- ---- the checks

pub record Passed (m : Model) : Type 0 where
  pub size : bad_size m ≡ false
  pub limits : bad_limits m.scenario.limits ≡ false
  pub start : bad_start m.start ≡ false
  pub alphabet : bad_alphabet m.scenario ≡ false
  pub entities : each_accepted (check_entity m.scenario.entities) m.scenario.entities ≡ accept
  pub inputs : each_accepted (check_input m.scenario.entities)
      (each (λ e. e.input) m.scenario.events ++ m.scenario.alphabet) ≡ accept
  pub invariants : check_invariants m.scenario.entities [] m.scenario.invariants ≡ accept
  pub actions : ℕ
  pub rules : check_rules m.scenario.entities [] m.rules 0 ≡ answer actions

valid_passed : (m n : Model) → validate m ≡ answer n → (m ≡ n) × Passed m
unfolding validate
valid_passed m n e =
    let e₂ = and_inv _ _ n e in
    let e₃ = and_inv _ _ n e₂ in
    let e₄ = and_inv _ _ n e₃ in
    let e₅ = and_inv _ _ n e₄ in
    let e₆ = and_inv _ _ n e₅ in
    let e₈ = and_inv _ _ n (and_inv _ _ n e₆) in
    let b = bind_inv (check_rules m.scenario.entities [] m.rules 0) (λ k. answer m) n (and_inv _ _ n e₈) in (
      answer_eq b.1.1,
      record {
        size = when_inv _ _ _ n e₂;
        limits = or_no (bad_limits m.scenario.limits) (bad_start m.start) (when_inv _ _ _ n e₃);
        start = or_no' (bad_limits m.scenario.limits) (bad_start m.start) (when_inv _ _ _ n e₃);
        alphabet = when_inv _ _ _ n e₄;
        entities = and_first _ _ n e₅;
        inputs = and_first _ _ n e₆;
        invariants = and_first _ _ n e₈;
        actions = b.0;
        rules = b.1.0;
      },
    )

pub accepted_passed : (file : List ℕ) (m : Model) → accepted file ≡ answer m → Passed m
unfolding accepted
accepted_passed file m e =
    let b = bind_inv (decode file) validate m e in
    let v = valid_passed b.0 m b.1.1 in
    subst Passed v.0 v.1

-- ---- few parts

pub record Few (m : Model) : Type 0 where
  pub entities : length m.scenario.entities ≤ 32
  pub rules : length m.rules ≤ 32
  pub events : length m.scenario.events ≤ 100
  pub invariants : length m.scenario.invariants ≤ 32

pub few_parts : (m : Model) → bad_size m ≡ false → Few m
unfolding bad_size
few_parts m h =
    let sc = m.scenario in
    go (is_empty sc.entities) (ltb 32 (length sc.entities)) (ltb 32 (length m.rules))
    (ltb 100 (length sc.events)) (ltb 32 (length sc.invariants)) refl refl refl refl h
  where
    go : (a b c d e : Bool) → ltb 32 (length m.scenario.entities) ≡ b → ltb 32 (length m.rules) ≡ c
        → ltb 100 (length m.scenario.events) ≡ d → ltb 32 (length m.scenario.invariants) ≡ e
        → (a || b || c || d || e) ≡ false → Few m
    go a b c d e p q r s h =
        let j = or_no (a || b || c || d) e h in
        let i = or_no (a || b || c) d j in
        record {
          entities = ltb-false 32 (length m.scenario.entities) (p ∙ or_no' a b (or_no (a || b) c i));
          rules = ltb-false 32 (length m.rules) (q ∙ or_no' (a || b) c i);
          events = ltb-false 100 (length m.scenario.events) (r ∙ or_no' (a || b || c) d j);
          invariants = ltb-false 32 (length m.scenario.invariants) (s ∙ or_no' (a || b || c || d) e h);
        }

-- ---- what the reader counted

pub accepted_decoded : (file : List ℕ) (m : Model) → accepted file ≡ answer m → decode file ≡ answer m
unfolding accepted
accepted_decoded file m e =
    let b = bind_inv (decode file) validate m e in
    b.1.0 ∙ ap answer (valid_passed b.0 m b.1.1).0

-- a file that was decoded has at most 32,768 bytes, and at most 64 notes
decoded_few : (s : List ℕ) (m : Model) → decode s ≡ answer m → (length s ≤ 32768) × (length (notes_of m) ≤ 64)
unfolding decode decoded
decoded_few s m e = by (case (ltb 32768 (length s)))
  where
    notes : (n : Model) → Case (ltb 64 (length (notes_of n))) → (next : ℕ)
        → decoded (got n next) (length s) ≡ answer m → length (notes_of m) ≤ 64
    notes n (is_true b) next e = absurd (refused_answer (rw b at e))
    notes n (is_false b) next e = rest (case (ltb next (length s))) (rw b at e)
      where
        rest : Case (ltb next (length s)) → (if ltb next (length s) then refused 31 else answer n) ≡ answer m
            → length (notes_of m) ≤ 64
        rest (is_true c) e = absurd (refused_answer (rw c at e))
        rest (is_false c) e =
            let q : answer n ≡ answer m = rw c at e in
            subst (λ (y : Model). length (notes_of y) ≤ 64) (answer_eq q) (ltb-false 64 (length (notes_of n)) b)

    found : (g : Got Model) → decoded g (length s) ≡ answer m → length (notes_of m) ≤ 64
    found (got n next) e = notes n (case (ltb 64 (length (notes_of n)))) next e
    found broken e = absurd (refused_answer e)

    by : Case (ltb 32768 (length s)) → (length s ≤ 32768) × (length (notes_of m) ≤ 64)
    by (is_true b) = absurd (refused_answer (rw b at e))
    by (is_false b) = (ltb-false 32768 (length s) b, found (model s 0) (rw b at e))

pub accepted_few : (file : List ℕ) (m : Model) → accepted file ≡ answer m
    → (length file ≤ 32768) × (length (notes_of m) ≤ 64)
accepted_few file m e = decoded_few file m (accepted_decoded file m e)
