-- The reasons that a reading on places gives are rendered as Judge writes them.
use Rattle.std.specs.Prelude.{if◌then◌else◌}
use mathlib.Core.Path.{◌≡◌, refl, ap}
use mathlib.Core.Bool.{Bool, true, false}
use mathlib.Core.List.{List, [], ◌++◌, append-nil}
use Prim.Native.Nat.{ℕ, ◌+◌, ◌<◌}
use native.Mathlib.Omega.{arith}
use lib.Dec.{eqb}
use lib.ListN.{length, get_or}
use Rattle.texts.specs.Texts.{Text, text}
use Rattle.model_spec.specs.Model.{Invariant, id_of, Model}
use Rattle.model_spec.specs.File.{invariant}
use Rattle.model_parts.specs.Stand.{Reads}
use Rattle.reasons.specs.Kinds as kinds
use Rattle.reasons.specs.Reasons.{render, body, words}
use Rattle.reasons.specs.declared.Reason.{Reason}
use Rattle.engine_fields.specs.Fields.{two, cap}
use Rattle.engine_refinement.specs.Meaning.{Tabled}
use Rattle.engine_refinement.proofs.Numbers.{cap_is}
use Rattle.engine_refinement.proofs.Pool.{no_text, position_is}
use Rattle.checker_spec.specs.Judge.{reason_if, unknown_reasons, incomplete_reasons}
use Rattle.checker_response.specs.declared.Memory.{Memory}
use Rattle.checker_reasons.specs.Reasons.{renderings, about_m, if_m, temporal_m, unknown_m, incomplete_m}
use Rattle.checker_reasons.specs.declared.Told.TheVariants.{One, Two}
use Rattle.checker_refinement.specs.Meaning.{memory_of}
use Rattle.checker_refinement.proofs.Record.{Parts, of_never, of_guard, of_transition, of_response, parts}

-- a reason, if it came up, and two
if_is : (f : List ℕ) (b : Bool) (r : Reason) (t : Text) → render f r ≡ t → renderings f (if_m b r) ≡ reason_if b t
unfolding renderings if_m reason_if
if_is f true r t e = rw e
if_is f false r t e = refl

temporal_is : (f : List ℕ) (m : Memory) (late predicate : Reason) (t u : Text) → render f late ≡ t → render f predicate ≡ u →
    renderings f (temporal_m m late predicate) ≡ reason_if m.unclear t ++ reason_if m.unknown u
unfolding renderings if_m temporal_m reason_if
temporal_is f m late predicate t u e g = cases m.unclear m.unknown
  where
    cases : (c b : Bool) →
        renderings f (if c then (if b then Two late predicate else One late) else if_m b predicate)
        ≡ reason_if c t ++ reason_if b u
    cases true true = rw (e, g)
    cases true false = rw e
    cases false true = rw g
    cases false false = refl

module _ (f x : List ℕ) (ts : List Text) (mo : Model) (tb : Tabled f x ts mo) where
  abbrev T : ℕ → Text
  T v = get_or ts v []

  about_is : (at k : ℕ) (t : Text) → two f (at + 1) < length ts → eqb k kinds.source_note_kind ≡ false → words k ≡ t →
      render f (about_m f at k) ≡ T (two f (at + 1)) ++ t
  unfolding render body about_m
  about_is at k t h n e =
      rw (n, no_text f x ts mo tb, position_is f x ts mo tb (two f (at + 1)) h, e)
      (ap (λ (y : Text). T (two f (at + 1)) ++ y) (append-nil t))

  module _ (at : ℕ) (h : two f (at + 1) < length ts) where
    state_reason : render f (about_m f at kinds.state_predicate) ≡ T (two f (at + 1)) ++ text ": unknown state predicate"
    unfolding words
    state_reason = about_is at kinds.state_predicate (text ": unknown state predicate") h refl refl

    guard_reason : render f (about_m f at kinds.action_guard) ≡ T (two f (at + 1)) ++ text ": unknown action guard"
    unfolding words
    guard_reason = about_is at kinds.action_guard (text ": unknown action guard") h refl refl

    late_reason : render f (about_m f at kinds.response_at_deadline)
        ≡ T (two f (at + 1)) ++ text ": unknown response at deadline"
    unfolding words
    late_reason = about_is at kinds.response_at_deadline (text ": unknown response at deadline") h refl refl

    temporal_reason : render f (about_m f at kinds.temporal_predicate)
        ≡ T (two f (at + 1)) ++ text ": unknown temporal predicate"
    unfolding words
    temporal_reason = about_is at kinds.temporal_predicate (text ": unknown temporal predicate") h refl refl

    horizon_reason : render f (about_m f at kinds.beyond_horizon)
        ≡ T (two f (at + 1)) ++ text ": response deadline beyond horizon"
    unfolding words
    horizon_reason = about_is at kinds.beyond_horizon (text ": response deadline beyond horizon") h refl refl

  module _ (at : ℕ) (m : Memory) where
    unknown_by : (i : Invariant) → Parts f x ts mo tb at i → renderings f (unknown_m f at m) ≡ unknown_reasons i (memory_of m)
    unfolding unknown_m unknown_reasons memory_of renderings
    unknown_by i (of_never ps q k d inside e) = rw k (if_is f m.unknown _ _ (state_reason at d))
    unknown_by i (of_guard ps q k d inside h j e) = rw k (if_is f m.unknown _ _ (guard_reason at d))
    unknown_by i (of_transition k d inside h j o) = rw k
    unknown_by i (of_response p q n b c k d inside e g h) =
        rw k (temporal_is f m _ _ _ _ (late_reason at d) (temporal_reason at d))

    incomplete_by : (i : Invariant) → Parts f x ts mo tb at i →
        renderings f (incomplete_m f at m) ≡ incomplete_reasons i (memory_of m)
    unfolding incomplete_m incomplete_reasons memory_of id_of
    incomplete_by i (of_never ps q k d inside e) = if_is f m.beyond _ _ (horizon_reason at d)
    incomplete_by i (of_guard ps q k d inside h j e) = if_is f m.beyond _ _ (horizon_reason at d)
    incomplete_by i (of_transition k d inside h j o) = if_is f m.beyond _ _ (horizon_reason at d)
    incomplete_by i (of_response p q n b c k d inside e g h) = if_is f m.beyond _ _ (horizon_reason at d)

    cap_at : (i : Invariant) → Parts f x ts mo tb at i → cap at ≡ at
    cap_at i (of_never ps q k d inside e) = cap_is at (omega (arith, tb.size))
    cap_at i (of_guard ps q k d inside h j e) = cap_is at (omega (arith, tb.size))
    cap_at i (of_transition k d inside h j o) = cap_is at (omega (arith, tb.size))
    cap_at i (of_response p q n b c k d inside e g h) = cap_is at (omega (arith, tb.size))

    pub unknown_is : (i : Invariant) → Reads (invariant ts) f at i →
        renderings f (unknown_m f (cap at) m) ≡ unknown_reasons i (memory_of m)
    unknown_is i (q, e) = let s = parts f x ts mo tb at i q e in rw (cap_at i s) (unknown_by i s)

    pub incomplete_is : (i : Invariant) → Reads (invariant ts) f at i →
        renderings f (incomplete_m f (cap at) m) ≡ incomplete_reasons i (memory_of m)
    incomplete_is i (q, e) = let s = parts f x ts mo tb at i q e in rw (cap_at i s) (incomplete_by i s)
