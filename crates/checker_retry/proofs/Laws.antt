-- A case's check in a part of the areas is its check in all of them, unless it is refused.
use Prim.Native.Nat.{ℕ, ◌≤◌, ◌<◌}
use mathlib.Core.Path.{◌≡◌, refl, sym, ap, ◌∙◌}
use mathlib.Core.Bool.{true, false}
use mathlib.Core.List.{List}
use native.Mathlib.Omega.{arith}
use lib.ListN.{length, get_or, take}
use lib.Seq.{length-take-le}
use Rattle.checker_result.specs.Statuses.{is_refused_m}
use Rattle.model_spec.specs.Answer.{Answer, answer, refused, ◌>>=◌}
use Rattle.model_spec.specs.Model.{Event, Model}
use Rattle.model_spec.specs.Validate.{accepted}
use Rattle.model_index.specs.declared.Index.{Index}
use Rattle.model_index.specs.Indexed.{Indexed}
use Rattle.engine_spec.specs.Cells.{Cell, initial_cells}
use Rattle.engine_spec.specs.Records.{Areas}
use Rattle.engine_spec.specs.Simulate.{Simulation, simulated}
use Rattle.engine_monotone.specs.Larger.{Larger}
use Rattle.engine_monotone.proofs.Larger.{same_in_larger}
use Rattle.engine_refinement.specs.Events.{EventAt}
use Rattle.engine_entry.specs.Prepared.{Prepared, PreparedFrom}
use Rattle.checker_spec.specs.Check.{Check, judged, checked}
use Rattle.checker_result.specs.declared.CheckResult.{CheckResult}
use Rattle.checker_entry.specs.Promises.{Checked}
use Rattle.checker_entry.proofs.Pool.{in_pool}
use Rattle.checker_entry.proofs.Refines as promised
use Rattle.checker_retry.specs.Retry.{sizes, Tells, answers, refuses, Cased, Parted}

-- a check that isn't refused is the same in larger areas
checked_larger : (a b : Areas) → Larger a b → (m : Model) (cells : List Cell) (vs : List Event) (c : Check) →
    checked a m cells vs ≡ answer c → checked b m cells vs ≡ answer c
unfolding checked ◌>>=◌
checked_larger a b l m cells vs c e = by (simulated a m cells vs) refl e
  where
    by : (x : Answer Simulation) → simulated a m cells vs ≡ x →
        (x >>= λ s. answer (judged m.scenario.invariants cells s)) ≡ answer c →
        (simulated b m cells vs >>= λ s. answer (judged m.scenario.invariants cells s)) ≡ answer c
    by (answer s) z h = rw (same_in_larger a b l m cells vs s z) h
    by (refused n) z h = let y : ◌≡◌ {A = ℕ} 0 1 = cc in absurd (omega arith)

part_larger : (k q l a j u : ℕ) → k ≤ q → l ≤ a → j ≤ u → Larger (sizes k l j) (sizes q a u)
part_larger k q l a j u x y z = record { queue = omega arith; records = omega arith; runs = omega arith }

module _ {f : List ℕ} {i : Index} {g : Prepared} {v : List ℕ} {n : ℕ} {r : CheckResult} {q q' a a' u u' : List ℕ}
    (ch : Checked f i.invariants.starts i.invariants.count g v n r q q' a a' u u')
    (m : Model) (acc : accepted f ≡ answer m) (o : Indexed f i m) (bytes : (k : ℕ) → get_or f k 0 < 256)
    (gr : PreparedFrom f i g)
    (d : Event) (vs : List Event)
    (evs : (j : ℕ) → j < length vs → EventAt f g.table o.ts m v j (get_or vs j d))
    (many : n ≡ length vs) where
  abbrev cells : List Cell
  cells = initial_cells m.scenario.entities

  abbrev Promised : Type 0
  Promised = promised.Promise f i m acc o bytes g gr v d vs evs many ch

  wholly : Tells f m r (checked (sizes (length q) (length a) (length u)) m cells vs)
  wholly = by (promised.promise f i m acc o bytes g gr v d vs evs many ch)
    where
      by : Promised → Tells f m r (checked (sizes (length q) (length a) (length u)) m cells vs)
      by (promised.answers c e k l) =
          let p = in_pool f i m acc o bytes g gr v d vs evs many ch c e in answers c e k p.unknown p.incomplete
      by (promised.refuses j lo hi e k z) = refuses j lo hi e k

  in_part : is_refused_m r.status ≡ false → (q₁ a₁ u₁ : ℕ) →
      Larger (sizes (length q) (length a) (length u)) (sizes q₁ a₁ u₁) →
      Tells f m r (checked (sizes q₁ a₁ u₁) m cells vs)
  in_part ok q₁ a₁ u₁ l = by (promised.promise f i m acc o bytes g gr v d vs evs many ch)
    where
      by : Promised → Tells f m r (checked (sizes q₁ a₁ u₁) m cells vs)
      by (promised.answers c e k z) =
          let p = in_pool f i m acc o bytes g gr v d vs evs many ch c e in
          answers c (checked_larger (sizes (length q) (length a) (length u)) (sizes q₁ a₁ u₁) l m cells vs c e) k
          p.unknown p.incomplete
      by (promised.refuses j lo hi e k z) =
          let t : is_refused_m r.status ≡ true = ap is_refused_m k.status_is in
          let w : true ≡ false = sym t ∙ ok in
          let y : ◌≡◌ {A = ℕ} 0 1 = cc in
          absurd (omega arith)

module _ {f starts : List ℕ} {many : ℕ} {g : Prepared} {v : List ℕ} {n : ℕ} {r : CheckResult} {q q' a a' u u' : List ℕ}
    (ch : Checked f starts many g v n r q q' a a' u u') where
  -- the invariants are those of the index
  at_index : (i : Index) → starts ≡ i.invariants.starts → many ≡ i.invariants.count →
      Checked f i.invariants.starts i.invariants.count g v n r q q' a a' u u'
  at_index i e h = rw (e, h) at ch

  -- in all of the areas
  pub whole : Cased f starts many g v n r (length q) (length a) (length u)
  whole = record {
    sized = ch.sized;
    does = λ i e h m acc o bytes gr d vs evs count. wholly (at_index i e h) m acc o bytes gr d vs evs count;
  }

  -- in a part of areas with q₁, a₁ and u₁ words
  pub partly : (q₁ a₁ u₁ : ℕ) → length q ≤ q₁ → length a ≤ a₁ → length u ≤ u₁ → Parted f starts many g v n r q₁ a₁ u₁
  partly q₁ a₁ u₁ x y z ok = record {
    sized = ch.sized;
    does = λ i es em m acc o bytes gr d vs evs count.
        in_part (at_index i es em) m acc o bytes gr d vs evs count ok q₁ a₁ u₁
        (part_larger (length q) q₁ (length a) a₁ (length u) u₁ x y z);
  }

  -- in all of areas that are as long
  pub whole_as : {q₁ a₁ u₁ : ℕ} → length q ≡ q₁ → length a ≡ a₁ → length u ≡ u₁ → Cased f starts many g v n r q₁ a₁ u₁
  whole_as {q₁} {a₁} {u₁} x y z = rw (x, y, z) at whole

-- ---- parts of areas

pub prefix : (k : ℕ) (l : List ℕ) → k ≤ length l → k ≡ length (take k l)
prefix k l h = sym (length-take-le k l h)

pub shorter : (k : ℕ) (l : List ℕ) → k ≤ length l → length (take k l) ≤ length l
shorter k l h = omega (arith, h, length-take-le k l h)
