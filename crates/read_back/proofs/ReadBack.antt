-- What `verify` and `minimize` write is accepted: the texts of its events stand in the file, and no candidate is refused.
use Prim.Native.Nat.{ℕ, zero, suc}
use mathlib.Core.Path.{◌≡◌, sym, subst, ◌∙◌}
use mathlib.Core.List.{List, [], ◌∷◌, ◌++◌, Memᴰ}
use mathlib.Core.Option.{some}
use lib.ListN.{get_or}
use Rattle.texts.specs.Texts.{Text}
use Rattle.model_spec.specs.Answer.{answer, ◌>>=◌}
use Rattle.model_spec.specs.Model.{Input, Event, Scenario, Model, midnight}
use Rattle.model_spec.specs.File.{got, Reader, refuse, times, counted, u32, limits, place, input, event, events}
use Rattle.model_spec.specs.File.{invariant, automation, or_zeros, start, input_kinds}
use Rattle.model_spec.specs.Rewrite.{rewritten}
use Rattle.model_spec.specs.Validate.{validate, accepted}
use Rattle.model_walk.proofs.Found.{bound, given, refused, kind_found, counted_found, place_found}
use Rattle.model_rewrite.proofs.Opened.{Opened, opened, headed, after}
use Rattle.model_rewrite.proofs.WithEvents.{Among, FitsInput, AllFit, decodes}
use Rattle.engine_spec.specs.Each.{Each}
use Rattle.engine_spec.specs.Cells.{Cell, initial_cells}
use Rattle.engine_spec.specs.Records.{Areas}
use Rattle.engine_spec.proofs.Validated.{accepted_decoded}
use Rattle.checker_spec.specs.Check.{Check, checked, check}
use Rattle.checker_spec.specs.Verify.{Witness, Verification, witness_file}
use Rattle.checker_spec.specs.Minimize.{reduced_file}
use Rattle.checker_spec.specs.Candidates.{Placed, nothing_yet, one_more, Accepts}
use Rattle.checker_spec.proofs.Some.{some_each}
use Rattle.checker_spec.proofs.Candidates.{same_check, candidates_accepted}
use Rattle.checker_spec.proofs.Visits.{witness_case, events_left}
use Rattle.read_back.specs.ReadBack.{Short, ReadsBack, WrittenFiles}

-- ---- what a reader finds names texts of the file

module _ {A : Type 0} (P : A → Type 0) (r : Reader A) (s : List ℕ)
    (finds : (p : ℕ) (a : A) (q : ℕ) → r s p ≡ got a q → P a) where
  times_each : (n p : ℕ) (l : List A) (q : ℕ) → times n r s p ≡ got l q → Each P l
  unfolding times
  times_each zero p l q e = subst (Each P) (given s p [] e).0 tt
  times_each (suc n) p l q e =
      let x = bound r _ e in
      let y = bound (times n r) _ x.rest in
      subst (Each P) (given _ _ _ y.rest).0
      (finds p x.value x.next x.first, times_each n x.next y.value y.next y.first)

  counted_each : (p : ℕ) (l : List A) (q : ℕ) → counted r s p ≡ got l q → Each P l
  counted_each p l q e = let c = counted_found r e in times_each c.count c.start l q c.are_values

module _ (ts : List Text) (s : List ℕ) where
  among : (p : ℕ) (t : Text) (q : ℕ) → place ts s p ≡ got t q → Among ts t
  among p t q e = let a = place_found ts e in record { at = a.at; inside = a.is_in; is_text = a.is_text }

  input_fits : (p : ℕ) (v : Input) (q : ℕ) → input ts s p ≡ got v q → FitsInput ts v
  unfolding input
  input_fits p v q e = let k = kind_found (input_kinds ts) e in cases k.kind k.next k.holds
    where
      cases : (n o : ℕ) → get_or (input_kinds ts) n refuse s o ≡ got v q → FitsInput ts v
      cases zero o y =
          let a = bound (place ts) _ y in
          let b = bound (place ts) _ a.rest in
          subst (FitsInput ts) (given _ _ _ b.rest).0
          (among o a.value a.next a.first, among a.next b.value b.next b.first)
      cases (suc zero) o y = subst (FitsInput ts) (given _ _ _ y).0 tt
      cases (suc (suc zero)) o y = subst (FitsInput ts) (given _ _ _ y).0 tt
      cases (suc (suc (suc n))) o y = absurd (refused s o y)

  event_fits : (p : ℕ) (v : Event) (q : ℕ) → event ts s p ≡ got v q → FitsInput ts v.input
  unfolding event
  event_fits p v q e =
      let a = bound u32 _ e in
      let b = bound (input ts) _ a.rest in
      subst (λ (y : Event). FitsInput ts y.input) (given _ _ _ b.rest).0
      (input_fits a.next b.value b.next b.first)

  all_fit : (vs : List Event) → Each (λ (v : Event). FitsInput ts v.input) vs → AllFit ts vs
  all_fit [] h = tt
  all_fit (v ∷ vs) h = (h.0, all_fit vs h.1)

  fit_end : (vs : List Event) (e : Event) → AllFit ts vs → FitsInput ts e.input → AllFit ts (vs ++ e ∷ [])
  fit_end [] e h k = (k, tt)
  fit_end (v ∷ vs) e h k = (h.0, fit_end vs e h.1 k)

  one_fits : {i : Input} (l : List Input) → Memᴰ i l → Each (FitsInput ts) l → FitsInput ts i
  one_fits {i = i} [] x'' h = elim x'' [ ]
  one_fits (x ∷ l) (Memᴰ.head e) h = subst (FitsInput ts) (sym e) h.0
  one_fits (x ∷ l) (Memᴰ.tail t) h = one_fits l t h.1

  placed_fit : (c : Scenario) → Each (FitsInput ts) c.alphabet → {vs : List Event} → Placed c vs → AllFit ts vs
  placed_fit c h nothing_yet = tt
  placed_fit c h (one_more {vs} {g} {i} p a t k) = fit_end vs _ (placed_fit c h p) (one_fits c.alphabet t h)

module _ (f : List ℕ) (m : Model) (o : Opened f m) where
  abbrev ts : List Text
  ts = o.h.texts

  events_fit : Each (λ (v : Event). FitsInput ts v.input) m.scenario.events
  unfolding events
  events_fit = counted_each (λ (v : Event). FitsInput ts v.input) (event ts) f (event_fits ts f)
      o.start _ o.end o.are_events

  inputs_fit : Each (FitsInput ts) m.scenario.alphabet
  unfolding after
  inputs_fit =
      let i = bound (counted (invariant ts)) _ o.is_after in
      let a = bound (counted (input ts)) _ i.rest in
      let g = bound (counted u32) _ a.rest in
      let l = bound limits _ g.rest in
      let r = bound (counted (automation ts)) _ l.rest in
      let u = bound (or_zeros midnight start) _ r.rest in
      subst (λ (x : Model). Each (FitsInput ts) x.scenario.alphabet) (given _ _ _ u.rest).0
      (counted_each (FitsInput ts) (input ts) f (input_fits ts f) i.next a.value a.next a.first)

-- ---- the files

module _ (areas : Areas) (output : ℕ) (f : List ℕ) (m : Model) (acc : accepted f ≡ answer m) where
  o : Opened f m
  o = opened f m (accepted_decoded f m acc)

  valid : validate m ≡ answer m
  unfolding accepted ◌>>=◌
  valid = rw (accepted_decoded f m acc) at acc

  abbrev cells : List Cell
  cells = initial_cells m.scenario.entities

  -- with events that name texts of the file and that `validate` accepts
  back : (vs : List Event) → AllFit o.h.texts vs → Accepts m vs → (c : Check) → checked areas m cells vs ≡ answer c →
      Short (rewritten f vs) → ReadsBack areas (rewritten f vs) m vs c
  unfolding accepted check ◌>>=◌
  back vs fit a c e h =
      let t = headed f o.h o.start o.is_head in
      let d = decodes f m (accepted_decoded f m acc) o.h.texts (t.at_title, t.are_texts) vs fit h in
      record { model = rw d a; checks = rw (d, a) (same_check m areas vs cells ∙ e) }

  pub written_files : WrittenFiles areas output f m
  written_files = record {
    witness = λ v e w h b is.
        let c = witness_case areas output f m acc v e w h in
        subst (λ (x : List ℕ). Short x → ReadsBack areas x m w.events w.check) (witness_bytes v w h b is)
        (back w.events (placed_fit o.h.texts f m.scenario (inputs_fit f m o) c.events.placed)
        ((candidates_accepted m valid).cases w.events c.events) w.check c.check);
    reduced = λ d e.
        let l = events_left areas output f m acc d e in
        unfold reduced_file in back d.events
        (all_fit o.h.texts f d.events
        (some_each (λ (v : Event). FitsInput o.h.texts v.input) l.events (events_fit f m o)))
        ((candidates_accepted m valid).reductions d.events l.events) d.check l.check;
  }
    where
      witness_bytes : (v : Verification) (w : Witness) → v.witness ≡ some w → (b : List ℕ) → witness_file f v ≡ some b →
          rewritten f w.events ≡ b
      witness_bytes v w h b is =
          unfold witness_file in (let z : some (rewritten f w.events) ≡ some b = rw h at is in (cc))
