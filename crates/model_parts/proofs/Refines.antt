-- Each part's walk ends where the reader of `File` ends, with the notes of what the reader found.
use Rattle.std.specs.Prelude.{Some, None, if◌then◌else◌}
use mathlib.Core.Path.{◌≡◌, refl, sym, ap, ◌∙◌}
use mathlib.Core.List.{List, [], ◌∷◌, ◌++◌}
use mathlib.Core.Bool.{Bool, true, false, ◌&&◌}
use Prim.Native.Nat.{ℕ, zero, suc, ◌+◌}
use native.Mathlib.Omega.{arith}
use lib.ListN.{length, get_or, length-append}
use lib.Dec.{ltb, eqb}
use borrow.Author.Tests.{le-ltb}
use Rattle.texts.specs.Lists.{all, flat}
use Rattle.texts.specs.Texts.{Text}
use Rattle.model_spec.specs.Model.{
  Predicate,
  Trigger,
  Input,
  reload,
  Invariant,
  never,
  guard,
  transition,
  response,
  Automation,
}
use Rattle.model_spec.specs.Notes.{of_predicate, of_trigger, of_actions, of_invariant, of_rule}
use Rattle.model_spec.specs.File.{
  Got,
  got,
  broken,
  Reader,
  ◌>>=◌,
  give,
  refuse,
  require,
  u8,
  u32,
  times,
  counted,
  kinds,
  number?,
  printable,
  one_text,
  source,
  tier,
  mode,
  place,
  predicate,
  trigger,
  entity,
  input,
  event,
  invariant,
  actions,
  automation,
}
use Rattle.model_walk.specs.declared.Piece.TheVariants as piece
use Rattle.model_walk.specs.Walk.{
  Walked,
  capped,
  seen,
  Walk,
  and_then,
  ◌⨾◌,
  stop,
  stay,
  staying,
  bytes_m,
  times_m,
  counted_m,
  kind_m,
  place_m,
  note_m,
  predicate_m,
  trigger_m,
  piece_m,
  pieces_m,
  actions_m,
}
use Rattle.model_walk.proofs.Laws as walks
use Rattle.model_walk.proofs.Refines.{
  Runs,
  Sees,
  bind,
  last,
  choice,
  gives,
  refuses,
  requires,
  quiet,
  marks,
  sees_u32,
  sees_source,
  sees_counted,
  sees_tier,
  sees_mode,
  sees_place,
  sees_predicate,
  sees_trigger,
  sees_conditions,
  sees_actions,
  note_of_lem,
  two_places,
  above,
}
use Rattle.model_parts.specs.Parts.{letter_m, text_m, entity_m, input_m, event_m, condition_m, invariant_m, rule_m}

-- ---- a text

-- bytes, tested one by one, are the bytes tested at the end
module _ {B : Type 0} (w : B → ℕ) (n m : ℕ) where
  never_found : (i : ℕ) (f : List ℕ → B) (s : List ℕ) (p : ℕ) →
      seen w n ((times i u8 >>= λ t. require false (f t)) s p) ≡ None
  unfolding seen ◌>>=◌ require
  never_found i f s p = cases (times i u8 s p)
    where
      cases : (g : Got (List ℕ)) → seen w n (elim g [ got t q ↦ broken | broken ↦ broken ]) ≡ None
      cases (got t q) = refl
      cases broken = refl

  -- one byte, by its test
  letter : (i x : ℕ) (f : List ℕ → B) → Runs w n (times i u8 >>= λ t. require (all printable t) (f (x ∷ t))) m
      (times_m i letter_m) → (b : Bool) → Runs w n (times i u8 >>= λ t. require (b && all printable t) (f (x ∷ t))) m
      (staying b ⨾ times_m i letter_m)
  letter i x f h true s p = walks.stay_then (times_m i letter_m) s p (capped m) refl ∙ h s p
  letter i x f h false s p = walks.stop_then (times_m i letter_m) s p (capped m) refl
      ∙ sym (never_found i (λ t. f (x ∷ t)) s p)

  -- the byte's test stands with the others'
  tested : (i x : ℕ) (f : List ℕ → B) (s : List ℕ) (q : ℕ) →
      (times i u8 >>= λ t. require (printable x && all printable t) (f (x ∷ t))) s q
      ≡ ((times i u8 >>= λ t. give (x ∷ t)) >>= λ t. require (all printable t) (f t)) s q
  unfolding ◌>>=◌ give all
  tested i x f s q = cases (times i u8 s q)
    where
      cases : (g : Got (List ℕ)) → ((λ _ _. g) >>= λ t. require (printable x && all printable t) (f (x ∷ t))) s q
          ≡ (((λ _ _. g) >>= λ t. give (x ∷ t)) >>= λ t. require (all printable t) (f t)) s q
      cases (got t o) = refl
      cases broken = refl

  bound : (i : ℕ) (f : List ℕ → B) (s : List ℕ) (p : ℕ) →
      (u8 >>= λ x. times i u8 >>= λ t. require (printable x && all printable t) (f (x ∷ t))) s p
      ≡ (times (suc i) u8 >>= λ t. require (all printable t) (f t)) s p
  unfolding times ◌>>=◌
  bound i f s p = cases (u8 s p)
    where
      cases : (g : Got ℕ) → ((λ _ _. g) >>= λ x. times i u8 >>= λ t. require (printable x && all printable t) (f (x ∷ t)))
          s p ≡ (((λ _ _. g) >>= λ x. times i u8 >>= λ t. give (x ∷ t)) >>= λ t. require (all printable t) (f t)) s p
      cases (got x q) = tested i x f s q
      cases broken = refl

  sees_letters : (i : ℕ) (f : List ℕ → B) → ((t : List ℕ) → m ≡ n + w (f t)) →
      Runs w n (times i u8 >>= λ t. require (all printable t) (f t)) m (times_m i letter_m)
  unfolding times_m times ◌>>=◌ give all stay staying
  sees_letters zero f h s p = requires w n m true (f []) (h []) s p
  sees_letters (suc i) f h s p =
      walks.by_then s p (capped m) u8 (λ b. staying (printable b)) (times_m i letter_m)
      ∙ choice w n m u8 (λ x. times i u8 >>= λ t. require (printable x && all printable t) (f (x ∷ t)))
      (λ x. staying (printable x) ⨾ times_m i letter_m)
      (λ x. letter i x f (sees_letters i (λ t. f (x ∷ t)) (λ t. h (x ∷ t))) (printable x)) s p
      ∙ ap (seen w n) (bound i f s p)

pub sees_text : Sees quiet one_text text_m
unfolding one_text text_m
sees_text n = choice quiet n n u8 _ _ (λ i. sees_letters quiet n n i (λ t. t) (λ t. omega arith))

-- ---- parts that name texts

number_sees : Sees quiet number? (bytes_m 4)
unfolding number?
number_sees n = last quiet n n quiet u32 (bytes_m 4) sees_u32 _ (λ x. omega arith)

-- two walks in one
regroup : {B : Type 0} (w : B → ℕ) (n m : ℕ) (r : Reader B) (a b c : Walk) → Runs w n r m (a ⨾ (b ⨾ c)) →
    Runs w n r m ((a ⨾ b) ⨾ c)
regroup w n m r a b c h s p = walks.assoc s p (capped m) a b c ∙ h s p

then_stop : (k : Walk) (s : List ℕ) (p n : ℕ) → (k ⨾ stop) s p n ≡ None
unfolding ◌⨾◌ and_then stop
then_stop k s p n = cases (k s p n)
  where
    cases : (x : Walked) → and_then x (stop s) ≡ None
    cases (Some (q, m)) = refl
    cases None = refl

module _ (ts : List Text) where
  pub sees_entity : Sees quiet (entity ts) (entity_m (length ts))
  unfolding entity entity_m piece_m
  sees_entity n =
      bind quiet n n quiet (place ts) (place_m (length ts)) (sees_place ts) _ _ λ x.
      bind quiet n (n + 0) quiet (counted (place ts)) (counted_m (place_m (length ts)))
      (sees_counted quiet quiet refl (λ x l. refl) (place ts) (place_m (length ts)) (sees_place ts)) _ _ λ d.
      bind quiet n (n + 0 + 0) quiet (place ts) (place_m (length ts)) (sees_place ts) _ _ λ i.
      bind quiet n (n + 0 + 0 + 0) quiet tier (kind_m 4) sees_tier _ _ λ t.
      last quiet n (n + 0 + 0 + 0 + 0) quiet number? (bytes_m 4) number_sees _ (λ a. omega arith)

  pub sees_input : Sees quiet (input ts) (input_m (length ts))
  unfolding input kinds input_m staying
  sees_input n = choice quiet n n u8 _ _ cases
    where
      cases : (k : ℕ) →
          Runs quiet n
          (get_or ((place ts >>= λ e. place ts >>= λ v. give (Input.set e v)) ∷ give Input.restart ∷ give reload ∷ [])
          k refuse) n (if eqb k 0 then place_m (length ts) ⨾ place_m (length ts) else staying (ltb k 3))
      cases zero = two_places ts quiet n n Input.set (λ t u. omega arith)
      cases (suc zero) = gives quiet n n Input.restart (omega arith)
      cases (suc (suc zero)) = gives quiet n n reload (omega arith)
      cases (suc (suc (suc k))) = rw (above (suc (suc (suc k))) 0 (omega arith), le-ltb (suc (suc (suc k))) 3 (omega arith))
          (refuses quiet n n)

  pub sees_event : Sees quiet (event ts) (event_m (length ts))
  unfolding event event_m
  sees_event n =
      bind quiet n n quiet u32 (bytes_m 4) sees_u32 _ _ λ a.
      last quiet n (n + 0) quiet (input ts) (input_m (length ts)) sees_input _ (λ i. omega arith)

  in_response : (i : Text) (p q : Predicate) (x : ℕ) →
      length (of_invariant (response i p q x)) ≡ length (of_predicate p) + length (of_predicate q)
  unfolding of_invariant
  in_response i p q x = length-append (of_predicate p) (of_predicate q)

  pub sees_invariant : Sees (marks of_invariant) (invariant ts) (invariant_m (length ts))
  unfolding invariant kinds invariant_m condition_m of_invariant piece_m seen refuse
  sees_invariant n = choice w n n u8 _ _ cases
    where
      w : Invariant → ℕ
      w = marks of_invariant

      c : ℕ
      c = length ts

      table : List (Reader Invariant)
      table =
          (place ts >>= λ i. counted (predicate ts) >>= λ ps. give (never i ps))
          ∷ (place ts >>= λ i. place ts >>= λ e. place ts >>= λ v. counted (predicate ts) >>= λ ps. give (guard i e v ps))
          ∷ (place ts >>= λ i. place ts >>= λ e. place ts >>= λ f. place ts >>= λ t. give (transition i e f t))
          ∷ (place ts >>= λ i. predicate ts >>= λ p. predicate ts >>= λ q. u32 >>= λ x. give (response i p q x))
          ∷ []

      refuses_is : (s : List ℕ) (p : ℕ) → None ≡ seen w n (refuse s p)
      refuses_is s p = refl

      cases : (k : ℕ) → Runs w n (get_or table k refuse) n (place_m (length ts) ⨾ condition_m (length ts) k)
      cases zero =
          bind w n n quiet (place ts) (place_m (length ts)) (sees_place ts) _ _ λ i.
          last w n (n + 0) (marks (flat of_predicate)) (counted (predicate ts)) (counted_m (predicate_m (length ts)))
          (sees_conditions ts) (never i) (λ ps. omega arith)
      cases (suc zero) =
          bind w n n quiet (place ts) (place_m (length ts)) (sees_place ts) _ _ λ i.
          regroup w n (n + 0) (place ts >>= λ e. place ts >>= λ v. counted (predicate ts) >>= λ ps. give (guard i e v ps))
          (place_m (length ts)) (place_m (length ts)) (pieces_m (length ts) piece.Predicate) (
          bind w n (n + 0) quiet (place ts) (place_m (length ts)) (sees_place ts) _ _ λ e.
          bind w n (n + 0 + 0) quiet (place ts) (place_m (length ts)) (sees_place ts) _ _ λ v.
          last w n (n + 0 + 0 + 0) (marks (flat of_predicate)) (counted (predicate ts)) (counted_m (predicate_m (length ts)))
          (sees_conditions ts) (guard i e v) (λ ps. omega arith))
      cases (suc (suc zero)) =
          bind w n n quiet (place ts) (place_m (length ts)) (sees_place ts) _ _ λ i.
          regroup w n (n + 0) (place ts >>= λ e. place ts >>= λ f. place ts >>= λ t. give (transition i e f t))
          (place_m (length ts)) (place_m (length ts)) (place_m (length ts)) (
          bind w n (n + 0) quiet (place ts) (place_m (length ts)) (sees_place ts) _ _ λ e.
          bind w n (n + 0 + 0) quiet (place ts) (place_m (length ts)) (sees_place ts) _ _ λ f.
          last w n (n + 0 + 0 + 0) quiet (place ts) (place_m (length ts)) (sees_place ts) (transition i e f)
          (λ t. omega arith))
      cases (suc (suc (suc zero))) =
          bind w n n quiet (place ts) (place_m (length ts)) (sees_place ts) _ _ λ i.
          bind w n (n + 0) (marks of_predicate) (predicate ts) (predicate_m (length ts)) (sees_predicate ts) _ _ λ p.
          bind w n (n + 0 + length (of_predicate p)) (marks of_predicate) (predicate ts) (predicate_m (length ts))
          (sees_predicate ts) _ _ λ q.
          last w n (n + 0 + length (of_predicate p) + length (of_predicate q)) quiet u32 (bytes_m 4) sees_u32 (response i p q)
          (λ x. omega (arith, in_response i p q x))
      cases (suc (suc (suc (suc k)))) = rw (
        above (suc (suc (suc (suc k)))) 0 (omega arith),
        above (suc (suc (suc (suc k)))) 1 (omega arith),
        above (suc (suc (suc (suc k)))) 2 (omega arith),
        above (suc (suc (suc (suc k)))) 3 (omega arith),
      )
          (λ s p. then_stop (place_m (length ts)) s p (capped n) ∙ refuses_is s p)

  -- a rule's notes
  trigger_nil : length (flat of_trigger []) ≡ 0
  unfolding flat
  trigger_nil = refl

  trigger_more : (x : Trigger) (l : List Trigger) →
      length (flat of_trigger (x ∷ l)) ≡ length (of_trigger x) + length (flat of_trigger l)
  unfolding flat
  trigger_more x l = length-append (of_trigger x) (flat of_trigger l)

  sees_triggers : Sees (marks (flat of_trigger)) (counted (trigger ts)) (counted_m (trigger_m (length ts)))
  sees_triggers = sees_counted (marks of_trigger) (marks (flat of_trigger)) trigger_nil trigger_more (trigger ts)
      (trigger_m (length ts)) (sees_trigger ts)

  -- places that are all notes
  sees_noted : Sees (λ t. 1) (place ts) (note_m (length ts))
  unfolding ◌>>=◌ place seen give
  sees_noted n s p = note_of_lem ts (λ t. 1) n n (λ t. t) (λ t. omega arith) s p
      ∙ ap (seen (λ t. 1) n) (give_again (place ts s p))
    where
      give_again : (g : Got Text) → (elim g [ got t q ↦ got t q | broken ↦ broken ]) ≡ g
      give_again (got t q) = refl
      give_again broken = refl

  sees_notes : Sees length (counted (place ts)) (counted_m (note_m (length ts)))
  sees_notes = sees_counted (λ t. 1) length refl (λ x l. omega arith) (place ts) (note_m (length ts)) sees_noted

  in_rule : (r : Automation) → length (of_rule r) ≡ length r.notes + length (flat of_trigger r.triggers) + length
      (flat of_predicate r.conditions) + length (of_actions r.actions)
  unfolding of_rule
  in_rule r =
      let a = r.notes in
      let b = flat of_trigger r.triggers in
      let c = flat of_predicate r.conditions in
      omega (arith, length-append (a ++ b ++ c) (of_actions r.actions), length-append (a ++ b) c, length-append a b)

  pub sees_rule : Sees (marks of_rule) (automation ts) (rule_m (length ts))
  unfolding automation rule_m piece_m
  sees_rule n =
      bind w n n quiet (place ts) (place_m (length ts)) (sees_place ts) _ _ λ i.
      bind w n (n + 0) quiet mode (kind_m 4) sees_mode _ _ λ m.
      bind w n (n + 0 + 0) quiet u32 (bytes_m 4) sees_u32 _ _ λ x.
      bind w n (n + 0 + 0 + 0) (marks (flat of_trigger)) (counted (trigger ts)) _ sees_triggers _ _ λ tr.
      bind w n (n + 0 + 0 + 0 + length (flat of_trigger tr)) (marks (flat of_predicate)) (counted (predicate ts))
      (counted_m (predicate_m (length ts))) (sees_conditions ts) _ _ λ ps.
      bind w n (n + 0 + 0 + 0 + length (flat of_trigger tr) + length (flat of_predicate ps)) (marks of_actions)
      (actions ts 18) (actions_m (length ts) 18) (sees_actions ts 18) _ _ λ l.
      bind w n (n + 0 + 0 + 0 + length (flat of_trigger tr) + length (flat of_predicate ps) + length (of_actions l))
      quiet source (bytes_m 8) sees_source _ _ λ src.
      last w n (n + 0 + 0 + 0 + length (flat of_trigger tr) + length (flat of_predicate ps) + length (of_actions l) + 0)
      length (counted (place ts)) (counted_m (note_m (length ts))) sees_notes
      (λ ns. record { id = i; mode = m; max = x; triggers = tr; conditions = ps; actions = l; source = src; notes = ns })
      (λ ns. omega (
        arith,
        in_rule (record {
          id = i;
          mode = m;
          max = x;
          triggers = tr;
          conditions = ps;
          actions = l;
          source = src;
          notes =
              ns;
        }),
      ))
    where
      w : Automation → ℕ
      w = marks of_rule
