-- What the check of a list of actions says of its parts: depths, seconds, and entities that are declared.
-- `Pass es d a`: the list a was accepted at depth d.
use mathlib.Core.Path.{◌≡◌, refl}
use mathlib.Core.List.{List, ◌++◌}
use mathlib.Core.Bool.{Bool, true}
use mathlib.Core.Option.{Option, none, some}
use Prim.Native.Nat.{ℕ, ◌+◌, ◌≤◌}
use native.Mathlib.Omega.{arith}
use borrow.Author.Tests.{ltb-false}
use Rattle.texts.specs.Lists.{find, flat}
use Rattle.texts.specs.Texts.{Text, text, mem_t}
use Rattle.model_spec.specs.Notes.{of_predicate, of_effect, of_actions, of_branches}
use Rattle.model_spec.specs.Answer.{answer, accept}
use Rattle.model_spec.specs.Model.{
  Source,
  Entity,
  Trigger,
  Effect,
  toggle,
  delay,
  choose,
  wait,
  Actions,
  done,
  act,
  Branches,
  no_branch,
  branch,
  named,
}
use Rattle.model_spec.specs.Validate.{counting, check_value, check_effect, check_actions, check_branches}
use Rattle.engine_spec.proofs.Lists.{Each, each_split}
use Rattle.engine_spec.proofs.Validated.{and_first, bind_inv, and_inv, when_inv, refused_answer}

module _ (es : List Entity) (pool : List Text) where
  -- the text is among the possible reasons
  abbrev pub In : Text → Type 0
  In t = mem_t t pool ≡ true

  pub record Pass (d : ℕ) (a : Actions) : Type 0 where
    pub before : ℕ
    pub after : ℕ
    pub is : check_actions es a d before ≡ answer after
    pub told : Each In (of_actions a)

  pub record PassE (d : ℕ) (f : Effect) : Type 0 where
    pub before : ℕ
    pub after : ℕ
    pub is : check_effect es f d before ≡ answer after
    pub told : Each In (of_effect f)

  pub pass_depth : (d : ℕ) (a : Actions) → Pass d a → d ≤ 16
  unfolding check_actions
  pass_depth d done p = omega (arith, ltb-false 16 d (when_inv _ _ _ _ p.is))
  pass_depth d (act s f r) p = omega (arith, ltb-false 16 d (when_inv _ _ _ _ p.is))

  pub pass_act : (d : ℕ) (s : Source) (f : Effect) (r : Actions) → Pass d (act s f r) → PassE d f × Pass d r
  unfolding check_actions of_actions
  pass_act d s f r p =
      let b = bind_inv (counting (p.before + 1)) _ _ (and_inv _ _ _ p.is) in
      let c = bind_inv (check_effect es f d b.0) _ _ b.1.1 in
      let t = each_split In (of_effect f) (of_actions r) p.told in (
        record { before = b.0; after = c.0; is = c.1.0; told = t.0 },
        record { before = c.0; after = p.after; is = c.1.1; told = t.1 },
      )

  abbrev pub PassB : (d : ℕ) → Branches → Type 0
  PassB d no_branch = Unit {0}
  PassB d (branch ps l bs) = Pass d l × PassB d bs

  pass_branches : (d n m : ℕ) (bs : Branches) → check_branches es bs d n ≡ answer m → Each In (of_branches bs) →
      PassB (d + 1) bs
  unfolding check_branches of_branches
  pass_branches d n m no_branch e h = tt
  pass_branches d n m (branch ps l bs) e h =
      let b = bind_inv (check_actions es l (d + 1) n) _ _ (and_inv _ _ _ e) in
      let t = each_split In (flat of_predicate ps ++ of_actions l) (of_branches bs) h in (
        record {
          before = n;
          after = b.0;
          is = b.1.0;
          told =
              (each_split In (flat of_predicate ps) (of_actions l) t.0).1;
        },
        pass_branches d b.0 m bs b.1.1 t.1,
      )

  pub pass_choose : (d : ℕ) (bs : Branches) (l : Actions) → PassE d (choose bs l) → PassB (d + 1) bs × Pass (d + 1) l
  unfolding check_effect of_effect
  pass_choose d bs l p =
      let b = bind_inv (check_branches es bs d p.before) _ _ p.is in
      let t = each_split In (of_branches bs) (of_actions l) p.told in (
        pass_branches d p.before b.0 bs b.1.0 t.0,
        record { before = b.0; after = p.after; is = b.1.1; told = t.1 },
      )

  pub pass_unknown : (d : ℕ) (r : Text) → PassE d (Effect.unknown r) → In r
  unfolding of_effect
  pass_unknown d r p = p.told.0

  pub pass_delay : (d n : ℕ) → PassE d (delay n) → n ≤ 86400
  unfolding check_effect
  pass_delay d n p = omega (arith, ltb-false 86400 n (when_inv _ _ _ _ p.is))

  pub pass_wait : (d : ℕ) (t : Trigger) (n : ℕ) (c : Bool) → PassE d (wait t n c) → n ≤ 86400
  unfolding check_effect
  pass_wait d t n c p = omega (arith, ltb-false 86400 n (when_inv _ _ _ _ (and_inv _ _ _ p.is)))

  -- the entity is declared
  abbrev pub Known : Text → Type 0
  Known x = (d : Entity) × (find (named x) es ≡ some d)

  pub known_value : (x v : Text) → check_value es x v ≡ accept → Known x
  unfolding check_value
  known_value x v e = cases (find (named x) es) refl
    where
      cases : (o : Option Entity) → find (named x) es ≡ o → Known x
      cases (some d) h = (d, h)
      cases none h = absurd (refused_answer (rw (h, check_value) at e))

  pub pass_set : (d : ℕ) (x v : Text) → PassE d (Effect.set x v) → Known x
  unfolding check_effect
  pass_set d x v p = known_value x v (and_first _ _ _ p.is)

  pub pass_toggle : (d : ℕ) (x : Text) → PassE d (toggle x) → Known x
  unfolding check_effect
  pass_toggle d x p = known_value x (text "on") (and_first _ _ _ p.is)
