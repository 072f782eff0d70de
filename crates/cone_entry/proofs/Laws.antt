-- The laws that the proofs of the entry's parts cite.
use mathlib.Core.Path.{◌≡◌, refl, ap, ◌∙◌}
use mathlib.Core.List.{List}
use Prim.Native.Nat.{ℕ, ◌-◌}
use native.Mathlib.Omega.{arith}
use lib.ListN.{get_or, replicate}
use Rattle.model_index.specs.declared.Index.{Index}
use Rattle.model_parts.specs.declared.Section.{Section}
use Rattle.lint_walk.specs.declared.Walk.{Walk}
use Rattle.lint_walk.specs.Walks.{walk_by, walk_m}
use Rattle.lint_access.specs.Sets.{section_by, writes_m}
use Rattle.lint_access.proofs.Laws.{writes_by}
use Rattle.lint_undeclared.specs.declared.Undeclared.{Undeclared}
use Rattle.lint_undeclared.specs.Undeclared.{undeclared_m}
use Rattle.lint_collect.specs.Collect.{fill_m}
use Rattle.cone_sets.specs.Sets.{named_m, needs_m}
use Rattle.cone_sets.proofs.Laws.{named_by, needs_by}
use Rattle.cone_close.specs.declared.ConeSets.{ConeSets}
use Rattle.cone_close.specs.Rounds.{closed_m}
use Rattle.cone_names.specs.declared.ConeNames.{ConeNames}
use Rattle.cone_names.specs.Undeclared.{names_m}
use Rattle.cone_entry.specs.declared.Touched.{Touched}
use Rattle.cone_entry.specs.Promises.{writes_each_m, needs_each_m, Touches, model_sets_m, model_names_m, Tells}

module _ (s : List ℕ) (e rules : Section) where
  pub writes_are : writes_each_m s e rules
      ≡ fill_m (λ i. writes_m s e (walk_m s (get_or rules.starts i 0))) (rules.count - 0) 0 (replicate 32 0)
  unfolding writes_each_m
  writes_are =
      let m : rules.count - 0 ≡ rules.count = omega arith in
      rw m

  pub needs_are : needs_each_m s e rules
      ≡ fill_m (λ i. needs_m s e (get_or rules.starts i 0) (walk_m s (get_or rules.starts i 0))) (rules.count - 0) 0
      (replicate 32 0)
  unfolding needs_each_m
  needs_are =
      let m : rules.count - 0 ≡ rules.count = omega arith in
      rw m

-- the walk of the automation at a position
module _ (s : List ℕ) (e : Section) (p : ℕ) {w : Walk} {x : ℕ} (d : w ≡ walk_m s p) where
  pub write_is : x ≡ writes_m s (section_by e.starts e.count) (walk_by w.list w.count) → x ≡ writes_m s e (walk_m s p)
  write_is f = writes_by s e w f ∙ ap (writes_m s e) d

  pub need_is : x ≡ needs_m s (section_by e.starts e.count) p (walk_by w.list w.count) →
      x ≡ needs_m s e p (walk_m s p)
  need_is f = needs_by s e p w f ∙ ap (needs_m s e p) d

pub told_is : (s : List ℕ) (i : Index) {t : Touched} {x : ℕ} {c : ConeSets} {u : Undeclared} {n : ConeNames}
    → x ≡ named_m s (section_by i.entities.starts i.entities.count) i.invariants →
    Touches s i.entities i.rules t
    → c ≡ closed_m t.writes t.needs i.rules.count x
    → u ≡ undeclared_m s i.entities i.rules i.texts.count
    → n ≡ names_m u c.automations i.texts.count
    → Tells s i (record {
      refused = 0;
      entities = c.entities;
      automations = c.automations;
      undeclared = n.count;
      names = n.list;
    })
told_is s i {t} {x} {c} {u} {n} d e f g h = record {
  accepted = refl;
  entities = ap (λ (y : ConeSets). y.entities) sets;
  automations = ap (λ (y : ConeSets). y.automations) sets;
  undeclared = ap (λ (y : ConeNames). y.count) found;
  names = ap (λ (y : ConeNames). y.list) found;
}
  where
    sets : c ≡ model_sets_m s i
    sets = unfold model_sets_m in (f ∙ rw (named_by s i.entities i.invariants d, e.writes, e.needs))

    found : n ≡ model_names_m s i
    found = unfold model_names_m in (h ∙ rw (g, sets))
