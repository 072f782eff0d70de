-- The sets of the answer: those of the definition's lists, entities and automations by their numbers in the file.
use mathlib.Core.Path.{◌≡◌, sym, ap, ◌∙◌}
use mathlib.Core.Bool.{Bool, ◌&&◌}
use mathlib.Core.List.{List, [], ◌++◌, append-nil}
use Prim.Native.Nat.{ℕ, ◌+◌, ◌-◌, ◌<◌}
use native.Mathlib.Omega.{arith}
use native.Mathlib.Nat.{zero-add}
use lib.ListN.{length, get_or}
use Rattle.texts.proofs.Bool.{and_left}
use Rattle.engine_spec.proofs.Bounds.{length_each}
use Rattle.texts.specs.Lists.{keep, each}
use Rattle.texts.specs.Texts.{Text, mem_t, sorted_t}
use Rattle.model_spec.specs.Model.{Model}
use Rattle.model_spec.specs.Rewrite.{place_of}
use Rattle.model_parts.specs.declared.Section.{Section}
use Rattle.lint_spec.specs.Reach.{places}
use Rattle.lint_spec.specs.Words.{set_of, ids_set}
use Rattle.lint_reach.specs.Sets.{holds, members}
use Rattle.lint_reach.proofs.Bits.{keep_none, keep_append, places_more}
use Rattle.lint_access.specs.Names.{name_at}
use Rattle.lint_access.proofs.Rising.{rising_sorted, mem_sorted}
use Rattle.lint_access.proofs.Refines.{Declares, members_below, names_are}
use Rattle.lint_conditions.specs.declared.Names.{Names}
use Rattle.lint_spec.specs.Numbers.{declared_set}
use Rattle.lint_refinement.proofs.Lists.{rising_keep, sorted_rising, mem_keep, mem_at, found_at}
use Rattle.lint_refinement.proofs.Sets.{set_members, places_at}
use Rattle.lint_refinement.proofs.FileFacts.{Stage, no_rule, each_at}
use Rattle.lint_refinement.proofs.Rules.{es, names, ids}
use Rattle.lint_refinement.proofs.ById.{set_is}
use Rattle.lint_refinement.proofs.Undeclared.{keep_texts, places_below}
use Rattle.cone_close.specs.declared.ConeSets.{ConeSets}
use Rattle.cone_refinement.proofs.Closing.{Kept}

module _ {s : List ℕ} {d : Names} {rs : Section} {ts : List Text} {m : Model} (st : Stage s d rs ts m)
    (l ins : List Text) (c : ConeSets) (h : Kept st l ins c) where
  -- ---- declared entities

  abbrev declared : Text → Bool
  declared t = mem_t t (names st)

  long : length (names st) ≡ length (es st)
  long = length_each (λ e. e.name) (es st)

  entities_listed : keep declared (sorted_t l) ≡ each (name_at (es st)) (members c.entities)
  unfolding Declares name_at
  entities_listed =
      sym (sorted_rising (keep declared (sorted_t l)) (rising_keep declared (rising_sorted l)))
      ∙ names_are s d.entities ts (es st) st.grounds c.entities (keep declared (sorted_t l)) h.inside
      (λ t k. let x = found_at (names st) t
      (and_left (declared t) (mem_t t (sorted_t l)) (sym (mem_keep declared t (sorted_t l)) ∙ k)) in
      let q = x.1.0 in (x.0, (omega (arith, long), x.1.1)))
      (λ j k. h.declared j k
      ∙ sym (mem_sorted (name_at (es st) j) l)
      ∙ sym (mem_keep declared (name_at (es st) j) (sorted_t l)
      ∙ ap (λ (b : Bool). b && mem_t (name_at (es st) j) (sorted_t l)) (mem_at (names st) j (omega (arith, long)))))

  pub entities_are : declared_set (names st) (sorted_t l) ≡ c.entities
  unfolding declared_set
  entities_are =
      ap (λ (x : List Text). set_of (each (λ t. place_of t (names st)) x)) entities_listed
      ∙ set_is st c.entities h.small (length (es st)) (omega arith)
      (members_below s d.entities ts (es st) st.grounds c.entities h.inside)

  -- ---- automations

  abbrev n : ℕ
  n = length m.rules

  ids_long : length (ids st) ≡ n
  ids_long = length_each (λ r. r.id) m.rules

  members_few : members c.automations ≡ keep (holds c.automations) (places n 0)
  unfolding members
  members_few =
      let z : 32 ≡ n + (32 - n) = omega (arith, st.lawful.few_rules) in
      ap (λ (k : ℕ). keep (holds c.automations) (places k 0)) z
      ∙ ap (keep (holds c.automations)) (places_more n (32 - n) 0)
      ∙ keep_append (holds c.automations) (places n 0) (places (32 - n) (0 + n))
      ∙ ap (λ (x : List ℕ). keep (holds c.automations) (places n 0) ++ x)
      (keep_none (holds c.automations) (32 - n) (0 + n)
      (λ j a b. h.beyond j (omega arith) (omega (arith, st.lawful.few_rules))))
      ∙ append-nil (keep (holds c.automations) (places n 0))

  ids_listed : each (λ i. get_or (ids st) i []) (keep (holds c.automations) (places (length (ids st)) 0)) ≡ keep
      (λ id. mem_t id ins) (ids st)
  ids_listed = keep_texts (holds c.automations) (λ id. mem_t id ins) (ids st) (ids st) 0
      (λ t b. ap (λ (i : ℕ). get_or (ids st) i []) (zero-add t))
      (λ t b. let q : t < n = omega (arith, ids_long) in
      ap (holds c.automations) (zero-add t) ∙ h.taken t q
      ∙ ap (λ (x : Text). mem_t x ins) (sym (each_at (λ r. r.id) [] no_rule m.rules t q)))

  pub automations_are : ids_set (names st) (ids st) (keep (λ id. mem_t id ins) (ids st)) ≡ c.automations
  unfolding ids_set
  automations_are =
      ap (λ (x : List Text). set_of (each (λ t. place_of t (ids st)) x)) (sym ids_listed)
      ∙ ap set_of (places_at (ids st) st.ids (keep (holds c.automations) (places (length (ids st)) 0))
      (λ j b. let y = places_below (holds c.automations) (length (ids st)) 0 j b in omega arith))
      ∙ ap (λ (k : ℕ). set_of (keep (holds c.automations) (places k 0))) ids_long
      ∙ ap set_of (sym members_few)
      ∙ set_members c.automations h.few
