-- The laws that the proofs of the entry's parts cite.
use mathlib.Core.Path.{◌≡◌, refl, ap, ◌∙◌, subst}
use mathlib.Core.List.{List}
use Prim.Native.Nat.{ℕ, ◌-◌, ◌≤◌}
use native.Mathlib.Omega.{arith}
use lib.ListN.{length, get_or, replicate}
use Rattle.texts.specs.Texts.{text}
use Rattle.model_order.specs.Order.{place_from}
use Rattle.model_index.specs.declared.Index.{Index}
use Rattle.model_parts.specs.declared.Section.{Section}
use Rattle.lint_areas.specs.declared.Out.{Out}
use Rattle.lint_reach.specs.declared.Components.{Components}
use Rattle.lint_walk.specs.declared.Walk.{Walk}
use Rattle.lint_walk.specs.Walks.{walk_by, walk_m}
use Rattle.lint_access.specs.Sets.{section_by, reads_m, writes_m}
use Rattle.lint_access.proofs.Laws.{reads_by, writes_by}
use Rattle.model_parts.specs.declared.Extent.{Extent}
use Rattle.lint_conditions.specs.declared.Given.{Given}
use Rattle.lint_conditions.specs.Context.{section_of, names_by}
use Rattle.lint_undeclared.specs.declared.Undeclared.{Undeclared}
use Rattle.lint_undeclared.specs.Undeclared.{undeclared_m}
use Rattle.lint_areas.specs.Areas.{Board, board}
use Rattle.lint_collect.specs.Collect.{fill_m, Lints}
use Rattle.lint_collect.specs.declared.Linted.{Linted}
use Rattle.lint_notes.specs.Notes.{AllNotes}
use Rattle.lint_refinement.specs.Context.{names_of}
use Rattle.lint_entry.specs.Promises.{given_by, first_m, read_sets, write_sets, Bounds, Inserts, Tells}

pub first_is : (l : List ℕ) (n : ℕ) → first_m l n ≡ fill_m (λ i. get_or l i 0) (n - 0) 0 (replicate 32 0)
unfolding first_m
first_is l n =
    let m : n - 0 ≡ n = omega arith in
    rw m

module _ (s : List ℕ) (e rules : Section) where
  pub reads_are : read_sets s e rules ≡ fill_m (λ i. reads_m s e (get_or rules.starts i 0)
      (walk_m s (get_or rules.starts i 0))) (rules.count - 0) 0 (replicate 32 0)
  unfolding read_sets
  reads_are =
      let m : rules.count - 0 ≡ rules.count = omega arith in
      rw m

  pub writes_are : write_sets s e rules ≡ fill_m (λ i. writes_m s e (walk_m s (get_or rules.starts i 0))) (rules.count - 0) 0
      (replicate 32 0)
  unfolding write_sets
  writes_are =
      let m : rules.count - 0 ≡ rules.count = omega arith in
      rw m

-- the walk of the automation at a position
module _ (s : List ℕ) (e : Section) (p : ℕ) {w : Walk} {x : ℕ} (d : w ≡ walk_m s p) where
  pub read_is : x ≡ reads_m s (section_by e.starts e.count) p (walk_by w.list w.count) →
      x ≡ reads_m s e p (walk_m s p)
  read_is f = reads_by s e p w f ∙ ap (reads_m s e p) d

  pub write_is : x ≡ writes_m s (section_by e.starts e.count) (walk_by w.list w.count) → x ≡ writes_m s e (walk_m s p)
  write_is f = writes_by s e w f ∙ ap (writes_m s e) d

pub given_is : (s : List ℕ) (e i r : Extent) (n : ℕ) {a b c : ℕ} → a ≡ place_from n 0 (text "on") s 6 →
    b ≡ place_from n 0 (text "off") s 6 → c ≡ place_from n 0 (text "*") s 6 →
    record { entities = e; invariants = i; rules = r; on = a; off = b; star = c } ≡ given_by s e i r n
given_is s e i r n d f g = rw (d, f, g)

-- of the model whose index this is
abbrev given_of : List ℕ → Index → Given
given_of s i = given_by s (record { count = i.entities.count; end = i.entities.end })
    (record { count = i.invariants.count; end = i.invariants.end })
    (record { count = i.rules.count; end = i.rules.end }) i.texts.count

pub told_is : (s : List ℕ) (i : Index) (o : Out) (c : Components) {a b e : List ℕ} {u : Undeclared} →
    a ≡ first_m c.sets c.count → b ≡ read_sets s i.entities i.rules → e ≡ write_sets s i.entities i.rules →
    u ≡ undeclared_m s i.entities i.rules i.texts.count →
    Tells s i o c (record {
      refused = 0;
      findings = o.findings;
      interactions = o.interactions;
      components = c.count;
      cycles = a;
      reads = b;
      writes = e;
      undeclared = u.count;
      names = u.names;
      readers = u.readers;
    })
told_is s i o c d f g h = record {
  accepted = refl;
  findings = refl;
  interactions = refl;
  components = refl;
  cycles = d;
  reads = f;
  writes = g;
  undeclared = ap (λ (x : Undeclared). x.count) h;
  names = ap (λ (x : Undeclared). x.names) h;
  readers = ap (λ (x : Undeclared). x.readers) h;
}

pub given_few : (s : List ℕ) (i : Index) {d : Given} → d ≡ given_of s i → Bounds i →
    (d.entities.count ≤ 32) × (d.invariants.count ≤ 32) × (d.rules.count ≤ 32)
given_few s i e b = rw e (b.entities, b.invariants, b.rules)

-- the areas as they were cleared, the entries, and the notes
pub inserts : (s : List ℕ) (i : Index) (F I : List ℕ) {d : Given} {f₀ i₀ f k g : List ℕ} (x : Linted) (o : Out) →
    (f₀ ≡ replicate (length F) 0) × (i₀ ≡ replicate (length I) 0) → d ≡ given_of s i →
    Lints s (names_by i.entities.starts i.invariants.starts d) (section_of i.rules.starts d.rules)
    (board f₀ i₀ (record { findings = 0; interactions = 0; refusal = 0 })) x (board f k x.out) →
    ((y : List ℕ) → AllNotes s i.rules i.rules.count 0 (board f y x.out) (board g y o)) →
    Inserts s i F I (record { out = o; found = x.found }) (board g k o)
unfolding names_of
inserts s i F I {d} {f₀} {i₀} {f} {k} {g} x o z e h n = record {
  first = x;
  between = board f k x.out;
  entries =
      subst (λ (a : List ℕ). Lints s (names_of s i) i.rules
      (board a (replicate (length I) 0) (record { findings = 0; interactions = 0; refusal = 0 })) x (board f k x.out))
      z.0
      (subst (λ (a : List ℕ). Lints s (names_of s i) i.rules
      (board f₀ a (record { findings = 0; interactions = 0; refusal = 0 })) x (board f k x.out)) z.1
      (subst (λ (a : Given). Lints s (names_by i.entities.starts i.invariants.starts a)
      (section_of i.rules.starts a.rules) (board f₀ i₀ (record { findings = 0; interactions = 0; refusal = 0 })) x
      (board f k x.out)) e h));
  found = refl;
  notes = n k;
}

pub found_few : (s : List ℕ) (i : Index) (F I : List ℕ) (r : Linted) (e : Board) → Inserts s i F I r e → Bounds i →
    r.found.count ≤ 32
found_few s i F I r e h b = omega (
  arith,
  ap (λ (c : Components). c.count) h.found,
  h.entries.components.few,
  b.rules,
)
