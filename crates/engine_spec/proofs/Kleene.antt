-- Kleene's strong tables: their laws, and that they decide exactly what holds whatever the Unknowns turn out to be.
-- The value of a condition list is the conjunction of its members' values, in any order of the list.
use Prim.Native.Nat.{ℕ, min, max}
use mathlib.Core.Path.{◌≡◌, refl, sym, ap, ◌∙◌, subst}
use mathlib.Core.Logic.{◌↔◌, ∥∥₁_elim}
use mathlib.Core.Bool.{Bool, true, false, not, ◌&&◌, ◌||◌}
use mathlib.Core.List.{
  List,
  [],
  ◌∷◌,
  Permᴰ,
  Perm,
}
use Rattle.texts.proofs.Bool.{and_false}
use Rattle.texts.specs.Lists.{any, all, each}
use Rattle.model_spec.specs.Model.{Moment, Predicate}
use Rattle.engine_spec.specs.Cells.{Cell}
use Rattle.engine_spec.specs.Kleene.{
  Truth,
  Yes,
  No,
  Unknown,
  truth-is-set,
  not₃,
  ◌and₃◌,
  ◌or₃◌,
  all₃,
  is_yes,
  is_no,
  is_unknown,
  all_kleene,
}
use Rattle.engine_spec.specs.Truth.{evaluate, evaluate_all}

-- ---- the laws of `and`

pub and₃_unit : (t : Truth) → t and₃ Yes ≡ t
unfolding all_kleene
and₃_unit Yes = refl
and₃_unit No = refl
and₃_unit Unknown = refl

pub and₃_zero : (t : Truth) → t and₃ No ≡ No
unfolding all_kleene
and₃_zero Yes = refl
and₃_zero No = refl
and₃_zero Unknown = refl

pub and₃_idempotent : (t : Truth) → t and₃ t ≡ t
unfolding all_kleene
and₃_idempotent Yes = refl
and₃_idempotent No = refl
and₃_idempotent Unknown = refl

pub and₃_comm : (s t : Truth) → s and₃ t ≡ t and₃ s
unfolding all_kleene
and₃_comm Yes t = sym (and₃_unit t)
and₃_comm No t = sym (and₃_zero t)
and₃_comm Unknown Yes = refl
and₃_comm Unknown No = refl
and₃_comm Unknown Unknown = refl

pub and₃_assoc : (s t u : Truth) → (s and₃ t) and₃ u ≡ s and₃ (t and₃ u)
unfolding all_kleene
and₃_assoc Yes t u = refl
and₃_assoc No t u = refl
and₃_assoc Unknown Yes u = refl
and₃_assoc Unknown No u = refl
and₃_assoc Unknown Unknown Yes = refl
and₃_assoc Unknown Unknown No = refl
and₃_assoc Unknown Unknown Unknown = refl

-- ---- `and` is the minimum and `or` the maximum in the order No, Unknown, Yes; `not` turns the order round

unfoldable pub rank : Truth → ℕ
rank No = 0
rank Unknown = 1
rank Yes = 2

pub and₃_min : (s t : Truth) → rank (s and₃ t) ≡ min (rank s) (rank t)
unfolding all_kleene rank
and₃_min Yes Yes = refl
and₃_min Yes No = refl
and₃_min Yes Unknown = refl
and₃_min No Yes = refl
and₃_min No No = refl
and₃_min No Unknown = refl
and₃_min Unknown Yes = refl
and₃_min Unknown No = refl
and₃_min Unknown Unknown = refl

pub or₃_max : (s t : Truth) → rank (s or₃ t) ≡ max (rank s) (rank t)
unfolding all_kleene rank
or₃_max Yes Yes = refl
or₃_max Yes No = refl
or₃_max Yes Unknown = refl
or₃_max No Yes = refl
or₃_max No No = refl
or₃_max No Unknown = refl
or₃_max Unknown Yes = refl
or₃_max Unknown No = refl
or₃_max Unknown Unknown = refl

pub not₃_twice : (t : Truth) → not₃ (not₃ t) ≡ t
unfolding all_kleene
not₃_twice Yes = refl
not₃_twice No = refl
not₃_twice Unknown = refl

pub de_morgan : (s t : Truth) → not₃ (s and₃ t) ≡ not₃ s or₃ not₃ t
unfolding all_kleene
de_morgan Yes t = refl
de_morgan No t = refl
de_morgan Unknown Yes = refl
de_morgan Unknown No = refl
de_morgan Unknown Unknown = refl

-- ---- the strong property: a value is decided exactly if every way to settle the Unknowns gives it

-- b is what t may turn out to be
abbrev pub May : Truth → Bool → Type 0
May Yes b = b ≡ true
May No b = b ≡ false
May Unknown b = Unit {0}

-- each member may turn out to be what stands at its place
abbrev pub Settles : List Truth → List Bool → Type 0
Settles [] [] = Unit {0}
Settles [] (b ∷ bs) = ⊥
Settles (t ∷ l) [] = ⊥
Settles (t ∷ l) (b ∷ bs) = May t b × Settles l bs

and_true : (b : Bool) → b && true ≡ b
and_true true = refl
and_true false = refl

some_way : (t : Truth) → (b : Bool) × May t b
some_way Yes = (true, refl)
some_way No = (false, refl)
some_way Unknown = (true, tt)

-- ways to settle s and t that give c
abbrev pub Ways : Truth → Truth → Bool → Type 0
Ways s t c = (a : Bool) × (b : Bool) × May s a × May t b × (a && b ≡ c)

to_ways : (s t : Truth) (c : Bool) → May (s and₃ t) c → Ways s t c
unfolding ◌and₃◌
to_ways Yes t c m = (true, c, refl, m, refl)
to_ways No t c m = (false, (some_way t).0, refl, (some_way t).1, sym m)
to_ways Unknown Yes c m = (c, true, tt, refl, and_true c)
to_ways Unknown No c m = (true, false, tt, refl, sym m)
to_ways Unknown Unknown c m = (true, c, tt, tt, refl)

of_ways : (s t : Truth) (c : Bool) → Ways s t c → May (s and₃ t) c
unfolding ◌and₃◌
of_ways Yes t c w = subst (May t) (ap (λ (x : Bool). x && w.1) (sym w.2) ∙ w.4) w.3
of_ways No t c w = sym w.4 ∙ ap (λ (x : Bool). x && w.1) w.2
of_ways Unknown Yes c w = tt
of_ways Unknown No c w = sym w.4 ∙ ap (λ (x : Bool). w.0 && x) w.3 ∙ and_false w.0
of_ways Unknown Unknown c w = tt

pub and₃_strong : (s t : Truth) (c : Bool) → May (s and₃ t) c ↔ Ways s t c
and₃_strong s t c = (to_ways s t c, of_ways s t c)

pub all₃_strong : (l : List Truth) (c : Bool)
    → May (all₃ l) c ↔ ((bs : List Bool) × Settles l bs × (all (λ b. b) bs ≡ c))
unfolding all₃ all
all₃_strong [] c = (λ m. ([], tt, sym m), λ w. nil w.0 w.1 w.2)
  where
    nil : (bs : List Bool) → Settles [] bs → all (λ b. b) bs ≡ c → c ≡ true
    nil [] k e = sym e
    nil (b ∷ bs) k e = absurd k
all₃_strong (t ∷ l) c = (
  λ m. there (to_ways t (all₃ l) c m) (λ d n. (all₃_strong l d).0 n),
  λ w. back w.0 w.1 w.2
      (λ d n. (all₃_strong l d).1 n),
)
  where
    Rest : Bool → Type 0
    Rest d = (bs : List Bool) × Settles l bs × (all (λ b. b) bs ≡ d)

    there : Ways t (all₃ l) c → ((d : Bool) → May (all₃ l) d → Rest d)
        → (bs : List Bool) × Settles (t ∷ l) bs × (all (λ b. b) bs ≡ c)
    there w rest =
        let r : Rest w.1 = rest w.1 w.3 in
        (w.0 ∷ r.0, (w.2, r.1), ap (λ (x : Bool). w.0 && x) r.2 ∙ w.4)

    back : (bs : List Bool) → Settles (t ∷ l) bs → all (λ b. b) bs ≡ c → ((d : Bool) → Rest d → May (all₃ l) d)
        → May (t and₃ all₃ l) c
    back [] k e rest = absurd k
    back (b ∷ bs) k e rest =
        let d = all (λ b. b) bs in
        of_ways t (all₃ l) c (b, d, k.0, rest d (bs, k.1, refl), e)

-- ---- condition lists

pub conditions_are : (m : Moment) (ps : List Predicate) (l : List Cell)
    → evaluate_all m ps l ≡ all₃ (each (λ p. evaluate m p l) ps)
unfolding evaluate_all all₃ each
conditions_are m [] l = refl
conditions_are m (p ∷ ps) l = ap (λ (t : Truth). evaluate m p l and₃ t) (conditions_are m ps l)

permuted : {ps qs : List Predicate} (m : Moment) (l : List Cell) → Permᴰ ps qs
    → evaluate_all m ps l ≡ evaluate_all m qs l
unfolding evaluate_all
permuted m l Permᴰ.nil = refl
permuted m l (Permᴰ.cons e d) = λ i. evaluate m (e i) l and₃ permuted m l d i
permuted m l (Permᴰ.swap {a} {b} {l = ps} e f) =
    sym (and₃_assoc (evaluate m a l) (evaluate m b l) (evaluate_all m ps l))
    ∙ ap (λ (t : Truth). t and₃ evaluate_all m ps l) (and₃_comm (evaluate m a l) (evaluate m b l))
    ∙ and₃_assoc (evaluate m b l) (evaluate m a l) (evaluate_all m ps l)
    ∙ (λ i. evaluate m (f i) l and₃ evaluate m (e i) l and₃ evaluate_all m ps l)
permuted m l (Permᴰ.trans d f) = permuted m l d ∙ permuted m l f

-- the order of the list doesn't matter
pub any_order : {ps qs : List Predicate} (m : Moment) (l : List Cell) → Perm ps qs
    → evaluate_all m ps l ≡ evaluate_all m qs l
any_order {ps} {qs} m l p = ∥∥₁_elim p (truth-is-set (evaluate_all m ps l) (evaluate_all m qs l)) (permuted m l)

and_no : (s t : Truth) → is_no (s and₃ t) ≡ is_no s || is_no t
unfolding all_kleene
and_no Yes t = refl
and_no No t = refl
and_no Unknown Yes = refl
and_no Unknown No = refl
and_no Unknown Unknown = refl

and_yes : (s t : Truth) → is_yes (s and₃ t) ≡ is_yes s && is_yes t
unfolding all_kleene
and_yes Yes t = refl
and_yes No t = refl
and_yes Unknown Yes = refl
and_yes Unknown No = refl
and_yes Unknown Unknown = refl

third : (t : Truth) → is_unknown t ≡ not (is_no t) && not (is_yes t)
unfolding all_kleene
third Yes = refl
third No = refl
third Unknown = refl

-- No exactly if some member is No
pub no_if_some : (m : Moment) (ps : List Predicate) (l : List Cell)
    → is_no (evaluate_all m ps l) ≡ any (λ p. is_no (evaluate m p l)) ps
unfolding evaluate_all any is_no
no_if_some m [] l = refl
no_if_some m (p ∷ ps) l =
    and_no (evaluate m p l) (evaluate_all m ps l) ∙ ap (λ (b : Bool). is_no (evaluate m p l) || b) (no_if_some m ps l)

-- Yes exactly if all members are Yes
pub yes_if_all : (m : Moment) (ps : List Predicate) (l : List Cell)
    → is_yes (evaluate_all m ps l) ≡ all (λ p. is_yes (evaluate m p l)) ps
unfolding evaluate_all all is_yes
yes_if_all m [] l = refl
yes_if_all m (p ∷ ps) l =
    and_yes (evaluate m p l) (evaluate_all m ps l) ∙ ap (λ (b : Bool). is_yes (evaluate m p l) && b) (yes_if_all m ps l)

-- Unknown otherwise
pub unknown_otherwise : (m : Moment) (ps : List Predicate) (l : List Cell)
    → is_unknown (evaluate_all m ps l)
    ≡ not (any (λ p. is_no (evaluate m p l)) ps) && not (all (λ p. is_yes (evaluate m p l)) ps)
unknown_otherwise m ps l =
    third (evaluate_all m ps l) ∙ (λ i. not (no_if_some m ps l i) && not (yes_if_all m ps l i))
