-- The checks of a whole model say what `Validate` says of the model that the file holds.
use Rattle.std.specs.Prelude.{if◌then◌else◌}
use mathlib.Core.Path.{◌≡◌, refl, sym, ap, ◌∙◌, subst}
use mathlib.Core.List.{List, [], ◌∷◌, ◌++◌}
use mathlib.Core.Bool.{Bool, true, false, ◌||◌, not}
use Prim.Native.Nat.{ℕ, ◌+◌, ◌≤◌, ◌<◌}
use native.Mathlib.Omega.{arith}
use lib.ListN.{length, get_or}
use lib.Dec.{ltb, eqb}
use borrow.Author.Tests.{ltb-false}
use Rattle.texts.specs.Lists.{any, each}
use Rattle.texts.specs.Texts.{Text, text, mem_t}
use Rattle.texts.specs.Places.{text_at, start_from}
use Rattle.model_spec.specs.Answer.{Answer, answer, refused, Verdict, ◌>>=◌, ◌and◌, ◌when◌, each_accepted}
use Rattle.model_spec.specs.Model.{Limits, Scenario, Model}
use Rattle.model_spec.specs.File.{got, Reader, u32, limits, entity, input, event, invariant, automation, decode}
use Rattle.model_spec.specs.Validate.{
  day,
  ordered,
  bad_title,
  bad_size,
  bad_limits,
  bad_start,
  bad_alphabet,
  bad_events,
  check_input,
  check_entity,
  check_invariants,
  check_rules,
  validate,
  accepted,
}
use Rattle.model_walk.proofs.Found.{Case, is_true, is_false, case, bound, given, place_found}
use Rattle.model_parts.specs.declared.Section.{Section}
use Rattle.model_parts.specs.Parts.{section}
use Rattle.model_parts.specs.Stand.{Reads}
use Rattle.model_order.specs.Order.{place_from, Fixed}
use Rattle.model_order.proofs.Places.{same_place, texts_ascend, placed_text, fixed_at, fixed_texts}
use Rattle.model_index.specs.declared.Index.{Index}
use Rattle.model_index.specs.declared.File.{File}
use Rattle.model_index.specs.declared.Status.TheVariants as status
use Rattle.model_index.specs.declared.Outline.{Outline}
use Rattle.model_index.specs.Index.{refused_m, refusal_m, whole_m, index_of, file_of}
use Rattle.model_index.proofs.Laws as index
use Rattle.model_index.specs.Indexed.{Holds, Indexed, Says}
use Rattle.model_check.specs.declared.Checked.{Checked}
use Rattle.model_check.specs.declared.Checked.TheVariants as checked
use Rattle.model_check.specs.declared.Declared.{Declared}
use Rattle.model_check.specs.Checks.{Declaration, declaration, refuse_if}
use Rattle.model_check.proofs.Refines.{after, and_assoc, accept_and, next_and, refuse_if_is, Grounded}
use Rattle.model_validate.specs.declared.Validity.TheVariants as validity
use Rattle.model_validate.specs.Contract.{validity_of, validated}
use Rattle.model_validate.specs.declared.Numbers.{Numbers}
use Rattle.model_sections.specs.declared.Part.TheVariants as part
use Rattle.model_sections.specs.Sections.{seconds_bad, gaps_bad, parts_m}
use Rattle.model_validate.specs.ModelChecks.{
  title_bad,
  size_bad,
  limits_bad,
  start_bad,
  alphabet_bad,
  orders_m,
  Small,
  sections_m,
  model_m,
  declared_in,
  declared_of,
  numbers_of,
  index_m,
}
use Rattle.model_sections.proofs.Laws as parts
use Rattle.model_sections.proofs.Refines.{
  empty_is,
  from_start,
  section_agrees,
  no_ids,
  entity_agrees,
  event_agrees,
  input_agrees,
  invariants_agree,
  rules_agree,
  ordered_all,
  seconds_agree,
  gaps_agree,
}
use Rattle.model_validate.proofs.Laws as laws

-- ---- answers

-- what the check of a model says
unfoldable pub outcome : Model → Checked → Answer Model
outcome m (checked.To p n) = answer m
outcome m (checked.Refused k) = refused k

outcome_after : (m : Model) (x : Answer ℕ) → outcome m (after 0 x) ≡ (x >>= λ n. answer m)
unfolding outcome after ◌>>=◌
outcome_after m (answer n) = refl
outcome_after m (refused k) = refl

-- a test ahead of the others
ahead : (m : Model) (k : ℕ) (b : Bool) (y : Checked) (w : Answer Model) → (b ≡ false → outcome m y ≡ w) →
    outcome m (if b then checked.Refused k else y) ≡ (k when b and w)
unfolding outcome ◌when◌ ◌and◌
ahead m k true y w h = refl
ahead m k false y w h = h refl

and_to : {A B : Type 0} (v : Verdict) (x : Answer A) (f : A → Answer B) → ((v and x) >>= f) ≡ (v and (x >>= f))
unfolding ◌>>=◌ ◌and◌
and_to (answer tt) x f = refl
and_to (refused k) x f = refl

accepted_both : {A B C : Type 0} (c : B → Verdict) (f : A → B) (l : List A) (r : List B) (x : Answer C) →
    (each_accepted c (each f l ++ r) and x) ≡ (each_accepted (λ a. c (f a)) l and (each_accepted c r and x))
unfolding each_accepted each
accepted_both c f [] r x = sym (accept_and (each_accepted c r and x))
accepted_both {A} {B} {C} c f (a ∷ l) r x =
    and_assoc (c (f a)) (each_accepted c (each f l ++ r)) x
    ∙ ap (λ (y : Answer C). c (f a) and y) (accepted_both c f l r x)
    ∙ sym (and_assoc (c (f a)) (each_accepted (λ a. c (f a)) l) (each_accepted c r and x))

third : (a e g h : Bool) → (a || e || true || g) ≡ (a || e || true || h)
third true e g h = refl
third false true g h = refl
third false false g h = refl

or_if : {A : Type 0} (a b : Bool) (x y : A) → (if a then x else if b then x else y) ≡ (if a || b then x else y)
or_if true b x y = refl
or_if false b x y = refl

horizon_of : (s : List ℕ) (p : ℕ) (l : Limits) (q : ℕ) → limits s p ≡ got l q → (o : ℕ) × (u32 s p ≡ got l.horizon o)
unfolding limits
horizon_of s p l q e =
    let h = bound u32 _ e in
    let m = bound u32 _ h.rest in
    let d = bound u32 _ m.rest in
    let c = bound u32 _ d.rest in
    let z = given _ _ _ c.rest in
    (h.next, h.first ∙ ap (λ (y : Limits). got y.horizon h.next) z.0)

-- ---- the model of an index
module _ (s : List ℕ) (i : Index) (m : Model) (x : Indexed s i m) where
  abbrev sc : Scenario
  sc = m.scenario

  abbrev dd : Declaration
  dd = declared_of s i

  abbrev nn : Numbers
  nn = numbers_of i

  title_agrees : title_bad s nn ≡ bad_title sc
  unfolding title_bad bad_title
  title_agrees =
      let p = place_found x.ts x.title.1 in
      rw (p.is_place, title_bad) (
      ap (λ (v : ℕ). not (eqb v 1) || ltb 200 (length (text_at s (start_from s 6 p.at)))) x.version
      ∙ ap (λ (t : Text). not (eqb sc.version 1) || ltb 200 (length t))
      (placed_text s x.all_texts.1 p.at p.is_in ∙ sym p.is_text))

  sized : size_bad i.entities.count nn ≡ bad_size m
  unfolding size_bad bad_size
  sized = rw (x.entities.counts, x.rules.counts, x.events.counts, x.invariants.counts)
      (ap (λ (b : Bool). b || ltb 32 (length sc.entities) || ltb 32 (length m.rules) || ltb 100 (length sc.events)
      || ltb 32 (length sc.invariants)) (sym (empty_is sc.entities)))

  size_agrees : size_bad dd.count nn ≡ bad_size m
  size_agrees = ap (λ (c : ℕ). size_bad c nn) (laws.declared_count s i.texts.count i.entities.count) ∙ sized

  limits_agree : limits_bad s i.limits ≡ bad_limits sc.limits
  limits_agree = laws.limits_read s i.limits x.limits_at.1

  start_agrees : start_bad s i.rules.end ≡ bad_start m.start
  start_agrees = laws.start_read s x.rules_end x.start_at.1

  alphabet_agrees : alphabet_bad s nn i.gaps.starts ≡ bad_alphabet sc
  unfolding alphabet_bad bad_alphabet
  alphabet_agrees = rw (x.alphabet.counts, x.gaps.counts)
      (cases (case (ltb 4 (length sc.gaps))) ∙ ap (λ (b : Bool). ltb 12 (length sc.alphabet) || b
      || ltb 4 (length sc.gaps) || any (ltb day) sc.gaps) (sym (empty_is sc.gaps)))
    where
      a : Bool
      a = ltb 12 (length sc.alphabet)

      e : Bool
      e = eqb (length sc.gaps) 0

      cases : Case (ltb 4 (length sc.gaps)) →
          (a || e || ltb 4 (length sc.gaps) || gaps_bad i.gaps.starts s (length sc.gaps) 0)
          ≡ (a || e || ltb 4 (length sc.gaps) || any (ltb day) sc.gaps)
      cases (is_true h) = rw h (third a e (gaps_bad i.gaps.starts s (length sc.gaps) 0) (any (ltb day) sc.gaps))
      cases (is_false h) = ap (λ (b : Bool). a || e || ltb 4 (length sc.gaps) || b)
          (gaps_agree s x.ts i.gaps.starts sc.gaps 0 (λ a₀ k o.
          let z : k ≡ 0 + k = omega arith in
          subst (λ (j : ℕ). Reads u32 s (get_or i.gaps.starts j 0) (get_or sc.gaps k a₀)) z
          (x.gaps.stand a₀ k (omega (arith, ltb-false 4 (length sc.gaps) h)) o)))

  horizon_read : (q : ℕ) × (u32 s i.limits ≡ got sc.limits.horizon q)
  horizon_read = horizon_of s i.limits sc.limits x.limits_at.0 x.limits_at.1

  module _ (small : Small i.entities.count nn) where
    few : {A : Type 0} (r : Reader A) (y : Section) (l : List A) → Holds r s y l → y.count ≤ 100 → length l ≤ 100
    few r y l h o = omega (arith, h.counts)

    grounded : Grounded s dd x.ts sc.entities
    unfolding declared_in
    grounded =
        let e = x.all_texts.1 in
        let f = fixed_texts s e in
        let at : (w : Text) → mem_t w x.ts ≡ true → Fixed x.ts (place_from i.texts.count 0 w s 6) w =
        λ w h. subst (λ (c : ℕ). Fixed x.ts (place_from c 0 w s 6) w) (sym x.each_text.counts)
        (fixed_at s e w h) in
        record {
          same = same_place x.ts (texts_ascend s e);
          counts = x.entities.counts;
          few = few (entity x.ts) i.entities sc.entities x.entities small.entities;
          stand = x.entities.stand;
          on = at (text "on") f.on;
          off = at (text "off") f.off;
          unknown = at (text "unknown") f.unknown;
          unavailable = at (text "unavailable") f.unavailable;
        }

    start : {A : Type 0} (r : Reader A) (y : Section) (l : List A) → Holds r s y l → y.count ≤ 100 → (a₀ : A) (k : ℕ) →
        k < length l → Reads r s (get_or y.starts (0 + k) 0) (get_or l k a₀)
    start r y l h o = from_start s x.ts x.all_texts dd sc.entities grounded r y l h (few r y l h o)

    orders_agree : (n : ℕ) → orders_m nn i.events.starts s 0 n
        ≡ after 0 (9 when bad_events sc.limits.horizon sc.events and answer n)
    unfolding orders_m bad_events
    orders_agree n =
        let h = sc.limits.horizon in
        rw (horizon_read.1, orders_m) (
        ap (λ (c : ℕ). refuse_if 9 (seconds_bad h i.events.starts s c 0 0) s 0 n) x.events.counts
        ∙ ap (λ (b : Bool). refuse_if 9 b s 0 n) (seconds_agree s x.ts i.events.starts h sc.events 0 0
        (start (event x.ts) i.events sc.events x.events small.events)
        ∙ ap (λ (b : Bool). any (λ e. ltb h e.at) sc.events || not b) (ordered_all sc.events))
        ∙ refuse_if_is s 9 (any (λ e. ltb h e.at) sc.events || not (ordered sc.events)) 0 n)

    sections_agree : sections_m dd nn i.events.starts i.invariants.starts i.alphabet.starts i.rules.starts
        s 0 0 ≡ after 0 (
        each_accepted (check_entity sc.entities) sc.entities
        and (each_accepted (λ e. check_input sc.entities e.input) sc.events
        and (each_accepted (check_input sc.entities) sc.alphabet
        and (9 when bad_events sc.limits.horizon sc.events
        and (check_invariants sc.entities [] sc.invariants
        and check_rules sc.entities [] m.rules 0)))))
    sections_agree =
        let es = sc.entities in
        let v₁ : Verdict = each_accepted (check_entity es) es in
        let v₂ : Verdict = each_accepted (λ e. check_input es e.input) sc.events in
        let v₃ : Verdict = each_accepted (check_input es) sc.alphabet in
        let v₄ : Verdict = 9 when bad_events sc.limits.horizon sc.events in
        let v₅ : Verdict = check_invariants es [] sc.invariants in
        let rs : ℕ → Answer ℕ = check_rules es [] m.rules in
        let t = x.all_texts in
        laws.sections_are dd nn i.events.starts i.invariants.starts i.alphabet.starts i.rules.starts s 0 0
        ∙ next_and s _ _ 0 0 0 0 v₁ (λ n. v₂ and (v₃ and (v₄ and (v₅ and rs n))))
        (ap (λ (c : ℕ). parts_m dd part.Entity i.entities.starts c 0 s 0)
        (laws.declared_count s i.texts.count i.entities.count)
        ∙ section_agrees s x.ts t dd es grounded (entity x.ts) (check_entity es) part.Entity i.entities es
        (λ j p n a q e. parts.part_entity dd s p n i.entities.starts j refl
        ∙ entity_agrees s x.ts t dd es grounded p n a q e) x.entities
        (few (entity x.ts) i.entities es x.entities small.entities) 0)
        (λ n₁. next_and s _ _ 0 n₁ 0 0 v₂ (λ n. v₃ and (v₄ and (v₅ and rs n)))
        (section_agrees s x.ts t dd es grounded (event x.ts) (λ e. check_input es e.input) part.Event i.events
        sc.events (λ j p n a q e. parts.part_event dd s p n i.events.starts j refl
        ∙ event_agrees s x.ts t dd es grounded p n a q e) x.events
        (few (event x.ts) i.events sc.events x.events small.events) n₁)
        (λ n₂. next_and s _ _ 0 n₂ 0 0 v₃ (λ n. v₄ and (v₅ and rs n))
        (section_agrees s x.ts t dd es grounded (input x.ts) (check_input es) part.Input i.alphabet sc.alphabet
        (λ j p n a q e. parts.part_input dd s p n i.alphabet.starts j refl
        ∙ input_agrees s x.ts t dd es grounded p n a q e) x.alphabet
        (few (input x.ts) i.alphabet sc.alphabet x.alphabet small.alphabet) n₂)
        (λ n₃. next_and s _ _ 0 n₃ 0 0 v₄ (λ n. v₅ and rs n)
        (orders_agree n₃)
        (λ n₄. next_and s _ _ 0 n₄ 0 0 v₅ rs
        (ap (λ (c : ℕ). parts_m dd part.Invariant i.invariants.starts c 0 s n₄) x.invariants.counts
        ∙ invariants_agree s x.ts t dd es grounded i.invariants.starts sc.invariants 0 n₄ []
        (no_ids s x.ts t dd es grounded part.Invariant i.invariants.starts)
        (start (invariant x.ts) i.invariants sc.invariants x.invariants small.invariants))
        (λ n₅. ap (λ (c : ℕ). parts_m dd part.Rule i.rules.starts c 0 s n₅) x.rules.counts
        ∙ rules_agree s x.ts t dd es grounded i.rules.starts m.rules 0 n₅ []
        (no_ids s x.ts t dd es grounded part.Rule i.rules.starts)
        (start (automation x.ts) i.rules m.rules x.rules small.rules))))))

  -- the whole model
  pub model_agrees : outcome m (index_m i s) ≡ validate m
  unfolding model_m validate
  model_agrees =
      let es = sc.entities in
      rw (title_agrees, limits_agree, start_agrees) (
      ahead m 1 (bad_title sc) _ _ λ a.
      ap (λ (b : Bool). outcome m (if b then checked.Refused 2 else if bad_limits sc.limits then checked.Refused 3
      else if bad_start m.start then checked.Refused 3 else if alphabet_bad s nn i.gaps.starts
      then checked.Refused 4 else sections_m dd nn i.events.starts i.invariants.starts i.alphabet.starts
      i.rules.starts s 0 0)) size_agrees
      ∙ (ahead m 2 (bad_size m) _ _ λ b.
      ap (outcome m) (or_if (bad_limits sc.limits) (bad_start m.start) _ _) ∙ (
      ahead m 3 (bad_limits sc.limits || bad_start m.start) _ _ λ c.
      ap (λ (b : Bool). outcome m (if b then checked.Refused 4
      else sections_m dd nn i.events.starts i.invariants.starts i.alphabet.starts i.rules.starts s 0 0))
      alphabet_agrees
      ∙ (ahead m 4 (bad_alphabet sc) _ _ λ d.
      ap (outcome m)
      (sections_agree (laws.small s i.entities.count nn i.gaps.starts (sized ∙ b) (alphabet_agrees ∙ d)))
      ∙ outcome_after m _
      ∙ and_to (each_accepted (check_entity es) es) _ _
      ∙ ap (λ (y : Answer Model). each_accepted (check_entity es) es and y) (
      and_to (each_accepted (λ e. check_input es e.input) sc.events) _ _
      ∙ ap (λ (y : Answer Model). each_accepted (λ e. check_input es e.input) sc.events and y) (
      and_to (each_accepted (check_input es) sc.alphabet) _ _
      ∙ ap (λ (y : Answer Model). each_accepted (check_input es) sc.alphabet and y) (
      and_to (9 when bad_events sc.limits.horizon sc.events) _ _
      ∙ ap (λ (y : Answer Model). 9 when bad_events sc.limits.horizon sc.events and y) (
      and_to (check_invariants es [] sc.invariants) _ _)))
      ∙ sym (accepted_both (check_input es) (λ e. e.input) sc.events sc.alphabet _))))))

-- ---- the entries

-- the file's answer, by what decoding it says
module _ (s : List ℕ) (file : File) where
  read_or_not : {k : ℕ} → file.status ≡ status.Read → file.status ≡ status.Refused k → ⊥
  read_or_not a b = let z : ◌≡◌ {A = ℕ} 0 1 = cc in omega arith

  refused_status : (k : ℕ) → file ≡ refused_m k → file.status ≡ status.Refused k
  unfolding refused_m
  refused_status k e = ap (λ (f : File). f.status) e

  pub stays_refused : Says s file (decode s) → {k : ℕ} → file.status ≡ status.Refused k → Says s file (accepted s)
  unfolding accepted ◌>>=◌
  stays_refused says e = cases (decode s) says
    where
      cases : (a : Answer Model) → Says s file a → Says s file (a >>= validate)
      cases (answer m) h = absurd (read_or_not h.is_read e)
      cases (refused k) h = h

  module _ (r : file.status ≡ status.Read) {x : Checked} (e : x ≡ index_m file.index s) where
    -- what the check says of the model that was read
    verdict : (m : Model) → Indexed s file.index m → outcome m x ≡ validate m
    verdict m i = ap (outcome m) e ∙ model_agrees s file.index m i

    pub is_accepted : Says s file (decode s) → {p n : ℕ} → x ≡ checked.To p n → Says s file (accepted s)
    unfolding accepted ◌>>=◌ outcome
    is_accepted says h = cases (decode s) says
      where
        cases : (a : Answer Model) → Says s file a → Says s file (a >>= validate)
        cases (answer m) y = subst (Says s file) (sym (ap (outcome m) h) ∙ verdict m y.indexed) y
        cases (refused k) y = absurd (read_or_not r (refused_status k y))

    pub is_refused : Says s file (decode s) → {k : ℕ} → x ≡ checked.Refused k → {f : File} → f ≡ refused_m k →
        Says s f (accepted s)
    unfolding accepted ◌>>=◌ outcome
    is_refused says {k} h {f} o = cases (decode s) says
      where
        cases : (a : Answer Model) → Says s file a → Says s f (a >>= validate)
        cases (answer m) y = subst (Says s f) (sym (ap (outcome m) h) ∙ verdict m y.indexed) o
        cases (refused i) y = absurd (read_or_not r (refused_status i y))

  -- the entry `validate`, from the status
  pub valid_read : Says s file (accepted s) → file.status ≡ status.Read → validity.Accepted ≡ validated s
  unfolding validated validity_of
  valid_read says e = cases (accepted s) says
    where
      cases : (a : Answer Model) → Says s file a → validity.Accepted ≡ validity_of a
      cases (answer m) h = refl
      cases (refused k) h = absurd (read_or_not e (refused_status k h))

  pub valid_refused : Says s file (accepted s) → {k : ℕ} → file.status ≡ status.Refused k → validity.Refused k ≡ validated s
  unfolding validated validity_of
  valid_refused says {k} e = cases (accepted s) says
    where
      cases : (a : Answer Model) → Says s file a → validity.Refused k ≡ validity_of a
      cases (answer m) h = absurd (read_or_not h.is_read e)
      cases (refused i) h = let z : status.Refused k ≡ status.Refused i = sym e ∙ refused_status i h in (cc)

  -- the model of a file that was accepted, or the number that refuses it: what every entry goes on from
  pub accept_read : Says s file (accepted s) → file.status ≡ status.Read →
      (m : Model) × ((accepted s ≡ answer m) × Indexed s file.index m)
  accept_read says e = cases (accepted s) refl says
    where
      cases : (a : Answer Model) → accepted s ≡ a → Says s file a →
          (m : Model) × ((accepted s ≡ answer m) × Indexed s file.index m)
      cases (answer m) z h = (m, (z, h.indexed))
      cases (refused k) z h = absurd (read_or_not e (refused_status k h))

  pub accept_refused : Says s file (accepted s) → {k : ℕ} → file.status ≡ status.Refused k → accepted s ≡ refused k
  accept_refused says {k} e = cases (accepted s) refl says
    where
      cases : (a : Answer Model) → accepted s ≡ a → Says s file a → accepted s ≡ refused k
      cases (answer m) z h = absurd (read_or_not h.is_read e)
      cases (refused i) z h =
          let y : status.Refused k ≡ status.Refused i = sym e ∙ refused_status i h in
          let same : k ≡ i = cc in
          z ∙ ap refused (sym same)

-- the same of an outline and its positions
module _ (o : Outline) (t e v i a g r : List ℕ) where
  pub is_read : o.status ≡ status.Read → (file_of o t e v i a g r).status ≡ status.Read
  is_read h = ap (λ (f : File). f.status) (index.file_read o t e v i a g r h)

  pub is_refusal : {k : ℕ} → o.status ≡ status.Refused k → (file_of o t e v i a g r).status ≡ status.Refused k
  unfolding refused_m
  is_refusal h = ap (λ (f : File). f.status) (index.file_refused o t e v i a g r h)

  module _ (s : List ℕ) (says : Says s (file_of o t e v i a g r) (decode s)) where
    pub outline_refused : {k : ℕ} → o.status ≡ status.Refused k → Says s (file_of o t e v i a g r) (accepted s)
    outline_refused h = stays_refused s (file_of o t e v i a g r) says (is_refusal h)

    module _ (h : o.status ≡ status.Read) {d : Declared} {x : Checked}
        (c : x ≡ model_m (declaration d e)
        (numbers_of (index_of o.front t e v i (section o.alphabet a) (section o.gaps g) o.limits
        (section o.rules r))) v i a g r s)
        (f : d ≡ declared_in s o.front.texts.count o.front.entities.count) where
      abbrev ii : Index
      ii = index_of o.front t e v i (section o.alphabet a) (section o.gaps g) o.limits (section o.rules r)

      read_says : Says s (whole_m ii) (decode s)
      read_says = subst (λ (y : File). Says s y (decode s)) (index.file_read o t e v i a g r h) says

      pub outline_accepted : {p n : ℕ} → x ≡ checked.To p n → Says s (file_of o t e v i a g r) (accepted s)
      outline_accepted k = subst (λ (y : File). Says s y (accepted s)) (sym (index.file_read o t e v i a g r h))
          (is_accepted s (whole_m ii) refl (laws.model_with s ii c f) read_says k)

      pub outline_checked : {k : ℕ} → x ≡ checked.Refused k → (u : Outline) → u ≡ refusal_m k →
          Says s (file_of u t e v i a g r) (accepted s)
      outline_checked k u m = is_refused s (whole_m ii) refl (laws.model_with s ii c f) read_says k
          (index.file_refusal u t e v i a g r m)

pub file_says : (s : List ℕ) {f x : File} → f ≡ x → Says s x (accepted s) → Says s f (accepted s)
file_says s e h = subst (λ (y : File). Says s y (accepted s)) (sym e) h
