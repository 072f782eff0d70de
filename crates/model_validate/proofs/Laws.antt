-- The laws that the proofs of this crate's functions cite.
use Rattle.std.specs.Prelude.{Some, None}
use mathlib.Core.Path.{◌≡◌, refl, sym, ap, ◌∙◌}
use mathlib.Core.List.{List}
use mathlib.Core.Bool.{Bool, true, false, ◌||◌}
use Prim.Native.Nat.{ℕ, ◌≤◌, ◌<◌}
use native.Mathlib.Omega.{arith}
use lib.ListN.{length}
use native.Mathlib.Decide.{dec_lt}
use lib.Dec.{ltb, leb, eqb}
use borrow.Author.Tests.{lt-ltb, le-ltb, le-leb, lt-leb, eq-eqb, ne_eqb, ltb-false}
use Rattle.texts.specs.Texts.{text}
use Rattle.texts.specs.Places.{text_at, start_from}
use Rattle.texts.proofs.Ordering.{not_both}
use Rattle.model_spec.specs.Model.{Limits, Moment, midnight}
use Rattle.model_spec.specs.File.{got, broken, give, u16, u32, or_zeros, start, limits}
use Rattle.model_spec.specs.Validate.{bad_limits, bad_start}
use Rattle.model_walk.specs.Walk.{Num, Walked, found}
use Rattle.model_walk.proofs.Laws.{is_got, is_broken, bind_got, bind_broken}
use Rattle.model_order.specs.Order.{place_from}
use Rattle.model_index.specs.declared.Index.{Index}
use Rattle.model_check.specs.declared.Checked.{Checked}
use Rattle.model_check.specs.declared.Checked.TheVariants as checked
use Rattle.model_check.specs.declared.Declared.{Declared}
use Rattle.model_check.specs.Checks.{Declaration, declaration, ◌⨾◌}
use Rattle.model_check.proofs.Laws as checks
use Rattle.model_validate.specs.declared.Numbers.{Numbers}
use Rattle.model_sections.specs.declared.Part.TheVariants as part
use Rattle.model_sections.specs.Sections.{seconds_bad, gaps_bad, parts_m}
use Rattle.model_validate.specs.ModelChecks.{
  title_bad,
  size_bad,
  limits_bad,
  start_bad,
  alphabet_bad,
  orders_m,
  Small,
  sections_m,
  model_m,
  declared_in,
  numbers_of,
  index_m,
}

-- ---- the tests before the sections

module _ (s : List ℕ) (i : Numbers) {a : Num} (e : found a ≡ u16 s i.title) where
  pub title_broken : a ≡ None → title_bad s i ≡ false
  unfolding title_bad
  title_broken h = rw (is_broken e h, title_bad)

  module _ {x q : ℕ} (h : a ≡ Some (x, q)) where
    pub title_version : (i.version ≡ 1 → ⊥) → title_bad s i ≡ true
    unfolding title_bad
    title_version k = rw (is_got e h, title_bad) (rw (ne_eqb i.version 1 k))

    pub title_length : {n : ℕ} → i.version ≡ 1 → n ≡ length (text_at s (start_from s 6 x)) → title_bad s i ≡ ltb 200 n
    unfolding title_bad
    title_length k f = rw (is_got e h, title_bad) (rw (eq-eqb i.version 1 k) (ap (ltb 200) (sym f)))

module _ (c : ℕ) (i : Numbers) where
  pub size_1 : c ≡ 0 → size_bad c i ≡ true
  unfolding size_bad
  size_1 h = rw (eq-eqb c 0 h)

  module _ (a : c ≡ 0 → ⊥) where
    pub size_2 : 32 < c → size_bad c i ≡ true
    unfolding size_bad
    size_2 h = rw (ne_eqb c 0 a, lt-ltb 32 c h)

    module _ (b : c ≤ 32) where
      pub size_3 : 32 < i.rules → size_bad c i ≡ true
      unfolding size_bad
      size_3 h = rw (ne_eqb c 0 a, le-ltb 32 c b, lt-ltb 32 i.rules h)

      module _ (r : i.rules ≤ 32) where
        pub size_4 : 100 < i.events → size_bad c i ≡ true
        unfolding size_bad
        size_4 h = rw (ne_eqb c 0 a, le-ltb 32 c b, le-ltb 32 i.rules r, lt-ltb 100 i.events h)

        pub size_5 : i.events ≤ 100 → size_bad c i ≡ ltb 32 i.invariants
        unfolding size_bad
        size_5 h = rw (ne_eqb c 0 a, le-ltb 32 c b, le-ltb 32 i.rules r, le-ltb 100 i.events h)

module _ (h m d c : ℕ) where
  numbers : Limits
  numbers = record { horizon = h; max_steps = m; search_depth = d; max_cases = c }

  pub limits_1 : 86400 < h → bad_limits (record { horizon = h; max_steps = m; search_depth = d; max_cases = c }) ≡ true
  unfolding bad_limits
  limits_1 a = rw (lt-ltb 86400 h a)

  module _ (a : h ≤ 86400) where
    pub limits_2 : m ≡ 0 → bad_limits (record { horizon = h; max_steps = m; search_depth = d; max_cases = c }) ≡ true
    unfolding bad_limits
    limits_2 b = rw (le-ltb 86400 h a, eq-eqb m 0 b)

    module _ (b : m ≡ 0 → ⊥) where
      pub limits_3 : 10000 < m → bad_limits (record { horizon = h; max_steps = m; search_depth = d; max_cases = c }) ≡ true
      unfolding bad_limits
      limits_3 e = rw (le-ltb 86400 h a, ne_eqb m 0 b, lt-ltb 10000 m e)

      module _ (e : m ≤ 10000) where
        pub limits_4 : 5 < d → bad_limits (record { horizon = h; max_steps = m; search_depth = d; max_cases = c }) ≡ true
        unfolding bad_limits
        limits_4 f = rw (le-ltb 86400 h a, ne_eqb m 0 b, le-ltb 10000 m e, lt-ltb 5 d f)

        module _ (f : d ≤ 5) where
          pub limits_5 : c ≡ 0 → bad_limits (record { horizon = h; max_steps = m; search_depth = d; max_cases = c }) ≡ true
          unfolding bad_limits
          limits_5 g = rw (le-ltb 86400 h a, ne_eqb m 0 b, le-ltb 10000 m e, le-ltb 5 d f, eq-eqb c 0 g)

          pub limits_6 : (c ≡ 0 → ⊥) → bad_limits (record { horizon = h; max_steps = m; search_depth = d; max_cases = c })
              ≡ ltb 2000 c
          unfolding bad_limits
          limits_6 g = rw (le-ltb 86400 h a, ne_eqb m 0 b, le-ltb 10000 m e, le-ltb 5 d f, ne_eqb c 0 g)

pub limits_read : (s : List ℕ) (p : ℕ) {l : Limits} {q : ℕ} → limits s p ≡ got l q → limits_bad s p ≡ bad_limits l
unfolding limits_bad
limits_read s p e = rw (e, limits_bad)

pub limits_broken : (s : List ℕ) (p : ℕ) → limits s p ≡ broken → limits_bad s p ≡ false
unfolding limits_bad
limits_broken s p e = rw (e, limits_bad)

-- the start

starts : (s : List ℕ) (p : ℕ) → p < length s → or_zeros midnight start s p ≡ start s p
unfolding or_zeros
starts s p k = rw (lt-ltb p (length s) k)

ended : (s : List ℕ) (p : ℕ) → length s ≤ p → or_zeros midnight start s p ≡ got midnight p
unfolding or_zeros
ended s p k = rw (le-ltb p (length s) k)

pub start_none : (s : List ℕ) {w : Walked} → w ≡ None → start_bad s w ≡ false
unfolding start_bad
start_none s h = rw (h, start_bad)

module _ (s : List ℕ) {w : Walked} {p n : ℕ} (h : w ≡ Some (p, n)) where
  pub start_read : {m : Moment} {q : ℕ} → or_zeros midnight start s p ≡ got m q → start_bad s w ≡ bad_start m
  unfolding start_bad
  start_read e = rw (h, start_bad) (rw (e, start_bad))

  start_broken : or_zeros midnight start s p ≡ broken → start_bad s w ≡ false
  unfolding start_bad
  start_broken e = rw (h, start_bad) (rw (e, start_bad))

  pub start_ended : length s ≤ p → start_bad s w ≡ false
  unfolding bad_start
  start_ended k = start_read (ended s p k)

  pub no_weekday : p < length s → {a : Num} → found a ≡ u32 s p → a ≡ None → start_bad s w ≡ false
  unfolding start
  no_weekday k e g = start_broken (starts s p k ∙ bind_broken u32 _ (is_broken e g))

  pub no_second : p < length s → {a : Num} → found a ≡ u32 s p → {x q : ℕ} → a ≡ Some (x, q) → {c : Num} → found c ≡ u32 s q
      → c ≡ None → start_bad s w ≡ false
  unfolding start
  no_second k e g f l = start_broken (starts s p k ∙ bind_got u32 _ (is_got e g) ∙ bind_broken u32 _ (is_broken f l))

  start_is : p < length s → {a : Num} → found a ≡ u32 s p → {x q : ℕ} → a ≡ Some (x, q) → {c : Num} → found c ≡ u32 s q
      → {y r : ℕ} → c ≡ Some (y, r) → start_bad s w ≡ bad_start (record { weekday = x; second = y })
  unfolding start give
  start_is k e g f l = start_read (starts s p k ∙ bind_got u32 _ (is_got e g) ∙ bind_got u32 _ (is_got f l))

  pub late_weekday : p < length s → {a : Num} → found a ≡ u32 s p → {x q : ℕ} → a ≡ Some (x, q) →
      {c : Num} → found c ≡ u32 s q → {y r : ℕ} → c ≡ Some (y, r) → 6 < x → start_bad s w ≡ true
  unfolding bad_start
  late_weekday k e {x} g f l o = start_is k e g f l ∙ rw (lt-ltb 6 x o)

  pub by_second : p < length s → {a : Num} → found a ≡ u32 s p → {x q : ℕ} → a ≡ Some (x, q) → {c : Num} → found c ≡ u32 s q
      → {y r : ℕ} → c ≡ Some (y, r) → x ≤ 6 → start_bad s w ≡ ltb 86399 y
  unfolding bad_start
  by_second k e {x} g f {y} l o = start_is k e g f l ∙ rw (le-ltb 6 x o) (go (dec_lt 86399 y))
    where
      go : Dec (86399 < y) → leb 86400 y ≡ ltb 86399 y
      go (yes z) = le-leb 86400 y (omega arith) ∙ sym (lt-ltb 86399 y z)
      go (no z) = lt-leb 86400 y (omega arith) ∙ sym (le-ltb 86399 y (omega arith))

-- the four numbers, read one after the other
module _ (s : List ℕ) (p : ℕ) {a : Num} (e : found a ≡ u32 s p) where
  pub no_horizon : a ≡ None → limits s p ≡ broken
  unfolding limits
  no_horizon h = bind_broken u32 _ (is_broken e h)

  module _ {x q : ℕ} (h : a ≡ Some (x, q)) {b : Num} (f : found b ≡ u32 s q) where
    pub no_steps : b ≡ None → limits s p ≡ broken
    unfolding limits
    no_steps k = bind_got u32 _ (is_got e h) ∙ bind_broken u32 _ (is_broken f k)

    module _ {y r : ℕ} (k : b ≡ Some (y, r)) {c : Num} (g : found c ≡ u32 s r) where
      pub no_depth : c ≡ None → limits s p ≡ broken
      unfolding limits
      no_depth m = bind_got u32 _ (is_got e h) ∙ bind_got u32 _ (is_got f k) ∙ bind_broken u32 _ (is_broken g m)

      module _ {z t : ℕ} (m : c ≡ Some (z, t)) {d : Num} (o : found d ≡ u32 s t) where
        pub no_cases : d ≡ None → limits s p ≡ broken
        unfolding limits
        no_cases u = bind_got u32 _ (is_got e h) ∙ bind_got u32 _ (is_got f k) ∙ bind_got u32 _ (is_got g m)
            ∙ bind_broken u32 _ (is_broken o u)

        pub all_limits : {w v : ℕ} → d ≡ Some (w, v) → limits s p
            ≡ got (record { horizon = x; max_steps = y; search_depth = z; max_cases = w }) v
        unfolding limits give
        all_limits u = bind_got u32 _ (is_got e h) ∙ bind_got u32 _ (is_got f k) ∙ bind_got u32 _ (is_got g m)
            ∙ bind_got u32 _ (is_got o u)

module _ (s : List ℕ) (i : Numbers) (gaps : List ℕ) where
  pub alphabet_1 : 12 < i.alphabet → alphabet_bad s i gaps ≡ true
  unfolding alphabet_bad
  alphabet_1 h = rw (lt-ltb 12 i.alphabet h)

  module _ (a : i.alphabet ≤ 12) where
    pub alphabet_2 : i.gaps ≡ 0 → alphabet_bad s i gaps ≡ true
    unfolding alphabet_bad
    alphabet_2 h = rw (le-ltb 12 i.alphabet a, eq-eqb i.gaps 0 h)

    module _ (b : i.gaps ≡ 0 → ⊥) where
      pub alphabet_3 : 4 < i.gaps → alphabet_bad s i gaps ≡ true
      unfolding alphabet_bad
      alphabet_3 h = rw (le-ltb 12 i.alphabet a, ne_eqb i.gaps 0 b, lt-ltb 4 i.gaps h)

      pub alphabet_4 : i.gaps ≤ 4 → alphabet_bad s i gaps ≡ gaps_bad gaps s i.gaps 0
      unfolding alphabet_bad
      alphabet_4 h = rw (le-ltb 12 i.alphabet a, ne_eqb i.gaps 0 b, le-ltb 4 i.gaps h)

-- ---- the model

module _ (i : Numbers) (events s : List ℕ) (p n : ℕ) {a : Num} (e : found a ≡ u32 s i.limits) where
  pub orders_broken : a ≡ None → orders_m i events s p n ≡ checked.Refused 30
  unfolding orders_m
  orders_broken h = rw (is_broken e h, orders_m)

  module _ {x q : ℕ} (h : a ≡ Some (x, q)) where
    pub orders_9 : seconds_bad x events s i.events 0 0 ≡ true → orders_m i events s p n ≡ checked.Refused 9
    unfolding orders_m
    orders_9 k = rw (is_got e h, orders_m) (checks.refuse_yes s p n 9 k)

    pub orders_right : seconds_bad x events s i.events 0 0 ≡ false → orders_m i events s p n ≡ checked.To p n
    unfolding orders_m
    orders_right k = rw (is_got e h, orders_m) (checks.refuse_no s p n 9 k)

pub sections_are : (d : Declaration) (i : Numbers) (events invariants alphabet rules s : List ℕ) (p n : ℕ) →
    sections_m d i events invariants alphabet rules s p n ≡ (
    (λ s p n. parts_m d part.Entity d.starts d.count 0 s n)
    ⨾ (λ s p n. parts_m d part.Event events i.events 0 s n)
    ⨾ (λ s p n. parts_m d part.Input alphabet i.alphabet 0 s n)
    ⨾ orders_m i events
    ⨾ (λ s p n. parts_m d part.Invariant invariants i.invariants 0 s n)
    ⨾ (λ s p n. parts_m d part.Rule rules i.rules 0 s n)) s p n
unfolding sections_m
sections_are d i events invariants alphabet rules s p n = refl

module _ (d : Declaration) (i : Numbers) (events invariants alphabet gaps rules s : List ℕ) where
  pub model_1 : title_bad s i ≡ true → model_m d i events invariants alphabet gaps rules s ≡ checked.Refused 1
  unfolding model_m
  model_1 h = rw h

  module _ (a : title_bad s i ≡ false) where
    pub model_2 : size_bad d.count i ≡ true → model_m d i events invariants alphabet gaps rules s ≡ checked.Refused 2
    unfolding model_m
    model_2 h = rw (a, h)

    module _ (b : size_bad d.count i ≡ false) where
      pub model_3 : limits_bad s i.limits ≡ true → model_m d i events invariants alphabet gaps rules s ≡ checked.Refused 3
      unfolding model_m
      model_3 h = rw (a, b, h)

      module _ (c : limits_bad s i.limits ≡ false) where
        pub model_start : start_bad s i.behind ≡ true →
            model_m d i events invariants alphabet gaps rules s ≡ checked.Refused 3
        unfolding model_m
        model_start h = rw (a, b, c, h)

        module _ (e : start_bad s i.behind ≡ false) where
          pub model_4 : alphabet_bad s i gaps ≡ true →
              model_m d i events invariants alphabet gaps rules s ≡ checked.Refused 4
          unfolding model_m
          model_4 h = rw (a, b, c, e, h)

          pub model_is : alphabet_bad s i gaps ≡ false →
              model_m d i events invariants alphabet gaps rules s ≡ sections_m d i events invariants alphabet rules s 0 0
          unfolding model_m
          model_is h = rw (a, b, c, e, h)

pub declared_is : (s : List ℕ) (t n : ℕ) {a b c e : ℕ} →
    a ≡ place_from t 0 (text "on") s 6 → b ≡ place_from t 0 (text "off") s 6 →
    c ≡ place_from t 0 (text "unknown") s 6 → e ≡ place_from t 0 (text "unavailable") s 6 →
    ◌≡◌ {A = Declared} (record { count = n; on = a; off = b; unknown = c; unavailable = e }) (declared_in s t n)
unfolding declared_in
declared_is s t n ha hb hc he = rw (ha, hb, hc, he)

-- a model that passed the tests of its size is small
or_no : (a b : Bool) → (a || b) ≡ false → (a ≡ false) × (b ≡ false)
or_no true b h = absurd (not_both h refl)
or_no false b h = (refl, h)

pub small : (s : List ℕ) (n : ℕ) (i : Numbers) (gaps : List ℕ) → size_bad n i ≡ false → alphabet_bad s i gaps ≡ false →
    Small n i
unfolding size_bad alphabet_bad
small s n i gaps h k =
    let r = i.rules in
    let e = i.events in
    let l = i.alphabet in
    let m = i.gaps in
    let a = or_no (eqb n 0 || ltb 32 n || ltb 32 r || ltb 100 e) (ltb 32 i.invariants) h in
    let b = or_no (eqb n 0 || ltb 32 n || ltb 32 r) (ltb 100 e) a.0 in
    let c = or_no (eqb n 0 || ltb 32 n) (ltb 32 r) b.0 in
    let d = or_no (eqb n 0) (ltb 32 n) c.0 in
    let f = or_no (ltb 12 l || eqb m 0 || ltb 4 m) (gaps_bad gaps s m 0) k in
    let g = or_no (ltb 12 l || eqb m 0) (ltb 4 m) f.0 in
    let o = or_no (ltb 12 l) (eqb m 0) g.0 in
    record {
      events = ltb-false 100 i.events b.1;
      entities = omega (arith, ltb-false 32 n d.1);
      alphabet = omega (arith, ltb-false 12 i.alphabet o.0);
      invariants = omega (arith, ltb-false 32 i.invariants a.1);
      rules = omega (arith, ltb-false 32 i.rules c.1);
    }

pub declared_count : (s : List ℕ) (t n : ℕ) → (declared_in s t n).count ≡ n
unfolding declared_in
declared_count s t n = refl

pub model_with : (s : List ℕ) (i : Index) {d : Declared} {x : Checked} →
    x ≡ model_m (declaration d i.entities.starts) (numbers_of i) i.events.starts i.invariants.starts
    i.alphabet.starts i.gaps.starts i.rules.starts s →
    d ≡ declared_in s i.texts.count i.entities.count → x ≡ index_m i s
model_with s i e f =
    e ∙ ap (λ (d : Declared). model_m (declaration d i.entities.starts) (numbers_of i) i.events.starts
    i.invariants.starts i.alphabet.starts i.gaps.starts i.rules.starts s) f
