-- Laws for the gathering of violations and reasons.
use Rattle.std.specs.Prelude.{if◌then◌else◌}
use Prim.Native.Nat.{ℕ, suc, ◌+◌, ◌*◌, ◌≤◌, ◌<◌}
use mathlib.Core.Path.{◌≡◌, refl, sym, ap, subst, ◌∙◌}
use mathlib.Core.Bool.{Bool, true, false}
use mathlib.Core.List.{List, [], ◌∷◌, ◌++◌, append-nil}
use native.Mathlib.Omega.{arith}
use lib.ListN.{length, get_or, length-append}
use borrow.Author.Tests.{eq-eqb, ne_eqb}
use Rattle.texts.specs.Texts.{Text, insert_t}
use Rattle.areas.specs.Areas.{area, written}
use Rattle.areas.proofs.Laws as areas
use Rattle.records.specs.Records.{recorded}
use Rattle.records.specs.declared.Record.{Record}
use Rattle.reasons.specs.Kinds as kinds
use Rattle.reasons.specs.Readable.{AllReadable}
use Rattle.reasons.specs.Lists.{listed, insert_all, Holds, Grows}
use Rattle.reasons.proofs.Listing as listing
use Rattle.reasons.proofs.Listing.{grown}
use Rattle.bounds.specs.Bounds.{at_most}
use Rattle.engine_fields.specs.Fields.{two, cap}
use Rattle.engine_state.specs.declared.Cells.{Cells}
use Rattle.checker_judge.specs.declared.Reading.{Reading}
use Rattle.checker_response.specs.declared.Memory.{Memory}
use Rattle.checker_response.specs.Response.{failed_m}
use Rattle.checker_judge.specs.Judging.{judge_m, Judges}
use Rattle.checker_reasons.specs.declared.Told.{Told}
use Rattle.checker_reasons.specs.declared.Told.TheVariants.{Nothing, One, Two}
use Rattle.checker_reasons.specs.Reasons.{list_of, renderings, about_m, if_m, incomplete_m, unknown_m}
use Rattle.checker_reasons.proofs.Laws.{unknown_readable, incomplete_readable}
use Rattle.checker_collect.specs.declared.Counts.{Counts}
use Rattle.checker_collect.specs.Collect.{
  failure_number,
  failure_deadline,
  source_m,
  numbers_m,
  Broken,
  broken_m,
  violated_m,
  Pushed,
  Gathered,
  one_m,
  first_m,
  Keeps,
  Changes,
  Gathers,
}

sized : (b : Broken) → length (broken_m b) ≡ 8
sized b = refl

-- ---- a violation

pub numbers_are : (id : ℕ) (r : Reading) {n d x y z : ℕ} → n ≡ failure_number r.failure →
    d ≡ failure_deadline r.failure →
    x ≡ source_m r.source 0 → y ≡ source_m r.source 1 → z ≡ source_m r.source 2 →
    id ∷ r.second ∷ r.index ∷ n ∷ d ∷ x ∷ y ∷ z ∷ [] ≡ numbers_m id r
numbers_are id r a b c d e = rw (a, b, c, d, e)

module _ (v : List ℕ) (n id : ℕ) (r : Reading) where
  pub pushed_none : false ≡ failed_m r.failure → Pushed v n id r v n
  unfolding violated_m
  pushed_none z = record {
    most = omega arith;
    is =
        λ l e rep. rw (← z) (
          rep ∙ ap (area broken_m (length v)) (sym (append-nil l)),
          sym e
              ∙ ap length (sym (append-nil l)),
        );
  }

  pub pushed_one : true ≡ failed_m r.failure → n * 8 + 8 ≤ length v → {w v' : List ℕ} → w ≡ numbers_m id r →
      v' ≡ written v (n * 8) w →
      Pushed v n id r v' (n + 1)
  unfolding violated_m
  pushed_one z h {w} {v'} we is =
      let b : Broken = record { id = id; reading = r } in
      record {
        most = omega arith;
        is = λ l e rep. rw (← z) (
          is ∙ ap (written v (n * 8)) we ∙ ap (λ (y : List ℕ). written y (n * 8) (numbers_m id r)) rep
              ∙ areas.push_is broken_m 8 sized (length v) l b n e h,
          omega (arith, e, length-append l (b ∷ [])),
        );
      }

-- ---- one invariant

few_told : (f : List ℕ) (t : Told) → length (renderings f t) ≤ 2
unfolding renderings
few_told f Nothing = omega arith
few_told f (One r) = omega arith
few_told f (Two r s) = omega arith

one_told : (f : List ℕ) (at : ℕ) (m : Memory) → length (renderings f (incomplete_m f at m)) ≤ 1
unfolding renderings incomplete_m if_m
one_told f at m = by m.beyond
  where
    by : (b : Bool) → length (renderings f (if b then One (about_m f at kinds.beyond_horizon) else Nothing)) ≤ 1
    by true = omega arith
    by false = omega arith

pub all_many : (ts l : List Text) → length (insert_all ts l) ≤ length l + length ts
unfolding insert_all
all_many [] l = omega arith
all_many (t ∷ ts) l = omega (arith, all_many ts (insert_t t l), listing.one_more t l)

-- room for what an invariant tells
module _ (f a : List ℕ) (n : ℕ) (t : Told) where
  told_many : length (insert_all (renderings f t) (listed f n a)) ≤ n + length (renderings f t)
  told_many = omega (arith, all_many (renderings f t) (listed f n a), listing.length_listed f n a)

  pub told_room : n * 5 + 10 ≤ length a → length (insert_all (renderings f t) (listed f n a)) * 5 ≤ length a
  told_room h = omega (arith, h, told_many, few_told f t)

pub lack_room : (f a : List ℕ) (n at : ℕ) (m : Memory) {t : Told} → t ≡ incomplete_m f at m → n * 5 + 5 ≤ length a →
    length (insert_all (renderings f t) (listed f n a)) * 5 ≤ length a
lack_room f a n at m {t} e h =
    let k : length (renderings f t) ≤ 1 = subst (λ (y : Told). length (renderings f y) ≤ 1) (sym e) (one_told f at m) in
    omega (arith, h, told_many f a n t, k)

module _ {f x : List ℕ} {at : ℕ} {c : Cells} {a : List ℕ} {n : ℕ} {s : Counts} {v v' u u' w w' : List ℕ} (r : Reading) where
  pub gathers_one : Judges f x at c a n r → {p id k d e : ℕ} → p ≡ cap at → id ≡ two f (p + 1) →
      Pushed v s.violations id r v' k →
      {t : Told} → t ≡ unknown_m f (cap at) r.memory →
      Grows f (AllReadable f (list_of t)) (insert_all (renderings f t) (listed f s.unknown u)) s.unknown u d u' →
      {y : Told} → y ≡ incomplete_m f (cap at) r.memory →
      Grows f (AllReadable f (list_of y)) (insert_all (renderings f y) (listed f s.incomplete w)) s.incomplete w e w' →
      length v' ≡ length v → length u' ≡ length u → length w' ≡ length w →
      Gathers f x at c a n s (record { violations = k; unknown = d; incomplete = e }) v v' u u' w w'
  unfolding one_m
  gathers_one judged {p} {id} {k} {d} {e} pe ie pushed {t} te du {y} ye dw lv lu lw = record {
    most_violations = pushed.most;
    most_unknown = omega (arith, du.many, told_many f u s.unknown t, few_told f t);
    most_incomplete = omega (
      arith,
      dw.many,
      told_many f w s.incomplete y,
      subst (λ (z : Told). length (renderings f z) ≤ 1) (sym ye) (one_told f (cap at) r.memory),
    );
    long_v = lv;
    long_u = lu;
    long_w = lw;
    does = does;
  }
    where
      does : (l : List Record) → length l ≡ n → a ≡ recorded (length a) l → (g : Gathered) → Keeps f v u w s g →
          Keeps f v' u' w' (record { violations = k; unknown = d; incomplete = e }) (one_m f x at c l g)
      does l many rep g keeps =
          let j : r ≡ judge_m f x at c l = judged.is l many rep in
          let i : id ≡ two f (cap at + 1) = ie ∙ ap (λ (q : ℕ). two f (q + 1)) pe in
          let b = pushed.is g.violations (sym keeps.many) keeps.violations in
          let o : violated_m id r ≡ violated_m (two f (cap at + 1)) (judge_m f x at c l) =
          ap (λ (q : ℕ). violated_m q r) i ∙ ap (violated_m (two f (cap at + 1))) j in
          let tu : renderings f t ≡ renderings f (unknown_m f (cap at) (judge_m f x at c l).memory) =
          ap (renderings f) (te ∙ ap (λ (q : Reading). unknown_m f (cap at) q.memory) j) in
          let tw : renderings f y ≡ renderings f (incomplete_m f (cap at) (judge_m f x at c l).memory) =
          ap (renderings f) (ye ∙ ap (λ (q : Reading). incomplete_m f (cap at) q.memory) j) in
          record {
            violations = b.0 ∙ ap (λ (q : List Broken). area broken_m (length v) (g.violations ++ q)) o
                ∙ ap (λ (q : ℕ). area broken_m q (g.violations ++ violated_m (two f (cap at + 1)) (judge_m f x at c l)))
                (sym lv);
            many = b.1 ∙ ap (λ (q : List Broken). length (g.violations ++ q)) o;
            unknown = subst (λ (q : List Text). Holds f (insert_all q g.unknown) d u') tu
                (grown f (insert_all (renderings f t)) du (λ h. subst (λ (z : Told). AllReadable f (list_of z)) (sym te)
                (unknown_readable f h (cap at) r.memory)) keeps.unknown);
            incomplete = subst (λ (q : List Text). Holds f (insert_all q g.incomplete) e w') tw
                (grown f (insert_all (renderings f y)) dw (λ h. subst (λ (z : Told). AllReadable f (list_of z)) (sym ye)
                (incomplete_readable f h (cap at) r.memory)) keeps.incomplete);
          }

-- ---- one invariant after the other

module _ (f x starts : List ℕ) (c : Cells) (k : ℕ)
    {a : List ℕ} {n : ℕ} {s t t' : Counts} {v v' v'' u u' u'' w w' w'' : List ℕ} where
  pub gathers_more : Changes (λ (l : List Record). first_m f x starts c l k) k (k * 2) k f a n s t v v' u u' w w' →
      Gathers f x (get_or starts k 0) c a n t t' v' v'' u' u'' w' w'' →
      Changes (λ (l : List Record). first_m f x starts c l (k + 1)) (k + 1) ((k + 1) * 2) (k + 1) f a n s t' v v'' u u'' w w''
  gathers_more b o = record {
    most_violations = omega (arith, b.most_violations, o.most_violations);
    most_unknown = omega (arith, b.most_unknown, o.most_unknown);
    most_incomplete = omega (arith, b.most_incomplete, o.most_incomplete);
    long_v = o.long_v ∙ b.long_v;
    long_u = o.long_u ∙ b.long_u;
    long_w = o.long_w ∙ b.long_w;
    does = λ l many rep g keeps. subst (λ (j : ℕ). Keeps f v'' u'' w'' t' (first_m f x starts c l j g)) one
        (unfold first_m in o.does l many rep (first_m f x starts c l k g) (b.does l many rep g keeps));
  }
    where
      one : suc k ≡ k + 1
      one = omega arith

pub gathers_none : (f x starts : List ℕ) (c : Cells) {a : List ℕ} {n : ℕ} {s : Counts} {v u w : List ℕ} →
    Changes (λ (l : List Record). first_m f x starts c l 0) 0 0 0 f a n s s v v u u w w
unfolding first_m
gathers_none f x starts c = record {
  most_violations = omega arith;
  most_unknown = omega arith;
  most_incomplete =
      omega arith;
  long_v = refl;
  long_u = refl;
  long_w = refl;
  does = λ l many rep g keeps. keeps;
}

module _ {F : List Record → Gathered → Gathered} {f a : List ℕ} {n k : ℕ} {s t : Counts} {v v' u u' w w' : List ℕ} where
  -- room for one invariant more
  pub judge_room : (n * 13 ≤ length a) × ((s.violations * 8 + 256 ≤ length v)
      × ((s.unknown * 5 + 320 ≤ length u) × (s.incomplete * 5 + 160 ≤ length w))) →
      Changes F k (k * 2) k f a n s t v v' u u' w w' → k < 32 →
      (n * 13 ≤ length a) × ((t.violations * 8 + 8 ≤ length v')
      × ((t.unknown * 5 + 10 ≤ length u') × (t.incomplete * 5 + 5 ≤ length w')))
  judge_room h b o = (
    h.0,
    (
      omega (arith, h.1.0, b.most_violations, b.long_v),
      (omega (arith, h.1.1.0, b.most_unknown, b.long_u), omega (arith, h.1.1.1, b.most_incomplete, b.long_w)),
    ),
  )

pub gathers_all : (f x starts : List ℕ) (c : Cells)
    {a : List ℕ} {n k : ℕ} {s t : Counts} {v v' u u' w w' : List ℕ} {many : ℕ} (i : ℕ) →
    (many ≡ at_most i 32) × (many ≤ 32) → k ≡ many → Changes (λ (l : List Record). first_m f x starts c l k) k (k * 2)
    k f a n s t v v' u u' w w' →
    Changes (λ (l : List Record). first_m f x starts c l (at_most i 32)) 32 64 32 f a n s t v v' u u' w w'
gathers_all f x starts c {a} {n} {k} {s} {t} {v} {v'} {u} {u'} {w} {w'} {many} i m e b = record {
  most_violations = omega (arith, b.most_violations, m.1, e);
  most_unknown = omega (arith, b.most_unknown, m.1, e);
  most_incomplete = omega (arith, b.most_incomplete, m.1, e);
  long_v = b.long_v;
  long_u = b.long_u;
  long_w = b.long_w;
  does = λ l y rep g keeps. subst (λ (j : ℕ). Keeps f v' u' w' t (first_m f x starts c l j g)) (e ∙ m.0)
      (b.does l y rep g keeps);
}
