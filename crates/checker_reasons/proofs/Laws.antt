-- A list of reasons with none, one or two more; what an invariant tells can be read.
use Rattle.std.specs.Prelude.{if◌then◌else◌}
use Prim.Native.Nat.{ℕ, ◌*◌, ◌≤◌}
use mathlib.Core.Path.{◌≡◌, refl, subst}
use mathlib.Core.Bool.{Bool, true, false}
use mathlib.Core.List.{List}
use native.Mathlib.Omega.{arith}
use lib.Dec.{eqb}
use lib.ListN.{length, get_or}
use Rattle.texts.specs.Texts.{Text, insert_t}
use Rattle.reasons.specs.Kinds as kinds
use Rattle.reasons.specs.Kinds.{OneText}
use Rattle.reasons.specs.Reasons.{render}
use Rattle.reasons.specs.Readable.{Readable, AllReadable, HasText}
use Rattle.reasons.specs.Lists.{listed, insert_all, Grows}
use Rattle.reasons.specs.declared.Reason.{Reason}
use Rattle.reasons.proofs.Listing.{grows_none, length_insert}
use Rattle.reasons.proofs.Cleaning.{one_text}
use Rattle.engine_fields.proofs.Readable.{position_stands}
use Rattle.checker_response.specs.declared.Memory.{Memory}
use Rattle.checker_reasons.specs.Reasons.{list_of, renderings, about_m, if_m, temporal_m, unknown_m, incomplete_m}
use Rattle.checker_reasons.specs.declared.Told.{Told}
use Rattle.checker_reasons.specs.declared.Told.TheVariants.{Nothing, One, Two}

module _ (f : List ℕ) (t : Told) where
  abbrev All : Type 0
  All = AllReadable f (list_of t)

  pub none_told : (n : ℕ) (a : List ℕ) → t ≡ Nothing → Grows f All (insert_all (renderings f t) (listed f n a)) n a n a
  unfolding renderings insert_all
  none_told n a e = grows_none f (rw (e, renderings, insert_all))

  module _ (r : Reason) (e : t ≡ One r) where
    one_is : (l : List Text) → insert_all (renderings f t) l ≡ insert_t (render f r) l
    unfolding renderings insert_all
    one_is l = rw e

    pub one_fits : (l : List Text) (w : ℕ) → length (insert_all (renderings f t) l) * 5 ≤ w →
        length (insert_t (render f r) l) * 5 ≤ w
    one_fits l w h = rw (one_is l) at h

    pub one_told : (n : ℕ) (a : List ℕ) {k : ℕ} {b : List ℕ} →
        Grows f (Readable f r) (insert_t (render f r) (listed f n a)) n a k b →
        Grows f All (insert_all (renderings f t) (listed f n a)) n a k b
    one_told n a h = record {
      many = rw (one_is (listed f n a)) h.many;
      texts = rw (one_is (listed f n a)) h.texts;
      clean = λ y c. h.clean (subst (λ (z : Told). AllReadable f (list_of z)) e y).0 c;
    }

  module _ (r s : Reason) (e : t ≡ Two r s) where
    two_is : (l : List Text) → insert_all (renderings f t) l ≡ insert_t (render f s) (insert_t (render f r) l)
    unfolding renderings insert_all
    two_is l = rw e

    pub two_fits : (l : List Text) (w : ℕ) → length (insert_all (renderings f t) l) * 5 ≤ w →
        length (insert_t (render f r) l) * 5 ≤ w
    two_fits l w h =
        let g : length (insert_t (render f s) (insert_t (render f r) l)) * 5 ≤ w = rw (two_is l) at h in
        omega (arith, length_insert (render f s) (insert_t (render f r) l))

    module _ (n : ℕ) (a : List ℕ) {k : ℕ} {b : List ℕ}
        (first : Grows f (Readable f r) (insert_t (render f r) (listed f n a)) n a k b) where
      pub two_then : (w : ℕ) → length (insert_all (renderings f t) (listed f n a)) * 5 ≤ w → length b ≡ w →
          length (insert_t (render f s) (listed f k b)) * 5 ≤ length b
      two_then w h g = rw (first.texts, ← two_is (listed f n a), g) h

      pub two_told : {m : ℕ} {d : List ℕ} → Grows f (Readable f s) (insert_t (render f s) (listed f k b)) k b m d →
          Grows f All (insert_all (renderings f t) (listed f n a)) n a m d
      two_told h = record {
        many = rw (two_is (listed f n a), ← first.texts) h.many;
        texts = rw (two_is (listed f n a), ← first.texts) h.texts;
        clean = λ y c. let z = subst (λ (z : Told). AllReadable f (list_of z)) e y in
            h.clean z.1.0 (first.clean z.0 c);
      }

-- ---- each reason about an invariant can be read

module _ (f : List ℕ) (h : HasText f) (at : ℕ) where
  about_readable : {k : ℕ} → OneText k → Readable f (about_m f at k)
  unfolding about_m
  about_readable o = one_text f o (position_stands f h _)

  if_readable : (b : Bool) (r : Reason) → Readable f r → AllReadable f (list_of (if_m b r))
  unfolding if_m
  if_readable true r y = (y, tt)
  if_readable false r y = tt

  temporal_readable : (m : Memory) (r s : Reason) → Readable f r → Readable f s → AllReadable f (list_of (temporal_m m r s))
  unfolding temporal_m
  temporal_readable m r s y z = by m.unclear m.unknown
    where
      by : (b d : Bool) → AllReadable f (list_of (if b then (if d then Two r s else One r) else if_m d s))
      by true true = (y, (z, tt))
      by true false = (y, tt)
      by false d = if_readable d s z

  pub unknown_readable : (m : Memory) → AllReadable f (list_of (unknown_m f at m))
  unfolding unknown_m
  unknown_readable m = by (eqb (get_or f at 0) 0) (eqb (get_or f at 0) 1) (eqb (get_or f at 0) 2)
    where
      by : (a b c : Bool) → AllReadable f (list_of
          (if a then if_m m.unknown (about_m f at kinds.state_predicate)
          else if b then if_m m.unknown (about_m f at kinds.action_guard)
          else if c then Nothing
          else temporal_m m (about_m f at kinds.response_at_deadline) (about_m f at kinds.temporal_predicate)))
      by true b c = if_readable m.unknown _ (about_readable (record { known = omega arith; is = refl }))
      by false true c = if_readable m.unknown _ (about_readable (record { known = omega arith; is = refl }))
      by false false true = tt
      by false false false =
          temporal_readable m _ _ (about_readable (record { known = omega arith; is = refl }))
          (about_readable (record { known = omega arith; is = refl }))

  pub incomplete_readable : (m : Memory) → AllReadable f (list_of (incomplete_m f at m))
  unfolding incomplete_m
  incomplete_readable m = if_readable m.beyond _ (about_readable (record { known = omega arith; is = refl }))
