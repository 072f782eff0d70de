-- Lists that ascend have no text twice.
use mathlib.Core.Path.{◌≡◌}
use mathlib.Core.List.{List, [], ◌∷◌}
use Rattle.texts.specs.Texts.{Text, insert_t}
use Rattle.texts.proofs.Ordering.{not_both, Before, Three, lt, eq, gt, three, trans, eq_no, eq_refl}
use Rattle.reasons.proofs.Sorting.{in_front, already, further, alone}

-- x is one of the texts
pub data Among (x : Text) : List Text → Type 0 where
  here : {y : Text} {l : List Text} → x ≡ y → Among x (y ∷ l)
  there : {y : Text} {l : List Text} → Among x l → Among x (y ∷ l)

-- no text twice
pub data Distinct : List Text → Type 0 where
  none : Distinct []
  more : {x : Text} {l : List Text} → (Among x l → ⊥) → Distinct l → Distinct (x ∷ l)

-- ---- ascending lists

-- x and then l ascend
pub data Rising : Text → List Text → Type 0 where
  stop : {x : Text} → Rising x []
  step : {x y : Text} {l : List Text} → Before x y → Rising y l → Rising x (y ∷ l)

pub data Ascending : List Text → Type 0 where
  empty : Ascending []
  from : {x : Text} {l : List Text} → Rising x l → Ascending (x ∷ l)

rising_insert : {x t : Text} {l : List Text} → Before x t → Rising x l → Rising x (insert_t t l)
rising_insert {x} {t} p stop = rw (alone t) (step p stop)
rising_insert {x} {t} p (step {y} {l} q r) = go (three t y) (λ h. rising_insert h r)
  where
    go : Three t y → (Before y t → Rising y (insert_t t l)) → Rising x (insert_t t (y ∷ l))
    go (lt h) f = rw (in_front l h) (step p (step h r))
    go (eq e) f = rw (e, already y l) (step q r)
    go (gt h) f = rw (further l h) (step q (f h))

pub ascending_insert : {l : List Text} (t : Text) → Ascending l → Ascending (insert_t t l)
ascending_insert t empty = rw (alone t) (from stop)
ascending_insert t (from {x} {l} r) = go (three t x)
  where
    go : Three t x → Ascending (insert_t t (x ∷ l))
    go (lt h) = rw (in_front l h) (from (step h r))
    go (eq e) = rw (e, already x l) (from r)
    go (gt h) = rw (further l h) (from (rising_insert h r))

above : {x y : Text} {l : List Text} → Rising x l → Among y l → Before x y
above {y = y} stop x7 = elim x7 [ ]
above (step p r) (here e) = rw e p
above (step p r) (there q) = trans p (above r q)

never : {x : Text} → Before x x → ⊥
never {x} p = not_both (eq_no p) (eq_refl x)

rising_distinct : {x : Text} {l : List Text} → Rising x l → Distinct l
rising_distinct stop = none
rising_distinct (step p r) = more (λ q. never (above r q)) (rising_distinct r)

pub ascending_distinct : {l : List Text} → Ascending l → Distinct l
ascending_distinct empty = none
ascending_distinct (from r) = more (λ q. never (above r q)) (rising_distinct r)
