-- What a function does, put together from what its parts do: laws over any state and areas.
use Prim.Native.Nat.{ℕ, ◌+◌}
use mathlib.Core.Path.{◌≡◌, refl}
use mathlib.Core.Bool.{Bool}
use mathlib.Core.List.{List}
use Rattle.runs.specs.Lists.{tally}
use Rattle.runs.specs.Runs.{Counted}
use Rattle.runs.specs.declared.Run.{Run}
use Rattle.engine_state.specs.declared.State.{State}
use Rattle.engine_state.specs.Machine.{Machine, Content, entire, machine}
use Rattle.engine_state.specs.Steps.{Lent, kept, goes, Listing, still, first, last, Turns, Moves}
use Rattle.engine_state.proofs.Laws as states
use Rattle.engine_state.proofs.Laws.{none, one, two, both}
use Rattle.engine_modes.proofs.Laws as laws

-- an array that a part isn't lent is as it was
pub data Beside : Lent → Lent → Type 0 where
  apart : Beside kept kept
  shared : {b c : List ℕ} → Beside (goes b c) (goes b c)
  lent : {b : List ℕ} → Beside kept (goes b b)

module _ {F : Machine → Machine} {st s : State} {Q A R : Lent} {U : Listing} where
  values : {L L' N C : Lent} → Moves F st s Q A R U L N C → Beside L L' → Moves F st s Q A R U L' N C
  values d apart = d
  values d shared = d
  values d (lent {b}) = record {
    queue = d.queue;
    records = d.records;
    runs = d.runs;
    reasons = d.reasons;
    does =
        λ v n c. d.does b n c;
  }

  versions : {L N N' C : Lent} → Moves F st s Q A R U L N C → Beside N N' → Moves F st s Q A R U L N' C
  versions d apart = d
  versions d shared = d
  versions d (lent {b}) = record {
    queue = d.queue;
    records = d.records;
    runs = d.runs;
    reasons = d.reasons;
    does =
        λ v n c. d.does v b c;
  }

  sequences : {L N C C' : Lent} → Moves F st s Q A R U L N C → Beside C C' → Moves F st s Q A R U L N C'
  sequences d apart = d
  sequences d shared = d
  sequences d (lent {b}) = record {
    queue = d.queue;
    records = d.records;
    runs = d.runs;
    reasons = d.reasons;
    does =
        λ v n c. d.does v n b;
  }

  -- a part of a function that is lent more, by another name
  pub part : {G : Machine → Machine} {Q' A' R' : Lent} {U' : Listing} {L N C L' N' C' : Lent} → Moves F st s Q A R U L N C →
      states.Wide 5 (st.queue_start + st.items) Q Q' → states.Wide 13 st.records A A' →
      states.Wide 28 st.live_runs R R' → states.WideTold st.reasons U U' → Beside L L' → Beside N N' →
      Beside C C' →
      ((v n c : List ℕ) (k : Content) → F (machine (entire st (first L' v) (first N' n) (first C' c)) k)
      ≡ G (machine (entire st (first L' v) (first N' n) (first C' c)) k)) → Moves G st s Q' A' R' U' L' N' C'
  part {G} {L'} {N'} {C'} d wq wa wr wu l n c e =
      states.moves (λ x y z. states.renamed (λ k. G (machine (entire st (first L' x) (first N' y) (first C' z)) k))
      (states.widen ((sequences (versions (values d l) n) c).does x y z) wq wa wr wu) (e x y z))

-- what holds from an array before to one after, joined over the array between
joined : (P Q R : List ℕ → List ℕ → Type 0) {K L M : Lent} → states.Joined K L M →
    ((x y z : List ℕ) → P x y → Q y z → R x z) →
    ((v : List ℕ) → P (first K v) (last K v)) → ((v : List ℕ) → Q (first L v) (last L v)) → (v : List ℕ) →
    R (first M v) (last M v)
joined P Q R none j d e v = j v v v (d v) (e v)
joined P Q R (one {b} {c}) j d e v = j b c c (d v) (e c)
joined P Q R (two {b} {c}) j d e v = j b b c (d b) (e v)
joined P Q R (both {b} {c} {d = w}) j d e v = j b c w (d v) (e v)

-- one part after another
pub next : {F G : Machine → Machine} {st mid s : State} {Q A R Q' A' R' Q'' A'' R'' : Lent} {U U' U'' : Listing}
    {L N C L' N' C' L'' N'' C'' : Lent} →
    Moves F st mid Q A R U L N C → Moves G mid s Q' A' R' U' L' N' C' →
    states.Joined Q Q' Q'' → states.Joined A A' A'' → states.Joined R R' R'' → states.JoinedTold U U' U'' →
    states.Joined L L' L'' → states.Joined N N' N'' → states.Joined C C' C'' →
    Moves (λ m. G (F m)) st s Q'' A'' R'' U'' L'' N'' C''
next {F} {G} {st} {mid} {s} {Q} {A} {R} {Q'} {A'} {R'} {Q''} {A''} {R''} {U} {U'} {U''} {L} {N} {C} {L'} {N'} {C'} {L''}
    {N''} {C''} d e jq ja jr ju jl jn jc =
    states.moves
    (joined (λ v v'. (n c : List ℕ) → Turns F (entire st v (first N n) (first C c)) (entire mid v' (last N n) (last C c))
    Q A R U)
    (λ v v'. (n c : List ℕ) → Turns G (entire mid v (first N' n) (first C' c)) (entire s v' (last N' n) (last C' c))
    Q' A' R' U')
    (λ v v'. (n c : List ℕ) → Turns (λ m. G (F m)) (entire st v (first N'' n) (first C'' c))
    (entire s v' (last N'' n) (last C'' c)) Q'' A'' R'' U'') jl
    (λ v w z x y. joined (λ n n'. (c : List ℕ) → Turns F (entire st v n (first C c)) (entire mid w n' (last C c)) Q A R U)
    (λ n n'. (c : List ℕ) → Turns G (entire mid w n (first C' c)) (entire s z n' (last C' c)) Q' A' R' U')
    (λ n n'. (c : List ℕ) → Turns (λ m. G (F m)) (entire st v n (first C'' c)) (entire s z n' (last C'' c)) Q'' A'' R'' U'')
    jn
    (λ n o p x' y'. joined (λ c c'. Turns F (entire st v n c) (entire mid w o c') Q A R U)
    (λ c c'. Turns G (entire mid w o c) (entire s z p c') Q' A' R' U')
    (λ c c'. Turns (λ m. G (F m)) (entire st v n c) (entire s z p c') Q'' A'' R'' U'') jc
    (λ _ _ _ x'' y''. states.follow G x'' y'' jq ja jr ju) x' y') x y) d.does e.does)

-- the same by another name
pub named : {F G : Machine → Machine} {st s : State} {Q A R : Lent} {U : Listing} {L N C : Lent} →
    Moves F st s Q A R U L N C →
    ((v n c : List ℕ) (k : Content) → F (machine (entire st (first L v) (first N n) (first C c)) k)
    ≡ G (machine (entire st (first L v) (first N n) (first C c)) k)) → Moves G st s Q A R U L N C
named {G} {st} {L} {N} {C} d e =
    states.moves (λ v n c. states.renamed (λ k. G (machine (entire st (first L v) (first N n) (first C c)) k))
    (d.does v n c) (e v n c))

-- nothing changes
pub idle : (st : State) → Moves (λ m. m) st st kept kept kept still kept kept kept
idle st = states.moves (λ v n c. states.stay (λ k. refl) none none none none)

-- ---- what is read of the run area is what the machine holds

module _ {st s : State} {Q A : Lent} {r b : List ℕ} {U : Listing} {L N C : Lent} where
  pub counted : (F : ℕ → Machine → Machine) {p : Run → Bool} {n : ℕ} → Counted p r st.live_runs n →
      Moves (F n) st s Q A (goes r b) U L N C → Moves (λ m. F (tally p m.runs) m) st s Q A (goes r b) U L N C
  counted F is d = states.moves (λ v n c. laws.with_count F is (d.does v n c))
