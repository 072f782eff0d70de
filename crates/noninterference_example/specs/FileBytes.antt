-- Parts of a model file (docs/FORMAT.md): numbers below 256, a text, an absent place, and what is made of them.
use Rattle.std.specs.Prelude.{ℕ, List, [], ◌∷◌, ◌++◌, length}
use Rattle.texts.specs.Texts.{Text}

abbrev pub two : ℕ → List ℕ
two n = n ∷ 0 ∷ []

abbrev pub four : ℕ → List ℕ
four n = n ∷ 0 ∷ 0 ∷ 0 ∷ []

abbrev pub sized : Text → List ℕ
sized t = length t ∷ t

abbrev pub absent : List ℕ
absent = 255 ∷ 255 ∷ []

abbrev pub never_stale : List ℕ
never_stale = absent ++ absent

-- an entity with two values; tier 1 is comfort
unfoldable pub entity : (name first second initial : ℕ) → (stale_after : List ℕ) → List ℕ
entity x v w i stale = two x ++ two 2 ++ two v ++ two w ++ two i ++ 1 ∷ stale

-- at a second an entity gets a value
unfoldable pub event : (at name value : ℕ) → List ℕ
event t x v = four t ++ 0 ∷ two x ++ two v

unfoldable pub restarts : (at : ℕ) → List ℕ
restarts t = four t ++ 1 ∷ []

-- an entity's change to a value, from any, without a note
unfoldable pub trigger : (entity to line column : ℕ) → List ℕ
trigger x v l c = two x ++ absent ++ two v ++ four l ++ four c ++ absent

-- conditions: none, or one, a window with its weekdays, start and end
abbrev pub always : List ℕ
always = two 0

unfoldable pub in_window : (days : ℕ) → (start end : List ℕ) → List ℕ
in_window d b e = two 1 ++ 2 ∷ d ∷ b ++ e

-- one automation: a trigger, conditions, actions, its source, no note
unfoldable pub automation : (id mode entity to : ℕ) → (conditions : List ℕ) → (count : ℕ) → (actions : List ℕ)
    → (line : ℕ) → List ℕ
automation i m x v ps n as' line =
    two i ++ m ∷ four 1 ++ two 1 ++ trigger x v line 1 ++ ps ++ two n ++ as' ++ four line ++ four 1 ++ two 0

-- actions: set an entity, toggle it, delay, and wait for a change, going on at the timeout
unfoldable pub sets : (line column name value : ℕ) → List ℕ
sets l c x v = four l ++ four c ++ 0 ∷ two x ++ two v

unfoldable pub toggles : (line column name : ℕ) → List ℕ
toggles l c x = four l ++ four c ++ 1 ∷ two x

unfoldable pub delays : (line column seconds : ℕ) → List ℕ
delays l c n = four l ++ four c ++ 2 ∷ four n

unfoldable pub waits : (line column entity to timeout : ℕ) → List ℕ
waits l c x v n = four l ++ four c ++ 5 ∷ trigger x v l c ++ four n ++ 1 ∷ []

-- the alphabet is one input that sets, the only gap is 1; the horizon, so many steps, search depth 1, 100 cases
unfoldable pub settings : (name value horizon steps : ℕ) → List ℕ
settings x v h n = two 1 ++ 0 ∷ two x ++ two v ++ two 1 ++ four 1 ++ four h ++ four n ++ four 1 ++ four 100

-- opens the file, for proofs by computation
unfoldable pub all_parts : Unit {0}
unfolding entity event restarts trigger in_window automation sets toggles delays waits settings
all_parts = tt
