-- The model file: from bytes to the model, or 30 or 31.
-- A reader looks at a list of bytes from a position on. It finds a value and the position after it, or the file rules
-- broken.
use Rattle.std.specs.Prelude.{ℕ, zero, suc, ◌+◌, ◌*◌, Bool, true, false, ◌&&◌, List, [], ◌∷◌, ltb, leb, eqb, length, get_or, if◌then◌else◌}
use Rattle.std.proofs.Math.Option.{Option, none, some}
use Rattle.texts.specs.Lists.{all, each, all_lists}
use Rattle.texts.specs.Texts.{Text, text, lt_t, mem_t, all_texts}
use Rattle.model_spec.specs.Answer.{Answer, answer, refused}
use Rattle.model_spec.specs.Notes.{notes_of, all_notes}
use Rattle.model_spec.specs.Model.{
  Source,
  Tier,
  observational,
  comfort,
  property,
  access_safety,
  Entity,
  Moment,
  Predicate,
  state,
  window,
  Trigger,
  Mode,
  single,
  queued,
  parallel,
  Effect,
  toggle,
  delay,
  condition,
  choose,
  wait,
  Actions,
  done,
  act,
  Branches,
  no_branch,
  branch,
  Automation,
  Input,
  reload,
  Event,
  Invariant,
  never,
  guard,
  transition,
  response,
  Limits,
  Model,
  midnight,
}

pub data Got (A : Type 0) : Type 0 where
  got : (value : A) (next : ℕ) → Got A
  broken : Got A

abbrev pub Reader : Type 0 → Type 0
Reader A = List ℕ → ℕ → Got A

infixl 20 ◌>>=◌
-- a reader, and then another that depends on what the first found; `do` blocks are written with it
unfoldable pub ◌>>=◌ : {A B : Type 0} → Reader A → (A → Reader B) → Reader B
◌>>=◌ r k s at = elim (r s at) [ got a next ↦ k a s next | broken ↦ broken ]

-- a value that takes no bytes
unfoldable pub give : {A : Type 0} → A → Reader A
give a s at = got a at

unfoldable pub refuse : {A : Type 0} → Reader A
refuse s at = broken

-- the value, if the test holds
unfoldable pub require : {A : Type 0} → Bool → A → Reader A
require b a s at = if b then got a at else broken

-- ---- numbers, little-endian

unfoldable pub u8 : Reader ℕ
u8 s at = if ltb at (length s) then got (get_or s at 0) (at + 1) else broken

unfoldable pub u16 : Reader ℕ
u16 = do
  a ← u8
  b ← u8
  give (a + 256 * b)

unfoldable pub u32 : Reader ℕ
u32 = do
  a ← u16
  b ← u16
  give (a + 65536 * b)

-- ---- lists and kinds

-- n values, one after the other
unfoldable pub times : {A : Type 0} → ℕ → Reader A → Reader (List A)
times zero r = give []
times (suc n) r = do
  x ← r
  xs ← times n r
  give (x ∷ xs)

-- a count, and as many values
unfoldable pub counted : {A : Type 0} → Reader A → Reader (List A)
counted r = u16 >>= λ n. times n r

-- a kind's byte, and what that kind holds; kinds count from 0
unfoldable pub kinds : {A : Type 0} → List (Reader A) → Reader A
kinds rs = u8 >>= λ k. get_or rs k refuse

unfoldable pub flag : Reader Bool
flag = kinds (give false ∷ give true ∷ [])

-- a number, or 4,294,967,295 for none
unfoldable pub number? : Reader (Option ℕ)
number? = do
  n ← u32
  give (if eqb n 4294967295 then none else some n)

-- a group of fields that a request adds behind the automations: a file that ends right before the group is read as if all of
-- them held zeros
unfoldable pub or_zeros : {A : Type 0} → (zeros : A) → Reader A → Reader A
or_zeros z r s at = if ltb at (length s) then r s at else got z at

-- ---- texts

unfoldable pub printable : ℕ → Bool
printable b = leb 32 b && leb b 126

-- a length byte and as many bytes from 32 to 126
unfoldable pub one_text : Reader Text
one_text = do
  n ← u8
  t ← times n u8
  require (all printable t) t

-- each text comes strictly before the next
unfoldable pub ascending : List Text → Bool
ascending [] = true
ascending (t ∷ []) = true
ascending (t ∷ u ∷ ts) = lt_t t u && ascending (u ∷ ts)

unfoldable pub has_fixed : List Text → Bool
has_fixed ts = mem_t (text "on") ts && mem_t (text "off") ts && mem_t (text "unknown") ts && mem_t (text "unavailable") ts

unfoldable pub texts : Reader (List Text)
texts = do
  ts ← counted one_text
  require (ascending ts && has_fixed ts) ts

-- ---- parts that name no text

unfoldable pub source : Reader Source
source = do
  l ← u32
  c ← u32
  give (record { line = l; column = c })

-- the weekday and second of the day at which the model's second 0 falls
unfoldable pub start : Reader Moment
start = do
  w ← u32
  s ← u32
  give (record { weekday = w; second = s })

unfoldable pub tier : Reader Tier
tier = kinds (give observational ∷ give comfort ∷ give property ∷ give access_safety ∷ [])

unfoldable pub mode : Reader Mode
mode = kinds (give single ∷ give Mode.restart ∷ give queued ∷ give parallel ∷ [])

unfoldable pub limits : Reader Limits
limits = do
  h ← u32
  m ← u32
  d ← u32
  c ← u32
  give (record { horizon = h; max_steps = m; search_depth = d; max_cases = c })

-- ---- parts that name texts
module _ (ts : List Text) where
  -- a place in the texts
  unfoldable pub place : Reader Text
  place = do
    p ← u16
    require (ltb p (length ts)) (get_or ts p [])

  -- a place, or 65,535 for none
  unfoldable pub place? : Reader (Option Text)
  place? = do
    p ← u16
    if eqb p 65535 then give none else require (ltb p (length ts)) (some (get_or ts p []))

  unfoldable pub predicate : Reader Predicate
  predicate = kinds (
      (do
        e ← place
        v ← place
        give (state e v))
      ∷ (do
        r ← place
        give (Predicate.unknown r))
      ∷ (do
        d ← u8
        b ← u32
        e ← u32
        give (window d b e))
      ∷ [])

  unfoldable pub trigger : Reader Trigger
  trigger = do
    e ← place
    f ← place?
    t ← place?
    s ← source
    n ← place?
    give (record { entity = e; from = f; to = t; source = s; note = n })

  unfoldable pub entity : Reader Entity
  entity = do
    x ← place
    d ← counted place
    i ← place
    t ← tier
    a ← number?
    give (record { name = x; domain = d; initial = i; tier = t; stale_after = a })

  -- names ascend strictly
  unfoldable pub entities : Reader (List Entity)
  entities = do
    es ← counted entity
    require (ascending (each (λ e. e.name) es)) es

  abbrev pub input_kinds : List (Reader Input)
  input_kinds =
      (do
        e ← place
        v ← place
        give (Input.set e v))
      ∷ give Input.restart
      ∷ give reload
      ∷ []

  unfoldable pub input : Reader Input
  input = kinds input_kinds

  unfoldable pub event : Reader Event
  event = do
    a ← u32
    i ← input
    give (record { at = a; input = i })

  abbrev pub invariant_kinds : List (Reader Invariant)
  invariant_kinds =
      (do
        id ← place
        ps ← counted predicate
        give (never id ps))
      ∷ (do
        id ← place
        e ← place
        v ← place
        ps ← counted predicate
        give (guard id e v ps))
      ∷ (do
        id ← place
        e ← place
        f ← place
        t ← place
        give (transition id e f t))
      ∷ (do
        id ← place
        p ← predicate
        q ← predicate
        n ← u32
        give (response id p q n))
      ∷ []

  unfoldable pub invariant : Reader Invariant
  invariant = kinds invariant_kinds

  -- ---- actions: the reader of an inner list is a parameter, so that the depth falls in one place, `actions`

  -- n branches
  unfoldable pub branches : Reader Actions → ℕ → Reader Branches
  branches inner zero = give no_branch
  branches inner (suc n) = do
    ps ← counted predicate
    as' ← inner
    bs ← branches inner n
    give (branch ps as' bs)

  abbrev pub effect_kinds : Reader Actions → List (Reader Effect)
  effect_kinds inner =
      (do
        e ← place
        v ← place
        give (Effect.set e v))
      ∷ (do
        e ← place
        give (toggle e))
      ∷ (do
        n ← u32
        give (delay n))
      ∷ (do
        p ← predicate
        give (condition p))
      ∷ (do
        n ← u16
        bs ← branches inner n
        d ← inner
        give (choose bs d))
      ∷ (do
        t ← trigger
        n ← u32
        c ← flag
        give (wait t n c))
      ∷ (do
        r ← place
        give (Effect.unknown r))
      ∷ []

  unfoldable pub effect : Reader Actions → Reader Effect
  effect inner = kinds (effect_kinds inner)

  -- a list of n actions
  unfoldable pub actions_of : Reader Actions → ℕ → Reader Actions
  actions_of inner zero = give done
  actions_of inner (suc n) = do
    s ← source
    e ← effect inner
    r ← actions_of inner n
    give (act s e r)

  -- a list of actions in which lists stand at most `left` deep, itself counted
  unfoldable pub actions : (left : ℕ) → Reader Actions
  actions zero = refuse
  actions (suc left) = do
    n ← u16
    actions_of (actions left) n

  -- a choose may stand in a list down to depth 16: lists stand at the depths 0 to 17
  unfoldable pub automation : Reader Automation
  automation = do
    i ← place
    m ← mode
    x ← u32
    ts ← counted trigger
    ps ← counted predicate
    as' ← actions 18
    s ← source
    ns ← counted place
    give (record { id = i; mode = m; max = x; triggers = ts; conditions = ps; actions = as'; source = s; notes = ns })

-- ---- the file

-- what stands before the events
pub record Head : Type 0 where
  pub version : ℕ
  pub texts : List Text
  pub title : Text
  pub entities : List Entity

unfoldable pub head : Reader Head
head = do
  v ← u32
  ts ← texts
  t ← place ts
  es ← entities ts
  give (record { version = v; texts = ts; title = t; entities = es })

unfoldable pub events : Head → Reader (List Event)
events h = counted (event h.texts)

-- the model of its parts
abbrev pub made : Head → List Event → List Invariant → List Input → List ℕ → Limits → List Automation → Moment → Model
made h evs is al gs ls rs st = record {
  scenario = record {
    version = h.version;
    title = h.title;
    entities = h.entities;
    events = evs;
    invariants = is;
    alphabet = al;
    gaps = gs;
    limits = ls;
  };
  rules = rs;
  start = st;
}

unfoldable pub model : Reader Model
model = do
  h ← head
  evs ← events h
  is ← counted (invariant h.texts)
  al ← counted (input h.texts)
  gs ← counted u32
  ls ← limits
  rs ← counted (automation h.texts)
  st ← or_zeros midnight start
  give (made h evs is al gs ls rs st)

-- what the reader found is the file, if it took all bytes and found at most 64 notes
unfoldable pub decoded : Got Model → (size : ℕ) → Answer Model
decoded (got m next) size =
    if ltb 64 (length (notes_of m)) then refused 30
    else if ltb next size then refused 31
    else answer m
decoded broken size = refused 30

-- 30: the file rules are broken; 31: bytes are left over
unfoldable pub decode : List ℕ → Answer Model
decode s = if ltb 32768 (length s) then refused 30 else decoded (model s 0) (length s)

-- opens the file, for proofs by computation
unfoldable pub all_readers : Unit {0}
unfolding all_lists all_texts all_notes ◌>>=◌ give refuse require u8 u16 u32 times counted kinds flag number? or_zeros
    printable one_text ascending has_fixed texts source start tier mode limits place place? predicate trigger entity entities
    input event invariant branches effect actions_of actions automation head events model decoded decode
all_readers = tt
