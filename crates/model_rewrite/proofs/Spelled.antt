-- Every reader of the model file up to the automations looks only at the bytes that it takes: what it finds in a file is
-- found wherever those bytes stand. What stands behind the automations is in Behind.antt.
use Rattle.std.specs.Prelude.{if◌then◌else◌}
use mathlib.Core.Path.{◌≡◌, refl, sym, ap, ◌∙◌, subst}
use mathlib.Core.List.{List, [], ◌∷◌, ◌++◌, append_assoc}
use mathlib.Core.Bool.{Bool, true, false}
use mathlib.Core.Option.{none, some}
use Prim.Native.Nat.{ℕ, zero, suc, ◌+◌, ◌<◌}
use native.Mathlib.Omega.{arith}
use lib.ListN.{length, get_or, drop, length-append, length-drop}
use lib.Seq.{drop-cons, drop-drop, drop_at}
use lib.Dec.{ltb, eqb}
use Rattle.texts.specs.Texts.{Text}
use Rattle.model_spec.specs.Model.{Actions}
use Rattle.model_spec.specs.File.{
  got,
  Reader,
  ◌>>=◌,
  give,
  refuse,
  require,
  u8,
  u16,
  u32,
  times,
  counted,
  kinds,
  flag,
  number?,
  one_text,
  texts,
  source,
  tier,
  mode,
  limits,
  place,
  place?,
  predicate,
  trigger,
  entity,
  entities,
  input,
  event,
  invariant,
  branches,
  effect,
  actions_of,
  actions,
  automation,
  head,
}
use Rattle.model_walk.proofs.Laws.{bind_got, u8_in}
use Rattle.model_walk.proofs.Found.{bound, given, required, refused, u8_wide}

-- the bytes c are read as a, wherever they stand
abbrev pub Spells : {A : Type 0} → Reader A → A → List ℕ → Type 0
Spells r a c = (s : List ℕ) (p : ℕ) (rest : List ℕ) → drop p s ≡ c ++ rest → r s p ≡ got a (p + length c)

-- what stands from p up to q spells a
pub record Spelled {A : Type 0} (r : Reader A) (s : List ℕ) (p : ℕ) (a : A) (q : ℕ) : Type 0 where
  pub bytes : List ℕ
  pub stands : drop p s ≡ bytes ++ drop q s
  pub ends : q ≡ p + length bytes
  pub spells : Spells r a bytes

abbrev pub Local : {A : Type 0} → Reader A → Type 0
Local {A} r = (s : List ℕ) (p : ℕ) (a : A) (q : ℕ) → r s p ≡ got a q → Spelled r s p a q

-- ---- the ways to put readers together

pub spells_give : {A : Type 0} (a : A) → Spells (give a) a []
unfolding give
spells_give a s p rest e = ap (got a) (omega arith)

pub spells_bind : {A B : Type 0} (r : Reader A) (k : A → Reader B) {a : A} {b : B} (c d : List ℕ) → Spells r a c →
    Spells (k a) b d → Spells (r >>= k) b (c ++ d)
spells_bind r k {a} {b} c d f g s p rest e =
    let e₁ : drop p s ≡ c ++ (d ++ rest) = e ∙ append_assoc c d rest in
    let e₂ : drop (p + length c) s ≡ d ++ rest = sym (drop-drop (length c) p s) ∙ ap (drop (length c)) e₁
    ∙ drop_at c (d ++ rest) (length c) refl in
    bind_got r k (f s p (d ++ rest) e₁) ∙ g s (p + length c) rest e₂ ∙ ap (got b) (omega (arith, length-append c d))

-- the last part
pub spells_last : {A B : Type 0} (r : Reader A) (f : A → B) {a : A} (c : List ℕ) → Spells r a c →
    Spells (r >>= λ x. give (f x)) (f a) c
unfolding give
spells_last r f {a} c h s p rest e = bind_got r (λ x. give (f x)) (h s p rest e)

pub spells_require : {A : Type 0} (t : Bool) (a : A) → t ≡ true → Spells (require t a) a []
unfolding require
spells_require t a h s p rest e = rw h (ap (got a) (omega arith))

pub local_bind : {A B : Type 0} (r : Reader A) (k : A → Reader B) → Local r → ((a : A) → Local (k a)) → Local (r >>= k)
local_bind r k f g s p b q e =
    let x = bound r k e in
    let y = f s p x.value x.next x.first in
    let z = g x.value s x.next b q x.rest in
    record {
      bytes = y.bytes ++ z.bytes;
      stands = y.stands ∙ ap (λ (l : List ℕ). y.bytes ++ l) z.stands
          ∙ sym (append_assoc y.bytes z.bytes (drop q s));
      ends = omega (arith, y.ends, z.ends, length-append y.bytes z.bytes);
      spells = spells_bind r k y.bytes z.bytes y.spells z.spells;
    }

-- a reader that takes no bytes
nothing : {A : Type 0} (r : Reader A) (s : List ℕ) (p : ℕ) (a : A) (q : ℕ) → p ≡ q → Spells r a [] → Spelled r s p a q
nothing r s p a q e h = record { bytes = []; stands = ap (λ (i : ℕ). drop i s) e; ends = omega arith; spells = h }

pub local_give : {A : Type 0} (b : A) → Local (give b)
local_give b s p a q e =
    let g = given s p b e in
    nothing (give b) s p a q g.1 (subst (λ (x : _). Spells (give b) x []) g.0 (spells_give b))

pub local_require : {A : Type 0} (t : Bool) (b : A) → Local (require t b)
local_require t b s p a q e =
    let g = required s p b t e in
    nothing (require t b) s p a q g.1.1 (subst (λ (x : _). Spells (require t b) x []) g.1.0
    (spells_require t b g.0))

pub local_refuse : {A : Type 0} → Local {A = A} refuse
local_refuse s p a q e = absurd (refused s p e)

pub local_if : {A : Type 0} (b : Bool) (x y : Reader A) → Local x → Local y → Local (if b then x else y)
local_if true x y f g = f
local_if false x y f g = g

-- ---- numbers

pub spells_u8 : (x : ℕ) → Spells u8 x (x ∷ [])
spells_u8 x s p rest e =
    let h : p < length s = omega (arith, length-drop p s, ap length e) in
    let d = drop-cons s p 0 h in
    let v : get_or s p 0 ≡ x = cc in
    u8_in s p h ∙ ap (λ (y : ℕ). got y (p + 1)) v

pub local_u8 : Local u8
local_u8 s p a q e =
    let w = u8_wide s p e in
    let h : p < length s = omega (arith, w.inside) in
    let i = u8_in s p h in
    let v : get_or s p 0 ≡ a = cc in
    let n : suc p ≡ q = omega (arith, w.ends) in
    record {
      bytes = a ∷ [];
      stands = drop-cons s p 0 h ∙ rw (v, n);
      ends = w.ends;
      spells = spells_u8 a;
    }

pub local_u16 : Local u16
unfolding u16
local_u16 = local_bind _ _ local_u8 λ a. local_bind _ _ local_u8 λ b. local_give _

pub local_u32 : Local u32
unfolding u32
local_u32 = local_bind _ _ local_u16 λ a. local_bind _ _ local_u16 λ b. local_give _

pub local_number? : Local number?
unfolding number?
local_number? = local_bind _ _ local_u32 λ n. local_give _

-- ---- lists and kinds

pub local_times : {A : Type 0} (r : Reader A) → Local r → (n : ℕ) → Local (times n r)
unfolding times
local_times r f zero = local_give []
local_times r f (suc n) = local_bind _ _ f λ x. local_bind _ _ (local_times r f n) λ xs. local_give _

pub local_counted : {A : Type 0} (r : Reader A) → Local r → Local (counted r)
unfolding counted
local_counted r f = local_bind _ _ local_u16 (local_times r f)

abbrev pub Locals : {A : Type 0} → List (Reader A) → Type 0
Locals [] = Unit {0}
Locals (r ∷ rs) = Local r × Locals rs

local_at : {A : Type 0} (rs : List (Reader A)) → Locals rs → (k : ℕ) → Local (get_or rs k refuse)
local_at [] f k = local_refuse
local_at (r ∷ rs) f zero = f.0
local_at (r ∷ rs) f (suc k) = local_at rs f.1 k

pub local_kinds : {A : Type 0} (rs : List (Reader A)) → Locals rs → Local (kinds rs)
unfolding kinds
local_kinds rs f = local_bind _ _ local_u8 (local_at rs f)

-- ---- parts that name no text

local_flag : Local flag
unfolding flag
local_flag = local_kinds _ (local_give _, (local_give _, tt))

local_one_text : Local one_text
unfolding one_text
local_one_text = local_bind _ _ local_u8 λ n. local_bind _ _ (local_times u8 local_u8 n) λ t. local_require _ _

pub local_texts : Local texts
unfolding texts
local_texts = local_bind _ _ (local_counted one_text local_one_text) λ ts. local_require _ _

local_source : Local source
unfolding source
local_source = local_bind _ _ local_u32 λ l. local_bind _ _ local_u32 λ c. local_give _

local_tier : Local tier
unfolding tier
local_tier = local_kinds _ (local_give _, (local_give _, (local_give _, (local_give _, tt))))

local_mode : Local mode
unfolding mode
local_mode = local_kinds _ (local_give _, (local_give _, (local_give _, (local_give _, tt))))

pub local_limits : Local limits
unfolding limits
local_limits = local_bind _ _ local_u32 λ h. local_bind _ _ local_u32 λ m. local_bind _ _ local_u32 λ d. local_bind _ _
    local_u32 λ c. local_give _

-- ---- parts that name texts

module _ (ts : List Text) where
  pub local_place : Local (place ts)
  unfolding place
  local_place = local_bind _ _ local_u16 λ p. local_require _ _

  local_place? : Local (place? ts)
  unfolding place?
  local_place? = local_bind _ _ local_u16 λ p. local_if (eqb p 65535) (give none)
      (require (ltb p (length ts)) (some (get_or ts p []))) (local_give none)
      (local_require (ltb p (length ts)) (some (get_or ts p [])))

  local_predicate : Local (predicate ts)
  unfolding predicate
  local_predicate =
      local_kinds _ (
        local_bind _ _ local_place λ e. local_bind _ _ local_place λ v. local_give _,
        (
          local_bind _ _ local_place λ r. local_give _,
          (local_bind _ _ local_u8 λ d. local_bind _ _ local_u32 λ b. local_bind _ _ local_u32 λ e. local_give _, tt),
        ),
      )

  local_trigger : Local (trigger ts)
  unfolding trigger
  local_trigger =
      local_bind _ _ local_place λ e.
      local_bind _ _ local_place? λ f.
      local_bind _ _ local_place? λ t.
      local_bind _ _ local_source λ s.
      local_bind _ _ local_place? λ n.
      local_give _

  local_entity : Local (entity ts)
  unfolding entity
  local_entity =
      local_bind _ _ local_place λ x.
      local_bind _ _ (local_counted _ local_place) λ d.
      local_bind _ _ local_place λ i.
      local_bind _ _ local_tier λ t.
      local_bind _ _ local_number? λ a.
      local_give _

  pub local_entities : Local (entities ts)
  unfolding entities
  local_entities = local_bind _ _ (local_counted _ local_entity) λ es. local_require _ _

  pub local_input : Local (input ts)
  unfolding input
  local_input =
      local_kinds _ (
        local_bind _ _ local_place λ e. local_bind _ _ local_place λ v. local_give _,
        (
          local_give _,
          (
            local_give _,
            tt,
          ),
        ),
      )

  pub local_event : Local (event ts)
  unfolding event
  local_event = local_bind _ _ local_u32 λ a. local_bind _ _ local_input λ i. local_give _

  pub local_invariant : Local (invariant ts)
  unfolding invariant
  local_invariant =
      local_kinds _ (
        local_bind _ _ local_place λ i. local_bind _ _ (local_counted _ local_predicate) λ ps. local_give _,
        (
          local_bind _ _ local_place λ i. local_bind _ _ local_place λ e. local_bind _ _ local_place λ v. local_bind _ _
              (local_counted _ local_predicate) λ ps. local_give _,
          (
            local_bind _ _ local_place λ i. local_bind _ _ local_place λ e. local_bind _ _ local_place λ f. local_bind _ _
                local_place λ t. local_give _,
            (
              local_bind _ _ local_place λ i. local_bind _ _ local_predicate λ p. local_bind _ _ local_predicate λ q.
                  local_bind _ _ local_u32 λ n. local_give _,
              tt,
            ),
          ),
        ),
      )

  module _ (inner : Reader Actions) (f : Local inner) where
    local_branches : (n : ℕ) → Local (branches ts inner n)
    unfolding branches
    local_branches zero = local_give _
    local_branches (suc n) = local_bind _ _ (local_counted _ local_predicate) λ ps. local_bind _ _ f λ as'. local_bind _ _
        (local_branches n) λ bs. local_give _

    local_effect : Local (effect ts inner)
    unfolding effect
    local_effect =
        local_kinds _ (
          local_bind _ _ local_place λ e. local_bind _ _ local_place λ v. local_give _,
          (
            local_bind _ _ local_place λ e. local_give _,
            (
              local_bind _ _ local_u32 λ n. local_give _,
              (
                local_bind _ _ local_predicate λ p. local_give _,
                (
                  local_bind _ _ local_u16 λ n. local_bind _ _ (local_branches n) λ bs. local_bind _ _ f λ d. local_give _,
                  (
                    local_bind _ _ local_trigger λ t. local_bind _ _ local_u32 λ n. local_bind _ _ local_flag λ c. local_give
                        _,
                    (
                      local_bind _ _ local_place λ r. local_give _,
                      tt,
                    ),
                  ),
                ),
              ),
            ),
          ),
        )

    local_actions_of : (n : ℕ) → Local (actions_of ts inner n)
    unfolding actions_of
    local_actions_of zero = local_give _
    local_actions_of (suc n) = local_bind _ _ local_source λ s. local_bind _ _ local_effect λ e. local_bind _ _
        (local_actions_of n) λ r. local_give _

  local_actions : (left : ℕ) → Local (actions ts left)
  unfolding actions
  local_actions zero = local_refuse
  local_actions (suc left) = local_bind _ _ local_u16 λ n. local_actions_of (actions ts left) (local_actions left) n

  pub local_automation : Local (automation ts)
  unfolding automation
  local_automation =
      local_bind _ _ local_place λ i.
      local_bind _ _ local_mode λ m.
      local_bind _ _ local_u32 λ x.
      local_bind _ _ (local_counted _ local_trigger) λ tr.
      local_bind _ _ (local_counted _ local_predicate) λ ps.
      local_bind _ _ (local_actions 18) λ as'.
      local_bind _ _ local_source λ s.
      local_bind _ _ (local_counted _ local_place) λ ns.
      local_give _

pub local_head : Local head
unfolding head
local_head =
    local_bind _ _ local_u32 λ v.
    local_bind _ _ local_texts λ ts.
    local_bind _ _ (local_place ts) λ t.
    local_bind _ _ (local_entities ts) λ es.
    local_give _
