-- Writes by cases.
use Prim.Native.Nat.{ℕ, ◌≤◌, ◌<◌}
use mathlib.Core.Path.{◌≡◌, ap}
use mathlib.Core.List.{List}
use lib.ListN.{get_or, set}
use borrow.Author.Tests.{ne_eqb, lt-ltb, le-ltb}
use Rattle.queue.specs.declared.Work.TheVariants.{Stale}
use Rattle.engine_fields.specs.Fields.{name, stale, entity_of}
use Rattle.engine_state.specs.Changes.{add_m}
use Rattle.engine_state.specs.declared.Setting.{Setting}
use Rattle.engine_state.specs.Machine.{Machine, more, later}
use Rattle.engine_update.specs.Update.{expiry_m, write_m, update_at_m, update_m}

pub expiry_goes : (x : List ℕ) (e t first second name' version : ℕ) (m : Machine) → t ≡ stale x e → (t ≡ 4294967295 → ⊥) →
    first ≡ later m.now t → second ≡ later first 1 → name' ≡ name x e → version ≡ get_or m.versions e 0 →
    add_m second (Stale name' version) m ≡ expiry_m x e m
unfolding expiry_m
expiry_goes x e t first second name' version m et h ef es en ev = rw (← et, ne_eqb t 4294967295 h, ← ef, ← es, ← en, ← ev)

module _ (x : List ℕ) (w : Setting) (e : ℕ) (m : Machine) (is : e ≡ entity_of x w.entity) where
  pub update_none : 31 < e → m ≡ update_m x w m
  unfolding update_m update_at_m
  update_none h = rw (← is, lt-ltb 31 e h)

  pub update_goes : (y : ℕ) → e ≤ 31 → y ≡ more (get_or m.versions e 0) →
      write_m x w e (get_or m.values e 0) (record {
        values = set m.values e w.value;
        versions =
            set m.versions e y;
      }) m ≡ update_m x w m
  unfolding update_m update_at_m
  update_goes y h ey =
      rw (← is, le-ltb 31 e h)
      (ap (λ z. write_m x w e (get_or m.values e 0) (record {
        values = set m.values e w.value;
        versions =
            set m.versions e z;
      }) m) ey)
