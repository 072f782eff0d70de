use mathlib.Core.Path.{◌≡◌, refl, sym, ◌∙◌, ap}
use mathlib.Core.Bool.{true}
use mathlib.Core.List.{List}
use Prim.Native.Nat.{ℕ, ◌+◌, ◌-◌, ◌*◌, ◌/◌}
use native.Mathlib.Omega.{arith}
use lib.Dec.{ltb}
use lib.ListN.{length}
use Rattle.areas.proofs.Laws as areas
use Rattle.areas.specs.Areas.{written, opened, closed}
use Rattle.queue.proofs.Laws as laws
use Rattle.queue.proofs.insert.Goals as goal

pub returns-then-a-n-lt5 : goal.returns-then-a-n-lt5
returns-then-a-n-lt5 c =
    let a = c.args in record {
      room = sym (areas.full 5 a.n (length a.a.now) (omega arith) (omega arith));
      within = λ to e. absurd (cc);
      more = λ to e. absurd (cc);
      same = λ e. refl;
    }

pub returns-then-i-n : goal.returns-then-i-n
returns-then-i-n c =
    let a = c.args in let i = c.place_for-i.result in let room : ltb a.n (length a.a.now / 5) ≡ true =
    areas.room 5 a.n (length a.a.now) (omega arith) (omega arith) in
    laws.put_in a.a.now a.first a.n a.it _ (a.first - 1) (sym room) (omega arith)
    (λ l ln rep. c.put_ahead.ensures
    ∙ ap (λ (w : List ℕ). written (closed a.a.now ((a.first - 1) * 5) 5 ((a.first + i) * 5))
    ((a.first - 1 + i) * 5) w) c.item_words-w.ensures
    ∙ laws.insert_front a.a.now a.first a.n l ln rep c.requires a.it i c.place_for-i.ensures
    c.if-first-gt0.true)

pub returns-then-a-first-lt5 : goal.returns-then-a-first-lt5
returns-then-a-first-lt5 c =
    let a = c.args in let i = c.place_for-i.result in let room : ltb a.n (length a.a.now / 5) ≡ true =
    areas.room 5 a.n (length a.a.now) (omega arith) (omega arith) in
    laws.put_in a.a.now a.first a.n a.it _ (a.first / 2) (sym room) (omega arith)
    (λ l ln rep. c.put_in.ensures
    ∙ ap (λ (b : List ℕ). opened b ((a.first / 2 + i) * 5) ((a.first / 2 + a.n) * 5) c.item_words-w.result)
    c.take_out.ensures
    ∙ ap (λ (w : List ℕ). opened (closed a.a.now (a.first / 2 * 5) ((a.first - a.first / 2) * 5)
    ((a.first + a.n) * 5)) ((a.first / 2 + i) * 5) ((a.first / 2 + a.n) * 5) w) c.item_words-w.ensures
    ∙ laws.insert_slid a.a.now a.first a.n l ln rep c.requires a.it i c.place_for-i.ensures
    (a.first / 2) (omega arith) (omega arith))

pub returns : goal.returns
returns c =
    let a = c.args in let i = c.place_for-i.result in let room : ltb a.n (length a.a.now / 5) ≡ true =
    areas.room 5 a.n (length a.a.now) (omega arith) (omega arith) in
    laws.put_in a.a.now a.first a.n a.it _ a.first (sym room) (omega arith)
    (λ l ln rep. c.put_in-2.ensures
    ∙ ap (λ (w : List ℕ). opened a.a.now ((a.first + i) * 5) ((a.first + a.n) * 5) w) c.item_words-w.ensures
    ∙ laws.insert_back a.a.now a.first a.n l ln rep c.requires a.it i c.place_for-i.ensures
    (omega arith))
