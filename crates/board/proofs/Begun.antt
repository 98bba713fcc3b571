-- A console is made where the store is and the keyboards are in range, and else refused.
use Rattle.std.proofs.Common.{◌≡◌, ◌≤◌, ◌∙◌, ap, ap₂, sym, refl, ℕ, Bool, true, false, cond, []}
use Rattle.std.specs.Prelude.{Option, None, Some, leb, ltb, ◌&&◌}
use mathlib.Core.Bool.{false≢true}
use Rattle.std.proofs.lemmas.Bool.{le-leb, leb-true}
use Rattle.lists.proofs.Member.{some_inj, none_some, and_left, and_right}
use Rattle.node.specs.declared.refusal.Refusal.{Refusal}
use Rattle.model.specs.Model.{Model}
use Rattle.model.specs.Make.{Making, make, refusal_of, new_model, config_of}
use Rattle.model.specs.Make as model
use Rattle.console.specs.declared.refusal.KeyboardRefusal.TheVariants.{OutOfRange}
use Rattle.console.specs.Wishes.{Wishes, keyboards_refusal, new_wishes}
use Rattle.console.specs.Console.{Console, made, refused_for, with_keyboards, made_unless, make_console}
use Rattle.console.specs.Begins as begins
use Rattle.board.specs.Called.{console_of, board_of}
use Rattle.board.specs.Made.{held, in_range}
use Rattle.board.specs.Reached.{ConsoleReached, BoardReached}

-- a store that is made
record Given (k : Making) (m : Model) : Type 0 where
  pub none : refusal_of k ≡ None
  pub is : new_model (config_of k) ≡ m

given : (k : Making) (m : Model) → make k ≡ Some m → Given k m
given k m e = go (refusal_of k) refl e
  where
    go : (o : Option Refusal) → refusal_of k ≡ o → model.made_unless o (new_model (config_of k)) ≡ Some m → Given k m
    go None p e = record { none = p; is = some_inj e }
    go (Some r) p e = absurd (none_some e)

-- so many keyboards
pub fits : (memory n : ℕ) → in_range memory n ≡ true → n ≤ memory
fits memory n h = leb-true n memory (and_right (leb n 8) _ (and_right (leb 1 n) _ h))

held_is : (memory n : ℕ) → n ≤ memory → held memory n ≡ n
held_is memory n h = ap (λ b. cond b n 0) (le-leb n memory h)

few : (n : ℕ) → leb 1 n ≡ true → leb n 8 ≡ true → keyboards_refusal n ≡ None
few n a b = ap₂ (λ x y. cond x (cond y None (Some OutOfRange)) (Some OutOfRange)) a b

out : (memory n : ℕ) → in_range memory n ≡ false → keyboards_refusal (held memory n) ≡ Some OutOfRange
out memory n h = go (leb n memory) h
  where
    at : (a b : Bool) → (a && (b && true)) ≡ false → cond a (cond b None (Some OutOfRange)) (Some OutOfRange) ≡ Some OutOfRange
    at false b h = refl
    at true false h = refl
    at true true h = absurd (false≢true (sym h))

    go : (d : Bool) → (leb 1 n && (leb n 8 && d)) ≡ false → keyboards_refusal (cond d n 0) ≡ Some OutOfRange
    go false h = refl
    go true h = at (ltb 0 n) (leb n 8) h

-- a console that is made, or refused for its keyboards
pub makes : (k : Making) (memory n : ℕ) (m : Model) (ws : Wishes) → make k ≡ Some m → in_range memory n ≡ true → ws ≡ new_wishes n → make_console k n ≡ made (console_of m ws)
makes k memory n m ws e h w =
    let g = given k m e in
    let new : Console = record { model = new_model (config_of k); wishes = new_wishes n } in
    ap (λ o. made_unless o (with_keyboards (keyboards_refusal n) new)) g.none
    ∙ ap (λ o. with_keyboards o new) (few n (and_left (leb 1 n) _ h) (and_left (leb n 8) _ (and_right (leb 1 n) _ h)))
    ∙ ap₂ (λ x y. made (console_of x y)) g.is (sym w)

pub makes_held : (k : Making) (memory n : ℕ) (m : Model) (ws : Wishes) → make k ≡ Some m → in_range memory n ≡ true → ws ≡ new_wishes n → make_console k (held memory n) ≡ made (console_of m ws)
makes_held k memory n m ws e h w = ap (make_console k) (held_is memory n (fits memory n h)) ∙ makes k memory n m ws e h w

pub refuses : (k : Making) (memory n : ℕ) (m : Model) → make k ≡ Some m → in_range memory n ≡ false → make_console k (held memory n) ≡ refused_for OutOfRange
refuses k memory n m e h =
    let new : Console = record { model = new_model (config_of k); wishes = new_wishes (held memory n) } in
    ap (λ o. made_unless o (with_keyboards (keyboards_refusal (held memory n)) new)) (given k m e).none ∙ ap (λ o. with_keyboards o new) (out memory n h)

-- no call has been made of it
pub new_console : (k : Making) (memory n : ℕ) (m : Model) (ws : Wishes) → make k ≡ Some m → in_range memory n ≡ true → ws ≡ new_wishes n → ConsoleReached (console_of m ws)
new_console k memory n m ws e h w = record { making = k; keyboards = n; new = console_of m ws; accepted = makes k memory n m ws e h w; calls = []; is = refl }

pub new_with : (k : Making) (memory n : ℕ) (m : Model) (ws : Wishes) → make k ≡ Some m → in_range memory n ≡ true → ws ≡ new_wishes n → BoardReached (board_of m ws None)
new_with k memory n m ws e h w =
    record { making = k; keyboards = n; new = console_of m ws; accepted = begins.with_keyboards n (console_of m ws) (makes k memory n m ws e h w); calls = []; is = refl }

pub new_alone : (k : Making) (m : Model) (ws : Wishes) → make k ≡ Some m → ws ≡ new_wishes 0 → BoardReached (board_of m ws None)
new_alone k m ws e w =
    record { making = k; keyboards = 0; new = console_of m (new_wishes 0); accepted = begins.alone m e; calls = []; is = ap (λ v. board_of m v None) w }
