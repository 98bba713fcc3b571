-- A call on a board, from whether the seal closes it (SPEC 18) and from what the console's or the store's own call
-- promises.
use Prim.Native.Nat.{ℕ, ◌≤◌}
use native.Mathlib.Omega.{arith}
use mathlib.Core.Path.{◌≡◌, refl, sym, ap, subst, ◌∙◌}
use mathlib.Core.List.{List}
use mathlib.Core.Bool.{Bool, true, false, not, cond, ◌&&◌, false≢true}
use lib.Dec.{eqb, leb}
use borrow.Author.Tests.{le-leb}
use Rattle.std.specs.Prelude.{Ok, Err, Result, None, Some, is_some}
use Rattle.node.specs.declared.record.NodeId.{NodeId}
use Rattle.node.specs.declared.refusal.Refusal.{Refusal}
use Rattle.memory.specs.declared.state.State.{State}
use Rattle.console.specs.declared.refusal.KeyboardRefusal.{KeyboardRefusal}
use Rattle.call_seal.specs.declared.closing.BoardRefusal.{BoardRefusal}
use Rattle.model.specs.Call.{Call, Answer, Step}
use Rattle.model.specs.Call as call
use Rattle.memory.specs.View.{Memory}
use Rattle.memory.specs.Called as store
use Rattle.store.specs.declared.wish.Wish.{Wish}
use Rattle.model.specs.Wish.{spawn_in, call_of}
use Rattle.console.specs.Console.{ConsoleCall, ConsoleAnswer, ConsoleStep, plain, console_step}
use Rattle.console.specs.Console as console
use Rattle.call_console.specs.declared.queues.WishState.{WishState}
use Rattle.call_console.specs.Queues.{wishes_of}
use Rattle.call_console.specs.Called.{ConsoleMemory, memory, console_of, Called, Kept, wish_answer}
use Rattle.sealed.specs.declared.profile.Profile.{Profile}
use Rattle.sealed.specs.declared.refusal.SealRefusal.TheVariants.{NotAccepted, Closed}
use Rattle.sealed.specs.Seal.{Seal, within, shuts}
use Rattle.sealed.specs.Board.{BoardAnswer, on, seal, given, sealed, refused, closed, sealable, refuses, passes}
use Rattle.call_seal.specs.Board.{sealed_by, board, board_of, on_store, BoardCalled, BoardKept, shuts_spawn, opened, told_by, wished_answer}

-- ---- the calls
pub shut : (x : Seal) (c : ConsoleCall) (m : ConsoleMemory) → closed x c ≡ true → BoardCalled (on c) (sealed_by m x) (refused Closed) (sealed_by m x)
shut x c m e =
    let b = board_of (sealed_by m x) in
    sym (ap (λ t. cond t (refuses Closed b) (passes (console_step c (console_of m)) x)) e)

pub through : (x : Seal) (c : ConsoleCall) (m n : ConsoleMemory) (a : ConsoleAnswer) → closed x c ≡ false → Called c m a n → BoardCalled (on c) (sealed_by m x) (given a) (sealed_by n x)
through x c m n a e h =
    let b = board_of (sealed_by m x) in
    ap (λ (t : ConsoleStep). passes t x) h ∙ sym (ap (λ t. cond t (refuses Closed b) (passes (console_step c (console_of m)) x)) e)

-- what the contract of a call of the store says on a board: f and g put the parts that the call was lent into the store
abbrev pub Promised : Seal → Call → BoardAnswer → (Memory → Memory) → (Memory → Memory) → Type 0
Promised x c a f g =
    ((m : Memory) (w : WishState) (words : List ℕ) → BoardCalled (on_store c) (board (f m) w words x) a (board (g m) w words x))
    × ((m : Memory) (w : WishState) (words : List ℕ) → BoardKept a (board (f m) w words x) (board (g m) w words x))

pub shut_store : (x : Seal) (c : Call) (f : Memory → Memory) → closed x (console.on c) ≡ true → Promised x c (refused Closed) f f
shut_store x c f e = (λ m w words. shut x (console.on c) (memory (f m) w words) e, λ m w words. refl)

pub through_store : (x : Seal) (c : Call) (a : Answer) (f g : Memory → Memory) → closed x (console.on c) ≡ false
    → ((m : Memory) → store.Called c (f m) a (g m)) → ((m : Memory) → store.Kept a (f m) (g m)) → Promised x c (given (plain a)) f g
through_store x c a f g e is same = (
  λ m w words.
      through x (console.on c) (memory (f m) w words) (memory (g m) w words) (plain a) e
      (ap (λ (s : Step). record { answer = plain s.answer; console = record { model = s.model; wishes = wishes_of w words } }) (is m)),
  λ m w words. (refl, (refl, refl, same m)),
)

-- what a call that no seal closes keeps is what the store's call keeps, or the console's
pub kept_open : {A : Type 0} (say : Result A Refusal → Answer) (a : Result A Refusal) (r : Result A (BoardRefusal Refusal)) (lent : State → Memory) (s t : State) (m : Memory)
    → (t ≡ s) × (r ≡ opened a) → store.Kept (say a) m (lent s)
    → (w : WishState) (words : List ℕ) (x : Seal) → BoardKept (told_by (λ b. plain (say b)) r) (board m w words x) (board (lent t) w words x)
kept_open {A = A} say a r lent s t m e kept w words x =
    subst (λ b. BoardKept (told_by (λ b. plain (say b)) b) (board m w words x) (board (lent t) w words x)) (sym e.1)
    (subst (λ u. BoardKept (told_by (λ b. plain (say b)) (opened a)) (board m w words x) (board (lent u) w words x)) (sym e.0) (go a kept))
  where
    go : (b : Result A Refusal) → store.Kept (say b) m (lent s) → BoardKept (told_by (λ b. plain (say b)) (opened b)) (board m w words x) (board (lent s) w words x)
    go (Ok v) h = (refl, (refl, refl, h))
    go (Err v) h = (refl, (refl, refl, h))

pub kept_wish : (a : Result (Unit {0}) KeyboardRefusal) (r : Result (Unit {0}) (BoardRefusal KeyboardRefusal)) (m n : ConsoleMemory) (x : Seal) → r ≡ opened a → Kept (wish_answer a) m n
    → BoardKept (wished_answer r) (sealed_by m x) (sealed_by n x)
kept_wish a r m n x e kept = subst (λ b. BoardKept (wished_answer b) (sealed_by m x) (sealed_by n x)) (sym e) (go a kept)
  where
    go : (b : Result (Unit {0}) KeyboardRefusal) → Kept (wish_answer b) m n → BoardKept (wished_answer (opened b)) (sealed_by m x) (sealed_by n x)
    go (Ok v) h = (refl, h)
    go (Err v) h = (refl, h)

-- ---- what the tests come to
-- a spawn and a wish for it: the seal closes both by one test
pub spawn_closed : (x : Seal) (w : Wish) (b : Bool) → b ≡ shuts_spawn x w.managed w.bus w.def.nodes.count w.def.edges.count → closed x (console.on (call_of w)) ≡ b
spawn_closed x w b e = same x ∙ sym e
  where
    go : (s : Profile) (t : Bool) → shuts s (cond t (call.spawn_managed (spawn_in w)) (call.spawn_loose (spawn_in w))) ≡ not (t && within s (spawn_in w))
    go s true = refl
    go s false = refl

    same : (y : Seal) → closed y (console.on (call_of w)) ≡ shuts_spawn y w.managed w.bus w.def.nodes.count w.def.edges.count
    same None = none w.managed
      where
        none : (t : Bool) → closed None (console.on (cond t (call.spawn_managed (spawn_in w)) (call.spawn_loose (spawn_in w)))) ≡ false
        none true = refl
        none false = refl
    same (Some s) = go s w.managed

pub wish_closed : (x : Seal) (q : ℕ) (w : Wish) (b : Bool) → b ≡ shuts_spawn x w.managed w.bus w.def.nodes.count w.def.edges.count → closed x (console.wish q w) ≡ b
wish_closed None q w b e = sym e
wish_closed (Some s) q w b e = sym e

-- what a seal closes with no node and no edge, it closes with every definition
pub shut_anyway : (x : Seal) (managed : Bool) (bus : NodeId) (nodes edges : ℕ) → shuts_spawn x managed bus 0 0 ≡ true → shuts_spawn x managed bus nodes edges ≡ true
shut_anyway None managed bus nodes edges e = e
shut_anyway (Some s) managed bus nodes edges e = go managed (eqb bus.0 s.bus.0) e
  where
    go : (t u : Bool) → not (t && (u && (leb 0 s.def_nodes && leb 0 s.def_edges))) ≡ true → not (t && (u && (leb nodes s.def_nodes && leb edges s.def_edges))) ≡ true
    go false u h = refl
    go true false h = refl
    go true true h =
        let d : 0 ≤ s.def_nodes = omega arith in
        let f : 0 ≤ s.def_edges = omega arith in
        absurd (false≢true (sym (ap (λ i. not (i && leb 0 s.def_edges)) (le-leb 0 s.def_nodes d) ∙ ap (λ i. not i) (le-leb 0 s.def_edges f)) ∙ h))

-- ---- sealing
pub sealed_now : (x : Seal) (p : Profile) (m : ConsoleMemory) → is_some x ≡ false → sealable p (console_of m) ≡ true → BoardCalled (seal p) (sealed_by m x) sealed (sealed_by m (Some p))
sealed_now None p m e h = sym (ap (λ t. cond t (record { answer = sealed; board = board_of (sealed_by m (Some p)) }) (refuses NotAccepted (board_of (sealed_by m None)))) h)
sealed_now (Some s) p m e h = absurd (false≢true (sym e))

pub not_sealed : (x : Seal) (p : Profile) (m : ConsoleMemory) → is_some x ≡ false → sealable p (console_of m) ≡ false → BoardCalled (seal p) (sealed_by m x) (refused NotAccepted) (sealed_by m x)
not_sealed None p m e h = sym (ap (λ t. cond t (record { answer = sealed; board = board_of (sealed_by m (Some p)) }) (refuses NotAccepted (board_of (sealed_by m None)))) h)
not_sealed (Some s) p m e h = absurd (false≢true (sym e))
