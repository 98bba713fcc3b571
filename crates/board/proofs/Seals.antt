-- A call on a board, from whether the seal closes it and from what the console's or the store's own call promises.
use Rattle.std.proofs.Common.{◌≡◌, ◌<◌, ◌≤◌, ◌∙◌, ap, sym, refl, subst, ℕ, suc, Bool, true, false, not, cond, List, [], ◌∷◌, length, arith}
use native.Mathlib.Omega.{by_contra}
use Rattle.std.specs.Prelude.{Option, None, Some, Result, Ok, Err, is_some, get_or, ◌&&◌}
use lib.ListN.{get_or-eq_default}
use Rattle.node.specs.declared.record.VoiceId.{VoiceId}
use Rattle.node.specs.declared.refusal.Refusal.{Refusal}
use mathlib.Core.Bool.{false≢true}
use Rattle.model.specs.Call.{Call, Answer, Step}
use Rattle.model.specs.Call as call
use Rattle.model.specs.Model.{Model}
use Rattle.model.specs.Wish.{spawn_in, call_of}
use Rattle.store.specs.declared.wish.Wish.{Wish}
use Rattle.engine.specs.Called.{Called}
use Rattle.console.specs.declared.refusal.KeyboardRefusal.{KeyboardRefusal}
use Rattle.console.specs.Wishes.{Wishes, keyboards, waiting_at, wish_refusal, oldest_or, picked, taken_from}
use Rattle.console.specs.Console.{Console, ConsoleCall, ConsoleAnswer, ConsoleStep, plain, console_step, added_unless}
use Rattle.console.specs.Console as console
use Rattle.sealed.specs.declared.profile.Profile.{Profile}
use Rattle.sealed.specs.declared.refusal.SealRefusal.TheVariants.{NotAccepted, Closed}
use Rattle.sealed.specs.Seal.{Seal, accepts, within, shuts}
use Rattle.sealed.specs.Board.{Board, BoardAnswer, on, seal, given, sealed, refused, closed, none_waits, sealable, refuses, passes}
use Rattle.board.specs.Queues.{said}
use Rattle.board.specs.declared.closing.BoardRefusal.{BoardRefusal}
use Rattle.board.specs.Called.{ConsoleCalled, BoardCalled, console_of, board_of, on_store, wish_answered, spawn_told}
use Rattle.board.specs.Closing.{shuts_spawn, opened}
use Rattle.board.specs.Reached.{ConsoleReached, BoardReached}
use Rattle.board.proofs.Calls.{next, then}

-- a call of the store is one of the console
pub on_console : (c : Call) (m : Model) (a : Answer) (n : Model) (ws : Wishes) → Called c m a n → ConsoleCalled (console.on c) (console_of m ws) (plain a) (console_of n ws)
on_console c m a n ws e = ap (λ (s : Step). record { answer = plain s.answer; console = record { model = s.model; wishes = ws } }) e

-- a call that the seal closes, and one that it lets through
pub shut : (c : ConsoleCall) (b : Board) → closed b.seal c ≡ true → BoardCalled (on c) b (refused Closed) b
shut c b e = sym (ap (λ t. cond t (refuses Closed b) (passes (console_step c b.console) b.seal)) e)

pub through : (c : ConsoleCall) (b : Board) (a : ConsoleAnswer) (k : Console) → closed b.seal c ≡ false → ConsoleCalled c b.console a k → BoardCalled (on c) b (given a) (record { console = k; seal = b.seal })
through c b a k e h =
    ap (λ (t : ConsoleStep). passes t b.seal) h ∙ sym (ap (λ t. cond t (refuses Closed b) (passes (console_step c b.console) b.seal)) e)

-- ---- what the tests come to
pub closed_to_host : (x : Seal) (c : Call) → ((s : Profile) → shuts s c ≡ true) → is_some x ≡ true → closed x (console.on c) ≡ true
closed_to_host None c h e = absurd (false≢true e)
closed_to_host (Some s) c h e = h s

pub open_to_host : (x : Seal) (c : ConsoleCall) → is_some x ≡ false → closed x c ≡ false
open_to_host None c e = refl
open_to_host (Some s) c e = absurd (false≢true (sym e))

pub open_to_all : (x : Seal) (c : Call) → ((s : Profile) → shuts s c ≡ false) → closed x (console.on c) ≡ false
open_to_all None c h = refl
open_to_all (Some s) c h = h s

-- a spawn and a wish for it: the seal closes both by one test
pub spawn_closed : (x : Seal) (w : Wish) → closed x (console.on (call_of w)) ≡ shuts_spawn x w.managed w.bus w.def.nodes.count w.def.edges.count
spawn_closed None w = none w.managed
  where
    none : (t : Bool) → closed None (console.on (cond t (call.spawn_managed (spawn_in w)) (call.spawn_loose (spawn_in w)))) ≡ false
    none true = refl
    none false = refl
spawn_closed (Some s) w = go w.managed
  where
    go : (t : Bool) → shuts s (cond t (call.spawn_managed (spawn_in w)) (call.spawn_loose (spawn_in w))) ≡ not (t && within s (spawn_in w))
    go true = refl
    go false = refl

pub wish_closed : (x : Seal) (q : ℕ) (w : Wish) → closed x (console.wish q w) ≡ shuts_spawn x w.managed w.bus w.def.nodes.count w.def.edges.count
wish_closed None q w = refl
wish_closed (Some s) q w = refl

-- ---- sealing
pub seals : (x : Seal) (p : Profile) (k : Console) → is_some x ≡ false → sealable p k ≡ true → BoardCalled (seal p) (record { console = k; seal = x }) sealed (record { console = k; seal = Some p })
seals None p k e h = sym (ap (λ t. cond t (record { answer = sealed; board = record { console = k; seal = Some p } }) (refuses NotAccepted (record { console = k; seal = None }))) h)
seals (Some s) p k e h = absurd (false≢true (sym e))

pub not_sealed : (x : Seal) (p : Profile) (k : Console) → is_some x ≡ false → sealable p k ≡ false → BoardCalled (seal p) (record { console = k; seal = x }) (refused NotAccepted) (record { console = k; seal = x })
not_sealed None p k e h = sym (ap (λ t. cond t (record { answer = sealed; board = record { console = k; seal = Some p } }) (refuses NotAccepted (record { console = k; seal = None }))) h)
not_sealed (Some s) p k e h = absurd (false≢true (sym e))

pub sealed_before : (x : Seal) (p : Profile) (k : Console) → is_some x ≡ true → BoardCalled (seal p) (record { console = k; seal = x }) (refused Closed) (record { console = k; seal = x })
sealed_before None p k e = absurd (false≢true e)
sealed_before (Some s) p k e = refl

-- ---- one call more of a board: of its store, where no seal is or where none closes it
pub host_more : (x : Seal) (c : Call) (ws : Wishes) (m : Model) (a : Answer) (n : Model) → is_some x ≡ false → BoardReached (board_of m ws x) → Called c m a n → BoardReached (board_of n ws x)
host_more x c ws m a n e r h = then (on_store c) r (through (console.on c) (board_of m ws x) (plain a) (console_of n ws) (open_to_host x (console.on c) e) (on_console c m a n ws h))

pub store_more : (x : Seal) (c : Call) (ws : Wishes) (m : Model) (a : Answer) (n : Model) → ((s : Profile) → shuts s c ≡ false) → BoardReached (board_of m ws x) → Called c m a n → BoardReached (board_of n ws x)
store_more x c ws m a n e r h = then (on_store c) r (through (console.on c) (board_of m ws x) (plain a) (console_of n ws) (open_to_all x c e) (on_console c m a n ws h))

-- of a wish
wished_is : (q : ℕ) (w : Wish) (m : Model) (ws : Wishes)
    → ConsoleCalled (console.wish q w) (console_of m ws) (wish_answered (said (wish_refusal ws q))) (console_of m (added_unless (wish_refusal ws q) q w ws))
wished_is q w m ws = go (wish_refusal ws q)
  where
    go : (p : Option KeyboardRefusal) → ◌≡◌ {A = ConsoleStep} (record { answer = wish_answered (said p); console = console_of m (added_unless p q w ws) }) (console.wished p q w (console_of m ws))
    go None = refl
    go (Some r) = refl

pub wish_more : (q : ℕ) (w : Wish) (m : Model) (ws vs : Wishes) → vs ≡ added_unless (wish_refusal ws q) q w ws → ConsoleReached (console_of m ws) → ConsoleReached (console_of m vs)
wish_more q w m ws vs e r = subst (λ v. ConsoleReached (console_of m v)) (sym e) (next (console.wish q w) r (wished_is q w m ws))

pub board_wish_more : (x : Seal) (q : ℕ) (w : Wish) (m : Model) (ws vs : Wishes) → shuts_spawn x w.managed w.bus w.def.nodes.count w.def.edges.count ≡ false
    → vs ≡ added_unless (wish_refusal ws q) q w ws → BoardReached (board_of m ws x) → BoardReached (board_of m vs x)
board_wish_more x q w m ws vs o e r =
    subst (λ v. BoardReached (board_of m v x)) (sym e)
    (then (on (console.wish q w)) r (through (console.wish q w) (board_of m ws x) _ _ (wish_closed x q w ∙ o) (wished_is q w m ws)))

-- of a sealing
pub seal_more : (x : Seal) (p : Profile) (m : Model) (ws : Wishes) → is_some x ≡ false → accepts p m.shared m.voices ≡ true → none_waits ws.waits ≡ true
    → BoardReached (board_of m ws x) → BoardReached (board_of m ws (Some p))
seal_more x p m ws e a n r = then (seal p) r (seals x p (console_of m ws) e (ap (λ t. t && none_waits ws.waits) a ∙ n))

-- of a spawn
pub shut_spawn : (x : Seal) (w : Wish) (m : Model) (ws : Wishes) → shuts_spawn x w.managed w.bus w.def.nodes.count w.def.edges.count ≡ true
    → BoardCalled (on_store (call_of w)) (board_of m ws x) (refused Closed) (board_of m ws x)
shut_spawn x w m ws e = shut (console.on (call_of w)) (board_of m ws x) (spawn_closed x w ∙ e)

spawn_through : (x : Seal) (w : Wish) (ws : Wishes) (m : Model) (r : Result VoiceId Refusal) (n : Model) → shuts_spawn x w.managed w.bus w.def.nodes.count w.def.edges.count ≡ false
    → Called (call_of w) m (call.spawned r) n → BoardCalled (on_store (call_of w)) (board_of m ws x) (given (plain (call.spawned r))) (board_of n ws x)
spawn_through x w ws m r n e h =
    through (console.on (call_of w)) (board_of m ws x) (plain (call.spawned r)) (console_of n ws) (spawn_closed x w ∙ e) (on_console (call_of w) m (call.spawned r) n ws h)

spawn_said : (r : Result VoiceId Refusal) → spawn_told (opened r) ≡ given (plain (call.spawned r))
spawn_said (Ok v) = refl
spawn_said (Err r) = refl

pub open_spawn : (x : Seal) (w : Wish) (ws : Wishes) (m : Model) (r : Result VoiceId Refusal) (n : Model) (o : Result VoiceId (BoardRefusal Refusal))
    → shuts_spawn x w.managed w.bus w.def.nodes.count w.def.edges.count ≡ false → o ≡ opened r → Called (call_of w) m (call.spawned r) n
    → BoardCalled (on_store (call_of w)) (board_of m ws x) (spawn_told o) (board_of n ws x)
open_spawn x w ws m r n o e i h =
    ap (λ (a : BoardAnswer). record { answer = a; board = board_of n ws x }) (ap spawn_told i ∙ spawn_said r) ∙ spawn_through x w ws m r n e h

pub spawn_more : (x : Seal) (w : Wish) (ws : Wishes) (m : Model) (r : Result VoiceId Refusal) (n : Model) → shuts_spawn x w.managed w.bus w.def.nodes.count w.def.edges.count ≡ false
    → BoardReached (board_of m ws x) → Called (call_of w) m (call.spawned r) n → BoardReached (board_of n ws x)
spawn_more x w ws m r n e b h = then (on_store (call_of w)) b (spawn_through x w ws m r n e h)

-- of a turn
pub turn_more : (x : Seal) (m : Model) (ws : Wishes) (a : ConsoleAnswer) (n : Model) (vs : Wishes) → BoardReached (board_of m ws x)
    → ConsoleCalled console.turn (console_of m ws) a (console_of n vs) → BoardReached (board_of n vs x)
turn_more x m ws a n vs b h = then (on console.turn) b (through console.turn (board_of m ws x) a (console_of n vs) (never x) h)
  where
    never : (y : Seal) → closed y console.turn ≡ false
    never None = refl
    never (Some s) = refl

pub inside_of : (ws : Wishes) (q : ℕ) → 0 < length (waiting_at q ws) → q < keyboards ws
inside_of ws q h =
    by_contra (suc q) (keyboards ws)
    (λ lt.
    let past : keyboards ws ≤ q = omega (arith, lt) in
    let none : length (waiting_at q ws) ≡ 0 = ap length (get_or-eq_default ws.waits [] past) in
    omega (arith, h, none))

first : (l : List Wish) (q : ℕ) (d : Wish) → 0 < length l → oldest_or l q None ≡ Some (record { keyboard = q; wish = get_or l 0 d })
first [] q d h = absurd (omega arith)
first (w ∷ l) q d h = refl

pub turns : (m : Model) (ws : Wishes) (q : ℕ) (d : Wish) (r : Result VoiceId Refusal) (n : Model) → 0 < length (waiting_at q ws) → picked ws ≡ oldest_or (waiting_at q ws) q None
    → Called (call_of (get_or (waiting_at q ws) 0 d)) m (call.spawned r) n
    → ConsoleCalled console.turn (console_of m ws) (console.served q (call.spawned r)) (console_of n (taken_from q ws))
turns m ws q d r n h p e =
    ap (λ (s : Step). record { answer = console.served q s.answer; console = record { model = s.model; wishes = taken_from q ws } }) e
    ∙ sym (ap (λ o. console.turned o (console_of m ws)) (p ∙ first (waiting_at q ws) q d h))
