-- A call from a book: refused for it, or made with its definition; and when it is answered by 28.
use Prim.Native.Nat.{ℕ, ◌≤◌, ◌<◌}
use native.Mathlib.Omega.{arith}
use mathlib.Core.Path.{◌≡◌, refl, sym, ap, ◌∙◌}
use mathlib.Core.Logic.{◌↔◌}
use mathlib.Core.List.{List}
use mathlib.Core.Bool.{Bool, true, false, not, cond, ◌&&◌}
use lib.Dec.{eqb, leb}
use lib.Ieee.{Float}
use borrow.Author.Tests.{leb-true, leb-false, eqb-true, eqb-false, le-leb, eq-eqb}
use Rattle.std.proofs.Math.Bool.{and-false}
use Rattle.node.specs.declared.record.NodeId.{NodeId}
use Rattle.node.specs.declared.record.VoiceId.{VoiceId}
use Rattle.node.specs.declared.refusal.Refusal.{Refusal}
use Rattle.node.specs.declared.refusal.Refusal.TheVariants as r
use Rattle.node.specs.Refusal.{number_of}
use Rattle.synthdef.specs.declared.def.SynthDef.{SynthDef}
use Rattle.std.specs.Prelude.{Option, None, Some, Result, Ok, Err}
use Rattle.def_book.specs.declared.answer.ReadError.{ReadError}
use Rattle.def_book.specs.Read.{Read, gives, malformed, limits, read_number, read_of, def_in}
use Rattle.store.specs.declared.wish.Wish.{Wish}
use Rattle.model.specs.Model.{Model}
use Rattle.model.specs.Call.{step}
use Rattle.model.specs.Call as call
use Rattle.model.specs.Wish.{wish_for, spawn_in, call_of}
use Rattle.console.specs.declared.refusal.KeyboardRefusal.{KeyboardRefusal}
use Rattle.console.specs.declared.refusal.KeyboardRefusal.TheVariants.{OutOfRange, Full}
use Rattle.console.specs.Wishes.{wish_refusal}
use Rattle.console.specs.Console.{Console, ConsoleCall, console_step, wished}
use Rattle.console.specs.Console as console
use Rattle.memory.specs.View.{Memory}
use Rattle.call_console.specs.Called.{console_of}
use Rattle.sealed.specs.declared.profile.Profile.{Profile}
use Rattle.sealed.specs.declared.refusal.SealRefusal.TheVariants.{Closed}
use Rattle.sealed.specs.Seal.{Seal}
use Rattle.sealed.specs.Board.{BoardStep, on, closed, refuses, passes}
use Rattle.call_seal.specs.Board.{BoardMemory, board, board_of, leaves_out, shuts_spawn}
use Rattle.call_seal.proofs.Boards.{spawn_closed, wish_closed}
use Rattle.wish_state_words.specs.Waiting.{waiting_in}
use Rattle.seal_words.specs.Seal.{seal_in}
use Rattle.c_answer.specs.Exported.{code, result_code}
use Rattle.c_answer.specs.Console.{console_code}
use Rattle.c_answer.proofs.Exporting.{no}
use Rattle.piecrag_c_seal.specs.Board.{board_code, said_on}
use Rattle.piecrag_c_seal.specs.Book.{is_malformed, refuses_book, FromBook, SpawnFromBook, WishFromBook}
use Rattle.piecrag_c_seal.specs.Closed.{nodes_in, edges_in, LeftOpen, ClosedFirst, SpawnClosed, WishClosed}

-- the code has read the seal as y and the book as r, and tests t
module _ {x y : Seal} (managed : Bool) (bus : NodeId) {b : Read} (r : Result SynthDef ReadError) {t : Bool}
    (same : y ≡ x)
    (read : read_of r ≡ b)
    (tested : t ≡ refuses_book y managed bus (read_of r)) where
  is : t ≡ refuses_book x managed bus b
  is = tested ∙ ap (refuses_book y managed bus) read ∙ ap (λ z. refuses_book z managed bus b) same

  pub unread : {Same : Type 0} {Does : SynthDef → Type 0} (k : ℕ) → k ≡ read_number (read_of r) → t ≡ true → Same → FromBook (refuses_book x managed bus b) b k Same Does
  unread k number e stays = record { refused = λ h. (number ∙ ap read_number read, stays); does = λ h. no (sym h ∙ sym is ∙ e) }

  pub booked : {Same : Type 0} {Does : SynthDef → Type 0} (k : ℕ) → t ≡ false → Does (def_in b) → FromBook (refuses_book x managed bus b) b k Same Does
  booked k e done = record { refused = λ h. no (sym e ∙ is ∙ h); does = λ h. done }

-- ---- 28: the number of no other answer
refusal_28 : (x : Refusal) → number_of x ≡ 28 → ⊥
refusal_28 r.SampleRate e = omega arith
refusal_28 r.BlockSize e = omega arith
refusal_28 r.BudgetTooLarge e = omega arith
refusal_28 r.UnknownNode e = omega arith
refusal_28 r.VoiceNode e = omega arith
refusal_28 r.PortOrKind e = omega arith
refusal_28 r.TableFull e = omega arith
refusal_28 r.IdsUsedUp e = omega arith
refusal_28 r.DefinitionLimits e = omega arith
refusal_28 r.BusWithoutPorts e = omega arith
refusal_28 r.Rejected e = omega arith
refusal_28 r.NoPort e = omega arith
refusal_28 r.RequiredPort e = omega arith
refusal_28 r.Cycle e = omega arith
refusal_28 r.ClockEnd e = omega arith
refusal_28 r.LentBlock e = omega arith
refusal_28 r.ShortBuffer e = omega arith
refusal_28 r.TableRate e = omega arith
refusal_28 r.OutOfRange e = omega arith
refusal_28 r.RankTooHigh e = omega arith

result_28 : (a : Result VoiceId Refusal) → result_code a ≡ 28 → ⊥
result_28 (Ok w) e = omega arith
result_28 (Err x) e = refusal_28 x e

spawn_28 : (w : Wish) (m : Model) → code (step (call_of w) m).answer ≡ 28 → ⊥
spawn_28 w m = go w.managed
  where
    go : (t : Bool) → code (step (cond t (call.spawn_managed (spawn_in w)) (call.spawn_loose (spawn_in w))) m).answer ≡ 28 → ⊥
    go true e = result_28 _ e
    go false e = result_28 _ e

wish_28 : (o : Option KeyboardRefusal) (q : ℕ) (w : Wish) (k : Console) → console_code (wished o q w k).answer ≡ 28 → ⊥
wish_28 None q w k e = omega arith
wish_28 (Some OutOfRange) q w k e = omega arith
wish_28 (Some Full) q w k e = omega arith

-- ---- and of this answer where the seal closes the call, whatever the book holds
module _ (c : ConsoleCall) (m : BoardMemory) where
  abbrev said : Bool → ℕ
  said t = board_code (cond t (refuses Closed (board_of m)) (passes (console_step c (console_of m.console)) m.seal)).answer

  shut_code : closed m.seal c ≡ true → board_code (said_on (on c) m) ≡ 28
  shut_code e = ap said e

  open_code : closed m.seal c ≡ false → board_code (said_on (on c) m) ≡ console_code (console_step c (console_of m.console)).answer
  open_code e = ap said e

-- the test, where the code makes it
module _ (x : Seal) (managed : Bool) (bus : NodeId) (b : Read) where
  abbrev shuts : Bool
  shuts = shuts_spawn x managed bus (def_in b).nodes.count (def_in b).edges.count

  abbrev tested : Read → Bool → Bool
  tested r t = not t && is_malformed r

  -- a book that the seal closes is not refused by 18
  looked_at : shuts ≡ true → refuses_book x managed bus b ≡ false
  looked_at = go b
    where
      go : (r : Read) → shuts_spawn x managed bus (def_in r).nodes.count (def_in r).edges.count ≡ true → refuses_book x managed bus r ≡ false
      go (gives d) e = and-false _
      go (malformed at) e = ap (tested (malformed at)) e
      go (limits n k) e = and-false _

  module _ {Same : Type 0} {Does : SynthDef → Type 0} (k answer other : ℕ) (is : Does (def_in b) → k ≡ answer) (h : FromBook (refuses_book x managed bus b) b k Same Does) where
    shut_28 : shuts ≡ true → answer ≡ 28 → k ≡ 28
    shut_28 e a = is (h.does (looked_at e)) ∙ a

    open_28 : shuts ≡ false → answer ≡ other → (other ≡ 28 → ⊥) → k ≡ 28 → ⊥
    open_28 e a n = go b refl e
      where
        go : (r : Read) → b ≡ r → shuts_spawn x managed bus (def_in r).nodes.count (def_in r).edges.count ≡ false → k ≡ 28 → ⊥
        go (gives d) s f j = n (sym a ∙ sym (is (h.does (ap (refuses_book x managed bus) s ∙ and-false _))) ∙ j)
        go (malformed at) s f j =
            let z = (h.refused (ap (refuses_book x managed bus) s ∙ ap (tested (malformed at)) f)).0 ∙ ap read_number s in
            omega (arith, z)
        go (limits i l) s f j = n (sym a ∙ sym (is (h.does (ap (refuses_book x managed bus) s ∙ and-false _))) ∙ j)

-- ---- what the test comes to
nodes_same : (b : Read) → (def_in b).nodes.count ≡ nodes_in b
nodes_same (gives d) = refl
nodes_same (malformed at) = refl
nodes_same (limits n k) = refl

edges_same : (b : Read) → (def_in b).edges.count ≡ edges_in b
edges_same (gives d) = refl
edges_same (malformed at) = refl
edges_same (limits n k) = refl

module _ (s : Profile) (managed : Bool) (bus : NodeId) (b : Read) where
  left_open : leaves_out s managed bus (def_in b).nodes.count (def_in b).edges.count ≡ false → LeftOpen s managed bus b
  left_open = go managed refl (eqb bus.0 s.bus.0) refl (leb (def_in b).nodes.count s.def_nodes) refl (leb (def_in b).edges.count s.def_edges) refl
    where
      go : (t : Bool) → managed ≡ t → (u : Bool) → eqb bus.0 s.bus.0 ≡ u → (v : Bool) → leb (def_in b).nodes.count s.def_nodes ≡ v → (w : Bool) → leb (def_in b).edges.count s.def_edges ≡ w
          → not (t && (u && (v && w))) ≡ false → LeftOpen s managed bus b
      go true t true u true v true w e =
          record {
            is_managed = t;
            on_bus = eqb-true _ _ u;
            nodes = omega (arith, nodes_same b, leb-true _ _ v);
            edges = omega (arith, edges_same b, leb-true _ _ w);
          }
      go true t true u true v false w e = no (sym e)
      go true t true u false v w' w e = no (sym e)
      go true t false u v' v w' w e = no (sym e)
      go false t u' u v' v w' w e = no (sym e)

  open_left : LeftOpen s managed bus b → leaves_out s managed bus (def_in b).nodes.count (def_in b).edges.count ≡ false
  open_left o =
      let few : (def_in b).nodes.count ≤ s.def_nodes = omega (arith, nodes_same b, o.nodes) in
      let fits : (def_in b).edges.count ≤ s.def_edges = omega (arith, edges_same b, o.edges) in
      rw (o.is_managed, eq-eqb _ _ o.on_bus, le-leb _ _ few, le-leb _ _ fits)

module _ (x : Seal) (managed : Bool) (bus : NodeId) (b : Read) (k : ℕ)
    (shut : shuts x managed bus b ≡ true → k ≡ 28)
    (open_call : shuts x managed bus b ≡ false → k ≡ 28 → ⊥) where
  closed_first : ClosedFirst x managed bus b k
  closed_first = record { unsealed = λ e. open_call (ap seal_shuts e); sealed = λ s e. go s e (leaves_out s managed bus (def_in b).nodes.count (def_in b).edges.count) refl }
    where
      seal_shuts : Seal → Bool
      seal_shuts y = shuts_spawn y managed bus (def_in b).nodes.count (def_in b).edges.count

      go : (s : Profile) → x ≡ Some s → (t : Bool) → leaves_out s managed bus (def_in b).nodes.count (def_in b).edges.count ≡ t → (k ≡ 28) ↔ (LeftOpen s managed bus b → ⊥)
      go s e true f = (λ h o. no (sym (open_left s managed bus b o) ∙ f), λ h. shut (ap seal_shuts e ∙ f))
      go s e false f = (λ h. absurd (open_call (ap seal_shuts e ∙ f) h), λ h. absurd (h (left_open s managed bus b f)))

pub spawn_closed_first : SpawnClosed
spawn_closed_first b managed bus pan rank m w old k n v new h =
    let y = wish_for managed bus pan rank (def_in b) in
    let c = console.on (call_of y) in
    closed_first m.seal managed bus b k
    (λ e. shut_28 m.seal managed bus b k _ 0 (λ d. d.0.answer) h e (shut_code c m (spawn_closed m.seal y _ refl ∙ e)))
    (λ e. open_28 m.seal managed bus b k _ _ (λ d. d.0.answer) h e (open_code c m (spawn_closed m.seal y _ refl ∙ e)) (spawn_28 y (console_of m.console).model))

pub wish_closed_first : WishClosed
wish_closed_first b q managed bus pan rank m z u c k t d h =
    let y = wish_for managed bus pan rank (def_in b) in
    let call = console.wish q y in
    let on_board = board m (waiting_in u) c (seal_in z) in
    closed_first (seal_in z) managed bus b k
    (λ e. shut_28 (seal_in z) managed bus b k _ 0 (λ i. i.answer) h e (shut_code call on_board (wish_closed (seal_in z) q y _ refl ∙ e)))
    (λ e. open_28 (seal_in z) managed bus b k _ _ (λ i. i.answer) h e (open_code call on_board (wish_closed (seal_in z) q y _ refl ∙ e)) (wish_28 _ q y (console_of on_board.console)))
