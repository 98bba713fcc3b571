use Rattle.std.proofs.Common.{◌∙◌, ap, sym, subst}
use Rattle.model.specs.Wish.{call_of}
use Rattle.sealed.specs.declared.refusal.SealRefusal.TheVariants.{Closed}
use Rattle.sealed.specs.Board.{Board, refused, board_step}
use Rattle.board.specs.Called.{BoardCalled, on_store}
use Rattle.board.proofs.Seals.{shut_spawn, open_spawn, spawn_more}
use Rattle.board.proofs.boards.Board.spawn_voice.Goals as goal

pub returns-then-shuts_spawn : goal.returns-then-shuts_spawn
returns-then-shuts_spawn g c =
    let i = c.self.inside in
    let w = c.args.wish.now in
    subst (λ (b : Board). BoardCalled (on_store (call_of w)) b (refused Closed) b) c.self.view_is (shut_spawn i.seal w i.store i.keyboards (sym c.shuts_spawn.ensures ∙ c.if-shuts_spawn.true))

pub returns : goal.returns
returns g c =
    let i = c.self.inside in
    let w = c.args.wish.now in
    open_spawn i.seal w i.keyboards i.store c.spawn_voice.result c.spawn_voice.new.self c.opened.result (sym c.shuts_spawn.ensures ∙ c.if-shuts_spawn.false) c.opened.ensures c.spawn_voice.ensures
    ∙ ap (board_step (on_store (call_of w))) c.self.view_is

pub invariant_of-self : goal.invariant_of-self
invariant_of-self g c =
    let i = c.self.inside in
    spawn_more i.seal c.args.wish.now i.keyboards i.store c.spawn_voice.result c.spawn_voice.new.self (sym c.shuts_spawn.ensures ∙ c.if-shuts_spawn.false) c.self.invariant c.spawn_voice.ensures
