-- Every call of a board is one that no seal closes, or has a form that is lent the seal.
use mathlib.Core.Logic.{inl, inr}
use mathlib.Core.Bool.{true, false}
use Rattle.model.specs.Call as call
use Rattle.model.specs.Wish.{wish_for}
use Rattle.console.specs.Console as console
use Rattle.board_refinement.specs.Forms.{EveryCall}
use Rattle.board_refinement.specs.Forms as form

pub every_call : EveryCall
every_call (console.on (call.add_node kind ports required values glides)) = inr (form.add_node kind ports required values glides)
every_call (console.on (call.remove_node k)) = inr (form.remove_node k)
every_call (console.on (call.connect a b p)) = inr (form.connect a b p)
every_call (console.on (call.disconnect b p)) = inr (form.disconnect b p)
every_call (console.on (call.set_sink k)) = inr (form.set_sink k)
every_call (console.on (call.spawn_managed x)) = inr (form.spawn (wish_for true x.bus x.pan x.rank x.def))
every_call (console.on (call.spawn_loose x)) = inr (form.spawn (wish_for false x.bus x.pan x.rank x.def))
every_call (console.on (call.free w)) = inl (form.free w)
every_call (console.on call.clear) = inl form.clear
every_call (console.on (call.order w name o)) = inl (form.order w name o)
every_call (console.on (call.schedule t w name a)) = inl (form.schedule t w name a)
every_call (console.on (call.report k channels samples flag)) = inl (form.report k channels samples flag)
every_call (console.on call.prepare) = inl form.prepare
every_call (console.on (call.render out)) = inl (form.render out)
every_call (console.on (call.ask q)) = inl (form.ask q)
every_call (console.wish q w) = inr (form.wish q w)
every_call console.turn = inl form.turn
