use Prim.Native.Nat.{◌<◌}
use native.Mathlib.Omega.{arith}
use lib.ListN.{length}
use Rattle.console.specs.Wishes.{keyboards, waiting_at}
use Rattle.call_console.specs.Queues.{wishes_of}
use Rattle.call_console.proofs.Calls.{room_is}
use Rattle.call_console.proofs.wishing.wish.Goals as goal

pub add_wish-requires : goal.add_wish-requires
add_wish-requires c =
    let a = c.args in
    let ws = wishes_of a.s a.wishes.now in
    let inside : a.keyboard < keyboards ws = omega (arith, c.keyboard_count.ensures a.wishes.now, c.if-keyboard_count-keyboard.false) in
    let few : length (waiting_at a.keyboard ws) < 16 = omega (arith, c.waiting_count.ensures a.wishes.now, c.if-waiting_count-ge16.false) in
    room_is a.s a.keyboard a.wishes.now inside few
