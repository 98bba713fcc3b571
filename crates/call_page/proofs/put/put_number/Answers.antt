use Prim.Native.Nat.{ℕ, ◌^◌, ◌≤◌, ◌<◌}
use native.Mathlib.Omega.{arith}
use mathlib.Core.Path.{◌∙◌}
use lib.ListN.{length-take}
use Rattle.call_page.proofs.Digits.{decimal_is, most}
use Rattle.call_page.proofs.Puts.{added}
use Rattle.call_page.proofs.put.put_number.Goals as goal

pub returns : goal.returns
returns c =
    let d = c.decimal-k in
    let wide : c.args.n < 2 ^ 64 = omega (arith, c.ranges.n) in
    let few : d.result ≤ 20 = most d.result c.args.n wide d.ensures.len in
    added 20 _ _ _ _ (d.ensures.digits ∙ decimal_is d.result c.args.n d.ensures.len) c.add.ensures (omega (arith, few, length-take {A = ℕ}))
