use Rattle.std.proofs.Common.{◌∙◌, ◌≤◌, ◌<◌, ◌^◌, length-take, arith, ℕ}
use Rattle.engine.proofs.Digits.{decimal_is, most}
use Rattle.engine.proofs.Texts.{added}
use Rattle.engine.proofs.page_text.put_number.Goals as goal

pub add-requires : goal.add-requires
add-requires c =
    let d = c.decimal-count in
    let wide : c.args.n < 2 ^ 64 = omega (arith, c.ranges.n) in
    let few : d.result ≤ 20 = most d.result c.args.n wide d.ensures.len in
    omega (arith, few, c.requires, length-take {A = ℕ})

pub returns : goal.returns
returns c =
    let d = c.decimal-count in
    let wide : c.args.n < 2 ^ 64 = omega (arith, c.ranges.n) in
    let few : d.result ≤ 20 = most d.result c.args.n wide d.ensures.len in
    let is = d.ensures.digits ∙ decimal_is d.result c.args.n d.ensures.len in
    rw (← is) (added 20 c.add.ensures (omega (arith, few, length-take {A = ℕ})))
