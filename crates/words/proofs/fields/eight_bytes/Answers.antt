-- `words::fields::eight_bytes` meets its contract: byte by byte.
use Prim.Native.Nat.{◌%◌, ◌/◌, ◌<◌, ◌+◌, ◌*◌}
use native.Mathlib.Omega.{arith}
use mathlib.Core.Path.{◌≡◌, ◌∙◌}
use borrow.Author.Rules.{rules}
use Rattle.words.proofs.fields.eight_bytes.Goals as goal

pub returns : goal.returns
returns c =
    let a = c.args.a in
    let b = c.args.b in
    let n = c.long_from.result in
    let is : n ≡ a + b * 4294967296 = c.long_from.ensures in
    let low : a < 4294967296 = search rules in
    let p0 : n % 256 ≡ a % 256 = omega (arith, is) in
    let p1 : n / 256 % 256 ≡ a / 256 % 256 = omega (arith, is) in
    let p2 : n / 65536 % 256 ≡ a / 65536 % 256 = omega (arith, is) in
    let p3 : n / 16777216 % 256 ≡ a / 16777216 % 256 = omega (arith, is) in
    let high : n / 4294967296 ≡ b = omega (arith, is, low) in
    let p5 : n / 1099511627776 % 256 ≡ b / 256 % 256 = omega (arith, high) in
    let p6 : n / 281474976710656 % 256 ≡ b / 65536 % 256 = omega (arith, high) in
    let p7 : n / 72057594037927936 % 256 ≡ b / 16777216 % 256 = omega (arith, high) in
    c.to_le_bytes.ensures ∙ cc (p0, p1, p2, p3, high, p5, p6, p7)
