use Prim.Native.Nat.{◌-◌}
use native.Mathlib.Omega.{arith}
use mathlib.Core.Path.{◌≡◌, refl, ◌∙◌}
use borrow.Author.Rules.{rules}
use borrow.Author.Tests.{tests}
use Rattle.std.proofs.lemmas.Iterator.{YieldsList-from_range}
use Rattle.std.proofs.lemmas.Iterator.Search.{any_from_yields_List}
use Rattle.call_clear.proofs.Flags.{done_row, any_row}
use Rattle.call_clear.proofs.silence.has_done.Goals as goal

pub returns : goal.returns
returns c =
    let s = c.args in
    let n = c.min in
    let all : n.result - 0 ≡ n.result = omega arith in
    any_from_yields_List (done_row s.nodes.now s.n n.result n.ensures) _ _ c.any.result c.any.ensures.ran (YieldsList-from_range 0 n.result n.result refl all) (λ x b q h. (search rules, search (rules, tests)))
    ∙ any_row s.nodes.now s.n n.result n.ensures
