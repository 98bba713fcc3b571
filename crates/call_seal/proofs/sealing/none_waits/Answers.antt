use Prim.Native.Nat.{ℕ, ◌+◌, ◌-◌}
use native.Mathlib.Omega.{arith}
use mathlib.Core.Path.{◌≡◌, refl, ◌∙◌}
use mathlib.Core.Bool.{Bool}
use mathlib.Core.List.{[]}
use borrow.Author.Rules.{rules}
use borrow.Author.Tests.{tests}
use lib.Dec.{eqb}
use lib.ListN.{length, get_or}
use Rattle.std.proofs.lemmas.Iterator.{YieldsList-from_range}
use Rattle.std.proofs.lemmas.Iterator.Search.{all_from_yields_List}
use Rattle.call_console.specs.Queues.{wishes_of}
use Rattle.call_seal.proofs.Waiting.{none_from}
use Rattle.call_seal.proofs.sealing.none_waits.Goals as goal

pub returns : goal.returns
returns c =
    λ words.
    let n = c.keyboard_count in
    let ls = (wishes_of c.args.w words).waits in
    let all : n.result - 0 ≡ n.result = omega arith in
    let start : 0 + n.result ≡ length ls = omega (arith, n.ensures words) in
    let test : ℕ → Bool = λ q. eqb (length (get_or ls q [])) 0 in
    all_from_yields_List test _ _ c.all.result c.all.ensures.ran (YieldsList-from_range 0 n.result n.result refl all) (λ x b q h. (search rules, search (rules, tests)))
    ∙ none_from ls n.result 0 start
