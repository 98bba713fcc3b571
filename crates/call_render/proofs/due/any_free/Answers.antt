use Prim.Native.Nat.{ℕ, ◌+◌, ◌-◌, ◌≤◌}
use native.Mathlib.Omega.{arith}
use mathlib.Core.Path.{◌≡◌, refl, ap, ◌∙◌}
use mathlib.Core.Bool.{Bool}
use mathlib.Core.List.{[]}
use borrow.Author.Rules.{rules}
use borrow.Author.Tests.{tests}
use lib.ListN.{length}
use Rattle.std.proofs.lemmas.Iterator.{YieldsList-from_range}
use Rattle.std.proofs.lemmas.Iterator.Search.{any_from_yields_List}
use Rattle.event_table.specs.Rows.{event_of, events_in}
use Rattle.scheduler.specs.Queue.{taken_before}
use Rattle.model.specs.Render.{any_free}
use Rattle.words.proofs.Rows.{rows_long}
use Rattle.words.proofs.InWords.{take_count}
use Rattle.call_render.proofs.Events.{frees, any_from}
use Rattle.call_render.proofs.due.any_free.Goals as goal

pub returns : goal.returns
returns c =
    let s = c.args in
    let n = c.min in
    let rows = events_in s.t.now in
    let top : n.result ≤ length rows = omega (arith, n.ensures, rows_long 15 event_of s.t.now) in
    let all : n.result - 0 ≡ n.result = omega arith in
    let start : 0 + n.result ≡ n.result = omega arith in
    let test : ℕ → Bool = frees s.deadline rows n.result [] [] (event_of []) top in
    any_from_yields_List test _ _ c.any.result c.any.ensures.ran (YieldsList-from_range 0 n.result n.result refl all) (λ x b q h. (search rules, search (rules, tests)))
    ∙ any_from s.deadline rows n.result [] [] (event_of []) top n.result 0 start
    ∙ ap (λ z. any_free (taken_before s.deadline z)) (take_count 15 event_of s.t.now s.count n.result n.ensures)
