use Prim.Native.Nat.{◌+◌, ◌*◌, ◌/◌, ◌≤◌, ◌<◌, min}
use native.Mathlib.Omega.{arith}
use mathlib.Core.Path.{◌≡◌, refl, sym, ap, ◌∙◌}
use mathlib.Core.List.{[], ◌++◌}
use lib.ListN.{length, take}
use lib.Seq.{take_all}
use borrow.Author.Rules.{rules}
use Rattle.words.proofs.Rows.{rows_long}
use Rattle.words.proofs.InWords.{take_count}
use Rattle.voice_rows.specs.Rows.{voice_of, voices_in}
use Rattle.graph_rows.specs.Edge.{edges_in}
use Rattle.model.specs.Page.{header, port_now, page}
use Rattle.call_page.proofs.Lines.{page_more}
use Rattle.call_page.proofs.Puts.{then, added, widened}
use Rattle.call_page.proofs.put.page_text.Goals as goal

pub loop-i-init : goal.loop-i-init
loop-i-init c = added 21 header header [] _ refl (c.add.ensures ∙ ap (λ l. take 4501 (l ++ header)) c.empty-page.ensures) (omega arith)

pub loop-i-preserved : goal.loop-i-preserved
loop-i-preserved c =
    let a = c.args in
    let i = c.loop-i.i in
    let rows = voices_in a.t.now in
    let table : length a.t.now ≡ 9152 = search rules in
    let within : i < length rows = omega (arith, rows_long 143 voice_of a.t.now, ap (λ k. k / 143) table, c.min-i-end.ensures, c.loop-i-test.true) in
    let more : 21 + 70 * i + 70 ≤ 21 + 70 * (i + 1) = omega arith in
    widened more (page_more a.s.clock (port_now (take a.s.edges (edges_in a.edges.now))) i rows (voice_of []) within) (then c.loop-i.invariant c.put_line.ensures)

pub returns : goal.returns
returns c =
    let a = c.args in
    let n = c.min-i-end in
    let all : c.loop-i.i ≡ n.result = omega (arith, c.loop-i.auto.i-end, c.loop-i-test.false) in
    let port = port_now (take a.s.edges (edges_in a.edges.now)) in
    let table : length a.t.now ≡ 9152 = search rules in
    let count : n.result ≡ min a.s.voices (length a.t.now / 143) = n.ensures ∙ ap (min a.s.voices) (sym (ap (λ k. k / 143) table)) in
    let text = page a.s.clock port (take c.loop-i.i (voices_in a.t.now)) in
    let fits : length text ≤ 4501 = omega (arith, c.loop-i.invariant.fits, n.ensures, all) in
    c.loop-i.invariant.placed ∙ take_all 4501 text fits
    ∙ ap (λ k. page a.s.clock port (take k (voices_in a.t.now))) all
    ∙ ap (page a.s.clock port) (take_count 143 voice_of a.t.now a.s.voices n.result count)
