use Rattle.std.proofs.Common.{◌≡◌, ◌+◌, ◌*◌, ◌≤◌, ◌<◌, [], length, subst, arith, rules, ◌∙◌}
use Rattle.std.proofs.lemmas.List.{get_or_default}
use Rattle.voice_rows.specs.Filled.{Filled}
use Rattle.voice_rows.proofs.Filling.{fill_start, fill_more, fill_done}
use Rattle.voice_rows.proofs.layout.put_records.Goals as goal

pub loop-k-init : goal.loop-k-init
loop-k-init g c =
    let a = c.args in
    fill_start c.from-base.result g.row.W g.row.N g.L.Layout.at (g.L.Layout.at [] 0) a.ws.now a.xs.now

pub loop-k-preserved : goal.loop-k-preserved
loop-k-preserved g c =
    let a = c.args in
    let l = c.loop-k in
    let y = g.L.Layout in
    let x = c.index-xs-k in
    let base = c.from-base.result in
    let many : length a.xs.now ≡ g.row.N = search rules in
    let low : l.k < length a.xs.now = omega (arith, many, c.loop-k-test.true) in
    let wide : length a.ws.now ≡ g.row.M = search rules in
    let room : base + g.row.N * g.row.W ≤ length a.ws.now = omega (arith, wide, a.run.fits, c.from-base.ensures) in
    let is = c.words.ensures.back ∙ get_or_default a.xs.now l.k x.result (y.at [] 0) low in
    fill_more base g.row.W g.row.N y.at (y.at [] 0) a.ws.now a.xs.now l.ws l.k c.loop-k-test.true room l.invariant c.words.result c.put_words.new.t c.words.ensures.long (g.met.L.Layout.local) is c.put_words.ensures

pub returns : goal.returns
returns g c =
    let a = c.args in
    let l = c.loop-k in
    let y = g.L.Layout in
    let many : length a.xs.now ≡ g.row.N = search rules in
    subst (λ base. Filled base g.row.W g.row.N y.at a.ws.now l.ws a.xs.now) c.from-base.ensures
    (fill_done c.from-base.result g.row.W g.row.N y.at (y.at [] 0) a.ws.now a.xs.now l.ws l.k c.loop-k-test.false many l.invariant)
