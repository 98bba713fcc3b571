-- `script::def::read_rows` meets its contract.
use Rattle.std.proofs.Common.{◌≡◌, ℕ, ◌<◌, ◌≤◌, length, set, take, min, arith, refl, ap, ◌∙◌, subst}
use Rattle.std.proofs.lemmas.List.{length-replicate}
use Rattle.codec.specs.Field.{little, moved}
use Rattle.script.specs.Def.{TableAt}
use Rattle.script.proofs.Reading.{began, pushed, table_read}
use Rattle.script.proofs.def.read_rows.Goals as goal

pub loop-init : goal.loop-init
loop-init g c =
    let r = g.T.Row in
    let s = c.args.s.now in
    let n = little 1 s c.args.at in
    let long : length c.empty-rows.result.rows ≡ g.row.N = ap length c.empty-rows.ensures.rows ∙ length-replicate g.row.N c.read_at.result in
    (c.empty-rows.ensures.count, began r.read r.next g.row.N n s (moved c.args.at 1) c.empty-rows.result.rows c.after-from.result long c.after-from.ensures)

pub loop-preserved : goal.loop-preserved
loop-preserved g c =
    let r = g.T.Row in
    let l = c.loop in
    let s = c.args.s.now in
    let n = little 1 s c.args.at in
    let x = c.read_at-in-loop.result in
    let more : l.counter < n = omega (arith, c.byte_at-end.ensures) in
    let stored : c.push.new.self.rows ≡ set l.rows.rows l.counter x = subst (λ (k : ℕ). c.push.new.self.rows ≡ set l.rows.rows k x) l.invariant.0 c.push.ensures.stored in
    let few : l.rows.count < 0xffff_ffff_ffff_ffff = omega (arith, l.invariant.0, c.byte_at-end.type_inv) in (
      omega (arith, c.push.ensures.counted few, l.invariant.0),
      rw stored (pushed r.read r.next g.row.N n s (moved c.args.at 1) l.rows.rows l.from l.counter x c.end_at-from.result l.invariant.1 more c.read_at-in-loop.ensures c.end_at-from.ensures),
    )

pub returns : goal.returns
returns g c =
    let r = g.T.Row in
    let l = c.loop in
    let s = c.args.s.now in
    let n = little 1 s c.args.at in
    let past : n ≤ l.counter = omega (arith, c.byte_at-end.ensures) in
    let whole : n ≡ l.rows.count = omega (arith, l.invariant.0, l.invariant.1.few) in
    subst (λ (k : ℕ). TableAt g.row.N r.read r.next s c.args.at (take (min k g.row.N) l.rows.rows) k l.from) whole (table_read r.read r.next g.row.N n s (moved c.args.at 1) c.args.at l.rows.rows l.from l.counter refl refl l.invariant.1 past)
