-- `whole_mixing::fade_output` meets its contract.
use mathlib.Core.Path.{sym, ap, ◌∙◌}
use mathlib.Core.Bool.{Bool, cond}
use Rattle.fade_table.specs.Table.{entries}
use Rattle.whole_mixing.proofs.Settled.{fade_settled}
use Rattle.whole_mixing.proofs.fade_output.Goals as goal

pub returns-then-config : goal.returns-then-config
returns-then-config c =
    let a = c.args in
    let table = c.table_entries-table in
    let r = c.fade_output in
    let chosen = c.if-config.true in
    let told = fade_settled a.config a.input.now a.p.ins a.gains.now table.result c.fade_length-len.result a.p.position a.out.now a.p.outs r.result
    r.new.out c.fade_length-len.ensures (table.ensures ∙ sym (ap (λ (b : Bool). cond b entries a.gains.now) chosen)) r.ensures.answers r.ensures.leaves in
    record { is = told.0; same = told.1 }

pub returns : goal.returns
returns c =
    let a = c.args in
    let r = c.fade_output-2 in
    let lent = c.if-config.false in
    let told = fade_settled a.config a.input.now a.p.ins a.gains.now a.gains.now c.fade_length-len.result a.p.position a.out.now a.p.outs r.result
    r.new.out c.fade_length-len.ensures (sym (ap (λ (b : Bool). cond b entries a.gains.now) lent)) r.ensures.answers r.ensures.leaves in
    record { is = told.0; same = told.1 }
