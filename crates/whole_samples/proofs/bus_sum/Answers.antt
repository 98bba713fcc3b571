-- `whole_samples::bus_sum` meets its contract.
use Rattle.std.proofs.Common.{T, true, length, pos, refl, sym, subst, ◌∙◌}
use Rattle.std.specs.Int.{w32, int_wrapping_add}
use Rattle.bus.specs.Block.{block_of}
use Rattle.bus.specs.Sum.{summed_by, sum_fits}
use Rattle.bus.proofs.Blocks.{left_new}
use Rattle.whole_bus.specs.Sample.{is_sample}
use Rattle.whole_bus.specs.Block.{every}
use Rattle.whole_bus.proofs.Sums.{clipped_block}
use Rattle.whole_bus.proofs.Even.{even_fits, even_summed}
use Rattle.whole_bus.proofs.Answered.{done, fitting, sum_left}
use Rattle.whole_samples.proofs.bus_sum.Goals as goal

pub returns-then-counts-gt64-clause-leaves : goal.returns-then-counts-gt64-clause-leaves
returns-then-counts-gt64-clause-leaves c =
    let a = c.args in
    let fits = sum_fits (length a.inputs.now) a.counts.now a.size (length a.out.now) a.outs in
    let told = done fits (every is_sample a.inputs.now) (sym c.sum.ensures.answers ∙ c.in_ok-sum.was) in
    let sums = block_of a.outs a.size (λ k i. summed_by (int_wrapping_add w32) (pos 0) (pos 0) a.size k i a.inputs.now a.counts.now) in
    let written = c.sum.ensures.leaves ∙ sym (left_new fits (every is_sample a.inputs.now) sums a.out.now sums told.0 told.1 refl) in
    let fit = fitting a.inputs.now a.counts.now a.size a.outs a.out.now told.0 in
    sum_left a.inputs.now a.counts.now a.size a.outs a.out.now told.0 _ true
    (clipped_block a.inputs.now a.counts.now a.size a.outs a.out.now c.sum.new.out c.clip_all.new.out fit (sym told.1) written c.clip_all.ensures)

pub sum_even-requires : goal.sum_even-requires
sum_even-requires c =
    let a = c.args in
    let same = subst T (sym (sym c.every_is.ensures ∙ c.if-not-every_is.false)) tt in
    let fit = fitting a.inputs.now a.counts.now a.size a.outs a.out.now (sym c.sum_fits.ensures ∙ c.if-not-sum_fits.false) in
    (even_fits _ _ _ _ _ same fit, c.if-out-gt256.false, fit.few)

pub returns-clause-leaves : goal.returns-clause-leaves
returns-clause-leaves c =
    let a = c.args in
    let same = subst T (sym (sym c.every_is.ensures ∙ c.if-not-every_is.false)) tt in
    let fits = sym c.sum_fits.ensures ∙ c.if-not-sum_fits.false in
    sum_left a.inputs.now a.counts.now a.size a.outs a.out.now fits _ c.sum_even.result
    (even_summed _ _ _ _ _ same (fitting a.inputs.now a.counts.now a.size a.outs a.out.now fits) _ _ c.sum_even.ensures)
