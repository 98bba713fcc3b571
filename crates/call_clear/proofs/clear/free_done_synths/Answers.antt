use mathlib.Core.Path.{sym, ap, ◌∙◌}
use Rattle.memory.specs.View.{model_of}
use Rattle.memory.specs.Lent.{lent_voices}
use Rattle.call_free.specs.Forgotten.{without_ids}
use Rattle.call_clear.proofs.Passes.{clear_whole}
use Rattle.call_clear.proofs.clear.free_done_synths.Goals as goal

pub returns : goal.returns
returns c =
    let a = c.args in
    let f = c.forget_voices-left in
    let d = c.forget_voices-state in
    let faded = c.as_slice-3 in
    let silent = c.as_slice-4 in
    let same-faded = c.as_slice.ensures ∙ sym faded.ensures in
    let same-silent = c.as_slice-2.ensures ∙ sym silent.ensures in
    let length = c.from-len.ensures ∙ c.fade_length.ensures in
    λ m.
    let old = model_of (lent_voices a.s a.nodes.now a.edges.now a.voices.now m) in
    let mid = model_of (lent_voices f.result f.new.nodes f.new.edges f.new.voices m) in
    clear_whole old mid (model_of (lent_voices d.result d.new.nodes d.new.edges d.new.voices m)) c.from-len.result faded.result.now silent.result.now length (faded.ensures ∙ c.faded_ids-faded.ensures)
    (f.ensures m ∙ ap (λ ids. without_ids ids old) same-faded) (silent.ensures ∙ c.silent_ids-silent.ensures) (d.ensures m ∙ ap (λ ids. without_ids ids mid) same-silent)
