use Prim.Native.Nat.{ℕ, ◌+◌, ◌*◌, min}
use mathlib.Core.Path.{◌≡◌, sym, ap, ◌∙◌}
use mathlib.Core.Bool.{true, false}
use borrow.Author.Rules.{rules}
use borrow.Author.Tests.{tests}
use Rattle.std.proofs.lemmas.Iterator.{first_from_Range}
use Rattle.synthdef.specs.Params.{called}
use Rattle.voice_rows.specs.Rows.{param_at}
use Rattle.words.specs.Rows.{row_at}
use Rattle.voice_rows.proofs.Reading.{voice_row}
use Rattle.call_param.proofs.Params.{named_first}
use Rattle.call_param.proofs.named.param_called.Goals as goal

pub returns : goal.returns
returns c =
    let s = c.args in
    let q : ℕ → _ = λ k. called s.name (param_at (row_at 143 s.i s.t.now) (23 + k * 6)) in
    let told = first_from_Range _ _ _ c.find.result (λ k. q k ≡ true) (λ k. q k ≡ false) c.find.ensures.ran (λ x p h. search (rules, tests)) (λ x p h. (search rules, search (rules, tests))) in
    named_first s.t.now s.i s.name c.min-n.result (c.min-n.ensures ∙ ap (λ x. min x 8) (c.param_count_at.ensures ∙ sym (voice_row s.t.now s.i).held)) c.find.result told
