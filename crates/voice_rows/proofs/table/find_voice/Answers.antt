use mathlib.Core.Path.{sym, ◌∙◌}
use borrow.Author.Rules.{rules}
use lib.ListN.{take}
use Rattle.voice.specs.Voice.{is_voice}
use Rattle.words.proofs.FirstRow.{at_place, first_of, row_found}
use Rattle.voice_rows.specs.Rows.{voice_of, voices_in}
use Rattle.voice_rows.proofs.table.find_voice.Goals as goal

pub returns : goal.returns
returns c =
    let s = c.args in
    let q = is_voice s.w in
    let r = c.first_row.result in
    let first = first_of 143 voice_of q s.t.now s.count r _ c.first_row.ensures (λ t i b h. search rules) in
    record {
      is = row_found 143 voice_of q s.t.now s.count r first;
      within = λ i p. (at_place q (take s.count (voices_in s.t.now)) i (sym first ∙ p)).1;
    }
