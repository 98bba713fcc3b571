use Rattle.std.proofs.Common.{rules, not, refl}
use Rattle.words.proofs.Gaps.{closed_rows}
use Rattle.voice_rows.specs.Listed.{is_any_of}
use Rattle.voice_rows.specs.Rows.{voice_of}
use Rattle.voice_rows.proofs.table.remove_voices.Goals as goal

pub returns : goal.returns
returns c =
    let s = c.args in
    closed_rows 143 voice_of (λ v. not (is_any_of s.ids.now v)) s.t.now c.close_gaps.new.t c.close_gaps.result 0 s.count _ c.close_gaps.ensures (λ t i b h. search rules) refl
