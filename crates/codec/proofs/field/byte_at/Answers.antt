-- One byte is the field of one byte; past the end both are 0.
use Rattle.std.proofs.Common.{rules, ◌≡◌, get_or, sym, ◌∙◌}
use Rattle.codec.proofs.Halves.{one}
use Rattle.codec.proofs.field.byte_at.Goals as goal

pub returns : goal.returns
returns c =
    let h : c.unwrap_or.result ≡ get_or c.args.s.now c.args.at 0 = search rules in
    h ∙ sym (one c.args.s.now c.args.at)
