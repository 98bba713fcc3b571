use Rattle.std.proofs.Common.{◌∙◌, sym, ap}
use Rattle.std.specs.Prelude.{count_by}
use Rattle.voice.specs.Voice.{counted}
use Rattle.voice.specs.Voices.{VoicesView}
use Rattle.voice.proofs.Counted.{count_is}
use Rattle.voice.proofs.voices.Voices.count_tracked.Goals as goal

pub returns : goal.returns
returns c =
    let q = counted c.args.scope c.args.bus in
    c.count_in.ensures ∙ ap (count_by q) c.as_slice.ensures.value ∙ ap (λ (v : VoicesView). count_by q v.live) c.self.view_is ∙ sym (count_is q c.args.self.now.live)
