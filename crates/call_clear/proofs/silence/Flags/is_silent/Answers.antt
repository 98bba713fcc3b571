use mathlib.Core.Path.{subst, ◌∙◌}
use mathlib.Core.List.{[]}
use lib.ListN.{take, get_or}
use Rattle.node.specs.declared.record.NodeId.{NodeId}
use Rattle.graph_rows.specs.Node.{nodes_in}
use Rattle.voice_rows.specs.Rows.{voice_of, voices_in}
use Rattle.call_clear.specs.Flags.{FlagsAre}
use Rattle.call_clear.proofs.Flags.{silent_by}
use Rattle.call_clear.proofs.silence.Flags.is_silent.Goals as goal

pub returns : goal.returns
returns c =
    let a = c.args in
    let ns = take a.self.now.n (nodes_in a.self.now.nodes.now) in
    let v = get_or (voices_in a.voices.now) a.i (voice_of []) in
    let flags = c.from-flags in
    let count = c.count_at in
    let first = c.first_at-first in
    let by_first = subst (λ (k : NodeId). FlagsAre ns k.0 count.result flags.result) first.ensures flags.ensures in
    c.silent_at.ensures ∙ silent_by ns v flags.result (subst (λ k. FlagsAre ns v.first.0 k flags.result) count.ensures by_first)
