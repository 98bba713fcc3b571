use Rattle.std.proofs.Common.{◌∙◌, sym, ap, refl}
use Rattle.voice.specs.Voices.{admitted_as}
use Rattle.voice.proofs.Numbered.{numbered_snoc, admitted_is}
use Rattle.voice.proofs.voices.Voices.admit.Goals as goal

pub invariant_of-self : goal.invariant_of-self
invariant_of-self c =
    let i = c.self.inside in
    let r = admitted_is (record { live = i.rows.items; spawned = i.spawned }) c.in_ok-id.id (sym c.in_ok-id.was ∙ c.next_id.ensures ∙ ap admitted_as (sym c.self.view_is)) in
    rw c.push.ensures.items (numbered_snoc c.self.invariant _ c.in_ok-id.id.0 refl r.0 r.1 r.2)
