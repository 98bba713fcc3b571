-- `bus::mix::fade_channel` meets its contract: the samples that the gains reach are faded, and so are those after them.
use Rattle.std.proofs.Common.{◌+◌, length, get_or, subst, sym, ap, get_or-drop, ◌∙◌, arith}
use Rattle.bus.specs.Fade.{Multiply}
use Rattle.bus.proofs.Fades.{multiply_part, multiply_none, faded_parts}
use Rattle.bus.proofs.mix.fade_channel.Goals as goal

pub fade_held-requires : goal.fade_held-requires
fade_held-requires g c =
    let N = g.N.Numbers in
    let a = c.args in
    let source = c.split_at.ensures in
    let out = c.split_at_mut-front.ensures in (
      source.front_len ∙ sym out.front_len,
      omega arith,
      subst (λ t. Multiply N.Multiplies N.past N.no_gain t a.gains.now) (sym source.front) (multiply_part N.Multiplies N.past N.no_gain a.source.now a.gains.now c.requires.1 c.min-n.result 0),
    )

pub fade_out-requires : goal.fade_out-requires
fade_out-requires g c =
    let N = g.N.Numbers in
    let a = c.args in
    let n = c.min-n.result in (
      omega arith,
      λ i. subst (λ x. N.Multiplies x N.no_gain) (sym (ap (λ t. get_or t i N.past) c.split_at.ensures.back ∙ get_or-drop n a.source.now i N.past))
          (multiply_none N.Multiplies N.past N.no_gain a.source.now a.gains.now c.requires.1 (n + i)),
    )

pub returns : goal.returns
returns g c =
    let N = g.N.Numbers in
    let a = c.args in
    let source = c.split_at.ensures in
    let out = c.split_at_mut-front.ensures in
    faded_parts N.times N.past N.no_gain a.source.now a.gains.now (length a.out.now) c.min-n.result c.min-n.ensures
    _ _ _ _ _ _ source.front source.back out.front_len out.back_len c.fade_held.ensures c.fade_out.ensures
