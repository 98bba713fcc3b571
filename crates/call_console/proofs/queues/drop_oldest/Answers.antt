use Prim.Native.Nat.{◌-◌}
use mathlib.Core.Path.{refl, ap, ◌∙◌}
use Rattle.console.specs.Wishes.{after}
use Rattle.call_console.proofs.Rings.{many_is, taken_is}
use Rattle.call_console.proofs.queues.drop_oldest.Goals as goal

pub returns : goal.returns
returns c =
    let a = c.args in
    λ words. taken_is a.s words a.q _ c.requires c.well_formed.0.1.1.1.1.0.1.0.1 refl (ap (λ n. n - 1) c.min.ensures) c.after.result (c.after.ensures ∙ ap (λ n. after n a.q) (c.keyboard_count.ensures words ∙ many_is a.s words))
