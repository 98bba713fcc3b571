use Rattle.std.proofs.Common.{◌≡◌, ◌∙◌, sym, false, length}
use lib.Dec.{eqb}
use Rattle.engine.specs.Parts.{store_with}
use Rattle.engine.proofs.Together.{all_gone}
use Rattle.engine.proofs.free.forget_each.Goals as goal

pub returns : goal.returns
returns c =
    λ d.
    let some : eqb (length c.args.ids.now) 0 ≡ false = sym c.is_empty.ensures ∙ c.if-is_empty.false in
    rw (c.remove_voices.ensures, c.remove_all.ensures) (all_gone c.args.ids.now (store_with c.args.graph.now c.args.voices.now d) some)
