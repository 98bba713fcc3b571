use Rattle.std.proofs.Common.{◌≡◌, true, sym, ◌∙◌}
use Rattle.node.specs.Name.{named}
use Rattle.node.proofs.NameLaws.{same_pointwise}
use Rattle.node.proofs.name.same_name.Goals as goal

pub returns : goal.returns
returns c =
    let a : named c.args.a ≡ true = sym c.is_named.ensures ∙ c.if-not-is_named.false in
    let b : named c.args.b ≡ true = sym c.is_named-else-not-is_named.ensures ∙ c.if-not-is_named-2.false in
    rw (a, b) (rw (sym c.text.ensures, sym c.text-2.ensures) (c.eq.ensures ∙ same_pointwise c.text.result.now c.text-2.result.now))
