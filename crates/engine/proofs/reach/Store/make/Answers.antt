use Rattle.std.proofs.Common.{◌∙◌, sym, subst}
use Rattle.std.proofs.lemmas.Result.{err_from_is_err_and}
use Rattle.model.specs.Make.{refusal_of}
use Rattle.engine.specs.Reached.{Reached}
use Rattle.engine.proofs.Newly.{why, newly}
use Rattle.engine.proofs.reach.Store.make.Goals as goal

pub returns-in_err-config : goal.returns-in_err-config
returns-in_err-config c =
    let p = err_from_is_err_and c.from_residual.result c.from_residual.ensures.1 in
    rw (p.1, p.2) (why (refusal_of c.args.making) _ (sym c.in_err-config.was ∙ c.config_of.ensures))

pub invariant_of-result : goal.invariant_of-result
invariant_of-result c =
    subst Reached (sym c.new.ensures) (newly c.args.making (sym c.in_ok-config.was ∙ c.config_of.ensures))
