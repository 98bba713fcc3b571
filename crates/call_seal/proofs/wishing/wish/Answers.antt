use Rattle.call_console.specs.Called.{memory}
use Rattle.call_seal.proofs.Boards.{kept_wish}
use Rattle.call_seal.proofs.wishing.wish.Goals as goal

pub returns-clause-same : goal.returns-clause-same
returns-clause-same c =
    let a = c.args in
    let got = c.wish-given in
    λ m. kept_wish got.result.answer c.opened.result (memory m a.w a.wishes.now) (memory m got.result.wishes got.new.wishes) a.x c.opened.ensures (got.ensures.same m)
