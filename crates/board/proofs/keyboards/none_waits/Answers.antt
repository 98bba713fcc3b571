use Rattle.std.proofs.Common.{◌∙◌, rules, tests, Bool, length}
use Rattle.std.specs.Prelude.{eqb}
use Rattle.std.proofs.lemmas.Iterator.{YieldsList-from_slice}
use Rattle.std.proofs.lemmas.Iterator.Search.{all_from_yields_List}
use Rattle.arrayvec.specs.ArrayVec.{ArrayVec}
use Rattle.store.specs.declared.wish.Wish.{Wish}
use Rattle.board.proofs.Queues.{none_all}
use Rattle.board.proofs.keyboards.none_waits.Goals as goal

pub returns : goal.returns
returns c =
    let test : ArrayVec Wish → Bool = λ v. eqb (length v.items) 0 in
    all_from_yields_List test _ _ c.all.result c.all.ensures.ran (YieldsList-from_slice c.args.queues.now (search rules)) (λ x b q h. (search rules, search (rules, tests))) ∙ none_all c.args.queues.now
