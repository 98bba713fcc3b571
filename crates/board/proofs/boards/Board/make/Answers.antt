use Rattle.board.proofs.Begun.{new_alone}
use Rattle.board.proofs.boards.Board.make.Goals as goal

pub invariant_of-result : goal.invariant_of-result
invariant_of-result g c = new_alone c.args.making c.in_ok-store.store c.new.result c.in_ok-store.ensures c.new.ensures
