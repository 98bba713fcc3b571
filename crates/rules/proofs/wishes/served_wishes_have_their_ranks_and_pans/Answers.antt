use Rattle.rules.proofs.WishLaws.{console_scene, board_scene}
use Rattle.rules.proofs.wishes.served_wishes_have_their_ranks_and_pans.Goals as goal

pub returns : goal.returns
returns c = record { console = console_scene; board = board_scene }
