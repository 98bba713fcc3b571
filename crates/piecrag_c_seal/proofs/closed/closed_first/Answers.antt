use Rattle.piecrag_c_seal.proofs.Books.{spawn_closed_first, wish_closed_first}
use Rattle.piecrag_c_seal.proofs.closed.closed_first.Goals as goal

pub returns : goal.returns
returns c = record { spawn = spawn_closed_first; wish = wish_closed_first }
