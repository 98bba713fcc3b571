-- Making: what it gives, or why it is refused.
use Rattle.std.specs.Prelude.{ℕ, ◌≡◌, Bool, ◌&&◌, leb, cond, Result, Ok, Err, None, Some}
use Rattle.node.specs.declared.refusal.Refusal.{Refusal}
use Rattle.model.specs.Make.{Making, make, refusal_of}
use Rattle.model.specs.Model.{Model}
use Rattle.console.specs.Console.{Console, ConsoleMade, made, refused_by, refused_for, make_console}
use Rattle.sealed.specs.Board.{Board, new_board}
use Rattle.console.specs.Begins.{without_keyboards}
use Rattle.board.specs.declared.making.MakeRefusal.{MakeRefusal}
use Rattle.board.specs.declared.making.MakeRefusal.TheVariants.{Store, Keyboards}

-- Where there is memory for fewer keyboards than are asked for, their count is out of range, as 0 is.
abbrev pub held : ℕ → ℕ → ℕ
held memory n = cond (leb n memory) n 0

-- from 1 to 8, and memory for them
abbrev pub in_range : ℕ → ℕ → Bool
in_range memory n = leb 1 n && (leb n 8 && leb n memory)

abbrev pub made_of : Result Console MakeRefusal → ConsoleMade
made_of (Ok k) = made k
made_of (Err (Store r)) = refused_by r
made_of (Err (Keyboards r)) = refused_for r

-- a board of a store alone
abbrev pub MakesAlone : Making → Result Board Refusal → Type 0
MakesAlone k (Ok b) = (m : Model) × (make k ≡ Some m) × (b ≡ new_board (without_keyboards m))
MakesAlone k (Err r) = refusal_of k ≡ Some r

-- a board of a console
abbrev pub MakesBoard : Making → ℕ → Result Board MakeRefusal → Type 0
MakesBoard k n (Ok b) = (b.seal ≡ None) × (make_console k n ≡ made b.console)
MakesBoard k n (Err (Store r)) = make_console k n ≡ refused_by r
MakesBoard k n (Err (Keyboards r)) = make_console k n ≡ refused_for r
