-- The done flags of a definition's nodes, in an array of 24.
use Rattle.std.specs.Prelude.{ℕ, ◌+◌, min, ◌≡◌, List, Bool, false, cond, ltb, length, get_or, find, is_some}
use Rattle.node.specs.declared.record.Node.{Node}
use Rattle.graph.specs.Node.{node_at}
use Rattle.voice.specs.Voice.{id}
use Rattle.model.specs.Clear.{done_flag}

-- the flag at place j; places past the definition's nodes are clear
abbrev pub flag_at : List Node → ℕ → ℕ → ℕ → Bool
flag_at ns first count j = cond (ltb j (min count 24)) (done_flag (node_at ns (id (first + j)))) false

pub record FlagsAre (ns : List Node) (first count : ℕ) (flags : List Bool) : Type 0 where
  pub long : length flags ≡ 24
  pub is : (j : ℕ) → get_or flags j false ≡ flag_at ns first count j

-- some node is done
abbrev pub any_done : List Node → Bool
any_done ns = is_some (find (λ (n : Node). n.done) ns)
