-- Refusal 13: a live node has a required port that nothing feeds (SPEC 5.3).
use Rattle.std.specs.Prelude.{ℕ, ◌^◌, ◌/◌, ◌%◌, min, List, [], ◌∷◌, Bool, false, ◌&&◌, ◌||◌, not, eqb}
use Rattle.node.specs.declared.record.Node.{Node}
use Rattle.node.specs.declared.record.Edge.{Edge}
use Rattle.rank.specs.Order.{among, upto}
use Rattle.prepare.specs.Live.{live_nodes, live_ids, id_of}

unfoldable pub any : {A : Type 0} → (A → Bool) → List A → Bool
any q [] = false
any q (x ∷ l) = q x || any q l

-- an edge from a live node feeds port p of the node x
abbrev pub feeds : List ℕ → ℕ → ℕ → Edge → Bool
feeds ids x p e = among e.from.0 ids && (eqb e.to.0 x && eqb e.port p)

abbrev pub connected : List ℕ → List Edge → ℕ → ℕ → Bool
connected ids edges x p = any (feeds ids x p) edges

-- bit p of the mask
abbrev pub bit : ℕ → ℕ → Bool
bit mask p = eqb (mask / 2 ^ p % 2) 1

-- one of the node's ports is required and not connected. Bits at or past its ports, or past 63, say nothing.
unfoldable pub lacks : List ℕ → List Edge → Node → Bool
lacks ids edges x = any (λ p. bit x.required p && not (connected ids edges (id_of x) p)) (upto (min x.ports 64))

-- some live node lacks a required port
unfoldable pub lacking : List Node → List Edge → Bool
lacking nodes edges = any (lacks (live_ids nodes) edges) (live_nodes nodes)
