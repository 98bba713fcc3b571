-- Levels and candidates over what they read: the live nodes and the clock. The model says the same over its whole state.
use Rattle.std.specs.Prelude.{ℕ, ◌<◌, List, [], map, Bool, cond, ltb, get_or, filter, Option, Float, None}
use Rattle.node.specs.declared.record.Node.{Node}
use Rattle.graph.specs.Node.{node_at}
use Rattle.voice.specs.declared.policy.Candidate.{Candidate}
use Rattle.voice.specs.declared.voices.Voice.{Voice}
use Rattle.model.specs.Voice.{node_level}
use Rattle.graph_rows.specs.Node.{node_of, nodes_in}

-- "none until the clock passes the birth sample, and none for an unknown voice or a dead output"
abbrev pub level_at : List Node → ℕ → Voice → Option Float
level_at ns clock v = cond (ltb v.birth clock) (node_level (node_at ns v.output)) None

abbrev pub candidate_at : List Node → ℕ → Voice → Candidate
candidate_at ns clock v = record { voice = v.id; level = level_at ns clock v; rank = v.rank }

abbrev pub candidates_at : List Node → ℕ → (Voice → Bool) → List Voice → List Candidate
candidates_at ns clock q vs = map (candidate_at ns clock) (filter q vs)

-- the id of the node in row k
abbrev pub id_in : List ℕ → ℕ → ℕ
id_in c k = (get_or (nodes_in c) k (node_of [])).id.0

-- row k is a left-to-right maximum: every row before it has a lower id, so that it is the first row of its id
abbrev pub LeftMax : List ℕ → ℕ → Type 0
LeftMax c k = (j : ℕ) → j < k → id_in c j < id_in c k
