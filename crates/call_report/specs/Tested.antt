-- The tests of a report, asked of a row that was looked for: 4 "unknown or dead, or a voice's fade, pan or constant node", then 16
-- "channels not 1 or 2, or samples not channels × block".
use Rattle.std.specs.Prelude.{ℕ, ◌≡◌, List, [], not, get_or, Option, None, Some, option_map, Result, Err, Ok}
use Rattle.node.specs.declared.record.Node.{Node}
use Rattle.node.specs.declared.refusal.Refusal.{Refusal}
use Rattle.node.specs.declared.refusal.Refusal.TheVariants.{UnknownNode, LentBlock}
use Rattle.graph.specs.Refuse.{when}
use Rattle.voice.specs.declared.voices.Voice.{Voice}
use Rattle.model.specs.Refuse.{reports, lent_block}
use Rattle.graph_rows.specs.Node.{node_of}

-- the node in the row that was looked for, if one was found
abbrev pub row_in : Option ℕ → List Node → Option Node
row_in row ns = option_map (λ p. get_or ns p (node_of [])) row

-- `report_refusal` of the model, of a node that was looked for
abbrev pub tested : List Voice → Option Node → ℕ → ℕ → ℕ → Option Refusal
tested vs o block channels samples = when (not (reports vs o)) UnknownNode (when (not (lent_block block channels samples)) LentBlock None)

-- what the tests answer: the row that was found where none of them refuses
abbrev pub Told : Option ℕ → Option Refusal → Result ℕ Refusal → Type 0
Told row o (Ok p) = (o ≡ None) × (row ≡ Some p)
Told row o (Err r) = o ≡ Some r
