-- Worked examples over the definitions, in a table that one computed check proves.
use Rattle.std.specs.Prelude.{Ok}
use Prim.Native.Nat.{ℕ}
use mathlib.Core.Path.{◌≡◌, refl}
use mathlib.Core.List.{List, [], ◌∷◌, map}
use mathlib.Core.Bool.{false}
use lib.IntN.{pos}
use lib.Ieee.{fin}
use Rattle.node.specs.declared.record.Node.{Node}
use Rattle.node.specs.declared.record.Edge.{Edge}
use Rattle.node.specs.declared.order.LastOrder.TheVariants.{Nothing}
use Rattle.node.specs.declared.refusal.Refusal.TheVariants.{RequiredPort, Cycle}
use Rattle.rank.specs.Order.{among, fed, released, walk, order, whole, count_up}
use Rattle.prepare.specs.Live.{rising_from, live_nodes, live_ids, as_id, processing_order}
use Rattle.prepare.specs.Required.{any, lacks, lacking}
use Rattle.prepare.specs.Prepare.{Outcome, refused, prepare}

-- a node by its id, its ports and the mask of those it requires
unfoldable pub node : ℕ → ℕ → ℕ → Node
node i ports required = record {
  id = record { 0 = i };
  owner = record { 0 = 0 };
  kind = record { bytes = []; len = 0 };
  ports = ports;
  required = required;
  takes_values = false;
  takes_glides = false;
  done = false;
  level = fin false 0 (pos 0);
  last = Nothing;
  noise = 0;
}

-- an edge by its source, its target and the port
unfoldable pub edge : ℕ → ℕ → ℕ → Edge
edge a b p = record { from = record { 0 = a }; to = record { 0 = b }; port = p }

abbrev ready : List ℕ → Outcome
ready l = record { answer = Ok tt; order = map as_id l }

-- a graph, and what prepare makes of it
pub record Row : Type 0 where
  pub nodes : List Node
  pub edges : List Edge
  pub outcome : Outcome

abbrev row : List Node → List Edge → Outcome → Row
row ns es o = record { nodes = ns; edges = es; outcome = o }

-- the row as the definitions give it
unfoldable pub given : Row → Row
given r = row r.nodes r.edges (prepare r.nodes r.edges)

unfoldable pub table : List Row
table =
    -- ● "In the page's scene the order of the third prepare is 1, 2, 4, 3, 0": the bus 0, the tones 1, 2 and 4, and the fade 3,
    -- which took the port of tone 1
    row (node 0 3 0 ∷ node 1 0 0 ∷ node 2 0 0 ∷ node 3 1 0 ∷ node 4 0 0 ∷ [])
    (edge 2 0 1 ∷ edge 1 3 0 ∷ edge 3 0 0 ∷ edge 4 0 2 ∷ []) (ready (1 ∷ 2 ∷ 4 ∷ 3 ∷ 0 ∷ []))
    -- two edges from 3 to 5: it is queued at the last, after 8
    ∷ row (node 3 0 0 ∷ node 5 2 0 ∷ node 8 1 0 ∷ []) (edge 3 5 0 ∷ edge 3 8 0 ∷ edge 3 5 1 ∷ []) (ready (3 ∷ 8 ∷ 5 ∷ []))
    -- 4 is dead: its edges do not count
    ∷ row (node 3 1 0 ∷ node 5 1 0 ∷ []) (edge 4 3 0 ∷ edge 5 4 0 ∷ []) (ready (3 ∷ 5 ∷ []))
    -- port 1 is required: without an edge, with one at another port, with one from a dead node, and with one
    ∷ row (node 3 2 2 ∷ node 5 0 0 ∷ []) [] (refused RequiredPort)
    ∷ row (node 3 2 2 ∷ node 5 0 0 ∷ []) (edge 5 3 0 ∷ []) (refused RequiredPort)
    ∷ row (node 3 2 2 ∷ node 5 0 0 ∷ []) (edge 4 3 1 ∷ []) (refused RequiredPort)
    ∷ row (node 3 2 2 ∷ node 5 0 0 ∷ []) (edge 5 3 1 ∷ []) (ready (5 ∷ 3 ∷ []))
    -- the mask's bit past the ports says nothing
    ∷ row (node 3 1 2 ∷ []) [] (ready (3 ∷ []))
    -- cycles of one node, of two, and beside a required port, which comes first
    ∷ row (node 3 1 0 ∷ []) (edge 3 3 0 ∷ []) (refused Cycle)
    ∷ row (node 3 1 0 ∷ node 5 1 1 ∷ node 8 0 0 ∷ []) (edge 3 5 0 ∷ edge 5 3 0 ∷ []) (refused Cycle)
    ∷ row (node 3 1 0 ∷ node 5 1 1 ∷ node 8 1 1 ∷ []) (edge 3 5 0 ∷ edge 5 3 0 ∷ []) (refused RequiredPort)
    -- ids that do not rise: read up to the row before
    ∷ row (node 3 0 0 ∷ node 8 0 0 ∷ node 5 1 1 ∷ node 9 0 0 ∷ []) [] (ready (3 ∷ 8 ∷ []))
    ∷ row [] (edge 3 3 0 ∷ []) (ready [])
    ∷ []

pub right : map given table ≡ table
unfolding given table node edge prepare processing_order lacking lacks any live_ids live_nodes rising_from whole order walk released fed among count_up
right = refl
