-- The definitions, computed on small definitions: limits (SPEC 6.1), counted edges (SPEC 6.2), parameters (SPEC 6.3)
-- and silence (SPEC 7.1), where a port of `Add` that nothing feeds keeps it sounding.
use Prim.Native.Nat.{ℕ}
use Prim.Native.String.{String}
use mathlib.Core.Path.{◌≡◌, refl}
use mathlib.Core.List.{List, [], ◌∷◌, map}
use mathlib.Core.Bool.{Bool, true, false}
use lib.ListN.{length, replicate}
use Rattle.node.specs.Silence.{name, silence_pass_through, rules}
use Rattle.rank.specs.Order.{among, fed, released, walk, order, whole, count_up}
use Rattle.synthdef.specs.Edges.{counted}
use Rattle.synthdef.specs.Limits.{allowed}
use Rattle.synthdef.specs.Plan.{plan_of, plan_silent, settled}
use Rattle.synthdef.specs.declared.def.DefNode.{DefNode}
use Rattle.synthdef.specs.declared.def.DefEdge.{DefEdge}
use Rattle.synthdef.specs.declared.def.SynthDef.{SynthDef}

-- a node whose first ports named `in`, `level` and `amp` are given; 255 is none
unfoldable pub node : String → ℕ → ℕ → ℕ → ℕ → DefNode
node kind ports i l a =
    record {
      kind = name kind;
      ports = ports;
      required = 0;
      takes_values = true;
      takes_glides = true;
      in_port = i;
      level_port = l;
      amp_port = a;
    }

unfoldable pub edge : ℕ → ℕ → ℕ → DefEdge
edge f t p = record { from = f; to = t; port = p }

unfoldable pub def : List DefNode → List DefEdge → ℕ → SynthDef
def ns es out =
    record {
      nodes = record { rows = ns; count = length ns };
      edges = record { rows = es; count = length es };
      params = record { rows = []; count = 0 };
      output = out;
    }

-- Example, computed: counted edges stand in the order of their last occurrence.
pub last_occurrence : counted (edge 0 2 0 ∷ edge 1 2 1 ∷ edge 1 2 0 ∷ []) ≡ edge 1 2 1 ∷ edge 1 2 0 ∷ []
unfolding edge
last_occurrence = refl

-- ---- silence: two sources into a node of a kind, its output the definition's; the first is done, the second not
unfoldable pub two : String → ℕ → ℕ → ℕ → List DefEdge → SynthDef
two kind i l a es = def (node "Env" 0 255 255 255 ∷ node "Osc" 0 255 255 255 ∷ node kind 2 i l a ∷ []) es 2

unfoldable pub first_done : SynthDef → Bool
first_done d = plan_silent (plan_of d) (true ∷ false ∷ false ∷ [])

-- the first source at port 0 and the second at port 1; the other way round; the first alone at port 0
unfoldable pub both : List DefEdge
both = edge 0 2 0 ∷ edge 1 2 1 ∷ []

unfoldable pub crossed : List DefEdge
crossed = edge 0 2 1 ∷ edge 1 2 0 ∷ []

unfoldable pub lone : List DefEdge
lone = edge 0 2 0 ∷ []

pub record Row : Type 0 where
  pub scene : SynthDef
  pub silent : Bool

unfoldable pub row : SynthDef → Bool → Row
row d b = record { scene = d; silent = b }

unfoldable pub table : List Row
table =
    row (two "Mul" 255 255 255 both) true
    ∷ row (two "Mul" 255 255 255 crossed) true
    ∷ row (two "Div" 255 255 255 both) true
    ∷ row (two "Div" 255 255 255 crossed) false
    ∷ row (two "Add" 255 255 255 both) false
    ∷ row (two "Add" 255 255 255 lone) false
    ∷ row (two "Sub" 255 255 255 (edge 0 2 0 ∷ edge 0 2 1 ∷ [])) true
    ∷ row (def (node "Env" 0 255 255 255 ∷ node "Add" 0 255 255 255 ∷ []) [] 1) false
    ∷ row (two "FmOp" 0 1 0 both) false
    ∷ row (two "FmOp" 0 1 0 crossed) true
    ∷ row (two "Paf" 0 0 1 both) false
    ∷ row (two "Paf" 0 0 1 crossed) true
    ∷ row (two "Neg" 0 255 255 both) true
    ∷ row (two "Neg" 255 0 0 both) false
    ∷ row (two "Lag" 0 255 255 both) true
    ∷ row (two "Lagg" 0 255 255 both) false
    ∷ row (two "mul" 0 0 0 both) false
    ∷ row (two "Mul" 0 0 0 (edge 0 2 0 ∷ edge 1 2 0 ∷ [])) false
    ∷ []

unfoldable pub given : Row → Row
given r = row r.scene (first_done r.scene)

pub silent_right : map given table ≡ table
unfolding table given row two def node edge both crossed lone first_done settled silence_pass_through rules
silent_right = refl

-- ---- limits
-- Two examples, computed: a cycle of counted edges, and the same edges with the cycle broken by a later edge to its port.
pub cycle_refused : allowed (two "Mul" 255 255 255 (edge 2 2 0 ∷ [])) ≡ false
unfolding two def node edge whole order walk released fed among count_up
cycle_refused = refl

pub uncounted_cycle_allowed : allowed (two "Mul" 255 255 255 (edge 2 2 0 ∷ edge 0 2 0 ∷ [])) ≡ true
unfolding two def node edge whole order walk released fed among count_up
uncounted_cycle_allowed = refl

pub nodes_24 : allowed (def (replicate 24 (node "Tone" 8 255 255 255)) [] 23) ≡ true
unfolding def node whole order walk released fed among count_up
nodes_24 = refl

pub nodes_25 : allowed (def (replicate 25 (node "Tone" 8 255 255 255)) [] 23) ≡ false
unfolding def node whole order walk released fed among count_up
nodes_25 = refl
