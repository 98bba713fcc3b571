-- The done plan (SPEC 7.3): of each node the sources that its rule reads, and whether one or all of them have to be
-- silent. A plan is evaluated on the done flags by passes over the nodes until nothing changes. That its answer meets
-- the rule of `Silent` at every node, and that no other does, is the theorem `plan_answers` of proofs/Theorem.antt:
-- nothing here has to be believed beside it.
use Rattle.std.specs.Prelude.{ℕ, zero, suc, ◌-◌, min, List, [], ◌∷◌, ◌++◌, Bool, true, false, ◌&&◌, ◌||◌, cond, length, get_or, replicate, ltb, eqb, Option, None, Some}
use Rattle.lists.specs.Table.{rows_of}
use Rattle.node.specs.Silence.{silence_of}
use Rattle.node.specs.declared.silence.SilenceRule.{SilenceRule}
use Rattle.node.specs.declared.silence.SilenceRule.TheVariants.{Own, AnyPort, FirstPort, EveryPort, LevelPort, AmpPort, InPort}
use Rattle.synthdef.specs.Rows.{every, any}
use Rattle.synthdef.specs.Tables.{node_rows, edge_rows}
use Rattle.synthdef.specs.Edges.{counted, source_at}
use Rattle.synthdef.specs.declared.def.DefNode.{DefNode}
use Rattle.synthdef.specs.declared.def.DefEdge.{DefEdge}
use Rattle.synthdef.specs.declared.def.SynthDef.{SynthDef}
use Rattle.synthdef.specs.declared.plan.Span.{Span}
use Rattle.synthdef.specs.declared.plan.DoneStep.{DoneStep}
use Rattle.synthdef.specs.declared.plan.DonePlan.{DonePlan}

-- ---- building
-- the ports that a rule reads: `count` of them from `first` on
abbrev pub span : ℕ → ℕ → Span
span f k = record { first = f; count = k }

abbrev pub named_span : ℕ → ℕ → Span
named_span ports p = cond (ltb p ports) (span p 1) (span 0 0)

abbrev pub ports_of : DefNode → ℕ
ports_of n = min n.ports 8

abbrev pub span_of : SilenceRule → DefNode → Span
span_of Own n = span 0 0
span_of AnyPort n = span 0 (ports_of n)
span_of FirstPort n = span 0 1
span_of EveryPort n = span 0 (ports_of n)
span_of LevelPort n = named_span (ports_of n) n.level_port
span_of AmpPort n = named_span (ports_of n) n.amp_port
span_of InPort n = named_span (ports_of n) n.in_port

abbrev pub is_every : SilenceRule → Bool
is_every Own = false
is_every AnyPort = false
is_every FirstPort = false
is_every EveryPort = true
is_every LevelPort = false
is_every AmpPort = false
is_every InPort = false

-- the sources that are connected to the k ports from p on of node i
abbrev pub more : Option ℕ → List ℕ → List ℕ
more None l = l
more (Some j) l = j ∷ l

abbrev pub sources_from : List DefEdge → ℕ → ℕ → ℕ → List ℕ
sources_from es i p zero = []
sources_from es i p (suc k) = more (source_at es i p) (sources_from es i (suc p) k)

abbrev pub step : Bool → List ℕ → DoneStep
step all l = record { all = all; count = length l; sources = l ++ replicate (8 - length l) 0 }

-- a sum with an unconnected port, or with no port, never falls silent through its sources
abbrev pub summed : ℕ → DoneStep → DoneStep
summed k st = cond (ltb 0 k && eqb st.count k) (record { all = true; count = st.count; sources = st.sources }) (step false [])

abbrev pub step_in : Bool → ℕ → List ℕ → DoneStep
step_in all k l = cond all (summed k (step false l)) (step false l)

abbrev pub step_by : List DefEdge → SilenceRule → Span → ℕ → DoneStep
step_by es r s i = step_in (is_every r) s.count (sources_from es i s.first s.count)

abbrev pub step_of : List DefEdge → DefNode → ℕ → DoneStep
step_of es n i = step_by es (silence_of n.kind) (span_of (silence_of n.kind) n) i

-- a step for each node, of which the first is node i
abbrev pub steps_from : List DefEdge → List DefNode → ℕ → List DoneStep
steps_from es [] i = []
steps_from es (n ∷ ns) i = step_of es n i ∷ steps_from es ns (suc i)

-- a row that is no node's is silent by its done flag alone
abbrev pub full_steps : List DoneStep → List DoneStep
full_steps l = l ++ replicate (24 - length l) (step false [])

abbrev pub plan_of : SynthDef → DonePlan
plan_of d = record { steps = full_steps (steps_from (counted (edge_rows d.edges)) (node_rows d.nodes) 0); output = d.output }

-- what is read past a plan's steps
abbrev pub no_step : DoneStep
no_step = record { all = false; count = 0; sources = [] }

-- ---- evaluating
abbrev pub step_sources : DoneStep → List ℕ
step_sources st = rows_of 8 st.count st.sources

abbrev pub silent_in : List Bool → ℕ → Bool
silent_in s j = get_or s j false

-- a step's sources make its node silent
abbrev pub says : DoneStep → List Bool → Bool
says st s = cond st.all (every (silent_in s) (step_sources st)) (any (silent_in s) (step_sources st))

-- one pass over the steps, of which the first is node i: which nodes are silent, if those in s are
abbrev pub pass_from : List DoneStep → List Bool → List Bool → ℕ → List Bool
pass_from [] done s i = []
pass_from (st ∷ sts) done s i = (get_or done i false || says st s) ∷ pass_from sts done s (suc i)

abbrev pub pass : List DoneStep → List Bool → List Bool → List Bool
pass sts done s = pass_from sts done s 0

-- k passes
abbrev pub passes : ℕ → List DoneStep → List Bool → List Bool → List Bool
passes zero sts done s = s
passes (suc k) sts done s = passes k sts done (pass sts done s)

-- no node is silent to begin with; each pass that changes anything adds one of the 24 rows
unfoldable pub settled : List DoneStep → List Bool → List Bool
settled sts done = passes 24 sts done (replicate 24 false)

abbrev pub plan_silent : DonePlan → List Bool → Bool
plan_silent p done = silent_in (settled p.steps done) p.output
