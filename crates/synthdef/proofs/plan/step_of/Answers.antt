-- `synthdef::plan::step_of` meets its contract. A rule reads at most 8 ports, of the first 8; the step is that of the rule and the ports that were found.
use Prim.Native.Nat.{ℕ, ◌≤◌}
use native.Mathlib.Omega.{arith}
use mathlib.Core.Path.{◌≡◌, refl, sym, ap, ◌∙◌}
use mathlib.Core.Bool.{Bool, true, false, cond}
use lib.Dec.{ltb}
use borrow.Author.Tests.{ltb-true}
use Rattle.node.specs.declared.silence.SilenceRule.{SilenceRule}
use Rattle.node.specs.declared.silence.SilenceRule.TheVariants.{Own, AnyPort, FirstPort, EveryPort, LevelPort, AmpPort, InPort}
use Rattle.synthdef.specs.Tables.{edge_rows}
use Rattle.synthdef.specs.Plan.{span, named_span, ports_of, span_of, is_every, summed, step_by, step_of}
use Rattle.synthdef.specs.declared.def.DefNode.{DefNode}
use Rattle.synthdef.specs.declared.plan.Span.{Span}
use Rattle.synthdef.proofs.plan.step_of.Goals as goal
use Rattle.synthdef.proofs.plan.step_of.Goals.{After-sources_of-st}

abbrev Small : Span → Type 0
Small s = (s.first ≤ 8) × (s.count ≤ 8)

small_named : (ports p : ℕ) → ports ≤ 8 → Small (named_span ports p)
small_named ports p h = go (ltb p ports) refl
  where
    go : (b : Bool) → ltb p ports ≡ b → Small (cond b (span p 1) (span 0 0))
    go true e = (omega (arith, ltb-true p ports e), omega arith)
    go false e = (omega arith, omega arith)

-- a rule reads at most 8 ports, of the first 8
small : (r : SilenceRule) (n : DefNode) → Small (span_of r n)
small Own n = (omega arith, omega arith)
small AnyPort n = (omega arith, omega arith)
small FirstPort n = (omega arith, omega arith)
small EveryPort n = (omega arith, omega arith)
small LevelPort n = small_named (ports_of n) n.level_port (omega arith)
small AmpPort n = small_named (ports_of n) n.amp_port (omega arith)
small InPort n = small_named (ports_of n) n.in_port (omega arith)

-- the step by the rule and the ports that were found
by_found : (c : After-sources_of-st) →
    step_by (edge_rows c.args.es) c.silence_rule-rule.result c.span_of-span.result c.args.i
    ≡ step_of (edge_rows c.args.es) c.args.n c.args.i
by_found c =
    let a = c.args in
    ap (λ s. step_by (edge_rows a.es) c.silence_rule-rule.result s a.i) c.span_of-span.ensures
    ∙ ap (λ r. step_by (edge_rows a.es) r (span_of r a.n) a.i) c.silence_rule-rule.ensures

pub sources_of-st-requires : goal.sources_of-st-requires
sources_of-st-requires c = rw c.span_of-span.ensures (small c.silence_rule-rule.result c.args.n)

pub returns-then-is_every : goal.returns-then-is_every
returns-then-is_every c =
    let every : is_every c.silence_rule-rule.result ≡ true = sym c.is_every.ensures ∙ c.if-is_every.true in
    c.sum_of.ensures ∙ ap (summed c.span_of-span.result.count) c.sources_of-st.ensures ∙ rw every at (by_found (goal.at.returns-then-is_every c).After-sources_of-st)

pub returns-else-is_every : goal.returns-else-is_every
returns-else-is_every c =
    let one : is_every c.silence_rule-rule.result ≡ false = sym c.is_every.ensures ∙ c.if-is_every.false in
    c.sources_of-st.ensures ∙ rw one at (by_found (goal.at.returns-else-is_every c).After-sources_of-st)
