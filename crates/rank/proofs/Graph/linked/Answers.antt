use native.Mathlib.Omega.{arith}
use mathlib.Core.Path.{ap, ◌∙◌}
use lib.ListN.{length}
use Rattle.std.specs.Iterator.Adapters.{rev_source, enumerate_source, enumerate_count}
use Rattle.std.specs.Slice.Iter.{iter_rest}
use Rattle.rank.specs.Order.{arcs}
use Rattle.rank.proofs.Laws.{back_start, back_skip, back_link, many_arcs, chain_start}
use Rattle.rank.proofs.Graph.linked.Goals as goal

pub loop-i-init : goal.loop-i-init
loop-i-init c =
    let g = c.args.self.now in
    let it = c.into_iter-i-iterator.ensures.into_iter_gives in
    let source = ap rev_source it ∙ c.rev-i-items.ensures.source in
    let all = ap (λ s. iter_rest (enumerate_source s)) source ∙ ap iter_rest c.enumerate.ensures.source ∙ c.iter.ensures.rest in
    rw (c.requires.0, c.requires.1) (
      back_start g.from.now c.into_iter-i-iterator.result (ap enumerate_count source ∙ c.enumerate.ensures.count) all,
      rw (all, g.paired) (chain_start g.n (length g.to.now) (arcs g.from.now g.to.now) g.few (many_arcs g.from.now g.to.now g.paired)),
    )

pub loop-i-preserved-then-v-self : goal.loop-i-preserved-then-v-self
loop-i-preserved-then-v-self c =
    let l = c.loop-i in
    let g = c.args.self.now in
    let st = c.in-Some.ensures.steps in
    back_link g.from.now g.to.now g.paired l.i-iterator c.next.new.self c.in-Some.i c.in-Some.v.now l.invariant.0 st.0 st.1.0 st.1.1 l.first l.next g.n l.invariant.1 c.if-v-self.true g.few g.short

pub loop-i-preserved : goal.loop-i-preserved
loop-i-preserved c =
    let l = c.loop-i in
    let g = c.args.self.now in
    let st = c.in-Some.ensures.steps in
    back_skip g.from.now g.to.now g.paired l.i-iterator c.next.new.self c.in-Some.i c.in-Some.v.now l.invariant.0 st.0 st.1.0 st.1.1 l.first l.next g.n l.invariant.1 c.if-v-self.false

pub returns : goal.returns
returns c =
    let l = c.loop-i in
    let at_0 = rw c.in-None.ensures.steps.1.0 at l.invariant.1 in
    record { first_long = at_0.0; next_long = at_0.1; firsts = at_0.2; nexts = λ i h low. at_0.3 i (omega arith) h low }
