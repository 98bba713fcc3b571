-- `rank::Graph::degrees` meets its contract: the counts, with the arcs that are left, are the in-degrees of all.
use native.Mathlib.Omega.{arith}
use mathlib.Core.Path.{refl}
use borrow.Author.Rules.{rules}
use Rattle.rank.proofs.Laws.{many_arcs, zip_arc, zip_none, tally_start, tally_room, tally_from, tally_to, tally_hit, tally_done}
use Rattle.rank.proofs.Graph.degrees.Goals as goal
use Rattle.rank.proofs.Graph.degrees.Goals.{else-v-self-via-then-v-self+else-t-self, else-v-self-via-else-v-self}

pub loop-v-init : goal.loop-v-init
loop-v-init c = tally_start _ _ c.args.self.now.few

pub overflow_add-counts : goal.overflow_add-counts
overflow_add-counts c =
    let g = c.args.self.now in
    let l = c.loop-v in
    let r = tally_room l.counts g.n _ _ l.invariant c.in-Some.t.now c.if-t-self.true in
    omega (arith, r, many_arcs g.from.now g.to.now g.paired, g.short)

pub loop-v-preserved-then-t-self : goal.loop-v-preserved-then-t-self
loop-v-preserved-then-t-self c =
    let g = c.args.self.now in
    let l = c.loop-v in
    let arc = zip_arc g.from.now g.to.now g.paired l.yielded c.into_iter-v-iterator.result l.v-iterator c.next.new.self c.next.result (search rules) (search rules) l.yielded_by c.next.ensures.steps (c.in-Some.v, c.in-Some.t) c.in-Some.is in
    tally_hit l.counts _ g.n _ _ _ (rw arc at l.invariant) refl c.if-v-self.true c.if-t-self.true g.few

pub loop-v-preserved : goal.loop-v-preserved
loop-v-preserved c =
    let g = c.args.self.now in
    let l = c.loop-v in
    let arc = zip_arc g.from.now g.to.now g.paired l.yielded c.into_iter-v-iterator.result l.v-iterator c.next.new.self c.next.result (search rules) (search rules) l.yielded_by c.next.ensures.steps (c.in-Some.v, c.in-Some.t) c.in-Some.is in
    elim c.else-v-self.branch [
      | else-v-self-via-then-v-self+else-t-self w ↦ tally_to l.counts _ g.n _ _ _ (rw arc at l.invariant) refl w.if-t-self.false
      | else-v-self-via-else-v-self w ↦ tally_from l.counts _ g.n _ _ _ (rw arc at l.invariant) refl w.if-v-self.false
    ]

pub returns : goal.returns
returns c =
    let g = c.args.self.now in
    let l = c.loop-v in
    let none = zip_none g.from.now g.to.now g.paired l.yielded c.into_iter-v-iterator.result l.v-iterator c.next.new.self c.next.result (search rules) (search rules) l.yielded_by c.next.ensures.steps c.in-None.is in
    record { long = l.invariant.0; is = tally_done l.counts g.n _ g.few (rw none at l.invariant) }
