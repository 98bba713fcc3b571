-- `rank::Graph::queued` meets its contract: the walk from the state so far ends as the walk from the start, for the queue and, in it, for the arcs of one source.
use Prim.Native.Nat.{ℕ, ◌-◌, ◌^◌, ◌≤◌, ◌<◌}
use native.Mathlib.Omega.{arith}
use native.Mathlib.Nat.{le_refl}
use mathlib.Core.Path.{◌≡◌, sym, ap, ◌∙◌}
use mathlib.Core.List.{List}
use mathlib.Core.Logic.{⊎_elim}
use lib.ListN.{length, take, get_or}
use lib.Seq.{get_or-take, length-take-le}
use Rattle.rank.specs.Order.{Arc, arcs}
use Rattle.rank.specs.Parts.{serve, Linked}
use Rattle.rank.proofs.Laws.{no_arc}
use Rattle.rank.proofs.Serve.{Fell, st, held_start, run_start, next_more, next_found, next_serve, next_run, first_found, first_serve, serve_none, fell_past, fell_none, fell_more, fell_one, run_done}
use Rattle.rank.proofs.Graph.queued.Goals as goal
use Rattle.rank.proofs.Graph.queued.Goals.{In-loop-head, Joined-t-self}

abbrev edges_of : In-loop-head → List Arc
edges_of c = arcs c.args.self.now.from.now c.args.self.now.to.now

links : (c : In-loop-head) → Linked c.linked.new.first c.linked.new.next c.args.self.now.n (edges_of c)
links c = c.linked.ensures

-- the index that is served is one
served : (c : In-loop-head) → get_or c.loop-head.queue.rows c.loop-head.head 0 < c.args.self.now.n
served c = c.loop-head.invariant.1.rows c.loop-head.head c.loop-head-test.true

pub loop-head-init : goal.loop-head-init
loop-head-init c =
    let g = c.args.self.now in
    let es = arcs g.from.now g.to.now in (
      omega arith,
      held_start _ c.degrees-counts.result c.ready-queue.result es g.few c.degrees-counts.ensures c.ready-queue.ensures,
      run_start _ c.degrees-counts.result c.ready-queue.result es g.few c.degrees-counts.ensures c.ready-queue.ensures,
    )

pub loop-e-init : goal.loop-e-init
loop-e-init c =
    let q = c.before.before in
    (c.loop-head.invariant.1, le_refl _, first_found _ _ _ _ _ (links (goal.at.loop-e-init c).In-loop-head) (served (goal.at.loop-e-init c).In-loop-head), first_serve _ _ _ _ _ (links (goal.at.loop-e-init c).In-loop-head) (served (goal.at.loop-e-init c).In-loop-head) _)

-- where the ways meet, the state fell at the arc's target
fell : (c : Joined-t-self)
    → Fell (get_or c.args.self.now.to.now c.loop-e.e 0) c.args.self.now.n
    c.loop-e.counts c.loop-e.queue.rows c.loop-e.queue.count c.if-t-self.counts c.if-t-self.queue.rows c.if-t-self.queue.count
fell c =
    let l = c.loop-e in
    let n = c.args.self.now.n in
    let t = get_or c.args.self.now.to.now l.e 0 in
    let few : l.queue.count < 2 ^ 64 - 1 = omega (arith, l.invariant.0.few, c.args.self.now.few) in
    ⊎_elim (λ w. rw (w.counts-is, w.queue-is, w.push.ensures.stored, w.push.ensures.counted few) (fell_one t n l.counts l.queue.rows l.queue.count l.invariant.0 w.if-t-self.true w.if-k-eq1.true))
    (⊎_elim (λ w. rw (w.counts-is, w.queue-is) (fell_more t n l.counts l.queue.rows l.queue.count l.invariant.0 w.if-t-self.true w.if-k-gt0.true w.if-k-eq1.false))
    (⊎_elim (λ w. rw (w.counts-is, w.queue-is) (let z : get_or l.counts t 0 ≡ 0 = omega (arith, w.if-k-gt0.false) in fell_none t n l.counts l.queue.rows l.queue.count l.invariant.0 w.if-t-self.true z))
    (λ w. rw (w.counts-is, w.queue-is) (fell_past t n l.counts l.queue.rows l.queue.count l.invariant.0 w.if-t-self.false))))
    c.if-t-self.branch-raw

pub loop-e-smaller : goal.loop-e-smaller
loop-e-smaller c =
    let k = c.before.before in
    let q = k.before.before.before.before in
    let l = k.loop-e in
    let g = q.args.self.now in
    omega (arith, next_more g.from.now g.to.now g.paired _ l.e g.n _ _ (links (goal.at.loop-e-smaller c).In-loop-head) (served (goal.at.loop-e-smaller c).In-loop-head) k.loop-e-test.true l.invariant.2)

pub loop-e-preserved : goal.loop-e-preserved
loop-e-preserved c =
    let k = c.before.before in
    let q = k.before.before.before.before in
    let l = k.loop-e in
    let g = q.args.self.now in
    let f = fell c in (
      f.held,
      omega (arith, f.more),
      next_found g.from.now g.to.now g.paired _ l.e g.n _ _ (links (goal.at.loop-e-preserved c).In-loop-head) (served (goal.at.loop-e-preserved c).In-loop-head) k.loop-e-test.true l.invariant.2,
      next_serve g.from.now g.to.now g.paired _ l.e g.n _ _ (links (goal.at.loop-e-preserved c).In-loop-head) (served (goal.at.loop-e-preserved c).In-loop-head) k.loop-e-test.true l.invariant.2 _ _ f.is ∙ l.invariant.3,
    )

pub loop-head-preserved : goal.loop-head-preserved
loop-head-preserved c =
    let o = c.loop-head in
    let l = c.loop-e in
    let q = c.before.before.before.before in
    let g = q.args.self.now in
    let n = g.n in
    let es = edges_of (goal.at.loop-head-preserved c).In-loop-head in
    let h : length g.to.now ≤ l.e = c.loop-e-test.false in
    let ht : o.head < o.queue.count = c.loop-head-test.true in
    let k : length (take o.queue.count o.queue.rows) ≡ o.queue.count = length-take-le o.queue.count o.queue.rows (omega (arith, o.invariant.1)) in
    let v : get_or (take o.queue.count o.queue.rows) o.head 0 ≡ get_or o.queue.rows o.head 0 = get_or-take o.queue.count o.queue.rows o.head 0 ht in
    let z = rw (no_arc _ _ g.paired l.e h) at l.invariant.3 in (
      omega arith,
      l.invariant.0,
      next_run n o.head es (st n o.counts o.queue.rows o.queue.count) (st n l.counts l.queue.rows l.queue.count) (omega arith) (omega (arith, o.invariant.1))
          (sym (serve_none _ _) ∙ z ∙ ap (λ (x : ℕ). serve x es (st n o.counts o.queue.rows o.queue.count)) (sym v))
          ∙ o.invariant.2,
    )

pub returns : goal.returns
returns c =
    let l = c.loop-head in
    let k : length (take l.queue.count l.queue.rows) ≤ l.head = rw (length-take-le l.queue.count l.queue.rows (omega (arith, l.invariant.1))) c.loop-head-test.false in
    record {
      long = l.invariant.1.queue_long;
      is = sym (run_done _ _ l.head (st _ l.counts l.queue.rows l.queue.count) k) ∙ l.invariant.2;
      few = l.invariant.1.few;
    }
