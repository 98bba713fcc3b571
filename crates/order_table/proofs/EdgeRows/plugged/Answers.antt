use Prim.Native.Nat.{ℕ, ◌+◌, ◌*◌, ◌≤◌, ◌<◌}
use native.Mathlib.Omega.{arith}
use native.Mathlib.Nat.{zero-add}
use mathlib.Core.Path.{◌≡◌, refl, sym, ap, ◌∙◌}
use mathlib.Core.Logic.{⊎_elim}
use mathlib.Core.List.{[], ◌∷◌}
use lib.ListN.{length, take, drop, replicate, length-set, length-replicate}
use borrow.Author.Rules.{rules}
use Rattle.std.specs.Iterator.Adapters.{zip_first, zip_second, enumerate_source, enumerate_count}
use Rattle.std.specs.Slice.Iter.{iter_rest}
use Rattle.rank.proofs.Laws.{no_row}
use Rattle.words.proofs.Rows.{rows_long}
use Rattle.lists.proofs.Table.{left_row}
use Rattle.prepare.specs.Parts.{plugs}
use Rattle.prepare.proofs.Ports.{Flags, flags_start, flags_done, flag_from, flag_to, flag_port, flag_set}
use Rattle.graph_rows.specs.Edge.{edge_of, edges_in}
use Rattle.order_table.specs.Masks.{ports_in}
use Rattle.order_table.proofs.Masks.{ports_long, port_set, no_ports}
use Rattle.order_table.proofs.Pairs.{first, second, Left, left_inside, left_kept, left_flags}
use Rattle.order_table.proofs.EdgeRows.plugged.Goals as goal
use Rattle.order_table.proofs.EdgeRows.plugged.Goals.{After-edge_at-p, else-f-n-via-then-f-n+then-t-n+else-p-lt64, else-f-n-via-then-f-n+else-t-n, else-f-n-via-else-f-n}

pub loop-i-init : goal.loop-i-init
loop-i-init c =
    let e = c.args.self.now in
    let n = length c.args.ids.now.rows.now in
    let zero = replicate 512 0 in
    let long : length zero ≡ 512 = length-replicate {A = ℕ} 512 0 in
    let it = c.into_iter-i-iterator.ensures.into_iter_gives in
    let source = ap enumerate_source it ∙ c.enumerate-i-items.ensures.source in
    let one = ap (λ s. iter_rest (zip_first s)) source ∙ ap iter_rest c.zip.ensures.first ∙ c.iter.ensures.rest in
    let two = ap (λ s. iter_rest (zip_second s)) source ∙ c.zip.ensures.second.0 in
    let none = ap enumerate_count it ∙ c.enumerate-i-items.ensures.count in (
      long,
      rw (one, two, none) (e.paired, zero-add _),
      rw (one, two, none) (flags_start (ports_in zero) n e.from.now e.to.now (take (length e.to.now) (edges_in c.args.edges.now)) (ports_long zero ∙ ap (λ k. k * 64) long) (no_ports 512)),
    )

-- where an edge is read, its flags are the first of those that are left
turn : (c : After-edge_at-p) →
    let u = c.next.new.self in
    let n = length c.args.ids.now.rows.now in
    let m = length c.args.self.now.to.now in
    let es = take m (edges_in c.args.edges.now) in
    Left m u × Flags (ports_in c.loop-i.masks) n (c.in-Some.f.now ∷ first u) (c.in-Some.t.now ∷ second u) (c.edge_at-p.result ∷ drop (enumerate_count u) es) (plugs n c.args.self.now.from.now c.args.self.now.to.now es)
turn c =
    let l = c.loop-i in
    let st = c.in-Some.ensures.steps in
    let m = length c.args.self.now.to.now in
    let es = edges_in c.args.edges.now in
    let i = c.in-Some.i in
    let hi : i < m = left_inside m l.i-iterator c.next.new.self c.in-Some.f.now c.in-Some.t.now i l.invariant.1 st.0.0 st.0.1 st.1 st.2 in
    let words : length c.args.edges.now ≡ 3072 = search rules in
    let many : m ≤ length es = omega (arith, c.args.self.now.few, rows_long 3 edge_of c.args.edges.now) in
    let dr : drop i (take m es) ≡ c.edge_at-p.result ∷ drop (i + 1) (take m es) = left_row (edge_of []) es m i hi many ∙ ap (λ y. y ∷ drop (i + 1) (take m es)) (sym c.edge_at-p.ensures) in (
      left_kept m l.i-iterator c.next.new.self c.in-Some.f.now c.in-Some.t.now i l.invariant.1 st.0.0 st.0.1 st.1 st.2,
      left_flags m l.i-iterator c.next.new.self c.in-Some.f.now c.in-Some.t.now i l.invariant.1 st.0.0 st.0.1 st.1 st.2 (ports_in l.masks) (length c.args.ids.now.rows.now) (take m es) c.edge_at-p.result _ dr l.invariant.2,
    )

pub loop-i-preserved-then-p-lt64 : goal.loop-i-preserved-then-p-lt64
loop-i-preserved-then-p-lt64 c =
    let at = turn (goal.at.loop-i-preserved-then-p-lt64 c).After-edge_at-p in
    let l = c.loop-i in
    let long = l.invariant.0 in
    let few = c.args.ids.now.few in (
      length-set l.masks c.in-Some.t.now _ ∙ long,
      at.0,
      flag_set (ports_in l.masks) _ (length c.args.ids.now.rows.now) c.in-Some.f.now _ c.in-Some.t.now _ c.edge_at-p.result _ _ at.1
          (port_set l.masks c.in-Some.t.now _ _ (omega (arith, long, c.if-t-n.true, few)) c.if-p-lt64.true c.with_port.ensures)
          c.if-f-n.true c.if-t-n.true c.if-p-lt64.true few,
    )

pub loop-i-preserved : goal.loop-i-preserved
loop-i-preserved c =
    let at = turn (goal.at.loop-i-preserved c).After-edge_at-p in
    let l = c.loop-i in
    let n = length c.args.ids.now.rows.now in
    let fed = ports_in l.masks in (
      l.invariant.0,
      at.0,
      elim c.else-f-n.branch [
        | else-f-n-via-then-f-n+then-t-n+else-p-lt64 w ↦ flag_port fed fed n c.in-Some.f.now _ c.in-Some.t.now _ c.edge_at-p.result _ _ at.1 refl w.if-p-lt64.false
        | else-f-n-via-then-f-n+else-t-n w ↦ flag_to fed fed n c.in-Some.f.now _ c.in-Some.t.now _ c.edge_at-p.result _ _ at.1 refl w.if-t-n.false
        | else-f-n-via-else-f-n w ↦ flag_from fed fed n c.in-Some.f.now _ c.in-Some.t.now _ c.edge_at-p.result _ _ at.1 refl w.if-f-n.false
      ],
    )

pub returns : goal.returns
returns c =
    let l = c.loop-i in
    let m = length c.args.self.now.to.now in
    let left = l.invariant.1 in
    let over : m ≤ enumerate_count l.i-iterator = ⊎_elim (λ o. omega (arith, left.0, left.1, o.1.0)) (λ o. omega (arith, left.1, o.1.0)) c.in-None.ensures.steps.0 in
    let inv = rw (no_row (edges_in c.args.edges.now) m (enumerate_count l.i-iterator) over) at l.invariant.2 in
    record { long = inv.0; is = flags_done (ports_in l.masks) (length c.args.ids.now.rows.now) _ _ _ inv }
