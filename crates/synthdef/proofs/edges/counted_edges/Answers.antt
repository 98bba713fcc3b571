-- `synthdef::edges::counted_edges` meets its contract. Invariant: the rows so far and the counted edges of what is left are the counted edges of all; past the rows so far the array is as it began.
use Prim.Native.Nat.{◌+◌, ◌-◌, ◌<◌}
use native.Mathlib.Omega.{arith}
use mathlib.Core.Path.{◌≡◌, sym, ap, ◌∙◌}
use mathlib.Core.List.{List, ◌∷◌, ◌++◌}
use mathlib.Core.Bool.{true, false}
use lib.ListN.{length, take, drop, get_or, length-set, length-drop}
use lib.Seq.{take_all}
use Rattle.std.proofs.lemmas.List.{drop_more}
use Rattle.synthdef.specs.Tables.{no_edge}
use Rattle.synthdef.specs.Edges.{taken, counted}
use Rattle.synthdef.specs.declared.def.DefEdge.{DefEdge}
use Rattle.synthdef.proofs.Walk.{filled_one, one_more}
use Rattle.synthdef.proofs.edges.counted_edges.Goals as goal
use Rattle.synthdef.proofs.edges.counted_edges.Goals.{then-not-taken, else-not-taken}

counts : (e : DefEdge) (es : List DefEdge) → taken e es ≡ false → counted (e ∷ es) ≡ e ∷ counted es
counts e es h = rw h

counts_not : (e : DefEdge) (es : List DefEdge) → taken e es ≡ true → counted (e ∷ es) ≡ counted es
counts_not e es h = rw h

pub loop-i-preserved : goal.loop-i-preserved
loop-i-preserved c =
    let v = c.loop-i.invariant in
    let edges = c.as_slice-edges.result.now in
    let i = c.loop-i.i in
    let t = c.loop-i.out in
    let e = get_or edges i no_edge in
    let rest = drop (i + 1) edges in
    let next : drop i edges ≡ e ∷ rest = drop_more edges i no_edge c.loop-i-test.true in
    let whole : take (length edges - (i + 1)) rest ≡ rest = take_all (length edges - (i + 1)) rest (simp length-drop (omega arith)) in
    let told : c.taken.result ≡ taken e rest = c.taken.ensures ∙ ap (taken e) whole in
    elim c.if-not-taken.branch [
      | then-not-taken w ↦
          let free : taken e rest ≡ false = sym told ∙ w.if-not-taken.true in
          let room : t.count < length t.rows = omega arith in
          let below : t.count < 48 = omega arith in
          let pushed = w.push.ensures in
          rw (w.out-is, pushed.stored, pushed.counted (omega arith)) (
            omega arith,
            v.1,
            simp length-set v.2,
            filled_one no_edge 48 t.rows t.count v.3 e room below,
            one_more t.rows t.count e (counted rest) room ∙ ap (λ z. take t.count t.rows ++ z) (sym (ap counted next ∙ counts e rest free)) ∙ v.4,
          )
      | else-not-taken w ↦
          let gone : taken e rest ≡ true = sym told ∙ w.if-not-taken.false in
          rw w.out-is (
            omega arith,
            v.1,
            v.2,
            v.3,
            ap (λ z. take t.count t.rows ++ z) (sym (ap counted next ∙ counts_not e rest gone)) ∙ v.4,
          )
    ]
