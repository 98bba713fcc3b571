use Prim.Native.Nat.{◌+◌, ◌*◌}
use native.Mathlib.Omega.{arith}
use mathlib.Core.Path.{◌≡◌, refl, sym, ap, ◌∙◌}
use Rattle.words.specs.Rows.{row_at}
use Rattle.voice_rows.proofs.Filling.{each_is}
use Rattle.voice_rows.proofs.Made.{made_each}
use Rattle.voice_rows.proofs.layout.records_at.Goals as goal

pub returns : goal.returns
returns g c =
    let a = c.args in
    let at = g.L.Layout.at in
    let w = g.row.W in
    let m = g.row.M in
    let r = row_at m a.i a.t.now in
    let base = a.run.base in
    let items = c.from_fn.ensures.items in
    let made = made_each _ (λ p. (p.0.now ≡ a.t.now) × (p.1.now ≡ a.i) × (p.2.now ≡ base)) (λ k y. y ≡ at r (base + k * w))
    (λ p q k y inv called.
    let same = called.met.0 in (
      (ap (λ b. b.now) same.0 ∙ inv.0, ap (λ b. b.now) same.1 ∙ inv.1, ap (λ b. b.now) same.2 ∙ inv.2),
      called.met.1
          ∙ ap (λ t. at (row_at m p.1.now t) (p.2.now + k * w)) inv.0
          ∙ ap (λ n. at (row_at m n a.t.now) (p.2.now + k * w)) inv.1
          ∙ ap (λ n. at r (n + k * w)) inv.2,
    ))
    c.from_fn.result g.row.N 0 _ (refl, refl, refl) items.each in
    sym (each_is (λ k. at r (base + k * w)) g.row.N (at r 0) c.from_fn.result items.long (λ i h. sym (made i (at r 0) (omega arith) (omega arith))))
