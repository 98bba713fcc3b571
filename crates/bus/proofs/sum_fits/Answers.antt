-- `bus::sum_fits` meets its contract.
use Rattle.std.proofs.Common.{◌≡◌, ◌*◌, ◌&&◌, Bool, true, false, cond, ℕ, Option, Some, None, eqb, refl, ap, ◌∙◌, le-leb, rules}
use borrow.Author.Tests.{lt-leb}
use Rattle.bus.specs.Block.{holds}
use Rattle.bus.specs.Sum.{channels, every_is_channels, sum_fits}
use Rattle.bus.proofs.sum_fits.Goals as goal

-- whether the blocks are of the sizes asked for, by how many channels the inputs have
abbrev sized : ℕ → ℕ → ℕ → ℕ → Option ℕ → Bool
sized inputs size out outs None = false
sized inputs size out outs (Some n) = eqb inputs (n * size) && holds out outs size

counted : (inputs size out outs n : ℕ) (b : Bool) → sized inputs size out outs (cond b (Some n) None) ≡ (b && (eqb inputs (n * size) && holds out outs size))
counted inputs size out outs n true = refl
counted inputs size out outs n false = refl

pub returns-then-counts-gt64 : goal.returns-then-counts-gt64
unfolding sum_fits
returns-then-counts-gt64 c = simp (lt-leb _ _ c.if-counts-gt64.true)

pub returns : goal.returns
unfolding sum_fits
returns c =
    let s = c.args in
    let h : c.is_some_and.result ≡ sized s.inputs s.size s.out s.outs c.total_channels.result = search rules in
    simp (le-leb _ _ c.if-counts-gt64.false)
    (h ∙ ap (sized s.inputs s.size s.out s.outs) c.total_channels.ensures ∙ counted s.inputs s.size s.out s.outs (channels s.counts.now) (every_is_channels s.counts.now))
