use mathlib.Core.Path.{sym, ap, ◌∙◌}
use mathlib.Core.Bool.{◌&&◌}
use Rattle.memory.specs.Lent.{lent_voices}
use Rattle.call_console.specs.Queues.{wishes_of}
use Rattle.call_console.specs.Called.{memory}
use Rattle.sealed.specs.Board.{none_waits}
use Rattle.call_seal.proofs.Boards.{sealed_now, not_sealed}
use Rattle.call_seal.proofs.sealing.seal.Goals as goal
use Rattle.call_seal.proofs.sealing.seal.Goals.{else-fits_store-via-then-fits_store+else-none_waits, else-fits_store-via-else-fits_store}

pub returns-then-none_waits-clause-is : goal.returns-then-none_waits-clause-is
returns-then-none_waits-clause-is c =
    let a = c.args in
    let new = sym c.is_some.ensures ∙ c.if-is_some.false in
    λ m words.
    let fits = sym (c.fits_store.ensures m) ∙ c.if-fits_store.true in
    let none = sym (c.none_waits.ensures words) ∙ c.if-none_waits.true in
    sealed_now a.x a.p (memory (lent_voices a.s a.nodes.now a.edges.now a.voices.now m) a.w words) new (ap (λ t. t && none_waits (wishes_of a.w words).waits) fits ∙ none)

pub returns-clause-is : goal.returns-clause-is
returns-clause-is c =
    let a = c.args in
    let new = sym c.is_some.ensures ∙ c.if-is_some.false in
    λ m words.
    let here = not_sealed a.x a.p (memory (lent_voices a.s a.nodes.now a.edges.now a.voices.now m) a.w words) new in
    elim c.else-fits_store.branch [
      | else-fits_store-via-then-fits_store+else-none_waits b ↦
          here (ap (λ t. t && none_waits (wishes_of a.w words).waits) (sym (c.fits_store.ensures m) ∙ b.if-fits_store.true) ∙ sym (b.none_waits.ensures words) ∙ b.if-none_waits.false)
      | else-fits_store-via-else-fits_store b ↦
          here (ap (λ t. t && none_waits (wishes_of a.w words).waits) (sym (c.fits_store.ensures m) ∙ b.if-fits_store.false))
    ]
