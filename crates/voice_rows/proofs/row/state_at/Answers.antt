use native.Mathlib.Omega.{arith}
use mathlib.Core.Path.{◌≡◌, sym, ap, ◌∙◌}
use mathlib.Core.Bool.{false, cond}
use lib.Dec.{eqb}
use lib.ListN.{get_or}
use borrow.Author.Tests.{eq-eqb, ne_eqb}
use Rattle.voice.specs.declared.voices.VoiceState.TheVariants.{Tracked, Fading, Loose}
use Rattle.words.specs.Rows.{row_at}
use Rattle.voice_rows.specs.Rows.{fade_at}
use Rattle.voice_rows.proofs.Reading.{voice_row}
use Rattle.voice_rows.proofs.row.state_at.Goals as goal

pub returns-in-1 : goal.returns-in-1
returns-in-1 c =
    let s = c.args in
    let r = row_at 143 s.i s.t.now in
    sym (ap (λ b. cond b Tracked (cond (eqb (get_or r 11 0) 2) (Fading (fade_at r 11)) Loose)) (eq-eqb _ 1 (sym c.word_at.ensures ∙ c.in-1.is))) ∙ (voice_row s.t.now s.i).state

pub returns-in-2 : goal.returns-in-2
returns-in-2 c =
    let s = c.args in
    let r = row_at 143 s.i s.t.now in
    let which : get_or r 11 0 ≡ 2 = sym c.word_at.ensures ∙ c.in-2.is in
    ap Fading c.fade_at.ensures ∙ sym (ap (λ k. cond (eqb k 1) Tracked (cond (eqb k 2) (Fading (fade_at r 11)) Loose)) which) ∙ (voice_row s.t.now s.i).state

pub returns-in_default : goal.returns-in_default
returns-in_default c =
    let s = c.args in
    let r = row_at 143 s.i s.t.now in
    let not_1 : eqb (get_or r 11 0) 1 ≡ false = ne_eqb _ 1 (λ q. omega (arith, c.word_at.ensures, q)) in
    let not_2 : eqb (get_or r 11 0) 2 ≡ false = ne_eqb _ 2 (λ q. omega (arith, c.word_at.ensures, q)) in
    sym (ap (λ b. cond b Tracked (cond (eqb (get_or r 11 0) 2) (Fading (fade_at r 11)) Loose)) not_1
    ∙ ap (λ b. cond b (Fading (fade_at r 11)) Loose) not_2) ∙ (voice_row s.t.now s.i).state
