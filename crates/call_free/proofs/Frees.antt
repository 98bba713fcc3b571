-- A voice that was looked for: the one of that id, or none.
use Prim.Native.Nat.{ℕ}
use mathlib.Core.Path.{◌≡◌, sym, ap, ◌∙◌}
use mathlib.Core.List.{List}
use native.Mathlib.Omega.{arith}
use Rattle.std.specs.Prelude.{Option, None, Some, find, is_some}
use mathlib.Core.Bool.{true}
use lib.ListN.{take}
use borrow.Author.Tests.{eqb-true}
use Rattle.lists.proofs.Find.{find_in}
use Rattle.node.specs.declared.record.VoiceId.{VoiceId}
use Rattle.store.specs.declared.answer.Outcome.TheVariants.{Applied}
use Rattle.voice.specs.declared.voices.Voice.{Voice}
use Rattle.model.specs.Model.{Model, without_voice, freed}
use Rattle.model.specs.Order.{free_outcome}
use Rattle.voice.specs.Voice.{is_voice}
use Rattle.voice_rows.specs.Found.{FoundAt}

found_is : (w : VoiceId) (l : List Voice) (v : Voice) → find (is_voice w) l ≡ Some v → v.id.0 ≡ w.0
found_is w l v e = eqb-true v.id.0 w.0 (find_in (is_voice w) l v e).1

module _ (w : VoiceId) (count : ℕ) (vs : List Voice) where
  abbrev looked : Option Voice
  looked = find (is_voice w) (take count vs)

  -- there is one, and it is removed
  pub known_applied : (r : Option ℕ) → FoundAt r count vs looked → is_some r ≡ true → Applied ≡ free_outcome looked
  known_applied None h e = absurd (let z : ◌≡◌ {A = ℕ} 0 1 = cc in omega arith)
  known_applied (Some i) h e = ap free_outcome h.is

  pub frees : (r : Option ℕ) → FoundAt r count vs looked → is_some r ≡ true → (m : Model) → without_voice w m ≡ freed looked m
  frees None h e m = absurd (let z : ◌≡◌ {A = ℕ} 0 1 = cc in omega arith)
  frees (Some i) h e m =
      ap (λ (k : ℕ). without_voice (record { 0 = k }) m) (sym (found_is w (take count vs) _ (sym h.is))) ∙ ap (λ o. freed o m) h.is
