-- The port search after what was reclaimed for it.
use Prim.Native.Nat.{ℕ, zero, suc}
use mathlib.Core.Path.{◌≡◌, refl, sym, ap, ◌∙◌}
use Rattle.std.specs.Prelude.{Option, None, Some}
use Rattle.node.specs.declared.refusal.Refusal.TheVariants.{NoPort}
use Rattle.voice.specs.declared.voices.Voice.{Voice}
use Rattle.voice.specs.declared.voices.VoiceState.{VoiceState}
use Rattle.model.specs.Spawn.{Spawn, state_under, tries, next_out}
use Rattle.model.specs.Model.{Model, SpawnResult, port_free, instantiate, instantiate_or, place, refused, cut_off}
use Rattle.model.specs.Call.{Step, spawned}
use Rattle.engine.specs.Spawning.{if_none, go_on, reclaimed, Makes, place_under}

module _ (x : Spawn) (s : VoiceState) (m : Model) where
  -- a port: the new voice stands there
  place_port : (fuel p : ℕ) → port_free x.bus m ≡ Some p → place fuel x s m ≡ instantiate x s p m
  place_port zero p e = ap (λ o. instantiate_or o None x s m (refused NoPort)) e
  place_port (suc k) p e = ap (λ o. instantiate_or o (next_out m.shared x.bus x.rank m.voices) x s m (λ j. place k x s j)) e

  -- no port, and no try left
  place_over : port_free x.bus m ≡ None → place 0 x s m ≡ refused NoPort m
  place_over e = ap (λ o. instantiate_or o None x s m (refused NoPort)) e

-- the new voice after what was reclaimed
place_reclaimed : (x : Spawn) (s : VoiceState) (k : ℕ) (m : Model) → place k x s m ≡ place 0 x s (reclaimed k x.bus x.rank m)
place_reclaimed x s zero m = refl
place_reclaimed x s (suc k) m = go (port_free x.bus m) refl (next_out m.shared x.bus x.rank m.voices) (place_reclaimed x s k)
  where
    go : (o : Option ℕ) → port_free x.bus m ≡ o → (u : Option Voice) → ((j : Model) → place k x s j ≡ place 0 x s (reclaimed k x.bus x.rank j))
        → instantiate_or o u x s m (λ j. place k x s j) ≡ place 0 x s (go_on (if_none o u) m (λ j. reclaimed k x.bus x.rank j))
    go (Some p) e u ih = sym (place_port x s m 0 p e)
    go None e None ih = sym (place_over x s m e)
    go None e (Some v) ih = ih (cut_off v v.state m)

-- room was made for x by what the budget b allows; n is what it left
module _ (b : Option ℕ) (x : Spawn) {s : VoiceState} {fuel : ℕ} {m n : Model} {p : Option ℕ}
    (made : Makes fuel x.bus x.rank m n p)
    (is-fuel : fuel ≡ tries b m.voices)
    (is-s : s ≡ state_under b) where
  left : place 0 x s n ≡ place_under b x m
  left = ap (place 0 x s) made.is ∙ sym (place_reclaimed x s fuel m) ∙ ap (λ k. place k x s m) is-fuel ∙ ap (λ t. place (tries b m.voices) x t m) is-s

  pub places : (k : ℕ) → p ≡ Some k → instantiate x s k n ≡ place_under b x m
  places k e = sym (place_port x s n 0 k (sym made.port ∙ e)) ∙ left

  pub places_not : p ≡ None → refused NoPort n ≡ place_under b x m
  places_not e = sym (place_over x s n (sym made.port ∙ e)) ∙ left

-- a spawn's answer and what it leaves, as a step
abbrev pub step_of : SpawnResult → Step
step_of l = record { answer = spawned l.answer; model = l.model }
