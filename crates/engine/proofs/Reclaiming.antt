-- A port of the bus made free, one voice after the other.
use Prim.Native.Nat.{ℕ, zero, suc, ◌-◌, ◌<◌}
use native.Mathlib.Omega.{arith}
use mathlib.Core.Path.{◌≡◌, refl, sym, ap, ◌∙◌}
use mathlib.Core.Bool.{true, false}
use Rattle.std.specs.Prelude.{Option, None, Some, is_some}
use Rattle.node.specs.declared.record.NodeId.{NodeId}
use Rattle.voice.specs.declared.voices.Voice.{Voice}
use Rattle.model.specs.Spawn.{next_out}
use Rattle.model.specs.Model.{Model, port_free}
use Rattle.engine.specs.Spawning.{if_none, leaving, cut_now, go_on, reclaimed}

-- ---- one after the other: what is left to do on what is there is what there was to do
pub reclaim_port : (k : ℕ) (bus : NodeId) (rank : ℕ) (n : Model) (p : Option ℕ) → p ≡ (port_free bus n) → is_some p ≡ true → reclaimed k bus rank n ≡ n
reclaim_port zero bus rank n p e t = refl
reclaim_port (suc k) bus rank n p e t = go (port_free bus n) (ap is_some (sym e) ∙ t)
  where
    go : (o : Option ℕ) → is_some o ≡ true → go_on (if_none o (next_out n.shared bus rank n.voices)) n (λ j. reclaimed k bus rank j) ≡ n
    go None h = let z : ◌≡◌ {A = ℕ} 0 1 = cc in absurd (omega arith)
    go (Some q) h = refl

module _ (bus : NodeId) (rank : ℕ) (n : Model) (p : Option ℕ) (is-p : p ≡ port_free bus n) (full : is_some p ≡ false) where
  no_port : port_free bus n ≡ None
  no_port = go (port_free bus n) (ap is_some (sym is-p) ∙ full)
    where
      go : (o : Option ℕ) → is_some o ≡ false → o ≡ None
      go None h = refl
      go (Some q) h = let z : ◌≡◌ {A = ℕ} 0 1 = cc in absurd (omega arith)

  leaves : leaving bus rank n ≡ next_out n.shared bus rank n.voices
  leaves = ap (λ o. if_none o (next_out n.shared bus rank n.voices)) no_port

  -- nobody is there to be removed
  pub reclaim_over : (k : ℕ) → next_out n.shared bus rank n.voices ≡ None → reclaimed k bus rank n ≡ n
  reclaim_over zero e = refl
  reclaim_over (suc k) e = ap (λ o. go_on o n (λ j. reclaimed k bus rank j)) (leaves ∙ e)

  pub reclaim_one : (k : ℕ) (v : Voice) (n' : Model) → 0 < k → next_out n.shared bus rank n.voices ≡ Some v → n' ≡ cut_now v n
      → reclaimed k bus rank n ≡ reclaimed (k - 1) bus rank n'
  reclaim_one zero v n' h e is = absurd (omega arith)
  reclaim_one (suc k) v n' h e is = ap (λ o. go_on o n (λ j. reclaimed k bus rank j)) (leaves ∙ e) ∙ ap (λ j. reclaimed k bus rank j) (sym is) ∙ ap (λ i. reclaimed i bus rank n') less
    where
      less : k ≡ suc k - 1
      less = omega arith
