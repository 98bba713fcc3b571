-- On the bus by itself, more reclaims than there are voices change nothing.
use Prim.Native.Nat.{ℕ, zero, suc, ◌≤◌, ◌<◌}
use native.Mathlib.Omega.{arith}
use mathlib.Core.Path.{◌≡◌, refl, sym, ap, ◌∙◌}
use mathlib.Core.Logic.{inl, inr}
use mathlib.Core.List.{List, [], ◌∷◌}
use Rattle.std.specs.Prelude.{Option, None, Some, filter, cond}
use mathlib.Core.Bool.{Bool, true, false, not, ◌&&◌}
use lib.ListN.{length}
use borrow.Author.Tests.{eq-eqb}
use Rattle.lists.specs.Member.{In}
use Rattle.lists.proofs.Member.{some_inj, none_some}
use Rattle.lists.proofs.Filter.{length_filter}
use Rattle.lists.proofs.Find.{find_in}
use Rattle.node.specs.declared.refusal.Refusal.TheVariants.{NoPort}
use Rattle.voice.specs.Policy.{Victim, victim}
use Rattle.synthdef.specs.declared.def.SynthDef.{SynthDef}
use Rattle.isolation.specs.Story.{Phase}
use Rattle.isolation.proofs.Bus.{Own, Bus, is_number, fades, no_later, earlier, earliest, voice_of, else_victim, candidates, next_out, port_free, without_voice, turned, instantiate_or, place}

pub filter_less : {A : Type 0} (t : A → Bool) (l : List A) (v : A) → In v l → t v ≡ false → length (filter t l) < length l
filter_less t [] v i h = absurd i
filter_less t (x ∷ l) v (inl p) h = let e : t x ≡ false = ap t (sym p) ∙ h in rw e (let k = length_filter t l in omega arith)
filter_less t (x ∷ l) v (inr i) h = go (t x) (filter_less t l v i h)
  where
    go : (b : Bool) → length (filter t l) < length l → length (cond b (x ∷ (filter t l)) (filter t l)) < length (x ∷ l)
    go true k = omega arith
    go false k = omega arith

earliest_in : (vs : List Own) (v : Own) → earliest vs ≡ Some v → In v vs
earliest_in [] v h = absurd (none_some h)
earliest_in (x ∷ vs) v h = go (earliest vs) refl (fades x) h (earliest_in vs v)
  where
    pick : (c : Bool) (u : Own) → earliest vs ≡ Some u → cond c (Some x) (Some u) ≡ Some v → (earliest vs ≡ Some v → In v vs) → In v (x ∷ vs)
    pick true u e q ih = inl (sym (some_inj q))
    pick false u e q ih = inr (ih (e ∙ q))

    go : (o : Option Own) → earliest vs ≡ o → (b : Bool) → earlier o b x ≡ Some v → (earliest vs ≡ Some v → In v vs) → In v (x ∷ vs)
    go None e true q ih = inl (sym (some_inj q))
    go None e false q ih = absurd (none_some q)
    go (Some u) e b q ih = pick (b && no_later x u) u e q ih

pub next_in : (r : ℕ) (m : Bus) (v : Own) → next_out r m ≡ Some v → In v m.voices
next_in r m v h = go (earliest m.voices) refl h
  where
    by : (x : Victim) → voice_of x m.voices ≡ Some v → In v m.voices
    by None q = absurd (none_some q)
    by (Some (p, w)) q = (find_in (is_number w.0) m.voices v q).0

    go : (o : Option Own) → earliest m.voices ≡ o → else_victim o (voice_of (victim m.config.policy r (candidates m.clock m.voices)) m.voices) ≡ Some v → In v m.voices
    go (Some u) e q = earliest_in m.voices v (e ∙ q)
    go None e q = by (victim m.config.policy r (candidates m.clock m.voices)) q

pub nobody_left : (r : ℕ) (m : Bus) → length m.voices ≤ 0 → next_out r m ≡ None
nobody_left r m h = go (next_out r m) refl
  where
    no : (vs : List Own) (v : Own) → length vs ≤ 0 → In v vs → ⊥
    no [] v k i = i
    no (x ∷ vs) v k i = omega arith

    go : (o : Option Own) → next_out r m ≡ o → o ≡ None
    go None e = refl
    go (Some v) e = absurd (no m.voices v h (next_in r m v e))

module _ (def : SynthDef) (r : ℕ) (x : Phase) where
  last : (j : ℕ) (m : Bus) → length m.voices ≤ 0 → place zero def r x m ≡ place j def r x m
  last zero m h = refl
  last (suc j) m h = go (port_free m) ∙ ap (λ u. instantiate_or (port_free m) u def r x m (λ k. place j def r x k)) (sym (nobody_left r m h))
    where
      go : (o : Option ℕ) → instantiate_or o None def r x m (turned NoPort) ≡ instantiate_or o None def r x m (λ k. place j def r x k)
      go (Some p) = refl
      go None = refl

  pub enough : (n j : ℕ) (m : Bus) → length m.voices ≤ n → length m.voices ≤ j → place n def r x m ≡ place j def r x m
  enough zero j m h g = last j m h
  enough (suc n) zero m h g = sym (last (suc n) m g)
  enough (suc n) (suc j) m h g = go (port_free m) (next_out r m) refl (enough n j)
    where
      go : (o : Option ℕ) (u : Option Own) → next_out r m ≡ u → ((m : Bus) → length m.voices ≤ n → length m.voices ≤ j → place n def r x m ≡ place j def r x m)
          → instantiate_or o u def r x m (λ k. place n def r x k) ≡ instantiate_or o u def r x m (λ k. place j def r x k)
      go (Some p) u e ih = refl
      go None None e ih = refl
      go None (Some v) e ih =
          let i = next_in r m v e in
          let k = filter_less (λ y. not (is_number v.number y)) m.voices v i (ap not (eq-eqb v.number v.number refl)) in
          ih (without_voice v.number m) (omega arith) (omega arith)
