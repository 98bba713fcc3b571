-- Passes over the steps settle: each adds silent nodes to those before, and there are 24 to add.
use Prim.Native.Nat.{ℕ, zero, suc, ◌+◌, ◌≤◌}
use native.Mathlib.Omega.{arith}
use mathlib.Core.Path.{◌≡◌, refl, sym, ap, ◌∙◌}
use mathlib.Core.Logic.{◌⊎◌, inl, inr, ⊎_elim}
use mathlib.Core.List.{List, [], ◌∷◌}
use mathlib.Core.Bool.{Bool, true, false, ◌||◌, cond, false≢true}
use lib.ListN.{length, get_or, replicate}
use Rattle.std.proofs.lemmas.Bool.{and_from}
use Rattle.lists.proofs.Member.{and_left, and_right}
use Rattle.lists.specs.Count.{count}
use Rattle.lists.proofs.Count.{count_length}
use Rattle.synthdef.specs.Rows.{every, any}
use Rattle.synthdef.specs.Plan.{step_sources, silent_in, says, pass_from, pass, passes, settled, plan_silent}
use Rattle.synthdef.specs.declared.plan.DoneStep.{DoneStep}
use Rattle.synthdef.specs.declared.plan.DonePlan.{DonePlan}

-- each node that is silent in s is silent in t
abbrev pub Grows : List Bool → List Bool → Type 0
Grows s t = (j : ℕ) → silent_in s j ≡ true → silent_in t j ≡ true

-- ---- a pass of more is more
or_mono : (a b c : Bool) → (b ≡ true → c ≡ true) → (a || b) ≡ true → (a || c) ≡ true
or_mono true b c f h = refl
or_mono false b c f h = f h

every_mono : (f g : ℕ → Bool) → ((j : ℕ) → f j ≡ true → g j ≡ true) → (l : List ℕ) → every f l ≡ true → every g l ≡ true
every_mono f g m [] h = refl
every_mono f g m (j ∷ l) h =
    and_from (g j) (every g l) (m j (and_left (f j) (every f l) h)) (every_mono f g m l (and_right (f j) (every f l) h))

any_mono : (f g : ℕ → Bool) → ((j : ℕ) → f j ≡ true → g j ≡ true) → (l : List ℕ) → any f l ≡ true → any g l ≡ true
any_mono f g m [] h = h
any_mono f g m (j ∷ l) h = go (f j) refl h (any_mono f g m l)
  where
    go : (b : Bool) → f j ≡ b → (b || any f l) ≡ true → (any f l ≡ true → any g l ≡ true) → (g j || any g l) ≡ true
    go true e k ih = rw (m j e)
    go false e k ih = or_mono (g j) (any f l) (any g l) ih (right (g j) k)
      where
        right : (b : Bool) → any f l ≡ true → (b || any f l) ≡ true
        right true p = refl
        right false p = p

module _ (done s t : List Bool) (g : Grows s t) where
  says_mono : (st : DoneStep) → says st s ≡ true → says st t ≡ true
  says_mono st = go st.all
    where
      go : (b : Bool) → cond b (every (silent_in s) (step_sources st)) (any (silent_in s) (step_sources st)) ≡ true
          → cond b (every (silent_in t) (step_sources st)) (any (silent_in t) (step_sources st)) ≡ true
      go true h = every_mono (silent_in s) (silent_in t) g (step_sources st) h
      go false h = any_mono (silent_in s) (silent_in t) g (step_sources st) h

  pass_mono : (sts : List DoneStep) (i : ℕ) → Grows (pass_from sts done s i) (pass_from sts done t i)
  pass_mono [] i j h = h
  pass_mono (st ∷ sts) i zero h = or_mono (get_or done i false) (says st s) (says st t) (says_mono st) h
  pass_mono (st ∷ sts) i (suc j) h = pass_mono sts (suc i) j h

-- ---- what grows is the same, or has a silent node more
abbrev silents : List Bool → ℕ
silents s = count (λ (b : Bool). b) s

grown : (s t : List Bool) → length s ≡ length t → Grows s t → (s ≡ t) ⊎ (suc (silents s) ≤ silents t)
grown [] [] e g = inl refl
grown [] (y ∷ t) e g = absurd (omega arith)
grown (x ∷ s) [] e g = absurd (omega arith)
grown (x ∷ s) (y ∷ t) e g = go x y (g 0) (grown s t (omega arith) (λ j. g (suc j)))
  where
    go : (a b : Bool) → (a ≡ true → b ≡ true) → (s ≡ t) ⊎ (suc (silents s) ≤ silents t) → (a ∷ s ≡ b ∷ t) ⊎ (suc (silents (a ∷ s)) ≤ silents (b ∷ t))
    go true true f (inl p) = inl (ap (λ l. true ∷ l) p)
    go true true f (inr h) = inr (omega arith)
    go true false f p = absurd (false≢true (f refl))
    go false true f (inl p) = inr (rw p (omega arith))
    go false true f (inr h) = inr (omega arith)
    go false false f (inl p) = inl (ap (λ l. false ∷ l) p)
    go false false f (inr h) = inr h

pub length_pass : (sts : List DoneStep) (done s : List Bool) (i : ℕ) → length (pass_from sts done s i) ≡ length sts
length_pass [] done s i = refl
length_pass (st ∷ sts) done s i = ap suc (length_pass sts done s (suc i))

module _ (sts : List DoneStep) (done : List Bool) where
  pub stays : (k : ℕ) (s : List Bool) → pass sts done s ≡ s → passes k sts done s ≡ s
  stays zero s e = refl
  stays (suc k) s e = ap (passes k sts done) e ∙ stays k s e

  settles : (k : ℕ) (s : List Bool) → length s ≡ length sts → Grows s (pass sts done s) → length sts ≤ silents s + k
      → pass sts done (passes k sts done s) ≡ passes k sts done s
  settles zero s l g h = ⊎_elim sym full (grown s (pass sts done s) (l ∙ sym (length_pass sts done s 0)) g)
    where
      full : suc (silents s) ≤ silents (pass sts done s) → pass sts done s ≡ s
      full m = absurd (omega (arith, count_length (λ (b : Bool). b) (pass sts done s), length_pass sts done s 0))
  settles (suc k) s l g h =
      ⊎_elim
      (λ p. ap (pass sts done) (stays (suc k) s (sym p)) ∙ sym p ∙ sym (stays (suc k) s (sym p)))
      (λ m. settles k (pass sts done s) (length_pass sts done s 0) (pass_mono done s (pass sts done s) g sts 0) (omega arith))
      (grown s (pass sts done s) (l ∙ sym (length_pass sts done s 0)) g)

  silent_none : (n j : ℕ) → silent_in (replicate n false) j ≡ false
  silent_none zero j = refl
  silent_none (suc n) zero = refl
  silent_none (suc n) (suc j) = silent_none n j

  pub settled_stays : length sts ≡ 24 → pass sts done (settled sts done) ≡ settled sts done
  unfolding settled
  settled_stays l =
      settles 24 (replicate 24 false) (sym l) (λ j h. absurd (false≢true (sym (silent_none 24 j) ∙ h))) (omega arith)

-- ---- only the flags of the nodes count: a list of them, and an array with clear flags past it, say the same
module _ (a b : List Bool) (same : (i : ℕ) → get_or a i false ≡ get_or b i false) where
  pass_flags : (sts : List DoneStep) (s : List Bool) (i : ℕ) → pass_from sts a s i ≡ pass_from sts b s i
  pass_flags [] s i = refl
  pass_flags (st ∷ sts) s i = rw (same i, pass_flags sts s (suc i))

  passes_flags : (k : ℕ) (sts : List DoneStep) (s : List Bool) → passes k sts a s ≡ passes k sts b s
  passes_flags zero sts s = refl
  passes_flags (suc k) sts s = ap (passes k sts a) (pass_flags sts s 0) ∙ passes_flags k sts (pass sts b s)

  pub silent_flags : (p : DonePlan) → plan_silent p a ≡ plan_silent p b
  unfolding settled
  silent_flags p = ap (λ s. silent_in s p.output) (passes_flags 24 p.steps (replicate 24 false))
