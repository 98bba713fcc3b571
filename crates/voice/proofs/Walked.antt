-- The walk of `Quietest` as a fold over the numbered candidates.
use Prim.Native.Nat.{ℕ, suc}
use native.Mathlib.Numerals.{add-one}
use mathlib.Core.Path.{◌≡◌, refl, sym, ap, ◌∙◌}
use mathlib.Core.List.{List, [], ◌∷◌}
use Rattle.std.specs.Prelude.{fold}
use Rattle.std.specs.List.{enumerate_from}
use Rattle.voice.specs.declared.policy.Candidate.{Candidate}
use Rattle.voice.specs.Policy.{Held, passed, walk}

abbrev pub step : Held → ℕ × Candidate → Held
step h x = passed h x.0 x.1 x.1.level

pub walk_fold : (h : Held) (p : ℕ) (l : List Candidate) → walk h p l ≡ fold step h (enumerate_from p l)
walk_fold h p [] = refl
walk_fold h p (c ∷ l) =
    walk_fold (passed h p c c.level) (suc p) l
    ∙ ap (λ n. fold step (passed h p c c.level) (enumerate_from n l)) (sym (add-one p))
