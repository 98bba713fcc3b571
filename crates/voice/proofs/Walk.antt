-- One step of the walk over the candidates, the lowest rank as a fold, and the last of a list by its place.
use Rattle.std.specs.Prelude.{Option, Some, fold, slice_get}
use Prim.Native.Nat.{ℕ, ◌+◌, ◌-◌, ◌<◌, min}
use native.Mathlib.Omega.{arith}
use mathlib.Core.Path.{◌≡◌, refl, ap, ◌∙◌}
use mathlib.Core.List.{List, [], ◌∷◌}
use mathlib.Core.Bool.{Bool}
use lib.ListN.{length, get_or}
use lib.Ieee.{Float}
use Rattle.std.proofs.lemmas.Option.{slice_get_within, get_or_from_slice_get}
use Rattle.voice.specs.declared.policy.Candidate.{Candidate}
use Rattle.voice.specs.Policy.{lowest, Held, takes, take?, passed, newest}
use Rattle.voice.proofs.Victims.{last_from_lem}

-- a candidate whose level is known
pub pass_known : (g : Held) (p : ℕ) (c : Candidate) (l : Option Float) (x : Float) (b : Bool) → l ≡ Some x → takes g x ≡ b → passed g p c l ≡ take? b (Some (p, c.voice, x)) g
pass_known g p c l x b e t = ap (passed g p c) e ∙ ap (λ z. take? z (Some (p, c.voice, x)) g) t

-- the lowest rank, as a fold
pub lowest_fold : (r : ℕ) (l : List Candidate) → lowest r l ≡ fold (λ k (c : Candidate). min k c.rank) r l
lowest_fold r [] = refl
lowest_fold r (c ∷ l) = lowest_fold (min r c.rank) l

-- the last of a list that has one
newest_at : (d : Candidate) (l : List Candidate) (n : ℕ) → length l ≡ n → 0 < n → newest l ≡ Some (n - 1, (get_or l (n - 1) d).voice)
newest_at d [] n e h = absurd (omega arith)
newest_at d (c ∷ l) n e h =
    let z : length l ≡ n - 1 = omega arith in
    let w : 0 + length l ≡ n - 1 = omega arith in
    last_from_lem d 0 c l ∙ ap (λ m. Some (m, (get_or (c ∷ l) (length l) d).voice)) w ∙ ap (λ m. Some (n - 1, (get_or (c ∷ l) m d).voice)) z

-- the last, by its place
pub newest_last : (l : List Candidate) (c : Candidate) → slice_get l (length l - 1) ≡ Some c → newest l ≡ Some (length l - 1, c.voice)
newest_last l c e =
    let some : 0 < length l = omega (arith, slice_get_within l (length l - 1) c e) in
    newest_at c l (length l) refl some ∙ ap (λ (d : Candidate). Some (length l - 1, d.voice)) (get_or_from_slice_get l (length l - 1) c c e)
