use Rattle.std.proofs.Common.{◌≡◌, ℕ, List, Bool, true, ◌≤◌, length, take}
use Rattle.std.specs.List.{list_all}
use Rattle.words.specs.Rows.{cuts}
use Rattle.words.specs.Place.{Tells}
use Rattle.words.proofs.InWords.{ClosingIn}
use Rattle.words.proofs.table.close_gaps.Given as goal

abbrev pub invariant-loop-i : goal.invariant-loop-i
invariant-loop-i g l =
    (l.to ≤ l.i) × (length l.t ≡ length l.initial.t)
    × ((q : List ℕ → Bool) → Tells l.w (goal.F-post g l.stays) q → list_all q (take l.from (take l.count (cuts l.w l.initial.t))) ≡ true → ClosingIn l.w (λ ws. ws) q l.initial.t l.t l.n l.i l.to)
