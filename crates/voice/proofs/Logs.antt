-- What every log of a run keeps, for the layers above: it holds as many records as there were steals, and at most 64.
use Rattle.std.specs.Prelude.{Option, Float, Some, None}
use Prim.Native.Nat.{ℕ, zero, suc, ◌-◌, min}
use native.Mathlib.Omega.{arith}
use mathlib.Core.Path.{◌≡◌, refl, ap, ◌∙◌}
use mathlib.Core.List.{List, [], ◌∷◌}
use mathlib.Core.Bool.{Bool, true, false, cond}
use lib.ListN.{length, length-append, length-drop}
use lib.Dec.{leb}
use Rattle.voice.specs.declared.steals.StealRecord.{StealRecord}
use Rattle.voice.specs.Steals.{StealLog, empty_log, pushed, cut_at, marked, record_of, record_level}

-- a record keeps the level that it was made with
pub level_kept : (sample : ℕ) (x : Option Float) (cut : Bool) → record_level (record_of sample x cut) ≡ x
level_kept sample None cut = refl
level_kept sample (Some x) cut = refl

abbrev pub Whole : StealLog → Type 0
Whole b = length b.newest ≡ min b.count 64

pub whole_none : Whole empty_log
whole_none = refl

pub whole_pushed : (b : StealLog) (r : StealRecord) → Whole b → Whole (pushed b r)
whole_pushed b r h = simp (length-drop, length-append) (omega arith)

pub length_cut : (i : ℕ) (l : List StealRecord) → length (cut_at i l) ≡ length l
length_cut i [] = refl
length_cut zero (r ∷ l) = refl
length_cut (suc i) (r ∷ l) = ap suc (length_cut i l)

pub whole_marked : (b : StealLog) (k : ℕ) → Whole b → Whole (marked b k)
whole_marked b k h = go (leb (b.count - length b.newest) k) ∙ h
  where
    go : (t : Bool) → length (cond t (cut_at (k - (b.count - length b.newest)) b.newest) b.newest) ≡ length b.newest
    go true = length_cut (k - (b.count - length b.newest)) b.newest
    go false = refl
