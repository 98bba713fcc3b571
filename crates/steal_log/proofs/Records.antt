-- Two records with the same fields are the same record; the table has room for 64.
use Prim.Native.Nat.{ℕ, ◌-◌, ◌/◌, ◌%◌}
use native.Mathlib.Omega.{arith}
use mathlib.Core.Path.{◌≡◌, ap, ◌∙◌}
use mathlib.Core.Bool.{Bool}
use mathlib.Core.List.{List}
use lib.Ieee.{Float}
use lib.ListN.{length, drop}
use lib.Seq.{drop-length}
use Rattle.voice.specs.declared.steals.StealRecord.{StealRecord}
use Rattle.voice.specs.Steals.{empty_log, turned}
use Rattle.words.proofs.Rows.{rows_long}
use Rattle.steal_log.specs.Rows.{steal_of, records_in, log_in}

made : ℕ → Float → Bool → Bool → StealRecord
made s l k c = record { sample = s; level = l; known = k; cut = c }

pub record_same : (a b : StealRecord) → a.sample ≡ b.sample → a.level ≡ b.level → a.known ≡ b.known → a.cut ≡ b.cut → a ≡ b
unfolding made
record_same a b p q r s = let same : made a.sample a.level a.known a.cut ≡ made b.sample b.level b.known b.cut = cc in same

pub room : (c : List ℕ) → length c ≡ 320 → length (records_in c) ≡ 64
room c long = rows_long 5 steal_of c ∙ ap (λ k. k / 5) long

-- words that a new store is lent, whatever they are, hold no steals
pub none_held : (c : List ℕ) (next : ℕ) → log_in c 0 next ≡ empty_log
none_held c next =
    let l = turned (next % 64) (records_in c) in
    let all : length l - 0 ≡ length l = omega arith in
    ap (λ (n : List StealRecord). record { count = 0; newest = n }) (ap (λ k. drop k l) all ∙ drop-length l)
