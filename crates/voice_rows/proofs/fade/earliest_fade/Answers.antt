-- `voice_rows::fade::earliest_fade` meets its contract: a fold from the last row down.
use Prim.Native.Nat.{ℕ, ◌+◌, ◌/◌, ◌≤◌, ◌<◌, min}
use native.Mathlib.Omega.{arith}
use mathlib.Core.Logic.{◌⊎◌, inl, inr}
use mathlib.Core.Path.{◌≡◌, refl, sym, ap, ◌∙◌}
use mathlib.Core.List.{List, []}
use Rattle.std.proofs.Common.{rules, tests}
use lib.ListN.{drop_of_length-le, length-take, length, take, drop, get_or}
use Rattle.std.specs.Prelude.{Option, None, Some, unwrap_or}
use Rattle.lists.proofs.Table.{left_row}
use Rattle.node.specs.declared.record.NodeId.{NodeId}
use Rattle.voice.specs.declared.voices.Voice.{Voice}
use Rattle.voice.specs.Voice.{fades_on}
use Rattle.model.specs.Spawn.{earlier, earliest}
use Rattle.words.proofs.InWords.{take_count}
use Rattle.words.proofs.Rows.{rows_long}
use Rattle.voice_rows.specs.Rows.{voice_of, voices_in}
use Rattle.voice_rows.specs.Found.{found_in}
use Rattle.voice_rows.specs.Earlier.{Earlier}
use Rattle.voice_rows.proofs.Down.{fold_down}
use Rattle.voice_rows.proofs.fade.earliest_fade.Goals as goal

-- of the first n voices those from row i on have this earliest fade, and its row is below n
abbrev Best : List Voice → NodeId → ℕ → ℕ → Option ℕ → Type 0
Best vs bus n i best = (found_in best vs ≡ earliest (fades_on bus) (drop i (take n vs))) × ((r : ℕ) → best ≡ Some r → r < n)

inside : (r best : Option ℕ) (i n : ℕ) → i < n → ((k : ℕ) → best ≡ Some k → k < n) → (r ≡ best) ⊎ (r ≡ Some i) → (k : ℕ) → r ≡ Some k → k < n
inside r best i n h below (inl e) k p = below k (sym e ∙ p)
inside r best i n h below (inr e) k p = let same : i ≡ k = ap (λ o. unwrap_or o 0) (sym e ∙ p) in omega arith

-- one row more, from the last down
one_more : (vs : List Voice) (bus : NodeId) (n i : ℕ) (best r : Option ℕ) → n ≤ length vs → i < n → Best vs bus n (i + 1) best → Earlier vs best i bus r → Best vs bus n i r
one_more vs bus n i best r top below h e =
    let q = fades_on bus in
    let v = get_or vs i (voice_of []) in (
      e.is ∙ ap (λ o. earlier o (q v) v) h.0 ∙ sym (ap (earliest q) (left_row (voice_of []) vs n i below top)),
      inside r best i n below h.1 e.from,
    )

pub returns : goal.returns
returns c =
    let s = c.args in
    let vs = voices_in s.t.now in
    let n = min s.count (length s.t.now / 143) in
    let top : n ≤ length vs = omega (arith, rows_long 143 voice_of s.t.now) in
    let none_left : drop n (take n vs) ≡ [] = drop_of_length-le (take n vs) (omega (arith, length-take n vs)) in
    let size : length (take s.count vs) ≡ n = length-take s.count vs ∙ ap (min s.count) (rows_long 143 voice_of s.t.now) in
    let first : Best vs s.bus n n None = (sym (ap (earliest (fades_on s.bus)) none_left), λ r p. absurd (search rules)) in
    let best : Best vs s.bus n 0 c.fold.result = fold_down _ _ (Best vs s.bus n) n (λ a i b q below inv k.
    (search rules, one_more vs s.bus n i a b top below inv (search (rules, tests)))) None c.fold.result c.rev.result (search rules) (search rules) c.fold.ensures.ran first in
    record {
      is = best.0 ∙ ap (earliest (fades_on s.bus)) (take_count 143 voice_of s.t.now s.count n refl);
      within = λ k p. omega (arith, size, best.1 k p);
    }
