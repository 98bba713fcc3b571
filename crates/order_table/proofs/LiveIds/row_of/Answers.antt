use Prim.Native.Nat.{ℕ, ◌≤◌, ◌<◌}
use native.Mathlib.Omega.{arith}
use native.Mathlib.Decide.{dec_lt, ℕ_discrete}
use mathlib.Core.Path.{◌≡◌, sym, ◌∙◌}
use mathlib.Core.List.{List}
use lib.ListN.{length, get_or}
use mathlib.Core.Bool.{true}
use lib.Dec.{eqb}
use Rattle.std.specs.Prelude.{Option, None, Some, MatchOption, Result, MatchResult}
use Rattle.std.specs.Borrow.{Bor}
use Rattle.std.specs.Option.{option_eq}
use Rattle.std.specs.List.{HoldsAt}
use Rattle.std.proofs.lemmas.Bool.{eqb-true}
use Rattle.std.specs.declared.result.Result.TheVariants.{Ok, Err}
use Rattle.std.specs.Result.{result_unwrap_or}
use Rattle.std.proofs.lemmas.List.Sorted.{searched}
use Rattle.rank.specs.Names.{row_of}
use Rattle.prepare.specs.Parts.{Rising}
use Rattle.prepare.proofs.Find.{guessed, row_nowhere}
use Rattle.order_table.proofs.LiveIds.row_of.Goals as goal

rising : (xs : List ℕ) → Rising xs → (i j : ℕ) → i ≤ j → j < length xs → get_or xs i 0 ≤ get_or xs j 0
rising xs r i j le lt = go (ℕ_discrete i j)
  where
    go : Dec (i ≡ j) → get_or xs i 0 ≤ get_or xs j 0
    go (yes e) = rw e (omega arith)
    go (no o) = omega (arith, r.rises i j (omega arith) lt)

-- what the library's search says of ids that rise
row_found : (ids : List ℕ) (x : ℕ) → Rising ids → (r : Result ℕ ℕ)
    → MatchResult r (λ i. (i < length ids) × (get_or ids i 0 ≡ x)) (λ i. (i ≤ length ids) × ((k : ℕ) → k < i → get_or ids k 0 < x) × ((k : ℕ) → i ≤ k → k < length ids → x < get_or ids k 0))
    → result_unwrap_or r (length ids) ≡ row_of ids x
row_found ids x r (Ok i) h = guessed ids x r i h.0 h.1
row_found ids x r (Err i) h = row_nowhere ids x (λ j lt e. go j lt e (dec_lt j i))
  where
    go : (j : ℕ) → j < length ids → get_or ids j 0 ≡ x → Dec (j < i) → ⊥
    go j lt e (yes l) = omega (arith, h.1 j l)
    go j lt e (no l) = omega (arith, h.2 j (omega arith) lt)

-- what `get` gives, where it is the id
looked : (ids : List ℕ) (x : Bor ℕ) (g : ℕ) (r : Option (Bor ℕ)) → option_eq (λ a b. eqb a.now b.now) r (Some x) ≡ true → MatchOption r (length ids ≤ g) (λ a. (g < length ids) × HoldsAt (λ b. a.now ≡ b) ids g)
    → (g < length ids) × (get_or ids g 0 ≡ x.now)
looked ids x g None e h = cc
looked ids x g (Some a) e h = (h.0, sym (h.1 0) ∙ eqb-true a.now x.now e)

pub returns-then-eq : goal.returns-then-eq
returns-then-eq c =
    let s = c.args.self.now in
    let at = looked s.rows.now _ c.args.guess c.get.result (sym c.eq.ensures ∙ c.if-eq.true) c.get.ensures.lookup.3 in
    guessed s.rows.now c.args.x s.rising c.args.guess at.0 at.1

pub returns : goal.returns
returns c =
    let s = c.args.self.now in
    c.unwrap_or.ensures
    ∙ row_found s.rows.now c.args.x s.rising c.binary_search.result (searched s.rows.now c.args.x c.binary_search.result c.binary_search.ensures.position (rising _ s.rising))
