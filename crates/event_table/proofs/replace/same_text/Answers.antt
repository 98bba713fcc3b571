-- `event_table::replace::same_text` meets its contract: what `all` says of the four places, written out.
use Rattle.std.proofs.Common.{ℕ, ◌+◌, ◌-◌, ◌*◌, ◌&&◌, ◌∙◌, get_or, rules, tests, refl, arith}
use Rattle.std.proofs.lemmas.Iterator.{YieldsList-from_range}
use Rattle.std.proofs.lemmas.Iterator.Search.{all_from_yields_List}
use Rattle.words.specs.Rows.{row_at}
use Rattle.event_table.specs.Key.{same_four}
use Rattle.event_table.proofs.replace.same_text.Goals as goal
use mathlib.Core.Bool.{Bool, true, false}
use mathlib.Core.Path.{◌≡◌, ap}

last : (a b c d : Bool) → (a && (b && (c && (d && true)))) ≡ (a && (b && (c && d)))
last a b c true = refl
last a b c false = refl

pub returns : goal.returns
returns c =
    let s = c.args in
    let row = row_at 15 s.i s.t.now in
    let q : ℕ → ℕ → Bool = λ m k. same_four m (get_or s.ws.now k 0) (get_or row (4 + k) 0) in
    let whole : s.n - 0 ≡ s.n = omega arith in
    all_from_yields_List (λ k. q (s.n - 4 * k) k) _ _ _ c.all.ensures.ran (YieldsList-from_range 0 4 4 (search rules) refl) (λ x b t k. search (rules, tests))
    ∙ last (q (s.n - 0) 0) (q (s.n - 4) 1) (q (s.n - 8) 2) (q (s.n - 12) 3)
    ∙ ap (λ m. q m 0 && (q (s.n - 4) 1 && (q (s.n - 8) 2 && q (s.n - 12) 3))) whole
