use Rattle.std.proofs.Common.{ℕ, ◌≡◌, ◌%◌, Bool, true, false, true≢false, List, get_or, sym, ◌∙◌, Option, None, Some, Bor, rules, tests}
use lib.Dec.{eqb}
use borrow.Author.Tests.{eqb-true}
use Rattle.std.specs.Prelude.{MatchOption}
use Rattle.std.specs.Slice.{IsItemAt}
use Rattle.edges.specs.Wiring.{listed}
use Rattle.graph_tables.proofs.Marks.{unmarked, listed_at}
use Rattle.graph_tables.proofs.removal.Sought.has.Goals as goal

-- the id that the mark names is the one that is looked for
there : (ids : List ℕ) (m x : ℕ) (o : Option (Bor ℕ)) (b : Bool) (Gives : Bor ℕ → Type 0) → IsItemAt ids m o → MatchOption o (b ≡ false) Gives
    → ((y : Bor ℕ) → Gives y → b ≡ eqb y.now x) → b ≡ true → listed ids x ≡ true
there ids m x None b Gives at h told t = absurd (true≢false (sym t ∙ h))
there ids m x (Some y) b Gives at h told t = let placed = at.3 in listed_at ids m x placed.0 (sym (placed.1 0) ∙ eqb-true _ _ (sym (told y h) ∙ t))

pub returns-in-None : goal.returns-in-None
returns-in-None c =
    let s = c.args.self.now in
    let blank : get_or s.marks.now (c.args.x % 1024) None ≡ None = search rules in
    sym (unmarked s.marks.now s.ids.now c.args.x s.marked blank)

pub returns-then-is_some_and : goal.returns-then-is_some_and
returns-then-is_some_and c =
    let s = c.args.self.now in
    c.if-is_some_and.true
    ∙ sym (there s.ids.now c.from.result c.args.x c.get.result c.is_some_and.result _ c.get.ensures.lookup c.is_some_and.ensures (λ y h. search (rules, tests)) c.if-is_some_and.true)
