use Rattle.std.proofs.Common.{rules, refl, sym, ◌∙◌}
use borrow.Author.Tests.{lt-leb, le-leb}
use Rattle.event_table.specs.Key.{replaces_by}
use Rattle.event_table.proofs.Scheduling.{place_freed, none_full, none_held}
use Rattle.event_table.proofs.queue.make_place.Goals as goal

pub returns-in-Some : goal.returns-in-Some
returns-in-Some c =
    let s = c.args in (
      place_freed (replaces_by s.k.now) s.count s.t.now (search rules) c.in-Some.p (sym c.row_replaced.ensures ∙ c.in-Some.is),
      c.remove_replaced.ensures,
    )

pub returns-then-count-lt256 : goal.returns-then-count-lt256
returns-then-count-lt256 c =
    let s = c.args in
    let none = sym c.row_replaced.ensures ∙ c.in-None.is in (
      none_full (replaces_by s.k.now) s.count s.t.now (search rules) none ∙ lt-leb 256 s.count c.if-count-lt256.true,
      none_held (replaces_by s.k.now) s.count s.t.now (search rules) c.if-count-lt256.true none,
    )

pub returns-else-count-lt256 : goal.returns-else-count-lt256
returns-else-count-lt256 c =
    let s = c.args in
    let none = sym c.row_replaced.ensures ∙ c.in-None.is in (
      none_full (replaces_by s.k.now) s.count s.t.now (search rules) none ∙ le-leb 256 s.count c.if-count-lt256.false,
      refl,
      refl,
    )
