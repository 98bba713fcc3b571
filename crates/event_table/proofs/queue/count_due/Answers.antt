-- `event_table::queue::count_due` meets its contract: as many of the numbers of the rows pass as of the rows themselves.
use Prim.Native.Nat.{ℕ, zero, suc, ◌+◌, ◌≤◌}
use native.Mathlib.Omega.{arith}
use mathlib.Core.Path.{◌≡◌, refl, sym, ap, ◌∙◌}
use mathlib.Core.List.{List, [], ◌∷◌}
use mathlib.Core.Bool.{Bool, true, false, cond}
use lib.ListN.{length, take, drop, get_or}
use Rattle.std.proofs.Common.{rules, tests}
use Rattle.std.specs.Prelude.{filter}
use Rattle.std.specs.List.{range_with_len}
use Rattle.std.proofs.lemmas.Iterator.{YieldsList-from_range}
use Rattle.std.proofs.lemmas.Iterator.Consumers.{YieldsList-from_filter, count_from_yields_List}
use Rattle.std.proofs.lemmas.List.{drop_more}
use Rattle.scheduler.specs.Queue.{due}
use Rattle.words.proofs.InWords.{take_count}
use Rattle.words.proofs.Rows.{rows_long}
use Rattle.event_table.specs.Rows.{event_of, events_in}
use Rattle.event_table.proofs.queue.count_due.Goals as goal

module _ {A : Type 0} (q : A → Bool) (d : A) (l : List A) where
  -- of the n numbers from a on as many pass as of the n rows from row a on
  numbers : (n a : ℕ) → a + n ≤ length l → length (filter (λ i. q (get_or l i d)) (range_with_len a n)) ≡ length (filter q (take n (drop a l)))
  numbers zero a h = refl
  numbers (suc n) a h =
      go (q (get_or l a d)) (numbers n (a + 1) (omega arith))
      ∙ ap (λ m. length (filter q (take (suc n) m))) (sym (drop_more l a d (omega arith)))
    where
      go : (b : Bool) → length (filter (λ i. q (get_or l i d)) (range_with_len (a + 1) n)) ≡ length (filter q (take n (drop (a + 1) l)))
          → length (cond b (a ∷ filter (λ i. q (get_or l i d)) (range_with_len (a + 1) n)) (filter (λ i. q (get_or l i d)) (range_with_len (a + 1) n)))
          ≡ length (cond b (get_or l a d ∷ filter q (take n (drop (a + 1) l))) (filter q (take n (drop (a + 1) l))))
      go true e = ap suc e
      go false e = e

pub returns : goal.returns
returns c =
    let a = c.args in
    let q = due a.deadline in
    let l = events_in a.t.now in
    let n = c.min-n.result in
    let fits : 0 + n ≤ length l = omega (arith, c.min-n.ensures, rows_long 15 event_of a.t.now) in
    count_from_yields_List c.filter.result _ c.count.ensures.ran (YieldsList-from_filter _ (λ i. q (get_or l i (event_of []))) (YieldsList-from_range 0 n n (cc) (omega arith)) c.filter.ensures.closure (λ x b p k. search (rules, tests)))
    ∙ numbers q (event_of []) l n 0 fits
    ∙ ap (λ m. length (filter q m)) (take_count 15 event_of a.t.now a.count n c.min-n.ensures)
