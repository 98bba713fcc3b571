use Rattle.std.proofs.Common.{ℕ, zero, suc, ◌+◌, ◌≡◌, ◌≤◌, ◌<◌, List, [], length, take, drop, get_or, refl, sym, subst, ◌++◌, Option, None, Some, unwrap_or, arith, rules, tests}
use Rattle.std.specs.Prelude.{MatchOption}
use Rattle.std.proofs.Math.ListN.{drop_of_length-le}
use Rattle.std.proofs.Math.Seq.{length-take-le}
use Rattle.std.proofs.lemmas.Iterator.{first_from_Range}
use Rattle.scheduler.specs.Queue.{Place, inserted}
use Rattle.scheduler.specs.declared.event.Event.{Event}
use Rattle.scheduler.proofs.Laws.{place_pass, place_found}
use Rattle.event_table.specs.Rows.{event_of, events_in}
use Rattle.event_table.proofs.Room.{room}
use Rattle.event_table.proofs.queue.place.Goals as goal

module _ (rows : List Event) (e : Event) (n : ℕ) (fit : n ≤ length rows) where
  abbrev queue : List Event
  queue = take n rows

  abbrev row : ℕ → Event
  row i = get_or rows i (event_of [])

  abbrev Passed : ℕ → Type 0
  Passed i = inserted e queue ≡ take i queue ++ inserted e (drop i queue)

  -- the first i are not later
  passed : (i : ℕ) → i ≤ n → ((k : ℕ) → k < i → (row k).time ≤ e.time) → Passed i
  passed zero h none = refl
  passed (suc i) h none =
      let one : i + 1 ≡ suc i = omega arith in
      subst Passed one (place_pass (event_of []) rows n i (omega arith) fit e (passed i (omega arith) (λ k l. none k (omega arith))) e.time (none i (omega arith)) refl)

  placed : (r : Option ℕ) → MatchOption r ((k : ℕ) → 0 ≤ k → k < n → (row k).time ≤ e.time) (λ i. (0 ≤ i) × (i < n) × (e.time < (row i).time) × ((k : ℕ) → 0 ≤ k → k < i → (row k).time ≤ e.time))
      → Place (take n rows) e (unwrap_or r n)
  placed None h =
      let long : length queue ≡ n = length-take-le n rows fit in
      let end : length queue ≤ n = omega (arith, long) in
      let none : drop n queue ≡ [] = drop_of_length-le queue end in
      let all : Passed n = passed n (omega arith) (λ k l. h k (omega arith) l) in
      record { within = omega (arith, long); splits = rw none (rw none at all) }
  placed (Some i) h =
      let long : length queue ≡ n = length-take-le n rows fit in
      let more = h.1 in
      record { within = omega (arith, long, more); splits = place_found (event_of []) rows n i more fit e (passed i (omega (arith, more)) (λ k l. h.3 k (omega arith) l)) h.2 }

pub returns : goal.returns
returns c =
    let e = c.args.e in
    let t = c.args.t.now in
    let n = c.args.n in
    let long : length t ≡ 3840 = search rules in
    let fit : n ≤ length (events_in t) = omega (arith, room t long) in
    let told = first_from_Range _ _ _ c.find.result (λ i. e.time < (get_or (events_in t) i (event_of [])).time) (λ i. (get_or (events_in t) i (event_of [])).time ≤ e.time) c.find.ensures.ran (λ x p h. search (rules, tests)) (λ x p h. (search rules, search (rules, tests))) in
    subst (Place (take n (events_in t)) e) (sym c.unwrap_or.ensures) (placed (events_in t) e n fit c.find.result told)
