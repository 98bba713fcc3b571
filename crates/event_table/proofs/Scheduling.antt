-- Scheduling: the queue has no place for the event, or takes it.
use Prim.Native.Nat.{ℕ, suc, zero, ◌+◌, ◌/◌, ◌≤◌, ◌<◌, min}
use native.Mathlib.Omega.{arith}
use mathlib.Core.Path.{◌≡◌, refl, sym, ap, subst, ◌∙◌}
use mathlib.Core.List.{List, [], ◌∷◌}
use mathlib.Core.Bool.{Bool, true, false, not, true≢false, cond}
use Rattle.std.specs.Prelude.{None, Some, filter, Err, Ok, position}
use lib.Dec.{leb}
use lib.ListN.{length, take, length-take}
use lib.Seq.{take_all}
use borrow.Author.Tests.{lt-leb}
use Rattle.lists.proofs.Filter.{length_filter}
use Rattle.node.specs.declared.refusal.Refusal.TheVariants.{TableFull}
use Rattle.scheduler.specs.Replace.{thinned}
use Rattle.scheduler.specs.Queue.{full, replacing}
use Rattle.scheduler.specs.declared.event.Event.{Event}
use Rattle.words.specs.Place.{place_of, Holds}
use Rattle.words.proofs.Place.{place_keep, holds_count}
use Rattle.event_table.specs.Rows.{event_of, events_in}
use Rattle.event_table.specs.Queue.{Queued}
use Rattle.event_table.proofs.Room.{room, full_is}
use Rattle.words.proofs.FirstRow.{at_place, no_place}

-- ---- how many are left, by the row of the first event that is replaced
module _ {A : Type 0} (q : A → Bool) where
  -- one that passes is not left
  fewer : (l : List A) → place_of q l < length l → length (filter (λ x. not (q x)) l) < length l
  unfolding place_of
  fewer [] h = absurd (omega arith)
  fewer (x ∷ l) h = go (q x) h (fewer l)
    where
      go : (b : Bool) → cond b zero (suc (place_of q l)) < suc (length l) → (place_of q l < length l → length (filter (λ y. not (q y)) l) < length l)
          → length (cond (not b) (x ∷ (filter (λ y. not (q y)) l)) (filter (λ y. not (q y)) l)) < suc (length l)
      go true h ih = let k : length (filter (λ y. not (q y)) l) ≤ length l = length_filter (λ y. not (q y)) l in omega arith
      go false h ih = let k = ih (omega arith) in omega (arith, k)

  all_left : (l : List A) → length l ≤ place_of q l → filter (λ x. not (q x)) l ≡ l
  all_left l h =
      let k = place_keep q l in
      let same : take (place_of q l) l ≡ l = take_all (place_of q l) l h in
      sym (ap (filter (λ x. not (q x))) same) ∙ k ∙ same

-- ---- what an event's key leaves of the queue
module _ (q : Event → Bool) (count : ℕ) (old : List ℕ) (long : length old ≡ 3840) where
  abbrev queue : List Event
  queue = take count (events_in old)

  many : length queue ≡ min count 256
  many = length-take count (events_in old) ∙ ap (min count) (room old long)

  -- one goes, and there is a place
  pub place_freed : (p : ℕ) → position q (take count (events_in old)) ≡ Some p → full (filter (λ f. not (q f)) (take count (events_in old))) ≡ false
  place_freed p e =
      let at = at_place q queue p e in
      let low : place_of q queue < length queue = omega (arith, at.0, at.1) in
      lt-leb 256 _ (omega (arith, many, fewer q queue low))

  -- none goes
  pub none_goes : position q (take count (events_in old)) ≡ None → filter (λ f. not (q f)) (take count (events_in old)) ≡ take count (events_in old)
  none_goes e = all_left q queue (no_place q queue e)

  pub none_full : position q (take count (events_in old)) ≡ None → full (filter (λ f. not (q f)) (take count (events_in old))) ≡ leb 256 count
  none_full e = ap full (none_goes e) ∙ full_is old long count

  pub none_held : count < 256 → position q (take count (events_in old)) ≡ None → Holds (events_in old) count (filter (λ f. not (q f)) (take count (events_in old)))
  none_held h e =
      let same : count ≡ min count (length old / 15) = omega (arith, ap (λ k. k / 15) long) in
      subst (Holds (events_in old) count) (sym (none_goes e)) (holds_count 15 event_of old count count same)

-- ---- the two ways through scheduling
module _ (count : ℕ) (e : Event) (old : List ℕ) where
  l : List Event
  l = take count (events_in old)

  pub queue_full : full (thinned e (take count (events_in old))) ≡ true → Queued count e old (Err TableFull) old
  unfolding l
  queue_full h =
      record {
        answer = sym (ap (λ b. cond b (Err TableFull) (Ok tt)) h);
        number = sym (ap (λ b. cond b (Some 7) None) h);
        queue = sym (ap (λ b. cond b l (replacing e l)) h);
        taken = λ p. absurd (true≢false (sym h ∙ p));
        kept = λ p. (refl, refl);
      }

  pub queue_taken : (new : List ℕ) (n : ℕ) → full (thinned e (take count (events_in old))) ≡ false → n ≡ length (thinned e (take count (events_in old)))
      → take (n + 1) (events_in new) ≡ replacing e (take count (events_in old)) → Queued count e old (Ok (n + 1)) new
  unfolding l
  queue_taken new n h many p =
      record {
        answer = sym (ap (λ b. cond b (Err TableFull) (Ok tt)) h);
        number = sym (ap (λ b. cond b (Some 7) None) h);
        queue = p ∙ sym (ap (λ b. cond b l (replacing e l)) h);
        taken = λ q. ap (λ k. k + 1) many;
        kept = λ q. absurd (true≢false (sym q ∙ h));
      }
