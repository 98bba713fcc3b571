-- The laws by which the loops over the queue go: one for each way through a body.
use Prim.Native.Nat.{ℕ, ◌+◌, ◌≤◌, ◌<◌}
use native.Mathlib.Omega.{arith}
use mathlib.Core.Path.{◌≡◌, sym, ap, ◌∙◌}
use mathlib.Core.List.{List, ◌∷◌, ◌++◌}
use mathlib.Core.Bool.{true, false}
use lib.ListN.{length, take, drop, get_or}
use lib.Seq.{append_snoc, get_or-take, length-take-le}
use borrow.Author.Tests.{lt-ltb, le-ltb}
use Rattle.std.proofs.lemmas.List.{take_more}
use Rattle.lists.proofs.Table.{left_row}
use Rattle.scheduler.specs.declared.event.Event.{Event}
use Rattle.scheduler.specs.Queue.{later, before?, inserted}

module _ {A : Type 0} (d : A) (rows : List A) (k i : ℕ) (h : i < k) (t : k ≤ length rows) where
  -- row i goes from what is left to what was passed
  pub passed_more : (m : List A) → take (i + 1) (take k rows) ++ m ≡ take i (take k rows) ++ (get_or rows i d ∷ m)
  passed_more m =
      let long : length (take k rows) ≡ k = length-take-le k rows t in
      let below : i < length (take k rows) = omega arith in
      ap (λ z. z ++ m) (take_more (take k rows) i d below)
      ∙ append_snoc (take i (take k rows)) (get_or (take k rows) i d) m
      ∙ ap (λ x. take i (take k rows) ++ (x ∷ m)) (get_or-take k rows i d h)

-- the search for an event's place: what was passed is not later
module _ (d : Event) (rows : List Event) (k i : ℕ) (h : i < k) (t : k ≤ length rows) (e : Event)
    (inv : inserted e (take k rows) ≡ take i (take k rows) ++ inserted e (drop i (take k rows))) where
  pub place_pass : (time : ℕ) → (get_or rows i d).time ≤ time → e.time ≡ time → inserted e (take k rows) ≡ take (i + 1) (take k rows) ++ inserted e (drop (i + 1) (take k rows))
  place_pass time l q =
      let p : later e (get_or rows i d) ≡ false = rw q (le-ltb _ _ l) in
      inv
      ∙ ap (λ z. take i (take k rows) ++ inserted e z) (left_row d rows k i h t)
      ∙ ap (λ b. take i (take k rows) ++ before? b e (get_or rows i d) (drop (i + 1) (take k rows)) (inserted e (drop (i + 1) (take k rows)))) p
      ∙ sym (passed_more d rows k i h t (inserted e (drop (i + 1) (take k rows))))

  pub place_found : e.time < (get_or rows i d).time → inserted e (take k rows) ≡ take i (take k rows) ++ (e ∷ drop i (take k rows))
  place_found l =
      let p : later e (get_or rows i d) ≡ true = lt-ltb _ _ l in
      inv
      ∙ ap (λ z. take i (take k rows) ++ inserted e z) (left_row d rows k i h t)
      ∙ ap (λ b. take i (take k rows) ++ before? b e (get_or rows i d) (drop (i + 1) (take k rows)) (inserted e (drop (i + 1) (take k rows)))) p
      ∙ ap (λ z. take i (take k rows) ++ (e ∷ z)) (sym (left_row d rows k i h t))
