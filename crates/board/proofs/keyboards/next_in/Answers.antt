use Prim.Native.Nat.{ℕ, zero, suc, ◌≤◌, ◌<◌}
use native.Mathlib.Omega.{arith, by_contra}
use native.Mathlib.Numerals.{add-one}
use mathlib.Core.Bool.{true, false}
use mathlib.Core.Path.{◌≡◌, refl, sym, ap, subst, ◌∙◌}
use borrow.Author.Rules.{rules}
use borrow.Author.Tests.{tests, ltb-true, ltb-false}
use lib.Dec.{ltb}
use lib.ListN.{length, length-map}
use Rattle.arrayvec.specs.ArrayVec.{ArrayVec}
use Rattle.store.specs.declared.wish.Wish.{Wish}
use Rattle.std.specs.Prelude.{IfSome, None, Some}
use Rattle.std.specs.Fn.{iterate}
use Rattle.lists.proofs.Member.{none_some}
use Rattle.console.specs.Wishes.{keyboards, waiting_at, after, picked, oldest_or}
use Rattle.board.specs.Queues.{waiting_in, picked_at}
use Rattle.board.proofs.Walked.{walk_none, walk_found, item_has, some_has, endless}
use Rattle.board.proofs.keyboards.next_in.Goals as goal

pub returns-clause-is : goal.returns-clause-is
returns-clause-is c =
    let ws = waiting_in c.args.queues.now c.args.next in
    let m = length c.args.queues.now in
    let many : m ≡ keyboards ws = sym (length-map c.args.queues.now (λ (v : ArrayVec Wish). v.items)) in
    let on : ℕ → ℕ = after (keyboards ws) in
    let found = c.find.ensures.runs in
    let u = found.0 in
    let taken = c.take.ensures.runs u u.seen found.1 in
    let q = taken.1.0 in
    let walk = c.successors.ensures.runs q q.seen taken.1.1 in
    let same = taken.1.2.0 in
    let whole = taken.1.2.1 in
    let steps = walk.2 (λ x r q h. search rules) in
    let item : (k : ℕ) → IfSome (u.at k) (λ y. y ≡ iterate on k c.args.next) =
    λ k. subst (λ o. IfSome o (λ y. y ≡ iterate on k c.args.next)) (same.2 k)
    (steps.2 on c.args.next k refl (λ x y h. let e : y ≡ after m x = search rules in e ∙ ap (λ n. after n x) many)) in
    elim c.find.result as (λ r. c.find.result ≡ r → picked ws ≡ picked_at r ws) [
      | None ↦ λ e.
          let h = rw e at found.2 in
          let quiet = h.1 (λ x r q e. search rules) in
          let ends : (n : ℕ) → q.len ≡ n → q.whole ≡ true → ⊥ =
          λ n. elim n as (λ n. q.len ≡ n → q.whole ≡ true → ⊥) [
            | zero ↦ λ e w. absurd (none_some (sym (walk.1 w e)))
            | suc k ↦ λ e w. endless (q.at k) _ (steps.1 k w (e ∙ sym (add-one k))) (λ x h. search rules)
          ] in
          let full : m ≤ u.len = by_contra m u.len (λ lt. ends q.len refl (whole h.0 lt)) in
          walk_none ws (keyboards ws) c.args.next
          (λ k lt. item_has (u.at k) (iterate on k c.args.next) _ _ (λ x. length (waiting_at x ws) ≤ 0) (u.reads k 0 (omega (arith, lt, many, full))) (item k) (λ x h. let e : false ≡ ltb 0 (length (waiting_at x ws)) = search (rules, tests) in ltb-false 0 (length (waiting_at x ws)) (sym e)) (quiet k))
      | Some x ↦ λ e.
          let h = rw e at found.2 in
          let i = h.0 in
          let says = h.3 (λ x r q e. search rules) in
          let here : x ≡ iterate on i c.args.next = subst (λ o. IfSome o (λ y. y ≡ iterate on i c.args.next)) h.2 (item i) in
          let hit = says.0 in
          let t : true ≡ ltb 0 (length (waiting_at x ws)) = search (rules, tests) in
          let some : 0 < length (waiting_at x ws) = ltb-true 0 (length (waiting_at x ws)) (sym t) in
          walk_found ws (keyboards ws) c.args.next i (omega (arith, taken.0, h.1, many)) (subst (λ y. 0 < length (waiting_at y ws)) here some)
          (λ k lt. some_has (u.at k) (iterate on k c.args.next) _ (λ y. length (waiting_at y ws) ≤ 0) (item k) (λ x h. let e : false ≡ ltb 0 (length (waiting_at x ws)) = search (rules, tests) in ltb-false 0 (length (waiting_at x ws)) (sym e)) (says.1 k lt))
          ∙ ap (λ y. oldest_or (waiting_at y ws) y None) (sym here)
    ] refl

pub returns-clause-waits : goal.returns-clause-waits
returns-clause-waits c =
    λ p e.
    let ws = waiting_in c.args.queues.now c.args.next in
    let found = c.find.ensures.runs in
    let h = rw e at found.2 in
    let says = h.3 (λ x r q e. search rules) in
    let hit = says.0 in
    let t : true ≡ ltb 0 (length (waiting_at p ws)) = search (rules, tests) in
    ltb-true 0 (length (waiting_at p ws)) (sym t)
