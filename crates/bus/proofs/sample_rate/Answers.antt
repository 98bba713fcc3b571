-- `bus::sample_rate` meets its contract: what each test says of the f32 of a rate is in `Rates`.
use Rattle.std.proofs.Common.{◌^◌, ◌≤◌, T, sym, subst, arith, rules, tests}
use lib.Ieee.{binary32, fits, of_bits, neg}
use Rattle.std.proofs.lemmas.Bool.{and_from, and_parts}
use Rattle.bus.proofs.Rates.{plain, not_above, not_under, out_of_range, not_whole, is_whole}
use mathlib.Core.Bool.{true, false, ◌&&◌, false≢true}
use mathlib.Core.Path.{◌≡◌, ◌∙◌}
use lib.Dec.{leb}
use borrow.Author.Tests.{leb-true, le-leb}
use Rattle.bus.proofs.sample_rate.Goals as goal
use Rattle.bus.proofs.sample_rate.Goals.{Start, else-x-via-then-x+else-x-2, else-x-via-else-x}

-- a parameter is a value of its format
held : (c : Start) → T (fits binary32 c.args.x)
held c = subst T (sym c.well_formed.0.1) tt

pub truncating_f32_to_u64-n-requires : goal.truncating_f32_to_u64-n-requires
unfolding of_bits neg
truncating_f32_to_u64-n-requires c = record { lower_bound = subst T (sym c.if-x.true) tt; upper_bound = subst T (sym c.if-x-2.true) tt }

pub float_to_bits-rate : goal.float_to_bits-rate
float_to_bits-rate c =
    -- the whole part is a number that an f32 counts
    let n = c.truncating_f32_to_u64-n.result in
    let both : (leb 1 n && leb n 384000) ≡ true = search (rules, tests) in
    let small : n ≤ 2 ^ 24 = omega (arith, leb-true n 384000 ((and_parts (leb 1 n) (leb n 384000) both).1)) in
    plain n small

pub returns-then-rate-x : goal.returns-then-rate-x
returns-then-rate-x c =
    let n = c.truncating_f32_to_u64-n.result in
    let both : (leb 1 n && leb n 384000) ≡ true = search (rules, tests) in
    let low = leb-true 1 n ((and_parts (leb 1 n) (leb n 384000) both).0) in
    let high = leb-true n 384000 ((and_parts (leb 1 n) (leb n 384000) both).1) in
    sym (is_whole _ _ (held (goal.at.returns-then-rate-x c).Start) low high c.if-rate-x.true)

pub returns-else-rate-x : goal.returns-else-rate-x
returns-else-rate-x c =
    sym (not_whole _ _ (held (goal.at.returns-else-rate-x c).Start) c.truncating_f32_to_u64-n.ensures c.if-rate-x.false)

pub returns-else-contains : goal.returns-else-contains
returns-else-contains c =
    let n = c.truncating_f32_to_u64-n.result in
    let not_both : (leb 1 n && leb n 384000) ≡ false = search (rules, tests) in
    sym (out_of_range _ _ (held (goal.at.returns-else-contains c).Start) c.truncating_f32_to_u64-n.ensures (λ l h. false≢true (sym not_both ∙ and_from (leb 1 n) (leb n 384000) (le-leb 1 n l) (le-leb n 384000 h))))

pub returns-else-x : goal.returns-else-x
unfolding of_bits neg
returns-else-x c =
    let fits = held (goal.at.returns-else-x c).Start in
    elim c.else-x.branch [
      | else-x-via-then-x+else-x-2 w ↦ sym (not_under _ fits w.if-x-2.false)
      | else-x-via-else-x w ↦ sym (not_above _ fits w.if-x.false)
    ]
