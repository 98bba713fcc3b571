-- What an accepted making gives (SPEC 3): its rate is a whole number up to 384,000, so that the fade length is short,
-- its block has a sample, and with the fade table its rate is 48,000.
use Prim.Native.Nat.{ℕ, ◌*◌, ◌/◌, ◌%◌, ◌≤◌, ◌<◌}
use native.Mathlib.Omega.{arith}
use mathlib.Core.Path.{◌≡◌, refl, sym, ap, ◌∙◌}
use Rattle.std.specs.Prelude.{Option, None, Some}
use mathlib.Core.Bool.{Bool, true, false, not, cond, ◌&&◌, true≢false}
use lib.Dec.{eqb, leb}
use lib.Ieee.{Float, nan, inf, fin, up, down}
use borrow.Author.Tests.{leb-true, eqb-true, not-false}
use Rattle.graph.proofs.Calls.{when_none}
use Rattle.lists.proofs.Member.{some_inj, none_some, and_left, and_right}
use Rattle.node.specs.declared.refusal.Refusal.{Refusal}
use Rattle.node.specs.declared.refusal.Refusal.TheVariants.{SampleRate, BlockSize, BudgetTooLarge, TableRate}
use Rattle.node.specs.Refusal.{Said, refused, gives}
use Rattle.bus.specs.Rate.{whole_rate, rate_of}
use Rattle.bus.specs.Fade.{fade_length}
use Rattle.model.specs.Refuse.{no_rate, over_budget, table_rate, other_rate}
use Rattle.model.specs.Model.{Model}
use Rattle.model.specs.Make.{Making, whole_or0, config_of, refusal_of, new_model, made_unless, make}

whole_bound : (a b n : ℕ) → whole_rate a b ≡ gives n → n ≤ 384000
whole_bound a b n h = go (eqb (a % b) 0 && (leb 1 (a / b) && leb (a / b) 384000)) refl h
  where
    go : (c : Bool) → (eqb (a % b) 0 && (leb 1 (a / b) && leb (a / b) 384000)) ≡ c → cond c (gives (a / b)) (refused 1) ≡ gives n → n ≤ 384000
    go true e h =
        let q : a / b ≡ n = cc in
        let l : a / b ≤ 384000 = leb-true _ _ (and_right (leb 1 (a / b)) _ (and_right (eqb (a % b) 0) _ e)) in
        omega arith
    go false e h = let z : ◌≡◌ {A = ℕ} 0 1 = cc in absurd (omega arith)

rate_bound : (x : Float) (n : ℕ) → rate_of x ≡ gives n → n ≤ 384000
unfolding rate_of
rate_bound nan n h = let z : ◌≡◌ {A = ℕ} 0 1 = cc in absurd (omega arith)
rate_bound (inf s) n h = let z : ◌≡◌ {A = ℕ} 0 1 = cc in absurd (omega arith)
rate_bound (fin true m e) n h = let z : ◌≡◌ {A = ℕ} 0 1 = cc in absurd (omega arith)
rate_bound (fin false m e) n h = whole_bound (m * up e) (down e) n h

pub record Accepted (k : Making) (m : Model) : Type 0 where
  pub new : m ≡ new_model (config_of k)
  pub length : fade_length (config_of k).rate ≤ 18446744073709551615
  pub block : 0 < k.block
  pub table : (config_of k).table ≡ true → (config_of k).rate ≡ table_rate

pub made : (k : Making) (m : Model) → make k ≡ Some m → Accepted k m
made k m h =
    let r = go (refusal_of k) h in
    let a = when_none (no_rate (rate_of k.rate)) SampleRate _ r.0 in
    let b = not-false (leb 1 k.block && leb k.block 128) (when_none (not (leb 1 k.block && leb k.block 128)) BlockSize _ a.1).0 in
    let d = when_none (not (leb 1 k.block && leb k.block 128)) BlockSize _ a.1 in
    let e = when_none (over_budget k.budget) BudgetTooLarge _ d.1 in
    let f = when_none (k.table && other_rate (rate_of k.rate)) TableRate None e.1 in
    record {
      new = r.1;
      length = short (rate_of k.rate) refl a.0;
      block = leb-true 1 k.block (and_left (leb 1 k.block) _ b);
      table = λ chosen. at_table (rate_of k.rate) (sym (ap (λ (t : Bool). t && other_rate (rate_of k.rate)) chosen) ∙ f.0);
    }
  where
    go : (o : Option Refusal) → made_unless o (new_model (config_of k)) ≡ Some m → (o ≡ None) × (m ≡ new_model (config_of k))
    go None e = (refl, sym (some_inj e))
    go (Some r) e = absurd (none_some e)

    small : (n : ℕ) → n ≤ 384000 → fade_length n ≤ 18446744073709551615
    small n h = omega arith

    short : (a : Said ℕ) → rate_of k.rate ≡ a → no_rate a ≡ false → fade_length (whole_or0 a) ≤ 18446744073709551615
    short (refused n) e r = absurd (true≢false r)
    short (gives n) e r = small n (rate_bound k.rate n e)

    at_table : (a : Said ℕ) → other_rate a ≡ false → whole_or0 a ≡ table_rate
    at_table (refused n) h = absurd (true≢false h)
    at_table (gives n) h = eqb-true n table_rate (not-false (eqb n table_rate) h)
