-- A step of the plan says what the rule says of its node.
use Prim.Native.Nat.{ℕ, zero, suc, ◌-◌, ◌≤◌, min}
use native.Mathlib.Omega.{arith}
use mathlib.Core.Path.{◌≡◌, refl, ap, ◌∙◌}
use mathlib.Core.List.{List, []}
use Rattle.std.specs.Prelude.{Option, None, Some}
use mathlib.Core.Bool.{Bool, true, false, ◌&&◌, ◌||◌, cond, or-false}
use lib.ListN.{length, replicate}
use lib.Dec.{ltb, eqb, eqb-suc-suc}
use borrow.Author.Tests.{ne_eqb}
use Rattle.node.specs.Silence.{silence_of}
use Rattle.node.specs.declared.silence.SilenceRule.{SilenceRule}
use Rattle.node.specs.declared.silence.SilenceRule.TheVariants.{Own, AnyPort, FirstPort, EveryPort, LevelPort, AmpPort, InPort}
use Rattle.synthdef.specs.Rows.{every, any}
use Rattle.synthdef.specs.Edges.{source_at}
use Rattle.synthdef.specs.Silent.{any_from, every_from, of_port, by_rule, silent_source, by_kind}
use Rattle.synthdef.specs.Plan.{span, named_span, span_of, is_every, more, sources_from, step, summed, step_by, step_of, step_sources, silent_in, says}
use Rattle.synthdef.specs.declared.def.DefNode.{DefNode}
use Rattle.synthdef.specs.declared.def.DefEdge.{DefEdge}
use Rattle.synthdef.proofs.Rows.{table_rows}

module _ (es : List DefEdge) (i : ℕ) where
  pub length_sources : (p k : ℕ) → length (sources_from es i p k) ≤ k
  length_sources p zero = omega arith
  length_sources p (suc k) = go (source_at es i p) (length_sources (suc p) k)
    where
      go : (o : Option ℕ) → length (sources_from es i (suc p) k) ≤ k → length (more o (sources_from es i (suc p) k)) ≤ suc k
      go None h = omega arith
      go (Some j) h = omega arith

  -- f says which nodes are silent
  module _ (f : ℕ → Bool) where
    -- of port p: it is connected, and its source silent
    abbrev heard : ℕ → Bool
    heard p = silent_source f (source_at es i p)

    any_sources : (p k : ℕ) → any f (sources_from es i p k) ≡ any_from p k heard
    any_sources p zero = refl
    any_sources p (suc k) = go (source_at es i p) (any_sources (suc p) k)
      where
        go : (o : Option ℕ) → any f (sources_from es i (suc p) k) ≡ any_from (suc p) k heard
            → any f (more o (sources_from es i (suc p) k)) ≡ (silent_source f o || any_from (suc p) k heard)
        go None h = h
        go (Some j) h = ap (λ b. f j || b) h

    every_sources : (p k : ℕ) → (eqb (length (sources_from es i p k)) k && every f (sources_from es i p k)) ≡ every_from p k heard
    every_sources p zero = refl
    every_sources p (suc k) = go (source_at es i p) (length_sources (suc p) k) (every_sources (suc p) k)
      where
        swap : (a b c : Bool) → (a && (b && c)) ≡ (b && (a && c))
        swap true b c = refl
        swap false true c = refl
        swap false false c = refl

        go : (o : Option ℕ) → length (sources_from es i (suc p) k) ≤ k
            → (eqb (length (sources_from es i (suc p) k)) k && every f (sources_from es i (suc p) k)) ≡ every_from (suc p) k heard
            → (eqb (length (more o (sources_from es i (suc p) k))) (suc k) && every f (more o (sources_from es i (suc p) k))) ≡ (silent_source f o && every_from (suc p) k heard)
        go None l h = rw (ne_eqb (length (sources_from es i (suc p) k)) (suc k) (λ e. omega arith))
        go (Some j) l h =
            ap (λ b. b && (f j && every f (sources_from es i (suc p) k))) (eqb-suc-suc (length (sources_from es i (suc p) k)) k)
            ∙ swap (eqb (length (sources_from es i (suc p) k)) k) (f j) (every f (sources_from es i (suc p) k))
            ∙ ap (λ b. f j && b) h

-- what a step holds
pub step_sources_lem : (a : Bool) (l : List ℕ) → length l ≤ 8 → step_sources (step a l) ≡ l
step_sources_lem a l h = table_rows 8 l (replicate (8 - length l) 0) h

says_any : (l : List ℕ) (s : List Bool) → length l ≤ 8 → says (step false l) s ≡ any (silent_in s) l
says_any l s h = ap (any (silent_in s)) (step_sources_lem false l h)

says_sum : (k : ℕ) (l : List ℕ) (s : List Bool) → length l ≤ 8 → says (summed k (step false l)) s ≡ (ltb 0 k && (eqb (length l) k && every (silent_in s) l))
says_sum k l s h = go (ltb 0 k) (eqb (length l) k)
  where
    go : (a b : Bool) → says (cond (a && b) (step true l) (step false [])) s ≡ (a && (b && every (silent_in s) l))
    go true true = ap (every (silent_in s)) (step_sources_lem true l h)
    go true false = refl
    go false b = refl

module _ (es : List DefEdge) (n : DefNode) (i : ℕ) (few : n.ports ≤ 8) (s : List Bool) where
  abbrev sources : ℕ → ℕ → List ℕ
  sources p k = sources_from es i p k

  abbrev q : ℕ → Bool
  q p = silent_source (silent_in s) (source_at es i p)

  some_of : (p k : ℕ) → k ≤ 8 → says (step false (sources p k)) s ≡ any_from p k q
  some_of p k h =
      let l : length (sources p k) ≤ 8 = omega (arith, length_sources es i p k) in
      says_any (sources p k) s l ∙ any_sources es i (silent_in s) p k

  sum_of : (k : ℕ) → k ≤ 8 → says (summed k (step false (sources 0 k))) s ≡ (ltb 0 k && every_from 0 k q)
  sum_of k h =
      let l : length (sources 0 k) ≤ 8 = omega (arith, length_sources es i 0 k) in
      says_sum k (sources 0 k) s l ∙ ap (λ b. ltb 0 k && b) (every_sources es i (silent_in s) 0 k)

  port_of : (r : SilenceRule) → is_every r ≡ false → (p : ℕ) → says (step_by es r (named_span n.ports p) i) s ≡ of_port p n q
  port_of r e p = go (ltb p n.ports)
    where
      go : (b : Bool) → says (step_by es r (cond b (span p 1) (span 0 0)) i) s ≡ (b && q p)
      go true = rw e (some_of p 1 (omega arith) ∙ or-false (q p))
      go false = rw e

  all_ports : min n.ports 8 ≡ n.ports
  all_ports = omega arith

  step_by_lem : (r : SilenceRule) → says (step_by es r (span_of r n) i) s ≡ by_rule r n q
  step_by_lem Own = refl
  step_by_lem AnyPort = rw all_ports (some_of 0 n.ports few)
  step_by_lem FirstPort = some_of 0 1 (omega arith) ∙ or-false (q 0)
  step_by_lem EveryPort = rw all_ports (sum_of n.ports few)
  step_by_lem LevelPort = rw all_ports (port_of LevelPort refl n.level_port)
  step_by_lem AmpPort = rw all_ports (port_of AmpPort refl n.amp_port)
  step_by_lem InPort = rw all_ports (port_of InPort refl n.in_port)

  pub step_says : says (step_of es n i) s ≡ by_kind es (silent_in s) n i
  step_says = step_by_lem (silence_of n.kind)
