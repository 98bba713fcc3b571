-- Looking for a parameter by its name, in the words of a voice's row.
use Prim.Native.Nat.{ℕ, zero, suc, ◌+◌, ◌*◌, ◌≤◌, ◌<◌, min}
use native.Mathlib.Omega.{arith}
use mathlib.Core.Path.{◌≡◌, refl, sym, ap, subst, ◌∙◌}
use mathlib.Core.List.{List, []}
use Rattle.std.specs.Prelude.{Option, MatchOption, find, option_map, Some, None}
use mathlib.Core.Bool.{true, false}
use lib.ListN.{length, take, drop, get_or}
use Rattle.lists.proofs.Table.{find_hit, find_next, find_over}
use Rattle.node.specs.declared.name.Name.{Name}
use Rattle.words.specs.Fields.{long_at}
use Rattle.words.specs.Rows.{row_at}
use Rattle.synthdef.specs.declared.def.Param.{Param}
use Rattle.synthdef.specs.Tables.{param_rows}
use Rattle.synthdef.specs.Params.{called, param_node}
use Rattle.voice_rows.specs.Rows.{param_at, params_in, voice_of, voices_in}
use Rattle.voice_rows.proofs.Filling.{each_long, each_at}
use Rattle.voice_rows.proofs.Reading.{voice_row}

module _ (c : List ℕ) (i : ℕ) (name : Name) (n : ℕ) where
  abbrev row : List ℕ
  row = row_at 143 i c

  abbrev params : List Param
  params = params_in row

  abbrev param : ℕ → Param
  param k = param_at row (23 + k * 6)

  -- what is found from the parameter k on is what is found at all
  abbrev Naming : ℕ → Type 0
  Naming k = (k ≤ n) × (find (called name) (drop k (take n params)) ≡ find (called name) (take n params))

  module _ (e : n ≡ min (long_at row 19) 8) where
    fits : n ≤ length params
    fits = omega (arith, each_long param 0 8)

    -- the answer, from what is found
    abbrev answer : Option Param → Option ℕ
    answer o = option_map (λ p. p.node) o

    asked : answer (find (called name) (take n params)) ≡ param_node (param_rows (get_or (voices_in c) i (voice_of [])).params) name
    asked =
        let v = voice_row c i in
        ap (λ k. answer (find (called name) (take k params))) (e ∙ ap (λ x. min x 8) v.held)
        ∙ ap (λ l. answer (find (called name) (take (min (get_or (voices_in c) i (voice_of [])).params.count 8) l))) v.rows

    module _ (k : ℕ) (h : k < n) (inv : Naming k) where
      at : get_or params k (param 0) ≡ param k
      at = each_at param 8 k (param 0) (omega arith)

      naming_hit : called name (param k) ≡ true → Some (param k).node ≡ param_node (param_rows (get_or (voices_in c) i (voice_of [])).params) name
      naming_hit t =
          ap (λ (p : Param). Some p.node) (sym at)
          ∙ ap answer (sym (find_hit (param 0) (called name) params n k h fits (ap (called name) at ∙ t)) ∙ inv.1)
          ∙ asked

      naming_next : called name (param k) ≡ false → Naming (k + 1)
      naming_next t = (omega arith, find_next (param 0) (called name) params n k h fits (ap (called name) at ∙ t) ∙ inv.1)

    naming_none : Naming n → None ≡ param_node (param_rows (get_or (voices_in c) i (voice_of [])).params) name
    naming_none inv = ap answer (sym (find_over (called name) params n n refl fits) ∙ inv.1) ∙ asked

    passed : (k : ℕ) → k ≤ n → ((j : ℕ) → j < k → called name (param j) ≡ false) → Naming k
    passed zero h none = (omega arith, refl)
    passed (suc k) h none =
        let one : k + 1 ≡ suc k = omega arith in
        subst Naming one (naming_next k (omega arith) (passed k (omega arith) (λ j l. none j (omega arith))) (none k (omega arith)))

    -- what a search over the numbers of the parameters gives
    pub named_first : (r : Option ℕ) → MatchOption r ((j : ℕ) → 0 ≤ j → j < n → called name (param j) ≡ false) (λ k. (0 ≤ k) × (k < n) × (called name (param k) ≡ true) × ((j : ℕ) → 0 ≤ j → j < k → called name (param j) ≡ false))
        → option_map (λ k. (param k).node) r ≡ param_node (param_rows (get_or (voices_in c) i (voice_of [])).params) name
    named_first None h = naming_none (passed n (omega arith) (λ j l. h j (omega arith) l))
    named_first (Some k) h = naming_hit k h.1 (passed k (omega (arith, h.1)) (λ j l. h.3 j (omega arith) l)) h.2
