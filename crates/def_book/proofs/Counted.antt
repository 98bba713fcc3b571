-- What the reader says of a book beyond the limits: its records' counts.
use Prim.Native.Nat.{ℕ, zero, suc, ◌+◌, ◌≤◌, min}
use native.Mathlib.Omega.{arith}
use mathlib.Core.Path.{◌≡◌, refl, sym, ap, ◌∙◌}
use mathlib.Core.List.{List, []}
use mathlib.Core.Bool.{Bool, true, false, cond}
use lib.Dec.{eqb}
use lib.ListN.{length, take, drop, get_or}
use lib.Seq.{drop_at}
use Rattle.std.proofs.lemmas.Bool.{and_left, and_right}
use Rattle.synthdef.specs.Rows.{every}
use Rattle.synthdef.specs.Tables.{node_rows}
use Rattle.synthdef.specs.Limits.{node_allowed, counts_allowed, allowed}
use Rattle.synthdef.specs.declared.def.SynthDef.{SynthDef}
use Rattle.def_book.specs.Held.{held}
use Rattle.def_book.specs.Bytes.{joined}
use Rattle.def_book.specs.Rows.{is_heading, rows, size, nodes_of, edges_of}
use Rattle.def_book.specs.Read.{Read, gives, malformed, limits, read_number, def_of, read_rows, read_book, blank_node, blank_def}
use Rattle.def_book.specs.Counts.{CountsSaid, BlankRefused}
use Rattle.def_book.proofs.Runs.{read_all}
use Rattle.def_book.proofs.Theorem.{read_wellformed}

-- the counts that a reading says, or these
counts_in : Read → ℕ × ℕ → ℕ × ℕ
counts_in (gives d) p = p
counts_in (malformed at) p = p
counts_in (limits n e) p = (n, e)

-- they are those of the rows
rows_counted : (s : List ℕ) (n e : ℕ) → read_book s ≡ limits n e → (n ≡ length (nodes_of (rows (drop 6 s)))) × (e ≡ length (edges_of (rows (drop 6 s))))
unfolding read_book read_rows counts_in
rows_counted s n e h =
    let same = go (is_heading s) (eqb (size (rows (drop 6 s))) (length (drop 6 s))) (eqb (length (nodes_of (rows (drop 6 s)))) (get_or s 4 0)) (allowed made) in
    let told : ◌≡◌ {A = ℕ × ℕ} (n, e) (length (nodes_of (rows (drop 6 s))), length (edges_of (rows (drop 6 s)))) = sym (ap (λ r. counts_in r there) h) ∙ same in
    (ap (λ p. p.0) told, ap (λ p. p.1) told)
  where
    made : SynthDef
    made = def_of (get_or s 5 0) (rows (drop 6 s))

    there : ℕ × ℕ
    there = (length (nodes_of (rows (drop 6 s))), length (edges_of (rows (drop 6 s))))

    go : (a b c d : Bool)
        → counts_in (cond a (cond b (cond c (cond d (gives made) (limits made.nodes.count made.edges.count)) (malformed (6 + length (drop 6 s)))) (malformed (6 + size (rows (drop 6 s))))) (malformed 0)) there ≡ there
    go true true true true = refl
    go true true true false = refl
    go true true false d = refl
    go true false c d = refl
    go false b c d = refl

pub counts_said : CountsSaid
counts_said s n e h =
    record {
      book = read_wellformed s (λ k. omega (arith, ap read_number (sym h) ∙ k));
      each = λ w.
          let all = read_all w.others w.rows in
          let body : drop 6 s ≡ joined w.others = ap (drop 6) w.whole ∙ drop_at w.heading (joined w.others) 6 w.first.long in
          let r = rows_counted s n e h in
          (r.0 ∙ ap (λ l. length (nodes_of (rows l))) body ∙ all.nodes, r.1 ∙ ap (λ l. length (edges_of (rows l))) body ∙ all.edges);
    }

pub blank_refused : BlankRefused
unfolding held
blank_refused zero e = refl
blank_refused (suc n) e =
    let some_node : 1 ≤ min (suc n) 24 = omega arith in
    and_right (counts_allowed (suc n) e 0) _ (and_left (every node_allowed (node_rows (blank_def (suc n) e).nodes)) _ (nameless (min (suc n) 24) some_node))
  where
    nameless : (k : ℕ) → 1 ≤ k → every node_allowed (take k (held 24 blank_node [])) ≡ false
    nameless zero h = absurd (omega arith)
    nameless (suc k) h = refl
