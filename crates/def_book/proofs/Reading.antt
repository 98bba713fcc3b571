-- The reader's tests, one after the other, and what the reader answers then.
use Prim.Native.Nat.{ℕ, ◌+◌}
use mathlib.Core.Path.{◌≡◌, ap, ◌∙◌}
use mathlib.Core.List.{List}
use mathlib.Core.Bool.{Bool, true, false, cond}
use lib.Dec.{eqb}
use lib.ListN.{length, drop, get_or}
use borrow.Author.Tests.{ne_eqb, eq-eqb}
use Rattle.synthdef.specs.Limits.{allowed}
use Rattle.synthdef.specs.declared.def.SynthDef.{SynthDef}
use Rattle.def_book.specs.Bytes.{Row}
use Rattle.def_book.specs.Body.{body_of}
use Rattle.def_book.specs.declared.body.Body.{Body}
use Rattle.def_book.specs.Rows.{is_heading, rows, size, nodes_of, edges_of}
use Rattle.def_book.specs.Read.{Read, gives, malformed, limits, def_of, read_rows, read_book}

-- the definition that is made of the walk's tables
pub built : (b : Body) (rs : List Row) (o p : ℕ) → b ≡ body_of rs → o ≡ p → ◌≡◌ {A = SynthDef} (record { nodes = b.nodes; edges = b.edges; params = b.params; output = o }) (def_of p rs)
built b rs o p e f = rw (e, f)

-- the tests
abbrev tested : List ℕ → Bool → Bool → Bool → Bool → Read
tested s a b c e =
    cond a
    (cond b
    (cond c (cond e (gives (def_of (get_or s 5 0) (rows (drop 6 s)))) (limits (length (nodes_of (rows (drop 6 s)))) (length (edges_of (rows (drop 6 s)))))) (malformed (6 + length (drop 6 s))))
    (malformed (6 + size (rows (drop 6 s)))))
    (malformed 0)

module _ (s : List ℕ) where
  abbrev taken : Bool
  taken = eqb (size (rows (drop 6 s))) (length (drop 6 s))

  abbrev many : Bool
  many = eqb (length (nodes_of (rows (drop 6 s)))) (get_or s 4 0)

  abbrev fits : Bool
  fits = allowed (def_of (get_or s 5 0) (rows (drop 6 s)))

  pub no_heading : is_heading s ≡ false → read_book s ≡ malformed 0
  unfolding read_book read_rows
  no_heading h = ap (λ a. tested s a taken many fits) h

  module _ (h : is_heading s ≡ true) where
    pub not_taken : (size (rows (drop 6 s)) ≡ length (drop 6 s) → ⊥) → read_book s ≡ malformed (6 + size (rows (drop 6 s)))
    unfolding read_book read_rows
    not_taken n = ap (λ a. tested s a taken many fits) h ∙ ap (λ b. tested s true b many fits) (ne_eqb _ _ n)

    module _ (t : size (rows (drop 6 s)) ≡ length (drop 6 s)) where
      pub not_many : (length (nodes_of (rows (drop 6 s))) ≡ get_or s 4 0 → ⊥) → read_book s ≡ malformed (6 + length (drop 6 s))
      unfolding read_book read_rows
      not_many n = ap (λ a. tested s a taken many fits) h ∙ ap (λ b. tested s true b many fits) (eq-eqb _ _ t) ∙ ap (λ c. tested s true true c fits) (ne_eqb _ _ n)

      module _ (m : length (nodes_of (rows (drop 6 s))) ≡ get_or s 4 0) where
        all_there : read_book s ≡ tested s true true true fits
        unfolding read_book read_rows
        all_there = ap (λ a. tested s a taken many fits) h ∙ ap (λ b. tested s true b many fits) (eq-eqb _ _ t) ∙ ap (λ c. tested s true true c fits) (eq-eqb _ _ m)

        pub beyond : allowed (def_of (get_or s 5 0) (rows (drop 6 s))) ≡ false → read_book s ≡ limits (length (nodes_of (rows (drop 6 s)))) (length (edges_of (rows (drop 6 s))))
        beyond f = all_there ∙ ap (tested s true true true) f

        pub given : allowed (def_of (get_or s 5 0) (rows (drop 6 s))) ≡ true → read_book s ≡ gives (def_of (get_or s 5 0) (rows (drop 6 s)))
        given f = all_there ∙ ap (tested s true true true) f
