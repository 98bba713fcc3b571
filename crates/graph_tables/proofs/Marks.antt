-- Ids looked for by a mark of their remainder.
use Prim.Native.Nat.{ℕ, zero, suc, ◌+◌, ◌%◌, ◌≤◌, ◌<◌}
use native.Mathlib.Omega.{arith}
use native.Mathlib.Decide.{ℕ_discrete}
use mathlib.Core.Path.{◌≡◌, refl, sym, ap, ◌∙◌}
use mathlib.Core.List.{List, [], ◌∷◌}
use mathlib.Core.Bool.{Bool, true, false}
use lib.Dec.{eqb}
use lib.ListN.{length, get_or, set, length-set}
use lib.Seq.{get_or-set_same, get_or-set_other}
use borrow.Author.Tests.{eq-eqb, ne_eqb}
use Rattle.std.specs.Prelude.{Option, None, find, Some, cond, is_some, ◌||◌}
use Rattle.std.specs.List.{list_any}
use Rattle.edges.specs.Wiring.{listed}
use Rattle.graph_tables.specs.Removal.{Marked}

pub listed_at : (ids : List ℕ) (i x : ℕ) → i < length ids → get_or ids i 0 ≡ x → listed ids x ≡ true
listed_at [] i x h e = absurd (omega arith)
listed_at (y ∷ ids) zero x h e = ap (λ b. is_some (cond b (Some y) (find (λ k. eqb k x) ids))) (eq-eqb y x e)
listed_at (y ∷ ids) (suc i) x h e = go (eqb y x) (listed_at ids i x (omega arith) e)
  where
    go : (b : Bool) → is_some (find (λ k. eqb k x) ids) ≡ true → is_some (cond b (Some y) (find (λ k. eqb k x) ids)) ≡ true
    go true ih = refl
    go false ih = ih

pub unlisted : (ids : List ℕ) (x : ℕ) → ((i : ℕ) → i < length ids → get_or ids i 0 ≡ x → ⊥) → listed ids x ≡ false
unlisted [] x h = refl
unlisted (y ∷ ids) x h =
    ap (λ b. is_some (cond b (Some y) (find (λ k. eqb k x) ids))) (ne_eqb y x (λ e. h zero (omega arith) e))
    ∙ unlisted ids x (λ i l e. h (suc i) (omega arith) e)

pub listed_any : (ids : List ℕ) (x : ℕ) → listed ids x ≡ list_any (λ y. eqb y x) ids
listed_any [] x = refl
listed_any (y ∷ ids) x = go (eqb y x) (listed_any ids x)
  where
    go : (b : Bool) → listed ids x ≡ list_any (λ z. eqb z x) ids → is_some (cond b (Some y) (find (λ k. eqb k x) ids)) ≡ (b || list_any (λ z. eqb z x) ids)
    go true h = refl
    go false h = h

-- the first j ids are marked
abbrev pub MarkedTo : List (Option ℕ) → List ℕ → ℕ → Type 0
MarkedTo marks ids j = (length marks ≡ 1024) × (j ≤ length ids) × ((i : ℕ) → i < j → get_or marks (get_or ids i 0 % 1024) None ≡ None → ⊥)

pub marks_more : (marks : List (Option ℕ)) (ids : List ℕ) (j : ℕ) (m : Option ℕ) → j < length ids → (m ≡ None → ⊥) → MarkedTo marks ids j → MarkedTo (set marks (get_or ids j 0 % 1024) m) ids (j + 1)
marks_more marks ids j m h some inv = (length-set marks (get_or ids j 0 % 1024) m ∙ inv.0, omega arith, λ i l. go i l (ℕ_discrete (get_or ids i 0 % 1024) (get_or ids j 0 % 1024)))
  where
    go : (i : ℕ) → i < j + 1 → Dec (get_or ids i 0 % 1024 ≡ get_or ids j 0 % 1024) → get_or (set marks (get_or ids j 0 % 1024) m) (get_or ids i 0 % 1024) None ≡ None → ⊥
    go i l (yes e) q =
        let inside : get_or ids j 0 % 1024 < length marks = omega (arith, inv.0) in
        some (sym (ap (λ k. get_or (set marks (get_or ids j 0 % 1024) m) k None) e ∙ get_or-set_same marks (get_or ids j 0 % 1024) m None inside) ∙ q)
    go i l (no o) q =
        let before : i < j = below i l o (ℕ_discrete i j) in
        inv.2 i before (sym (get_or-set_other marks (get_or ids j 0 % 1024) (get_or ids i 0 % 1024) m None o) ∙ q)
      where
        below : (i : ℕ) → i < j + 1 → (get_or ids i 0 % 1024 ≡ get_or ids j 0 % 1024 → ⊥) → Dec (i ≡ j) → i < j
        below i l o (yes q) = absurd (o (ap (λ k. get_or ids k 0 % 1024) q))
        below i l o (no q) = omega (arith, q)

pub marks_done : (marks : List (Option ℕ)) (ids : List ℕ) (j : ℕ) → length ids ≤ j → MarkedTo marks ids j → Marked marks ids
marks_done marks ids j h inv = record { long = inv.0; is = λ i l. inv.2 i (omega arith) }

-- without a mark, it is none of them
pub unmarked : (marks : List (Option ℕ)) (ids : List ℕ) (x : ℕ) → Marked marks ids → get_or marks (x % 1024) None ≡ None → listed ids x ≡ false
unmarked marks ids x m e = unlisted ids x (λ i l q. m.is i l (ap (λ k. get_or marks (k % 1024) None) q ∙ e))
