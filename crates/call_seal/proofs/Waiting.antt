-- Whether a wish waits, asked of one keyboard after the other.
use Prim.Native.Nat.{ℕ, zero, suc, ◌+◌, ◌≤◌, ◌<◌}
use native.Mathlib.Omega.{arith}
use native.Mathlib.Numerals.{add-one}
use mathlib.Core.Path.{◌≡◌, refl, sym, ap, ap₂, ◌∙◌}
use mathlib.Core.Bool.{◌&&◌}
use mathlib.Core.List.{List, [], ◌∷◌}
use lib.Dec.{eqb}
use borrow.Author.Tests.{ne_eqb}
use lib.ListN.{length, drop, get_or, drop_of_length-le}
use lib.Seq.{drop-cons}
use Rattle.std.specs.List.{list_all, range_with_len}
use Rattle.store.specs.declared.wish.Wish.{Wish}
use Rattle.sealed.specs.Board.{none_at, none_waits}

none_counted : (l : List Wish) → eqb (length l) 0 ≡ none_at l
none_counted [] = refl
none_counted (w ∷ l) = ne_eqb (length (w ∷ l)) 0 (λ e. omega (arith, e))

-- at the m keyboards from q on
pub none_from : (ls : List (List Wish)) (m q : ℕ) → q + m ≡ length ls → list_all (λ k. eqb (length (get_or ls k [])) 0) (range_with_len q m) ≡ none_waits (drop q ls)
none_from ls zero q h =
    let past : length ls ≤ q = omega (arith, h) in
    sym (ap none_waits (drop_of_length-le ls past))
none_from ls (suc m) q h =
    let below : q < length ls = omega (arith, h) in
    ap₂ ◌&&◌ (none_counted (get_or ls q [])) (none_from ls m (q + 1) (omega (arith, h))) ∙ sym (ap none_waits (drop-cons ls q [] below ∙ ap (λ n. get_or ls q [] ∷ drop n ls) (sym (add-one q))))
