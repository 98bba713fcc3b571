-- An array that is made by its places is a list that has at each place what the call there gave.
use Rattle.std.proofs.Common.{ℕ, zero, suc, ◌+◌, List, ◌≡◌, ◌≤◌, ◌<◌, ◌∙◌, Bool, true, false, refl, sym, subst, length, get_or, arith}
use Rattle.std.specs.Array.{IsFromFnResultFrom, IsFromFnResult}
use Rattle.std.specs.Fn.{Called}
use Rattle.std.proofs.lemmas.List.{same_lists, get_or_default}
use denote.Param.Members.{Mut}
use lib.Dec.{ltb}
use borrow.Author.Tests.{ltb-true, ltb-false}

-- `all` has row k, `e` past its end; each of the n calls gives the row of its place, and leaves the closure as it is
module _ {A F : Type 0} (g : Mut F (ℕ × Unit {0}) A) (f : F) (made all : List A) (e : A) (top : ℕ)
    (row : (i : ℕ) (x : A) (q : F) → i < top → Called g f (i, tt) x q → (q ≡ f) × (x ≡ get_or all i e)) where
  from : (n i : ℕ) → i + n ≤ top → IsFromFnResultFrom g f made i n → (k : ℕ) (d : A) → i ≤ k → k < i + n → get_or made k d ≡ get_or all k e
  from zero i m h k d a b = absurd (omega arith)
  from (suc n) i m h k d a b =
      let told = row i h.1 h.0 (omega arith) h.3 in
      let rest : IsFromFnResultFrom g f made (i + 1) n = subst (λ z. IsFromFnResultFrom g z made (i + 1) n) told.0 h.4 in
      go (ltb i k) refl (h.2.1 d ∙ told.1) (λ lo hi. from n (i + 1) (omega arith) rest k d lo hi)
    where
      go : (t : Bool) → ltb i k ≡ t → get_or made i d ≡ get_or all i e → (i + 1 ≤ k → k < i + 1 + n → get_or made k d ≡ get_or all k e) → get_or made k d ≡ get_or all k e
      go true t here later = later (omega (arith, ltb-true i k t)) (omega (arith, b))
      go false t here later = let same : k ≡ i = omega (arith, a, ltb-false i k t) in rw same here

  pub made_is : length all ≡ top → IsFromFnResult g f made top → made ≡ all
  made_is wide items =
      let long : length made ≡ length all = items.long ∙ sym wide in
      same_lists made all long (λ k d h. from top 0 (omega arith) items.each k d (omega arith) (omega (arith, h, items.long)) ∙ get_or_default all k e d (omega (arith, h, long)))
