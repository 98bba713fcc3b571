-- A loop that walks rows and stores what it makes of those that pass: what the first w new rows hold is that of the first i
-- old ones.
use Prim.Native.Nat.{ℕ, ◌+◌, ◌<◌}
use mathlib.Core.Path.{◌≡◌, sym, ap, ◌∙◌}
use mathlib.Core.List.{List, [], ◌∷◌, ◌++◌, map}
use mathlib.Core.Bool.{Bool, true, false}
use lib.ListN.{length, take, get_or, set}
use Rattle.std.specs.Prelude.{filter}
use Rattle.std.proofs.lemmas.List.{map-append, take_more_set, take_more}
use Rattle.lists.proofs.Filter.{filter_snoc_on, filter_snoc_off}

module _ {A B : Type 0} (d : A) (f : A → B) (q : A → Bool) where
  pub picked_on : (old : List A) (new : List B) (x : B) (i w : ℕ) → i < length old → w < length new → take w new ≡ map f (filter q (take i old)) → q (get_or old i d) ≡ true → x ≡ f (get_or old i d)
      → take (w + 1) (set new w x) ≡ map f (filter q (take (i + 1) old))
  picked_on old new x i w h k e p r =
      take_more_set new w x k
      ∙ ap (λ z. z ++ (x ∷ [])) e
      ∙ ap (λ y. map f (filter q (take i old)) ++ (y ∷ [])) r
      ∙ sym (map-append f (filter q (take i old)) (get_or old i d ∷ []))
      ∙ ap (map f) (sym (filter_snoc_on q (take i old) (get_or old i d) p))
      ∙ ap (λ z. map f (filter q z)) (sym (take_more old i d h))

  pub picked_off : (old : List A) (new : List B) (i w : ℕ) → i < length old → take w new ≡ map f (filter q (take i old)) → q (get_or old i d) ≡ false
      → take w new ≡ map f (filter q (take (i + 1) old))
  picked_off old new i w h e p =
      e
      ∙ ap (map f) (sym (filter_snoc_off q (take i old) (get_or old i d) p))
      ∙ ap (λ z. map f (filter q z)) (sym (take_more old i d h))
