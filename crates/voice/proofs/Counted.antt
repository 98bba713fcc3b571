-- How many rows pass, in the library's word.
use Rattle.std.proofs.Common.{◌≡◌, refl, List, ℕ, ◌+◌, Bool, true, false, cond, arith}
use Rattle.std.specs.Prelude.{count_by}
use Rattle.std.proofs.lemmas.List.Recursion.{is_count_by}
use Rattle.lists.specs.Count.{more, count}

more_is : (b : Bool) (n : ℕ) → more b n ≡ cond b (1 + n) n
more_is true n = omega arith
more_is false n = refl

pub count_is : {A : Type 0} (q : A → Bool) (l : List A) → count q l ≡ count_by q l
count_is q l = is_count_by (count q) q refl (λ x xs. more_is (q x) (count q xs)) l
