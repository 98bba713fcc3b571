-- A row kept only if it passes, and rows of which each that passes is the first; the first that passes is the library's `find`.
use Rattle.std.specs.Prelude.{◌≡◌, List, Bool, true, cond, Option, None, Some, find}
use Rattle.lists.specs.Member.{In}

abbrev pub filter_o : {A : Type 0} → (A → Bool) → Option A → Option A
filter_o t None = None
filter_o t (Some x) = cond (t x) (Some x) None

-- each row that passes is the first that passes
abbrev pub Once : {A : Type 0} → (A → Bool) → List A → Type 0
Once {A} q l = (x : A) → In x l → q x ≡ true → find q l ≡ Some x
