-- What is left of a list where some rows go, and the first row of which something is true: words of the laws, which
-- look into no test.
use Rattle.std.specs.Prelude.{◌≡◌, List, [], ◌∷◌, ◌++◌}
use Rattle.lists.specs.Member.{In}

-- the rows of which Gone is true go, the others stay as they are, in their order
pub data Without {A : Type 0} (Gone : A → Type 0) : List A → List A → Type 0 where
  nothing : Without Gone [] []
  goes : {x : A} {l k : List A} → Gone x → Without Gone l k → Without Gone (x ∷ l) k
  stays : {x : A} {l k : List A} → (Gone x → ⊥) → Without Gone l k → Without Gone (x ∷ l) (x ∷ k)

-- x is the first row of the list of which Right is true
pub record First {A : Type 0} (Right : A → Type 0) (l : List A) (x : A) : Type 0 where
  pub before : List A
  pub behind : List A
  pub splits : l ≡ before ++ (x ∷ behind)
  pub right : Right x
  pub none : (y : A) → In y before → Right y → ⊥

-- no row is one of which Right is true
abbrev pub No : {A : Type 0} → (A → Type 0) → List A → Type 0
No {A} Right l = (x : A) → In x l → Right x → ⊥
