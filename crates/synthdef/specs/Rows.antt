-- Whether every row, or some row, passes a test.
use Rattle.std.specs.Prelude.{List, Bool}
use Rattle.std.specs.List.{list_all, list_any}

abbrev pub every : {A : Type 0} → (A → Bool) → List A → Bool
every q l = list_all q l

abbrev pub any : {A : Type 0} → (A → Bool) → List A → Bool
any q l = list_any q l
