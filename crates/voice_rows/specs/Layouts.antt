-- A parameter and a step are read from their own words alone: each impl of `Layout` has to show this. Nothing here has to be believed.
use Rattle.std.specs.Prelude.{ℕ, ◌+◌, ◌/◌, ◌%◌, ◌<◌, ◌≡◌, List, ◌++◌, get_or}
use Rattle.std.proofs.Common.{sym, ap, ◌∙◌, add-zero, arith}
use Rattle.node.specs.declared.name.Name.{Name}
use Rattle.synthdef.specs.declared.def.Param.{Param}
use Rattle.synthdef.specs.declared.plan.DoneStep.{DoneStep}
use Rattle.words.specs.Fields.{is_set, four, name_from, name_at}
use Rattle.voice_rows.specs.Rows.{param_at, step_at}
use Rattle.voice_rows.specs.Filled.{Local}

param : Name → ℕ → Param
param n k = record { name = n; node = k }

pub param_same : (p q : Param) → p.name ≡ q.name → p.node ≡ q.node → p ≡ q
unfolding param
param_same p q a b = let same : param p.name p.node ≡ param q.name q.node = cc in same

-- ---- a name is read from five words, a parameter from six, a step from three
name_of : ℕ → ℕ → ℕ → ℕ → ℕ → Name
name_of a b c d e = name_from a b c d e

step_from : ℕ → ℕ → ℕ → DoneStep
step_from a b r = record { all = is_set (r / 256); count = r % 256; sources = four a ++ four b }

module _ (w : ℕ) (c e : List ℕ) (a b : ℕ) (h : (j : ℕ) → j < w → get_or c (a + j) 0 ≡ get_or e (b + j) 0) where
  pub first : 0 < w → get_or c a 0 ≡ get_or e b 0
  first pos = ap (λ k. get_or c k 0) (sym (add-zero a)) ∙ h 0 pos ∙ ap (λ k. get_or e k 0) (add-zero b)

pub name_local : Local 5 name_at
unfolding name_of
name_local c e a b h =
    let e0 : get_or c a 0 ≡ get_or e b 0 = first 5 c e a b h (omega arith) in
    let e1 : get_or c (a + 1) 0 ≡ get_or e (b + 1) 0 = h 1 (omega arith) in
    let e2 : get_or c (a + 2) 0 ≡ get_or e (b + 2) 0 = h 2 (omega arith) in
    let e3 : get_or c (a + 3) 0 ≡ get_or e (b + 3) 0 = h 3 (omega arith) in
    let e4 : get_or c (a + 4) 0 ≡ get_or e (b + 4) 0 = h 4 (omega arith) in
    let same : name_of (get_or c a 0) (get_or c (a + 1) 0) (get_or c (a + 2) 0) (get_or c (a + 3) 0) (get_or c (a + 4) 0)
    ≡ name_of (get_or e b 0) (get_or e (b + 1) 0) (get_or e (b + 2) 0) (get_or e (b + 3) 0) (get_or e (b + 4) 0) = cc in
    same

pub param_local : Local 6 param_at
param_local c e a b h =
    let name : name_at c a ≡ name_at e b = name_local c e a b (λ j l. h j (omega arith)) in
    let last : get_or c (a + 5) 0 ≡ get_or e (b + 5) 0 = h 5 (omega arith) in
    param_same (param_at c a) (param_at e b) name (ap (λ x. x % 256) last)

pub step_local : Local 3 step_at
unfolding step_from
step_local c e a b h =
    let e0 : get_or c a 0 ≡ get_or e b 0 = first 3 c e a b h (omega arith) in
    let e1 : get_or c (a + 1) 0 ≡ get_or e (b + 1) 0 = h 1 (omega arith) in
    let e2 : get_or c (a + 2) 0 ≡ get_or e (b + 2) 0 = h 2 (omega arith) in
    let same : step_from (get_or c a 0) (get_or c (a + 1) 0) (get_or c (a + 2) 0) ≡ step_from (get_or e b 0) (get_or e (b + 1) 0) (get_or e (b + 2) 0) = cc in
    same
