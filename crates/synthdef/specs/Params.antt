-- Parameters: of several of one name the first counts (SPEC 6.3).
use Rattle.std.specs.Prelude.{ℕ, List, Bool, Option, find, option_map}
use Rattle.node.specs.Name.{same_name}
use Rattle.node.specs.declared.name.Name.{Name}
use Rattle.synthdef.specs.declared.def.Param.{Param}

abbrev pub called : Name → Param → Bool
called name p = same_name p.name name

-- the node of the first parameter of that name, or none
abbrev pub param_node : List Param → Name → Option ℕ
param_node ps name = option_map (λ p. p.node) (find (called name) ps)
