-- `put` of a node meets its contract.
use Prim.Native.Nat.{ℕ}
use mathlib.Core.Path.{ap}
use mathlib.Core.List.{List, [], ◌∷◌, ◌++◌}
use Rattle.node.specs.Name.{text}
use Rattle.synthdef.specs.declared.def.DefNode.{DefNode}
use Rattle.def_book.specs.Held.{held}
use Rattle.def_book.proofs.Puts.{same_text}
use Rattle.book_bytes.proofs.put.DefNodeRecord.put.Goals as goal

-- the bytes of a node's record whose sorts are that number
abbrev bytes : DefNode → ℕ → List ℕ
bytes n sorts = ((27 ∷ 0 ∷ 2 ∷ 0 ∷ n.kind.len ∷ []) ++ held 16 0 (text n.kind)) ++ (n.ports ∷ n.required ∷ sorts ∷ n.in_port ∷ n.level_port ∷ n.amp_port ∷ [])

pub returns : goal.returns
returns c = same_text (ap (bytes c.args.self.now) c.sorts_of.ensures) c.put_named.ensures
