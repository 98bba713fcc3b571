-- Connecting in a full table: no edge stood at the port, so none was dropped.
use Prim.Native.Nat.{◌≤◌}
use mathlib.Core.Path.{◌≡◌, refl, sym, ◌∙◌}
use mathlib.Core.List.{List}
use mathlib.Core.Bool.{Bool, true, false}
use lib.Dec.{leb, ltb}
use lib.ListN.{length}
use borrow.Author.Tests.{not-true, le-leb, ltb-true, ltb-false}
use Rattle.lists.proofs.Member.{and_right}
use Rattle.node.specs.declared.record.Edge.{Edge}
use Rattle.edges.specs.Wiring.{taken, no_place, drop_at, put, pushed}
use Rattle.edges.proofs.Loops.{pushed_off}
use Rattle.edges.proofs.Wiring.{drop_none, place_left, put_room, put_full}

pub all_left : (es : List Edge) (e : Edge) → length es ≤ 1024 → 1024 ≤ length (drop_at es e.to e.port) → drop_at es e.to e.port ≡ put es e
all_left es e small full =
    let none : no_place es e.to e.port ≡ true = sym (place_left es e.to e.port small) ∙ le-leb _ _ full in
    let free : taken es e.to e.port ≡ false = not-true _ (and_right (leb 1024 (length es)) _ none) in
    drop_none es e.to e.port free ∙ put_full es (drop_at es e.to e.port) e small refl full

-- so an edge appended to those that are left is the edge put
pub pushed_put : (es : List Edge) (e : Edge) → length es ≤ 1024 → pushed 1024 (drop_at es e.to e.port) e ≡ put es e
pushed_put es e small = go (ltb (length left) 1024) refl
  where
    left : List Edge
    left = drop_at es e.to e.port

    go : (b : Bool) → ltb (length left) 1024 ≡ b → pushed 1024 left e ≡ put es e
    go true h = put_room es left e small refl (ltb-true (length left) 1024 h)
    go false h = let full : 1024 ≤ length left = ltb-false (length left) 1024 h in pushed_off 1024 left e full ∙ all_left es e small full
