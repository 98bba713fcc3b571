-- The first node of an id that stays, and the record that it and those behind it get in its place.
use Prim.Native.Nat.{ℕ, ◌<◌}
use native.Mathlib.Omega.{arith}
use mathlib.Core.Path.{◌≡◌, refl, sym, ap, ◌∙◌}
use mathlib.Core.List.{List, [], map}
use Rattle.std.specs.Prelude.{Option, None, Some, find, position, option_map}
use mathlib.Core.Bool.{Bool, not, cond}
use lib.Dec.{eqb}
use lib.ListN.{length, take, get_or, set, length-take}
use lib.Seq.{take-set-lt, get_or-set_same, get_or-take, map-set_same}
use borrow.Author.Tests.{eqb-true}
use Rattle.lists.proofs.Member.{and_right, cond_same}
use Rattle.lists.proofs.Find.{find_in}
use Rattle.node.specs.declared.record.Node.{Node}
use Rattle.words.specs.Place.{place_of}
use Rattle.words.proofs.Place.{found_in}
use Rattle.words.proofs.FirstRow.{at_place, none_placed}
use Rattle.graph.specs.Node.{owned_by_any}
use Rattle.graph_rows.specs.Node.{node_of, nodes_in}
use Rattle.voice.specs.Voice.{id}
use Rattle.call_param.specs.Left.{is_left, replaced_left}
use Rattle.call_param.proofs.Copying.{place_set}

module _ (l c : List ℕ) (count k : ℕ) where
  abbrev q : Node → Bool
  q = is_left l (id k)

  abbrev ns : List Node
  ns = take count (nodes_in c)

  pub first_lost : position (is_left l (id k)) (take count (nodes_in c)) ≡ None → find (is_left l (id k)) (take count (nodes_in c)) ≡ None
  first_lost e = none_placed q ns e

  module _ (p : ℕ) (found : position (is_left l (id k)) (take count (nodes_in c)) ≡ Some p) where
    abbrev node : Node
    node = get_or (nodes_in c) p (node_of [])

    at : p ≡ place_of q ns
    at = (at_place q ns p found).0

    inside : p < length ns
    inside = (at_place q ns p found).1

    pub first_found : find (is_left l (id k)) (take count (nodes_in c)) ≡ Some (get_or (nodes_in c) p (node_of []))
    first_found = found_in 22 node_of q c count p (length ns) at refl inside

    its_id : k ≡ node.id.0
    its_id = sym (eqb-true node.id.0 k (and_right (not (owned_by_any l node)) (eqb node.id.0 k) (find_in q ns node first_found).1))

    below : p < count
    below = omega (arith, inside, length-take count (nodes_in c))

    read : get_or ns p (node_of []) ≡ node
    read = get_or-take count (nodes_in c) p (node_of []) below

    -- another record of the same id and owner, stored in its row
    module _ (new : Node) (same : new.id.0 ≡ node.id.0) (passes : q new ≡ q node) (put : List ℕ) (stored : nodes_in put ≡ set (nodes_in c) p new) where
      front : take count (nodes_in put) ≡ set ns p new
      front = ap (take count) stored ∙ take-set-lt count (nodes_in c) p new below

      -- it is the first still
      pub still_first : p ≡ place_of q (take count (nodes_in put))
      still_first = at ∙ sym (ap (place_of q) front ∙ place_set q (node_of []) new ns p (passes ∙ sym (ap q read)))

      -- and takes the place of those behind it
      pub all_replaced : (last : List ℕ) → take count (nodes_in last) ≡ map (λ x. cond (q x) (get_or (nodes_in put) p (node_of [])) x) (take count (nodes_in put)) → take count (nodes_in last) ≡ replaced_left l ns new
      all_replaced last copied =
          let room : p < length (nodes_in c) = omega (arith, inside, length-take count (nodes_in c)) in
          let there : get_or (nodes_in put) p (node_of []) ≡ new = ap (λ r. get_or r p (node_of [])) stored ∙ get_or-set_same (nodes_in c) p new (node_of []) room in
          let first : cond (q new) new new ≡ cond (q (get_or ns p (node_of []))) new (get_or ns p (node_of [])) =
          cond_same (q new) new ∙ sym (ap (λ b. cond b new node) (find_in q ns node first_found).1) ∙ ap (λ x. cond (q x) new x) (sym read) in
          copied
          ∙ ap (λ y. map (λ x. cond (q x) y x) (take count (nodes_in put))) there
          ∙ ap (map (λ x. cond (q x) new x)) front
          ∙ map-set_same (λ x. cond (q x) new x) ns p new (node_of []) first
          ∙ ap (λ j. map (λ x. cond (is_left l (id j) x) new x) ns) (its_id ∙ sym same)

-- the row that was looked for: its node is the one that `find` finds
module _ (l c : List ℕ) (count k : ℕ) where
  pub first_seen : (r : Option ℕ) → r ≡ position (is_left l (id k)) (take count (nodes_in c)) → option_map (λ p. get_or (nodes_in c) p (node_of [])) r ≡ find (is_left l (id k)) (take count (nodes_in c))
  first_seen None e = sym (first_lost l c count k (sym e))
  first_seen (Some p) e = sym (first_found l c count k p (sym e))
