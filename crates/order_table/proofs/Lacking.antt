-- Whether one of the rows lacks a port, from row i on: what `any` over their numbers says, said of the rows.
use Rattle.std.proofs.Common.{ℕ, zero, suc, ◌+◌, ◌≤◌, ◌<◌, ◌≡◌, List, [], Bool, ◌||◌, length, take, drop, get_or, sym, ap, ◌∙◌, arith}
use Rattle.std.specs.List.{list_any, range_with_len}
use Rattle.rank.proofs.Laws.{no_row}
use Rattle.lists.proofs.Table.{left_row}
use Rattle.node.specs.declared.record.Node.{Node}
use Rattle.prepare.specs.Parts.{rows_lack}
use Rattle.prepare.proofs.Ports.{rows_next}
use Rattle.graph_rows.specs.Node.{node_of, nodes_in}
use Rattle.order_table.specs.Masks.{ports_in, mask_lacks}
use Rattle.order_table.proofs.Masks.{mask_lacks_lem}

module _ (masks ns : List ℕ) (n : ℕ) (few : n ≤ length masks) (top : n ≤ length (nodes_in ns)) where
  abbrev row : ℕ → Node
  row i = get_or (nodes_in ns) i (node_of [])

  abbrev pub lacks : ℕ → Bool
  lacks i = mask_lacks (get_or masks i 0) (row i).ports (row i).required

  pub lacks_from : (m i : ℕ) → i + m ≡ n → list_any lacks (range_with_len i m) ≡ rows_lack (ports_in masks) (drop i (take n (nodes_in ns))) i
  unfolding rows_lack
  lacks_from zero i h = sym (ap (λ z. rows_lack (ports_in masks) z i) (no_row (nodes_in ns) n i (omega (arith, h))))
  lacks_from (suc m) i h =
      let low : i < n = omega (arith, h) in
      let room : i < length masks = omega (arith, low, few) in
      ap (λ b. lacks i || b) (lacks_from m (i + 1) (omega (arith, h)))
      ∙ sym (rows_next (ports_in masks) (take n (nodes_in ns)) i (row i) (lacks i) (left_row (node_of []) (nodes_in ns) n i low top) (mask_lacks_lem masks i (row i).ports (row i).required room))
