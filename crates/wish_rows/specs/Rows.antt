-- A wish in 243 words, and the wishes that a list of words is: "a definition that waits is held once, whole". Any words stand for some
-- wish. The first 11 words are whether the spawn is managed, bus, pan, rank, the definition's output, and how many nodes 2, edges 2 and
-- parameters 2 it has. Then come its 24 nodes of 6 words, 48 edges of one word and 8 parameters of 5 words.
use Rattle.std.specs.Prelude.{ℕ, ◌+◌, ◌*◌, ◌/◌, ◌%◌, ◌≡◌, true, List, length, take, get_or}
use Rattle.synthdef.specs.declared.def.DefNode.{DefNode}
use Rattle.synthdef.specs.declared.def.DefEdge.{DefEdge}
use Rattle.synthdef.specs.declared.def.Param.{Param}
use Rattle.words.specs.Fields.{is_set, float_from, long_at, name_at}
use Rattle.words.specs.Rows.{rows}
use Rattle.voice_rows.specs.Rows.{each, node, param_by}
use Rattle.store.specs.declared.wish.Wish.{Wish}

-- a node of a definition in six words: its kind's bytes; its kind's length, ports, required ports and whether it takes values, a byte
-- each; its ports `in`, `level` and `amp` and whether it takes glides, a byte each
abbrev pub def_node_at : List ℕ → ℕ → DefNode
def_node_at ws k =
    record {
      kind = name_at ws k;
      ports = get_or ws (k + 4) 0 / 256 % 256;
      required = get_or ws (k + 4) 0 / 65536 % 256;
      takes_values = is_set (get_or ws (k + 4) 0 / 16777216 % 256);
      takes_glides = is_set (get_or ws (k + 5) 0 / 16777216 % 256);
      in_port = get_or ws (k + 5) 0 % 256;
      level_port = get_or ws (k + 5) 0 / 256 % 256;
      amp_port = get_or ws (k + 5) 0 / 65536 % 256;
    }

-- an edge in one word: its two nodes and the port, a byte each
abbrev pub def_edge_at : List ℕ → ℕ → DefEdge
def_edge_at ws k = record { from = get_or ws k 0 % 256; to = get_or ws k 0 / 256 % 256; port = get_or ws k 0 / 65536 % 256 }

-- a parameter in five words: its name's bytes; its name's length and its node, a byte each
abbrev pub param_at : List ℕ → ℕ → Param
param_at = param_by true

abbrev pub nodes_in : List ℕ → List DefNode
nodes_in ws = each (λ k. def_node_at ws (11 + k * 6)) 0 24

abbrev pub edges_in : List ℕ → List DefEdge
edges_in ws = each (λ k. def_edge_at ws (155 + k)) 0 48

abbrev pub params_in : List ℕ → List Param
params_in ws = each (λ k. param_at ws (203 + k * 5)) 0 8

-- the wish of the first words, with these rows
unfoldable pub headed : List ℕ → List DefNode → List DefEdge → List Param → Wish
headed ws ns es ps =
    record {
      managed = is_set (get_or ws 0 0);
      def =
          record {
            nodes = record { rows = ns; count = long_at ws 5 };
            edges = record { rows = es; count = long_at ws 7 };
            params = record { rows = ps; count = long_at ws 9 };
            output = get_or ws 4 0 % 256;
          };
      bus = node (get_or ws 1 0);
      pan = float_from (get_or ws 2 0);
      rank = get_or ws 3 0;
    }

unfoldable pub wish_of : List ℕ → Wish
wish_of ws = headed (take 11 ws) (nodes_in ws) (edges_in ws) (params_in ws)

-- the wishes that the words have room for
abbrev pub wishes_in : List ℕ → List Wish
wishes_in c = rows 243 wish_of c

-- words that stand for the first part of a wish, and for all of it
pub record Heads (w : Wish) (ws : List ℕ) : Type 0 where
  pub long : length ws ≡ 11
  pub back : headed ws w.def.nodes.rows w.def.edges.rows w.def.params.rows ≡ w

pub record Stands (w : Wish) (ws : List ℕ) : Type 0 where
  pub long : length ws ≡ 243
  pub back : wish_of ws ≡ w
