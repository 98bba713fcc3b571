-- A node in 22 words, and the node table that a list of words is: "a node becomes a record: kind name (up to 16 bytes), ports,
-- required ports, whether it takes values or glides, done flag, level, last order".
use Rattle.std.specs.Prelude.{ℕ, ◌≡◌, List, length, get_or, Option, option_map}
use Rattle.node.specs.declared.record.Node.{Node}
use Rattle.words.specs.Rows.{rows}
use Rattle.words.specs.Fields.{is_set, float_from, long_at, name_at, last_at}
use Rattle.graph_rows.specs.declared.node_row.Brief.{Brief}

-- id, owner, kind, ports, required ports, three flags, level, last order, noise sequence
unfoldable pub node_of : List ℕ → Node
node_of ws =
    record {
      id = record { 0 = get_or ws 0 0 };
      owner = record { 0 = long_at ws 1 };
      kind = name_at ws 3;
      ports = get_or ws 8 0;
      required = long_at ws 9;
      takes_values = is_set (get_or ws 11 0);
      takes_glides = is_set (get_or ws 12 0);
      done = is_set (get_or ws 13 0);
      level = float_from (get_or ws 14 0);
      last = last_at ws 15;
      noise = get_or ws 21 0;
    }

-- the nodes that the words have room for
abbrev pub nodes_in : List ℕ → List Node
nodes_in c = rows 22 node_of c

-- words that stand for a node
pub record Stands (n : Node) (ws : List ℕ) : Type 0 where
  pub long : length ws ≡ 22
  pub back : node_of ws ≡ n

-- what wiring and the spawns read of a node
abbrev pub brief : Node → Brief
brief n = record { owner = n.owner; ports = n.ports }

-- the same of a node that was looked for, if it lives
abbrev pub brief_of : Option Node → Option Brief
brief_of = option_map brief
