-- The definitions, computed on books whose bytes stand here as a builder would write them. Each row names the wrong reader that it refuses.
use Prim.Native.Nat.{ℕ}
use mathlib.Core.Bool.{true}
use mathlib.Core.Path.{◌≡◌, refl}
use mathlib.Core.List.{List, [], ◌∷◌, ◌++◌, map}
use lib.ListN.{take, replicate}
use Rattle.rank.specs.Order.{among, fed, released, walk, order, whole, count_up}
use Rattle.synthdef.specs.declared.def.DefNode.{DefNode}
use Rattle.synthdef.specs.declared.def.SynthDef.{SynthDef}
use Rattle.def_book.specs.Held.{held}
use Rattle.def_book.specs.Bytes.{joined, book_of}
use Rattle.def_book.specs.Rows.{row_at, rows_after, size, gather}
use Rattle.def_book.specs.Read.{Read, gives, malformed, limits, read_rows, read_book, def_in, canonical}
use Rattle.def_book.specs.Write.{length_of, refused, write_answer, write_book}

unfoldable pub heading : ℕ → ℕ → List ℕ
heading count output = 6 ∷ 0 ∷ 1 ∷ 0 ∷ count ∷ output ∷ []

unfoldable pub edge : ℕ → ℕ → ℕ → List ℕ
edge source target port = 7 ∷ 0 ∷ 3 ∷ 0 ∷ source ∷ target ∷ port ∷ []

-- a node `Tone` but for its ports, required ports, sorts and port `in`, and with x at the last byte of its name
unfoldable pub node : ℕ → ℕ → ℕ → ℕ → ℕ → List ℕ
node x ports required sorts in_port =
    27 ∷ 0 ∷ 2 ∷ 0 ∷ 4 ∷ 84 ∷ 111 ∷ 110 ∷ 101 ∷ 0 ∷ 0 ∷ 0 ∷ 0 ∷ 0 ∷ 0 ∷ 0 ∷ 0 ∷ 0 ∷ 0 ∷ 0 ∷ x ∷ ports ∷ required ∷ sorts ∷ in_port ∷ 255 ∷ 255 ∷ []

unfoldable pub tone : List ℕ
tone = node 0 2 0 3 0

-- a parameter whose name says that it has n bytes, and has one
unfoldable pub param : ℕ → ℕ → List ℕ
param n node-number = 22 ∷ 0 ∷ 4 ∷ 0 ∷ n ∷ 97 ∷ 0 ∷ 0 ∷ 0 ∷ 0 ∷ 0 ∷ 0 ∷ 0 ∷ 0 ∷ 0 ∷ 0 ∷ 0 ∷ 0 ∷ 0 ∷ 0 ∷ 0 ∷ node-number ∷ []

-- the number of the answer; behind it the position, or the counts, where it has them
unfoldable pub said : Read → List ℕ
said (gives d) = 0 ∷ []
said (malformed at) = 18 ∷ at ∷ []
said (limits nodes edges) = 9 ∷ nodes ∷ edges ∷ []

pub record Case : Type 0 where
  pub book : List ℕ
  pub says : List ℕ

unfoldable pub case : List ℕ → List ℕ → Case
case b a = record { book = b; says = a }

unfoldable pub cases : List Case
cases =
    -- accepted: one node; rows of different sorts interleaved
    case (heading 1 0 ++ tone) (0 ∷ [])
    ∷ case (heading 2 1 ++ (edge 0 1 0 ++ (tone ++ (param 1 1 ++ (tone ++ edge 0 1 1))))) (0 ∷ [])
    -- an empty book; a book without a heading; the heading second; a second heading
    ∷ case [] (18 ∷ 0 ∷ [])
    ∷ case tone (18 ∷ 0 ∷ [])
    ∷ case (tone ++ heading 1 0) (18 ∷ 0 ∷ [])
    ∷ case (heading 1 0 ++ (tone ++ heading 1 0)) (18 ∷ 33 ∷ [])
    -- a byte behind the last record; four of them; a record that the book ends in; a heading that it ends in
    ∷ case (heading 1 0 ++ (tone ++ (0 ∷ []))) (18 ∷ 33 ∷ [])
    ∷ case (heading 1 0 ++ (tone ++ (0 ∷ 0 ∷ 0 ∷ 0 ∷ []))) (18 ∷ 33 ∷ [])
    ∷ case (heading 1 0 ++ take 26 tone) (18 ∷ 6 ∷ [])
    ∷ case (take 5 (heading 1 0)) (18 ∷ 0 ∷ [])
    -- the length of the payload alone; big-endian; the high byte of the length, and of the kind, set
    ∷ case (2 ∷ 0 ∷ 1 ∷ 0 ∷ 0 ∷ 0 ∷ []) (18 ∷ 0 ∷ [])
    ∷ case (0 ∷ 6 ∷ 0 ∷ 1 ∷ 0 ∷ 0 ∷ []) (18 ∷ 0 ∷ [])
    ∷ case (6 ∷ 1 ∷ 1 ∷ 0 ∷ 0 ∷ 0 ∷ []) (18 ∷ 0 ∷ [])
    ∷ case (6 ∷ 0 ∷ 1 ∷ 1 ∷ 0 ∷ 0 ∷ []) (18 ∷ 0 ∷ [])
    -- an unknown kind; an edge with the length of a node
    ∷ case (heading 1 0 ++ (tone ++ (7 ∷ 0 ∷ 5 ∷ 0 ∷ 0 ∷ 0 ∷ 0 ∷ []))) (18 ∷ 33 ∷ [])
    ∷ case (heading 1 0 ++ (tone ++ (27 ∷ 0 ∷ 3 ∷ 0 ∷ replicate 23 0))) (18 ∷ 33 ∷ [])
    -- sorts of 4; the last unused byte of a name set; name lengths 0, 17 and 255
    ∷ case (heading 1 0 ++ node 0 2 0 4 0) (18 ∷ 6 ∷ [])
    ∷ case (heading 1 0 ++ node 1 2 0 3 0) (18 ∷ 6 ∷ [])
    ∷ case (heading 1 0 ++ (tone ++ param 0 0)) (18 ∷ 33 ∷ [])
    ∷ case (heading 1 0 ++ (tone ++ param 17 0)) (18 ∷ 33 ∷ [])
    ∷ case (heading 1 0 ++ (tone ++ param 255 0)) (18 ∷ 33 ∷ [])
    -- fewer nodes than the heading says, and more
    ∷ case (heading 2 0 ++ tone) (18 ∷ 33 ∷ [])
    ∷ case (heading 1 0 ++ (tone ++ tone)) (18 ∷ 60 ∷ [])
    -- beyond the limits: no node; an output that is no node; 9 ports; a required port, a port by name, an edge's port that the node has
    -- not; a parameter of a node that there is not; a cycle
    ∷ case (heading 0 0) (9 ∷ 0 ∷ 0 ∷ [])
    ∷ case (heading 1 1 ++ tone) (9 ∷ 1 ∷ 0 ∷ [])
    ∷ case (heading 1 0 ++ node 0 9 0 3 0) (9 ∷ 1 ∷ 0 ∷ [])
    ∷ case (heading 1 0 ++ node 0 2 4 3 0) (9 ∷ 1 ∷ 0 ∷ [])
    ∷ case (heading 1 0 ++ node 0 2 0 3 2) (9 ∷ 1 ∷ 0 ∷ [])
    ∷ case (heading 2 0 ++ (tone ++ (tone ++ edge 0 1 2))) (9 ∷ 2 ∷ 1 ∷ [])
    ∷ case (heading 1 0 ++ (tone ++ param 1 1)) (9 ∷ 1 ∷ 0 ∷ [])
    ∷ case (heading 1 0 ++ (tone ++ edge 0 0 0)) (9 ∷ 1 ∷ 1 ∷ [])
    -- 18 before 9: an output that is no node, and behind it a record of no kind; and with a node too few
    ∷ case (heading 1 1 ++ (tone ++ (7 ∷ 0 ∷ 5 ∷ 0 ∷ 0 ∷ 0 ∷ 0 ∷ []))) (18 ∷ 33 ∷ [])
    ∷ case (heading 2 9 ++ tone) (18 ∷ 33 ∷ [])
    -- 24 nodes; 25 announced and given; 24 announced and 25 given
    ∷ case (heading 24 23 ++ joined (replicate 24 tone)) (0 ∷ [])
    ∷ case (heading 25 0 ++ joined (replicate 25 tone)) (9 ∷ 25 ∷ 0 ∷ [])
    ∷ case (heading 24 0 ++ joined (replicate 25 tone)) (18 ∷ 681 ∷ [])
    -- 48 edges; 49; a record of no kind behind the 49th edge. 8 parameters; 9
    ∷ case (heading 2 0 ++ (tone ++ (tone ++ joined (replicate 48 (edge 0 1 0))))) (0 ∷ [])
    ∷ case (heading 2 0 ++ (tone ++ (tone ++ joined (replicate 49 (edge 0 1 0))))) (9 ∷ 2 ∷ 49 ∷ [])
    ∷ case (heading 24 0 ++ (joined (replicate 24 tone) ++ joined (replicate 49 (edge 0 1 0)))) (9 ∷ 24 ∷ 49 ∷ [])
    ∷ case (heading 2 0 ++ (tone ++ (tone ++ (joined (replicate 49 (edge 0 1 0)) ++ (7 ∷ 0 ∷ 5 ∷ 0 ∷ 0 ∷ 0 ∷ 0 ∷ []))))) (18 ∷ 403 ∷ [])
    ∷ case (heading 1 0 ++ (tone ++ joined (replicate 8 (param 1 0)))) (0 ∷ [])
    ∷ case (heading 1 0 ++ (tone ++ joined (replicate 9 (param 1 0)))) (9 ∷ 1 ∷ 0 ∷ [])
    ∷ []

unfoldable pub read : Case → Case
read c = case c.book (said (read_book c.book))

pub all_said : map read cases ≡ cases
unfolding cases read case said heading edge node tone param joined held row_at rows_after size gather read_rows read_book whole order walk released fed among count_up
all_said = refl

-- ---- writing
-- a node and a definition as code may hold them: a name with other bytes behind its length, and a row past the count
unfoldable pub code_node : DefNode
code_node =
    record {
      kind = record { bytes = 84 ∷ 111 ∷ 110 ∷ 101 ∷ replicate 12 7; len = 4 };
      ports = 2;
      required = 0;
      takes_values = true;
      takes_glides = true;
      in_port = 0;
      level_port = 255;
      amp_port = 255;
    }

unfoldable pub held_by_code : SynthDef
held_by_code =
    record {
      nodes = record { rows = code_node ∷ code_node ∷ []; count = 1 };
      edges = record { rows = []; count = 0 };
      params = record { rows = []; count = 0 };
      output = 0;
    }

-- the writer puts zeros there, and later bytes stay
pub written_clean : write_book held_by_code (replicate 35 9) ≡ heading 1 0 ++ (tone ++ (9 ∷ 9 ∷ []))
unfolding code_node held_by_code heading node tone joined held write_book whole order walk released fed among count_up
written_clean = refl

pub length_said : write_answer held_by_code (replicate 35 9) ≡ length_of 33
unfolding code_node held_by_code joined held write_answer whole order walk released fed among count_up
length_said = refl

-- a buffer that is a byte too short stays as it is
pub short_kept : write_book held_by_code (replicate 32 9) ≡ replicate 32 9
unfolding code_node held_by_code joined held write_book whole order walk released fed among count_up
short_kept = refl

pub short_said : write_answer held_by_code (replicate 32 9) ≡ refused 19
unfolding code_node held_by_code joined held write_answer whole order walk released fed among count_up
short_said = refl

-- 9 before 19: no node, and no buffer
pub limits_first : write_answer (def_in (limits 0 0)) [] ≡ refused 9
unfolding held write_answer
limits_first = refl

-- a book whose rows are interleaved is rewritten with nodes, edges and parameters one after the other
pub sorted : book_of (def_in (read_book (heading 2 1 ++ (edge 0 1 0 ++ (tone ++ (param 1 1 ++ (tone ++ edge 0 1 1)))))))
    ≡ heading 2 1 ++ (tone ++ (tone ++ (edge 0 1 0 ++ (edge 0 1 1 ++ param 1 1))))
unfolding heading edge node tone param joined held row_at rows_after size gather read_rows read_book whole order walk released fed among count_up
sorted = refl

-- what was held by code is restored with that name clean and nothing past the count
pub restored : read_book (book_of held_by_code) ≡ gives (canonical held_by_code)
unfolding code_node held_by_code joined held row_at rows_after size gather read_rows read_book whole order walk released fed among count_up
restored = refl
