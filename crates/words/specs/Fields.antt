-- What the words of a row stand for, field by field: any words stand for something, so a row of any words is a record.
use Rattle.std.specs.Prelude.{ℕ, ◌+◌, ◌*◌, ◌/◌, ◌%◌, ◌≡◌, List, [], ◌∷◌, ◌++◌, Bool, not, cond, eqb, get_or, Float}
use Rattle.std.specs.Float.Ieee.{of_bits}
use Rattle.std.specs.Float.{binary32}
use Rattle.node.specs.declared.name.Name.{Name}
use Rattle.node.specs.declared.order.Glide.{Glide}
use Rattle.node.specs.declared.order.GlideShape.{GlideShape}
use Rattle.node.specs.declared.order.GlideShape.TheVariants as shape
use Rattle.node.specs.declared.order.GlideSpace.{GlideSpace}
use Rattle.node.specs.declared.order.GlideSpace.TheVariants as space
use Rattle.node.specs.declared.order.LastOrder.{LastOrder}
use Rattle.node.specs.declared.order.LastOrder.TheVariants as order

-- a u64 in two words, the low one first
abbrev pub long_from : ℕ → ℕ → ℕ
long_from low high = low + high * 4294967296

-- a bool in a word: any but 0 is true
abbrev pub is_set : ℕ → Bool
is_set x = not (eqb x 0)

-- an f32 in a word, by its bits; every NaN pattern is the NaN
abbrev pub float_from : ℕ → Float
float_from x = of_bits binary32 x

-- four bytes in a word, the low one first
abbrev pub four : ℕ → List ℕ
four x = x % 256 ∷ x / 256 % 256 ∷ x / 65536 % 256 ∷ x / 16777216 % 256 ∷ []

-- a name in five words: its bytes, and its length
abbrev pub name_from : ℕ → ℕ → ℕ → ℕ → ℕ → Name
name_from a b c d len = record { bytes = four a ++ four b ++ four c ++ four d; len = len % 256 }

-- a glide's shape in two words: which, and the exponent
abbrev pub shape_from : ℕ → ℕ → GlideShape
shape_from which x = cond (eqb which 1) shape.Linear (cond (eqb which 2) shape.Sine (cond (eqb which 3) (shape.Exponential (float_from x)) shape.Hold))

abbrev pub space_from : ℕ → GlideSpace
space_from which = cond (eqb which 1) space.Pitch space.Raw

-- a glide in five words: the target, the seconds, the shape, the space
abbrev pub glide_from : ℕ → ℕ → ℕ → ℕ → ℕ → Glide
glide_from x s sh e sp = record { target = float_from x; seconds = float_from s; shape = shape_from sh e; space = space_from sp }

-- a node's newest order in six words: which, the target or value, the seconds, the shape, the space
abbrev pub last_from : ℕ → ℕ → ℕ → ℕ → ℕ → ℕ → LastOrder
last_from which x s sh e sp = cond (eqb which 1) (order.Value (float_from x)) (cond (eqb which 2) (order.Glide (glide_from x s sh e sp)) order.Nothing)

-- six words that stand for a glide, in an order of a node and in the action of an event: the first is 2
pub record Glides (g : Glide) (ws : List ℕ) : Type 0 where
  pub which : get_or ws 0 0 ≡ 2
  pub back : glide_from (get_or ws 1 0) (get_or ws 2 0) (get_or ws 3 0) (get_or ws 4 0) (get_or ws 5 0) ≡ g

-- the fields of several words in a row: from word k on
abbrev pub long_at : List ℕ → ℕ → ℕ
long_at ws k = long_from (get_or ws k 0) (get_or ws (k + 1) 0)

abbrev pub name_at : List ℕ → ℕ → Name
name_at ws k = name_from (get_or ws k 0) (get_or ws (k + 1) 0) (get_or ws (k + 2) 0) (get_or ws (k + 3) 0) (get_or ws (k + 4) 0)

abbrev pub last_at : List ℕ → ℕ → LastOrder
last_at ws k = last_from (get_or ws k 0) (get_or ws (k + 1) 0) (get_or ws (k + 2) 0) (get_or ws (k + 3) 0) (get_or ws (k + 4) 0) (get_or ws (k + 5) 0)
