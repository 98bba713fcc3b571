-- "glide: f32 target, f32 seconds, u8 shape (0 hold, 1 linear, 2 sine, anything else exponential), f32 curve of an exponential
-- shape, u8 space (0 raw, anything else pitch)" (docs/REPLAY.md).
use Rattle.std.specs.Prelude.{ℕ, List, cond, eqb, Float}
use Rattle.std.specs.Float.{binary32}
use Rattle.std.specs.Float.Ieee.{of_bits}
use Rattle.codec.specs.Field.{moved, little}
use Rattle.node.specs.declared.order.Glide.{Glide}
use Rattle.node.specs.declared.order.GlideShape.{GlideShape}
use Rattle.node.specs.declared.order.GlideShape.TheVariants.{Hold, Linear, Sine, Exponential}
use Rattle.node.specs.declared.order.GlideSpace.{GlideSpace}
use Rattle.node.specs.declared.order.GlideSpace.TheVariants.{Raw, Pitch}
use Rattle.node.specs.declared.order.EventAction.{EventAction}
use Rattle.node.specs.declared.order.EventAction.TheVariants as action

abbrev pub float_at : List ℕ → ℕ → Float
float_at s at = of_bits binary32 (little 4 s at)

abbrev pub shape_of : ℕ → Float → GlideShape
shape_of n curve = cond (eqb n 0) Hold (cond (eqb n 1) Linear (cond (eqb n 2) Sine (Exponential curve)))

abbrev pub space_of : ℕ → GlideSpace
space_of n = cond (eqb n 0) Raw Pitch

abbrev pub glide_at : List ℕ → ℕ → Glide
glide_at s at =
    record {
      target = float_at s at;
      seconds = float_at s (moved at 4);
      shape = shape_of (little 1 s (moved at 8)) (float_at s (moved at 9));
      space = space_of (little 1 s (moved at 13));
    }

-- "u8 action (0 value, 1 glide, 2 gate, anything else free) ..; a value and a gate take their float from the glide's target"
abbrev pub action_of : ℕ → Glide → EventAction
action_of n g =
    cond (eqb n 0) (action.Value g.target)
    (cond (eqb n 1) (action.Glide g)
    (cond (eqb n 2) (action.Gate g.target) action.Free))
