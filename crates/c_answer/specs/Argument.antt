-- Arguments that are numbers: the shape and the space of a glide, the glide of them, the action of an event, and what making is asked for.
use Rattle.std.specs.Prelude.{ℕ, cond, eqb, Float, Option}
use Rattle.node.specs.declared.order.EventAction.{EventAction}
use Rattle.node.specs.declared.order.EventAction.TheVariants as action
use Rattle.node.specs.declared.order.Glide.{Glide}
use Rattle.node.specs.declared.order.GlideShape.{GlideShape}
use Rattle.node.specs.declared.order.GlideShape.TheVariants as shape
use Rattle.node.specs.declared.order.GlideSpace.{GlideSpace}
use Rattle.node.specs.declared.order.GlideSpace.TheVariants as space
use Rattle.store.specs.declared.config.Making.{Making}
use Rattle.words.specs.Fields.{is_set}
use Rattle.state_words.specs.State.{policy_in, scope_in}

-- what stands for 0, for 1, for 2 and for any other number
abbrev pub by_tag : {A : Type 0} → ℕ → A → A → A → A → A
by_tag tag a b c d = cond (eqb tag 0) a (cond (eqb tag 1) b (cond (eqb tag 2) c d))

abbrev pub shape_in : ℕ → Float → GlideShape
shape_in tag curve = by_tag tag shape.Hold shape.Linear shape.Sine (shape.Exponential curve)

abbrev pub space_in : ℕ → GlideSpace
space_in tag = cond (eqb tag 0) space.Raw space.Pitch

abbrev pub glide_in : Float → Float → ℕ → Float → ℕ → Glide
glide_in target seconds shape curve space = record { target = target; seconds = seconds; shape = shape_in shape curve; space = space_in space }

-- the action of an event, numbered as in a script; a value and a gate are the glide's target
abbrev pub action_in : ℕ → Glide → EventAction
action_in tag g = by_tag tag (action.Value g.target) (action.Glide g) (action.Gate g.target) action.Free

abbrev pub making_in : Float → ℕ → Option ℕ → ℕ → ℕ → ℕ → Making
making_in rate block budget policy scope table = record { rate = rate; block = block; budget = budget; policy = policy_in policy; scope = scope_in scope; table = is_set table }
