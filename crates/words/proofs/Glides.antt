-- Two glides with the same fields are the same glide.
use mathlib.Core.Path.{◌≡◌}
use lib.Ieee.{Float}
use Rattle.node.specs.declared.order.Glide.{Glide}
use Rattle.node.specs.declared.order.GlideShape.{GlideShape}
use Rattle.node.specs.declared.order.GlideSpace.{GlideSpace}

made : Float → Float → GlideShape → GlideSpace → Glide
made t s h p = record { target = t; seconds = s; shape = h; space = p }

pub glide_same : (f g : Glide) → f.target ≡ g.target → f.seconds ≡ g.seconds → f.shape ≡ g.shape → f.space ≡ g.space → f ≡ g
unfolding made
glide_same f g p q r s = let same : made f.target f.seconds f.shape f.space ≡ made g.target g.seconds g.shape g.space = cc in same
