-- The call of a wish, and the scenes.
use mathlib.Core.Path.{refl}
use lib.Ieee.{eq}
use Rattle.rank.specs.Order as rank
use Rattle.rules.specs.WishScenes.{ConsoleScene, BoardScene}

pub console_scene : ConsoleScene
unfolding eq rank.whole rank.order rank.walk rank.released rank.among rank.count_up rank.fed
console_scene = (refl, refl)

pub board_scene : BoardScene
unfolding eq rank.whole rank.order rank.walk rank.released rank.among rank.count_up rank.fed
board_scene = (refl, refl)
