-- `level::level` meets its contract: its four steps are the definition's.
use mathlib.Core.Path.{◌≡◌, ap, ◌∙◌}
use mathlib.Core.List.{List}
use lib.IntN.{pos}
use lib.ListN.{length}
use lib.Ieee.{Float, binary64, div, of_int}
use Rattle.level.specs.Root.{sqrt}
use Rattle.level.specs.Narrow.{narrow}
use Rattle.level.specs.Level.{plus_zero, squares, level_of}
use Rattle.level.proofs.level.Goals as goal

steps : (s : List Float) (sum count root r : Float) → sum ≡ squares plus_zero s → count ≡ of_int binary64 (pos (length s)) → root ≡ sqrt (div binary64 sum count) → r ≡ narrow root → r ≡ level_of s
unfolding level_of
steps s sum count root r a b c d =
    d ∙ ap narrow (c ∙ ap (λ (x : Float). sqrt (div binary64 x count)) a ∙ ap (λ (x : Float). sqrt (div binary64 (squares plus_zero s) x)) b)

pub returns : goal.returns
returns c =
    let s = c.args.samples.now in
    steps s c.sum_of_squares.result c.nearest_usize_to_f64.result c.sqrt.result c.narrow.result
    c.sum_of_squares.ensures c.nearest_usize_to_f64.ensures c.sqrt.ensures c.narrow.ensures
