-- One rule says in either form which gain goes with which sample (SPEC 15.1, 15.3): `gain_at` of crate `bus`, in any
-- sort of number.
--     float_rule, whole_rule   sample i of channel c of the output, in floats and in whole numbers: the same input sample, under the gain that the rule gives
--     same_gain                with gains that are made of whole ones, as the fade table's are, the rule picks the gain that is made of the one it picks there
use Prim.Native.Nat.{ℕ, ◌+◌, ◌%◌, ◌<◌}
use mathlib.Core.Path.{◌≡◌, refl}
use mathlib.Core.Bool.{Bool, true, false, cond}
use mathlib.Core.List.{List, map}
use lib.Dec.{ltb}
use lib.IntN.{ℤ, pos}
use lib.ListN.{get_or, get_or-map}
use lib.Ieee.{Float, nan, binary32, mul}
use Rattle.bus.specs.Block.{block_of, sample_at}
use Rattle.bus.specs.Fade.{gain_at, silence}
use Rattle.bus.specs.Fade as float
use Rattle.bus.proofs.Blocks.{block_at}
use Rattle.whole_bus.specs.Sample.{faded_sample}
use Rattle.whole_bus.specs.Block as whole

pub float_rule : (input : List Float) (ins : ℕ) (gains : List Float) (len position size outs c i : ℕ) → c < outs → i < size
    → sample_at nan size (block_of outs size (float.faded_of input ins gains len position size)) c i
    ≡ mul binary32 (sample_at nan size input (c % ins) i) (gain_at silence gains len position i)
float_rule input ins gains len position size outs c i h k = block_at outs size _ c i nan h k

pub whole_rule : (input : List ℤ) (ins : ℕ) (gains : List ℕ) (len position size outs c i : ℕ) → c < outs → i < size
    → sample_at (pos 0) size (block_of outs size (whole.faded_of input ins gains len position size)) c i
    ≡ faded_sample (sample_at (pos 0) size input (c % ins) i) (gain_at 0 gains len position i)
whole_rule input ins gains len position size outs c i h k = block_at outs size _ c i (pos 0) h k

pub same_gain : {A B : Type 0} (f : A → B) (none : A) (gains : List A) (len position i : ℕ) → gain_at (f none) (map f gains) len position i ≡ f (gain_at none gains len position i)
same_gain f none gains len position i = go (ltb (position + i) len)
  where
    go : (b : Bool) → cond b (get_or (map f gains) (position + i) (f none)) (f none) ≡ f (cond b (get_or gains (position + i) none) none)
    go true = get_or-map f gains (position + i) none
    go false = refl
