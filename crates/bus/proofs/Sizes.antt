-- The tests of a block's channels and its length.
use Rattle.std.proofs.Common.{◌≡◌, ℕ, zero, suc, ◌-◌, min, ◌*◌, ◌%◌, ◌<◌, ◌≤◌, Bool, true, false, T, eqb, refl, arith, eqb→eq, eqb-true}
use lib.Ieee.Fits.{and_l, and_r}
use Rattle.bus.specs.Block.{is_channels, holds}

pub channels_are : (n : ℕ) → T (is_channels n) → (0 < n) × (n ≤ 2)
channels_are n t = go (eqb n 1) refl (eqb n 2) refl
  where
    go : (a : Bool) → eqb n 1 ≡ a → (b : Bool) → eqb n 2 ≡ b → (0 < n) × (n ≤ 2)
    go true e b f = let q : n ≡ 1 = eqb-true n 1 e in omega arith
    go false e true f = let q : n ≡ 2 = eqb-true n 2 f in omega arith
    go false e false f = absurd (simp (e, f) at t)

-- which channel of the input goes to channel c of the output
pub channel_read : (ins outs c : ℕ) → T (is_channels ins) → T (is_channels outs) → c < outs → min c (ins - 1) ≡ c % ins
channel_read ins outs c t u h = let i = channels_are ins t in let o = channels_are outs u in let l : c < 2 = omega arith in go ins i.0 i.1 l
  where
    go : (n : ℕ) → 0 < n → n ≤ 2 → c < 2 → min c (n - 1) ≡ c % n
    go zero l h k = absurd (omega arith)
    go (suc zero) l h k = omega arith
    go (suc (suc zero)) l h k = omega arith
    go (suc (suc (suc n))) l h k = absurd (omega arith)

-- what `holds` says
pub held : (len n size : ℕ) → T (holds len n size) → (0 < n) × (len ≡ n * size)
held len n size t = ((channels_are n (and_l (is_channels n) (eqb len (n * size)) t)).0, eqb→eq len (n * size) (and_r (is_channels n) (eqb len (n * size)) t))
