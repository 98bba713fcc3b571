-- What was written to the words is read back.
use Prim.Native.Nat.{ℕ, ◌/◌, ◌%◌}
use mathlib.Core.Path.{◌≡◌, refl}
use mathlib.Core.List.{List, [], ◌∷◌}
use Rattle.std.specs.Prelude.{Some}
use Rattle.words.specs.Fields.{long_at}
use Rattle.state_words.specs.State.{halves}
use Rattle.sealed.specs.declared.profile.Profile.{Profile}
use Rattle.seal_words.specs.Seal.{profile_in, seal_in}

-- the words one by one
pub profile_same : (w : List ℕ) (p h g d e : ℕ)
    → p ≡ long_at w 2 → h ≡ long_at w 4 → g ≡ long_at w 6 → d ≡ long_at w 8 → e ≡ long_at w 10
    → ◌≡◌ {A = Profile} (record { bus = (profile_in w).bus; ports = p; host_nodes = h; host_edges = g; def_nodes = d; def_edges = e }) (profile_in w)
profile_same w p h g d e x1 x2 x3 x4 x5 = rw (x1, x2, x3, x4, x5) refl

pub profile_back : (p : Profile) (a b c d e f g h i j : ℕ)
    → a ≡ p.ports % 4294967296 → b ≡ p.ports / 4294967296
    → c ≡ p.host_nodes % 4294967296 → d ≡ p.host_nodes / 4294967296
    → e ≡ p.host_edges % 4294967296 → f ≡ p.host_edges / 4294967296
    → g ≡ p.def_nodes % 4294967296 → h ≡ p.def_nodes / 4294967296
    → i ≡ p.def_edges % 4294967296 → j ≡ p.def_edges / 4294967296
    → seal_in (1 ∷ p.bus.0 ∷ a ∷ b ∷ c ∷ d ∷ e ∷ f ∷ g ∷ h ∷ i ∷ j ∷ []) ≡ Some p
profile_back p a b c d e f g h i j x1 x2 x3 x4 x5 x6 x7 x8 x9 x10 =
    rw (x1, x2, x3, x4, x5, x6, x7, x8, x9, x10, halves p.ports, halves p.host_nodes, halves p.host_edges, halves p.def_nodes, halves p.def_edges) refl
