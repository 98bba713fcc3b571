-- What a builder states, by its numbers.
use Rattle.std.specs.Prelude.{ℕ}
use Rattle.sealed.specs.declared.profile.Profile.{Profile}

abbrev pub profile_of : ℕ → ℕ → ℕ → ℕ → ℕ → ℕ → Profile
profile_of bus p h g d e = record { bus = record { 0 = bus }; ports = p; host_nodes = h; host_edges = g; def_nodes = d; def_edges = e }
