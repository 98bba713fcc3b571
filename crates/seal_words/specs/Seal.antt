-- The seal of a board in 12 words, for a host that holds words only: whether it is sealed, the bus, and two words for each of P, H, G, D
-- and E. Any words stand for a seal.
use Rattle.std.specs.Prelude.{ℕ, List, cond, eqb, get_or, None, Some}
use Rattle.words.specs.Fields.{long_at}
use Rattle.sealed.specs.declared.profile.Profile.{Profile}
use Rattle.sealed.specs.Seal.{Seal}

abbrev pub profile_in : List ℕ → Profile
profile_in w =
    record {
      bus = record { 0 = get_or w 1 0 };
      ports = long_at w 2;
      host_nodes = long_at w 4;
      host_edges = long_at w 6;
      def_nodes = long_at w 8;
      def_edges = long_at w 10;
    }

abbrev pub seal_in : List ℕ → Seal
seal_in w = cond (eqb (get_or w 0 0) 0) None (Some (profile_in w))
