-- "Sealing accepts exactly if": the test says yes exactly where the plain conjunction holds.
use mathlib.Core.Path.{◌≡◌, refl, sym, ap, ◌∙◌}
use mathlib.Core.Logic.{◌↔◌}
use mathlib.Core.List.{List, [], ◌∷◌}
use Rattle.std.specs.Prelude.{Option, None, Some}
use mathlib.Core.Bool.{true, true≢false}
use lib.Dec.{eqb, leb}
use lib.ListN.{length}
use borrow.Author.Tests.{eqb-true, eq-eqb, leb-true, le-leb}
use Rattle.std.proofs.lemmas.Bool.{and_from}
use Rattle.lists.proofs.Member.{and_left, and_right}
use Rattle.node.specs.declared.record.Node.{Node}
use Rattle.graph.specs.Node.{node_at, ports_of}
use Rattle.voice.specs.declared.voices.Voice.{Voice}
use Rattle.model.specs.SharedState.{SharedState}
use Rattle.sealed.specs.declared.profile.Profile.{Profile}
use Rattle.sealed.specs.Seal.{most_ports, nodes_for, edges_for, host_owned, nobody_in, accepts, Fits}

pub accepts_fits : (s : Profile) (d : SharedState) (vs : List Voice) → accepts s d vs ≡ true → Fits s d vs
accepts_fits s d vs h₀ =
    let n = node_at d.graph.nodes s.bus in
    let h₁ = and_right (leb 2 s.ports) _ h₀ in
    let h₂ = and_right (leb s.ports most_ports) _ h₁ in
    let h₃ = and_right (leb (nodes_for s) 512) _ h₂ in
    let h₄ = and_right (leb (edges_for s) 1024) _ h₃ in
    let h₅ = and_right (host_owned n) _ h₄ in
    let h₆ = and_right (eqb (ports_of n) s.ports) _ h₅ in
    let h₇ = and_right (eqb (length d.graph.nodes) s.host_nodes) _ h₆ in
    record {
      least = leb-true _ _ (and_left (leb 2 s.ports) _ h₀);
      most = leb-true _ _ (and_left (leb s.ports most_ports) _ h₁);
      nodes = leb-true _ _ (and_left (leb (nodes_for s) 512) _ h₂);
      edges = leb-true _ _ (and_left (leb (edges_for s) 1024) _ h₃);
      host = is_host n (and_left (host_owned n) _ h₄) (eqb-true _ _ (and_left (eqb (ports_of n) s.ports) _ h₅));
      held = eqb-true _ _ (and_left (eqb (length d.graph.nodes) s.host_nodes) _ h₆);
      wires = eqb-true _ _ (and_left (eqb (length d.graph.edges) s.host_edges) _ h₇);
      empty = none_in vs (and_right (eqb (length d.graph.edges) s.host_edges) _ h₇);
    }
  where
    is_host : (o : Option Node) → host_owned o ≡ true → ports_of o ≡ s.ports → (n : Node) × (o ≡ Some n) × (n.owner.0 ≡ 0) × (n.ports ≡ s.ports)
    is_host None h p = absurd (true≢false (sym h))
    is_host (Some n) h p = (n, refl, eqb-true _ _ h, p)

    none_in : (vs : List Voice) → nobody_in vs ≡ true → vs ≡ []
    none_in [] h = refl
    none_in (v ∷ vs) h = absurd (true≢false (sym h))

pub fits_accepts : (s : Profile) (d : SharedState) (vs : List Voice) → Fits s d vs → accepts s d vs ≡ true
fits_accepts s d vs f =
    and_from _ _ (le-leb _ _ f.least) (and_from _ _ (le-leb _ _ f.most) (and_from _ _ (le-leb _ _ f.nodes) (and_from _ _ (le-leb _ _ f.edges)
    (and_from _ _ owned (and_from _ _ (eq-eqb _ _ ports) (and_from _ _ (eq-eqb _ _ f.held) (and_from _ _ (eq-eqb _ _ f.wires) (ap nobody_in f.empty))))))))
  where
    owned : host_owned (node_at d.graph.nodes s.bus) ≡ true
    owned = ap host_owned f.host.1 ∙ eq-eqb _ _ f.host.2

    ports : ports_of (node_at d.graph.nodes s.bus) ≡ s.ports
    ports = ap ports_of f.host.1 ∙ f.host.3

pub accepts_exactly : (s : Profile) (d : SharedState) (vs : List Voice) → (accepts s d vs ≡ true) ↔ Fits s d vs
accepts_exactly s d vs = (accepts_fits s d vs, fits_accepts s d vs)
