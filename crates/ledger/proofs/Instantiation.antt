-- A new voice is instantiated: its nodes come under the next ids, its wires join only them, and its feeder takes the port found.
use Prim.Native.Nat.{ℕ, ◌+◌, ◌≤◌, ◌<◌}
use native.Mathlib.Omega.{arith}
use mathlib.Core.Path.{◌≡◌, refl, sym, ap, ◌∙◌, subst}
use mathlib.Core.Logic.{◌⊎◌, inl, inr, ⊎_elim}
use mathlib.Core.List.{List, [], ◌∷◌, ◌++◌}
use Rattle.std.specs.Prelude.{Option, Some}
use mathlib.Core.Bool.{Bool, true, false, not}
use lib.Dec.{ltb}
use lib.ListN.{length}
use borrow.Author.Tests.{ltb-true, ltb-false}
use Rattle.lists.specs.Member.{In}
use Rattle.lists.proofs.Member.{some_inj, in_snoc}
use Rattle.node.specs.declared.record.NodeId.{NodeId}
use Rattle.node.specs.declared.record.Node.{Node}
use Rattle.node.specs.declared.record.Edge.{Edge}
use Rattle.edges.specs.Wiring.{ends_at, wired}
use Rattle.graph.specs.View.{GraphView}
use Rattle.graph.specs.Node.{ports_of}
use Rattle.graph.specs.Change.{append, connect, edge}
use Rattle.voice.specs.declared.voices.Voice.{Voice}
use Rattle.voice.specs.Voice.{id, feeder, end_of}
use Rattle.model.specs.Spawn.{Wire, append_all, wire_all}
use Rattle.ledger.specs.Holder.{Holders, voice, hold}
use Rattle.ledger.specs.Claim.{owner_at, Owners, holder_at, source_holds}
use Rattle.ledger.proofs.Owner.{ports_at, look_old, owner_old, owner_new}
use Rattle.ledger.proofs.EdgeInvariant.{Voiced, Out, FeedsBus, in_put, wired_put, voiced_put, voiced_snoc}
use Rattle.ledger.proofs.EndInvariant.{end_put, end_snoc}
use Rattle.ledger.proofs.Held.{holder_voice, hold_put, hold_put_off}
use Rattle.ledger.proofs.Invariant.{Invariant, HostAt, sound_append, ends_below}

-- the graph g after `count` nodes of the voice k came to nodes `ns`, the first under the id `base`: older nodes are as they were, and
-- no edge leads from the voice to the host yet
pub record Planted (ns : List Node) (base k count : ℕ) (vs : List Voice) (h : Holders) (g : GraphView) : Type 0 where
  pub sound : Invariant g.nodes g.edges g.next k vs h
  pub next : g.next ≡ base + count
  pub old : (n : ℕ) → n < base → (owner_at g.nodes n ≡ owner_at ns n) × (ports_at g.nodes n ≡ ports_at ns n)
  pub mine : (i : ℕ) → i < count → owner_at g.nodes (base + i) ≡ Some k
  pub off : (e : Edge) → In e g.edges → Out (owner_at g.nodes) k e → ⊥

module _ {ns : List Node} {base k : ℕ} {vs : List Voice} {h : Holders} where
  planted_append : {count : ℕ} {g : GraphView} → Planted ns base k count vs h g → (x : Node) → x.owner.0 ≡ k → Planted ns base k (count + 1) vs h (append g x)
  planted_append {count} {g} r x o =
      let l = r.sound.listed in
      record {
        sound = sound_append r.sound x (omega arith);
        next = omega (arith, r.next);
        old = λ n b.
            let a : n < g.next = omega (arith, r.next) in
            (owner_old l x n a ∙ (r.old n b).0, ap ports_of (look_old l x n a) ∙ (r.old n b).1);
        mine = λ i b. at i b (order i);
        off = λ e j u.
            let b = ends_below r.sound e j in
            r.off e j (sym (owner_old l x e.to.0 b.1) ∙ u.0, sym (owner_old l x e.from.0 b.0) ∙ u.1);
      }
    where
      order : (i : ℕ) → (i < count) ⊎ (count ≤ i)
      order i = go (ltb i count) refl
        where
          go : (b : Bool) → ltb i count ≡ b → (i < count) ⊎ (count ≤ i)
          go true e = inl (ltb-true _ _ e)
          go false e = inr (ltb-false _ _ e)

      at : (i : ℕ) → i < count + 1 → (i < count) ⊎ (count ≤ i) → owner_at (append g x).nodes (base + i) ≡ Some k
      at i b (inl c) = let a : base + i < g.next = omega (arith, r.next) in owner_old r.sound.listed x (base + i) a ∙ r.mine i c
      at i b (inr c) =
          let e : base + i ≡ g.next = omega (arith, r.next) in
          ap (owner_at (append g x).nodes) e ∙ owner_new r.sound.listed x ∙ ap Some o

  pub planted_all : (xs : List Node) → ((x : Node) → In x xs → x.owner.0 ≡ k) → {count : ℕ} {g : GraphView} → Planted ns base k count vs h g
      → Planted ns base k (count + length xs) vs h (append_all g xs)
  planted_all [] o {count} {g} r = subst (λ n. Planted ns base k n vs h g) (omega arith) r
  planted_all (x ∷ xs) o {count} {g} r =
      subst (λ n. Planted ns base k n vs h (append_all (append g x) xs)) (omega arith) (planted_all xs (λ y i. o y (inr i)) (planted_append r x (o x (inl refl))))

  -- ---- wires between the voice's nodes
  planted_wire : {count : ℕ} {g : GraphView} → 0 < k → Planted ns base k count vs h g → (a b p : ℕ) → a < count → b < count
      → Planted ns base k count vs h (connect g (id (base + a)) (id (base + b)) p)
  planted_wire {count} {g} pos r a b p la lb =
      let e = edge (id (base + a)) (id (base + b)) p in
      let mb = r.mine b lb in
      record {
        sound = record {
          listed = r.sound.listed;
          wired = wired_put e g.edges r.sound.wired (record { a = k; b = k; from = r.mine a la; to = mb; range = λ z. absurd (omega (arith, pos, z)) });
          voiced = voiced_put e g.edges r.sound.voiced (λ v i o. absurd (not_host mb o.0)) (λ v i d j q o u. not_host mb o.0);
          ends = end_put e g.edges r.sound.ends (λ v i o. absurd (not_host mb o.0));
          held = λ n q. r.sound.held n q ∙ sym (hold_put_off r.sound.wired e k mb pos n q);
        };
        next = r.next;
        old = r.old;
        mine = r.mine;
        off = λ d i o.
            ⊎_elim (λ j. r.off d j.0 o) (λ q. not_host mb (sym (ap (λ (y : Edge). owner_at g.nodes y.to.0) q) ∙ o.0)) (in_put e g.edges d i);
      }
    where
      not_host : {o : Option ℕ} → o ≡ Some k → o ≡ Some 0 → ⊥
      not_host p q = let z : k ≡ 0 = some_inj (sym p ∙ q) in omega (arith, pos)

  pub planted_wires : {count : ℕ} → 0 < k → (ws : List Wire) → ((w : Wire) → In w ws → (w.from < count) × (w.to < count)) → {g : GraphView}
      → Planted ns base k count vs h g → Planted ns base k count vs h (wire_all base g ws)
  planted_wires pos [] within r = r
  planted_wires pos (w ∷ ws) within r =
      let b = within w (inl refl) in
      planted_wires pos ws (λ u i. within u (inr i)) (planted_wire pos r w.from w.to w.port b.0 b.1)

  -- ---- the edge to the port found
  module _ {count : ℕ} {g : GraphView} (r : Planted ns base k count vs h g) (pos : 0 < k) (older : (u : Voice) → In u vs → u.id.0 < k)
      (bus : NodeId) (live : HostAt ns bus.0) (bl : bus.0 < base) (out p : ℕ) (lo : out < count) (range : p < ports_at ns bus.0)
      (v : Voice) (vi : v.id.0 ≡ k) (vb : v.bus.0 ≡ bus.0) (vf : (feeder v).0 ≡ base + out) (ve : end_of v ≡ feeder v) where
    abbrev e₁ : Edge
    e₁ = edge (id (base + out)) bus p

    abbrev own : Owners
    own = owner_at g.nodes

    at_bus : own bus.0 ≡ Some 0
    at_bus = (r.old bus.0 bl).0 ∙ live

    voiced₁ : Voiced own g.next k g.edges (vs ++ (v ∷ []))
    voiced₁ =
        voiced_snoc v r.sound.voiced
        (record {
          feeds = ap own vf ∙ r.mine out lo ∙ ap Some (sym vi);
          named = omega arith;
          bus = omega (arith, r.next);
          hosted = λ n e. sym (some_inj (sym at_bus ∙ ap own (sym vb) ∙ e));
        })
        (λ u i. omega (arith, older u i)) (omega arith) (λ e i o. r.off e i (o.0, o.1 ∙ ap Some vi))

    pub sound_instantiate : Invariant g.nodes (wired g.edges e₁) g.next k (vs ++ (v ∷ [])) (hold bus p (voice (record { 0 = k })) h)
    sound_instantiate =
        record {
          listed = r.sound.listed;
          wired = wired_put e₁ g.edges r.sound.wired (record { a = k; b = 0; from = r.mine out lo; to = at_bus; range = λ z. subst (λ n. p < n) (sym (r.old bus.0 bl).1) range });
          voiced = voiced_put e₁ g.edges voiced₁ fed₁ other₁;
          ends = end_put e₁ g.edges (end_snoc v r.sound.ends (ap own at_end ∙ r.mine out lo ∙ ap Some (sym vi)) (λ e i o. r.off e i (o.0, o.1 ∙ ap Some vi))) end₁;
          held = λ n q.
              ap (λ x. hold bus p (voice (record { 0 = k })) (λ n q. x) n q) (r.sound.held n q)
              ∙ sym (hold_put r.sound.wired e₁ at_bus n q ∙ ap (λ x. hold bus p x (holder_at g.nodes g.edges) n q) src);
        }
      where
        src : source_holds (own (base + out)) (id (base + out)) ≡ voice (record { 0 = k })
        src = rw (r.mine out lo) (holder_voice k (id (base + out)) pos)

        fed₁ : (u : Voice) → In u (vs ++ (v ∷ [])) → FeedsBus own u e₁
        fed₁ u i o =
            let q : k ≡ u.id.0 = some_inj (sym (r.mine out lo) ∙ o.1) in
            ⊎_elim (λ j. absurd (omega (arith, older u j, q)))
            (λ z. ap (λ (y : Voice). y.bus.0) z ∙ vb) (in_snoc vs v u i)

        at_end : (end_of v).0 ≡ base + out
        at_end = ap (λ k. k.0) ve ∙ vf

        end₁ : (u : Voice) → In u (vs ++ (v ∷ [])) → Out own u.id.0 e₁ → (end_of u).0 ≡ base + out
        end₁ u i o =
            let q : k ≡ u.id.0 = some_inj (sym (r.mine out lo) ∙ o.1) in
            ⊎_elim (λ j. absurd (omega (arith, older u j, q))) (λ z. ap (λ (y : Voice). (end_of y).0) z ∙ at_end) (in_snoc vs v u i)

        other₁ : (u : Voice) → In u (vs ++ (v ∷ [])) → (d : Edge) → In d g.edges → not (ends_at bus p d) ≡ true → Out own u.id.0 e₁ → Out own u.id.0 d → ⊥
        other₁ u i d j z o x =
            let q : k ≡ u.id.0 = some_inj (sym (r.mine out lo) ∙ o.1) in
            r.off d j (x.0, x.1 ∙ ap Some (sym q))
