-- A sound ledger: its nodes are listed, its edges and voices keep the invariant, each voice feeds the host from the end of its chain, and its holders are those that the edges give.
-- Each change of the graph keeps it.
use Prim.Native.Nat.{ℕ, ◌+◌, ◌≤◌, ◌<◌}
use native.Mathlib.Omega.{arith}
use mathlib.Core.Path.{◌≡◌, refl, sym, ap, ◌∙◌}
use mathlib.Core.List.{List, [], ◌∷◌, ◌++◌}
use Rattle.std.specs.Prelude.{None, Some, filter}
use mathlib.Core.Bool.{Bool, true, false, not, cond}
use borrow.Author.Tests.{ne_eqb, not-true}
use Rattle.std.proofs.lemmas.Bool.{or_parts}
use Rattle.lists.specs.Member.{In}
use Rattle.lists.proofs.Member.{some_inj, none_some}
use Rattle.lists.proofs.Filter.{in_filter}
use Rattle.lists.proofs.Find.{once_filter}
use Rattle.lists.specs.Rising.{RisesFrom}
use Rattle.lists.proofs.Rising.{rises_filter}
use Rattle.node.specs.declared.record.NodeId.{NodeId}
use Rattle.node.specs.declared.record.VoiceId.{VoiceId}
use Rattle.node.specs.declared.record.Node.{Node}
use Rattle.node.specs.declared.record.Edge.{Edge}
use Rattle.edges.specs.Wiring.{ends_at, drop_at, wired, among, touches, drop_touching}
use Rattle.graph.specs.Node.{is_node, owned_by, node_at, ports_of, with_id, replaced}
use Rattle.graph.specs.Change.{ids_of, edge}
use Rattle.voice.specs.declared.voices.Voice.{Voice}
use Rattle.voice.specs.Voice.{id, is_voice, feeder, end_of}
use Rattle.ledger.specs.Holder.{Holders, host, nobody, hold, drop_voice, drop_node}
use Rattle.ledger.specs.Claim.{owner_at, holder_at}
use Rattle.ledger.proofs.Owner.{ports_at, Listed, live_below, look_old, owner_old, listed_append, owner_thin, ports_thin, listed_thin, dead_voice, dead_node, owner_replaced, ports_replaced, listed_replaced}
use Rattle.ledger.proofs.EdgeInvariant.{EdgeInvariant, Voiced, Same, above, wired_put, voiced_put, wired_move, voiced_move}
use Rattle.ledger.proofs.EndInvariant.{EndInvariant, end_move, end_put}
use Rattle.ledger.proofs.Held.{hold_same, hold_put, hold_drop, hold_voice, hold_node}

pub record Invariant (ns : List Node) (es : List Edge) (next given : ℕ) (vs : List Voice) (h : Holders) : Type 0 where
  pub listed : Listed ns next given
  pub wired : EdgeInvariant (owner_at ns) (ports_at ns) es
  pub voiced : Voiced (owner_at ns) next given es vs
  pub ends : EndInvariant (owner_at ns) es vs
  pub held : (n p : ℕ) → h n p ≡ holder_at ns es n p

-- a live node of the host
abbrev pub HostAt : List Node → ℕ → Type 0
HostAt ns n = owner_at ns n ≡ Some 0

module _ {ns : List Node} {es : List Edge} {nx nv : ℕ} {vs : List Voice} {h : Holders} (s : Invariant ns es nx nv vs h) where
  pub ends_below : (e : Edge) → In e es → (e.from.0 < nx) × (e.to.0 < nx)
  ends_below e i =
      let g = s.wired.ends e i in
      ((live_below s.listed e.from.0 g.a g.from).0, (live_below s.listed e.to.0 g.b g.to).0)

  -- ---- a node more
  module _ (x : Node) (given : x.owner.0 ≤ nv) where
    abbrev ns₁ : List Node
    ns₁ = ns ++ (with_id nx x ∷ [])

    same₁ : (e : Edge) → In e es → Same (owner_at ns) (owner_at ns₁) e
    same₁ e i = let b = ends_below e i in (owner_old s.listed x e.from.0 b.0, owner_old s.listed x e.to.0 b.1)

    pub sound_append : Invariant ns₁ es (nx + 1) nv vs h
    sound_append =
        record {
          listed = listed_append s.listed x given;
          wired = wired_move s.wired.once (λ e i. i) (λ e i. (same₁ e i, ap ports_of (look_old s.listed x e.to.0 (ends_below e i).1))) s.wired;
          voiced = voiced_move (omega arith) (omega arith) s.voiced.rises (λ v i. i) (λ e i. i) same₁
              (λ v i. owner_old s.listed x (feeder v).0 (live_below s.listed (feeder v).0 v.id.0 (s.voiced.sung v i).feeds).0)
              (λ v i k e. sym (owner_old s.listed x v.bus.0 (s.voiced.sung v i).bus) ∙ e) s.voiced;
          ends = end_move (λ v i. i) (λ e i. i) same₁ (λ v i. owner_old s.listed x (end_of v).0 (live_below s.listed (end_of v).0 v.id.0 (s.ends.owns v i)).0) s.ends;
          held = λ n p. s.held n p ∙ sym (hold_same s.wired (owner_at ns₁) same₁ n p);
        }

  -- ---- one voice id more
  pub sound_more : Invariant ns es nx (nv + 1) vs h
  sound_more =
      record {
        listed = record { rises = s.listed.rises; below = λ x i. ((s.listed.below x i).0, omega (arith, (s.listed.below x i).1)) };
        wired = s.wired;
        voiced = voiced_move (omega arith) (omega arith) s.voiced.rises (λ v i. i) (λ e i. i) (λ e i. (refl, refl)) (λ v i. refl) (λ v i k e. e) s.voiced;
        ends = s.ends;
        held = s.held;
      }

  -- ---- a node's record is replaced
  pub sound_replaced : (y x : Node) (k : NodeId) → node_at ns k ≡ Some x → y.id.0 ≡ x.id.0 → y.owner.0 ≡ x.owner.0 → y.ports ≡ x.ports
      → Invariant (replaced ns y) es nx nv vs h
  sound_replaced y x k e i o p =
      let same : (n : ℕ) → owner_at (replaced ns y) n ≡ owner_at ns n = owner_replaced s.listed y x k e i o p in
      record {
        listed = listed_replaced s.listed y x k e i o p;
        wired = wired_move s.wired.once (λ d j. j) (λ d j. ((same d.from.0, same d.to.0), ports_replaced s.listed y x k e i o p d.to.0)) s.wired;
        voiced = voiced_move (omega arith) (omega arith) s.voiced.rises (λ v j. j) (λ d j. j) (λ d j. (same d.from.0, same d.to.0))
            (λ v j. same (feeder v).0) (λ v j n q. sym (same v.bus.0) ∙ q) s.voiced;
        ends = end_move (λ v j. j) (λ d j. j) (λ d j. (same d.from.0, same d.to.0)) (λ v j. same (end_of v).0) s.ends;
        held = λ n p. s.held n p ∙ sym (hold_same s.wired (owner_at (replaced ns y)) (λ d j. (same d.from.0, same d.to.0)) n p);
      }

  -- ---- nodes go, with their edges; the voices that stay keep their feeders
  module _ (goes : Node → Bool) (vs' : List Voice) where
    abbrev ns₂ : List Node
    ns₂ = filter (λ x. not (goes x)) ns

    abbrev es₂ : List Edge
    es₂ = drop_touching es (ids_of goes ns)

    abbrev dead_at : ℕ → Bool
    dead_at n = among (ids_of goes ns) (id n)

    stays : (e : Edge) → In e es₂ → In e es × (dead_at e.from.0 ≡ false) × (dead_at e.to.0 ≡ false)
    stays e i =
        let r = in_filter (λ e. not (touches (ids_of goes ns) e)) es e i in
        let q = or_parts (dead_at e.from.0) (dead_at e.to.0) (not-true _ r.1) in
        (r.0, q.0, q.1)

    alive : (n : ℕ) → dead_at n ≡ false → owner_at ns₂ n ≡ owner_at ns n
    alive n f = owner_thin s.listed goes n ∙ rw f

    same₂ : (e : Edge) → In e es₂ → Same (owner_at ns) (owner_at ns₂) e
    same₂ e i = let r = stays e i in (alive e.from.0 r.1, alive e.to.0 r.2)

    back : (n k : ℕ) → owner_at ns₂ n ≡ Some k → owner_at ns n ≡ Some k
    back n k e = go (dead_at n) (sym (owner_thin s.listed goes n) ∙ e)
      where
        go : (b : Bool) → cond b None (owner_at ns n) ≡ Some k → owner_at ns n ≡ Some k
        go true f = absurd (none_some f)
        go false f = f

    wired₂ : EdgeInvariant (owner_at ns₂) (ports_at ns₂) es₂
    wired₂ =
        wired_move (λ k p. once_filter (ends_at k p) (λ e. not (touches (ids_of goes ns) e)) es (s.wired.once k p)) (λ e i. (stays e i).0)
        (λ e i. (same₂ e i, ports_thin s.listed goes e.to.0 (stays e i).2)) s.wired

    voiced₂ : RisesFrom (λ (v : Voice). v.id.0) 1 vs' → ((v : Voice) → In v vs' → In v vs) → ((v : Voice) → In v vs' → dead_at (feeder v).0 ≡ false) → Voiced (owner_at ns₂) nx nv es₂ vs'
    voiced₂ rises sub safe =
        voiced_move (omega arith) (omega arith) rises sub (λ e i. (stays e i).0) same₂ (λ v i. alive (feeder v).0 (safe v i)) (λ v i k e. back v.bus.0 k e) s.voiced

    ends₂ : ((v : Voice) → In v vs' → In v vs) → ((v : Voice) → In v vs' → dead_at (end_of v).0 ≡ false) → EndInvariant (owner_at ns₂) es₂ vs'
    ends₂ sub safe = end_move sub (λ e i. (stays e i).0) same₂ (λ v i. alive (end_of v).0 (safe v i)) s.ends

  abbrev others : VoiceId → Voice → Bool
  others w v = not (is_voice w v)

  pub sound_voice_removed : (w : VoiceId) → 0 < w.0
      → Invariant (filter (λ x. not (owned_by w x)) ns) (drop_touching es (ids_of (owned_by w) ns)) nx nv (filter (λ v. not (is_voice w v)) vs) (drop_voice w h)
  sound_voice_removed w pos =
      record {
        listed = listed_thin s.listed (owned_by w);
        wired = wired₂ (owned_by w) (filter (others w) vs);
        voiced = voiced₂ (owned_by w) (filter (others w) vs) (rises_filter (λ (v : Voice). v.id.0) (others w) 1 vs s.voiced.rises) (λ v i. (in_filter (others w) vs v i).0)
            (λ v i. safe v i (feeder v).0 (s.voiced.sung v (in_filter (others w) vs v i).0).feeds);
        ends = ends₂ (owned_by w) (filter (others w) vs) (λ v i. (in_filter (others w) vs v i).0) (λ v i. safe v i (end_of v).0 (s.ends.owns v (in_filter (others w) vs v i).0));
        held = λ n p.
            ap (λ x. drop_voice w (λ n p. x) n p) (s.held n p)
            ∙ sym (hold_voice s.wired (λ n. among (ids_of (owned_by w) ns) (id n)) (owner_at (filter (λ x. not (owned_by w x)) ns)) (owner_thin s.listed (owned_by w)) w pos (dead_voice s.listed w) n p);
      }
    where
      -- a node of a voice that stays
      safe : (v : Voice) → In v (filter (others w) vs) → (n : ℕ) → owner_at ns n ≡ Some v.id.0 → among (ids_of (owned_by w) ns) (id n) ≡ false
      safe v i n f = dead_voice s.listed w n v.id.0 f ∙ not-true _ (in_filter (others w) vs v i).1

  pub sound_removed : (k : NodeId) → HostAt ns k.0 → Invariant (filter (λ x. not (is_node k x)) ns) (drop_touching es (ids_of (is_node k) ns)) nx nv vs (drop_node k h)
  sound_removed k live =
      record {
        listed = listed_thin s.listed (is_node k);
        wired = wired₂ (is_node k) vs;
        voiced = voiced₂ (is_node k) vs s.voiced.rises (λ v i. i) (λ v i. safe v i (feeder v).0 (s.voiced.sung v i).feeds);
        ends = ends₂ (is_node k) vs (λ v i. i) (λ v i. safe v i (end_of v).0 (s.ends.owns v i));
        held = λ n p.
            ap (λ x. drop_node k (λ n p. x) n p) (s.held n p)
            ∙ sym (hold_node s.wired (λ n. among (ids_of (is_node k) ns) (id n)) (owner_at (filter (λ x. not (is_node k x)) ns)) (owner_thin s.listed (is_node k)) k live (dead_node s.listed k) n p);
      }
    where
      -- a node of a voice is not the host's
      safe : (v : Voice) → In v vs → (n : ℕ) → owner_at ns n ≡ Some v.id.0 → among (ids_of (is_node k) ns) (id n) ≡ false
      safe v i n f = dead_node s.listed k n v.id.0 f ∙ ne_eqb n k.0 (λ q.
          let z : v.id.0 ≡ 0 = some_inj (sym f ∙ ap (owner_at ns) q ∙ live) in
          omega (arith, above s.voiced v i))

  -- ---- the host's wiring
  pub sound_connect : (a b : NodeId) (p : ℕ) → HostAt ns a.0 → HostAt ns b.0 → p < ports_at ns b.0 → Invariant ns (wired es (edge a b p)) nx nv vs (hold b p (host a) h)
  sound_connect a b p ha hb range =
      record {
        listed = s.listed;
        wired = wired_put (edge a b p) es s.wired (record { a = 0; b = 0; from = ha; to = hb; range = λ z. range });
        voiced = voiced_put (edge a b p) es s.voiced (λ v i o. absurd (mine v i o.1)) (λ v i d j k o r. mine v i o.1);
        ends = end_put (edge a b p) es s.ends (λ v i o. absurd (mine v i o.1));
        held = λ n q. ap (λ x. hold b p (host a) (λ n q. x) n q) (s.held n q) ∙ sym (hold_put s.wired (edge a b p) hb n q ∙ rw ha);
      }
    where
      mine : (v : Voice) → In v vs → owner_at ns a.0 ≡ Some v.id.0 → ⊥
      mine v i e = let z : 0 ≡ v.id.0 = some_inj (sym ha ∙ e) in omega (arith, above s.voiced v i)

  pub sound_disconnect : (b : NodeId) (p : ℕ) → Invariant ns (drop_at es b p) nx nv vs (hold b p nobody h)
  sound_disconnect b p =
      record {
        listed = s.listed;
        wired = wired_move (λ k q. once_filter (ends_at k q) (λ e. not (ends_at b p e)) es (s.wired.once k q)) sub (λ e i. ((refl, refl), refl)) s.wired;
        voiced = voiced_move (omega arith) (omega arith) s.voiced.rises (λ v i. i) sub (λ e i. (refl, refl)) (λ v i. refl) (λ v i k e. e) s.voiced;
        ends = end_move (λ v i. i) sub (λ e i. (refl, refl)) (λ v i. refl) s.ends;
        held = λ n q. ap (λ x. hold b p nobody (λ n q. x) n q) (s.held n q) ∙ sym (hold_drop s.wired b p n q);
      }
    where
      sub : (e : Edge) → In e (drop_at es b p) → In e es
      sub e i = (in_filter (λ e. not (ends_at b p e)) es e i).0

-- a new ledger
pub sound_new : Invariant [] [] 0 0 [] (λ n p. nobody)
sound_new =
    record {
      listed = record { rises = tt; below = λ x i. absurd i };
      wired = record { once = λ k p x i e. absurd i; ends = λ e i. absurd i };
      voiced = record { rises = tt; sung = λ v i. absurd i; fed = λ v i. absurd i; one = λ v i. absurd i };
      ends = record { owns = λ v i. absurd i; leaves = λ v i. absurd i };
      held = λ n p. refl;
    }
