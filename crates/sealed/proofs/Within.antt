-- The invariant of a sealed ledger: every voice is on the sealed bus and holds a port of it; host nodes are H; each voice owns at most
-- D + 2 nodes, and its fade; edges from host nodes are at most G, from each voice's nodes at most E + 3, and one more once it fades.
-- Kept here by what is not a spawn.
use Prim.Native.Nat.{ℕ, suc, ◌+◌, ◌≤◌, ◌<◌}
use native.Mathlib.Omega.{arith}
use mathlib.Core.Path.{◌≡◌, refl, sym, ap, ◌∙◌}
use mathlib.Core.Logic.{inl, inr}
use mathlib.Core.List.{List, [], ◌∷◌, map}
use Rattle.std.specs.Prelude.{Option, None, Some, filter}
use mathlib.Core.Bool.{Bool, true, false, not, cond, false≢true}
use lib.Dec.{eqb}
use borrow.Author.Tests.{eqb-true, eq-eqb, ne_eqb, not-true}
use Rattle.lists.specs.Member.{In}
use Rattle.lists.proofs.Member.{some_inj, in_map}
use Rattle.lists.proofs.Filter.{in_filter}
use Rattle.lists.proofs.Find.{find_in}
use Rattle.lists.specs.Count.{more, count}
use Rattle.lists.proofs.Count.{count_filter, count_weaker}
use Rattle.edges.specs.Wiring.{among, touches, drop_touching}
use Rattle.graph.specs.Node.{is_node, owned_by, node_at, replaced}
use Rattle.graph.specs.Change.{ids_of}
use Rattle.voice.specs.Voice.{id, is_voice, moved_state, moved}
use Rattle.model.specs.Render.{is_sounding}
use Rattle.ledger.specs.Holder.{Holder, Holders, nobody, host, voice, by_voice, drop_voice}
use Rattle.ledger.specs.Ledger.{Ledger}
use Rattle.ledger.specs.Render.{one_more, counted_if}
use Rattle.ledger.specs.Claim.{owner_at}
use Rattle.ledger.proofs.Owner.{ports_at, Listed, once, owner_thin, ports_thin, listed_thin, dead_voice, owner_replaced, ports_replaced, listed_replaced}
use Rattle.node.specs.declared.record.NodeId.{NodeId}
use Rattle.node.specs.declared.record.VoiceId.{VoiceId}
use Rattle.node.specs.declared.record.Node.{Node}
use Rattle.node.specs.declared.record.Edge.{Edge}
use Rattle.voice.specs.declared.voices.Voice.{Voice}
use Rattle.voice.specs.declared.voices.VoiceState.{VoiceState}
use Rattle.voice.specs.declared.voices.VoiceState.TheVariants.{Tracked, Fading, Loose}
use Rattle.ledger.proofs.Preserved.{OpenMoves}
use Rattle.sealed.specs.declared.profile.Profile.{Profile}
use Rattle.sealed.proofs.Open.{Positive}

abbrev pub owned_n : ℕ → Node → Bool
owned_n k x = eqb x.owner.0 k

abbrev pub is_owner : Option ℕ → ℕ → Bool
is_owner None k = false
is_owner (Some j) k = eqb j k

-- the edge leaves a node of that owner
abbrev pub from_owner : List Node → ℕ → Edge → Bool
from_owner ns k e = is_owner (owner_at ns e.from.0) k

abbrev pub fades : VoiceState → ℕ
fades Tracked = 0
fades (Fading f) = 1
fades Loose = 0

pub record Within (s : Profile) (ns : List Node) (es : List Edge) (nx nv : ℕ) (vs : List Voice) (h : Holders) : Type 0 where
  pub listed : Listed ns nx nv
  pub positive : (v : Voice) → In v vs → 0 < v.id.0
  pub bus : owner_at ns s.bus.0 ≡ Some 0
  pub ports : ports_at ns s.bus.0 ≡ s.ports
  -- I1, I2
  pub on : (v : Voice) → In v vs → v.bus.0 ≡ s.bus.0
  pub holds : (v : Voice) → In v vs → (p : ℕ) × (p < s.ports) × (by_voice v.id (h s.bus.0 p) ≡ true)
  -- I3
  pub hosts : count (owned_n 0) ns ≡ s.host_nodes
  pub nodes : (v : Voice) → In v vs → count (owned_n v.id.0) ns ≤ s.def_nodes + 2 + fades v.state
  -- I4
  pub wires : count (from_owner ns 0) es ≤ s.host_edges
  pub edges : (v : Voice) → In v vs → count (from_owner ns v.id.0) es ≤ s.def_edges + 3 + fades v.state

abbrev pub WithinL : Profile → Ledger → Type 0
WithinL s l = Within s l.shared.graph.nodes l.shared.graph.edges l.shared.graph.next l.shared.spawned l.voices l.holders

-- ---- counts
count_kept : {A : Type 0} (q t : A → Bool) (l : List A) → ((x : A) → q x ≡ true → t x ≡ true) → count q (filter t l) ≡ count q l
count_kept q t [] h = refl
count_kept {A} q t (x ∷ l) h = go (q x) refl (t x) refl (count_kept q t l h)
  where
    go : (a : Bool) → q x ≡ a → (b : Bool) → t x ≡ b → count q (filter t l) ≡ count q l → count q (cond b (x ∷ (filter t l)) (filter t l)) ≡ more a (count q l)
    go true e true f ih = rw e (ap suc ih)
    go true e false f ih = absurd (false≢true (sym f ∙ h x e))
    go false e true f ih = rw e ih
    go false e false f ih = ih

pub count_mapped : {A : Type 0} (q : A → Bool) (f : A → A) (l : List A) → ((x : A) → In x l → q (f x) ≡ q x) → count q (map f l) ≡ count q l
count_mapped q f [] h = refl
count_mapped q f (x ∷ l) h = rw (h x (inl refl), count_mapped q f l (λ y i. h y (inr i)))

-- ---- a voice is removed
drop_holds : (x : Holder) (v w : VoiceId) → by_voice v x ≡ true → eqb v.0 w.0 ≡ false → by_voice v (cond (by_voice w x) nobody x) ≡ true
drop_holds nobody v w a b = absurd (false≢true a)
drop_holds (host k) v w a b = absurd (false≢true a)
drop_holds (voice u) v w a b =
    let e : u.0 ≡ v.0 = eqb-true _ _ a in
    let f : eqb u.0 w.0 ≡ false = ap (λ n. eqb n w.0) e ∙ b in
    rw f a

thin_owner : (b : Bool) (o : Option ℕ) (k : ℕ) → is_owner (cond b None o) k ≡ true → is_owner o k ≡ true
thin_owner true o k h = absurd (false≢true h)
thin_owner false o k h = h

module _ {s : Profile} {ns : List Node} {es : List Edge} {nx nv : ℕ} {vs : List Voice} {h : Holders} (r : Within s ns es nx nv vs h) where
  pub within_removed : (w : VoiceId) → 0 < w.0 → Within s (filter (λ x. not (owned_by w x)) ns) (drop_touching es (ids_of (owned_by w) ns)) nx nv (filter (λ v. not (is_voice w v)) vs) (drop_voice w h)
  within_removed w pos =
      record {
        listed = listed_thin r.listed (owned_by w);
        positive = λ v i. r.positive v (old v i);
        bus = owner_thin r.listed (owned_by w) s.bus.0 ∙ rw safe r.bus;
        ports = ports_thin r.listed (owned_by w) s.bus.0 safe ∙ r.ports;
        on = λ v i. r.on v (old v i);
        holds = λ v i. let z = r.holds v (old v i) in (z.0, z.1, drop_holds (h s.bus.0 z.0) v.id w z.2 (not-true _ (in_filter (λ v. not (is_voice w v)) vs v i).1));
        hosts = count_kept (owned_n 0) (λ x. not (owned_by w x)) ns host_stays ∙ r.hosts;
        nodes = λ v i. omega (arith, r.nodes v (old v i), count_filter (owned_n v.id.0) (λ x. not (owned_by w x)) ns);
        wires = omega (arith, r.wires, less 0);
        edges = λ v i. omega (arith, r.edges v (old v i), less v.id.0);
      }
    where
      old : (v : Voice) → In v (filter (λ v. not (is_voice w v)) vs) → In v vs
      old v i = (in_filter (λ v. not (is_voice w v)) vs v i).0

      safe : among (ids_of (owned_by w) ns) (id s.bus.0) ≡ false
      safe = dead_voice r.listed w s.bus.0 0 r.bus ∙ ne_eqb 0 w.0 (λ q. omega arith)

      host_stays : (x : Node) → owned_n 0 x ≡ true → not (owned_by w x) ≡ true
      host_stays x e = ap not (ne_eqb x.owner.0 w.0 (λ q. let z : x.owner.0 ≡ 0 = eqb-true _ _ e in omega arith))

      less : (k : ℕ) → count (from_owner (filter (λ x. not (owned_by w x)) ns) k) (drop_touching es (ids_of (owned_by w) ns)) ≤ count (from_owner ns k) es
      less k =
          let es' = drop_touching es (ids_of (owned_by w) ns) in
          let a = count_weaker (from_owner (filter (λ x. not (owned_by w x)) ns) k) (from_owner ns k) es' (λ e i t.
          thin_owner (among (ids_of (owned_by w) ns) (id e.from.0)) (owner_at ns e.from.0) k (sym (ap (λ o. is_owner o k) (owner_thin r.listed (owned_by w) e.from.0)) ∙ t)) in
          let b = count_filter (from_owner ns k) (λ e. not (touches (ids_of (owned_by w) ns) e)) es in
          omega (arith, a, b)

  -- a node's record changes
  within_replaced : (y x : Node) (k : NodeId) → node_at ns k ≡ Some x → y.id.0 ≡ x.id.0 → y.owner.0 ≡ x.owner.0 → y.ports ≡ x.ports → Within s (replaced ns y) es nx nv vs h
  within_replaced y x k e i o p =
      record {
        listed = listed_replaced r.listed y x k e i o p;
        positive = r.positive;
        bus = owner_replaced r.listed y x k e i o p s.bus.0 ∙ r.bus;
        ports = ports_replaced r.listed y x k e i o p s.bus.0 ∙ r.ports;
        on = r.on;
        holds = r.holds;
        hosts = same 0 ∙ r.hosts;
        nodes = λ v j. omega (arith, r.nodes v j, same v.id.0);
        wires = omega (arith, r.wires, less 0);
        edges = λ v j. omega (arith, r.edges v j, less v.id.0);
      }
    where
      only : (m : Node) → In m ns → is_node y.id m ≡ true → m ≡ x
      only m j q =
          let f = find_in (is_node k) ns x e in
          let z : m.id.0 ≡ k.0 = eqb-true _ _ q ∙ i ∙ eqb-true _ _ f.1 in
          some_inj (sym (once r.listed k m j (eq-eqb _ _ z)) ∙ e)

      same : (j : ℕ) → count (owned_n j) (replaced ns y) ≡ count (owned_n j) ns
      same j = count_mapped (owned_n j) (λ m. cond (is_node y.id m) y m) ns (λ m q. go m q (is_node y.id m) refl)
        where
          go : (m : Node) → In m ns → (b : Bool) → is_node y.id m ≡ b → owned_n j (cond b y m) ≡ owned_n j m
          go m q true z = ap (λ n. eqb n j) (o ∙ ap (λ (n : Node). n.owner.0) (sym (only m q z)))
          go m q false z = refl

      less : (j : ℕ) → count (from_owner (replaced ns y) j) es ≤ count (from_owner ns j) es
      less j = count_weaker (from_owner (replaced ns y) j) (from_owner ns j) es (λ d q t. sym (ap (λ u. is_owner u j) (owner_replaced r.listed y x k e i o p d.from.0)) ∙ t)

  -- a change of the voices that leaves id, bus and whether they fade
  within_map : (f : Voice → Voice) → ((v : Voice) → (f v).id ≡ v.id) → ((v : Voice) → (f v).bus ≡ v.bus) → ((v : Voice) → fades (f v).state ≡ fades v.state) → Within s ns es nx nv (map f vs) h
  within_map f fi fb ff =
      record {
        listed = r.listed;
        positive = λ v i. let z = in_map f vs v i in rw (z.2, fi z.0) (r.positive z.0 z.1);
        bus = r.bus;
        ports = r.ports;
        on = λ v i. let z = in_map f vs v i in rw (z.2, fb z.0) (r.on z.0 z.1);
        holds = λ v i. let z = in_map f vs v i in rw (z.2, fi z.0) (r.holds z.0 z.1);
        hosts = r.hosts;
        nodes = λ v i. let z = in_map f vs v i in rw (z.2, fi z.0, ff z.0) (r.nodes z.0 z.1);
        wires = r.wires;
        edges = λ v i. let z = in_map f vs v i in rw (z.2, fi z.0, ff z.0) (r.edges z.0 z.1);
      }

moved_fades : (more : ℕ → ℕ) (s : VoiceState) → fades (moved_state more s) ≡ fades s
moved_fades more Tracked = refl
moved_fades more (Fading f) = refl
moved_fades more Loose = refl

pub within_moves : (s : Profile) → OpenMoves Positive (WithinL s)
within_moves s =
    record {
      known = λ l r. r.positive;
      goes = λ l w pos r. within_removed r w pos;
      node = λ l k x n e a r. within_replaced r n x k e (ap (λ (z : NodeId). z.0) a.id) (ap (λ (z : VoiceId). z.0) a.owner) a.ports;
      schedule = λ l e f r. again l r;
      rest = λ l r. again l r;
      prepare = λ l o r. again l r;
      block = λ l a r. counts l (is_sounding a) r;
    }
  where
    again : (l : Ledger) → WithinL s l → WithinL s l
    again l r = r

    counts : (l : Ledger) (b : Bool) → WithinL s l → Within s l.shared.graph.nodes l.shared.graph.edges l.shared.graph.next l.shared.spawned (counted_if b l.voices) l.holders
    counts l true r = within_map r (moved one_more) (λ v. refl) (λ v. refl) (λ v. moved_fades one_more v.state)
    counts l false r = r
