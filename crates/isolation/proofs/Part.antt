-- The part of a ledger that belongs to one bus, as the bus by itself has it; and what every run keeps, that it can be told apart.
use Prim.Native.Nat.{ℕ, ◌+◌, ◌-◌, ◌≤◌, ◌<◌}
use native.Mathlib.Omega.{arith}
use mathlib.Core.Path.{◌≡◌, refl, sym, ap, ap₂, ◌∙◌, fun_ext}
use mathlib.Core.List.{List, map}
use Rattle.std.specs.Prelude.{Option, None, Some, filter, find, Float}
use mathlib.Core.Bool.{Bool, true, false, cond, ◌&&◌, true≢false, and_comm}
use lib.Dec.{eqb, ltb}
use borrow.Author.Tests.{ltb-true}
use Rattle.lists.specs.Member.{In}
use Rattle.lists.proofs.Filter.{filter_same, filter_filter}
use Rattle.lists.specs.Find.{Once}
use Rattle.lists.proofs.Find.{find_in, find_none}
use Rattle.node.specs.declared.record.NodeId.{NodeId}
use Rattle.node.specs.declared.record.VoiceId.{VoiceId}
use Rattle.node.specs.declared.record.Node.{Node}
use Rattle.graph.specs.Node.{is_node, node_at}
use Rattle.store.specs.declared.config.Config.{Config}
use Rattle.voice.specs.declared.voices.Voice.{Voice}
use Rattle.voice.specs.Voice.{id, is_voice, is_on}
use Rattle.model.specs.Voice.{node_level}
use Rattle.model.specs.Clear.{done_flag}
use Rattle.ledger.specs.Holder.{Holders, Holder, nobody, voice}
use Rattle.ledger.specs.Holder as holder
use Rattle.ledger.specs.Ledger.{Ledger}
use Rattle.ledger.proofs.Nodes.{OwnNodes}
use Rattle.isolation.specs.Story.{phase_of, ports_if}
use Rattle.isolation.proofs.Bus.{Own, Seat, empty, mine, BusPorts, Bus, port_count}
use Rattle.isolation.proofs.Bus as bus

-- ---- the part
abbrev pub seat_for : Option Voice → Seat
seat_for None = bus.host
seat_for (Some v) = mine v.sequence

abbrev pub seat_of : List Voice → Holder → Seat
seat_of vs nobody = empty
seat_of vs (holder.host k) = bus.host
seat_of vs (voice w) = seat_for (find (is_voice w) vs)

abbrev pub room_of : Node → BusPorts
room_of n = record { ports = n.ports; noise = n.noise }

abbrev pub host_ports : Option Node → Option BusPorts
host_ports None = None
host_ports (Some n) = cond (eqb n.owner.0 0) (Some (room_of n)) None

abbrev pub flag_at : List Node → Voice → ℕ → Bool
flag_at ns v i = cond (ltb i v.count) (done_flag (node_at ns (id (v.first.0 + i)))) false

abbrev pub own_of : List Node → Voice → Own
own_of ns v =
    record {
      number = v.sequence;
      rank = v.rank;
      birth = v.birth;
      port = v.port;
      count = v.count;
      output = v.output.0 - v.first.0;
      plan = v.plan;
      phase = phase_of v.state;
      level = node_level (node_at ns v.output);
      flags = flag_at ns v;
    }

abbrev pub ports_now : NodeId → List Node → Option BusPorts
ports_now b ns = host_ports (node_at ns b)

abbrev pub seats_for : NodeId → Option BusPorts → List Voice → Holders → ℕ → Seat
seats_for b o vs h p = cond (ltb p (port_count o)) (seat_of vs (h b.0 p)) empty

abbrev pub own_voices : NodeId → List Node → List Voice → List Own
own_voices b ns vs = map (own_of ns) (filter (is_on b) vs)

abbrev pub bus_of_lem : Config → ℕ → Option BusPorts → (ℕ → Seat) → List Own → Bus
bus_of_lem c t o h vs = record { config = c; clock = t; ports = o; seats = h; voices = vs }

abbrev pub bus_of : NodeId → Ledger → Bus
bus_of b l =
    bus_of_lem l.shared.config l.shared.clock (ports_now b l.shared.graph.nodes)
    (seats_for b (ports_now b l.shared.graph.nodes) l.voices l.holders) (own_voices b l.shared.graph.nodes l.voices)

-- ---- what every run keeps
pub record Seated (vs : List Voice) (n : ℕ) (w : VoiceId) : Type 0 where
  pub who : Voice
  pub lives : In who vs
  pub is : who.id.0 ≡ w.0
  pub on : who.bus.0 ≡ n

pub record Tidy (l : Ledger) : Type 0 where
  pub own : OwnNodes l
  -- no two nodes have one id
  pub rows : (k : NodeId) → Once (is_node k) l.shared.graph.nodes
  -- a voice's output is one of its definition's nodes
  pub outs : (v : Voice) → In v l.voices → (v.first.0 ≤ v.output.0) × (v.output.0 < v.first.0 + v.count)
  -- a voice that holds a port lives, and it is a port of its bus
  pub seated : (n p : ℕ) (w : VoiceId) → l.holders n p ≡ voice w → Seated l.voices n w
  -- no port of a node that is not yet there is held
  pub fresh : (n p : ℕ) → l.shared.graph.next ≤ n → l.holders n p ≡ nobody
  -- no two voices of one bus have one number, and all numbers of a bus are below its sequence, which never comes to its end
  pub single : (u v : Voice) → In u l.voices → In v l.voices → u.bus.0 ≡ v.bus.0 → u.sequence ≡ v.sequence → u ≡ v
  pub few : (x : Node) → In x l.shared.graph.nodes → x.noise ≤ l.shared.graph.next
  -- a voice's bus was a node of the host
  pub hosted : (v : Voice) → In v l.voices → (v.bus.0 < l.shared.graph.next) × ((n : Node) → node_at l.shared.graph.nodes v.bus ≡ Some n → (n.owner.0 ≡ 0) × (v.sequence < n.noise))

-- the ports of a bus, as the story has them
pub ports_at_lem : (o : Option Node) → ports_if o ≡ port_count (host_ports o)
ports_at_lem None = refl
ports_at_lem (Some n) = go (eqb n.owner.0 0)
  where
    go : (c : Bool) → cond c n.ports 0 ≡ port_count (cond c (Some (room_of n)) None)
    go true = refl
    go false = refl

-- ---- lists
pub find_one : {A : Type 0} (q : A → Bool) (l : List A) (v : A) → In v l → q v ≡ true → ((x : A) → In x l → q x ≡ true → x ≡ v) → find q l ≡ Some v
find_one q l v i h only = go (find q l) refl
  where
    go : (o : Option _) → find q l ≡ o → o ≡ Some v
    go None e = absurd (true≢false (sym h ∙ find_none q l v e i))
    go (Some x) e = let r = find_in q l x e in ap Some (only x r.0 r.1)

pub filter_swap : {A : Type 0} (t u : A → Bool) (l : List A) → filter t (filter u l) ≡ filter u (filter t l)
filter_swap t u l = filter_filter t u l ∙ filter_same (λ x. t x && u x) (λ x. u x && t x) l (λ x i. and_comm (t x) (u x)) ∙ sym (filter_filter u t l)

-- ---- a voice is the same while its nodes keep their levels and flags
abbrev pub Same : List Node → List Node → Voice → Type 0
Same ns ns' v = (k : ℕ) → v.first.0 ≤ k → k < v.first.0 + v.count
    → (node_level (node_at ns' (id k)) ≡ node_level (node_at ns (id k))) × (done_flag (node_at ns' (id k)) ≡ done_flag (node_at ns (id k)))

pub own_same : (ns ns' : List Node) (v : Voice) → (v.first.0 ≤ v.output.0) × (v.output.0 < v.first.0 + v.count) → Same ns ns' v → own_of ns' v ≡ own_of ns v
own_same ns ns' v o s = ap₂ with_nodes (s v.output.0 o.0 o.1).0 (fun_ext flag)
  where
    with_nodes : Option Float → (ℕ → Bool) → Own
    with_nodes lv fl = record { number = v.sequence; rank = v.rank; birth = v.birth; port = v.port; count = v.count; output = v.output.0 - v.first.0; plan = v.plan; phase = phase_of v.state; level = lv; flags = fl }

    flag : (i : ℕ) → flag_at ns' v i ≡ flag_at ns v i
    flag i = go (ltb i v.count) refl
      where
        go : (b : Bool) → ltb i v.count ≡ b → cond b (done_flag (node_at ns' (id (v.first.0 + i)))) false ≡ cond b (done_flag (node_at ns (id (v.first.0 + i)))) false
        go false e = refl
        go true e = let h : i < v.count = ltb-true _ _ e in (s (v.first.0 + i) (omega arith) (omega arith)).1
