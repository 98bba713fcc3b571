-- When two lists of a board's calls agree for a bus. 02, Paper 14: "for Paper 6 sealing, with its answer, is a call of every bus."
-- The other calls are those of isolation's `Agree`, with Paper 11's "a turn counts as the spawn it serves, and a wish as no call". What is compared are the calls that were made, whether
-- or not a seal let them through: a spawn on the bus is a call of it also where it was closed, as one that the store refuses is. A call of the host that is closed is refused and
-- changes nothing, so it is none, as where the store refuses it.
use Rattle.std.specs.Prelude.{◌≡◌, List, [], ◌∷◌, ◌++◌, map, Bool, true, false}
use Rattle.node.specs.declared.record.NodeId.{NodeId}
use Rattle.store.specs.declared.config.Config.{Config}
use Rattle.model.specs.Spawn.{Spawn}
use Rattle.model.specs.Call.{Call}
use Rattle.model.specs.Call as call
use Rattle.ledger.specs.Ledger.{Ledger, new_ledger}
use Rattle.ledger.specs.Call.{step}
use Rattle.console.specs.Console.{calls_of}
use Rattle.isolation.specs.Story.{is_bus}
use Rattle.isolation.specs.Agree.{Matching, SameNode, OneToOne, is_call_of, SameSpawn, Equal}
use Rattle.sealed.specs.declared.profile.Profile.{Profile}
use Rattle.sealed.specs.Board.{Board, BoardCall, on, seal, BoardAnswer, closed, board_step}

-- ---- what was asked of a board: a sealing, with its answer; a call of the store that the seal let through; one that it closed, with 28
pub data Asked : Type 0 where
  sealing : Profile → BoardAnswer → Asked
  passed : Call → Asked
  shut : Call → Asked

abbrev pub marked : Bool → Call → Asked
marked true c = shut c
marked false c = passed c

abbrev pub asked_by : BoardCall → Board → List Asked
asked_by (on c) b = map (marked (closed b.seal c)) (calls_of c b.console.wishes)
asked_by (seal s) b = sealing s (board_step (seal s) b).answer ∷ []

-- of the board b by a list of calls
abbrev pub asked : List BoardCall → Board → List Asked
asked [] b = []
asked (x ∷ xs) b = asked_by x b ++ asked xs (board_step x b).board

-- ---- which of these are the bus's
abbrev pub spawns_on : NodeId → Call → Bool
spawns_on b (call.spawn_managed x) = is_bus b x.bus
spawns_on b (call.spawn_loose x) = is_bus b x.bus
spawns_on b (call.add_node kind ports required values glides) = false
spawns_on b (call.remove_node k) = false
spawns_on b (call.connect a k p) = false
spawns_on b (call.disconnect k p) = false
spawns_on b (call.set_sink k) = false
spawns_on b (call.free w) = false
spawns_on b call.clear = false
spawns_on b (call.order w name o) = false
spawns_on b (call.schedule t w name a) = false
spawns_on b (call.report k channels samples flag) = false
spawns_on b call.prepare = false
spawns_on b (call.render out) = false
spawns_on b (call.ask q) = false

abbrev pub is_asked_of : NodeId → Asked → Ledger → Bool
-- "a call of every bus", whichever it names
is_asked_of b (sealing s a) l = true
is_asked_of b (passed x) l = is_call_of b x l
is_asked_of b (shut x) l = spawns_on b x

-- the ledger is fed what the seal let through
abbrev pub ledger_by : Asked → Ledger → Ledger
ledger_by (sealing s a) l = l
ledger_by (passed x) l = (step x l).ledger
ledger_by (shut x) l = l

-- ---- when two of them are the same up to the matching
-- P, H and G decide the answer of a sealing and nothing after it, and the answer is compared: so they need not be equal, and the boards may hold other nodes and edges besides the bus
pub record SameProfile (m : Matching) (s t : Profile) : Type 0 where
  pub bus : SameNode m s.bus t.bus
  pub def_nodes : s.def_nodes ≡ t.def_nodes
  pub def_edges : s.def_edges ≡ t.def_edges

-- two spawns by their arguments alone
pub data SameSpawns (m : Matching) : Call → Call → Type 0 where
  managed : {x y : Spawn} → SameSpawn m x y → SameSpawns m (call.spawn_managed x) (call.spawn_managed y)
  loose : {x y : Spawn} → SameSpawn m x y → SameSpawns m (call.spawn_loose x) (call.spawn_loose y)

pub data Same (m : Matching) (b₁ b₂ : NodeId) : Asked → Ledger → Asked → Ledger → Type 0 where
  -- "sealing, with its answer"
  sealings : {s t : Profile} {a c : BoardAnswer} {k l : Ledger} → SameProfile m s t → a ≡ c → Same m b₁ b₂ (sealing s a) k (sealing t c) l
  both_passed : {x y : Call} {k l : Ledger} → Equal m b₁ b₂ x k y l → Same m b₁ b₂ (passed x) k (passed y) l
  -- of a spawn that was closed nobody arrives. That the other is closed too is not asked: that is what the theorem says
  both_shut : {x y : Call} {k l : Ledger} → SameSpawns m x y → Same m b₁ b₂ (shut x) k (shut y) l
  first_shut : {x y : Call} {k l : Ledger} → SameSpawns m x y → Same m b₁ b₂ (shut x) k (passed y) l
  second_shut : {x y : Call} {k l : Ledger} → SameSpawns m x y → Same m b₁ b₂ (passed x) k (shut y) l

-- ---- two lists, from two ledgers: what is none of the bus may stand anywhere in either; the bus's stand in one order, and are the same
pub data AgreeAsked (m : Matching) (b₁ b₂ : NodeId) : List Asked → Ledger → List Asked → Ledger → Type 0 where
  ends : {k l : Ledger} → AgreeAsked m b₁ b₂ [] k [] l
  first : {x : Asked} {xs ys : List Asked} {k l : Ledger} → is_asked_of b₁ x k ≡ false → AgreeAsked m b₁ b₂ xs (ledger_by x k) ys l → AgreeAsked m b₁ b₂ (x ∷ xs) k ys l
  second : {y : Asked} {xs ys : List Asked} {k l : Ledger} → is_asked_of b₂ y l ≡ false → AgreeAsked m b₁ b₂ xs k ys (ledger_by y l) → AgreeAsked m b₁ b₂ xs k (y ∷ ys) l
  both : {x y : Asked} {xs ys : List Asked} {k l : Ledger} → is_asked_of b₁ x k ≡ true → is_asked_of b₂ y l ≡ true → Same m b₁ b₂ x k y l
      → AgreeAsked m b₁ b₂ xs (ledger_by x k) ys (ledger_by y l) → AgreeAsked m b₁ b₂ (x ∷ xs) k (y ∷ ys) l

-- of boards whose stores were "made alike", by the configuration c
pub record BoardAgreement (m : Matching) (c : Config) (b₁ b₂ : NodeId) (xs₁ xs₂ : List Asked) : Type 0 where
  pub nodes : OneToOne m.nodes
  pub voices : OneToOne m.voices
  pub bus : SameNode m b₁ b₂
  pub calls : AgreeAsked m b₁ b₂ xs₁ (new_ledger c) xs₂ (new_ledger c)
