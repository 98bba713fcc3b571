-- The state in 32 words, for a host that holds words only. Any words stand for a state, and what was written is read back.
use Rattle.node.specs.declared.record.NodeId.{NodeId}
use Rattle.std.specs.Prelude.{ℕ, ◌/◌, ◌%◌, ◌≡◌, refl, List, [], ◌∷◌, Bool, true, false, cond, eqb, get_or, Option, Some, None, is_some}
use Rattle.std.proofs.Common.{arith, ap, ◌∙◌}
use Rattle.voice.specs.declared.policy.StealPolicy.{StealPolicy}
use Rattle.voice.specs.declared.policy.BudgetScope.{BudgetScope}
use Rattle.words.specs.Fields.{long_from, long_at, is_set}
use Rattle.memory.specs.declared.state.State.{State}
use Rattle.store.specs.declared.config.Config.{Config}

abbrev pub budget_in : ℕ → ℕ → Option ℕ
budget_in tag n = cond (eqb tag 0) None (Some n)

abbrev pub flag_of : Bool → ℕ
flag_of true = 1
flag_of false = 0

-- whether a value is there, before the words of the value
abbrev pub some_flag : {A : Type 0} → Option A → ℕ
some_flag o = flag_of (is_some o)

abbrev pub budget_count : Option ℕ → ℕ
budget_count None = 0
budget_count (Some n) = n

abbrev pub policy_in : ℕ → StealPolicy
policy_in tag = cond (eqb tag 1) StealPolicy.Oldest (cond (eqb tag 2) StealPolicy.Newest (cond (eqb tag 3) StealPolicy.Quietest StealPolicy.Reject))

abbrev pub policy_tag : StealPolicy → ℕ
policy_tag StealPolicy.Reject = 0
policy_tag StealPolicy.Oldest = 1
policy_tag StealPolicy.Newest = 2
policy_tag StealPolicy.Quietest = 3

abbrev pub scope_in : ℕ → BudgetScope
scope_in tag = cond (eqb tag 0) BudgetScope.Global BudgetScope.PerGroup

abbrev pub scope_tag : BudgetScope → ℕ
scope_tag BudgetScope.Global = 0
scope_tag BudgetScope.PerGroup = 1

abbrev pub sink_in : ℕ → ℕ → Option NodeId
sink_in tag k = cond (eqb tag 0) None (Some (record { 0 = k }))

abbrev pub sink_id : Option NodeId → ℕ
sink_id None = 0
sink_id (Some k) = k.0

abbrev pub state_in : List ℕ → State
state_in w =
    record {
      config = record { rate = get_or w 0 0; block = long_at w 1; budget = budget_in (get_or w 3 0) (long_at w 4); policy = policy_in (get_or w 6 0); scope = scope_in (get_or w 7 0); table = is_set (get_or w 31 0) };
      nodes = long_at w 8;
      edges = long_at w 10;
      order = long_at w 12;
      voices = long_at w 14;
      events = long_at w 16;
      sink = sink_in (get_or w 18 0) (get_or w 19 0);
      prepared = is_set (get_or w 20 0);
      next = long_at w 21;
      clock = long_at w 23;
      spawned = long_at w 25;
      stolen = long_at w 27;
      place = long_at w 29;
    }

abbrev lo : ℕ → ℕ
lo x = x % 4294967296

abbrev hi : ℕ → ℕ
hi x = x / 4294967296

abbrev pub words_of : State → List ℕ
words_of s =
    s.config.rate ∷ lo s.config.block ∷ hi s.config.block
    ∷ some_flag s.config.budget ∷ lo (budget_count s.config.budget) ∷ hi (budget_count s.config.budget)
    ∷ policy_tag s.config.policy ∷ scope_tag s.config.scope
    ∷ lo s.nodes ∷ hi s.nodes ∷ lo s.edges ∷ hi s.edges ∷ lo s.order ∷ hi s.order
    ∷ lo s.voices ∷ hi s.voices ∷ lo s.events ∷ hi s.events
    ∷ some_flag s.sink ∷ sink_id s.sink ∷ flag_of s.prepared
    ∷ lo s.next ∷ hi s.next ∷ lo s.clock ∷ hi s.clock ∷ lo s.spawned ∷ hi s.spawned
    ∷ lo s.stolen ∷ hi s.stolen ∷ lo s.place ∷ hi s.place ∷ flag_of s.config.table ∷ []

pub halves : (x : ℕ) → long_from (lo x) (hi x) ≡ x
halves x = omega arith

pub budget_back : (b : Option ℕ) → budget_in (some_flag b) (long_from (lo (budget_count b)) (hi (budget_count b))) ≡ b
budget_back None = refl
budget_back (Some n) = ap Some (halves n)

pub policy_back : (p : StealPolicy) → policy_in (policy_tag p) ≡ p
policy_back StealPolicy.Reject = refl
policy_back StealPolicy.Oldest = refl
policy_back StealPolicy.Newest = refl
policy_back StealPolicy.Quietest = refl

pub scope_back : (g : BudgetScope) → scope_in (scope_tag g) ≡ g
scope_back BudgetScope.Global = refl
scope_back BudgetScope.PerGroup = refl

pub sink_back : (k : Option NodeId) → sink_in (some_flag k) (sink_id k) ≡ k
sink_back None = refl
sink_back (Some k) = refl

pub flag_back : (b : Bool) → is_set (flag_of b) ≡ b
flag_back true = refl
flag_back false = refl

pub state_back : (s : State) → state_in (words_of s) ≡ s
state_back s =
    rw (
      halves s.config.block,
      halves s.nodes,
      halves s.edges,
      halves s.order,
      halves s.voices,
      halves s.events,
      halves s.next,
      halves s.clock,
      halves s.spawned,
      halves s.stolen,
      halves s.place,
      budget_back s.config.budget,
      policy_back s.config.policy,
      scope_back s.config.scope,
      sink_back s.sink,
      flag_back s.prepared,
      flag_back s.config.table,
    ) refl

pub cons_eq : {x y : ℕ} {l m : List ℕ} → x ≡ y → l ≡ m → x ∷ l ≡ y ∷ m
cons_eq {y = y} {l = l} a b = ap (λ k. k ∷ l) a ∙ ap (λ k. y ∷ k) b

-- the words one by one
pub words_same : (s : State) (x1 x2 x3 x4 x5 x6 x7 x8 x9 x10 x11 x12 x13 x14 x15 x16 x17 x18 x19 x20 x21 x22 x23 x24 x25 x26 x27 x28 x29 x30 x31 : ℕ)
    → x1 ≡ lo s.config.block
    → x2 ≡ hi s.config.block
    → x3 ≡ some_flag s.config.budget
    → x4 ≡ lo (budget_count s.config.budget)
    → x5 ≡ hi (budget_count s.config.budget)
    → x6 ≡ policy_tag s.config.policy
    → x7 ≡ scope_tag s.config.scope
    → x8 ≡ lo s.nodes
    → x9 ≡ hi s.nodes
    → x10 ≡ lo s.edges
    → x11 ≡ hi s.edges
    → x12 ≡ lo s.order
    → x13 ≡ hi s.order
    → x14 ≡ lo s.voices
    → x15 ≡ hi s.voices
    → x16 ≡ lo s.events
    → x17 ≡ hi s.events
    → x18 ≡ some_flag s.sink
    → x19 ≡ sink_id s.sink
    → x20 ≡ flag_of s.prepared
    → x21 ≡ lo s.next
    → x22 ≡ hi s.next
    → x23 ≡ lo s.clock
    → x24 ≡ hi s.clock
    → x25 ≡ lo s.spawned
    → x26 ≡ hi s.spawned
    → x27 ≡ lo s.stolen
    → x28 ≡ hi s.stolen
    → x29 ≡ lo s.place
    → x30 ≡ hi s.place
    → x31 ≡ flag_of s.config.table
    → s.config.rate ∷ x1 ∷ x2 ∷ x3 ∷ x4 ∷ x5 ∷ x6 ∷ x7 ∷ x8 ∷ x9 ∷ x10 ∷ x11 ∷ x12 ∷ x13 ∷ x14 ∷ x15 ∷ x16 ∷ x17 ∷ x18 ∷ x19 ∷ x20 ∷ x21 ∷ x22 ∷ x23 ∷ x24 ∷ x25 ∷ x26 ∷ x27 ∷ x28 ∷ x29 ∷ x30 ∷ x31 ∷ [] ≡ words_of s
words_same s x1 x2 x3 x4 x5 x6 x7 x8 x9 x10 x11 x12 x13 x14 x15 x16 x17 x18 x19 x20 x21 x22 x23 x24 x25 x26 x27 x28 x29 x30 x31 h1 h2 h3 h4 h5 h6 h7 h8 h9 h10 h11 h12 h13 h14 h15 h16 h17 h18 h19 h20 h21 h22 h23 h24 h25 h26 h27 h28 h29 h30 h31 = cons_eq refl (cons_eq h1 (cons_eq h2 (cons_eq h3 (cons_eq h4 (cons_eq h5 (cons_eq h6 (cons_eq h7 (cons_eq h8 (cons_eq h9 (cons_eq h10 (cons_eq h11 (cons_eq h12 (cons_eq h13 (cons_eq h14 (cons_eq h15 (cons_eq h16 (cons_eq h17 (cons_eq h18 (cons_eq h19 (cons_eq h20 (cons_eq h21 (cons_eq h22 (cons_eq h23 (cons_eq h24 (cons_eq h25 (cons_eq h26 (cons_eq h27 (cons_eq h28 (cons_eq h29 (cons_eq h30 (cons_eq h31 refl)))))))))))))))))))))))))))))))

pub config_same : (c : Config) (block : ℕ) (budget : Option ℕ) (policy : StealPolicy) (scope : BudgetScope)
    → block ≡ c.block → budget ≡ c.budget → policy ≡ c.policy → scope ≡ c.scope
    → ◌≡◌ {A = Config} (record { rate = c.rate; block = block; budget = budget; policy = policy; scope = scope; table = c.table }) c
config_same c block budget policy scope a b p g = rw (a, b, p, g) refl

pub state_same : (s : State) (config : Config) (nodes edges order voices events : ℕ) (sink : Option NodeId) (next clock spawned stolen place : ℕ)
    → config ≡ s.config → nodes ≡ s.nodes → edges ≡ s.edges → order ≡ s.order → voices ≡ s.voices → events ≡ s.events → sink ≡ s.sink
    → next ≡ s.next → clock ≡ s.clock → spawned ≡ s.spawned → stolen ≡ s.stolen → place ≡ s.place
    → ◌≡◌ {A = State} (record { config = config; nodes = nodes; edges = edges; order = order; voices = voices; events = events; sink = sink; prepared = s.prepared; next = next; clock = clock; spawned = spawned; stolen = stolen; place = place }) s
state_same s config nodes edges order voices events sink next clock spawned stolen place a b d e f g h i j k l m = rw (a, b, d, e, f, g, h, i, j, k, l, m) refl
