-- The laws of the questions and of the steal records.
use Prim.Native.Nat.{ℕ, zero, suc, ◌+◌, ◌-◌, ◌≤◌, ◌<◌}
use native.Mathlib.Omega.{arith}
use mathlib.Core.Path.{◌≡◌, refl, ap, ◌∙◌}
use mathlib.Core.List.{List, [], ◌∷◌, ◌++◌}
use Rattle.std.specs.Prelude.{cond, Option, None, Some, find, slice_get}
use lib.ListN.{length, drop, length-append}
use lib.Dec.{eqb, leb}
use Rattle.std.proofs.lemmas.Bool.{and_from}
use borrow.Author.Tests.{eqb-true, eq-eqb, le-leb, lt-leb}
use Rattle.lists.proofs.Member.{and_left, and_right}
use Rattle.node.specs.declared.record.NodeId.{NodeId}
use Rattle.node.specs.declared.record.VoiceId.{VoiceId}
use Rattle.node.specs.declared.record.Node.{Node}
use Rattle.node.specs.declared.record.Edge.{Edge}
use Rattle.edges.specs.Wiring.{ends_at}
use Rattle.edges.specs.Ports.{source_at, sources_from}
use Rattle.graph.specs.Node.{is_node}
use Rattle.voice.specs.declared.steals.StealRecord.{StealRecord}
use Rattle.voice.specs.Steals.{StealLog, last_of, cut_of, cut_at}
use Rattle.voice.specs.declared.voices.Voice.{Voice}
use Rattle.voice.specs.declared.voices.VoiceState.{VoiceState}
use Rattle.voice.specs.declared.voices.VoiceState.TheVariants.{Tracked, Fading, Loose}
use Rattle.voice.specs.Voice.{is_voice}
use Rattle.model.specs.Model.{Model}
use Rattle.model.specs.Call.{position_of, reached}
use Rattle.model.specs.Call as call
use Rattle.rules.specs.First.{First}
use Rattle.rules.specs.Reading.{HasId, IsNode, EndsAt, position_in, position_if, Questions, LogLaw, MarkLaw}
use Rattle.rules.proofs.Firsts.{found}

-- ---- rows
pub the_voice : (w : VoiceId) (vs : List Voice) → First (HasId w) vs (find (is_voice w) vs)
the_voice w vs = found (is_voice w) (HasId w) (λ v h. eqb-true _ _ h) (λ v e. eq-eqb _ _ e) vs

pub the_node : (k : NodeId) (ns : List Node) → First (IsNode k) ns (find (is_node k) ns)
the_node k ns = found (is_node k) (IsNode k) (λ n h. eqb-true _ _ h) (λ n e. eq-eqb _ _ e) ns

the_edge : (k : NodeId) (p : ℕ) (es : List Edge) → First (EndsAt k p) es (find (ends_at k p) es)
the_edge k p es =
    found (ends_at k p) (EndsAt k p)
    (λ e h. (eqb-true _ _ (and_left (eqb e.to.0 k.0) (eqb e.port p) h), eqb-true _ _ (and_right (eqb e.to.0 k.0) (eqb e.port p) h)))
    (λ e h. and_from (eqb e.to.0 k.0) (eqb e.port p) (eq-eqb _ _ h.0) (eq-eqb _ _ h.1)) es

at_place : (before : List Voice) (v : Voice) (after : List Voice) → slice_get (before ++ (v ∷ after)) (length before) ≡ Some v
at_place [] v after = refl
at_place (x ∷ before) v after = at_place before v after

past_end : (vs : List Voice) (i : ℕ) → length vs ≤ i → slice_get vs i ≡ None
past_end [] i h = refl
past_end (v ∷ vs) zero h = absurd (omega arith)
past_end (v ∷ vs) (suc i) h = past_end vs i (omega arith)

sources_long : (k : ℕ) (es : List Edge) (n : NodeId) (p : ℕ) → length (sources_from k es n p) ≡ k
unfolding sources_from
sources_long zero es n p = refl
sources_long (suc k) es n p = ap suc (sources_long k es n (suc p))

sources_at : (k : ℕ) (es : List Edge) (n : NodeId) (p i : ℕ) → i < k → slice_get (sources_from k es n p) i ≡ Some (source_at es n (p + i))
unfolding sources_from
sources_at zero es n p i h = absurd (omega arith)
sources_at (suc k) es n p zero h = let e : p ≡ p + 0 = omega arith in ap (λ j. Some (source_at es n j)) e
sources_at (suc k) es n p (suc i) h = let e : suc p + i ≡ p + suc i = omega arith in sources_at k es n (suc p) i (omega arith) ∙ ap (λ j. Some (source_at es n j)) e

same_state : (s : VoiceState) → position_of s ≡ position_in s
same_state Tracked = refl
same_state (Fading f) = refl
same_state Loose = refl

same_position : (o : Option Voice) → call.position_in o ≡ position_if o
same_position None = refl
same_position (Some v) = same_state v.state

pub questions : (m : Model) → Questions m
questions m = record {
  voices = refl;
  voice_at = λ before v after e. ap (λ vs. call.found (slice_get vs (length before))) e ∙ ap call.found (at_place before v after);
  past = λ i h. ap call.found (past_end m.voices i h);
  voice = λ w. (find (is_voice w) m.voices, the_voice w m.voices, refl);
  position = λ w. (find (is_voice w) m.voices, the_voice w m.voices, ap reached (same_position (find (is_voice w) m.voices)));
  node = λ k. (find (is_node k) m.shared.graph.nodes, the_node k m.shared.graph.nodes, refl);
  sources = λ k. (
    sources_from 64 m.shared.graph.edges k 0,
    refl,
    sources_long 64 m.shared.graph.edges k 0,
    λ p h. (
      find (ends_at k p) m.shared.graph.edges,
      the_edge k p m.shared.graph.edges,
      (let e : 0 + p ≡ p = omega arith in sources_at 64 m.shared.graph.edges k 0 p h ∙ ap (λ j. Some (source_at m.shared.graph.edges k j)) e),
    ),
  );
  steals = refl;
  edges = refl;
  processing = refl;
  clock = refl;
  same = λ q. refl;
}

-- ---- the steal records
pub log_law : (b : StealLog) (r : StealRecord) → LogLaw b r
log_law b r = record { counted = λ h. omega arith; few = few; full = full }
  where
    few : length b.newest < 64 → last_of 64 (b.newest ++ (r ∷ [])) ≡ b.newest ++ (r ∷ [])
    few h = let e : length (b.newest ++ (r ∷ [])) - 64 ≡ 0 = simp length-append (omega arith) in ap (λ k. drop k (b.newest ++ (r ∷ []))) e

    full : (old : StealRecord) (rest : List StealRecord) → b.newest ≡ old ∷ rest → length b.newest ≡ 64 → last_of 64 (b.newest ++ (r ∷ [])) ≡ rest ++ (r ∷ [])
    full old rest e h =
        let k : length (b.newest ++ (r ∷ [])) - 64 ≡ 1 = simp length-append (omega arith) in
        ap (λ i. drop i (b.newest ++ (r ∷ []))) k ∙ ap (λ l. drop 1 (l ++ (r ∷ []))) e

cut_there : (before : List StealRecord) (r : StealRecord) (after : List StealRecord) → cut_at (length before) (before ++ (r ∷ after)) ≡ before ++ (cut_of r ∷ after)
cut_there [] r after = refl
cut_there (x ∷ before) r after = ap (λ l. x ∷ l) (cut_there before r after)

pub mark_law : (b : StealLog) (k : ℕ) → MarkLaw b k
mark_law b k = record { held = held; gone = λ h. ap (λ t. cond t (cut_at (k - first) b.newest) b.newest) (lt-leb first k h); counted = refl }
  where
    first : ℕ
    first = b.count - length b.newest

    held : (before : List StealRecord) (r : StealRecord) (after : List StealRecord) → b.newest ≡ before ++ (r ∷ after) → k ≡ b.count - length b.newest + length before
        → cond (leb (b.count - length b.newest) k) (cut_at (k - (b.count - length b.newest)) b.newest) b.newest ≡ before ++ (cut_of r ∷ after)
    held before r after e h =
        let low : b.count - length b.newest ≤ k = omega arith in
        let at : k - (b.count - length b.newest) ≡ length before = omega arith in
        ap (λ t. cond t (cut_at (k - (b.count - length b.newest)) b.newest) b.newest) (le-leb (b.count - length b.newest) k low)
        ∙ ap (λ i. cut_at i b.newest) at ∙ ap (cut_at (length before)) e ∙ cut_there before r after
