-- The level of a voice, and the laws of a report.
use Prim.Native.Nat.{ℕ, ◌+◌, ◌*◌, ◌≤◌, ◌<◌}
use native.Mathlib.Omega.{arith}
use mathlib.Core.Path.{◌≡◌, refl, sym, ap, ◌∙◌}
use mathlib.Core.Logic.{◌⊎◌, inl, inr}
use mathlib.Core.List.{List, [], ◌∷◌, ◌++◌}
use Rattle.std.specs.Prelude.{Option, None, Some, cond, find}
use mathlib.Core.Bool.{Bool, true, false, not, ◌||◌, false≢true}
use lib.ListN.{length}
use lib.Dec.{eqb, leb, ltb}
use lib.Ieee.{Float}
use Rattle.std.proofs.lemmas.Bool.{and_from}
use borrow.Author.Tests.{eqb-true, eq-eqb, ne_eqb, le-leb, leb-true, lt-ltb, ltb-true, le-ltb}
use Rattle.lists.specs.Member.{In}
use Rattle.lists.proofs.Member.{and_left, and_right}
use Rattle.level.specs.Level.{level_of}
use Rattle.node.specs.declared.record.NodeId.{NodeId}
use Rattle.node.specs.declared.record.VoiceId.{VoiceId}
use Rattle.node.specs.declared.record.Node.{Node}
use Rattle.node.specs.declared.refusal.Refusal.TheVariants.{UnknownNode, LentBlock}
use Rattle.graph.specs.Node.{is_node, node_at, replaced}
use Rattle.graph.specs.Refuse.{when}
use Rattle.voice.specs.declared.voices.Voice.{Voice}
use Rattle.model.specs.SharedState.{SharedState}
use Rattle.voice.specs.Voice.{is_voice}
use Rattle.model.specs.Voice.{node_level, level_or}
use Rattle.model.specs.Refuse.{of_definition, reports, lent_block}
use Rattle.model.specs.Order.{with_report, report_node}
use Rattle.model.specs.Model.{Model}
use Rattle.model.specs.Call.{Step, unless, shared_step, known}
use Rattle.model.specs.Call as call
use Rattle.rules.proofs.Booleans.{or_left, or_right}
use Rattle.rules.specs.First.{First}
use Rattle.rules.specs.Reading.{HasId, IsNode}
use Rattle.rules.specs.Sound.{VoiceLevel, level_if, LevelAsked, RecordLaw, MayReport, IsBlock, noted, with_rows, report, ReportLaw}
use Rattle.rules.proofs.Firsts.{first_found}
use Rattle.rules.proofs.Questions.{the_voice, the_node}

-- the first node of that id, and the first voice, as the searches find them
node_found : (k : NodeId) (ns : List Node) (o : Option Node) → First (IsNode k) ns o → node_at ns k ≡ o
node_found k ns o f = first_found (is_node k) (IsNode k) (λ n h. eqb-true _ _ h) (λ n e. eq-eqb _ _ e) ns o f

voice_found : (w : VoiceId) (vs : List Voice) (o : Option Voice) → First (HasId w) vs o → find (is_voice w) vs ≡ o
voice_found w vs o f = first_found (is_voice w) (HasId w) (λ n h. eqb-true _ _ h) (λ n e. eq-eqb _ _ e) vs o f

-- ---- the level of a voice
pub voice_levels : (d : SharedState) (v : Voice) → VoiceLevel d v
voice_levels d v = record {
  known = λ h n f. ap (λ b. cond b (node_level (node_at d.graph.nodes v.output)) None) (lt-ltb v.birth d.clock h) ∙ ap node_level (node_found v.output d.graph.nodes (Some n) f);
  dead = λ f. ap (λ o. cond (ltb v.birth d.clock) (node_level o) None) (node_found v.output d.graph.nodes None f) ∙ none_either (ltb v.birth d.clock);
  unborn = λ h. ap (λ b. cond b (node_level (node_at d.graph.nodes v.output)) None) (le-ltb v.birth d.clock h);
  asked = refl;
}
  where
    none_either : (b : Bool) → ◌≡◌ {A = Option Float} (cond b None None) None
    none_either true = refl
    none_either false = refl

same_level : (d : SharedState) (o : Option Voice) → level_or d o ≡ level_if d o
same_level d None = refl
same_level d (Some v) = refl

pub level_asked : LevelAsked
level_asked m w = (find (is_voice w) m.voices, the_voice w m.voices, ap known (same_level m.shared (find (is_voice w) m.voices)))

pub record_law : (clock : ℕ) (o : Option Float) (cut : Bool) → RecordLaw clock o cut
record_law clock None cut = record { sample = refl; level = refl; cut_so = refl }
record_law clock (Some x) cut = record { sample = refl; level = refl; cut_so = refl }

-- ---- reports
module _ (m : Model) (k : NodeId) where
  may : MayReport m k → reports m.voices (node_at m.shared.graph.nodes k) ≡ true
  may (n, f, o) = ap (reports m.voices) (node_found k m.shared.graph.nodes (Some n) f) ∙ go o
    where
      same : n.id.0 ≡ k.0
      same = f.3

      go : (n.owner.0 ≡ 0) ⊎ ((v : Voice) × First (HasId n.owner) m.voices (Some v) × (v.first.0 ≤ k.0) × (k.0 < v.first.0 + v.count)) → reports m.voices (Some n) ≡ true
      go (inl h) = or_left (eqb n.owner.0 0) (of_definition n.id.0 (find (is_voice n.owner) m.voices)) (eq-eqb n.owner.0 0 h)
      go (inr (v, g, a, b)) =
          let low : v.first.0 ≤ n.id.0 = omega (arith, same, a) in
          let high : n.id.0 < v.first.0 + v.count = omega (arith, same, b) in
          or_right (eqb n.owner.0 0) (of_definition n.id.0 (find (is_voice n.owner) m.voices))
          (ap (of_definition n.id.0) (voice_found n.owner m.voices (Some v) g)
          ∙ and_from (leb v.first.0 n.id.0) (ltb n.id.0 (v.first.0 + v.count)) (le-leb _ _ low) (lt-ltb _ _ high))

  might : reports m.voices (node_at m.shared.graph.nodes k) ≡ true → MayReport m k
  might h = go (node_at m.shared.graph.nodes k) (the_node k m.shared.graph.nodes) h
    where
      within : (n : Node) → n.id.0 ≡ k.0 → (o : Option Voice) → First (HasId n.owner) m.voices o → of_definition n.id.0 o ≡ true
          → (v : Voice) × First (HasId n.owner) m.voices (Some v) × (v.first.0 ≤ k.0) × (k.0 < v.first.0 + v.count)
      within n e None f h = absurd (false≢true h)
      within n e (Some v) f h =
          let a = leb-true v.first.0 n.id.0 (and_left (leb v.first.0 n.id.0) (ltb n.id.0 (v.first.0 + v.count)) h) in
          let b = ltb-true n.id.0 (v.first.0 + v.count) (and_right (leb v.first.0 n.id.0) (ltb n.id.0 (v.first.0 + v.count)) h) in
          (v, f, omega (arith, e, a), omega (arith, e, b))

      owned : (n : Node) → n.id.0 ≡ k.0 → (b : Bool) → eqb n.owner.0 0 ≡ b → (b || of_definition n.id.0 (find (is_voice n.owner) m.voices)) ≡ true
          → (n.owner.0 ≡ 0) ⊎ ((v : Voice) × First (HasId n.owner) m.voices (Some v) × (v.first.0 ≤ k.0) × (k.0 < v.first.0 + v.count))
      owned n e true is h = inl (eqb-true n.owner.0 0 is)
      owned n e false is h = inr (within n e (find (is_voice n.owner) m.voices) (the_voice n.owner m.voices) h)

      go : (o : Option Node) → First (IsNode k) m.shared.graph.nodes o → reports m.voices o ≡ true → MayReport m k
      go None f h = absurd (false≢true h)
      go (Some n) f h = (n, f, owned n f.3 (eqb n.owner.0 0) refl h)

-- one row of a list is replaced
others_stay : (k : NodeId) (n : Node) → n.id.0 ≡ k.0 → (ns : List Node) → ((o : Node) → In o ns → IsNode k o → ⊥) → replaced ns n ≡ ns
others_stay k n e [] h = refl
others_stay k n e (x ∷ ns) h =
    let off : eqb x.id.0 n.id.0 ≡ false = ne_eqb x.id.0 n.id.0 (λ p. h x (inl refl) (p ∙ e)) in
    rw (off, others_stay k n e ns (λ o i. h o (inr i))) refl

row_replaced : (k : NodeId) (old n : Node) → old.id.0 ≡ k.0 → n.id.0 ≡ k.0 → (before after : List Node) → ((o : Node) → In o before → IsNode k o → ⊥)
    → ((o : Node) → In o after → IsNode k o → ⊥) → replaced (before ++ (old ∷ after)) n ≡ before ++ (n ∷ after)
row_replaced k old n p e [] after g h =
    let on : eqb old.id.0 n.id.0 ≡ true = eq-eqb old.id.0 n.id.0 (p ∙ sym e) in
    rw (on, others_stay k n e after h) refl
row_replaced k old n p e (x ∷ before) after g h =
    let off : eqb x.id.0 n.id.0 ≡ false = ne_eqb x.id.0 n.id.0 (λ q. g x (inl refl) (q ∙ e)) in
    rw (off, row_replaced k old n p e before after (λ o i. g o (inr i)) h) refl

module _ (m : Model) (k : NodeId) (channels : ℕ) (samples : List Float) (done : Bool) where
  abbrev block : ℕ
  block = m.shared.config.block

  fitting : IsBlock m channels samples → lent_block block channels (length samples) ≡ true
  fitting b = and_from (eqb channels 1 || eqb channels 2) (eqb (length samples) (channels * block)) (count b.0) (eq-eqb _ _ b.1)
    where
      count : (channels ≡ 1) ⊎ (channels ≡ 2) → (eqb channels 1 || eqb channels 2) ≡ true
      count (inl e) = or_left (eqb channels 1) (eqb channels 2) (eq-eqb channels 1 e)
      count (inr e) = or_right (eqb channels 1) (eqb channels 2) (eq-eqb channels 2 e)

  fits_block : lent_block block channels (length samples) ≡ true → IsBlock m channels samples
  fits_block h = (
    count (eqb channels 1) refl (and_left (eqb channels 1 || eqb channels 2) (eqb (length samples) (channels * block)) h),
    eqb-true _ _ (and_right (eqb channels 1 || eqb channels 2) (eqb (length samples) (channels * block)) h),
  )
    where
      count : (b : Bool) → eqb channels 1 ≡ b → (b || eqb channels 2) ≡ true → (channels ≡ 1) ⊎ (channels ≡ 2)
      count true e h = inl (eqb-true channels 1 e)
      count false e h = inr (eqb-true channels 2 h)

  -- what the call is, by its two tests
  abbrev by : Bool → Bool → Step
  by a b =
      unless (when (not a) UnknownNode (when (not b) LentBlock None)) m
      (shared_step m (report_node (node_at m.shared.graph.nodes k) samples done m.shared) call.done)

  abbrev known_node : Bool
  known_node = reports m.voices (node_at m.shared.graph.nodes k)

  abbrev fit : Bool
  fit = lent_block block channels (length samples)

  pub report_law : ReportLaw m k channels samples done
  report_law = record { stored = stored; unknown = unknown; block = wrong }
    where
      stored : MayReport m k → IsBlock m channels samples → (before : List Node) (n : Node) (after : List Node)
          → m.shared.graph.nodes ≡ before ++ (n ∷ after) → IsNode k n → ((o : Node) → In o before → IsNode k o → ⊥) → ((o : Node) → In o after → IsNode k o → ⊥)
          → report m k channels samples done ≡ record { answer = call.done; model = with_rows (before ++ (noted (level_of samples) done n ∷ after)) m }
      stored a b before n after split is g h =
          let first : First (IsNode k) m.shared.graph.nodes (Some n) = (before, after, split, is, g) in
          let rows : replaced m.shared.graph.nodes (with_report samples done n) ≡ before ++ (noted (level_of samples) done n ∷ after) =
          ap (λ ns. replaced ns (with_report samples done n)) split ∙ row_replaced k n (with_report samples done n) is is before after g h in
          ap (λ x. by x fit) (may m k a) ∙ ap (by true) (fitting b)
          ∙ ap (λ o. shared_step m (report_node o samples done m.shared) call.done) (node_found k m.shared.graph.nodes (Some n) first)
          ∙ ap (λ ns. record { answer = call.done; model = with_rows ns m }) rows

      unknown : (MayReport m k → ⊥) → report m k channels samples done ≡ record { answer = call.refused UnknownNode; model = m }
      unknown n = go known_node refl
        where
          go : (b : Bool) → known_node ≡ b → by b fit ≡ record { answer = call.refused UnknownNode; model = m }
          go true e = absurd (n (might m k e))
          go false e = refl

      wrong : MayReport m k → (IsBlock m channels samples → ⊥) → report m k channels samples done ≡ record { answer = call.refused LentBlock; model = m }
      wrong a n = ap (λ x. by x fit) (may m k a) ∙ go fit refl
        where
          go : (b : Bool) → fit ≡ b → by true b ≡ record { answer = call.refused LentBlock; model = m }
          go true e = absurd (n (fits_block e))
          go false e = refl
