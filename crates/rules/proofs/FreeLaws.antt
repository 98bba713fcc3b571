-- A free, by the voice that is found.
use Prim.Native.Nat.{ℕ}
use mathlib.Core.Path.{◌≡◌, refl, sym, ap, subst, ◌∙◌}
use mathlib.Core.Logic.{◌⊎◌, inl, inr}
use mathlib.Core.List.{List}
use mathlib.Core.Bool.{Bool, true, false, not, cond, ◌||◌, false≢true}
use lib.Dec.{eqb}
use borrow.Author.Tests.{eqb-true, eqb-false, eq-eqb}
use Rattle.std.specs.Prelude.{Option, None, Some, find, filter, is_some}
use Rattle.lists.specs.Find.{filter_o}
use Rattle.lists.proofs.Member.{in_map, in_of_map}
use Rattle.lists.proofs.Filter.{in_filter, filter_in}
use Rattle.lists.proofs.Find.{find_in, find_none}
use Rattle.node.specs.declared.record.Edge.{Edge}
use Rattle.node.specs.declared.record.Node.{Node}
use Rattle.node.specs.declared.record.NodeId.{NodeId}
use Rattle.node.specs.declared.record.VoiceId.{VoiceId}
use Rattle.edges.specs.Wiring.{among, touches}
use Rattle.graph.specs.Node.{owned_by}
use Rattle.graph.specs.Change.{ids_of}
use Rattle.voice.specs.declared.voices.Voice.{Voice}
use Rattle.voice.specs.Voice.{is_voice}
use Rattle.model.specs.Model.{Model, without_voice, freed, free}
use Rattle.model.specs.Order.{free_outcome}
use Rattle.rules.specs.Orders.{Is}
use Rattle.rules.specs.Outcomes.{Its, Sink, Gone, Freeing, unknown, known, FreeRule, FreeExactly}
use Rattle.store.specs.declared.answer.Outcome.{Outcome}
use Rattle.rules.proofs.Left.{filter_without, find_no}
use Rattle.rules.proofs.EventLaws.{not_true, not_false}
use Rattle.rules.proofs.OrderLaws.{is_yes, is_no}

module _ (m : Model) (w : VoiceId) where
  abbrev its : List ℕ
  its = ids_of (owned_by w) m.shared.graph.nodes

  its_yes : (k : NodeId) → among its k ≡ true → Its m w k
  its_yes k h = go (find (λ j. eqb j k.0) its) refl h
    where
      go : (x : Option ℕ) → find (λ j. eqb j k.0) its ≡ x → is_some x ≡ true → Its m w k
      go None e p = absurd (false≢true p)
      go (Some j) e p =
          let f = find_in (λ j. eqb j k.0) its j e in
          let n = in_map (λ (n : Node). n.id.0) (filter (owned_by w) m.shared.graph.nodes) j f.0 in
          let o = in_filter (owned_by w) m.shared.graph.nodes n.0 n.1 in
          record { node = n.0; lives = o.0; owner = eqb-true _ _ o.1; id = sym n.2 ∙ eqb-true _ _ f.1 }

  its_no : (k : NodeId) → among its k ≡ false → Its m w k → ⊥
  its_no k h i = go (find (λ j. eqb j k.0) its) refl h
    where
      go : (x : Option ℕ) → find (λ j. eqb j k.0) its ≡ x → is_some x ≡ false → ⊥
      go None e p =
          let n = filter_in (owned_by w) m.shared.graph.nodes i.node i.lives (eq-eqb _ _ i.owner) in
          let j = in_of_map (λ (n : Node). n.id.0) (filter (owned_by w) m.shared.graph.nodes) i.node n in
          false≢true (sym (find_none (λ j. eqb j k.0) its i.node.id.0 e j) ∙ eq-eqb _ _ i.id)
      go (Some j) e p = false≢true (sym p)

  touch_yes : (e : Edge) → touches its e ≡ true → Its m w e.from ⊎ Its m w e.to
  touch_yes e h = go (among its e.from) refl (among its e.to) refl h
    where
      go : (a : Bool) → among its e.from ≡ a → (b : Bool) → among its e.to ≡ b → (a || b) ≡ true
          → Its m w e.from ⊎ Its m w e.to
      go true p b q r = inl (its_yes e.from p)
      go false p true q r = inr (its_yes e.to q)
      go false p false q r = absurd (false≢true r)

  touch_no : (e : Edge) → touches its e ≡ false → Its m w e.from ⊎ Its m w e.to → ⊥
  touch_no e h = go (among its e.from) refl (among its e.to) refl h
    where
      go : (a : Bool) → among its e.from ≡ a → (b : Bool) → among its e.to ≡ b → (a || b) ≡ false
          → Its m w e.from ⊎ Its m w e.to → ⊥
      go true p b q r i = false≢true (sym r)
      go false p true q r i = false≢true (sym r)
      go false p false q r (inl i) = its_no e.from p i
      go false p false q r (inr i) = its_no e.to q i

  sink_is : (s : Option NodeId) → Sink (Its m w) s (filter_o (λ k. not (among its k)) s)
  sink_is None = refl
  sink_is (Some k) = go (among its k) refl
    where
      go : (b : Bool) → among its k ≡ b → Sink (Its m w) (Some k) (cond (not b) (Some k) None)
      go true e = inr (its_yes k e, refl)
      go false e = inl (its_no k e, refl)

  pub gone : Gone m w (without_voice w m)
  gone =
      record {
        voices =
            filter_without (Is w) (λ v. not (is_voice w v)) (λ v h e. is_no w v (not_true _ h) e)
            (λ v h. is_yes w v (not_false _ h)) m.voices;
        nodes =
            filter_without (λ (n : Node). n.owner.0 ≡ w.0) (λ n. not (owned_by w n))
            (λ n h e. eqb-false _ _ (not_true _ h) e) (λ n h. eqb-true _ _ (not_false _ h))
            m.shared.graph.nodes;
        edges =
            filter_without (λ (e : Edge). Its m w e.from ⊎ Its m w e.to) (λ e. not (touches its e))
            (λ e h i. touch_no e (not_true _ h) i) (λ e h. touch_yes e (not_false _ h))
            m.shared.graph.edges;
        sink = sink_is m.shared.graph.sink;
        unprepared = refl;
        order = refl;
        next = refl;
        events = refl;
        steals = refl;
        clock = refl;
        spawned = refl;
        config = refl;
      }

pub freeing : (m : Model) (w : VoiceId) → Freeing m w (free w m) (free_outcome (find (is_voice w) m.voices))
freeing m w = go (find (is_voice w) m.voices) refl
  where
    go : (x : Option Voice) → find (is_voice w) m.voices ≡ x → Freeing m w (freed x m) (free_outcome x)
    go None e = unknown (find_no (Is w) (is_voice w) (is_yes w) (is_no w) m.voices e)
    go (Some v) e =
        let f = find_in (is_voice w) m.voices v e in
        let same : v.id ≡ w = ap (λ (k : ℕ). record { 0 = k }) (is_yes w v f.1) in
        known v f.0 (is_yes w v f.1) (without_voice v.id m)
        (subst (λ (u : VoiceId). Gone m u (without_voice v.id m)) same (gone m v.id))

pub free_exactly : {m : Model} {w : VoiceId} {r : Model} {a : Outcome} → Freeing m w r a → FreeExactly m w a
free_exactly (unknown u) =
    record { one = (λ e. u, λ e. refl); zero = (λ e. absurd (cc), λ (v, i, e). absurd (u v i e)); either = inl refl }
free_exactly (known v i e r g) =
    record { one = (λ f. absurd (cc), λ u. absurd (u v i e)); zero = (λ f. (v, i, e), λ f. refl); either = inr refl }

pub free_rule : (w : VoiceId) (m : Model) → FreeRule w m
free_rule w m = record { outcome = free_outcome (find (is_voice w) m.voices); answer = refl; frees = freeing m w }
