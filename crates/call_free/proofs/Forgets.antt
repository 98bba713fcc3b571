-- What the tables stand for once the nodes, edges and rows of some voices are removed from them.
use Prim.Native.Nat.{ℕ}
use mathlib.Core.Path.{◌≡◌, refl, ap, ◌∙◌}
use mathlib.Core.List.{List}
use mathlib.Core.Bool.{not}
use lib.ListN.{length, take}
use Rattle.std.specs.Prelude.{filter}
use Rattle.words.specs.Place.{Holds}
use Rattle.graph.specs.Node.{owned_by_any}
use Rattle.graph.specs.Change.{without}
use Rattle.graph.proofs.Calls.{same_view}
use Rattle.graph_tables.specs.Removal.{Removed}
use Rattle.graph_tables.specs.declared.removal.Left.{Left}
use Rattle.voice_rows.specs.Listed.{is_any_of}
use Rattle.voice_rows.specs.Rows.{voices_in}
use Rattle.memory.specs.declared.state.State.{State}
use Rattle.memory.specs.View.{Memory, model_of, shared_of, graph_of}
use Rattle.memory.specs.Lent.{lent_voices}
use Rattle.memory.specs.Parts.{graphed, voiced}
use Rattle.call_free.specs.Forgotten.{without_ids}
use Rattle.call_free.proofs.Together.{remade_same, some_removed}

module _ (s : State) (ns es vs ids : List ℕ) (l : Left) (count : ℕ) where
  abbrev left : State
  left = voiced (graphed s l.nodes l.edges l.sink s.next) count

  pub forgets : (ns' es' vs' : List ℕ) → (length ids ≡ 0 → ⊥)
      → Removed ns es ns' es' s.nodes s.edges (s.sink) (owned_by_any ids) l
      → Holds (voices_in vs') count (filter (λ v. not (is_any_of ids v)) (take s.voices (voices_in vs)))
      → (rest u : State) → rest ≡ graphed s l.nodes l.edges l.sink s.next → u ≡ voiced rest count
      → (m : Memory) → model_of (lent_voices u ns' es' vs' m) ≡ without_ids ids (model_of (lent_voices s ns es vs m))
  forgets ns' es' vs' some graph rows rest u is-rest is m =
      let old = lent_voices s ns es vs m in
      ap (λ x. model_of (lent_voices x ns' es' vs' m)) (is ∙ ap (λ x. voiced x count) is-rest)
      ∙ remade_same (shared_of old) _ _ _ _
      (same_view (graph_of (lent_voices left ns' es' vs' m)) (without (owned_by_any ids) (graph_of old)) graph.nodes.is graph.edges.is graph.sink refl refl refl)
      rows.is
      ∙ some_removed ids (model_of old) some
