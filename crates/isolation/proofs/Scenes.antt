-- Two histories that the theorem speaks of, and what it refuses. In the first the bus is node 0 and another bus, node 1, is played too; in the
-- second it is node 1 and nobody else plays. Ids differ throughout: voices 2, 4, 6 against 1, 2, 3. One event names the bus's first voice
-- before that is let in.
use Prim.Native.Nat.{ℕ}
use mathlib.Core.Path.{◌≡◌, refl, sym, ap, ◌∙◌}
use mathlib.Core.Logic.{inl, inr}
use mathlib.Core.List.{List, [], ◌∷◌, map}
use mathlib.Core.Bool.{Bool, true, false, not, ◌&&◌}
use lib.ListN.{length, drop}
use lib.Ieee.{eq}
use borrow.Author.Tests.{not-true}
use Rattle.std.specs.Prelude.{filter, Some}
use Rattle.lists.specs.Member.{In}
use Rattle.lists.proofs.Member.{and_left, and_right}
use Rattle.synthdef.specs.Plan.{settled}
use Rattle.node.specs.Silence.{silence_pass_through, rules}
use Rattle.node.specs.declared.refusal.Refusal.TheVariants.{TableFull, IdsUsedUp}
use Rattle.rank.specs.Order.{among, fed, released, walk, order, whole, count_up}
use Rattle.prepare.specs.Live.{rising_from, live_nodes, live_ids, processing_order}
use Rattle.prepare.specs.Required.{any, lacks, lacking}
use Rattle.prepare.specs.Prepare.{prepare}
use Rattle.voice.specs.declared.policy.BudgetScope.{BudgetScope}
use Rattle.voice.specs.declared.policy.StealPolicy.TheVariants.{Oldest}
use Rattle.store.specs.declared.config.Config.{Config}
use Rattle.voice.specs.Voice.{id}
use Rattle.model.specs.Scene.{config, tone_def, host, sink, wire, spawn, timed_free, render}
use Rattle.model.proofs.Refused.{refusal_in}
use Rattle.model.specs.Call.{Call, Answer}
use Rattle.model.specs.Call as call
use Rattle.ledger.specs.Ledger.{new_ledger}
use Rattle.ledger.specs.Call.{run}
use Rattle.isolation.specs.Story.{Entry, opened, plugged, lost, managed, cleared, rendered, story, Phase, held, fading, Told, BusVoice, tale, all_victims, written, is_held}
use Rattle.isolation.specs.Isolated.{Isolation}
use Rattle.isolation.proofs.Cover.{full_in, is_not_full}
use Rattle.isolation.proofs.Theorem.{isolated}

abbrev c : BudgetScope → Config
c s = config (Some 2) Oldest s

pub busy : List Call
busy =
    host 2 ∷ host 2 ∷ sink 0 ∷ timed_free 20 2 ∷ spawn 1 ∷ spawn 0 ∷ call.prepare ∷ render ∷ spawn 1 ∷ spawn 0 ∷ spawn 1 ∷ call.prepare ∷ render ∷ spawn 0 ∷ spawn 1 ∷ spawn 0
    ∷ call.clear ∷ []

pub alone : List Call
alone =
    host 5 ∷ host 2 ∷ sink 1 ∷ timed_free 20 1 ∷ spawn 1 ∷ call.prepare ∷ render ∷ spawn 1 ∷ call.prepare ∷ render ∷ spawn 1 ∷ spawn 1 ∷ call.clear ∷ []

-- the one story of both
its : List Entry
its =
    opened 2 ∷ managed tone_def false 0 ∷ rendered [] true ∷ managed tone_def false 0 ∷ rendered (0 ∷ []) true ∷ managed tone_def false 0 ∷ managed tone_def false 0 ∷ cleared ∷ []

story_busy : story (id 0) busy (new_ledger (c BudgetScope.PerGroup)) ≡ its
unfolding busy its eq silence_pass_through rules prepare processing_order lacking lacks any live_ids live_nodes rising_from whole order walk released fed among count_up settled
story_busy = refl

story_alone : story (id 1) alone (new_ledger (c BudgetScope.PerGroup)) ≡ its
unfolding alone its eq silence_pass_through rules prepare processing_order lacking lacks any live_ids live_nodes rising_from whole order walk released fed among count_up settled
story_alone = refl

-- numbers of the bus's voices after each entry
numbers : List Told → List (List ℕ)
numbers ts = map (λ (t : Told). map (λ (v : BusVoice). v.number) t.voices) ts

tale_alone : numbers (tale (id 1) alone (new_ledger (c BudgetScope.PerGroup))) ≡ [] ∷ (0 ∷ []) ∷ (0 ∷ []) ∷ (0 ∷ 1 ∷ []) ∷ (1 ∷ []) ∷ (1 ∷ 2 ∷ []) ∷ (2 ∷ 3 ∷ []) ∷ (2 ∷ 3 ∷ []) ∷ []
unfolding alone numbers eq silence_pass_through rules prepare processing_order lacking lacks any live_ids live_nodes rising_from whole order walk released fed among count_up settled
tale_alone = refl

-- the timed free takes the first of its voices, and the last spawn steals the first of those left
victims_alone : all_victims [] (tale (id 1) alone (new_ledger (c BudgetScope.PerGroup))) ≡ [] ∷ [] ∷ [] ∷ [] ∷ (0 ∷ []) ∷ [] ∷ (0 ∷ []) ∷ [] ∷ []
unfolding alone eq silence_pass_through rules prepare processing_order lacking lacks any live_ids live_nodes rising_from whole order walk released fed among count_up settled
victims_alone = refl

-- the bus's one record has number 2 there, and 0 here
written_busy : written (id 0) busy (new_ledger (c BudgetScope.PerGroup)) ≡ 2 ∷ []
unfolding busy eq silence_pass_through rules prepare processing_order lacking lacks any live_ids live_nodes rising_from whole order walk released fed among count_up settled
written_busy = refl

written_alone : written (id 1) alone (new_ledger (c BudgetScope.PerGroup)) ≡ 0 ∷ []
unfolding alone eq silence_pass_through rules prepare processing_order lacking lacks any live_ids live_nodes rising_from whole order walk released fed among count_up settled
written_alone = refl

-- neither meets 7 or 8
unfoldable pub every : List Answer → Bool
every [] = true
every (a ∷ l) = not (full_in (refusal_in a)) && every l

pub covered : (l : List Answer) → every l ≡ true → (a : Answer) → In a l → (refusal_in a ≡ Some TableFull → ⊥) × (refusal_in a ≡ Some IdsUsedUp → ⊥)
unfolding every
covered [] h a i = absurd i
covered (x ∷ l) h a (inl p) = is_not_full (refusal_in a) (ap (λ z. full_in (refusal_in z)) p ∙ not-true _ (and_left _ _ h))
covered (x ∷ l) h a (inr i) = covered l (and_right (not (full_in (refusal_in x))) _ h) a i

every_busy : every (run busy (new_ledger (c BudgetScope.PerGroup))).answers ≡ true
unfolding busy every eq silence_pass_through rules prepare processing_order lacking lacks any live_ids live_nodes rising_from whole order walk released fed among count_up settled
every_busy = refl

every_alone : every (run alone (new_ledger (c BudgetScope.PerGroup))).answers ≡ true
unfolding alone every eq silence_pass_through rules prepare processing_order lacking lacks any live_ids live_nodes rising_from whole order walk released fed among count_up settled
every_alone = refl

-- so the theorem holds of them
pub both : Isolation (c BudgetScope.PerGroup) (id 0) (id 1) busy alone
both = isolated (c BudgetScope.PerGroup) refl (id 0) (id 1) busy alone (covered _ every_busy) (covered _ every_alone) (story_busy ∙ sym story_alone)

-- under `Global` it does not: the story is the same, and the other bus's voices count, so that more voices of the bus fade
-- how many are held after each entry
helds : List Told → List ℕ
helds ts = map (λ (t : Told). length (filter (λ (v : BusVoice). is_held v.phase) t.voices)) ts

global_story : story (id 0) busy (new_ledger (c BudgetScope.Global)) ≡ its
unfolding busy its eq silence_pass_through rules prepare processing_order lacking lacks any live_ids live_nodes rising_from whole order walk released fed among count_up settled
global_story = refl

alone_held : helds (tale (id 1) alone (new_ledger (c BudgetScope.Global))) ≡ 0 ∷ 1 ∷ 1 ∷ 2 ∷ 1 ∷ 2 ∷ 2 ∷ 2 ∷ []
unfolding alone helds eq silence_pass_through rules prepare processing_order lacking lacks any live_ids live_nodes rising_from whole order walk released fed among count_up settled
alone_held = refl

busy_held : helds (tale (id 0) busy (new_ledger (c BudgetScope.Global))) ≡ 0 ∷ 1 ∷ 1 ∷ 1 ∷ 1 ∷ 1 ∷ 1 ∷ 1 ∷ []
unfolding busy helds eq silence_pass_through rules prepare processing_order lacking lacks any live_ids live_nodes rising_from whole order walk released fed among count_up settled
busy_held = refl

-- ---- what a story has to say. A host node feeds port 0 of the bus and is removed, or is not: the next voice gets port 0, or port 1. Refuses a story without the removal of its
-- sources, by which the two would have one story and two tales.
pub sourced : List Call
sourced = host 2 ∷ host 0 ∷ wire 1 0 0 ∷ call.remove_node (id 1) ∷ spawn 0 ∷ []

pub kept : List Call
kept = host 2 ∷ host 0 ∷ wire 1 0 0 ∷ spawn 0 ∷ []

ports : List Told → List (List ℕ)
ports ts = map (λ (t : Told). map (λ (v : BusVoice). v.port) t.voices) ts

removal :
    (story (id 0) sourced (new_ledger (c BudgetScope.PerGroup)) ≡ opened 2 ∷ plugged 0 ∷ lost (0 ∷ []) ∷ managed tone_def false 0 ∷ [])
    × (story (id 0) kept (new_ledger (c BudgetScope.PerGroup)) ≡ opened 2 ∷ plugged 0 ∷ managed tone_def false 0 ∷ [])
    × (ports (tale (id 0) sourced (new_ledger (c BudgetScope.PerGroup))) ≡ [] ∷ [] ∷ [] ∷ (0 ∷ []) ∷ [])
    × (ports (tale (id 0) kept (new_ledger (c BudgetScope.PerGroup))) ≡ [] ∷ [] ∷ (1 ∷ []) ∷ [])
unfolding sourced kept ports eq silence_pass_through rules prepare processing_order lacking lacks any live_ids live_nodes rising_from whole order walk released fed among count_up settled
removal = (refl, refl, refl, refl)

-- A render sounds, or is silent for want of a prepare: the fade that the third voice began has moved, or has not. Refuses a story that does not say which renders sound.
pub heard : List Call
heard = host 3 ∷ sink 0 ∷ spawn 0 ∷ spawn 0 ∷ spawn 0 ∷ call.prepare ∷ render ∷ []

pub unheard : List Call
unheard = host 3 ∷ sink 0 ∷ spawn 0 ∷ spawn 0 ∷ spawn 0 ∷ render ∷ []

phases : List Told → List (List Phase)
phases ts = map (λ (t : Told). map (λ (v : BusVoice). v.phase) t.voices) ts

sounds :
    (story (id 0) heard (new_ledger (c BudgetScope.PerGroup)) ≡ opened 3 ∷ managed tone_def false 0 ∷ managed tone_def false 0 ∷ managed tone_def false 0 ∷ rendered [] true ∷ [])
    × (story (id 0) unheard (new_ledger (c BudgetScope.PerGroup)) ≡ opened 3 ∷ managed tone_def false 0 ∷ managed tone_def false 0 ∷ managed tone_def false 0 ∷ rendered [] false ∷ [])
    × (phases (drop 4 (tale (id 0) heard (new_ledger (c BudgetScope.PerGroup)))) ≡ (fading 0 1 ∷ held ∷ held ∷ []) ∷ [])
    × (phases (drop 4 (tale (id 0) unheard (new_ledger (c BudgetScope.PerGroup)))) ≡ (fading 0 0 ∷ held ∷ held ∷ []) ∷ [])
unfolding heard unheard phases eq silence_pass_through rules prepare processing_order lacking lacks any live_ids live_nodes rising_from whole order walk released fed among count_up settled
sounds = (refl, refl, refl, refl)

-- An event frees the bus's voice at its render, or comes too late. Refuses a story without the frees that meet its voices.
pub no_overflow : List Call
no_overflow = host 2 ∷ timed_free 15 1 ∷ spawn 0 ∷ render ∷ []

pub late : List Call
late = host 2 ∷ timed_free 16 1 ∷ spawn 0 ∷ render ∷ []

frees :
    (story (id 0) no_overflow (new_ledger (c BudgetScope.PerGroup)) ≡ opened 2 ∷ managed tone_def false 0 ∷ rendered (0 ∷ []) false ∷ [])
    × (story (id 0) late (new_ledger (c BudgetScope.PerGroup)) ≡ opened 2 ∷ managed tone_def false 0 ∷ rendered [] false ∷ [])
    × (numbers (tale (id 0) no_overflow (new_ledger (c BudgetScope.PerGroup))) ≡ [] ∷ (0 ∷ []) ∷ [] ∷ [])
    × (numbers (tale (id 0) late (new_ledger (c BudgetScope.PerGroup))) ≡ [] ∷ (0 ∷ []) ∷ (0 ∷ []) ∷ [])
unfolding no_overflow late numbers eq silence_pass_through rules prepare processing_order lacking lacks any live_ids live_nodes rising_from whole order walk released fed among count_up settled
frees = (refl, refl, refl, refl)
