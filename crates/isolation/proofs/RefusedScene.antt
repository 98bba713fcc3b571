-- Two histories that meet 12, 11 and refused calls of the host, and that the theorem speaks of. A host node first holds all ports of the bus, so that
-- a spawn finds none; then two voices of rank 1 fill the budget, so that one of rank 0 is not let in. In the first the bus is node 0, and another
-- bus is played too; in the second it is node 1. Refuses a theorem that leaves out histories which meet 11, 12 or any other refusal but 7 and 8.
use Prim.Native.Nat.{ℕ}
use mathlib.Core.Path.{◌≡◌, refl, sym, ◌∙◌}
use mathlib.Core.List.{List, [], ◌∷◌, map}
use mathlib.Core.Bool.{true, false}
use lib.Ieee.{eq}
use Rattle.std.specs.Prelude.{Option, None, Some}
use Rattle.synthdef.specs.Plan.{settled}
use Rattle.node.specs.Silence.{silence_pass_through, rules}
use Rattle.node.specs.declared.refusal.Refusal.TheVariants.{UnknownNode, PortOrKind, Rejected, NoPort}
use Rattle.rank.specs.Order.{among, fed, released, walk, order, whole, count_up}
use Rattle.prepare.specs.Live.{rising_from, live_nodes, live_ids, processing_order}
use Rattle.prepare.specs.Required.{any, lacks, lacking}
use Rattle.prepare.specs.Prepare.{prepare}
use Rattle.voice.specs.declared.policy.BudgetScope.TheVariants.{PerGroup}
use Rattle.voice.specs.declared.policy.StealPolicy.TheVariants.{Oldest}
use Rattle.store.specs.declared.config.Config.{Config}
use Rattle.voice.specs.Voice.{id}
use Rattle.model.specs.Scene.{config, tone_def, host, sink, wire, unwire, spawn, ranked}
use Rattle.model.proofs.Refused.{refusal_in}
use Rattle.model.specs.Call.{Call}
use Rattle.ledger.specs.Ledger.{new_ledger}
use Rattle.ledger.specs.Call.{run}
use Rattle.isolation.specs.Story.{Entry, opened, plugged, unplugged, managed, story, Told, tale}
use Rattle.isolation.specs.Isolated.{Covered, Isolation}
use Rattle.isolation.proofs.Scenes.{every, covered}
use Rattle.isolation.proofs.Theorem.{isolated}

abbrev c : Config
c = config (Some 2) Oldest PerGroup

pub busy : List Call
busy =
    host 3 ∷ host 0 ∷ host 2 ∷ wire 1 0 0 ∷ wire 1 0 1 ∷ wire 1 0 2 ∷ wire 77 0 0 ∷ spawn 0 ∷ unwire 0 1 ∷ unwire 0 2 ∷ ranked 1 2 ∷ ranked 1 0 ∷ ranked 1 0 ∷ spawn 0 ∷ host 65 ∷ []

pub alone : List Call
alone = host 0 ∷ host 3 ∷ wire 0 1 0 ∷ wire 0 1 1 ∷ wire 0 1 2 ∷ spawn 1 ∷ sink 88 ∷ unwire 1 1 ∷ unwire 1 2 ∷ ranked 1 1 ∷ ranked 1 1 ∷ spawn 1 ∷ []

-- what they are refused
busy_refused :
    map refusal_in (run busy (new_ledger c)).answers
    ≡ None ∷ None ∷ None ∷ None ∷ None ∷ None ∷ Some UnknownNode ∷ Some NoPort ∷ None ∷ None ∷ None ∷ None ∷ None ∷ Some Rejected ∷ Some PortOrKind ∷ []
unfolding busy eq silence_pass_through rules prepare processing_order lacking lacks any live_ids live_nodes rising_from whole order walk released fed among count_up settled
busy_refused = refl

alone_refused :
    map refusal_in (run alone (new_ledger c)).answers
    ≡ None ∷ None ∷ None ∷ None ∷ None ∷ Some NoPort ∷ Some UnknownNode ∷ None ∷ None ∷ None ∷ None ∷ Some Rejected ∷ []
unfolding alone eq silence_pass_through rules prepare processing_order lacking lacks any live_ids live_nodes rising_from whole order walk released fed among count_up settled
alone_refused = refl

-- the one story of both, and what it is told: 12, and 11
its : List Entry
its =
    opened 3 ∷ plugged 0 ∷ plugged 1 ∷ plugged 2 ∷ managed tone_def false 0 ∷ unplugged 1 ∷ unplugged 2 ∷ managed tone_def false 1 ∷ managed tone_def false 1
    ∷ managed tone_def false 0 ∷ []

story_busy : story (id 0) busy (new_ledger c) ≡ its
unfolding busy its eq silence_pass_through rules prepare processing_order lacking lacks any live_ids live_nodes rising_from whole order walk released fed among count_up settled
story_busy = refl

story_alone : story (id 1) alone (new_ledger c) ≡ its
unfolding alone its eq silence_pass_through rules prepare processing_order lacking lacks any live_ids live_nodes rising_from whole order walk released fed among count_up settled
story_alone = refl

answers : List Told → List (Option ℕ)
answers ts = map (λ (t : Told). t.answer) ts

busy_told : answers (tale (id 0) busy (new_ledger c)) ≡ None ∷ None ∷ None ∷ None ∷ Some 12 ∷ None ∷ None ∷ None ∷ None ∷ Some 11 ∷ []
unfolding busy answers eq silence_pass_through rules prepare processing_order lacking lacks any live_ids live_nodes rising_from whole order walk released fed among count_up settled
busy_told = refl

-- both are covered
every_busy : every (run busy (new_ledger c)).answers ≡ true
unfolding busy every eq silence_pass_through rules prepare processing_order lacking lacks any live_ids live_nodes rising_from whole order walk released fed among count_up settled
every_busy = refl

every_alone : every (run alone (new_ledger c)).answers ≡ true
unfolding alone every eq silence_pass_through rules prepare processing_order lacking lacks any live_ids live_nodes rising_from whole order walk released fed among count_up settled
every_alone = refl

covered_busy : Covered busy (new_ledger c)
covered_busy = covered _ every_busy

covered_alone : Covered alone (new_ledger c)
covered_alone = covered _ every_alone

-- so the theorem holds of them
pub both : Isolation c (id 0) (id 1) busy alone
both = isolated c refl (id 0) (id 1) busy alone covered_busy covered_alone (story_busy ∙ sym story_alone)
