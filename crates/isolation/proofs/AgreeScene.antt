-- Two closed histories that agree up to a matching of ids, so that agreement is not empty. In the first, node 1 is a second bus, and it is played before and after: the bus's voice is
-- voice 2, its nodes are others. In the second the bus is node 0 and nobody else plays. An event frees the voice.
use Rattle.std.specs.Prelude.{Some}
use Prim.Native.Nat.{ℕ, ◌+◌, ◌<◌}
use native.Mathlib.Omega.{arith}
use mathlib.Core.Path.{◌≡◌, refl, sym, ap, ◌∙◌, subst}
use mathlib.Core.Logic.{inl, inr}
use mathlib.Core.List.{List, [], ◌∷◌}
use lib.Ieee.{eq}
use lib.ListN.{replicate}
use Rattle.lists.specs.Member.{In}
use Rattle.synthdef.specs.Plan.{settled}
use Rattle.node.specs.Silence.{silence_pass_through, rules}
use Rattle.node.specs.declared.record.NodeId.{NodeId}
use Rattle.node.specs.declared.record.VoiceId.{VoiceId}
use Rattle.rank.specs.Order.{among, fed, released, walk, order, whole, count_up}
use Rattle.prepare.specs.Live.{rising_from, live_nodes, live_ids, processing_order}
use Rattle.prepare.specs.Required.{any, lacks, lacking}
use Rattle.prepare.specs.Prepare.{prepare}
use Rattle.voice.specs.declared.policy.BudgetScope.TheVariants as BudgetScope
use Rattle.voice.specs.declared.policy.StealPolicy.TheVariants.{Oldest}
use Rattle.store.specs.declared.config.Config.{Config}
use Rattle.voice.specs.Voice.{id}
use Rattle.model.specs.Spawn.{Spawn, spawn_of}
use Rattle.model.specs.Render.{is_sounding, due}
use Rattle.model.specs.Scene.{config, tone_def, float, host, spawn, voice, timed_free, render}
use Rattle.model.specs.Call.{Call}
use Rattle.ledger.specs.Ledger.{Ledger, new_ledger, spawn_managed}
use Rattle.ledger.specs.Render.{rested}
use Rattle.ledger.specs.Render as ledger
use Rattle.ledger.specs.Call.{step}
use Rattle.isolation.specs.Agree.{Pair, Matching, OneToOne, SameNode, Equal, Agree, ends, first, second, both, added, managed, rendered, Arrive, let_in, EachVoice, freed_by_events, Agreement}

abbrev pub made : Config
made = config (Some 2) Oldest BudgetScope.PerGroup

abbrev node : ℕ → ℕ → Pair NodeId
node a b = record { one = id a; two = id b }

abbrev pub ids : Matching
ids = record { nodes = node 1 0 ∷ node 3 1 ∷ []; voices = record { one = voice 2; two = voice 1 } ∷ [] }

abbrev played : List Call
played = host 2 ∷ host 2 ∷ timed_free 3 2 ∷ spawn 0 ∷ spawn 1 ∷ spawn 0 ∷ render ∷ []

abbrev alone : List Call
alone = host 2 ∷ timed_free 5 1 ∷ spawn 0 ∷ render ∷ []

-- the one node of the voice
pub one_node : (i : ℕ) → i < 1 → SameNode ids (id (3 + i)) (id (1 + i))
one_node i h = let z : i ≡ 0 = omega arith in subst (λ j. SameNode ids (id (3 + j)) (id (1 + j))) (sym z) (inr (inl refl))

abbrev pub spawn_on : ℕ → Spawn
spawn_on b = spawn_of tone_def (id b) (float 0) 0

-- what a render is lent
abbrev lent : List ℕ
lent = replicate 256 7

-- what a call leaves
abbrev after : Call → Ledger → Ledger
after x k = (step x k).ledger

abbrev start : Ledger
start = new_ledger made

abbrev hosted : Ledger
hosted = after (host 2) start

-- before the spawn on the bus, and before the render
abbrev k₀ : Ledger
k₀ = after (timed_free 3 2) (after (host 2) hosted)

abbrev k₁ : Ledger
k₁ = after (spawn 0) k₀

abbrev l₁ : Ledger
l₁ = after (timed_free 5 1) hosted

abbrev k₂ : Ledger
k₂ = after (spawn 0) (after (spawn 1) k₁)

abbrev l₂ : Ledger
l₂ = after (spawn 0) l₁

let_in_lem : Arrive ids (let_in (spawn_managed (spawn_on 1) k₁)) (let_in (spawn_managed (spawn_on 0) l₁))
unfolding eq silence_pass_through rules prepare processing_order lacking lacks any live_ids live_nodes rising_from whole order walk released fed among count_up settled
let_in_lem = (inl refl, one_node)

freed_both : EachVoice ids (freed_by_events (id 1) (due k₂.shared) (rested k₂)) (freed_by_events (id 0) (due l₂.shared) (rested l₂))
unfolding eq silence_pass_through rules prepare processing_order lacking lacks any live_ids live_nodes rising_from whole order walk released fed among count_up settled
freed_both = (inl refl, tt)

silent_both : is_sounding (ledger.render k₂).answer ≡ is_sounding (ledger.render l₂).answer
unfolding eq silence_pass_through rules prepare processing_order lacking lacks any live_ids live_nodes rising_from whole order walk released fed among count_up settled
silent_both = refl

same_render : Equal ids (id 1) (id 0) render k₂ render l₂
unfolding eq silence_pass_through rules prepare processing_order lacking lacks any live_ids live_nodes rising_from whole order walk released fed among count_up settled
same_render = rendered {o = lent} {p = lent} {k = k₂} {l = l₂} freed_both silent_both

same_spawn : Equal ids (id 1) (id 0) (spawn 1) k₁ (spawn 0) l₁
unfolding eq silence_pass_through rules prepare processing_order lacking lacks any live_ids live_nodes rising_from whole order walk released fed among count_up settled
same_spawn = managed {x = spawn_on 1} {y = spawn_on 0} {k = k₁} {l = l₁} (record { def = refl; bus = inl refl; pan = refl; rank = refl }) let_in_lem

-- from the render on, then from each call before it
from_render : Agree ids (id 1) (id 0) (render ∷ []) k₂ (render ∷ []) l₂
unfolding eq silence_pass_through rules prepare processing_order lacking lacks any live_ids live_nodes rising_from whole order walk released fed among count_up settled
from_render =
    both {x = render} {y = render} {xs = []} {ys = []} {k = k₂} {l = l₂} refl refl same_render
    (ends {k = after render k₂} {l = after render l₂})

from_spawn : Agree ids (id 1) (id 0) (spawn 1 ∷ spawn 0 ∷ render ∷ []) k₁ (spawn 0 ∷ render ∷ []) l₁
unfolding eq silence_pass_through rules prepare processing_order lacking lacks any live_ids live_nodes rising_from whole order walk released fed among count_up settled
from_spawn =
    both {k = k₁} {l = l₁} refl refl same_spawn
    (first {k = after (spawn 1) k₁} {l = l₂} refl from_render)

from_timed_free : Agree ids (id 1) (id 0) (timed_free 3 2 ∷ spawn 0 ∷ spawn 1 ∷ spawn 0 ∷ render ∷ []) (after (host 2) hosted) (timed_free 5 1 ∷ spawn 0 ∷ render ∷ []) hosted
unfolding eq silence_pass_through rules prepare processing_order lacking lacks any live_ids live_nodes rising_from whole order walk released fed among count_up settled
from_timed_free =
    first {k = after (host 2) hosted} {l = hosted} refl
    (second {k = k₀} {l = hosted} refl
    (first {k = k₀} {l = l₁} refl from_spawn))

agree : Agree ids (id 1) (id 0) played start alone start
unfolding eq silence_pass_through rules prepare processing_order lacking lacks any live_ids live_nodes rising_from whole order walk released fed among count_up settled
agree = first {k = start} {l = start} refl (both {k = hosted} {l = start} refl refl added from_timed_free)

pub agreement : Agreement ids made (id 1) (id 0) played alone
agreement = record { nodes = nodes; voices = voices; bus = inl refl; calls = agree }
  where
    apart : {a b : ℕ} → id a ≡ id b → (a ≡ b → ⊥) → ⊥
    apart e f = f (ap (λ (k : NodeId). k.0) e)

    nodes : OneToOne ids.nodes
    nodes = record { forth = forth; back = back }
      where
        forth : (p q : Pair NodeId) → In p ids.nodes → In q ids.nodes → p.one ≡ q.one → p.two ≡ q.two
        forth p q (inl e) (inl f) h = ap (λ (x : Pair NodeId). x.two) e ∙ sym (ap (λ (x : Pair NodeId). x.two) f)
        forth p q (inl e) (inr (inl f)) h = absurd (apart (sym (ap (λ (x : Pair NodeId). x.one) e) ∙ h ∙ ap (λ (x : Pair NodeId). x.one) f) (λ z. omega arith))
        forth p q (inl e) (inr (inr i)) h = absurd i
        forth p q (inr (inl e)) (inl f) h = absurd (apart (sym (ap (λ (x : Pair NodeId). x.one) e) ∙ h ∙ ap (λ (x : Pair NodeId). x.one) f) (λ z. omega arith))
        forth p q (inr (inl e)) (inr (inl f)) h = ap (λ (x : Pair NodeId). x.two) e ∙ sym (ap (λ (x : Pair NodeId). x.two) f)
        forth p q (inr (inl e)) (inr (inr i)) h = absurd i
        forth p q (inr (inr i)) j h = absurd i

        back : (p q : Pair NodeId) → In p ids.nodes → In q ids.nodes → p.two ≡ q.two → p.one ≡ q.one
        back p q (inl e) (inl f) h = ap (λ (x : Pair NodeId). x.one) e ∙ sym (ap (λ (x : Pair NodeId). x.one) f)
        back p q (inl e) (inr (inl f)) h = absurd (apart (sym (ap (λ (x : Pair NodeId). x.two) e) ∙ h ∙ ap (λ (x : Pair NodeId). x.two) f) (λ z. omega arith))
        back p q (inl e) (inr (inr i)) h = absurd i
        back p q (inr (inl e)) (inl f) h = absurd (apart (sym (ap (λ (x : Pair NodeId). x.two) e) ∙ h ∙ ap (λ (x : Pair NodeId). x.two) f) (λ z. omega arith))
        back p q (inr (inl e)) (inr (inl f)) h = ap (λ (x : Pair NodeId). x.one) e ∙ sym (ap (λ (x : Pair NodeId). x.one) f)
        back p q (inr (inl e)) (inr (inr i)) h = absurd i
        back p q (inr (inr i)) j h = absurd i

    voices : OneToOne ids.voices
    voices = record { forth = forth; back = back }
      where
        forth : (p q : Pair VoiceId) → In p ids.voices → In q ids.voices → p.one ≡ q.one → p.two ≡ q.two
        forth p q (inl e) (inl f) h = ap (λ (x : Pair VoiceId). x.two) e ∙ sym (ap (λ (x : Pair VoiceId). x.two) f)
        forth p q (inl e) (inr i) h = absurd i
        forth p q (inr i) j h = absurd i

        back : (p q : Pair VoiceId) → In p ids.voices → In q ids.voices → p.two ≡ q.two → p.one ≡ q.one
        back p q (inl e) (inl f) h = ap (λ (x : Pair VoiceId). x.one) e ∙ sym (ap (λ (x : Pair VoiceId). x.one) f)
        back p q (inl e) (inr i) h = absurd i
        back p q (inr i) j h = absurd i
