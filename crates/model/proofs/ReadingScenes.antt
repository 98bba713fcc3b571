-- Scenes of what can be read, and of the page: every question, of the store that `WholeScenes` ends with. There voice 1 fades at 1 of 2, voice 2 is loose, voices 3 and 4
-- are tracked, and the clock is 3.
use Prim.Native.Nat.{ℕ}
use mathlib.Core.Path.{◌≡◌, refl}
use mathlib.Core.List.{List, [], ◌∷◌, ◌++◌, map}
use Rattle.std.specs.Prelude.{None, Some}
use mathlib.Core.Bool.{true, false}
use lib.ListN.{replicate}
use lib.Ieee.{eq}
use Rattle.edges.specs.Ports.{sources_from}
use Rattle.node.specs.Silence.{bytes, silence_pass_through, rules}
use Rattle.node.specs.declared.order.LastOrder.TheVariants as LastOrder
use Rattle.node.specs.declared.refusal.Refusal.TheVariants.{ShortBuffer}
use Rattle.rank.specs.Order as rank
use Rattle.rank.specs.Order.{among, released, walk, order, whole, count_up}
use Rattle.voice.specs.declared.policy.StealPolicy.TheVariants.{Oldest}
use Rattle.model.specs.Decimal.{decimal}
use Rattle.voice.specs.Voice.{id}
use Rattle.model.specs.Model.{Model}
use Rattle.model.specs.Call.{Answer, Question, known, reached, found, found_node, all, stolen, wires, fed, time, printed, refused}
use Rattle.model.specs.Call as call
use Rattle.model.specs.Scene.{up_to, float, voice, host, spawn, in_order, after, asked, value}
use Rattle.model.proofs.WholeScenes.{heard, key, key1, v1, v2, v3, v4, fades, node, fx, edges, one}

-- what the store answers to these
abbrev told : List Question → Model → List Answer
told qs m = asked (map call.ask qs) m

-- ---- voices: all, in voice order; by id, known or not; by place. Refuses: nobody; a known voice that is not found; an unknown one that is; places from 1.
voices :
    told (call.voices ∷ call.voice (voice 1) ∷ call.voice (voice 2) ∷ call.voice (voice 9) ∷ call.voice_at 0 ∷ call.voice_at 3 ∷ call.voice_at 4 ∷ []) (heard key1)
    ≡ all (v1 (fades 1) ∷ v2 ∷ v3 ∷ v4 ∷ []) ∷ found (Some (v1 (fades 1))) ∷ found (Some v2) ∷ found None ∷ found (Some (v1 (fades 1))) ∷ found (Some v4)
    ∷ found None ∷ []
unfolding eq silence_pass_through rules whole order walk released rank.fed among count_up
voices = refl

-- ---- "The position of a voice's fade can be read, none if it has no fade"; the level is that of the output, the third node of voice 1, whose first one has another,
-- and a fading voice has one. Refuses: the level of the first node; none for a fading voice; a position of a loose or a tracked voice.
states :
    told
    (call.position (voice 1) ∷ call.position (voice 2) ∷ call.position (voice 3) ∷ call.position (voice 9) ∷ call.level (voice 1) ∷ call.level (voice 2) ∷ call.level (voice 9)
    ∷ []) (heard (key true 5 (value 7)))
    ≡ reached (Some 1) ∷ reached None ∷ reached None ∷ reached None ∷ known (Some (float 3)) ∷ known (Some (float 0)) ∷ known None ∷ []
unfolding eq silence_pass_through rules whole order walk released rank.fed among count_up
states = refl

-- ---- a node's record: its last order, its done flag and the level that was reported; of a host node; of an id that was never given. Refuses: the record of another
-- node; a node that is not there.
records :
    told (call.node_record (id 2) ∷ call.node_record (id 4) ∷ call.node_record (id 0) ∷ call.node_record (id 13) ∷ []) (heard (key true 5 (value 7)))
    ≡ found_node (Some (key true 5 (value 7))) ∷ found_node (Some (node 4 1 "Mul" 2 1 true true false 3 LastOrder.Nothing)) ∷ found_node (Some fx) ∷ found_node None ∷ []
unfolding eq silence_pass_through rules whole order walk released rank.fed among count_up
records = refl

-- ---- the rest: records of steals, edges, order, sources port by port, clock. Refuses: sources of another node; sources by edge order.
rest :
    told (call.steals ∷ call.edges ∷ call.processing ∷ call.sources (id 1) ∷ call.sources (id 4) ∷ call.sources (id 9) ∷ call.sources (id 13) ∷ call.clock ∷ []) (heard key1)
    ≡ stolen one ∷ wires edges ∷ in_order (2 ∷ 3 ∷ 5 ∷ 7 ∷ 8 ∷ 10 ∷ 12 ∷ 4 ∷ 9 ∷ 6 ∷ 11 ∷ 1 ∷ 0 ∷ []) ∷ fed (Some (id 11) ∷ Some (id 9) ∷ Some (id 10) ∷ Some (id 12) ∷ replicate 60 None)
    ∷ fed (Some (id 2) ∷ Some (id 3) ∷ replicate 62 None) ∷ fed (Some (id 7) ∷ Some (id 8) ∷ replicate 62 None) ∷ fed (replicate 64 None) ∷ time 3 ∷ []
unfolding eq silence_pass_through rules whole order walk released rank.fed among count_up sources_from
rest = refl

-- ---- the page: 68 bytes. A buffer of that length holds it; one of 67 is refused; of one of 70 the last two stay. Refuses: a buffer of exactly its length refused; a
-- short one written; the rest of a buffer cleared; the buffer's length answered; `held` for a loose voice; another word, age or port.
abbrev text : List ℕ
text = bytes "voice age port state\n1 2 0 fading\n2 2 1 loose\n3 2 2 held\n4 1 3 held\n"

page :
    told (call.page (replicate 68 120) ∷ call.page (replicate 67 120) ∷ call.page [] ∷ call.page (replicate 70 120) ∷ []) (heard key1)
    ≡ printed 68 text ∷ refused ShortBuffer ∷ refused ShortBuffer ∷ printed 68 (text ++ (120 ∷ 120 ∷ [])) ∷ []
unfolding eq silence_pass_through rules whole order walk released rank.fed among count_up
page = refl

-- a store without voices has the header alone; a voice whose birth is the clock has the age 0
empty :
    (told (call.page (replicate 21 120) ∷ call.voices ∷ []) (after (up_to 1 Oldest) []) ≡ printed 21 (bytes "voice age port state\n") ∷ all [] ∷ [])
    × (told (call.page (replicate 32 120) ∷ []) (after (up_to 1 Oldest) (host 1 ∷ spawn 0 ∷ [])) ≡ printed 32 (bytes "voice age port state\n1 0 0 held\n") ∷ [])
unfolding eq silence_pass_through rules whole order walk released rank.fed among count_up
empty = (refl, refl)

-- "all decimal". Refuses: a zero in front; no digit for 0; digits in reverse; a digit lost.
decimals :
    (decimal 0 ≡ bytes "0") × (decimal 9 ≡ bytes "9") × (decimal 10 ≡ bytes "10") × (decimal 105 ≡ bytes "105") × (decimal 4096 ≡ bytes "4096")
decimals = (refl, refl, refl, refl, refl)
