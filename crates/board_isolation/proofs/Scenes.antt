-- Closed scenes of boards, each with the wrong rule that it refuses: why sealing, with its answer, has to be a call of every bus; and two histories that do agree.
use Rattle.std.specs.Prelude.{Some}
use Prim.Native.Nat.{ℕ}
use native.Mathlib.Omega.{arith}
use mathlib.Core.Path.{◌≡◌, refl, ap}
use mathlib.Core.Logic.{inl}
use mathlib.Core.List.{List, [], ◌∷◌}
use mathlib.Core.Bool.{true, false}
use lib.IntN.{pos}
use lib.ListN.{length}
use lib.Ieee.{fin, eq}
use Rattle.synthdef.specs.Plan.{settled}
use Rattle.rank.specs.Order.{among, fed, released, walk, order, whole, count_up}
use Rattle.voice.specs.declared.policy.BudgetScope.TheVariants as BudgetScope
use Rattle.voice.specs.declared.policy.StealPolicy.TheVariants.{Oldest}
use Rattle.synthdef.specs.declared.def.SynthDef.{SynthDef}
use Rattle.store.specs.declared.answer.Outcome.TheVariants.{Applied}
use Rattle.voice.specs.Voice.{id}
use Rattle.model.specs.Spawn.{spawn_of}
use Rattle.bus.specs.Rate.{rate_of}
use Rattle.model.specs.Make.{Making, new_model}
use Rattle.model.specs.Scene.{tone_def, tones, float, host, wire, spawn, free, spawned}
use Rattle.model.specs.Call.{Call}
use Rattle.model.specs.Call as call
use Rattle.ledger.specs.Ledger.{Ledger, new_ledger, spawn_managed}
use Rattle.ledger.specs.Call.{run}
use Rattle.console.specs.Wishes.{new_wishes}
use Rattle.console.specs.Begins.{Begins, with_keyboards}
use Rattle.console.specs.Console.{Console, make_console}
use Rattle.console.specs.Console as console
use Rattle.isolation.specs.Agree.{Matching, SameSpawn, Equal, Arrive, let_in}
use Rattle.isolation.specs.Agree as agree
use Rattle.isolation.proofs.Scenes.{every, covered}
use Rattle.isolation.proofs.AgreeScene.{made, ids, one_node, spawn_on, agreement}
use Rattle.sealed.specs.declared.profile.Profile.{Profile}
use Rattle.sealed.specs.declared.refusal.SealRefusal.TheVariants.{NotAccepted, Closed}
use Rattle.sealed.specs.Board.{Board, BoardCall, on, seal, BoardAnswer, given, sealed, refused, board_run, new_board}
use Rattle.console_isolation.specs.Isolated.{calls_from}
use Rattle.board_isolation.specs.Isolated.{let_through, BoardIsolation}
use Rattle.board_isolation.specs.Agree.{Asked, sealing, passed, shut, asked, SameProfile, SameSpawns, managed, ledger_by, sealings, both_passed, both_shut, first_shut, AgreeAsked, ends, first, both, BoardAgreement}
use Rattle.board_isolation.proofs.Theorem.{board_isolated}

-- one keyboard
abbrev made_console : Console
made_console = record { model = new_model made; wishes = new_wishes 1 }

abbrev new : Board
new = new_board made_console

abbrev store : Call → BoardCall
store c = on (console.on c)

-- the bus k of 2 ports, among h nodes and g edges; definitions of d nodes and no edges
abbrev profile : ℕ → ℕ → ℕ → ℕ → Profile
profile k h g d = record { bus = id k; ports = 2; host_nodes = h; host_edges = g; def_nodes = d; def_edges = 0 }

-- a wish for `spawn k`
abbrev wish_for : ℕ → BoardCall
wish_for k = on (console.wish 0 (record { managed = true; def = tone_def; bus = id k; pan = float 0; rank = 0 }))

abbrev answers : List BoardCall → List BoardAnswer
answers xs = (board_run xs new).answers

abbrev done : call.Answer → BoardAnswer
done a = given (console.plain a)

-- it is one that making gives
abbrev making : Making
making = record { rate = fin false 125 (pos 6); block = 16; budget = Some 2; policy = Oldest; scope = BudgetScope.PerGroup; table = false }

is_made : make_console making 1 ≡ console.made made_console
unfolding rate_of
is_made = refl

-- ---- "sealing": one board is sealed for definitions of no node, the other is not. Its later spawn is closed by the one and let in by the other.
abbrev with_seal : List BoardCall
with_seal = store (host 2) ∷ seal (profile 0 1 0 0) ∷ store (spawn 0) ∷ []

abbrev without_seal : List BoardCall
without_seal = store (host 2) ∷ store (spawn 0) ∷ []

closed_there : answers with_seal ≡ done (call.node (id 0)) ∷ sealed ∷ refused Closed ∷ []
closed_there = refl

let_in_here : answers without_seal ≡ done (call.node (id 0)) ∷ done (spawned 1) ∷ []
unfolding eq whole order walk released fed among count_up settled
let_in_here = refl

-- "with its answer": the same sealing where a wish waits is not accepted
abbrev with_wish : List BoardCall
with_wish = store (host 2) ∷ wish_for 0 ∷ seal (profile 0 1 0 0) ∷ store (spawn 0) ∷ []

not_accepted : answers with_wish ≡ done (call.node (id 0)) ∷ given console.accepted ∷ refused NotAccepted ∷ done (spawned 1) ∷ []
unfolding eq whole order walk released fed among count_up settled
not_accepted = refl

-- in all else they agree, so that without the sealing and its answer the bus's spawns would not be answered alike. Refuses: sealing no call of the bus; its answer not compared.
abbrev but_sealings : List Asked → List Asked
but_sealings [] = []
but_sealings (sealing s a ∷ l) = but_sealings l
but_sealings (passed c ∷ l) = passed c ∷ but_sealings l
but_sealings (shut c ∷ l) = shut c ∷ but_sealings l

abbrev itself : Matching
itself = record { nodes = record { one = id 0; two = id 0 } ∷ []; voices = [] }

abbrev Agrees : List BoardCall → List BoardCall → Type 0
Agrees xs ys = AgreeAsked itself (id 0) (id 0) (but_sealings (asked xs new)) (new_ledger made) (but_sealings (asked ys new)) (new_ledger made)

all_but_sealing : Agrees with_seal without_seal × Agrees with_seal with_wish
unfolding eq whole order walk released fed among count_up settled
all_but_sealing = (agrees, agrees)
  where
    agrees : AgreeAsked itself (id 0) (id 0) (passed (host 2) ∷ shut (spawn 0) ∷ []) (new_ledger made) (passed (host 2) ∷ passed (spawn 0) ∷ []) (new_ledger made)
    agrees = both refl refl (both_passed agree.added) (both refl refl (first_shut (managed (record { def = refl; bus = inl refl; pan = refl; rank = refl }))) ends)

-- with it they do not agree, under no matching: the theorem would say that the seals answered alike
every_closed : every (run (calls_from 1 (let_through with_seal made_console)) (new_ledger made)).answers ≡ true
unfolding every
every_closed = refl

every_let_in : every (run (calls_from 1 (let_through without_seal made_console)) (new_ledger made)).answers ≡ true
unfolding every eq whole order walk released fed among count_up settled
every_let_in = refl

begins : Begins making 1 made_console
unfolding rate_of
begins = with_keyboards 1 made_console is_made

sealing_apart : (m : Matching) → BoardAgreement m made (id 0) (id 0) (asked with_seal new) (asked without_seal new) → ⊥
unfolding rate_of
sealing_apart m a =
    let e = (board_isolated making 1 1 made_console made_console begins begins refl m (id 0) (id 0) with_seal without_seal (covered _ every_closed) (covered _ every_let_in) a).seals in
    let z : ◌≡◌ {A = ℕ} 3 2 = ap length e in
    omega arith

-- ---- Two boards that are sealed, by the matching of isolation's scene. In the first there is another bus, node 0: it was played, and the bus, node 1, feeds it; it is asked for after the
-- sealing too. The bus is played by a turn. In the second the bus is node 0 and all there is. A definition of 2 nodes is closed on both.
abbrev large : ℕ → Call
large k = call.spawn_managed (spawn_of (tones 2 0) (id k) (float 0) 0)

abbrev played : List BoardCall
played =
    store (host 2) ∷ store (host 2) ∷ store (spawn 0) ∷ store (free 1) ∷ store (wire 1 0 0) ∷ seal (profile 1 2 1 1) ∷ store (spawn 0) ∷ wish_for 1 ∷ on console.turn ∷ store (large 1) ∷ []

abbrev alone : List BoardCall
alone = store (host 2) ∷ seal (profile 0 1 0 1) ∷ store (spawn 0) ∷ store (large 0) ∷ []

played_answers :
    answers played
    ≡ done (call.node (id 0)) ∷ done (call.node (id 1)) ∷ done (spawned 1) ∷ done (call.ordered Applied) ∷ done call.done ∷ sealed ∷ refused Closed ∷ given console.accepted
    ∷ given (console.served 0 (spawned 2)) ∷ refused Closed ∷ []
unfolding eq whole order walk released fed among count_up settled
played_answers = refl

alone_answers : answers alone ≡ done (call.node (id 0)) ∷ sealed ∷ done (spawned 1) ∷ refused Closed ∷ []
unfolding eq whole order walk released fed among count_up settled
alone_answers = refl

-- what a call leaves
abbrev after : Call → Ledger → Ledger
after x k = ledger_by (passed x) k

abbrev start : Ledger
start = new_ledger made

abbrev hosted : Ledger
hosted = after (host 2) start

-- before the spawn on the bus, and after it
abbrev k₀ : Ledger
k₀ = after (host 2) hosted

abbrev k₁ : Ledger
k₁ = after (wire 1 0 0) (after (free 1) (after (spawn 0) k₀))

abbrev k₂ : Ledger
k₂ = after (spawn 1) k₁

abbrev l₂ : Ledger
l₂ = after (spawn 0) hosted

let_in_lem : Arrive ids (let_in (spawn_managed (spawn_on 1) k₁)) (let_in (spawn_managed (spawn_on 0) hosted))
unfolding eq whole order walk released fed among count_up settled
let_in_lem = (inl refl, one_node)

same_profile : SameProfile ids (profile 1 2 1 1) (profile 0 1 0 1)
same_profile = record { bus = inl refl; def_nodes = refl; def_edges = refl }

spawns : (d : SynthDef) → SameSpawn ids (spawn_of d (id 1) (float 0) 0) (spawn_of d (id 0) (float 0) 0)
spawns d = record { def = refl; bus = inl refl; pan = refl; rank = refl }

same_spawn : Equal ids (id 1) (id 0) (spawn 1) k₁ (spawn 0) hosted
unfolding eq whole order walk released fed among count_up settled
same_spawn = agree.managed {x = spawn_on 1} {y = spawn_on 0} {k = k₁} {l = hosted} (spawns tone_def) let_in_lem

same_large : SameSpawns ids (large 1) (large 0)
same_large = managed (spawns (tones 2 0))

-- from the large spawn on, then from each call before it
from_large : AgreeAsked ids (id 1) (id 0) (shut (large 1) ∷ []) k₂ (shut (large 0) ∷ []) l₂
unfolding eq whole order walk released fed among count_up settled
from_large =
    both {x = shut (large 1)} {y = shut (large 0)} {xs = []} {ys = []} {k = k₂} {l = l₂} refl refl
    (both_shut {x = large 1} {y = large 0} {k = k₂} {l = l₂} same_large) (ends {k = k₂} {l = l₂})

from_spawn : AgreeAsked ids (id 1) (id 0) (passed (spawn 1) ∷ shut (large 1) ∷ []) k₁ (passed (spawn 0) ∷ shut (large 0) ∷ []) hosted
unfolding eq whole order walk released fed among count_up settled
from_spawn =
    both {x = passed (spawn 1)} {y = passed (spawn 0)} {k = k₁} {l = hosted} refl refl
    (both_passed {x = spawn 1} {y = spawn 0} {k = k₁} {l = hosted} same_spawn) from_large

abbrev sealed_there : List Asked
sealed_there = sealing (profile 1 2 1 1) sealed ∷ shut (spawn 0) ∷ passed (spawn 1) ∷ shut (large 1) ∷ []

abbrev sealed_here : List Asked
sealed_here = sealing (profile 0 1 0 1) sealed ∷ passed (spawn 0) ∷ shut (large 0) ∷ []

from_sealing : AgreeAsked ids (id 1) (id 0) sealed_there k₁ sealed_here hosted
unfolding eq whole order walk released fed among count_up settled
from_sealing =
    both {k = k₁} {l = hosted} refl refl (sealings {k = k₁} {l = hosted} same_profile refl)
    (first {x = shut (spawn 0)} {k = k₁} {l = hosted} refl from_spawn)

others : AgreeAsked ids (id 1) (id 0) (passed (spawn 0) ∷ passed (free 1) ∷ passed (wire 1 0 0) ∷ sealed_there) k₀ sealed_here hosted
unfolding eq whole order walk released fed among count_up settled
others =
    first {x = passed (spawn 0)} {k = k₀} {l = hosted} refl
    (first {x = passed (free 1)} {k = after (spawn 0) k₀} {l = hosted} refl
    (first {x = passed (wire 1 0 0)} {k = after (free 1) (after (spawn 0) k₀)} {l = hosted} refl from_sealing))

hosts : AgreeAsked ids (id 1) (id 0) (asked played new) start (asked alone new) start
unfolding eq whole order walk released fed among count_up settled
hosts =
    first {x = passed (host 2)} {k = start} {l = start} refl
    (both {x = passed (host 2)} {y = passed (host 2)} {k = hosted} {l = start} refl refl
    (both_passed {x = host 2} {y = host 2} {k = hosted} {l = start} agree.added) others)

pub sealed_agreement : BoardAgreement ids made (id 1) (id 0) (asked played new) (asked alone new)
sealed_agreement = record { nodes = agreement.nodes; voices = agreement.voices; bus = agreement.bus; calls = hosts }

-- so the theorem holds of them
every_played : every (run (calls_from 1 (let_through played made_console)) (new_ledger made)).answers ≡ true
unfolding every eq whole order walk released fed among count_up settled
every_played = refl

every_alone : every (run (calls_from 1 (let_through alone made_console)) (new_ledger made)).answers ≡ true
unfolding every eq whole order walk released fed among count_up settled
every_alone = refl

pub sealed_isolated : BoardIsolation making 1 1 made_console made_console (id 1) (id 0) played alone
unfolding rate_of
sealed_isolated = board_isolated making 1 1 made_console made_console begins begins refl ids (id 1) (id 0) played alone (covered _ every_played) (covered _ every_alone) sealed_agreement
