-- Closed scenes of turns, each with the wrong rule that it refuses; and that the bound (k + 1) × m is reached.
use Prim.Native.Nat.{ℕ, zero, suc}
use mathlib.Core.Path.{◌≡◌, refl}
use mathlib.Core.List.{List, [], ◌∷◌, ◌++◌, map}
use Rattle.std.specs.Prelude.{Option, None, Some, slice_get, Err, Ok}
use mathlib.Core.Bool.{Bool, true, false}
use lib.ListN.{replicate, drop}
use Rattle.std.specs.Prelude.{pos}
use lib.Ieee.{Float, nan, inf, fin, eq}
use Rattle.rank.specs.Order as rank
use Rattle.voice.specs.Voice.{id}
use Rattle.bus.specs.Rate.{rate_of}
use Rattle.voice.specs.declared.voices.Voice.{Voice}
use Rattle.model.specs.Scene.{tone_def, up_to, float, host, voice}
use Rattle.model.specs.Make.{Making, new_model}
use Rattle.model.specs.Call.{spawned}
use Rattle.model.specs.Call as call
use Rattle.node.specs.declared.refusal.Refusal.TheVariants.{UnknownNode, RankTooHigh}
use Rattle.node.specs.Refusal.{number_of}
use Rattle.voice.specs.declared.policy.StealPolicy.TheVariants.{Oldest}
use Rattle.voice.specs.declared.policy.BudgetScope.TheVariants.{Global}
use Rattle.store.specs.declared.wish.Wish.{Wish}
use Rattle.console.specs.declared.refusal.KeyboardRefusal.TheVariants.{OutOfRange, Full}
use Rattle.console.specs.Refusal as keyboard
use Rattle.console.specs.Wishes.{Wishes, keyboards_refusal, new_wishes}
use Rattle.console.specs.Console.{Console, ConsoleCall, on, wish, turn, ConsoleAnswer, plain, accepted, refused, served, empty, ConsoleRan, console_run, ConsoleMade, made, refused_by, refused_for, make_console, wishes_run, served_of}

-- wishes that can be told apart: for the bus n
abbrev w : ℕ → Wish
w n = record { managed = false; def = tone_def; bus = id n; pan = nan; rank = 0 }

-- ---- tight: (k + 1) × m is reached, for m = 1, 2, 3 and 8 and k = 0, 2. The wish w 9 stands last at keyboard m - 1, with k before it;
-- that keyboard was served last, and each other has k + 1 wishes. One turn fewer does not serve it.
-- Refuses: a bound of k × m + 1, or of 8 turns a round; a turn that stays with a keyboard.
abbrev full : ℕ → ℕ → ℕ → List ConsoleCall
full zero n k = []
full (suc m) n k = replicate k (wish m (w n)) ++ full m n k

-- m keyboards, of which m - 1 was served last and now has k wishes before w 9; the others k + 1 each
abbrev tight : ℕ → ℕ → Wishes
tight zero k = new_wishes 0
tight (suc m) k = wishes_run ((wish m (w 0) ∷ turn ∷ []) ++ replicate k (wish m (w 1)) ++ (wish m (w 9) ∷ []) ++ full m 2 (suc k)) (new_wishes (suc m))

-- the place k among those served of keyboard q, after t turns
abbrev after : ℕ → Wishes → ℕ → ℕ → Option Wish
after t ws q k = slice_get (served_of q (replicate t turn) ws) k

tight_1 : (after 0 (tight 1 0) 0 0 ≡ None) × (after 1 (tight 1 0) 0 0 ≡ Some (w 9)) × (after 2 (tight 1 2) 0 2 ≡ None) × (after 3 (tight 1 2) 0 2 ≡ Some (w 9))
tight_1 = (refl, refl, refl, refl)

tight_2 : (after 1 (tight 2 0) 1 0 ≡ None) × (after 2 (tight 2 0) 1 0 ≡ Some (w 9)) × (after 5 (tight 2 2) 1 2 ≡ None) × (after 6 (tight 2 2) 1 2 ≡ Some (w 9))
tight_2 = (refl, refl, refl, refl)

tight_3 : (after 2 (tight 3 0) 2 0 ≡ None) × (after 3 (tight 3 0) 2 0 ≡ Some (w 9)) × (after 8 (tight 3 2) 2 2 ≡ None) × (after 9 (tight 3 2) 2 2 ≡ Some (w 9))
tight_3 = (refl, refl, refl, refl)

tight_8 : (after 7 (tight 8 0) 7 0 ≡ None) × (after 8 (tight 8 0) 7 0 ≡ Some (w 9)) × (after 23 (tight 8 2) 7 2 ≡ None) × (after 24 (tight 8 2) 7 2 ≡ Some (w 9))
tight_8 = (refl, refl, refl, refl)

-- ---- a store with a bus of two ports, three keyboards
abbrev console : Console
console = record { model = new_model (up_to 1 Oldest); wishes = new_wishes 3 }

abbrev heard : List ConsoleCall → List ConsoleAnswer
heard xs = (console_run xs console).answers

abbrev pedal : Wish
pedal = record { managed = true; def = tone_def; bus = id 0; pan = inf false; rank = 0 }

abbrev strange : Wish
strange = record { managed = false; def = tone_def; bus = id 77; pan = inf false; rank = 0 }

-- "at first from keyboard 0", then "the next ... after the last served"; a spawn refused by the store counts as served; an empty turn
-- says so, and changes nothing: the next after it is keyboard 1, not 0 or 2. Wishes are not tested.
-- Refuses: the first turn at keyboard 1; the same keyboard served again; a refused spawn that stays; an empty turn that moves on; the
-- newest wish first.
turns_go_round :
    heard (on (host 2) ∷ turn ∷ wish 0 strange ∷ wish 0 pedal ∷ wish 2 pedal ∷ turn ∷ turn ∷ turn ∷ turn ∷ wish 0 pedal ∷ wish 1 pedal ∷ turn ∷ [])
    ≡ plain (call.node (id 0)) ∷ empty ∷ accepted ∷ accepted ∷ accepted ∷ served 0 (spawned (Err UnknownNode)) ∷ served 2 (spawned (Ok (voice 1)))
    ∷ served 0 (spawned (Ok (voice 2))) ∷ empty ∷ accepted ∷ accepted ∷ served 1 (spawned (Ok (voice 3))) ∷ []
unfolding eq rank.whole rank.order rank.walk rank.released rank.among rank.count_up rank.fed
turns_go_round = refl

-- Four keyboards with two wishes each: upward from 0, and round again. Refuses: a round taken downward, one that turns at its end.
upward :
    (console_run (replicate 2 (wish 0 strange) ++ replicate 2 (wish 1 strange) ++ replicate 2 (wish 2 strange) ++ replicate 2 (wish 3 strange) ++ replicate 6 turn)
    (record { model = new_model (up_to 1 Oldest); wishes = new_wishes 4 })).answers
    ≡ replicate 8 accepted ++ map (λ q. served q (spawned (Err UnknownNode))) (0 ∷ 1 ∷ 2 ∷ 3 ∷ 0 ∷ 1 ∷ [])
unfolding rank.whole rank.order rank.walk rank.released rank.among rank.count_up rank.fed
upward = refl

-- A wish's rank and pan reach its voice: rank 5 and panned, rank 2 and in the middle; and rank 9 is refused by 26. Refuses: rank 0 or pan 0 for what
-- was asked.
abbrev asks : ℕ → Float → Wish
asks r pan = record { managed = true; def = tone_def; bus = id 0; pan = pan; rank = r }

abbrev choir : ConsoleRan
choir = console_run (on (host 2) ∷ wish 0 (asks 5 nan) ∷ wish 0 (asks 2 (float 0)) ∷ wish 1 (asks 9 nan) ∷ replicate 3 turn) (record { model = new_model (up_to 2 Oldest); wishes = new_wishes 3 })

asked_for :
    (map (λ (v : Voice). v.rank) choir.console.model.voices ≡ 5 ∷ 2 ∷ []) × (map (λ (v : Voice). v.panned) choir.console.model.voices ≡ true ∷ false ∷ [])
    × (drop 4 choir.answers ≡ served 0 (spawned (Ok (voice 1))) ∷ served 1 (spawned (Err RankTooHigh)) ∷ served 0 (spawned (Ok (voice 2))) ∷ [])
unfolding eq rank.whole rank.order rank.walk rank.released rank.among rank.count_up rank.fed
asked_for = (refl, refl, refl)

-- 24 before 25; 16 wait, a 17th is refused; after a turn there is room again. Refuses: seventeen wishes; keyboard 3 of 3; a table shared by all.
refusals :
    heard (replicate 16 (wish 1 pedal) ++ (wish 1 pedal ∷ wish 3 pedal ∷ wish 0 pedal ∷ turn ∷ wish 1 pedal ∷ turn ∷ wish 1 pedal ∷ wish 1 pedal ∷ []))
    ≡ replicate 16 accepted ++ (refused Full ∷ refused OutOfRange ∷ accepted ∷ served 0 (spawned (Err UnknownNode)) ∷ refused Full
    ∷ served 1 (spawned (Err UnknownNode)) ∷ accepted ∷ refused Full ∷ [])
unfolding rank.whole rank.order rank.walk rank.released rank.among rank.count_up rank.fed
refusals = refl

-- "From 1 to 8 keyboards". Refuses: none, and nine.
counts : (keyboards_refusal 0 ≡ Some OutOfRange) × (keyboards_refusal 1 ≡ None) × (keyboards_refusal 8 ≡ None) × (keyboards_refusal 9 ≡ Some OutOfRange)
counts = (refl, refl, refl, refl)

-- ---- Making, wrong in all, and then in one thing less each time: 1, 2, 3, 20, and 24 last. Refuses: 24 before any of the store's.
abbrev number : ConsoleMade → ℕ
number (made c) = 0
number (refused_by r) = number_of r
number (refused_for r) = keyboard.number_of r

abbrev making : Float → ℕ → ℕ → Bool → Making
making rate block budget table = record { rate = rate; block = block; budget = Some budget; policy = Oldest; scope = Global; table = table }

-- 8,000 and 48,000
abbrev low : Float
low = fin false 125 (pos 6)

abbrev high : Float
high = fin false 375 (pos 7)

orders :
    map (λ (p : Making × ℕ). number (make_console p.0 p.1))
    ((making nan 0 65 true, 0) ∷ (making low 0 65 true, 0) ∷ (making low 1 65 true, 9) ∷ (making low 1 64 true, 9) ∷ (making low 1 64 false, 9) ∷ (making high 1 64 true, 0)
    ∷ (making high 128 64 true, 1) ∷ (making low 128 0 false, 8) ∷ [])
    ≡ 1 ∷ 2 ∷ 3 ∷ 20 ∷ 24 ∷ 24 ∷ 0 ∷ 0 ∷ []
unfolding rate_of
orders = refl
