-- The live voices, in order of admission, and how many voice ids were given out. Ids are numbered from 1, and never given twice.
use Rattle.std.specs.Prelude.{ℕ, ◌+◌, ◌≤◌, List, [], ◌∷◌, ◌++◌, map, Bool, true, not, cond, leb, ltb, length, Option, None, Some, Result, Ok, Err, filter}
use Rattle.std.specs.List.{list_any}
use Rattle.lists.specs.Member.{In}
use Rattle.lists.specs.Rising.{RisesFrom}
use Rattle.node.specs.declared.record.VoiceId.{VoiceId}
use Rattle.node.specs.declared.refusal.Refusal.{Refusal}
use Rattle.node.specs.declared.refusal.Refusal.TheVariants.{TableFull, IdsUsedUp}
use Rattle.voice.specs.declared.voices.Voice.{Voice}
use Rattle.voice.specs.Voice.{is_voice, start_of, ended}

pub record VoicesView : Type 0 where
  pub live : List Voice
  pub spawned : ℕ

abbrev pub no_voices : VoicesView
no_voices = record { live = []; spawned = 0 }

abbrev pub id_of : Voice → ℕ
id_of v = v.id.0

-- What is true of all voices: their ids rise, are given out, and are of no more voices than the table has room for.
pub record Numbered (live : List Voice) (spawned : ℕ) : Type 0 where
  pub rises : RisesFrom id_of 1 live
  pub given : (v : Voice) → In v live → v.id.0 ≤ spawned
  pub fits : length live ≤ 64
  -- ids are numbers of 64 bits
  pub wide : spawned ≤ 18446744073709551615

-- ---- what is asked of them
abbrev pub is_any_of : List VoiceId → Voice → Bool
is_any_of ws v = list_any (λ w. is_voice w v) ws

abbrev pub ended_ids : ℕ → List Voice → List VoiceId
ended_ids len vs = map (λ (v : Voice). v.id) (filter (λ v. ended len v.state) vs)

-- whether the fade of v started before that of the best so far
abbrev pub starts_before : Voice → Option Voice → Bool
starts_before v None = true
starts_before v (Some u) = ltb (start_of v.state) (start_of u.state)

-- ---- one voice more
-- 8 where all ids are given out
abbrev pub next_id : ℕ → Result VoiceId Refusal
next_id spawned = cond (leb 18446744073709551615 spawned) (Err IdsUsedUp) (Ok (record { 0 = spawned + 1 }))

-- 7 where 64 voices live, then 8
abbrev pub admitted_as : VoicesView → Result VoiceId Refusal
admitted_as m = cond (leb 64 (length m.live)) (Err TableFull) (next_id m.spawned)

abbrev pub with_id : VoiceId → Voice → Voice
with_id w v =
    record {
      id = w;
      birth = v.birth;
      bus = v.bus;
      port = v.port;
      first = v.first;
      count = v.count;
      output = v.output;
      panned = v.panned;
      sequence = v.sequence;
      rank = v.rank;
      state = v.state;
      params = v.params;
      plan = v.plan;
    }

-- the voice under the id that it was given, behind the others; or the voices as they were
abbrev pub with_voice : Result VoiceId Refusal → Voice → VoicesView → VoicesView
with_voice (Err r) v m = m
with_voice (Ok w) v m = record { live = m.live ++ (with_id w v ∷ []); spawned = m.spawned + 1 }

-- ---- the same voices, some gone or changed
abbrev pub with_live : List Voice → VoicesView → VoicesView
with_live vs m = record { live = vs; spawned = m.spawned }

abbrev pub without : (Voice → Bool) → VoicesView → VoicesView
without q m = with_live (filter (λ v. not (q v)) m.live) m

abbrev pub each : (Voice → Voice) → VoicesView → VoicesView
each f m = with_live (map f m.live) m
