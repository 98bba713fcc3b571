-- A voice in 143 words, and the voices that a list of words is. Any words stand for some voice. The first 23 words are id 2,
-- birth 2, bus, port, first node, how many nodes, output, whether it is panned, noise sequence; state, fade's node, start 2, position 2,
-- record number 2; how many parameters 2, the plan's output, rank. Then come 8 parameters of 6 words and the plan's 24 steps of 3 words.
use Rattle.std.specs.Prelude.{ℕ, zero, suc, ◌+◌, ◌*◌, ◌/◌, ◌%◌, ◌≡◌, Bool, false, cond, List, [], ◌∷◌, ◌++◌, eqb, length, take, get_or}
use Rattle.node.specs.declared.record.NodeId.{NodeId}
use Rattle.synthdef.specs.declared.def.Param.{Param}
use Rattle.synthdef.specs.Tables.{Params}
use Rattle.synthdef.specs.declared.plan.DoneStep.{DoneStep}
use Rattle.voice.specs.declared.voices.Fade.{Fade}
use Rattle.voice.specs.declared.voices.Voice.{Voice}
use Rattle.voice.specs.declared.voices.VoiceState.{VoiceState}
use Rattle.voice.specs.declared.voices.VoiceState.TheVariants.{Tracked, Fading, Loose}
use Rattle.words.specs.Fields.{is_set, four, long_at, name_at}
use Rattle.words.specs.Rows.{rows}

abbrev pub node : ℕ → NodeId
node x = record { 0 = x }

-- a state in eight words: which, and of a fade its node, start, position and number
abbrev pub fade_at : List ℕ → ℕ → Fade
fade_at ws k = record { node = node (get_or ws (k + 1) 0); start = long_at ws (k + 2); position = long_at ws (k + 4); number = long_at ws (k + 6) }

abbrev pub state_at : List ℕ → ℕ → VoiceState
state_at ws k = cond (eqb (get_or ws k 0) 1) Tracked (cond (eqb (get_or ws k 0) 2) (Fading (fade_at ws k)) Loose)

-- a parameter's name takes five words; its node has a word of its own after them, or where they are packed, the second byte of the last of them
abbrev pub param_node_by : Bool → List ℕ → ℕ → ℕ
param_node_by packed ws k = cond packed (get_or ws (k + 4) 0 / 256 % 256) (get_or ws (k + 5) 0 % 256)

abbrev pub param_by : Bool → List ℕ → ℕ → Param
param_by packed ws k = record { name = name_at ws k; node = param_node_by packed ws k }

-- a voice's, in six words
abbrev pub param_at : List ℕ → ℕ → Param
param_at = param_by false

-- a step of a done plan in three words: eight sources, then how many count and whether all have to be silent
abbrev pub step_at : List ℕ → ℕ → DoneStep
step_at ws k =
    record { all = is_set (get_or ws (k + 2) 0 / 256); count = get_or ws (k + 2) 0 % 256; sources = four (get_or ws k 0) ++ four (get_or ws (k + 1) 0) }

-- f k, f (k + 1), .., n of them
abbrev pub each : {A : Type 0} → (ℕ → A) → ℕ → ℕ → List A
each f k zero = []
each f k (suc n) = f k ∷ each f (suc k) n

-- eight parameters of so many words each, from the word `first` on, and in the words from `held` on how many of them there are
abbrev pub params_by : Bool → ℕ → ℕ → ℕ → List ℕ → Params
params_by packed held first words ws = record { rows = each (λ k. param_by packed ws (first + k * words)) 0 8; count = long_at ws held }

abbrev pub params_in : List ℕ → List Param
params_in ws = each (λ k. param_at ws (23 + k * 6)) 0 8

abbrev pub steps_in : List ℕ → List DoneStep
steps_in ws = each (λ k. step_at ws (71 + k * 3)) 0 24

-- the voice of the first words, with these parameters and steps
unfoldable pub headed : List ℕ → List Param → List DoneStep → Voice
headed ws ps steps =
    record {
      id = record { 0 = long_at ws 0 };
      birth = long_at ws 2;
      bus = node (get_or ws 4 0);
      port = get_or ws 5 0;
      first = node (get_or ws 6 0);
      count = get_or ws 7 0;
      output = node (get_or ws 8 0);
      panned = is_set (get_or ws 9 0);
      sequence = get_or ws 10 0;
      rank = get_or ws 22 0;
      state = state_at ws 11;
      params = record { rows = ps; count = long_at ws 19 };
      plan = record { steps = steps; output = get_or ws 21 0 % 256 };
    }

unfoldable pub voice_of : List ℕ → Voice
voice_of ws = headed (take 23 ws) (params_in ws) (steps_in ws)

-- the voices that the words have room for
abbrev pub voices_in : List ℕ → List Voice
voices_in c = rows 143 voice_of c

-- words that stand for the first part of a voice, and for all of it
pub record Heads (v : Voice) (ws : List ℕ) : Type 0 where
  pub long : length ws ≡ 23
  pub back : headed ws v.params.rows v.plan.steps ≡ v

pub record Stands (v : Voice) (ws : List ℕ) : Type 0 where
  pub long : length ws ≡ 143
  pub back : voice_of ws ≡ v

-- some words among others that stand for a state, a parameter, a step
pub record Spells {A : Type 0} (at : List ℕ → ℕ → A) (w : ℕ) (x : A) (ws : List ℕ) : Type 0 where
  pub long : length ws ≡ w
  pub back : at ws 0 ≡ x
