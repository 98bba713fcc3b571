-- The fields of a voice, read from the words of its row.
use Prim.Native.Nat.{ℕ, ◌+◌, ◌%◌, ◌<◌}
use native.Mathlib.Omega.{arith}
use mathlib.Core.Path.{◌≡◌, refl, sym, ap, ◌∙◌}
use mathlib.Core.List.{List, []}
use lib.ListN.{take, get_or}
use lib.Seq.{get_or-take}
use Rattle.voice.specs.declared.voices.Voice.{Voice}
use Rattle.words.specs.Fields.{is_set, long_from, long_at}
use Rattle.words.specs.Rows.{row_at}
use Rattle.words.proofs.Rows.{row_is}
use Rattle.voice_rows.specs.Rows.{node, state_at, params_in, steps_in, headed, voice_of, voices_in}
use Rattle.voice_rows.proofs.Records.{state_local}

pub record VoiceRow (r : List ℕ) (v : Voice) : Type 0 where
  pub id : record { 0 = long_at r 0 } ≡ v.id
  pub birth : long_at r 2 ≡ v.birth
  pub bus : node (get_or r 4 0) ≡ v.bus
  pub port : get_or r 5 0 ≡ v.port
  pub first : node (get_or r 6 0) ≡ v.first
  pub count : get_or r 7 0 ≡ v.count
  pub output : node (get_or r 8 0) ≡ v.output
  pub panned : is_set (get_or r 9 0) ≡ v.panned
  pub sequence : get_or r 10 0 ≡ v.sequence
  pub rank : get_or r 22 0 ≡ v.rank
  pub state : state_at r 11 ≡ v.state
  pub held : long_at r 19 ≡ v.params.count
  pub rows : params_in r ≡ v.params.rows
  pub steps : steps_in r ≡ v.plan.steps
  pub last : get_or r 21 0 % 256 ≡ v.plan.output

module _ (r : List ℕ) where
  word : (k : ℕ) → k < 23 → get_or r k 0 ≡ get_or (take 23 r) k 0
  word k h = sym (get_or-take 23 r k 0 h)

  long : (k : ℕ) → k + 1 < 23 → long_at r k ≡ long_at (take 23 r) k
  long k h =
      let below : k < 23 = omega arith in
      ap (λ x. long_from x (get_or r (k + 1) 0)) (word k below) ∙ ap (long_from (get_or (take 23 r) k 0)) (word (k + 1) h)

  row : VoiceRow r (voice_of r)
  unfolding voice_of headed
  row =
      record {
        id = ap (λ (x : ℕ). record { 0 = x }) (long 0 (omega arith));
        birth = long 2 (omega arith);
        bus = ap node (word 4 (omega arith));
        port = word 5 (omega arith);
        first = ap node (word 6 (omega arith));
        count = word 7 (omega arith);
        output = ap node (word 8 (omega arith));
        panned = ap is_set (word 9 (omega arith));
        sequence = word 10 (omega arith);
        rank = word 22 (omega arith);
        state = state_local r (take 23 r) 11 11 (λ j b. word (11 + j) (omega arith));
        held = long 19 (omega arith);
        rows = refl;
        steps = refl;
        last = ap (λ x. x % 256) (word 21 (omega arith));
      }

-- the voice in row i
pub voice_row : (c : List ℕ) (i : ℕ) → VoiceRow (row_at 143 i c) (get_or (voices_in c) i (voice_of []))
voice_row c i = rw (row_is 143 voice_of c i) (row (row_at 143 i c))
