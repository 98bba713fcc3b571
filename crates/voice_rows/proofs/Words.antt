-- The words of a voice, stored part by part, and the part that is its state.
use Prim.Native.Nat.{ℕ, ◌+◌, ◌*◌, ◌/◌, ◌<◌, ◌≤◌}
use native.Mathlib.Omega.{arith}
use native.Mathlib.Nat.{zero-add}
use mathlib.Core.Bool.{Bool, true, false}
use mathlib.Core.Path.{◌≡◌, refl, sym, ap, ◌∙◌}
use mathlib.Core.Logic.{inl, inr}
use mathlib.Core.List.{List, []}
use lib.Dec.{ltb}
use lib.ListN.{length, take, get_or, set}
use lib.Seq.{ext_get_or, sets, length-sets, length-take-le, get_or-take}
use borrow.Author.Tests.{ltb-true, ltb-false}
use Rattle.synthdef.specs.declared.def.Param.{Param}
use Rattle.synthdef.specs.declared.plan.DoneStep.{DoneStep}
use Rattle.voice.specs.declared.voices.Voice.{Voice}
use Rattle.voice.specs.declared.voices.VoiceState.{VoiceState}
use Rattle.voice.specs.Voice.{with_state}
use Rattle.words.specs.Rows.{row_at, fields_put}
use Rattle.words.proofs.Words.{spell, spelled}
use Rattle.words.proofs.Rows.{row_is, rows_kept, at_long, sets_out, rows_long}
use Rattle.words.proofs.Within.{take_sets, put_past, fields_is}
use Rattle.voice_rows.specs.Rows.{state_at, param_at, step_at, params_in, steps_in, headed, voice_of, voices_in, Heads, Stands, Spells}
use Rattle.voice_rows.specs.Filled.{Filled}
use Rattle.voice_rows.proofs.Filling.{each_same, sets_in}
use Rattle.voice_rows.specs.Layouts.{param_local, step_local}

-- so many words have room for 64 voices
pub voices_long : (c : List ℕ) → length c ≡ 9152 → length (voices_in c) ≡ 64
voices_long c h = rows_long 143 voice_of c ∙ ap (λ k. k / 143) h

-- the same words from a place on give the same parameters, and the same steps
params_same : (c e : List ℕ) → ((j : ℕ) → 23 ≤ j → j < 71 → get_or c j 0 ≡ get_or e j 0) → params_in c ≡ params_in e
params_same c e h =
    each_same (λ k. param_at c (23 + k * 6)) (λ k. param_at e (23 + k * 6)) 8
    (λ k b. param_local c e (23 + k * 6) (23 + k * 6) (λ j l. h (23 + k * 6 + j) (omega arith) (omega arith)))

steps_same : (c e : List ℕ) → ((j : ℕ) → 71 ≤ j → get_or c j 0 ≡ get_or e j 0) → steps_in c ≡ steps_in e
steps_same c e h =
    each_same (λ k. step_at c (71 + k * 3)) (λ k. step_at e (71 + k * 3)) 24
    (λ k b. step_local c e (71 + k * 3) (71 + k * 3) (λ j l. h (71 + k * 3 + j) (omega arith)))

-- head, parameters and steps, one after the other
pub voice_filled : (v : Voice) (old one two three head : List ℕ) → length old ≡ 143 → Heads v head → one ≡ sets old 0 head
    → Filled 23 6 8 param_at one two v.params.rows → Filled 71 3 24 step_at two three v.plan.steps → Stands v three
unfolding voice_of
voice_filled v old one two three head h hd put ps st =
    record {
      long = long;
      back =
          ap (λ l. headed l (params_in three) (steps_in three)) first
          ∙ ap (λ l. headed head l (steps_in three)) (params_same three two (λ j a b. st.out j (inl b)) ∙ ps.is)
          ∙ ap (headed head v.params.rows) st.is
          ∙ hd.back;
    }
  where
    long : length three ≡ 143
    long = st.long ∙ ps.long ∙ ap length put ∙ length-sets old 0 head ∙ h

    word : (j : ℕ) → j < 23 → get_or three j 0 ≡ get_or head j 0
    word j b =
        let fits : 0 + length head ≤ length old = omega (arith, hd.long) in
        let inside : j < length head = omega (arith, hd.long) in
        st.out j (inl (omega arith)) ∙ ps.out j (inl b) ∙ ap (λ l. get_or l j 0) put
        ∙ ap (λ k. get_or (sets old 0 head) k 0) (sym (zero-add j)) ∙ sets_in head old 0 j fits inside

    first : take 23 three ≡ head
    first =
        let size : length (take 23 three) ≡ 23 = length-take-le 23 three (omega (arith, long)) in
        ext_get_or 0 (take 23 three) head (size ∙ sym hd.long)
        (λ j b. let below : j < 23 = omega (arith, size) in get_or-take 23 three j 0 below ∙ word j below)

-- ---- the state's eight words
head_state : (r ws : List ℕ) (ps : List Param) (st : List DoneStep) (s : VoiceState) → length r ≡ 23 → Spells state_at 8 s ws → headed (sets r 11 ws) ps st ≡ with_state s (headed r ps st)
unfolding headed
head_state r ws ps st s h e =
    ap (λ l. headed (sets l 11 ws) ps st) (sym (spelled 23 r h))
    ∙ ap (λ l. headed (sets r23 11 l) ps st) (sym (spelled 8 ws e.long))
    ∙ ap (λ x. with_state x (headed r23 ps st)) (ap (λ l. state_at l 0) (spelled 8 ws e.long) ∙ e.back)
    ∙ ap (λ l. with_state s (headed l ps st)) (spelled 23 r h)
  where
    r23 : List ℕ
    r23 = spell 0 23 r

pub state_set : (r ws : List ℕ) (s : VoiceState) → length r ≡ 143 → Spells state_at 8 s ws → voice_of (sets r 11 ws) ≡ with_state s (voice_of r)
unfolding voice_of
state_set r ws s h e =
    let fit : 11 + length ws ≤ 23 = omega (arith, e.long) in
    let size : length (take 23 r) ≡ 23 = length-take-le 23 r (omega arith) in
    ap (λ l. headed l (params_in (sets r 11 ws)) (steps_in (sets r 11 ws))) (take_sets 23 11 r ws fit)
    ∙ ap (λ l. headed (sets (take 23 r) 11 ws) l (steps_in (sets r 11 ws))) (params_same (sets r 11 ws) r (λ j a b. sets_out ws r 11 j (inr (omega arith))))
    ∙ ap (headed (sets (take 23 r) 11 ws) (params_in r)) (steps_same (sets r 11 ws) r (λ j a. sets_out ws r 11 j (inr (omega arith))))
    ∙ head_state (take 23 r) ws (params_in r) (steps_in r) s size e

-- a row whose state is stored; past the end nothing is
pub state_put : (c ws : List ℕ) (i : ℕ) (s : VoiceState) → Spells state_at 8 s ws
    → voices_in (fields_put 143 i 11 ws c) ≡ set (voices_in c) i (with_state s (get_or (voices_in c) i (voice_of [])))
state_put c ws i s e = go (ltb i (length c / 143)) refl
  where
    go : (b : Bool) → ltb i (length c / 143) ≡ b → voices_in (fields_put 143 i 11 ws c) ≡ set (voices_in c) i (with_state s (get_or (voices_in c) i (voice_of [])))
    go true t =
        let inside : i < length c / 143 = ltb-true i (length c / 143) t in
        let fit : 11 + length ws ≤ 143 = omega (arith, e.long) in
        fields_is 143 voice_of c ws i 11 (omega arith) fit
        ∙ ap (set (voices_in c) i) (state_set (row_at 143 i c) ws s (at_long 143 i c inside) e ∙ ap (with_state s) (sym (row_is 143 voice_of c i)))
    go false t =
        let past : length c / 143 ≤ i = ltb-false i (length c / 143) t in
        ap voices_in (sym (put_past 143 i 11 ws c past)) ∙ rows_kept 143 voice_of c i (with_state s (get_or (voices_in c) i (voice_of []))) past
