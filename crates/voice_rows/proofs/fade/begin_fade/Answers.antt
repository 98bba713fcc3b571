use Rattle.std.proofs.Common.{rules, [], get_or}
use Rattle.voice.specs.declared.voices.VoiceState.TheVariants.{Fading}
use Rattle.voice.specs.Voice.{is_voice, begin_fade, with_state}
use Rattle.words.proofs.Changes.{changed_rows, stored_where}
use Rattle.voice_rows.specs.Rows.{voice_of, voices_in}
use Rattle.voice_rows.proofs.Words.{state_put}
use Rattle.voice_rows.proofs.fade.begin_fade.Goals as goal

pub returns : goal.returns
returns c =
    let s = c.args in
    let ws = c.state_words-ws in
    changed_rows 143 11 (λ l. l) voice_of (begin_fade s.w s.f) s.t.now c.change_rows.new.t s.count _ c.change_rows.ensures
    (λ t i r h.
    let x = get_or (voices_in t.now) i (voice_of []) in
    stored_where 143 11 (λ l. l) voice_of t.now i (with_state (Fading s.f) x) r ws.result (is_voice s.w x) (search rules) (state_put t.now ws.result i (Fading s.f) ws.ensures))
