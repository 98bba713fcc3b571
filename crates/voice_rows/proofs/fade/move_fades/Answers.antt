use Rattle.std.proofs.Common.{rules, ◌≡◌, List, ℕ, [], get_or}
use Rattle.std.specs.Prelude.{Some}
use Rattle.model.specs.Render.{further}
use Rattle.voice.specs.Voice.{moved, moved_state}
use Rattle.words.proofs.Changes.{changed_rows, stored_some}
use Rattle.voice_rows.specs.Rows.{voice_of, voices_in, state_at, Spells}
use Rattle.voice_rows.proofs.Words.{state_put}
use Rattle.voice_rows.proofs.fade.move_fades.Goals as goal

pub returns : goal.returns
returns c =
    let s = c.args in
    let f = moved (further s.block) in
    changed_rows 143 11 (λ l. l) voice_of f s.t.now c.change_rows.new.t s.count _ c.change_rows.ensures
    (λ t i r h.
    let x = get_or (voices_in t.now) i (voice_of []) in
    let state = moved_state (further s.block) x.state in
    let told : (ws : List ℕ) × (r ≡ Some ws) × Spells state_at 8 state ws = search rules in
    stored_some 143 11 (λ l. l) voice_of t.now i (f x) r told.0 told.1 (state_put t.now told.0 i state told.2))
