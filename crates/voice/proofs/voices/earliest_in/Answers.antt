use Rattle.std.proofs.Common.{◌∙◌, sym, get_or, take}
use Rattle.std.proofs.lemmas.List.{take_more}
use Rattle.voice.specs.Voice.{fades_on}
use Rattle.voice.proofs.Earliest.{taken, passed_by, passed_later, blank}
use Rattle.voice.proofs.voices.earliest_in.Goals as goal
use Rattle.voice.proofs.voices.earliest_in.Goals.{then-fades_on+then-starts_before, else-fades_on, else-fades_on-via-then-fades_on+else-starts_before, else-fades_on-via-else-fades_on}

pub loop-v-preserved : goal.loop-v-preserved
loop-v-preserved c =
    let q = fades_on c.args.bus in
    let i = c.loop-v.v-index in
    let v = get_or c.args.rows.now i blank in
    let vs = take i c.args.rows.now in
    rw (take_more c.args.rows.now i blank c.loop-v-test.true)
    (elim c.if-fades_on.branch [
      | then-fades_on+then-starts_before w ↦ w.best-is ∙ taken q vs v c.loop-v.best c.loop-v.invariant (sym c.fades_on.ensures ∙ w.if-fades_on.true) (sym w.starts_before.ensures ∙ w.if-starts_before.true)
      | else-fades_on w ↦ w.best-is
          ∙ elim w.else-fades_on.branch [
            | else-fades_on-via-then-fades_on+else-starts_before w' ↦ passed_later q vs v c.loop-v.best c.loop-v.invariant (sym w'.starts_before.ensures ∙ w'.if-starts_before.false)
            | else-fades_on-via-else-fades_on w' ↦ passed_by q vs v c.loop-v.best c.loop-v.invariant (sym c.fades_on.ensures ∙ w'.if-fades_on.false)
          ]
    ])
