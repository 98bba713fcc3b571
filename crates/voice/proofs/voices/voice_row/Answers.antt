use Rattle.std.proofs.Common.{rules, arith, sym}
use Rattle.voice.specs.Voices.{id_of}
use Rattle.lists.proofs.Halve.{point, hit, miss, past}
use Rattle.voice.proofs.voices.voice_row.Goals as goal
use Rattle.voice.proofs.voices.voice_row.Goals.{else-at-rows-via-then-at-rows+else-rows-at, else-at-rows-via-else-at-rows}

pub returns-then-rows-at : goal.returns-then-rows-at
returns-then-rows-at c =
    let p = point id_of c.args.voice.0 _ _ c.requires c.partition_point-at.ensures.partitioned (λ a r f called. search rules) in
    sym (hit id_of c.args.voice.0 _ _ c.requires c.partition_point-at.ensures.bound p _ c.if-at-rows.true c.if-rows-at.true)

pub returns : goal.returns
returns c =
    let p = point id_of c.args.voice.0 _ _ c.requires c.partition_point-at.ensures.partitioned (λ a r f called. search rules) in
    elim c.else-at-rows.branch [
      | else-at-rows-via-then-at-rows+else-rows-at w ↦ sym (miss id_of c.args.voice.0 _ _ c.requires c.partition_point-at.ensures.bound p _ (λ m. w.if-rows-at.false))
      | else-at-rows-via-else-at-rows w ↦ sym (past id_of c.args.voice.0 _ _ c.requires c.partition_point-at.ensures.bound p (omega (arith, w.if-at-rows.false)))
    ]
