use mathlib.Core.Path.{refl, ap, ◌∙◌}
use Rattle.console.specs.Wishes.{picked}
use Rattle.call_console.specs.Queues.{wishes_of}
use Rattle.state_words.specs.State.{some_flag}
use Rattle.piecrag_c_console.specs.Next.{picked_cell}
use Rattle.piecrag_c_console.proofs.Consoles.{next_is}
use Rattle.piecrag_c_console.proofs.reading.piecrag_next_keyboard.Goals as goal

pub returns : goal.returns
returns c =
    let k = c.next_keyboard-next in
    let p = c.waiting_in-s in
    let o = c.args.keyboard.now in (
      refl,
      λ words.
          let is = next_is p.result words k.result o (k.ensures.is words) k.ensures.waits in (
            c.put_cell.ensures.flag ∙ is.0 ∙ ap (λ s. some_flag (picked (wishes_of s words))) p.ensures,
            c.put_cell.ensures.cell ∙ is.1 ∙ ap (λ s. picked_cell (picked (wishes_of s words)) o) p.ensures,
          ),
    )
