use mathlib.Core.Path.{◌≡◌}
use lib.ListN.{length}
use Rattle.call_console.specs.Queues.{no_queue}
use Rattle.wish_state_words.proofs.Words.{waiting_back}
use Rattle.wish_state_words.proofs.put_waiting.Goals as goal

pub returns : goal.returns
returns c =
    let eight : length c.args.s.queues ≡ 8 = c.well_formed.1.0.1.1.1.1.0.1.0.1 in
    waiting_back c.args.s no_queue eight _ _ _ _ _ _ _ _ _ _ _ _
    c.low_word.ensures c.high_word.ensures c.low_word-2.ensures c.high_word-2.ensures
    c.queue_word.ensures
    c.queue_word-2.ensures
    c.queue_word-3.ensures
    c.queue_word-4.ensures
    c.queue_word-5.ensures
    c.queue_word-6.ensures
    c.queue_word-7.ensures
    c.queue_word-8.ensures
