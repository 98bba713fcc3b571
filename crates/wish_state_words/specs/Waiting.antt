-- What a console holds beside its table of wishes, in 12 words, for a host that holds words only: how many keyboards 2, the keyboard after
-- the last served 2, then a word for each of the eight queues, its start and its count a byte each. Any words stand for such a state.
use Rattle.std.specs.Prelude.{ℕ, ◌/◌, ◌%◌, List, [], ◌∷◌, get_or}
use Rattle.words.specs.Fields.{long_at}
use Rattle.call_console.specs.declared.queues.Queue.{Queue}
use Rattle.call_console.specs.declared.queues.WishState.{WishState}

abbrev pub queue_from : ℕ → Queue
queue_from x = record { start = x % 256; count = x / 256 % 256 }

abbrev pub queues_in : List ℕ → List Queue
queues_in w =
    queue_from (get_or w 4 0) ∷ queue_from (get_or w 5 0) ∷ queue_from (get_or w 6 0) ∷ queue_from (get_or w 7 0)
    ∷ queue_from (get_or w 8 0) ∷ queue_from (get_or w 9 0) ∷ queue_from (get_or w 10 0) ∷ queue_from (get_or w 11 0) ∷ []

abbrev pub waiting_in : List ℕ → WishState
waiting_in w = record { keyboards = long_at w 0; next = long_at w 2; queues = queues_in w }
