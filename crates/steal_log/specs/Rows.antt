-- A steal record in five words, the ring that a list of words is with the total and the next place of the store's state, and
-- the log that it stands for: "`steals` becomes a running count and the newest 64 records (sample, level or none, cut mark)."
use Rattle.std.specs.Prelude.{ℕ, ◌≡◌, List, length, get_or}
use Rattle.voice.specs.Steals.{StealLog, log_of}
use Rattle.voice.specs.declared.steals.StealRecord.{StealRecord}
use Rattle.voice.specs.declared.steals.Steals.{Steals}
use Rattle.words.specs.Fields.{is_set, float_from, long_at}
use Rattle.words.specs.Rows.{rows}

-- sample, level, whether it is known, whether the victim was cut
unfoldable pub steal_of : List ℕ → StealRecord
steal_of ws = record { sample = long_at ws 0; level = float_from (get_or ws 2 0); known = is_set (get_or ws 3 0); cut = is_set (get_or ws 4 0) }

-- the records that the words have room for
abbrev pub records_in : List ℕ → List StealRecord
records_in c = rows 5 steal_of c

abbrev pub steals_in : List ℕ → ℕ → ℕ → Steals
steals_in c total next = record { rows = records_in c; total = total; next = next }

abbrev pub log_in : List ℕ → ℕ → ℕ → StealLog
log_in c total next = log_of (steals_in c total next)

-- words that stand for a record
pub record Stands (r : StealRecord) (ws : List ℕ) : Type 0 where
  pub long : length ws ≡ 5
  pub back : steal_of ws ≡ r
