-- The records that a store holds as a run that can be lent (SPEC 19): an array whose first rows are these, oldest
-- first, and their count. The rows after them hold `no_record`.
use Rattle.std.specs.Prelude.{◌-◌, List, ◌++◌, false, length, replicate}
use Rattle.std.specs.Float.Ieee.{of_bits}
use Rattle.std.specs.Float.{binary32}
use Rattle.lists.specs.declared.rows.Table.{Table}
use Rattle.voice.specs.declared.steals.StealRecord.{StealRecord}

abbrev pub no_record : StealRecord
no_record = record { sample = 0; level = of_bits binary32 0; known = false; cut = false }

abbrev pub newest_of : List StealRecord → Table StealRecord 64
newest_of l = record { rows = l ++ replicate (64 - length l) no_record; count = length l }
