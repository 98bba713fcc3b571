-- The loop: how far it has come, and the scan there. From there on the walk ends as the walk over the whole run does.
use Rattle.std.proofs.Common.{◌≡◌, ◌+◌, ◌-◌, length}
use Rattle.busiest.specs.Stretch.{samples}
use Rattle.busiest.specs.Scan.{scan_from, scanned}
use Rattle.busiest.proofs.stretch.busiest_stretch.Given as goal

abbrev pub invariant-loop-r : goal.invariant-loop-r
invariant-loop-r l = record {
  place : l.at.head + l.at.most ≡ l.r-index;
  walked : scan_from (length l.run - l.r-index) (samples l.run) l.r-index l.at ≡ scanned l.width (samples l.run);
}
