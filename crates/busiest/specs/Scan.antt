-- The walk over a run in one pass (SPEC 19). That it ends at what Stretch says is shown in proofs/Found.
use Rattle.std.specs.Prelude.{ℕ, zero, suc, ◌+◌, List, false, cond, ◌||◌, eqb, ltb, length, get_or, None, Some}
use Rattle.busiest.specs.declared.stretch.Scan.{Scan}
use Rattle.busiest.specs.Stretch.{within, Answer, refused, gives}

abbrev pub begun : ℕ → Scan
begun width = record { width = width; most = 0; first = 0; last = 0; head = 0; falls = false }

-- the stretch from x on holds one more than any before
abbrev pub grown : Scan → ℕ → ℕ → Scan
grown s x y = record { width = s.width; most = s.most + 1; first = x; last = y; head = s.head; falls = s.falls || ltb y s.last }

-- no stretch up to y holds more
abbrev pub moved : Scan → ℕ → Scan
moved s y = record { width = s.width; most = s.most; first = s.first; last = y; head = s.head + 1; falls = s.falls || ltb y s.last }

abbrev pub advanced : Scan → ℕ → ℕ → Scan
advanced s x y = cond (within s.width x y) (grown s x y) (moved s y)

-- from place i on, k records more
abbrev pub scan_from : ℕ → List ℕ → ℕ → Scan → Scan
scan_from zero xs i s = s
scan_from (suc k) xs i s = scan_from k xs (i + 1) (advanced s (get_or xs s.head 0) (get_or xs i 0))

abbrev pub scanned : ℕ → List ℕ → Scan
scanned width xs = scan_from (length xs) xs 0 (begun width)

abbrev pub concluded : Scan → Answer
concluded s =
    cond (eqb s.width 0) (refused 22) (cond s.falls (refused 23) (cond (eqb s.most 0) (gives 0 None) (gives s.most (Some s.first))))
