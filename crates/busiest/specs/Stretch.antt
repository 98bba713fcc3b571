-- The busiest stretch of a run of steal records (SPEC 19). `busiest` computes it from the stretches that start at a
-- record. `BusiestStretch` below says it of every stretch, wherever it starts; `found` of proofs/Found shows that the
-- answer is the one that it names.
use Rattle.std.specs.Prelude.{ℕ, ◌+◌, ◌≤◌, max, ◌≡◌, List, [], ◌∷◌, map, Bool, false, cond, ◌&&◌, ◌||◌, eqb, leb, ltb, Option, None, Some, Result, Ok, Err, find}
use Rattle.lists.specs.Count.{count}
use Rattle.voice.specs.declared.steals.StealRecord.{StealRecord}
use Rattle.busiest.specs.declared.stretch.Stretch.{Stretch}
use Rattle.busiest.specs.declared.stretch.Unanswered.{Unanswered}
use Rattle.busiest.specs.declared.stretch.Unanswered.TheVariants.{NoWidth, SamplesFall}

-- a run by its samples, one for each record
abbrev pub samples : List StealRecord → List ℕ
samples rs = map (λ r. r.sample) rs

-- a sample lies inside the stretch of `width` consecutive samples that starts at a: a, a + 1, .., a + width - 1
abbrev pub within : ℕ → ℕ → ℕ → Bool
within width a x = leb a x && ltb x (a + width)

-- how many records lie inside that stretch
abbrev pub inside : ℕ → ℕ → List ℕ → ℕ
inside width a xs = count (within width a) xs

-- the largest number of records of xs inside a stretch that starts at one of l
abbrev pub largest : ℕ → List ℕ → List ℕ → ℕ
largest width xs [] = 0
largest width xs (a ∷ l) = max (inside width a xs) (largest width xs l)

-- the first record whose own stretch holds as many as any
abbrev pub first_of : ℕ → List ℕ → Option ℕ
first_of width xs = find (λ a. eqb (inside width a xs) (largest width xs xs)) xs

-- somewhere in the run a sample is below the one before it; nothing falls to the first
abbrev pub falls_from : ℕ → List ℕ → Bool
falls_from a [] = false
falls_from a (x ∷ l) = ltb x a || falls_from x l

abbrev pub falls : List ℕ → Bool
falls xs = falls_from 0 xs

-- the number of the refusal, or how many records, and the sample of the first of them
pub data Answer : Type 0 where
  refused : ℕ → Answer
  gives : ℕ → Option ℕ → Answer

-- what each case of the answer says
abbrev pub said : Result (Option Stretch) Unanswered → Answer
said (Err NoWidth) = refused 22
said (Err SamplesFall) = refused 23
said (Ok None) = gives 0 None
said (Ok (Some s)) = gives s.count (Some s.sample)

-- 22: the width is 0; then 23: the run falls
abbrev pub busiest : ℕ → List ℕ → Answer
busiest width xs = cond (eqb width 0) (refused 22) (cond (falls xs) (refused 23) (gives (largest width xs xs) (first_of width xs)))

-- ---- the rule, of every stretch (SPEC 19, 21.7)

-- Of the stretches of `width` samples none holds more than n of the records; the one from `start` on holds n, and none that starts
-- before it does; the first record in it is at the sample x.
pub record BusiestStretch (width : ℕ) (xs : List ℕ) (n x : ℕ) : Type 0 where
  pub start : ℕ
  pub no_more : (a : ℕ) → inside width a xs ≤ n
  pub as_many : inside width start xs ≡ n
  pub earliest : (a : ℕ) → inside width a xs ≡ n → start ≤ a
  pub first : find (within width start) xs ≡ Some x
