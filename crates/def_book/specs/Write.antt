-- Writing a book (SPEC 16): 9, then 19; else the book stands at the start of the buffer, the bytes behind it stay, and
-- its length is answered. On a refusal every byte stays.
use Rattle.std.specs.Prelude.{ℕ, ◌+◌, ◌*◌, min, List, cond, leb, length, Result, Ok, Err}
use Rattle.lists.specs.Written.{written}
use Rattle.synthdef.specs.Limits.{allowed}
use Rattle.synthdef.specs.declared.def.SynthDef.{SynthDef}
use Rattle.def_book.specs.Bytes.{book_of}
use Rattle.def_book.specs.declared.answer.WriteError.{WriteError}
use Rattle.def_book.specs.declared.answer.WriteError.TheVariants as error

-- what writing answers: the length, or the number of the refusal
pub data Wrote : Type 0 where
  length_of : ℕ → Wrote
  refused : ℕ → Wrote

-- 0 is no refusal
abbrev pub wrote_number : Wrote → ℕ
wrote_number (length_of n) = 0
wrote_number (refused n) = n

-- 9: the definition is not allowed; 19: the buffer is shorter than the book
abbrev pub wrote_of : Result ℕ WriteError → Wrote
wrote_of (Ok n) = length_of n
wrote_of (Err error.Limits) = refused 9
wrote_of (Err error.ShortBuffer) = refused 19

-- the length of a book: a heading, and the records of each sort
abbrev pub book_length : ℕ → ℕ → ℕ → ℕ
book_length nodes edges params = 6 + 27 * min nodes 24 + 7 * min edges 48 + 22 * min params 8

-- 9 before 19
unfoldable pub write_answer : SynthDef → List ℕ → Wrote
write_answer d out = cond (allowed d) (cond (leb (length (book_of d)) (length out)) (length_of (length (book_of d))) (refused 19)) (refused 9)

unfoldable pub write_book : SynthDef → List ℕ → List ℕ
write_book d out = cond (allowed d) (cond (leb (length (book_of d)) (length out)) (written (book_of d) out) out) out
