-- The table of sorts of docs/REPLAY.md: how long the fields of each are.
use Rattle.std.specs.Prelude.{ℕ, ◌+◌, ◌*◌, List, [], ◌∷◌, cond, leb, get_or}
use Rattle.codec.specs.Field.{last, moved, little}
use Rattle.script.specs.Name.{name_end}
use Rattle.script.specs.Def.{def_end}
use Rattle.script.specs.declared.entry.Form.{Form}
use Rattle.script.specs.declared.entry.Form.TheVariants.{Malformed, Fixed, Named, Definition, Samples, Repeated, Buffer}

-- by rising sort, from 0 on, a row for eight sorts
abbrev pub forms : List Form
forms =
    Malformed ∷ Fixed 15 ∷ Fixed 28 ∷ Named 0 14 ∷ Fixed 4 ∷ Fixed 12 ∷ Fixed 8 ∷ Fixed 4
    ∷ Definition ∷ Fixed 13 ∷ Fixed 13 ∷ Fixed 9 ∷ Fixed 9 ∷ Fixed 8 ∷ Fixed 0 ∷ Named 8 4
    ∷ Named 8 14 ∷ Named 17 14 ∷ Samples ∷ Repeated ∷ Fixed 0 ∷ Fixed 0 ∷ Fixed 8 ∷ Fixed 8
    ∷ Fixed 8 ∷ Fixed 4 ∷ Fixed 0 ∷ Fixed 0 ∷ Fixed 0 ∷ Fixed 0 ∷ Fixed 4 ∷ Fixed 0
    ∷ Buffer ∷ Fixed 0 ∷ Fixed 15 ∷ Fixed 5 ∷ Malformed ∷ Malformed ∷ Malformed ∷ Malformed
    ∷ Malformed ∷ Malformed ∷ Malformed ∷ Malformed ∷ Malformed ∷ Malformed ∷ Malformed ∷ Fixed 20
    ∷ Fixed 18 ∷ Fixed 0 ∷ Fixed 0 ∷ Malformed ∷ Fixed 44 ∷ Named 0 0 ∷ []

abbrev pub form_of : ℕ → Form
form_of sort = get_or forms sort Malformed

-- "counts more samples or a longer buffer than said above": past every script
abbrev pub within : ℕ → ℕ → ℕ → ℕ
within most n end = cond (leb n most) end last

-- "u32 node, u8 channels, flag done, u32 how many samples"
abbrev pub samples_of : List ℕ → ℕ → ℕ
samples_of s from = little 4 s (moved from 6)

abbrev pub form_end : Form → List ℕ → ℕ → ℕ
form_end Malformed s from = last
form_end (Fixed n) s from = moved from n
form_end (Named before n) s from = moved (name_end s (moved from before)) n
form_end Definition s from = def_end s (moved from 1)
form_end Samples s from = within 512 (samples_of s from) (moved from (10 + 4 * samples_of s from))
form_end Repeated s from = within 512 (samples_of s from) (moved from 14)
form_end Buffer s from = within 4096 (little 4 s from) (moved from 4)

abbrev pub entry_end : List ℕ → ℕ → ℕ
entry_end s at = form_end (form_of (little 1 s at)) s (moved at 1)
