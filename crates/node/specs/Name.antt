-- Names: strings of 1 to 16 bytes, and when two are equal (SPEC 1).
use Rattle.std.specs.Prelude.{ℕ, ◌-◌, List, [], ◌∷◌, ◌++◌, Bool, true, false, ◌&&◌, cond, length, take, replicate, leb, eqb}
use Rattle.node.specs.declared.name.Name.{Name}

-- 1 to 16
abbrev pub name_length : ℕ → Bool
name_length n = leb 1 n && leb n 16

abbrev pub named : Name → Bool
named n = name_length n.len

-- the byte string that a name stands for
abbrev pub text : Name → List ℕ
text n = take n.len n.bytes

-- two byte strings are the same
abbrev pub same_bytes : List ℕ → List ℕ → Bool
same_bytes [] [] = true
same_bytes [] (y ∷ ys) = false
same_bytes (x ∷ xs) [] = false
same_bytes (x ∷ xs) (y ∷ ys) = eqb x y && same_bytes xs ys

-- two names are the same: both are names, and stand for the same byte string
abbrev pub same_name : Name → Name → Bool
same_name a b = named a && (named b && same_bytes (text a) (text b))

-- the name that stands for a lent byte string. A string that is no name gives length 0, a name that equals none.
abbrev pub name_of : List ℕ → Name
name_of s = cond (name_length (length s))
    (record { bytes = s ++ replicate (16 - length s) 0; len = length s })
    (record { bytes = replicate 16 0; len = 0 })
