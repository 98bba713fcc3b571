-- The victim under `Quietest` (SPEC 9.4), said of the list of candidates and not of a walk over it: the last of the
-- lowest known levels, a NaN that is met first, or the oldest where no level is known. That `policy_victim` is this is
-- proved in proofs/Quietest.
use Rattle.std.specs.Prelude.{◌≡◌, List, [], ◌∷◌, ◌++◌, Bool, true, false, length, Float, Option, Some, None}
use Rattle.std.specs.Float.{nan}
use Rattle.std.specs.Float.Ieee.{lt, le, is_nan}
use Rattle.lists.specs.Member.{In}
use Rattle.voice.specs.declared.policy.Candidate.{Candidate}
use Rattle.voice.specs.Policy.{Victim, oldest}

-- no level is known
abbrev pub Unheard : List Candidate → Type 0
Unheard l = (c : Candidate) → In c l → c.level ≡ None

abbrev pub nan_or : Option Float → Bool → Bool
nan_or None b = b
nan_or (Some x) b = is_nan x

-- whether the known level that is met first is a NaN
abbrev pub nan_first : List Candidate → Bool
nan_first [] = false
nan_first (c ∷ l) = nan_or c.level (nan_first l)

-- Of the known levels that are no NaN, c has the least, and c is the last that has it: no level before it is lower, and every
-- level after it is higher.
pub record LastLowest (before : List Candidate) (c : Candidate) (after : List Candidate) : Type 0 where
  pub least : Float
  pub known : c.level ≡ Some least
  pub number : is_nan least ≡ false
  pub earlier : (e : Candidate) (x : Float) → In e before → e.level ≡ Some x → is_nan x ≡ false → le least x ≡ true
  pub later : (e : Candidate) (x : Float) → In e after → e.level ≡ Some x → is_nan x ≡ false → lt least x ≡ true

pub data QuietestGoes : List Candidate → Victim → Type 0 where
  -- no level is known: the oldest
  none_known : {l : List Candidate} → Unheard l → QuietestGoes l (oldest l)
  -- the first known level is a NaN: its voice
  nan_stays : (before : List Candidate) (c : Candidate) (after : List Candidate) → Unheard before → c.level ≡ Some nan → QuietestGoes (before ++ (c ∷ after)) (Some (length before, c.voice))
  -- else the last of the lowest
  last_lowest : (before : List Candidate) (c : Candidate) (after : List Candidate) → nan_first (before ++ (c ∷ after)) ≡ false → LastLowest before c after → QuietestGoes (before ++ (c ∷ after)) (Some (length before, c.voice))
