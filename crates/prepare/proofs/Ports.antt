-- The laws of the required ports.
use Prim.Native.Nat.{ℕ, ◌+◌, ◌*◌, ◌≤◌, ◌<◌}
use native.Mathlib.Omega.{arith}
use native.Mathlib.Numerals.{add-one}
use native.Mathlib.Decide.{ℕ_discrete}
use mathlib.Core.Path.{◌≡◌, refl, sym, ap, ◌∙◌}
use mathlib.Core.List.{List, [], ◌∷◌}
use mathlib.Core.Bool.{Bool, true, false, ◌&&◌, ◌||◌, and-false, or-true, or-false}
use lib.Dec.{eqb, ltb}
use lib.ListN.{length, take, drop, get_or, set, length-set}
use lib.Seq.{get_or-set_same, get_or-set_other}
use borrow.Author.Tests.{eq-eqb, ne_eqb, lt-ltb, le-ltb}
use Rattle.node.specs.declared.record.Node.{Node}
use Rattle.node.specs.declared.record.Edge.{Edge}
use Rattle.prepare.specs.Parts.{plugs, ports_lack, rows_lack}

-- ---- which ports are fed: the flags, with what the edges that are left feed, are what all feed
abbrev pub Flags : List Bool → ℕ → List ℕ → List ℕ → List Edge → (ℕ → ℕ → Bool) → Type 0
Flags flags n fs ts es all = (length flags ≡ 32768) × ((r p : ℕ) → r < n → p < 64 → (get_or flags (r * 64 + p) false || plugs n fs ts es r p) ≡ all r p)

module _ (flags flags' : List Bool) (n f : ℕ) (fs : List ℕ) (t : ℕ) (ts : List ℕ) (e : Edge) (es : List Edge) (all : ℕ → ℕ → Bool)
    (inv : Flags flags n (f ∷ fs) (t ∷ ts) (e ∷ es) all) where
  same : flags' ≡ flags → ((r p : ℕ) → r < n → p < 64 → (ltb f n && (eqb t r && eqb e.port p)) ≡ false) → Flags flags' n fs ts es all
  unfolding plugs
  same q z = rw q (inv.0, λ r p hr hp. rw (z r p hr hp) at (inv.1 r p hr hp))

  pub flag_from : flags' ≡ flags → n ≤ f → Flags flags' n fs ts es all
  flag_from q h = same q (λ r p hr hp. rw (le-ltb f n h))

  pub flag_to : flags' ≡ flags → n ≤ t → Flags flags' n fs ts es all
  flag_to q h = same q (λ r p hr hp. rw (ne_eqb t r (λ z. omega arith)) (and-false (ltb f n)))

  pub flag_port : flags' ≡ flags → 64 ≤ e.port → Flags flags' n fs ts es all
  flag_port q h = same q (λ r p hr hp. rw (ne_eqb e.port p (λ z. omega arith), and-false (eqb t r)) (and-false (ltb f n)))

  pub flag_set : flags' ≡ set flags (t * 64 + e.port) true → f < n → t < n → e.port < 64 → n ≤ 512 → Flags flags' n fs ts es all
  unfolding plugs
  flag_set q hf ht hp hn =
      rw q (length-set flags (t * 64 + e.port) true ∙ inv.0, λ r p lr lp. go r p lr lp (ℕ_discrete (r * 64 + p) (t * 64 + e.port)))
    where
      go : (r p : ℕ) → r < n → p < 64 → Dec (r * 64 + p ≡ t * 64 + e.port) → (get_or (set flags (t * 64 + e.port) true) (r * 64 + p) false || plugs n fs ts es r p) ≡ all r p
      go r p lr lp (yes s) =
          let a : t ≡ r = omega arith in
          let b : e.port ≡ p = omega arith in
          let k : t * 64 + e.port < length flags = omega (arith, inv.0) in
          rw (s, get_or-set_same flags (t * 64 + e.port) true false k)
          (sym (or-true (get_or flags (r * 64 + p) false)) ∙ (rw (lt-ltb f n hf, eq-eqb t r a, eq-eqb e.port p b) at (inv.1 r p lr lp)))
      go r p lr lp (no o) =
          let z : (eqb t r && eqb e.port p) ≡ false = off (ℕ_discrete t r) (ℕ_discrete e.port p) in
          rw (get_or-set_other flags (t * 64 + e.port) (r * 64 + p) true false o) (rw (z, and-false (ltb f n)) at (inv.1 r p lr lp))
        where
          off : Dec (t ≡ r) → Dec (e.port ≡ p) → (eqb t r && eqb e.port p) ≡ false
          off (yes a) (yes b) = absurd (o (omega arith))
          off (yes a) (no b) = rw (ne_eqb e.port p b) (and-false (eqb t r))
          off (no a) d = rw (ne_eqb t r a)

pub flags_start : (flags : List Bool) (n : ℕ) (fs ts : List ℕ) (es : List Edge) → length flags ≡ 32768 → ((j : ℕ) → get_or flags j false ≡ false) → Flags flags n fs ts es (plugs n fs ts es)
flags_start flags n fs ts es l z = (l, λ r p hr hp. rw (z (r * 64 + p)))

pub flags_done : (flags : List Bool) (n : ℕ) (fs ts : List ℕ) (all : ℕ → ℕ → Bool) → Flags flags n fs ts [] all → (r p : ℕ) → r < n → p < 64 → get_or flags (r * 64 + p) false ≡ all r p
unfolding plugs
flags_done flags n [] ts all inv r p hr hp = sym (or-false _) ∙ inv.1 r p hr hp
flags_done flags n (f ∷ fs) [] all inv r p hr hp = sym (or-false _) ∙ inv.1 r p hr hp
flags_done flags n (f ∷ fs) (t ∷ ts) all inv r p hr hp = sym (or-false _) ∙ inv.1 r p hr hp

-- ends behind that of the last edge do not count
pub plugs_take : (n : ℕ) (fs ts : List ℕ) (es : List Edge) (r p : ℕ) → plugs n (take (length es) fs) (take (length es) ts) es r p ≡ plugs n fs ts es r p
unfolding plugs
plugs_take n [] ts [] r p = refl
plugs_take n [] ts (e ∷ es) r p = refl
plugs_take n (f ∷ fs) [] [] r p = refl
plugs_take n (f ∷ fs) [] (e ∷ es) r p = refl
plugs_take n (f ∷ fs) (t ∷ ts) [] r p = refl
plugs_take n (f ∷ fs) (t ∷ ts) (e ∷ es) r p = ap (λ b. (ltb f n && (eqb t r && eqb e.port p)) || b) (plugs_take n fs ts es r p)

-- ---- row by row
pub rows_next : (flags : List Bool) (xs : List Node) (i : ℕ) (x : Node) (b : Bool) → drop i xs ≡ x ∷ drop (i + 1) xs → b ≡ ports_lack flags i x.ports x.required
    → rows_lack flags (drop i xs) i ≡ (b || rows_lack flags (drop (i + 1) xs) (i + 1))
unfolding rows_lack
rows_next flags xs i x b dr h = rw (dr, h, add-one i)
