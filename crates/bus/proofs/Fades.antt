-- The gain of a sample, within the fade and past its end (SPEC 10.4, 15.1).
use Rattle.std.proofs.Common.{◌≡◌, ℕ, ◌+◌, ◌*◌, ◌%◌, ◌<◌, ◌≤◌, ◌-◌, min, Bool, true, false, ◌&&◌, T, eqb, leb, ltb, List, length, get_or, take, drop, ◌++◌, sym, refl, ap, ◌∙◌, subst, arith, leb→le, le-ltb, lt-ltb, get_or-take, get_or-drop, length-take}
use borrow.Author.Tests.{ltb-true, ltb-false}
use Rattle.std.proofs.lemmas.List.{get_or_default, get_or_past}
use lib.Ieee.Fits.{and_l, and_r}
use Rattle.bus.specs.Block.{each, is_channels, holds}
use Rattle.bus.specs.Fade.{fade_length, gain_at, faded_by, faded_of_by, fade_fits, Multiply}
use Rattle.bus.proofs.Sizes.{held}
use Rattle.bus.proofs.Blocks.{each_same, each_split, length_part, part_at}

-- from half a unit on, the length is the whole number nearest to rate / 200, halves up: it lies less than half a unit below, or at most half above
pub length_nearest : (rate : ℕ) → 100 ≤ rate → (200 * fade_length rate ≤ rate + 100) × (rate < 200 * fade_length rate + 100)
length_nearest rate h = omega arith

module _ {A : Type 0} where
  pub gain_held : (none d : A) (gains : List A) (len position i : ℕ) → len ≤ length gains → position + i < len → get_or gains (position + i) d ≡ gain_at none gains len position i
  gain_held none d gains len position i g h =
      let k : position + i < length gains = omega arith in
      simp (lt-ltb _ _ h) (get_or_default gains (position + i) d none k)

  pub gain_over : (none : A) (gains : List A) (len position i : ℕ) → len ≤ position + i → none ≡ gain_at none gains len position i
  gain_over none gains len position i h = simp (le-ltb _ _ h)

module _ {A : Type 0} (none : A) (gains : List A) (len position first : ℕ) (few : len ≤ length gains) (is-first : first ≡ min len position) where
  -- the gains that are ahead of a block, and none after them
  abbrev ahead : List A
  ahead = take (len - first) (drop first gains)

  pub gain_ahead : (i : ℕ) → get_or ahead i none ≡ gain_at none gains len position i
  gain_ahead i = go (ltb (position + i) len) refl
    where
      go : (b : Bool) → ltb (position + i) len ≡ b → get_or ahead i none ≡ gain_at none gains len position i
      go true e =
          let here : position + i < len = ltb-true (position + i) len e in
          let same : first ≡ position = omega arith in
          let inside : i < len - first = omega arith in
          get_or-take (len - first) (drop first gains) i none inside
          ∙ get_or-drop first gains i none
          ∙ ap (λ (k : ℕ). get_or gains (k + i) none) same
          ∙ gain_held none none gains len position i few here
      go false e =
          let past : len ≤ position + i = ltb-false (position + i) len e in
          let over : length ahead ≤ i = omega (arith, length-take (len - first) (drop first gains)) in
          get_or_past ahead i none over ∙ gain_over none gains len position i past

-- ---- what may be multiplied

-- read off its list
pub may_both : {A B : Type 0} (may : A → B → Type 0) {x a : A} {y b : B} → x ≡ a → y ≡ b → may a b → may x y
may_both {A = A} may {x = x} {a = a} {y = y} {b = b} e f h = subst (λ (z : A). may z y) (sym e) (subst (may a) (sym f) h)

pub times_both : {A B C : Type 0} (times : A → B → C) {x a : A} {y b : B} {v : C} → v ≡ times x y → x ≡ a → y ≡ b → v ≡ times a b
times_both {A = A} {B = B} times {x = x} {a = a} {y = y} {b = b} v e f = v ∙ ap (λ (z : A). times z y) e ∙ ap (times a) f

-- what is true of all that a list gives, also past its end, is true of all that a part of it gives
of_part : {A : Type 0} (P : A → Type 0) (d : A) (k a : ℕ) (l : List A) → ((i : ℕ) → P (get_or l i d)) → (i : ℕ) → P (get_or (take k (drop a l)) i d)
of_part P d k a l h i = go (ltb i k) refl
  where
    go : (b : Bool) → ltb i k ≡ b → P (get_or (take k (drop a l)) i d)
    go true e = subst P (sym (get_or-take k (drop a l) i d (ltb-true i k e) ∙ get_or-drop a l i d)) (h (a + i))
    go false e =
        let past : length (take k (drop a l)) ≤ i = omega (arith, length-take k (drop a l), ltb-false i k e) in
        let end : length l ≤ length l = omega arith in
        subst P (sym (get_or_past (take k (drop a l)) i d past)) (subst P (get_or_past l (length l) d end) (h (length l)))

module _ {A B : Type 0} (may : A → B → Type 0) (past : A) (none : B) (source : List A) (gains : List B) (all : Multiply may past none source gains) where
  pub multiply_parts : (k a m b : ℕ) → Multiply may past none (take k (drop a source)) (take m (drop b gains))
  multiply_parts k a m b i j =
      of_part (λ x. may x (get_or (take m (drop b gains)) j none)) past k a source (λ i. of_part (may (get_or source i past)) none m b gains (all i) j) i

  pub multiply_part : (k a : ℕ) → Multiply may past none (take k (drop a source)) gains
  multiply_part k a i j = of_part (λ x. may x (get_or gains j none)) past k a source (λ i. all i j) i

  -- no gain stands past the gains
  pub multiply_none : (i : ℕ) → may (get_or source i past) none
  multiply_none i =
      let end : length gains ≤ length gains = omega arith in
      subst (may (get_or source i past)) (get_or_past gains (length gains) none end) (all i (length gains))

-- ---- a channel in two parts: the samples that the gains reach, and those after them

module _ {A B C : Type 0} (times : A → B → C) (past : A) (none : B) (source : List A) (gains : List B) (size n : ℕ) (is-n : n ≡ min (length gains) size) where
  abbrev at : ℕ → C
  at i = times (get_or source i past) (get_or gains i none)

  pub faded_parts : (held after : List A) (ys zs : List C) (p q : ℕ) → held ≡ take n source → after ≡ drop n source → p ≡ n → q + n ≡ size
      → ys ≡ each p (λ i. times (get_or held i past) (get_or gains i none)) → zs ≡ each q (λ i. times (get_or after i past) none) → ys ++ zs ≡ each size at
  faded_parts held after ys zs p q h a ep eq y z =
      let whole : n + q ≡ size = omega arith in
      ap (λ (l : List C). l ++ zs) (y ∙ ap (λ (m : ℕ). each m reach) ep ∙ each_same n reach at reached)
      ∙ ap (λ (l : List C). each n at ++ l) (z ∙ each_same q beyond (λ i. at (n + i)) over)
      ∙ sym (each_split n q at)
      ∙ ap (λ (m : ℕ). each m at) whole
    where
      reach : ℕ → C
      reach i = times (get_or held i past) (get_or gains i none)

      beyond : ℕ → C
      beyond i = times (get_or after i past) none

      reached : (i : ℕ) → i < n → reach i ≡ at i
      reached i l = ap (λ (x : A). times x (get_or gains i none)) (ap (λ (t : List A). get_or t i past) h ∙ get_or-take n source i past l)

      over : (i : ℕ) → i < q → beyond i ≡ at (n + i)
      over i l =
          let out : length gains ≤ n + i = omega arith in
          ap (λ (x : A). times x none) (ap (λ (t : List A). get_or t i past) a ∙ get_or-drop n source i past)
          ∙ ap (times (get_or source (n + i) past)) (sym (get_or_past gains (n + i) none out))

-- ---- a channel that a loop wrote, from a part of the input to a part of the output

pub channel_is : {A B C : Type 0} (times : A → B → C) (past : A) (none : B) (input : List A) (gains : List B) (out ys : List C) (ins len position size c from j k : ℕ)
    → from ≡ c % ins * size → j ≡ size → k ≡ size → c * size + size ≤ length out
    → ys ≡ each (length (take k (drop (c * size) out))) (λ i. faded_by times none gains len position i (get_or (take j (drop from input)) i past))
    → ys ≡ each size (faded_of_by times past none input ins gains len position size c)
channel_is times past none input gains out ys ins len position size c from j k place ej ek h e =
    e
    ∙ ap (λ (n : ℕ). each n (λ i. faded_by times none gains len position i (get_or (take j (drop from input)) i past))) (length_part k (c * size) size out ek h)
    ∙ each_same size _ (faded_of_by times past none input ins gains len position size c)
    (λ i l. ap (faded_by times none gains len position i) (part_at j from size input i past ej l ∙ ap (λ (n : ℕ). get_or input (n + i) past) place))

pub channel_ahead : {A B C : Type 0} (times : A → B → C) (past : A) (none : B) (input : List A) (gains : List B) (out ys : List C) (ins len position size c first from j k : ℕ)
    → len ≤ length gains → first ≡ min len position → from ≡ c % ins * size → j ≡ size → k ≡ size → c * size + size ≤ length out
    → ys ≡ each (length (take k (drop (c * size) out))) (λ i. times (get_or (take j (drop from input)) i past) (get_or (take (len - first) (drop first gains)) i none))
    → ys ≡ each size (faded_of_by times past none input ins gains len position size c)
channel_ahead times past none input gains out ys ins len position size c first from j k few is-first place ej ek h e =
    channel_is times past none input gains out ys ins len position size c from j k place ej ek h
    (e ∙ each_same (length (take k (drop (c * size) out))) _ _ (λ i l. ap (times (get_or (take j (drop from input)) i past)) (gain_ahead none gains len position first few is-first i)))

-- ---- what `fade_fits` says

pub record Fits (input ins gains len size out outs : ℕ) : Type 0 where
  pub reads : T (is_channels ins)
  pub whole : input ≡ ins * size
  pub writes : T (is_channels outs)
  pub long : out ≡ outs * size
  pub few : len ≤ gains

pub fade_fits_says : (input ins gains len size out outs : ℕ) → fade_fits input ins gains len size out outs ≡ true → Fits input ins gains len size out outs
fade_fits_says input ins gains len size out outs e =
    let t : T (fade_fits input ins gains len size out outs) = subst T (sym e) tt in
    let a = and_l (holds input ins size) (holds out outs size && leb len gains) t in
    let u = and_r (holds input ins size) (holds out outs size && leb len gains) t in
    let b = and_l (holds out outs size) (leb len gains) u in
    record {
      reads = and_l (is_channels ins) (eqb input (ins * size)) a;
      whole = (held input ins size a).1;
      writes = and_l (is_channels outs) (eqb out (outs * size)) b;
      long = (held out outs size b).1;
      few = leb→le len gains (and_r (holds out outs size) (leb len gains) u);
    }
