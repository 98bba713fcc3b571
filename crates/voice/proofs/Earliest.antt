-- The earliest fade, one voice more at the end, and rows changed from the front on.
use Prim.Native.Nat.{ℕ, zero, suc, ◌+◌, ◌≤◌, ◌<◌}
use native.Mathlib.Omega.{arith}
use mathlib.Core.Path.{◌≡◌, refl, sym, ap, ◌∙◌}
use mathlib.Core.List.{List, [], ◌∷◌, ◌++◌, map}
use mathlib.Core.Bool.{Bool, true, false, ◌&&◌, cond, and-false}
use lib.Dec.{leb, ltb}
use lib.ListN.{length, take, drop, get_or, set}
use borrow.Author.Tests.{leb-true, leb-false, ltb-true, ltb-false, le-ltb, le-leb, lt-leb}
use Rattle.std.specs.Prelude.{Option, None, Some}
use Rattle.voice.specs.declared.voices.Voice.{Voice}
use Rattle.voice.specs.declared.voices.VoiceState.{VoiceState}
use Rattle.voice.specs.declared.voices.VoiceState.TheVariants.{Tracked}
use Rattle.voice.specs.Voice.{start_of, earlier, earliest, with_state, moved, moved_state}
use Rattle.voice.specs.Voices.{starts_before}

abbrev step : Bool → Voice → Option Voice → Option Voice
step c v o = cond (c && starts_before v o) (Some v) o

pick : (v x : Voice) → cond (ltb (start_of v.state) (start_of x.state)) (Some v) (Some x) ≡ cond (leb (start_of x.state) (start_of v.state)) (Some x) (Some v)
pick v x = go (ltb (start_of v.state) (start_of x.state)) refl
  where
    go : (b : Bool) → ltb (start_of v.state) (start_of x.state) ≡ b → cond b (Some v) (Some x) ≡ cond (leb (start_of x.state) (start_of v.state)) (Some x) (Some v)
    go true e = ap (λ b. cond b (Some x) (Some v)) (sym (lt-leb _ _ (ltb-true _ _ e)))
    go false e = ap (λ b. cond b (Some x) (Some v)) (sym (le-leb _ _ (ltb-false _ _ e)))

swap : (c b : Bool) (v x : Voice) (o : Option Voice) → step c v (earlier o b x) ≡ earlier (step c v o) b x
swap true false v x None = refl
swap false false v x None = refl
swap true true v x None = pick v x
swap false true v x None = refl
swap false b v x (Some u) = refl
swap true false v x (Some u) = go (ltb (start_of v.state) (start_of u.state))
  where
    go : (r : Bool) → cond r (Some v) (Some u) ≡ earlier (cond r (Some v) (Some u)) false x
    go true = refl
    go false = refl
swap true true v x (Some u) = go (leb (start_of x.state) (start_of u.state)) (ltb (start_of v.state) (start_of u.state)) refl refl
  where
    sv : ℕ
    sv = start_of v.state

    sx : ℕ
    sx = start_of x.state

    su : ℕ
    su = start_of u.state

    go : (p r : Bool) → leb sx su ≡ p → ltb sv su ≡ r → step true v (cond p (Some x) (Some u)) ≡ earlier (cond r (Some v) (Some u)) true x
    go true true e f = pick v x
    go true false e f =
        let a : sx ≤ su = leb-true _ _ e in
        let b : su ≤ sv = ltb-false _ _ f in
        let l : sx ≤ sv = omega arith in
        ap (λ t. cond t (Some v) (Some x)) (le-ltb _ _ l) ∙ sym (ap (λ t. cond t (Some x) (Some u)) e)
    go false true e f =
        let a : su < sx = leb-false _ _ e in
        let b : sv < su = ltb-true _ _ f in
        let l : sv < sx = omega arith in
        ap (λ t. cond t (Some v) (Some u)) f ∙ sym (ap (λ t. cond t (Some x) (Some v)) (lt-leb _ _ l))
    go false false e f = ap (λ t. cond t (Some v) (Some u)) f ∙ sym (ap (λ t. cond t (Some x) (Some u)) e)

pub earliest_more : (q : Voice → Bool) (vs : List Voice) (v : Voice) → cond (q v && starts_before v (earliest q vs)) (Some v) (earliest q vs) ≡ earliest q (vs ++ v ∷ [])
earliest_more q [] v = go (q v)
  where
    go : (b : Bool) → cond (b && true) (Some v) None ≡ cond b (Some v) None
    go true = refl
    go false = refl
earliest_more q (x ∷ vs) v = swap (q v) (q x) v x (earliest q vs) ∙ ap (λ o. earlier o (q x) x) (earliest_more q vs v)

-- one voice more, as the loop takes it: it fades and started before the best so far, or not
module _ (q : Voice → Bool) (vs : List Voice) (v : Voice) (o : Option Voice) (h : o ≡ earliest q vs) where
  pub taken : q v ≡ true → starts_before v o ≡ true → Some v ≡ earliest q (vs ++ v ∷ [])
  taken a b = sym (ap (λ t. cond t (Some v) (earliest q vs)) (ap (λ t. t && starts_before v (earliest q vs)) a ∙ ap (starts_before v) (sym h) ∙ b)) ∙ earliest_more q vs v

  pub passed : (q v && starts_before v o) ≡ false → o ≡ earliest q (vs ++ v ∷ [])
  passed a = h ∙ sym (ap (λ t. cond t (Some v) (earliest q vs)) (ap (λ u. q v && starts_before v u) (sym h) ∙ a)) ∙ earliest_more q vs v

  pub passed_by : q v ≡ false → o ≡ earliest q (vs ++ v ∷ [])
  passed_by a = passed (ap (λ t. t && starts_before v o) a)

  pub passed_later : starts_before v o ≡ false → o ≡ earliest q (vs ++ v ∷ [])
  passed_later a = passed (ap (λ t. q v && t) a ∙ and-false (q v))

-- the voice of no fields, that the check reads where there is no row
abbrev pub blank : Voice
blank =
    record {
      id = record { 0 = 0 };
      birth = 0;
      bus = record { 0 = 0 };
      port = 0;
      first = record { 0 = 0 };
      count = 0;
      output = record { 0 = 0 };
      panned = false;
      sequence = 0;
      rank = 0;
      state = Tracked;
      params = record { rows = []; count = 0 };
      plan = record { steps = []; output = 0 };
    }

module _ {A : Type 0} (f : A → A) where
  -- one row more of those that changed
  pub mapped_more : (l : List A) (i : ℕ) (d : A) → i < length l → set (map f (take i l) ++ drop i l) i (f (get_or l i d)) ≡ map f (take (suc i) l) ++ drop (suc i) l
  mapped_more [] i d h = absurd (omega arith)
  mapped_more (x ∷ l) zero d h = refl
  mapped_more (x ∷ l) (suc i) d h = let k : i < length l = omega arith in ap (λ z. f x ∷ z) (mapped_more l i d k)

  pub mapped_at : (l : List A) (i : ℕ) (d : A) → i < length l → get_or (map f (take i l) ++ drop i l) i d ≡ get_or l i d
  mapped_at [] i d h = absurd (omega arith)
  mapped_at (x ∷ l) zero d h = refl
  mapped_at (x ∷ l) (suc i) d h = let k : i < length l = omega arith in mapped_at l i d k

  pub mapped_all : (l : List A) (i : ℕ) → length l ≤ i → map f (take i l) ++ drop i l ≡ map f l
  mapped_all [] i h = go i
    where
      go : (i : ℕ) → map f (take i []) ++ drop i [] ≡ []
      go zero = refl
      go (suc i) = refl
  mapped_all (x ∷ l) zero h = absurd (omega arith)
  mapped_all (x ∷ l) (suc i) h = let k : length l ≤ i = omega arith in ap (λ z. f x ∷ z) (mapped_all l i k)

-- the state of one row more has moved
pub moved_more : (more : ℕ → ℕ) (rows l : List Voice) (i : ℕ) (s : VoiceState) → rows ≡ map (moved more) (take i l) ++ drop i l → i < length l
    → s ≡ moved_state more (get_or rows i blank).state → set rows i (with_state s (get_or rows i blank)) ≡ map (moved more) (take (i + 1) l) ++ drop (i + 1) l
moved_more more rows l i s e h k =
    let at : get_or rows i blank ≡ get_or l i blank = ap (λ z. get_or z i blank) e ∙ mapped_at (moved more) l i blank h in
    let one : i + 1 ≡ suc i = omega arith in
    ap (λ z. set rows i (with_state z (get_or rows i blank))) k
    ∙ ap (λ v. set rows i (moved more v)) at
    ∙ ap (λ z. set z i (moved more (get_or l i blank))) e
    ∙ mapped_more (moved more) l i blank h
    ∙ ap (λ n. map (moved more) (take n l) ++ drop n l) (sym one)
