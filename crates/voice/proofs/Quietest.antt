-- The victim under `Quietest` is the one that the rule names (SPEC 9.4, 21.7; specs/Quietest): `quietest_goes`. There
-- is no other such: `only_quietest`. And of two that are equally quiet, for any list: `younger_goes`.
use Rattle.std.specs.Prelude.{Option, Some, None}
use Prim.Native.Nat.{ℕ, suc, ◌+◌}
use native.Mathlib.Omega.{arith}
use mathlib.Core.Path.{◌≡◌, refl, sym, ap, ◌∙◌, subst}
use mathlib.Core.Logic.{◌⊎◌, inl, inr}
use mathlib.Core.List.{List, [], ◌∷◌, ◌++◌}
use mathlib.Core.Bool.{Bool, true, false, true≢false}
use lib.ListN.{length}
use lib.Ieee.{Float, nan, inf, fin, lt, eq, le, is_nan}
use Rattle.lists.specs.Member.{In}
use Rattle.lists.proofs.Member.{some_inj, none_some, in_right, in_append}
use Rattle.node.specs.declared.record.VoiceId.{VoiceId}
use Rattle.voice.specs.declared.policy.StealPolicy.TheVariants as policy
use Rattle.voice.specs.declared.policy.Candidate.{Candidate}
use Rattle.voice.specs.Policy.{Held, Victim, oldest, takes, take?, passed, walk, took_or, policy_victim}
use Rattle.voice.specs.Quietest.{Unheard, nan_or, nan_first, LastLowest, QuietestGoes, none_known, nan_stays, last_lowest}
use Rattle.voice.proofs.FloatOrder.{lt_le, le_refl, le_left, le_right, not_le, lt_not_le, lt_le_trans}
use Rattle.voice.proofs.Walk.{pass_known}

-- ---- the walk over a part of the list

walk_append : (h : Held) (p : ℕ) (a l : List Candidate) → walk h p (a ++ l) ≡ walk (walk h p a) (p + length a) l
walk_append h p [] l = let z : p ≡ p + 0 = omega arith in ap (λ n. walk h n l) z
walk_append h p (c ∷ a) l =
    let z : suc p + length a ≡ p + suc (length a) = omega arith in
    walk_append (passed h p c c.level) (suc p) a l ∙ ap (λ n. walk (walk (passed h p c c.level) (suc p) a) n l) z

-- where no level is known, nothing is taken
walk_unheard : (h : Held) (p : ℕ) (l : List Candidate) → Unheard l → walk h p l ≡ h
walk_unheard h p [] u = refl
walk_unheard h p (c ∷ l) u = ap (λ x. walk (passed h p c x) (suc p) l) (u c (inl refl)) ∙ walk_unheard h (suc p) l (λ e i. u e (inr i))

-- what is held stays, where it stays at each candidate
walk_stays : (g : Held) (q : ℕ) (l : List Candidate) → ((c : Candidate) (y : Float) → In c l → c.level ≡ Some y → takes g y ≡ false) → walk g q l ≡ g
walk_stays g q [] stays = refl
walk_stays g q (c ∷ l) stays = ap (λ h. walk h (suc q) l) (go c.level refl) ∙ walk_stays g (suc q) l (λ e y i. stays e y (inr i))
  where
    go : (x : Option Float) → c.level ≡ x → passed g q c x ≡ g
    go None e = refl
    go (Some y) e = pass_known g q c (Some y) y false refl (stays c y (inl refl) e)

-- nothing is lower than a NaN, or equal to it
le_nan : (x : Float) → le x nan ≡ false
unfolding lt eq le
le_nan nan = refl
le_nan (inf s) = refl
le_nan (fin s m e) = refl

-- what is higher is not taken, nor is a NaN
not_taken : (x y : Float) → (is_nan y ≡ false → lt x y ≡ true) → le y x ≡ false
not_taken x y h = go (le y x) refl
  where
    go : (b : Bool) → le y x ≡ b → le y x ≡ false
    go true e = absurd (lt_not_le x y (h (le_left y x e)) e)
    go false e = e

-- Before c: what is held is not below x, and it is no NaN, since none is met first.
abbrev Above : Float → Held → Type 0
Above x None = Unit
Above x (Some (p, v, y)) = le x y ≡ true

abbrev NoNan : Bool → Held → Type 0
NoNan b None = b ≡ false
NoNan b (Some (p, v, y)) = Unit

pass_above : (x : Float) (c : Candidate) (q : ℕ) (b : Bool) (z : Option Float) (h : Held) → Above x h → NoNan (nan_or z b) h → ((y : Float) → z ≡ Some y → is_nan y ≡ false → le x y ≡ true) → Above x (passed h q c z) × NoNan b (passed h q c z)
pass_above x c q b None h a n up = (a, n)
pass_above x c q b (Some y) None a n up = (up y refl n, tt)
pass_above x c q b (Some y) (Some (p, v, w)) a n up = go (le y w) refl
  where
    go : (t : Bool) → le y w ≡ t → Above x (take? t (Some (q, c.voice, y)) (Some (p, v, w))) × NoNan b (take? t (Some (q, c.voice, y)) (Some (p, v, w)))
    go true e = (up y refl (le_left y w e), tt)
    go false e = (a, tt)

walk_above : (x : Float) (h : Held) (q : ℕ) (l : List Candidate) → Above x h → NoNan (nan_first l) h → ((e : Candidate) (y : Float) → In e l → e.level ≡ Some y → is_nan y ≡ false → le x y ≡ true) → Above x (walk h q l)
walk_above x h q [] a n up = a
walk_above x h q (c ∷ l) a n up =
    let next = pass_above x c q (nan_first l) c.level h a n (λ y. up c y (inl refl)) in
    walk_above x (passed h q c c.level) (suc q) l next.0 next.1 (λ e y i. up e y (inr i))

above_takes : (x : Float) (h : Held) → Above x h → takes h x ≡ true
above_takes x None a = refl
above_takes x (Some (p, v, y)) a = a

nan_part : (z : Option Float) (a b : Bool) → (a ≡ false → b ≡ false) → nan_or z a ≡ false → nan_or z b ≡ false
nan_part None a b f n = f n
nan_part (Some x) a b f n = n

nan_front : (a l : List Candidate) → nan_first (a ++ l) ≡ false → nan_first a ≡ false
nan_front [] l n = refl
nan_front (c ∷ a) l n = nan_part c.level (nan_first (a ++ l)) (nan_first a) (nan_front a l) n

-- ---- whom the words name, the walk takes

module _ (before : List Candidate) (c : Candidate) (after : List Candidate) where
  -- the walk takes c, if it takes it after those before it, and holds it past those after it
  walk_takes : (x : Float) → c.level ≡ Some x → takes (walk None 0 before) x ≡ true → ((e : Candidate) (y : Float) → In e after → e.level ≡ Some y → le y x ≡ false) → walk None 0 (before ++ (c ∷ after)) ≡ Some (length before, c.voice, x)
  walk_takes x known taken stays =
      let g = walk None 0 before in
      let z : 0 + length before ≡ length before = omega arith in
      walk_append None 0 before (c ∷ after)
      ∙ ap (λ n. walk g n (c ∷ after)) z
      ∙ ap (λ h. walk h (suc (length before)) after) (pass_known g (length before) c c.level x true known taken)
      ∙ walk_stays (Some (length before, c.voice, x)) (suc (length before)) after stays

  walk_nan : Unheard before → c.level ≡ Some nan → walk None 0 (before ++ (c ∷ after)) ≡ Some (length before, c.voice, nan)
  walk_nan u known = walk_takes nan known (ap (λ h. takes h nan) (walk_unheard None 0 before u)) (λ e y i k. le_nan y)

  walk_lowest : nan_first (before ++ (c ∷ after)) ≡ false → (l : LastLowest before c after) → walk None 0 (before ++ (c ∷ after)) ≡ Some (length before, c.voice, l.least)
  walk_lowest n l =
      let above = walk_above l.least None 0 before tt (nan_front before (c ∷ after) n) l.earlier in
      walk_takes l.least l.known (above_takes l.least (walk None 0 before) above) (λ e y i k. not_taken l.least y (l.later e y i k))

-- Nobody but the victim is whom the words name.
pub only_quietest : {l : List Candidate} {v : Victim} → QuietestGoes l v → policy_victim policy.Quietest l ≡ v
only_quietest (none_known {l} u) = ap (λ h. took_or h (oldest l)) (walk_unheard None 0 l u)
only_quietest (nan_stays before c after u known) = ap (λ h. took_or h (oldest (before ++ (c ∷ after)))) (walk_nan before c after u known)
only_quietest (last_lowest before c after n l) = ap (λ h. took_or h (oldest (before ++ (c ∷ after)))) (walk_lowest before c after n l)

-- ---- and the words name one in every list

-- every known level is a NaN
abbrev Uncounted : List Candidate → Type 0
Uncounted l = (e : Candidate) (x : Float) → In e l → e.level ≡ Some x → is_nan x ≡ true

record Lowest (l : List Candidate) : Type 0 where
  before : List Candidate
  c : Candidate
  after : List Candidate
  split : l ≡ before ++ (c ∷ after)
  is : LastLowest before c after

-- it is not above any
not_above : {l : List Candidate} (w : Lowest l) (e : Candidate) (x : Float) → In e l → e.level ≡ Some x → is_nan x ≡ false → le w.is.least x ≡ true
not_above w e x i known number = go (in_append w.before (w.c ∷ w.after) e (subst (λ m. In e m) w.split i))
  where
    go : In e w.before ⊎ ((e ≡ w.c) ⊎ In e w.after) → le w.is.least x ≡ true
    go (inl i) = w.is.earlier e x i known number
    go (inr (inl p)) =
        let s : w.is.least ≡ x = some_inj (sym w.is.known ∙ ap (λ d. d.level) (sym p) ∙ known) in
        subst (λ y. le w.is.least y ≡ true) s (le_refl w.is.least w.is.number)
    go (inr (inr i)) = lt_le w.is.least x (w.is.later e x i known number)

-- one more in front: not lower, or no number
front : {l : List Candidate} (d : Candidate) (w : Lowest l) → ((x : Float) → d.level ≡ Some x → is_nan x ≡ false → le w.is.least x ≡ true) → Lowest (d ∷ l)
front d w h = record {
  before = d ∷ w.before;
  c = w.c;
  after = w.after;
  split = ap (λ m. d ∷ m) w.split;
  is = record { least = w.is.least; known = w.is.known; number = w.is.number; earlier = go; later = w.is.later };
}
  where
    go : (e : Candidate) (x : Float) → In e (d ∷ w.before) → e.level ≡ Some x → is_nan x ≡ false → le w.is.least x ≡ true
    go e x (inl p) known = h x (ap (λ b. b.level) (sym p) ∙ known)
    go e x (inr i) known = w.is.earlier e x i known

-- one more in front, lower than all
alone : (d : Candidate) (l : List Candidate) (x : Float) → d.level ≡ Some x → is_nan x ≡ false → ((e : Candidate) (y : Float) → In e l → e.level ≡ Some y → is_nan y ≡ false → lt x y ≡ true) → Lowest (d ∷ l)
alone d l x known number h = record {
  before = [];
  c = d;
  after = l;
  split = refl;
  is = record { least = x; known = known; number = number; earlier = λ e y i. absurd i; later = h };
}

number_more : (d : Candidate) (l : List Candidate) (x : Float) → d.level ≡ Some x → is_nan x ≡ false → Uncounted l ⊎ Lowest l → Lowest (d ∷ l)
number_more d l x known number (inl u) = alone d l x known number (λ e y i k m. absurd (true≢false (sym (u e y i k) ∙ m)))
number_more d l x known number (inr w) = go (le w.is.least x) refl
  where
    go : (b : Bool) → le w.is.least x ≡ b → Lowest (d ∷ l)
    go true e = front d w (λ y k m. subst (λ a. le w.is.least a ≡ true) (some_inj (sym known ∙ k)) e)
    go false e =
        let low = not_le w.is.least x w.is.number number e in
        alone d l x known number (λ f y i k m. lt_le_trans x w.is.least y low (not_above w f y i k m) number m)

uncounted_more : (d : Candidate) (l : List Candidate) → ((x : Float) → d.level ≡ Some x → is_nan x ≡ true) → Uncounted l ⊎ Lowest l → Uncounted (d ∷ l) ⊎ Lowest (d ∷ l)
uncounted_more d l h (inl u) = inl go
  where
    go : Uncounted (d ∷ l)
    go e x (inl p) k = h x (ap (λ b. b.level) (sym p) ∙ k)
    go e x (inr i) k = u e x i k
uncounted_more d l h (inr w) = inr (front d w (λ x k m. absurd (true≢false (sym (h x k) ∙ m))))

lowest : (l : List Candidate) → Uncounted l ⊎ Lowest l
lowest [] = inl (λ e x i. absurd i)
lowest (d ∷ l) = more d.level refl (lowest l)
  where
    more : (z : Option Float) → d.level ≡ z → Uncounted l ⊎ Lowest l → Uncounted (d ∷ l) ⊎ Lowest (d ∷ l)
    more None e r = uncounted_more d l (λ x k. absurd (none_some (sym e ∙ k))) r
    more (Some x) e r = go (is_nan x) refl
      where
        go : (b : Bool) → is_nan x ≡ b → Uncounted (d ∷ l) ⊎ Lowest (d ∷ l)
        go true n = uncounted_more d l (λ y k. subst (λ a. is_nan a ≡ true) (some_inj (sym e ∙ k)) n) r
        go false n = inr (number_more d l x e n r)

-- what is met first: no known level, a NaN, or a number
data First (l : List Candidate) : Type 0 where
  nothing : Unheard l → First l
  a_nan : (before : List Candidate) (c : Candidate) (after : List Candidate) → l ≡ before ++ (c ∷ after) → Unheard before → c.level ≡ Some nan → First l
  a_number : nan_first l ≡ false → (e : Candidate) (x : Float) → In e l → e.level ≡ Some x → is_nan x ≡ false → First l

unheard_more : (d : Candidate) (l : List Candidate) → d.level ≡ None → Unheard l → Unheard (d ∷ l)
unheard_more d l e u c (inl p) = ap (λ b. b.level) p ∙ e
unheard_more d l e u c (inr i) = u c i

known_first : (d : Candidate) (l : List Candidate) (x : Float) → d.level ≡ Some x → First (d ∷ l)
unfolding is_nan
known_first d l nan e = a_nan [] d l refl (λ c i. absurd i) e
known_first d l (inf s) e = a_number (ap (λ z. nan_or z (nan_first l)) e) d (inf s) (inl refl) e refl
known_first d l (fin s m k) e = a_number (ap (λ z. nan_or z (nan_first l)) e) d (fin s m k) (inl refl) e refl

unknown_first : (d : Candidate) (l : List Candidate) → d.level ≡ None → First l → First (d ∷ l)
unknown_first d l e (nothing u) = nothing (unheard_more d l e u)
unknown_first d l e (a_nan before c after p u n) = a_nan (d ∷ before) c after (ap (λ m. d ∷ m) p) (unheard_more d before e u) n
unknown_first d l e (a_number n c x i k m) = a_number (ap (λ z. nan_or z (nan_first l)) e ∙ n) c x (inr i) k m

first : (l : List Candidate) → First l
first [] = nothing (λ c i. absurd i)
first (d ∷ l) = more d.level refl (first l)
  where
    more : (z : Option Float) → d.level ≡ z → First l → First (d ∷ l)
    more None e r = unknown_first d l e r
    more (Some x) e r = known_first d l x e

named : (l : List Candidate) → First l → (v : Victim) × QuietestGoes l v
named l (nothing u) = (oldest l, none_known u)
named l (a_nan before c after p u n) = (Some (length before, c.voice), subst (λ m. QuietestGoes m (Some (length before, c.voice))) (sym p) (nan_stays before c after u n))
named l (a_number n e x i k m) = go (lowest l)
  where
    go : Uncounted l ⊎ Lowest l → (v : Victim) × QuietestGoes l v
    go (inl u) = absurd (true≢false (sym (u e x i k) ∙ m))
    go (inr w) =
        let v = Some (length w.before, w.c.voice) in
        (v, subst (λ a. QuietestGoes a v) (sym w.split) (last_lowest w.before w.c w.after (subst (λ a. nan_first a ≡ false) w.split n) w.is))

-- The victim is whom the words name.
pub quietest_goes : (l : List Candidate) → QuietestGoes l (policy_victim policy.Quietest l)
quietest_goes l =
    let one = named l (first l) in
    subst (λ v. QuietestGoes l v) (sym (only_quietest one.1)) one.1

-- ---- of two equally quiet voices the later goes

same_place : (a b : List Candidate) (c d : Candidate) (l m : List Candidate) → a ++ (c ∷ l) ≡ b ++ (d ∷ m) → length a ≡ length b → (c ≡ d) × (l ≡ m)
same_place [] [] c d l m p n = (cc, cc)
same_place [] (y ∷ b) c d l m p n = absurd (omega arith)
same_place (x ∷ a) [] c d l m p n = absurd (omega arith)
same_place (x ∷ a) (y ∷ b) c d l m p n =
    let q : a ++ (c ∷ l) ≡ b ++ (d ∷ m) = cc in
    same_place a b c d l m q (omega arith)

-- if c is the victim, and its level is a number, every number after it is higher
later_higher : {l : List Candidate} {v : Victim} → QuietestGoes l v → (before : List Candidate) (c : Candidate) (after : List Candidate) (w : VoiceId) (x : Float) → l ≡ before ++ (c ∷ after) → v ≡ Some (length before, w) → c.level ≡ Some x → is_nan x ≡ false
    → (e : Candidate) (y : Float) → In e after → e.level ≡ Some y → is_nan y ≡ false → lt x y ≡ true
unfolding is_nan
later_higher (none_known u) before c after w x p q k n e y i f m = absurd (none_some (sym (u c (subst (λ a. In c a) (sym p) (in_right before (c ∷ after) c (inl refl)))) ∙ k))
later_higher (nan_stays b d a u j) before c after w x p q k n e y i f m =
    let at : length b ≡ length before = ap (λ (t : ℕ × VoiceId). t.0) (some_inj q) in
    let s = same_place b before d c a after p at in
    let is : nan ≡ x = some_inj (sym j ∙ ap (λ z. z.level) s.0 ∙ k) in
    absurd (true≢false (ap is_nan is ∙ n))
later_higher (last_lowest b d a j g) before c after w x p q k n e y i f m =
    let at : length b ≡ length before = ap (λ (t : ℕ × VoiceId). t.0) (some_inj q) in
    let s = same_place b before d c a after p at in
    let is : g.least ≡ x = some_inj (sym g.known ∙ ap (λ z. z.level) s.0 ∙ k) in
    subst (λ z. lt z y ≡ true) is (g.later e y (subst (λ z. In e z) (sym s.1) i) f m)

-- A voice after which comes one that is as quiet, or quieter, does not go.
pub younger_goes : (before : List Candidate) (c : Candidate) (after : List Candidate) (e : Candidate) (x y : Float) (w : VoiceId) → c.level ≡ Some x → In e after → e.level ≡ Some y → le y x ≡ true → policy_victim policy.Quietest (before ++ (c ∷ after)) ≡ Some (length before, w) → ⊥
younger_goes before c after e x y w k i f h q =
    lt_not_le x y (later_higher (quietest_goes (before ++ (c ∷ after))) before c after w x refl q k (le_right y x h) e y i f (le_left y x h)) h
