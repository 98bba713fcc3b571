-- A's queue is a function of B's: what is left when every event is removed that a later pending one replaces. So in a queue that calls made
-- no event replaces an earlier one: "A new value replaces a pending value".
use Prim.Native.Nat.{◌<◌}
use native.Mathlib.Omega.{arith}
use mathlib.Core.Path.{◌≡◌, refl, sym, ap, ◌∙◌, subst}
use mathlib.Core.Logic.{inl, inr, ⊎_elim}
use mathlib.Core.List.{List, [], ◌∷◌}
use mathlib.Core.Bool.{Bool, true, false, ◌||◌, not, false≢true}
use borrow.Author.Tests.{ltb-true, not-true}
use Rattle.node.specs.declared.order.EventAction.{EventAction}
use Rattle.node.specs.declared.order.EventAction.TheVariants as action
use Rattle.scheduler.specs.declared.event.Event.{Event}
use Rattle.lists.specs.Member.{In}
use Rattle.std.specs.Prelude.{cond, filter}
use Rattle.lists.proofs.Filter.{in_filter}
use Rattle.scheduler.specs.Event.{param_of}
use Rattle.scheduler.specs.Queue.{later, before?, inserted, replacing}
use Rattle.scheduler.proofs.Sorted.{Sorted, filter_sorted, in_inserted}
use Rattle.scheduler.specs.Replace.{replaces, same_sort, thinned}
use Rattle.scheduler.proofs.ReplaceLaws.{tested, tests_pass}
use Rattle.replaced.specs.Kept.{overtaken, lasts}
use Rattle.replaced.proofs.Thin.{Superseded, Thinned, same_time, in_thinned}
use Rattle.replaced.proofs.Applied.{same_called}

-- ---- who replaces one that replaces a third replaces the third
same_sort_lem : (c a b : EventAction) → same_sort a b ≡ true → same_sort c a ≡ same_sort c b
same_sort_lem c (action.Value x) (action.Value y) h = refl
same_sort_lem c (action.Value x) (action.Glide g) h = absurd (false≢true h)
same_sort_lem c (action.Value x) (action.Gate y) h = refl
same_sort_lem c (action.Value x) action.Free h = absurd (false≢true h)
same_sort_lem c (action.Glide g) (action.Value y) h = absurd (false≢true h)
same_sort_lem c (action.Glide g) (action.Glide g') h = refl
same_sort_lem c (action.Glide g) (action.Gate y) h = absurd (false≢true h)
same_sort_lem c (action.Glide g) action.Free h = absurd (false≢true h)
same_sort_lem c (action.Gate x) (action.Value y) h = refl
same_sort_lem c (action.Gate x) (action.Glide g) h = absurd (false≢true h)
same_sort_lem c (action.Gate x) (action.Gate y) h = refl
same_sort_lem c (action.Gate x) action.Free h = absurd (false≢true h)
same_sort_lem c action.Free b h = absurd (false≢true h)

replaces_trans : (g f e : Event) → replaces g f ≡ true → replaces f e ≡ true → replaces g e ≡ true
replaces_trans g f e h k =
    let a = tested g f h in
    let b = tested f e k in
    tests_pass g e
    (record {
      time = a.time ∙ b.time;
      voice = a.voice ∙ b.voice;
      sort = sym (same_sort_lem g.action f.action e.action b.sort) ∙ a.sort;
      name = sym (same_called (param_of f.action f.name) (param_of e.action e.name) b.name (param_of g.action g.name)) ∙ a.name;
    })

superseded_trans : (f e : Event) → replaces f e ≡ true → (q : List Event) → Superseded f q → Superseded e q
superseded_trans f e k [] s = s
superseded_trans f e k (g ∷ q) (inl h) = inl (replaces_trans g f e h k)
superseded_trans f e k (g ∷ q) (inr s) = inr (superseded_trans f e k q s)

-- what is superseded in B's queue is superseded in A's
superseded_thin : (q p : List Event) → Thinned p q → (e : Event) → Superseded e q → Superseded e p
superseded_thin [] p h e s = absurd s
superseded_thin (f ∷ q) p (inl h) e s = subst (Superseded e) (sym h.1) (⊎_elim inl (λ z. inr (superseded_thin q h.0 h.2 e z)) s)
superseded_thin (f ∷ q) p (inr h) e (inl r) = superseded_trans f e r p (superseded_thin q p h.1 f h.0)
superseded_thin (f ∷ q) p (inr h) e (inr s) = superseded_thin q p h.1 e s

-- ---- in A's queue no event replaces an earlier one
abbrev pub Single : List Event → Type 0
Single [] = Unit
Single (e ∷ p) = (Superseded e p → ⊥) × Single p

superseded_in : (e : Event) (p : List Event) → Superseded e p → (f : Event) × In f p × (replaces f e ≡ true)
superseded_in e [] s = absurd s
superseded_in e (f ∷ p) (inl r) = (f, inl refl, r)
superseded_in e (f ∷ p) (inr s) = let r = superseded_in e p s in (r.0, inr r.1, r.2)

in_superseded : (e : Event) (p : List Event) (f : Event) → In f p → replaces f e ≡ true → Superseded e p
in_superseded e [] f i r = absurd i
in_superseded e (g ∷ p) f (inl z) r = inl (subst (λ x. replaces x e ≡ true) z r)
in_superseded e (g ∷ p) f (inr i) r = inr (in_superseded e p f i r)

pub single_filter : (t : Event → Bool) (p : List Event) → Single p → Single (filter t p)
single_filter t [] s = tt
single_filter t (e ∷ p) s = go (t e) (single_filter t p s.1)
  where
    go : (b : Bool) → Single (filter t p) → Single (cond b (e ∷ (filter t p)) (filter t p))
    go true ih = (λ z. let r = superseded_in e (filter t p) z in s.0 (in_superseded e p r.0 (in_filter t p r.0 r.1).0 r.2), ih)
    go false ih = ih

single_inserted : (n : Event) (l : List Event) → Sorted l → ((f : Event) → In f l → replaces n f ≡ false) → Single l → Single (inserted n l)
single_inserted n [] s h d = (λ z. z, tt)
single_inserted n (f ∷ l) s h d = go (later n f) refl (single_inserted n l s.1 (λ x i. h x (inr i)) d.1)
  where
    go : (b : Bool) → later n f ≡ b → Single (inserted n l) → Single (before? b n f l (inserted n l))
    go true t ih = (λ z. front (superseded_in n (f ∷ l) z), d)
      where
        front : (g : Event) × In g (f ∷ l) × (replaces g n ≡ true) → ⊥
        front r =
            let k : n.time < f.time = ltb-true _ _ t in
            let m : r.0.time ≡ n.time = same_time r.0 n r.2 in
            ⊎_elim (λ z. let y : r.0.time ≡ f.time = ap (λ (u : Event). u.time) z in omega arith) (λ i. omega (arith, k, m, s.0 r.0 i)) r.1
    go false t ih = (λ z. behind (superseded_in f (inserted n l) z), ih)
      where
        behind : (g : Event) × In g (inserted n l) × (replaces g f ≡ true) → ⊥
        behind r =
            ⊎_elim (λ z. false≢true (sym (h f (inl refl)) ∙ ap (λ x. replaces x f) (sym z) ∙ r.2)) (λ i. d.0 (in_superseded f l r.0 i r.2)) (in_inserted n l r.0 r.1)

pub single_replacing : (n : Event) (p : List Event) → Sorted p → Single p → Single (replacing n p)
single_replacing n p s d =
    single_inserted n (thinned n p) (filter_sorted (λ f. not (replaces n f)) p s) (λ f i. not-true _ (in_filter (λ f. not (replaces n f)) p f i).1) (single_filter (λ f. not (replaces n f)) p d)

-- ---- so it is what is left of B's
overtaken_true : (e : Event) (q : List Event) → Superseded e q → overtaken e q ≡ true
overtaken_true e [] s = absurd s
overtaken_true e (f ∷ q) (inl r) = rw r
overtaken_true e (f ∷ q) (inr s) = go (replaces f e) (overtaken_true e q s)
  where
    go : (b : Bool) → overtaken e q ≡ true → (b || overtaken e q) ≡ true
    go true h = refl
    go false h = h

pub true_overtaken : (e : Event) (q : List Event) → overtaken e q ≡ true → Superseded e q
true_overtaken e [] h = absurd (false≢true h)
true_overtaken e (f ∷ q) h = go (replaces f e) refl h (true_overtaken e q)
  where
    go : (b : Bool) → replaces f e ≡ b → (b || overtaken e q) ≡ true → (overtaken e q ≡ true → Superseded e q) → Superseded e (f ∷ q)
    go true r k ih = inl r
    go false r k ih = inr (ih k)

pub thinned_lasts : (q p : List Event) → Thinned p q → Single p → p ≡ lasts q
thinned_lasts [] p h d = h
thinned_lasts (e ∷ q) p (inl h) d = h.1 ∙ go (overtaken e q) refl (thinned_lasts q h.0 h.2 one.1)
  where
    one : Single (e ∷ h.0)
    one = subst Single h.1 d

    go : (b : Bool) → overtaken e q ≡ b → h.0 ≡ lasts q → e ∷ h.0 ≡ cond (not b) (e ∷ (lasts q)) (lasts q)
    go false t ih = ap (λ z. e ∷ z) ih
    go true t ih = absurd (one.0 (superseded_thin q h.0 h.2 e (true_overtaken e q t)))
thinned_lasts (e ∷ q) p (inr h) d = thinned_lasts q p h.1 d ∙ ap (λ b. cond (not b) (e ∷ (lasts q)) (lasts q)) (sym (overtaken_true e q h.0))

pub thinned_sorted : (q p : List Event) → Sorted q → Thinned p q → Sorted p
thinned_sorted [] p s h = subst Sorted (sym h) tt
thinned_sorted (e ∷ q) p s (inl h) = subst Sorted (sym h.1) (λ f i. s.0 f (in_thinned q h.0 h.2 f i), thinned_sorted q h.0 s.1 h.2)
thinned_sorted (e ∷ q) p s (inr h) = thinned_sorted q p s.1 h.1
