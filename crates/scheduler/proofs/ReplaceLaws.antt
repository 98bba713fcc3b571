-- What `replaces` and `replacing` say, in the rule's words and by other definitions than theirs (SPEC 8.3): which two
-- events they are, where the new one stands, and when there is room for it (SPEC 8.2).
use Prim.Native.Nat.{ℕ, ◌≤◌, ◌<◌}
use native.Mathlib.Omega.{arith}
use mathlib.Core.Path.{◌≡◌, refl, sym, ap, ◌∙◌}
use mathlib.Core.Logic.{◌⊎◌, inl, inr, ⊎_elim}
use mathlib.Core.List.{List, [], ◌∷◌, ◌++◌}
use Rattle.std.proofs.lemmas.Bool.{and_from}
use Rattle.node.specs.declared.refusal.Refusal.{Refusal}
use Rattle.std.specs.Prelude.{Option, None, Some, filter, Err, Ok, Result}
use mathlib.Core.Bool.{Bool, true, false, ◌&&◌, not, cond, false≢true}
use lib.Dec.{eqb, leb}
use lib.ListN.{length}
use borrow.Author.Tests.{eqb-true, eq-eqb, ne_eqb, ltb-true, leb-true, leb-false, lt-leb}
use Rattle.lists.specs.Member.{In}
use Rattle.lists.proofs.Member.{ok_err, some_inj, none_some, and_left, and_right}
use Rattle.lists.proofs.Filter.{length_filter, filter_same, filter_filter}
use Rattle.node.specs.Name.{named, text, same_name}
use Rattle.node.specs.declared.name.Name.{Name}
use Rattle.node.specs.declared.order.EventAction.{EventAction}
use Rattle.node.specs.declared.order.EventAction.TheVariants as action
use Rattle.node.specs.declared.refusal.Refusal.TheVariants.{TableFull}
use Rattle.node.proofs.NameLaws.{same_to, same_from}
use Rattle.scheduler.specs.Event.{gate_name, param_of}
use Rattle.scheduler.specs.Replace.{same_sort, replaces, thinned}
use Rattle.scheduler.specs.Queue.{later, replacing, full, queue_after, answer_to}
use Rattle.scheduler.specs.declared.event.Event.{Event}
use Rattle.scheduler.proofs.Sorted.{Sorted, filter_sorted, inserted_sorted, inserted_place, length_inserted}

-- ---- what an event orders: a value or a glide, for the parameter of these bytes; nothing where it is a free or has no name
pub data Sort : Type 0 where
  value : Sort
  glide : Sort

pub record Ordered : Type 0 where
  pub sort : Sort
  pub parameter : List ℕ

abbrev pub under : Sort → Name → Option Ordered
under s n = cond (named n) (Some (record { sort = s; parameter = text n })) None

-- "A gate counts as a value for `gate`"
abbrev pub ordered : EventAction → Name → Option Ordered
ordered (action.Value x) n = under value n
ordered (action.Glide g) n = under glide n
ordered (action.Gate x) n = Some (record { sort = value; parameter = 103 ∷ 97 ∷ 116 ∷ 101 ∷ [] })
ordered action.Free n = None

-- "the same voice, parameter and time", and the same sort
pub record Alike (e f : Event) : Type 0 where
  pub time : e.time ≡ f.time
  pub voice : e.voice.0 ≡ f.voice.0
  pub what : Ordered
  pub mine : ordered e.action e.name ≡ Some what
  pub theirs : ordered f.action f.name ≡ Some what

-- ---- exactly such events are replaced
under_to : (s : Sort) (m n : Name) → same_name m n ≡ true → (k : Ordered) × (under s m ≡ Some k) × (under s n ≡ Some k)
under_to s m n h =
    let r = same_to m n h in (
      record { sort = s; parameter = text m },
      ap (λ b. cond b (Some (record { sort = s; parameter = text m })) None) r.first,
      ap (λ b. cond b (Some (record { sort = s; parameter = text n })) None) r.second ∙ ap (λ t. Some (record { sort = s; parameter = t })) (sym r.string),
    )

under_from : (s u : Sort) (m n : Name) (k : Ordered) → under s m ≡ Some k → under u n ≡ Some k → (s ≡ u) × (same_name m n ≡ true)
under_from s u m n k = go (named m) refl (named n) refl
  where
    go : (a : Bool) → named m ≡ a → (b : Bool) → named n ≡ b → cond a (Some (record { sort = s; parameter = text m })) None ≡ Some k → cond b (Some (record { sort = u; parameter = text n })) None ≡ Some k → (s ≡ u) × (same_name m n ≡ true)
    go true p true q x y =
        let z = some_inj (x ∙ sym y) in
        (ap (λ (o : Ordered). o.sort) z, same_from m n (record { first = p; second = q; string = ap (λ (o : Ordered). o.parameter) z }))
    go true p false q x y = absurd (none_some y)
    go false p b q x y = absurd (none_some x)

value_glide : value ≡ glide → ⊥
value_glide e = let z : ◌≡◌ {A = ℕ} 0 1 = cc in absurd (omega arith)

module _ (m n : Name) where
  alike_to : (a b : EventAction) → same_sort a b ≡ true → same_name (param_of a m) (param_of b n) ≡ true → (k : Ordered) × (ordered a m ≡ Some k) × (ordered b n ≡ Some k)
  alike_to (action.Value x) (action.Value y) s h = under_to value m n h
  alike_to (action.Value x) (action.Glide g) s h = absurd (false≢true s)
  alike_to (action.Value x) (action.Gate y) s h = under_to value m gate_name h
  alike_to (action.Value x) action.Free s h = absurd (false≢true s)
  alike_to (action.Glide g) (action.Value y) s h = absurd (false≢true s)
  alike_to (action.Glide g) (action.Glide g') s h = under_to glide m n h
  alike_to (action.Glide g) (action.Gate y) s h = absurd (false≢true s)
  alike_to (action.Glide g) action.Free s h = absurd (false≢true s)
  alike_to (action.Gate x) (action.Value y) s h = under_to value gate_name n h
  alike_to (action.Gate x) (action.Glide g) s h = absurd (false≢true s)
  alike_to (action.Gate x) (action.Gate y) s h = (record { sort = value; parameter = 103 ∷ 97 ∷ 116 ∷ 101 ∷ [] }, refl, refl)
  alike_to (action.Gate x) action.Free s h = absurd (false≢true s)
  alike_to action.Free b s h = absurd (false≢true s)

  alike_from : (a b : EventAction) (k : Ordered) → ordered a m ≡ Some k → ordered b n ≡ Some k → (same_sort a b ≡ true) × (same_name (param_of a m) (param_of b n) ≡ true)
  alike_from (action.Value x) (action.Value y) k p q = (refl, (under_from value value m n k p q).1)
  alike_from (action.Value x) (action.Glide g) k p q = absurd (value_glide (under_from value glide m n k p q).0)
  alike_from (action.Value x) (action.Gate y) k p q = (refl, (under_from value value m gate_name k p q).1)
  alike_from (action.Value x) action.Free k p q = absurd (none_some q)
  alike_from (action.Glide g) (action.Value y) k p q = absurd (value_glide (sym (under_from glide value m n k p q).0))
  alike_from (action.Glide g) (action.Glide g') k p q = (refl, (under_from glide glide m n k p q).1)
  alike_from (action.Glide g) (action.Gate y) k p q = absurd (value_glide (sym (under_from glide value m gate_name k p q).0))
  alike_from (action.Glide g) action.Free k p q = absurd (none_some q)
  alike_from (action.Gate x) (action.Value y) k p q = (refl, (under_from value value gate_name n k p q).1)
  alike_from (action.Gate x) (action.Glide g) k p q = absurd (value_glide (under_from value glide gate_name n k p q).0)
  alike_from (action.Gate x) (action.Gate y) k p q = (refl, refl)
  alike_from (action.Gate x) action.Free k p q = absurd (none_some q)
  alike_from action.Free b k p q = absurd (none_some p)

-- the four tests of `replaces`, one by one
pub record Tested (e f : Event) : Type 0 where
  pub time : e.time ≡ f.time
  pub voice : e.voice.0 ≡ f.voice.0
  pub sort : same_sort e.action f.action ≡ true
  pub name : same_name (param_of e.action e.name) (param_of f.action f.name) ≡ true

pub tested : (e f : Event) → replaces e f ≡ true → Tested e f
tested e f h =
    let a = eqb e.time f.time in
    let b = eqb e.voice.0 f.voice.0 in
    let c = same_sort e.action f.action in
    let d = same_name (param_of e.action e.name) (param_of f.action f.name) in
    let r₁ = and_right a (b && (c && d)) h in
    let r₂ = and_right b (c && d) r₁ in
    record { time = eqb-true _ _ (and_left a (b && (c && d)) h); voice = eqb-true _ _ (and_left b (c && d) r₁); sort = and_left c d r₂; name = and_right c d r₂ }

-- the four together are the rule
pub tests_pass : (e f : Event) → Tested e f → replaces e f ≡ true
tests_pass e f t = and_from _ _ (eq-eqb _ _ t.time) (and_from _ _ (eq-eqb _ _ t.voice) (and_from _ _ t.sort t.name))

pub replaces_to : (e f : Event) → replaces e f ≡ true → Alike e f
replaces_to e f h =
    let t = tested e f h in
    let k = alike_to e.name f.name e.action f.action t.sort t.name in
    record { time = t.time; voice = t.voice; what = k.0; mine = k.1; theirs = k.2 }

pub replaces_from : (e f : Event) → Alike e f → replaces e f ≡ true
replaces_from e f l =
    let k = alike_from e.name f.name e.action f.action l.what l.mine l.theirs in
    tests_pass e f (record { time = l.time; voice = l.voice; sort = k.0; name = k.1 })

-- ---- "The new event takes its own place at the end of its time": in an ordered queue what is not later and not replaced stands before it,
-- in its order, and all that is later behind it
pub replacing_place : (e : Event) (l : List Event) → Sorted l → replacing e l ≡ filter (λ f. not (later e f) && not (replaces e f)) l ++ (e ∷ filter (later e) l)
replacing_place e l s =
    inserted_place e (thinned e l) (filter_sorted (λ f. not (replaces e f)) l s)
    ∙ ap (λ z. z ++ (e ∷ filter (later e) (thinned e l))) (filter_filter (λ f. not (later e f)) (λ f. not (replaces e f)) l)
    ∙ ap (λ z. filter (λ f. not (later e f) && not (replaces e f)) l ++ (e ∷ z)) (filter_filter (later e) (λ f. not (replaces e f)) l ∙ filter_same _ (later e) l (λ f i. go f (later e f) refl))
  where
    -- what is later is not replaced
    go : (f : Event) (b : Bool) → later e f ≡ b → (later e f && not (replaces e f)) ≡ later e f
    go f false h = rw h
    go f true h =
        let k : e.time < f.time = ltb-true _ _ h in
        let off : eqb e.time f.time ≡ false = ne_eqb e.time f.time (λ z. omega (arith, z, k)) in
        rw (h, off)

-- the queue never grows beyond its table
pub queue_fits : (e : Event) (l : List Event) → length l ≤ 256 → length (queue_after e l) ≤ 256
queue_fits e l h = go (full (thinned e l)) refl
  where
    go : (b : Bool) → full (thinned e l) ≡ b → length (cond b l (replacing e l)) ≤ 256
    go true t = h
    go false t = omega (arith, length_inserted e (thinned e l), leb-false 256 (length (thinned e l)) t)

-- scheduling keeps the queue ordered, taken or refused
pub queue_sorted : (e : Event) (l : List Event) → Sorted l → Sorted (queue_after e l)
queue_sorted e l s = go (full (thinned e l))
  where
    go : (b : Bool) → Sorted (cond b l (replacing e l))
    go true = s
    go false = inserted_sorted e (thinned e l) (filter_sorted (λ f. not (replaces e f)) l s)

-- ---- "Freed queue places count before refusal 7": a queue of up to 256 takes an event exactly if it has a place left, or an event
-- that the new one replaces
thinned_less : (e : Event) (l : List Event) (f : Event) → In f l → replaces e f ≡ true → length (thinned e l) < length l
thinned_less e [] f i h = absurd i
thinned_less e (g ∷ l) f (inl p) h =
    let off : not (replaces e g) ≡ false = ap not (sym (ap (replaces e) p) ∙ h) in
    rw off (let k : length (thinned e l) ≤ length l = length_filter (λ x. not (replaces e x)) l in omega arith)
thinned_less e (g ∷ l) f (inr i) h = go (not (replaces e g)) (thinned_less e l f i h)
  where
    go : (b : Bool) → length (thinned e l) < length l → length (cond b (g ∷ (thinned e l)) (thinned e l)) < length (g ∷ l)
    go true k = omega arith
    go false k = omega arith

less_thinned : (e : Event) (l : List Event) → length (thinned e l) < length l → (f : Event) × In f l × (replaces e f ≡ true)
less_thinned e [] h = absurd (omega arith)
less_thinned e (g ∷ l) h = go (replaces e g) refl h (less_thinned e l)
  where
    go : (b : Bool) → replaces e g ≡ b → length (cond (not b) (g ∷ (thinned e l)) (thinned e l)) < length (g ∷ l)
        → (length (thinned e l) < length l → (f : Event) × In f l × (replaces e f ≡ true)) → (f : Event) × In f (g ∷ l) × (replaces e f ≡ true)
    go true p k ih = (g, inl refl, p)
    go false p k ih = let r = ih (omega arith) in (r.0, inr r.1, r.2)

abbrev pub Accepted : Event → List Event → Type 0
Accepted e l = (length l < 256) ⊎ ((f : Event) × In f l × (replaces e f ≡ true))

module _ (e : Event) (l : List Event) (h : length l ≤ 256) where
  pub room_taken : Accepted e l → answer_to e l ≡ Ok tt
  room_taken r =
      let all : length (thinned e l) ≤ length l = length_filter (λ f. not (replaces e f)) l in
      let less : length (thinned e l) < 256 = ⊎_elim (λ k. omega (arith, k, all)) (λ k. omega (arith, h, thinned_less e l k.0 k.1 k.2)) r in
      ap (λ b. cond b (Err TableFull) (Ok tt)) (lt-leb 256 (length (thinned e l)) less)

  pub taken_room : answer_to e l ≡ Ok tt → Accepted e l
  taken_room t = go (full (thinned e l)) refl t (leb 256 (length l)) refl
    where
      go : (b : Bool) → full (thinned e l) ≡ b → ◌≡◌ {A = Result (Unit {0}) Refusal} (cond b (Err TableFull) (Ok tt)) (Ok tt) → (c : Bool) → leb 256 (length l) ≡ c → Accepted e l
      go true p q c r = absurd (ok_err (sym q))
      go false p q false r = inl (leb-false 256 (length l) r)
      go false p q true r = inr (less_thinned e l (omega (arith, leb-false 256 (length (thinned e l)) p, leb-true 256 (length l) r)))
