-- What a key says of a pending event is what its own event says, and the ways through a test of several parts.
use Prim.Native.Nat.{ℕ}
use mathlib.Core.Path.{◌≡◌, refl, ap, ap₂, ◌∙◌}
use mathlib.Core.List.{List}
use mathlib.Core.Bool.{Bool, true, false, ◌&&◌, ◌||◌, not}
use lib.Dec.{eqb}
use borrow.Author.Tests.{eq-eqb, ne_eqb}
use Rattle.lists.proofs.Filter.{filter_same}
use Rattle.node.specs.Name.{same_name}
use Rattle.node.specs.declared.name.Name.{Name}
use Rattle.node.specs.declared.order.EventAction.{EventAction}
use Rattle.node.specs.declared.record.VoiceId.{VoiceId}
use Rattle.node.specs.declared.order.EventAction.TheVariants as action
use Rattle.scheduler.specs.Event.{param_of}
use Rattle.scheduler.specs.Replace.{is_value, is_glide, same_sort, replaces, thinned}
use Rattle.scheduler.specs.declared.event.Event.{Event}
use Rattle.words.specs.Fields.{name_at}
use Rattle.event_table.specs.Rows.{action_from}
use Rattle.event_table.specs.Key.{KeyOf, same_order, replaces_by, thinned_by}
use Rattle.event_table.specs.declared.replace.Key.{Key}

-- ---- a test of several parts
-- `and_left` of the library has the sides of the first the other way round: each citation ends a chain with the conjunction, and would
-- turn it again.
pub off : (a b : Bool) → a ≡ false → false ≡ (a && b)
off a b h = rw h

pub on : (a b : Bool) → a ≡ true → b ≡ (a && b)
on a b h = rw h

-- ---- a row's action by its first word: 1 a value, 2 a glide, 3 a gate, else a free
module _ (k : Key) (which x s sh e sp : ℕ) (name : Name) where
  abbrev told : Bool
  told = same_order k (action_from which x s sh e sp) name

  pub value_on : which ≡ 1 → k.value ≡ true → same_name (name_at k.name 0) name ≡ told
  value_on h v = simp (eq-eqb _ _ h, v)

  pub glide_on : (which ≡ 1 → ⊥) → which ≡ 2 → k.glide ≡ true → same_name (name_at k.name 0) name ≡ told
  glide_on n h v = simp (ne_eqb _ _ n, eq-eqb _ _ h, v)

-- ---- the sorts: a value, a glide, neither
a_value : (v g r : Bool) → (v && r) ≡ (((v && true) || (g && false)) && r)
a_value true g r = refl
a_value false true r = refl
a_value false false r = refl

a_glide : (v g r : Bool) → (g && r) ≡ (((v && false) || (g && true)) && r)
a_glide true true r = refl
a_glide true false r = refl
a_glide false true r = refl
a_glide false false r = refl

neither : (v g r : Bool) → false ≡ (((v && false) || (g && false)) && r)
neither true true r = refl
neither true false r = refl
neither false true r = refl
neither false false r = refl

-- ---- the key of an event
module _ (e : Event) (k : Key) (h : KeyOf e k) where
  abbrev mine : Name
  mine = param_of e.action e.name

  ordered : (a : EventAction) (n : Name) → same_order k a n ≡ (same_sort e.action a && same_name mine (param_of a n))
  ordered (action.Value x) n = ap₂ (λ (v : Bool) (m : Name). v && same_name m n) h.value h.name ∙ a_value (is_value e.action) (is_glide e.action) (same_name mine n)
  ordered (action.Glide g) n = ap₂ (λ (v : Bool) (m : Name). v && same_name m n) h.glide h.name ∙ a_glide (is_value e.action) (is_glide e.action) (same_name mine n)
  ordered (action.Gate x) n = ap₂ (λ (v g : Bool). v && g) h.value h.gate ∙ a_value (is_value e.action) (is_glide e.action) (same_name mine (param_of (action.Gate x) n))
  ordered action.Free n = neither (is_value e.action) (is_glide e.action) (same_name mine (param_of action.Free n))

  pub key_replaces : (f : Event) → replaces_by k f ≡ replaces e f
  key_replaces f =
      ap₂ (λ (t : ℕ) (v : VoiceId). eqb t f.time && (eqb v.0 f.voice.0 && same_order k f.action f.name)) h.time h.voice
      ∙ ap (λ z. eqb e.time f.time && (eqb e.voice.0 f.voice.0 && z)) (ordered f.action f.name)

  pub key_thinned : (l : List Event) → thinned_by k l ≡ thinned e l
  key_thinned l = filter_same (λ f. not (replaces_by k f)) (λ f. not (replaces e f)) l (λ f i. ap not (key_replaces f))
