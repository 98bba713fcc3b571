-- What of a new event decides which rows it replaces, and the comparison of names in words.
use Rattle.std.specs.Prelude.{ℕ, ◌≡◌, List, Bool, false, ◌&&◌, not, eqb, filter, take}
use Rattle.node.specs.Name.{same_bytes, same_name}
use Rattle.node.specs.declared.name.Name.{Name}
use Rattle.node.specs.declared.order.EventAction.{EventAction}
use Rattle.node.specs.declared.order.EventAction.TheVariants as action
use Rattle.scheduler.specs.Event.{gate_name, param_of}
use Rattle.scheduler.specs.Replace.{is_value, is_glide}
use Rattle.scheduler.specs.declared.event.Event.{Event}
use Rattle.words.specs.Fields.{four, name_at}
use Rattle.event_table.specs.declared.replace.Key.{Key}

pub record KeyOf (e : Event) (k : Key) : Type 0 where
  pub time : k.time ≡ e.time
  pub voice : k.voice ≡ e.voice
  pub value : k.value ≡ is_value e.action
  pub glide : k.glide ≡ is_glide e.action
  pub gate : k.gate ≡ same_name (param_of e.action e.name) gate_name
  pub name : name_at k.name 0 ≡ param_of e.action e.name

-- the first n bytes of two words are the same; a word has four
abbrev pub same_four : ℕ → ℕ → ℕ → Bool
same_four n x y = same_bytes (take n (four x)) (take n (four y))

-- a pending event's action and name: of the key's sort, and for its parameter
abbrev pub same_order : Key → EventAction → Name → Bool
same_order k (action.Value x) name = k.value && same_name (name_at k.name 0) name
same_order k (action.Glide g) name = k.glide && same_name (name_at k.name 0) name
same_order k (action.Gate x) name = k.value && k.gate
same_order k action.Free name = false

-- what the key says is what `replaces` says of its event (`key_replaces` in proofs/Keys)
abbrev pub replaces_by : Key → Event → Bool
replaces_by k f = eqb k.time f.time && (eqb k.voice.0 f.voice.0 && same_order k f.action f.name)

abbrev pub thinned_by : Key → List Event → List Event
thinned_by k l = filter (λ f. not (replaces_by k f)) l
