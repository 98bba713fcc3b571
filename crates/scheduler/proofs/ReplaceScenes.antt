-- Scenes of replacing on the queue alone (SPEC 8.3), each with the wrong rule that it refuses.
use Rattle.std.specs.Prelude.{Err, Ok}
use Prim.Native.Nat.{ℕ}
use mathlib.Core.Path.{◌≡◌, refl}
use mathlib.Core.List.{List, [], ◌∷◌}
use lib.ListN.{replicate}
use lib.Ieee.{Float}
use Rattle.node.specs.Name.{name_of}
use Rattle.node.specs.declared.order.EventAction.{EventAction}
use Rattle.node.specs.declared.order.EventAction.TheVariants as action
use Rattle.node.specs.declared.order.GlideShape.TheVariants.{Linear}
use Rattle.node.specs.declared.order.GlideSpace.TheVariants.{Raw}
use Rattle.node.specs.declared.refusal.Refusal.TheVariants.{TableFull}
use Rattle.scheduler.specs.Queue.{replacing, queue_after, answer_to}
use Rattle.scheduler.specs.declared.event.Event.{Event}

module _ (x y z : Float) where
  abbrev at : ℕ → ℕ → List ℕ → EventAction → Event
  at t w name a = record { time = t; voice = record { 0 = w }; name = name_of name; action = a }

  abbrev cut : List ℕ
  cut = 99 ∷ 117 ∷ 116 ∷ []

  abbrev gate : List ℕ
  gate = 103 ∷ 97 ∷ 116 ∷ 101 ∷ []

  abbrev value : Float → EventAction
  value u = action.Value u

  abbrev glide : Float → EventAction
  glide u = action.Glide (record { target = u; seconds = u; shape = Linear; space = Raw })

  -- one after the other
  abbrev all : List Event → List Event → List Event
  all [] l = l
  all (e ∷ es) l = all es (replacing e l)

  abbrev queue : List Event → List Event
  queue es = all es []

  -- "The new event takes its own place at the end of its time." Refuses: replaced in place.
  own_place : queue (at 4 1 cut (value x) ∷ at 4 1 gate (value y) ∷ at 4 1 cut (value z) ∷ []) ≡ at 4 1 gate (value y) ∷ at 4 1 cut (value z) ∷ []
  own_place = refl

  -- "a glide does so with a glide". Refuses: the sort ignored.
  by_sort : queue (at 4 1 cut (glide x) ∷ at 4 1 cut (value y) ∷ at 4 1 cut (glide z) ∷ []) ≡ at 4 1 cut (value y) ∷ at 4 1 cut (glide z) ∷ []
  by_sort = refl

  -- "the same ... time". Refuses: the time ignored.
  by_time : queue (at 4 1 cut (value x) ∷ at 5 1 cut (value y) ∷ []) ≡ at 4 1 cut (value x) ∷ at 5 1 cut (value y) ∷ []
  by_time = refl

  -- "the same voice". Refuses: the voice ignored.
  by_voice : queue (at 4 1 cut (value x) ∷ at 4 2 cut (value y) ∷ []) ≡ at 4 1 cut (value x) ∷ at 4 2 cut (value y) ∷ []
  by_voice = refl

  -- "A gate counts as a value for `gate`", whatever bytes stand beside it. Refuses: a gate by its bytes; a gate as a sort of its own.
  by_gate : queue (at 4 1 cut (action.Gate x) ∷ at 4 1 gate (value y) ∷ at 4 1 [] (action.Gate z) ∷ []) ≡ at 4 1 [] (action.Gate z) ∷ []
  by_gate = refl

  -- "an event whose name is not 1 to 16 bytes replaces none". Refuses: names of no bytes that are the same.
  unnamed : queue (at 4 1 [] (value x) ∷ at 4 1 [] (value y) ∷ []) ≡ at 4 1 [] (value x) ∷ at 4 1 [] (value y) ∷ []
  unnamed = refl

  -- a free is no value. Refuses: a free that is replaced.
  frees : queue (at 4 1 cut action.Free ∷ at 4 1 cut action.Free ∷ at 4 1 cut (value x) ∷ []) ≡ at 4 1 cut action.Free ∷ at 4 1 cut action.Free ∷ at 4 1 cut (value x) ∷ []
  frees = refl

  -- a name of 16 bytes is one, a name of 17 none, and another name is another. Refuses: 16 bytes left out; names of any length.
  abbrev long : ℕ → List ℕ
  long n = replicate n 97

  by_name :
      (queue (at 4 1 (long 16) (value x) ∷ at 4 1 (long 16) (value y) ∷ []) ≡ at 4 1 (long 16) (value y) ∷ [])
      × (queue (at 4 1 (long 17) (value x) ∷ at 4 1 (long 17) (value y) ∷ []) ≡ at 4 1 (long 17) (value x) ∷ at 4 1 (long 17) (value y) ∷ [])
      × (queue (at 4 1 (long 3) (value x) ∷ at 4 1 (long 4) (value y) ∷ []) ≡ at 4 1 (long 3) (value x) ∷ at 4 1 (long 4) (value y) ∷ [])
  by_name = (refl, refl, refl)

  -- "Freed queue places count before refusal 7", and on 7 the very queue stays. Refuses: 7 before room is made.
  abbrev crowd : List Event
  crowd = at 4 1 cut (value x) ∷ replicate 255 (at 4 1 cut action.Free)

  room_made :
      (answer_to (at 4 1 cut (value y)) crowd ≡ Ok tt)
      × (queue_after (at 4 1 cut (value y)) crowd ≡ replacing (at 4 1 cut (value y)) crowd)
      × (answer_to (at 4 1 gate (value y)) crowd ≡ Err TableFull)
      × (queue_after (at 4 1 gate (value y)) crowd ≡ crowd)
  room_made = (refl, refl, refl, refl)
