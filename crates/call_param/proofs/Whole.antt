-- What an order leaves, from the ways through its code; and the order of the model, with nobody freed.
use Prim.Native.Nat.{ℕ}
use native.Mathlib.Omega.{arith}
use mathlib.Core.Path.{◌≡◌, refl, sym, ap, ◌∙◌}
use mathlib.Core.List.{List, []}
use Rattle.std.specs.Prelude.{None, Some, find, position}
use mathlib.Core.Bool.{Bool, true, false, not, cond, ◌&&◌, and-false}
use lib.ListN.{take, get_or}
use borrow.Author.Tests.{eqb-true}
use Rattle.lists.proofs.Find.{none_find, find_same}
use Rattle.node.specs.declared.name.Name.{Name}
use Rattle.node.specs.declared.order.LastOrder.{LastOrder}
use Rattle.node.specs.declared.record.VoiceId.{VoiceId}
use Rattle.node.specs.declared.record.Node.{Node}
use Rattle.edges.specs.Wiring.{listed}
use Rattle.graph_rows.specs.Node.{node_of, nodes_in}
use Rattle.store.specs.declared.answer.Outcome.{Outcome}
use Rattle.store.specs.declared.answer.Outcome.TheVariants.{Applied, NoVoice, NotTaken}
use Rattle.voice.specs.declared.voices.Voice.{Voice}
use Rattle.voice.specs.Voice.{is_voice, id}
use Rattle.model.specs.Order.{takes, with_last}
use Rattle.voice_rows.specs.Rows.{voices_in}
use Rattle.call_param.specs.Left.{is_left, is_known, Reply, reply, replaced_left, reply_node, reply_voice, order_left}
use Rattle.call_param.specs.Replies.{Replies}
use Rattle.call_param.proofs.Replacing.{first_lost, first_found}

-- no: the very words
pub refused : (c : List ℕ) (count : ℕ) (o : Outcome) (r : Reply) → reply o (take count (nodes_in c)) ≡ r → Replies c c count o r
refused c count o r e = record { is = e; same = λ h. refl }

-- ---- the node
module _ (l c : List ℕ) (count k : ℕ) (o : LastOrder) where
  abbrev ns : List Node
  ns = take count (nodes_in c)

  abbrev whole : Reply
  whole = reply_node l (find (is_left l (id k)) ns) o ns

  pub node_lost : position (is_left l (id k)) (take count (nodes_in c)) ≡ None → Replies c c count NotTaken whole
  node_lost e = refused c count NotTaken whole (ap (λ x. reply_node l x o ns) (sym (first_lost l c count k e)))

  module _ (p : ℕ) (found : position (is_left l (id k)) (take count (nodes_in c)) ≡ Some p) where
    abbrev node : Node
    node = get_or (nodes_in c) p (node_of [])

    by_takes : (b : Bool) → takes o node ≡ b → whole ≡ cond b (reply Applied (replaced_left l ns (with_last o node))) (reply NotTaken ns)
    by_takes b t = ap (λ x. reply_node l x o ns) (first_found l c count k p found) ∙ ap (λ b. cond b (reply Applied (replaced_left l ns (with_last o node))) (reply NotTaken ns)) t

    pub node_off : takes o node ≡ false → Replies c c count NotTaken whole
    node_off t = refused c count NotTaken whole (sym (by_takes false t))

    pub node_on : takes o node ≡ true → (new : List ℕ) → take count (nodes_in new) ≡ replaced_left l ns (with_last o node) → Replies c new count Applied whole
    node_on t new is = record { is = ap (reply Applied) is ∙ sym (by_takes true t); same = λ z. absurd (let y : ◌≡◌ {A = ℕ} 0 1 = cc in omega arith) }

-- ---- the voice
module _ (l : List ℕ) (w : VoiceId) where
  unknown : (v : Voice) → listed l w.0 ≡ true → is_known l w v ≡ false
  unknown v h = go (is_voice w v) refl
    where
      go : (b : Bool) → is_voice w v ≡ b → is_known l w v ≡ false
      go true t = ap (λ x. not (listed l x) && is_voice w v) (eqb-true v.id.0 w.0 t) ∙ ap (λ b. not b && is_voice w v) h
      go false t = ap (λ b. not (listed l v.id.0) && b) t ∙ and-false (not (listed l v.id.0))

  known : (v : Voice) → listed l w.0 ≡ false → is_known l w v ≡ is_voice w v
  known v h = go (is_voice w v) refl
    where
      go : (b : Bool) → is_voice w v ≡ b → is_known l w v ≡ is_voice w v
      go true t = ap (λ x. not (listed l x) && is_voice w v) (eqb-true v.id.0 w.0 t) ∙ ap (λ b. not b && is_voice w v) h
      go false t = ap (λ b. not (listed l v.id.0) && b) t ∙ and-false (not (listed l v.id.0)) ∙ sym t

  pub freed_unknown : (vs : List Voice) → listed l w.0 ≡ true → find (is_known l w) vs ≡ None
  freed_unknown vs h = none_find (is_known l w) vs (λ v i. unknown v h)

  pub others_known : (vs : List Voice) → listed l w.0 ≡ false → find (is_known l w) vs ≡ find (is_voice w) vs
  others_known vs h = find_same (is_known l w) (is_voice w) vs (λ v i. known v h)

module _ (l : List ℕ) (w : VoiceId) (name : Name) (o : LastOrder) (voices nodes : List ℕ) (held live : ℕ) where
  abbrev its_voices : List Voice
  its_voices = take held (voices_in voices)

  abbrev its_nodes : List Node
  its_nodes = take live (nodes_in nodes)

  abbrev asked : Reply
  asked = order_left l w name o its_voices its_nodes

  pub voice_freed : listed l w.0 ≡ true → Replies nodes nodes live NoVoice asked
  voice_freed h = refused nodes live NoVoice asked (sym (ap (λ x. reply_voice l x name o its_nodes) (freed_unknown l w its_voices h)))
