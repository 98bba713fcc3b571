-- Laws of appending nodes and putting edges one by one.
use Prim.Native.Nat.{ℕ, suc, ◌+◌, ◌≤◌, ◌<◌}
use native.Mathlib.Omega.{arith}
use mathlib.Core.Path.{◌≡◌, refl, sym, ap, ◌∙◌}
use mathlib.Core.List.{List, [], ◌∷◌, ◌++◌, append_assoc, append-nil, map}
use mathlib.Core.Bool.{Bool, true, false}
use lib.Dec.{leb}
use lib.ListN.{length, take, get_or, length-map, length-append}
use lib.Seq.{length-take-le}
use borrow.Author.Tests.{leb-true, le-leb}
use Rattle.std.proofs.lemmas.Bool.{and_from}
use Rattle.std.proofs.lemmas.List.{take_more}
use Rattle.lists.proofs.Member.{and_left, and_right}
use Rattle.node.specs.declared.record.NodeId.{NodeId}
use Rattle.node.specs.declared.record.VoiceId.{VoiceId}
use Rattle.node.specs.declared.record.Node.{Node}
use Rattle.node.specs.declared.record.Edge.{Edge}
use Rattle.graph.specs.Node.{with_id}
use Rattle.edges.specs.Wiring.{put, pushed}
use Rattle.edges.proofs.Loops.{pushed_on}
use Rattle.graph.specs.View.{GraphView}
use Rattle.synthdef.specs.Tables.{node_rows}
use Rattle.synthdef.specs.declared.def.SynthDef.{SynthDef}
use Rattle.voice.specs.Voice.{id}
use Rattle.model.specs.Spawn.{def_node, const_node, pan_node, fade_node, voice_nodes}
use Rattle.voice_graph.specs.Added.{has_room, numbered, put_all, grown, fade_edges, with_fade, voice_size, voice_edges, with_voice}

-- ---- consecutive ids
pub numbered_append : (k : ℕ) (l m : List Node) → numbered k (l ++ m) ≡ numbered k l ++ numbered (k + length l) m
numbered_append k [] m = let e : k + 0 ≡ k = omega arith in ap (λ j. numbered j m) (sym e)
numbered_append k (x ∷ l) m =
    let e : (k + 1) + length l ≡ k + suc (length l) = omega arith in
    ap (λ z. with_id k x ∷ z) (numbered_append (k + 1) l m ∙ ap (λ j. numbered (k + 1) l ++ numbered j m) e)

pub length_numbered : (k : ℕ) (l : List Node) → length (numbered k l) ≡ length l
length_numbered k [] = refl
length_numbered k (x ∷ l) = ap suc (length_numbered (k + 1) l)

-- one more node of a list l behind the nodes `base`
pub appended_next : (base l : List Node) (d row : Node) (first i : ℕ) → i < length l → length base + length l ≤ 512 → row ≡ with_id (first + i) (get_or l i d)
    → {now : List Node} → now ≡ base ++ numbered first (take i l) → pushed 512 now row ≡ base ++ numbered first (take (i + 1) l)
appended_next base l d row first i h room r {now} e =
    let short : length (take i l) ≡ i = length-take-le i l (omega arith) in
    let long : length now ≡ length base + i = ap length e ∙ length-append base (numbered first (take i l)) ∙ ap (λ n. length base + n) (length_numbered first (take i l) ∙ short) in
    let place : length now < 512 = omega arith in
    pushed_on 512 now row place
    ∙ ap (λ z. z ++ (row ∷ [])) e
    ∙ append_assoc base (numbered first (take i l)) (row ∷ [])
    ∙ ap (λ x. base ++ (numbered first (take i l) ++ (x ∷ []))) (r ∙ ap (λ j. with_id (first + j) (get_or l i d)) (sym short))
    ∙ ap (λ z. base ++ z) (sym (numbered_append first (take i l) (get_or l i d ∷ [])) ∙ ap (numbered first) (sym (take_more l i d h)))

-- the nodes of a pan behind those of the definition
pub appended_more : (base l m : List Node) (first n : ℕ) → length l ≡ n → {now : List Node} → now ≡ base ++ numbered first l
    → now ++ numbered (first + n) m ≡ base ++ numbered first (l ++ m)
appended_more base l m first n e h =
    ap (λ z. z ++ numbered (first + n) m) h
    ∙ append_assoc base (numbered first l) (numbered (first + n) m)
    ∙ ap (λ z. base ++ z) (ap (λ k. numbered first l ++ numbered (first + k) m) (sym e) ∙ sym (numbered_append first l m))

-- ---- edges put one by one
pub put_append : (es l m : List Edge) → put_all es (l ++ m) ≡ put_all (put_all es l) m
put_append es [] m = refl
put_append es (e ∷ l) m = put_append (put es e) l m

pub voice_put : (es l m : List Edge) (e : Edge) {inner last : List Edge} → inner ≡ put_all es l → last ≡ put_all inner m → put last e ≡ put_all es (l ++ (m ++ (e ∷ [])))
voice_put es l m e p q =
    ap (λ z. put z e) (q ∙ ap (λ z. put_all z m) p) ∙ sym (put_append es l (m ++ (e ∷ [])) ∙ put_append (put_all es l) m (e ∷ []))

-- ---- sizes

pub length_voice : (w : VoiceId) (d : SynthDef) (pan : Bool) → length (voice_nodes w d pan) ≡ voice_size (length (node_rows d.nodes)) pan
length_voice w d true =
    length-append (map (def_node w) (node_rows d.nodes)) (const_node w ∷ pan_node w ∷ []) ∙ ap (λ k. k + 2) (length-map (node_rows d.nodes) (def_node w))
length_voice w d false = ap length (append-nil (map (def_node w) (node_rows d.nodes))) ∙ length-map (node_rows d.nodes) (def_node w)

-- ---- with room and without
pub room_is : (count next n : ℕ) → has_room count next n ≡ true → (count + n ≤ 512) × (next + n ≤ 4294967296)
room_is count next n h = (leb-true _ _ (and_left (leb (count + n) 512) _ h), leb-true _ _ (and_right (leb (count + n) 512) _ h))

pub has_room_lem : (count next n : ℕ) → count + n ≤ 512 → next + n ≤ 4294967296 → has_room count next n ≡ true
has_room_lem count next n h k = and_from (leb (count + n) 512) (leb (next + n) 4294967296) (le-leb _ _ h) (le-leb _ _ k)

module _ (w : VoiceId) (from bus : NodeId) (p : ℕ) (g : GraphView) where
  pub fade_on : has_room (length g.nodes) g.next 1 ≡ true → with_fade w from bus p g ≡ grown g (fade_node w ∷ []) (put_all g.edges (fade_edges (id g.next) from bus p))
  unfolding with_fade
  fade_on h = rw h

  pub fade_off : has_room (length g.nodes) g.next 1 ≡ false → with_fade w from bus p g ≡ g
  unfolding with_fade
  fade_off h = rw h

module _ (w : VoiceId) (d : SynthDef) (pan : Bool) (bus : NodeId) (p : ℕ) (g : GraphView) where
  pub voice_on : has_room (length g.nodes) g.next (length (node_rows d.nodes) + 2) ≡ true
      → with_voice w d pan bus p g ≡ grown g (voice_nodes w d pan) (put_all g.edges (voice_edges (id g.next) d pan bus p))
  unfolding with_voice
  voice_on h = rw h

  pub voice_off : has_room (length g.nodes) g.next (length (node_rows d.nodes) + 2) ≡ false → with_voice w d pan bus p g ≡ g
  unfolding with_voice
  voice_off h = rw h
