-- The port that a voice feeds, its line, and the page of one voice more.
use Prim.Native.Nat.{ℕ, ◌+◌, ◌<◌}
use native.Mathlib.Numerals.{add-one}
use mathlib.Core.Path.{◌≡◌, refl, sym, ap, ◌∙◌}
use mathlib.Core.List.{List, [], ◌∷◌, ◌++◌, append_assoc, append-nil}
use Rattle.std.specs.Prelude.{Option, find, option_map}
use lib.ListN.{length, take, get_or}
use lib.Seq.{take-suc}
use Rattle.node.specs.Silence.{bytes}
use Rattle.model.specs.Decimal.{decimal}
use Rattle.voice.specs.Voice.{end_of}
use Rattle.model.specs.Page.{word, age, port_now, port_text, header, line, lines, page}
use Rattle.node.specs.declared.record.NodeId.{NodeId}
use Rattle.node.specs.declared.record.VoiceId.{VoiceId}
use Rattle.node.specs.declared.record.Edge.{Edge}
use Rattle.edges.specs.Ports.{feeds}
use Rattle.graph_tables.specs.FedPorts.{node}
use Rattle.voice.specs.declared.voices.Voice.{Voice}
use Rattle.voice.specs.declared.voices.VoiceState.{VoiceState}

-- the port of an edge that was looked for, if it was found
abbrev pub port_found : Option Edge → Option ℕ
port_found fed = option_map (λ (e : Edge). e.port) (fed)

-- looked for from the end of a voice to its bus, it is the port that the voice feeds
pub port_is : (es : List Edge) (v : Voice) (from : ℕ) (bus : NodeId) (fed : Option Edge) → from ≡ (end_of v).0 → bus ≡ v.bus → fed ≡ find (feeds (node from) bus) es → port_found fed ≡ port_now es v
port_is es v from bus fed e f h = ap (option_map (λ (e : Edge). e.port)) (h ∙ ap (λ k. find (feeds (node k) bus) es) e ∙ ap (λ k. find (feeds (end_of v) k) es) f)

-- a voice's line, field by field
regrouped : (s a b c d : List ℕ) → (((a ++ s) ++ (b ++ s)) ++ (c ++ s)) ++ d ≡ a ++ (s ++ (b ++ (s ++ (c ++ (s ++ d)))))
regrouped s a b c d = simp append_assoc

pub line_is : (clock : ℕ) (o : Option ℕ) (v : Voice) (id : VoiceId) (since : ℕ) (state : VoiceState) → id ≡ v.id → since ≡ age clock v → state ≡ v.state
    → (((decimal id.0 ++ bytes " ") ++ (decimal since ++ bytes " ")) ++ (port_text o ++ bytes " ")) ++ (word state ++ bytes "\n") ≡ line clock o v
line_is clock o v id since state e f h = rw (e, f, h) (regrouped (bytes " ") (decimal v.id.0) (decimal (age clock v)) (port_text o) (word v.state ++ bytes "\n"))

module _ (clock : ℕ) (port : Voice → Option ℕ) where
  lines_both : (a b : List Voice) → lines clock port (a ++ b) ≡ lines clock port a ++ lines clock port b
  lines_both [] b = refl
  lines_both (v ∷ a) b = ap (◌++◌ (line clock (port v) v)) (lines_both a b) ∙ sym (append_assoc (line clock (port v) v) (lines clock port a) (lines clock port b))

  lines_more : (i : ℕ) (rows : List Voice) (d : Voice) → i < length rows → lines clock port (take i rows) ++ line clock (port (get_or rows i d)) (get_or rows i d) ≡ lines clock port (take (i + 1) rows)
  lines_more i rows d h =
      let v = get_or rows i d in
      let one : lines clock port (v ∷ []) ≡ line clock (port v) v = append-nil (line clock (port v) v) in
      sym (ap (λ (k : ℕ). lines clock port (take k rows)) (add-one i) ∙ ap (lines clock port) (take-suc rows i d h) ∙ lines_both (take i rows) (v ∷ []) ∙ ap (◌++◌ (lines clock port (take i rows))) one)

  pub page_more : (i : ℕ) (rows : List Voice) (d : Voice) → i < length rows → page clock port (take i rows) ++ line clock (port (get_or rows i d)) (get_or rows i d) ≡ page clock port (take (i + 1) rows)
  page_more i rows d h =
      append_assoc header (lines clock port (take i rows)) (line clock (port (get_or rows i d)) (get_or rows i d)) ∙ ap (◌++◌ header) (lines_more i rows d h)
