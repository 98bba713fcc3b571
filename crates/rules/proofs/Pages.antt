-- The law of the page.
use Prim.Native.Nat.{ℕ}
use mathlib.Core.Path.{◌≡◌, refl, sym, ap, ◌∙◌}
use mathlib.Core.List.{List, [], ◌∷◌, ◌++◌}
use Rattle.std.specs.Prelude.{Option, None, Some, cond, find, option_map}
use lib.ListN.{length}
use lib.Dec.{eqb}
use Rattle.std.proofs.lemmas.Bool.{and_from}
use borrow.Author.Tests.{eqb-true, eq-eqb, le-leb, lt-leb}
use Rattle.lists.proofs.Member.{and_left, and_right}
use Rattle.node.specs.Silence.{bytes}
use Rattle.node.specs.declared.record.NodeId.{NodeId}
use Rattle.node.specs.declared.record.Edge.{Edge}
use Rattle.node.specs.declared.refusal.Refusal.TheVariants.{ShortBuffer}
use Rattle.edges.specs.Ports.{feeds}
use Rattle.voice.specs.declared.voices.Voice.{Voice}
use Rattle.voice.specs.declared.voices.VoiceState.{VoiceState}
use Rattle.voice.specs.declared.voices.VoiceState.TheVariants.{Tracked, Fading, Loose}
use Rattle.lists.specs.Written.{written}
use Rattle.model.specs.Decimal.{decimal}
use Rattle.voice.specs.Voice.{end_in, end_of, feeder}
use Rattle.model.specs.Page as paper
use Rattle.model.specs.Model.{Model}
use Rattle.model.specs.Call.{printed, refused}
use Rattle.rules.specs.First.{First}
use Rattle.rules.specs.Reading.{last_in, last_node, Sounds, PortText, word, Line, Lines, PageLaw}
use Rattle.rules.proofs.Firsts.{found}
use Rattle.rules.proofs.Digits.{decimal_reads}

same_end : (s : VoiceState) (v : Voice) → end_in s v ≡ last_in s (feeder v)
same_end Tracked v = refl
same_end (Fading f) v = refl
same_end Loose v = refl

same_word : (s : VoiceState) → paper.word s ≡ word s
same_word Tracked = refl
same_word (Fading f) = refl
same_word Loose = refl

the_edge : (es : List Edge) (v : Voice) → First (Sounds v) es (find (feeds (end_of v) v.bus) es)
the_edge es v =
    let end : (end_of v).0 ≡ (last_node v).0 = ap (λ (k : NodeId). k.0) (same_end v.state v) in
    found (feeds (end_of v) v.bus) (Sounds v)
    (λ e h. (eqb-true _ _ (and_left (eqb e.from.0 (end_of v).0) (eqb e.to.0 v.bus.0) h) ∙ end, eqb-true _ _ (and_right (eqb e.from.0 (end_of v).0) (eqb e.to.0 v.bus.0) h)))
    (λ e h. and_from (eqb e.from.0 (end_of v).0) (eqb e.to.0 v.bus.0) (eq-eqb _ _ (h.0 ∙ sym end)) (eq-eqb _ _ h.1)) es

port_text : (o : Option Edge) → PortText o (paper.port_text (option_map (λ (e : Edge). e.port) o))
port_text None = refl
port_text (Some e) = decimal_reads e.port

the_line : (clock : ℕ) (es : List Edge) (v : Voice) → Line clock es v (paper.line clock (paper.port_now es v) v)
the_line clock es v = record {
  id = decimal v.id.0;
  age = decimal (paper.age clock v);
  port = paper.port_text (paper.port_now es v);
  edge = find (feeds (end_of v) v.bus) es;
  id_is = decimal_reads v.id.0;
  age_is = decimal_reads (paper.age clock v);
  sounds = the_edge es v;
  port_is = port_text (find (feeds (end_of v) v.bus) es);
  text = ap (λ w. decimal v.id.0 ++ (bytes " " ++ (decimal (paper.age clock v) ++ (bytes " " ++ (paper.port_text (paper.port_now es v) ++ (bytes " " ++ (w ++ bytes "\n"))))))) (same_word v.state);
}

the_lines : (clock : ℕ) (es : List Edge) (vs : List Voice) → Lines clock es vs (paper.lines clock (paper.port_now es) vs)
the_lines clock es [] = refl
the_lines clock es (v ∷ vs) = (paper.line clock (paper.port_now es v) v, paper.lines clock (paper.port_now es) vs, the_line clock es v, the_lines clock es vs, refl)

pub page_law : (m : Model) → PageLaw m
page_law m =
    let text = paper.page m.shared.clock (paper.port_now m.shared.graph.edges) m.voices in
    record {
      lines = paper.lines m.shared.clock (paper.port_now m.shared.graph.edges) m.voices;
      each = the_lines m.shared.clock m.shared.graph.edges m.voices;
      room = λ out h. ap (λ b. cond b (printed (length text) (written text out)) (refused ShortBuffer)) (le-leb (length text) (length out) h);
      no_room = λ out h. ap (λ b. cond b (printed (length text) (written text out)) (refused ShortBuffer)) (lt-leb (length text) (length out) h);
    }
