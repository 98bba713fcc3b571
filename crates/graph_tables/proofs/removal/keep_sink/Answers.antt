use Rattle.std.proofs.Common.{◌≡◌, Bool, true, false, cond, not, refl, ap, ◌∙◌, Option, None, Some, rules}
use Rattle.std.specs.Prelude.{MatchOption}
use Rattle.std.specs.Bool.{then_some}
use Rattle.lists.specs.Find.{filter_o}
use Rattle.node.specs.declared.record.NodeId.{NodeId}
use Rattle.edges.specs.Wiring.{among}
use Rattle.graph_tables.proofs.Marks.{listed_any}
use Rattle.graph_tables.proofs.removal.keep_sink.Goals as goal

-- what `Option::filter` says, as `filter_o` has it
kept : (p : NodeId → Bool) (Gives : NodeId → Bool → Type 0) (o r : Option NodeId) → MatchOption o (r ≡ None) (λ x. (b : Bool) × Gives x b × (r ≡ then_some b x)) → ((x : NodeId) (b : Bool) → Gives x b → b ≡ p x) → r ≡ filter_o p o
kept p Gives None r h told = h
kept p Gives (Some x) r h told = h.2 ∙ ap (λ b. then_some b x) (told x h.0 h.1) ∙ chosen (p x)
  where
    chosen : (b : Bool) → then_some b x ≡ cond b (Some x) None
    chosen true = refl
    chosen false = refl

pub returns : goal.returns
returns c = kept (λ k. not (among c.args.ids.now k)) _ c.args.sink c.filter.result c.filter.ensures (λ x b h. search (rules, listed_any))
