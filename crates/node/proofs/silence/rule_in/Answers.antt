use Rattle.std.proofs.Common.{◌≡◌, List, Bor, ℕ, Bool, sym, ap, ◌∙◌, rules, tests}
use Rattle.std.specs.Prelude.{Option, option_map}
use Rattle.std.specs.Option.{unwrap_or}
use Rattle.std.proofs.lemmas.Iterator.{YieldsList-from_slice}
use Rattle.std.proofs.lemmas.Iterator.Search.{find_from_yields_List}
use Rattle.lists.proofs.Table.{lookup_find, lookup_map}
use Rattle.node.specs.Name.{name_of, same_name}
use Rattle.node.specs.declared.silence.SilenceRule.{SilenceRule}
use Rattle.node.specs.declared.silence.SilenceRule.TheVariants.{Own}
use Rattle.node.specs.Silence.{KindRule}
use Rattle.node.proofs.silence.rule_in.Goals as goal

abbrev Row : Type 0
Row = Bor (List ℕ) × SilenceRule

abbrev rule_of : Option Row → SilenceRule
rule_of o = unwrap_or (option_map (λ (r : Row). r.1) o) Own

pub returns : goal.returns
returns c =
    let rows = c.args.rows.now in
    let kind = c.args.kind in
    let is_row : Row → Bool = λ r. same_name kind (name_of r.0.now) in
    let e = find_from_yields_List is_row _ _ c.find.result c.find.ensures.ran (YieldsList-from_slice rows (search rules)) (λ x b q k. search (rules, tests)) in
    let h : c.map_or.result ≡ rule_of (option_map (λ (r : Bor Row). r.now) c.find.result) = search rules in
    h ∙ ap rule_of e ∙ lookup_find is_row (λ (r : Row). r.1) Own rows
    ∙ sym (lookup_map (λ (r : Row). record { name = name_of r.0.now; rule = r.1 }) (λ (k : KindRule). same_name kind k.name) (λ (k : KindRule). k.rule) Own rows)
