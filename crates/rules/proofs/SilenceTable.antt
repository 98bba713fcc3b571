-- A kind's rule is the table's: it depends on the name's text alone, and the table is what the definition's rows spell.
use Prim.Native.Nat.{ℕ}
use mathlib.Core.Path.{◌≡◌, refl, sym, ap, ◌∙◌, subst}
use mathlib.Core.Logic.{inl, inr}
use mathlib.Core.List.{List, [], ◌∷◌, map}
use Rattle.std.specs.Prelude.{cond}
use mathlib.Core.Bool.{Bool, true, false, ◌&&◌}
use borrow.Author.Tests.{le-leb}
use Rattle.lists.specs.Member.{In}
use Rattle.lists.specs.Table.{lookup}
use Rattle.lists.proofs.Member.{in_of_map}
use Rattle.node.specs.Name.{named, text, same_bytes, same_name}
use Rattle.node.specs.Silence.{KindRule, silence_pass_through, rules, silence_of, rule_in}
use Rattle.node.specs.declared.name.Name.{Name}
use Rattle.node.specs.declared.silence.SilenceRule.{SilenceRule}
use Rattle.node.specs.declared.silence.SilenceRule.TheVariants.{Own}
use Rattle.node.proofs.NameLaws.{same_to, name_long}
use Rattle.rules.specs.Silence.{KindRow, silence_table, Called, TheTable}

-- ---- the table
-- the rule of a name depends on whether it is one, and on its text
abbrev test : Bool → List ℕ → Name → Bool
test b t m = b && (named m && same_bytes t (text m))

abbrev rule_by : Bool → List ℕ → SilenceRule
rule_by b t = lookup (λ (k : KindRule). test b t k.name) (λ (k : KindRule). k.rule) Own rules

by_text : (n : Name) → silence_of n ≡ rule_by (named n) (text n)
by_text n = refl

called_named : (t : List ℕ) (n : Name) → Called t n → named n ≡ true
called_named t n c = rw (le-leb 1 n.len c.some, le-leb n.len 16 c.most) refl

-- the rule of each row's text, computed
abbrev answers : List KindRow → List SilenceRule
answers l = map (λ k. rule_by true k.kind) l

abbrev wanted : List KindRow → List SilenceRule
wanted l = map (λ k. k.rule) l

computed : answers silence_table ≡ wanted silence_table
unfolding silence_table silence_pass_through rules
computed = refl

head_of : SilenceRule → List SilenceRule → SilenceRule
head_of d [] = d
head_of d (x ∷ l) = x

tail_of : List SilenceRule → List SilenceRule
tail_of [] = []
tail_of (x ∷ l) = l

each_row : (l : List KindRow) → answers l ≡ wanted l → (k : KindRow) → In k l → rule_by true k.kind ≡ k.rule
unfolding head_of tail_of
each_row [] e k i = absurd i
each_row (x ∷ l) e k (inl p) = ap (λ (r : KindRow). rule_by true r.kind) p ∙ ap (head_of Own) e ∙ sym (ap (λ (r : KindRow). r.rule) p)
each_row (x ∷ l) e k (inr i) = each_row l (ap tail_of e) k i

listed : (k : KindRow) → In k silence_table → (n : Name) → Called k.kind n → silence_of n ≡ k.rule
listed k i n c =
    by_text n ∙ ap (λ b. rule_by b (text n)) (called_named k.kind n c) ∙ ap (rule_by true) c.text ∙ each_row silence_table computed k i

-- the rows that the definition's table spells
abbrev row_of : KindRule → KindRow
row_of k = record { kind = text k.name; rule = k.rule }

spelled : map row_of rules ≡ silence_table
unfolding silence_table silence_pass_through rules
spelled = refl

called : (n m : Name) → same_name n m ≡ true → Called (text m) n
called n m h = let s = same_to n m h in let l = name_long n.len s.first in record { some = l.0; most = l.1; text = s.string }

in_rules : (table : List KindRule) (n : Name) → ((k : KindRule) → In k table → same_name n k.name ≡ true → ⊥) → rule_in table n ≡ Own
in_rules [] n h = refl
in_rules (k ∷ table) n h = go (same_name n k.name) refl (in_rules table n (λ j i. h j (inr i)))
  where
    go : (b : Bool) → same_name n k.name ≡ b → rule_in table n ≡ Own → cond b k.rule (rule_in table n) ≡ Own
    go true e r = absurd (h k (inl refl) e)
    go false e r = r

other : (n : Name) → ((k : KindRow) → In k silence_table → Called k.kind n → ⊥) → silence_of n ≡ Own
other n h = in_rules rules n (λ k i e. h (row_of k) (subst (In (row_of k)) spelled (in_of_map row_of rules k i)) (called n k.name e))

pub the_table : TheTable
the_table = record { listed = listed; other = other }
