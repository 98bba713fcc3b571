-- An order, by the voice, the parameter and the node that are found.
use Prim.Native.Nat.{ℕ, ◌+◌, ◌-◌, ◌≤◌}
use native.Mathlib.Omega.{arith}
use mathlib.Core.Path.{◌≡◌, refl, sym, ap, subst, ◌∙◌}
use mathlib.Core.List.{List}
use mathlib.Core.Bool.{Bool, true, false, false≢true}
use lib.Dec.{leb}
use lib.ListN.{length, replicate}
use lib.Seq.{take-append_seam}
use borrow.Author.Tests.{eqb-true, eqb-false, le-leb}
use Rattle.std.specs.Prelude.{Option, None, Some, find, option_map}
use Rattle.lists.proofs.Member.{some_inj, none_some}
use Rattle.node.specs.Name.{name_length, name_of}
use Rattle.node.specs.declared.name.Name.{Name}
use Rattle.node.specs.declared.order.LastOrder.{LastOrder}
use Rattle.node.specs.declared.record.Node.{Node}
use Rattle.node.specs.declared.record.VoiceId.{VoiceId}
use Rattle.node.proofs.NameLaws.{name_long, same_to, same_from}
use Rattle.graph.specs.Node.{is_node, node_at}
use Rattle.synthdef.specs.Tables.{param_rows}
use Rattle.synthdef.specs.Params.{called}
use Rattle.synthdef.specs.declared.def.Param.{Param}
use Rattle.store.specs.declared.answer.Outcome.{Outcome}
use Rattle.voice.specs.declared.voices.Voice.{Voice}
use Rattle.voice.specs.Voice.{is_voice, id}
use Rattle.model.specs.Model.{Model}
use Rattle.model.specs.Order.{Ordered, takes, order, order_node, order_param, order_voice}
use Rattle.rules.specs.Left.{First, No}
use Rattle.rules.specs.Orders.{Is, Called, Takes, Unknown, Nameless, Refusing, Taking, Exactly, OrderRule, NameRule}
use Rattle.rules.specs.Orders.{Ordering, no_voice, no_parameter, not_taken, applied}
use Rattle.rules.proofs.Left.{find_first, find_no, first_find, first_same, first_in}
use Rattle.rules.proofs.EventLaws.{long, named_is}

-- ---- the tests are the rules
pub is_yes : (w : VoiceId) (v : Voice) → is_voice w v ≡ true → Is w v
is_yes w v h = eqb-true _ _ h

pub is_no : (w : VoiceId) (v : Voice) → is_voice w v ≡ false → Is w v → ⊥
is_no w v h e = eqb-false _ _ h e

called_yes : (name : Name) (p : Param) → called name p ≡ true → Called name p
called_yes name p h =
    let s = same_to p.name name h in
    record { theirs = long p.name s.first; asked = long name s.second; bytes = s.string }

called_no : (name : Name) (p : Param) → called name p ≡ false → Called name p → ⊥
called_no name p h c =
    let first = named_is p.name c.theirs in
    let second = named_is name c.asked in
    false≢true (sym h ∙ same_from p.name name (record { first = first; second = second; string = c.bytes }))

takes_yes : (o : LastOrder) (n : Node) → takes o n ≡ true → Takes o n
takes_yes LastOrder.Nothing n h = false≢true h
takes_yes (LastOrder.Value x) n h = h
takes_yes (LastOrder.Glide g) n h = h

takes_is : (o : LastOrder) (n : Node) → Takes o n → takes o n ≡ true
takes_is LastOrder.Nothing n t = absurd t
takes_is (LastOrder.Value x) n t = t
takes_is (LastOrder.Glide g) n t = t

-- ---- what is found is the first
module _ (m : Model) (w : VoiceId) where
  the_voice : (v : Voice) → find (is_voice w) m.voices ≡ Some v → First (Is w) m.voices v
  the_voice v e = find_first (Is w) (is_voice w) (is_yes w) (is_no w) m.voices v e

  no_such : find (is_voice w) m.voices ≡ None → Unknown m w
  no_such e = find_no (Is w) (is_voice w) (is_yes w) (is_no w) m.voices e

  one_voice : (u v : Voice) → First (Is w) m.voices u → First (Is w) m.voices v → u ≡ v
  one_voice u v f g = first_same (Is w) (is_voice w) (is_yes w) (is_no w) m.voices u v f g

module _ (name : Name) (ps : List Param) where
  the_param : (p : Param) → find (called name) ps ≡ Some p → First (Called name) ps p
  the_param p e = find_first (Called name) (called name) (called_yes name) (called_no name) ps p e

  no_param : find (called name) ps ≡ None → No (Called name) ps
  no_param e = find_no (Called name) (called name) (called_yes name) (called_no name) ps e

  one_param : (p q : Param) → First (Called name) ps p → First (Called name) ps q → p ≡ q
  one_param p q f g = first_same (Called name) (called name) (called_yes name) (called_no name) ps p q f g

module _ (ns : List Node) (k : ℕ) where
  abbrev At : Node → Type 0
  At n = n.id.0 ≡ k

  at_yes : (n : Node) → is_node (id k) n ≡ true → At n
  at_yes n h = eqb-true _ _ h

  at_no : (n : Node) → is_node (id k) n ≡ false → At n → ⊥
  at_no n h e = eqb-false _ _ h e

  the_node : (n : Node) → node_at ns (id k) ≡ Some n → First At ns n
  the_node n e = find_first At (is_node (id k)) at_yes at_no ns n e

  found : (n : Node) → First At ns n → node_at ns (id k) ≡ Some n
  found n f = first_find At (is_node (id k)) at_yes at_no ns n f

module _ (m : Model) (w : VoiceId) (name : Name) (o : LastOrder) where
  abbrev Told : Ordered → Type 0
  Told r = Ordering m w name o (record { shared = r.shared; voices = m.voices }) r.outcome

  module _ (v : Voice) (known : First (Is w) m.voices v) where
    module _ (p : Param) (has : First (Called name) (param_rows v.params) p) where
      abbrev place : ℕ
      place = v.first.0 + p.node

      none : ((n : Node) → First (At m.shared.graph.nodes place) m.shared.graph.nodes n → Takes o n → ⊥)
          → Refusing m w name o
      none h = record { voice = v; known = known; param = p; has = has; none = h }

      by_node : (x : Option Node) → node_at m.shared.graph.nodes (id place) ≡ x → Told (order_node x o m.shared)
      by_node None e = not_taken (none (λ n f t. none_some (sym e ∙ found m.shared.graph.nodes place n f)))
      by_node (Some n) e = go (takes o n) refl
        where
          there : (k : Node) → First (At m.shared.graph.nodes place) m.shared.graph.nodes k → k ≡ n
          there k f = some_inj (sym (found m.shared.graph.nodes place k f) ∙ e)

          go : (b : Bool) → takes o n ≡ b → Told (order_node (Some n) o m.shared)
          go true t =
              rw t
              (applied
              (record {
                voice = v;
                known = known;
                param = p;
                has = has;
                node = n;
                place = the_node m.shared.graph.nodes place n e;
                takes = takes_yes o n t;
              }))
          go false t =
              rw t (not_taken (none (λ k f h. false≢true (sym t ∙ ap (takes o) (sym (there k f)) ∙ takes_is o k h))))

    by_param : (x : Option Param) → find (called name) (param_rows v.params) ≡ x
        → Told (order_param (option_map (λ (p : Param). p.node) x) v o m.shared)
    by_param None e = no_parameter (record { voice = v; known = known; none = no_param name (param_rows v.params) e })
    by_param (Some p) e =
        by_node p (the_param name (param_rows v.params) p e) (node_at m.shared.graph.nodes (id (v.first.0 + p.node)))
        refl

  by_voice : (x : Option Voice) → find (is_voice w) m.voices ≡ x → Told (order_voice x name o m.shared)
  by_voice None e = no_voice (no_such m w e)
  by_voice (Some v) e = by_param v (the_voice m w v e) (find (called name) (param_rows v.params)) refl

  pub ordering : Told (order w name o m.voices m.shared)
  ordering = by_voice (find (is_voice w) m.voices) refl

  -- ---- no two of the four cases are true at once
  known_not : (v : Voice) → First (Is w) m.voices v → Unknown m w → ⊥
  known_not v f u = u v (first_in (Is w) m.voices v f) f.right

  named_not : (n : Nameless m w name) (v : Voice) → First (Is w) m.voices v → (p : Param)
      → First (Called name) (param_rows v.params) p → ⊥
  named_not n v f p g =
      let e = one_voice m w v n.voice f n.known in
      let h = subst (λ (u : Voice). First (Called name) (param_rows u.params) p) e g in
      n.none p (first_in (Called name) (param_rows n.voice.params) p h) h.right

  taking_not : Refusing m w name o → Taking m w name o → ⊥
  taking_not r t =
      let e = one_voice m w t.voice r.voice t.known r.known in
      let has = subst (λ (u : Voice). First (Called name) (param_rows u.params) t.param) e t.has in
      let f = one_param name (param_rows r.voice.params) t.param r.param has r.has in
      let place : t.voice.first.0 + t.param.node ≡ r.voice.first.0 + r.param.node = cc in
      r.none t.node (subst (λ (k : ℕ). First (λ x. x.id.0 ≡ k) m.shared.graph.nodes t.node) place t.place) t.takes

  pub exactly : {r : Model} {a : Outcome} → Ordering m w name o r a → Exactly m w name o a
  exactly (no_voice u) =
      record {
        one = (λ e. u, λ e. refl);
        two = (λ e. absurd (cc), λ n. absurd (known_not n.voice n.known u));
        three = (λ e. absurd (cc), λ n. absurd (known_not n.voice n.known u));
        zero = (λ e. absurd (cc), λ n. absurd (known_not n.voice n.known u));
      }
  exactly (no_parameter n) =
      record {
        one = (λ e. absurd (cc), λ u. absurd (known_not n.voice n.known u));
        two = (λ e. n, λ e. refl);
        three = (λ e. absurd (cc), λ r. absurd (named_not n r.voice r.known r.param r.has));
        zero = (λ e. absurd (cc), λ t. absurd (named_not n t.voice t.known t.param t.has));
      }
  exactly (not_taken r) =
      record {
        one = (λ e. absurd (cc), λ u. absurd (known_not r.voice r.known u));
        two = (λ e. absurd (cc), λ n. absurd (named_not n r.voice r.known r.param r.has));
        three = (λ e. r, λ e. refl);
        zero = (λ e. absurd (cc), λ t. absurd (taking_not r t));
      }
  exactly (applied t) =
      record {
        one = (λ e. absurd (cc), λ u. absurd (known_not t.voice t.known u));
        two = (λ e. absurd (cc), λ n. absurd (named_not n t.voice t.known t.param t.has));
        three = (λ e. absurd (cc), λ r. absurd (taking_not r t));
        zero = (λ e. t, λ e. refl);
      }

pub order_rule : (w : VoiceId) (name : List ℕ) (o : LastOrder) (m : Model) → OrderRule w name o m
order_rule w name o m =
    record {
      outcome = (order w (name_of name) o m.voices m.shared).outcome;
      answer = refl;
      orders = ordering m w (name_of name) o;
    }

-- ---- names
pub name_rule : (s : List ℕ) → NameRule s
name_rule s = go (name_length (length s)) refl
  where
    go : (b : Bool) → name_length (length s) ≡ b → NameRule s
    go true e =
        record {
          named = λ a b. rw e (record { one = a; sixteen = b }, take-append_seam s (replicate (16 - length s) 0));
          nameless = λ n l. let k = name_long (length s) e in n k.0 k.1;
        }
    go false e =
        record {
          named = λ a b. absurd (false≢true (sym e ∙ long_is a b));
          nameless = λ n. rw e (λ l. let k = l.one in omega arith);
        }
      where
        long_is : 1 ≤ length s → length s ≤ 16 → name_length (length s) ≡ true
        long_is a b =
            let p : leb 1 (length s) ≡ true = le-leb _ _ a in
            let q : leb (length s) 16 ≡ true = le-leb _ _ b in rw (p, q)
