-- What a done plan answers, in the words of specs/Silence: the equation that its answer meets says of each node what
-- the rule's words say.
use Prim.Native.Nat.{ℕ, zero, suc, ◌+◌, ◌≤◌, ◌<◌, min}
use native.Mathlib.Omega.{arith}
use mathlib.Core.Path.{◌≡◌, refl, sym, ap, ◌∙◌, subst}
use mathlib.Core.Logic.{inl, inr}
use mathlib.Core.List.{List, [], ◌∷◌, ◌++◌, map}
use Rattle.std.specs.Prelude.{Option, None, Some, slice_get, cond, find, option_map}
use mathlib.Core.Bool.{Bool, true, false, ◌||◌, not, false≢true}
use lib.ListN.{length, get_or, length-take}
use lib.Dec.{eqb, ltb}
use native.Mathlib.Decide.{dec_lt}
use Rattle.std.proofs.lemmas.Bool.{and_from}
use borrow.Author.Tests.{eqb-true, eq-eqb, lt-ltb, ltb-true}
use Rattle.lists.specs.Member.{In}
use Rattle.lists.proofs.Member.{and_left, and_right, some_inj, none_some}
use Rattle.node.specs.Silence.{silence_of}
use Rattle.node.specs.declared.record.Node.{Node}
use Rattle.node.specs.declared.silence.SilenceRule.{SilenceRule}
use Rattle.node.specs.declared.silence.SilenceRule.TheVariants.{Own, AnyPort, FirstPort, EveryPort, LevelPort, AmpPort, InPort}
use Rattle.graph.specs.Node.{node_at}
use Rattle.rank.specs.Order.{count_up}
use Rattle.synthdef.specs.Rows.{any}
use Rattle.synthdef.specs.Tables.{node_rows, edge_rows}
use Rattle.synthdef.specs.Edges.{ends_at, taken, counted, source_at}
use Rattle.synthdef.specs.Limits.{allowed}
use Rattle.synthdef.specs.Plan.{plan_of, plan_silent}
use Rattle.synthdef.specs.Silent.{any_from, every_from, of_port, by_rule, silent_source, by_kind}
use Rattle.synthdef.specs.declared.def.DefNode.{DefNode}
use Rattle.synthdef.specs.declared.def.DefEdge.{DefEdge}
use Rattle.synthdef.specs.declared.def.SynthDef.{SynthDef}
use Rattle.synthdef.proofs.Rows.{none_any}
use Rattle.synthdef.proofs.EdgeLaws.{counted_once}
use Rattle.synthdef.proofs.Theorem.{Answers, SilenceOf, plan_answers}
use Rattle.voice.specs.declared.voices.Voice.{Voice}
use Rattle.voice.specs.Voice.{id}
use Rattle.model.specs.Spawn.{new_voice}
use Rattle.model.specs.Clear.{done_flag, done_flags}
use Rattle.rules.proofs.Booleans.{or_left, or_right, both}
use Rattle.rules.specs.Silence.{Asked, Feeds, Falls, SilentBy, flag, flag_at, PlanAnswers, PlanLaw, SpawnedPlan}

placed : (ns : List DefNode) (i : ℕ) (n : DefNode) → slice_get ns i ≡ Some n → i < length ns
placed [] i n h = absurd (none_some h)
placed (x ∷ ns) zero n h = omega arith
placed (x ∷ ns) (suc i) n h = let k = placed ns i n h in omega arith

-- ---- the last edge to a port
module _ (i p : ℕ) where
  more : (e : DefEdge) (es : List DefEdge) (j : ℕ) → Feeds es j i p → Feeds (e ∷ es) j i p
  more e es j f = record {
    before = e ∷ f.before;
    edge = f.edge;
    after = f.after;
    split = ap (λ l. e ∷ l) f.split;
    source = f.source;
    target = f.target;
    port = f.port;
    last = f.last;
  }

  ends : (e : DefEdge) → e.to ≡ i → e.port ≡ p → ends_at i p e ≡ true
  ends e t q = rw (eq-eqb _ _ t, eq-eqb _ _ q) refl

  at_i : (e : DefEdge) → ends_at i p e ≡ true → e.to ≡ i
  at_i e h = eqb-true _ _ (and_left _ _ h)

  at_p : (e : DefEdge) → ends_at i p e ≡ true → e.port ≡ p
  at_p e h = eqb-true _ _ (and_right (eqb e.to i) _ h)

  none_later : (e : DefEdge) (es : List DefEdge) → ends_at i p e ≡ true → taken e es ≡ false → (x : DefEdge) → In x es → x.to ≡ i → x.port ≡ p → ⊥
  none_later e es h f x k t q =
      let g : any (ends_at i p) es ≡ false = ap (λ a. any (ends_at a p) es) (sym (at_i e h)) ∙ ap (λ b. any (ends_at e.to b) es) (sym (at_p e h)) ∙ f in
      false≢true (sym (none_any (ends_at i p) es x g k) ∙ ends x t q)

  found : (es : List DefEdge) (x : DefEdge) → find (ends_at i p) (counted es) ≡ Some x → Feeds es x.from i p
  found [] x h = absurd (none_some h)
  found (e ∷ es) x h = go (taken e es) refl h (found es x)
    where
      Later : Type 0
      Later = find (ends_at i p) (counted es) ≡ Some x → Feeds es x.from i p

      here : taken e es ≡ false → (b : Bool) → ends_at i p e ≡ b → cond b (Some e) (find (ends_at i p) (counted es)) ≡ Some x → Later → Feeds (e ∷ es) x.from i p
      here f true k m ih = record {
        before = [];
        edge = e;
        after = es;
        split = refl;
        source = ap (λ (y : DefEdge). y.from) (some_inj m);
        target = at_i e k;
        port = at_p e k;
        last = none_later e es k f;
      }
      here f false k m ih = more e es x.from (ih m)

      go : (b : Bool) → taken e es ≡ b → find (ends_at i p) (cond (not b) (e ∷ counted es) (counted es)) ≡ Some x → Later → Feeds (e ∷ es) x.from i p
      go true f m ih = more e es x.from (ih m)
      go false f m ih = here f (ends_at i p e) refl m ih

  source_feeds : (es : List DefEdge) (j : ℕ) → source_at (counted es) i p ≡ Some j → Feeds es j i p
  source_feeds es j h = go (find (ends_at i p) (counted es)) refl h
    where
      go : (o : Option DefEdge) → find (ends_at i p) (counted es) ≡ o → option_map (λ (e : DefEdge). e.from) o ≡ Some j → Feeds es j i p
      go None e k = absurd (none_some k)
      go (Some x) e k = subst (λ m. Feeds es m i p) (some_inj k) (found es x e)

  untaken : (e : DefEdge) (es : List DefEdge) → e.to ≡ i → e.port ≡ p → ((x : DefEdge) → In x es → x.to ≡ i → x.port ≡ p → ⊥) → taken e es ≡ false
  untaken e [] t q h = refl
  untaken e (x ∷ es) t q h = go (ends_at e.to e.port x) refl (untaken e es t q (λ y k. h y (inr k)))
    where
      go : (b : Bool) → ends_at e.to e.port x ≡ b → taken e es ≡ false → (b || taken e es) ≡ false
      go true k m = absurd (h x (inl refl) (eqb-true _ _ (and_left _ _ k) ∙ t) (eqb-true _ _ (and_right (eqb x.to e.to) _ k) ∙ q))
      go false k m = m

  kept : (a : List DefEdge) (e : DefEdge) (b : List DefEdge) → taken e b ≡ false → In e (counted (a ++ (e ∷ b)))
  kept [] e b h = rw h (inl refl)
  kept (x ∷ a) e b h = go (taken x (a ++ (e ∷ b))) (kept a e b h)
    where
      go : (c : Bool) → In e (counted (a ++ (e ∷ b))) → In e (cond (not c) (x ∷ counted (a ++ (e ∷ b))) (counted (a ++ (e ∷ b))))
      go true k = k
      go false k = inr k

  feeds_source : (es : List DefEdge) (j : ℕ) → Feeds es j i p → source_at (counted es) i p ≡ Some j
  feeds_source es j f =
      let k = subst (λ l. In f.edge (counted l)) (sym f.split) (kept f.before f.edge f.after (untaken f.edge f.after f.target f.port f.last)) in
      ap (λ o. option_map (λ (e : DefEdge). e.from) o) (counted_once i p es f.edge k (ends f.edge f.target f.port)) ∙ ap Some f.source

-- ---- the rules, as the equation has them and as the words do
module _ (q : ℕ → Bool) (Q : ℕ → Type 0) (to : (p : ℕ) → q p ≡ true → Q p) (back : (p : ℕ) → Q p → q p ≡ true) where
  any_to : (p k : ℕ) → any_from p k q ≡ true → (r : ℕ) × (p ≤ r) × (r < p + k) × Q r
  any_to p zero h = absurd (false≢true h)
  any_to p (suc k) h = go (q p) refl h (any_to (suc p) k)
    where
      Later : Type 0
      Later = any_from (suc p) k q ≡ true → (r : ℕ) × (suc p ≤ r) × (r < suc p + k) × Q r

      go : (b : Bool) → q p ≡ b → (b || any_from (suc p) k q) ≡ true → Later → (r : ℕ) × (p ≤ r) × (r < p + suc k) × Q r
      go true e m ih = (p, omega arith, omega arith, to p e)
      go false e m ih = let z = ih m in (z.0, omega (arith, z.1), omega (arith, z.2), z.3)

  to_any : (p k r : ℕ) → p ≤ r → r < p + k → Q r → any_from p k q ≡ true
  to_any p zero r a b h = absurd (omega arith)
  to_any p (suc k) r a b h = go (dec_lt p r) (λ l. to_any (suc p) k r l (omega arith) h)
    where
      go : Dec (p < r) → (p < r → any_from (suc p) k q ≡ true) → (q p || any_from (suc p) k q) ≡ true
      go (yes l) ih = or_right (q p) (any_from (suc p) k q) (ih l)
      go (no n) ih = let e : r ≡ p = omega arith in or_left (q p) (any_from (suc p) k q) (back p (subst Q e h))

  every_to : (p k : ℕ) → every_from p k q ≡ true → (r : ℕ) → p ≤ r → r < p + k → Q r
  every_to p zero h r a b = absurd (omega arith)
  every_to p (suc k) h r a b = go (dec_lt p r) (λ l. every_to (suc p) k (and_right (q p) (every_from (suc p) k q) h) r l (omega arith))
    where
      go : Dec (p < r) → (p < r → Q r) → Q r
      go (yes l) ih = ih l
      go (no n) ih = let e : p ≡ r = omega arith in subst Q e (to p (and_left (q p) (every_from (suc p) k q) h))

  to_every : (p k : ℕ) → ((r : ℕ) → p ≤ r → r < p + k → Q r) → every_from p k q ≡ true
  to_every p zero h = refl
  to_every p (suc k) h = and_from (q p) (every_from (suc p) k q) (back p (h p (omega arith) (omega arith))) (to_every (suc p) k (λ r a b. h r (omega arith) (omega arith)))

  asked_port : (p : ℕ) (n : DefNode) → of_port p n q ≡ true → (p < n.ports) × Q p
  asked_port p n h = (ltb-true p n.ports (and_left (ltb p n.ports) (q p) h), to p (and_right (ltb p n.ports) (q p) h))

  port_asked : (p : ℕ) (n : DefNode) → (p < n.ports) × Q p → of_port p n q ≡ true
  port_asked p n h = and_from (ltb p n.ports) (q p) (lt-ltb p n.ports h.0) (back p h.1)

  asked : (r : SilenceRule) (n : DefNode) → by_rule r n q ≡ true → Asked r n Q
  asked Own n h = absurd (false≢true h)
  asked AnyPort n h = let z = any_to 0 n.ports h in (z.0, omega (arith, z.2), z.3)
  asked FirstPort n h = to 0 h
  asked EveryPort n h = (
    ltb-true 0 n.ports (and_left (ltb 0 n.ports) (every_from 0 n.ports q) h),
    λ p l. every_to 0 n.ports (and_right (ltb 0 n.ports) (every_from 0 n.ports q) h) p (omega arith) (omega arith),
  )
  asked LevelPort n h = asked_port n.level_port n h
  asked AmpPort n h = asked_port n.amp_port n h
  asked InPort n h = asked_port n.in_port n h

  said : (r : SilenceRule) (n : DefNode) → Asked r n Q → by_rule r n q ≡ true
  said Own n h = absurd h
  said AnyPort n h = to_any 0 n.ports h.0 (omega arith) (omega (arith, h.1)) h.2
  said FirstPort n h = back 0 h
  said EveryPort n h = and_from (ltb 0 n.ports) (every_from 0 n.ports q) (lt-ltb 0 n.ports h.0) (to_every 0 n.ports (λ p a b. h.1 p (omega arith)))
  said LevelPort n h = port_asked n.level_port n h
  said AmpPort n h = port_asked n.amp_port n h
  said InPort n h = port_asked n.in_port n h

-- port p is connected and its source silent
abbrev Heard : List DefEdge → ℕ → (ℕ → Bool) → ℕ → Type 0
Heard es i s p = (j : ℕ) × Feeds es j i p × (s j ≡ true)

heard : (es : List DefEdge) (i : ℕ) (s : ℕ → Bool) (p : ℕ) → silent_source s (source_at (counted es) i p) ≡ true → Heard es i s p
heard es i s p h = go (source_at (counted es) i p) refl h
  where
    go : (o : Option ℕ) → source_at (counted es) i p ≡ o → silent_source s o ≡ true → Heard es i s p
    go None e k = absurd (false≢true k)
    go (Some j) e k = (j, source_feeds i p es j e, k)

unheard : (es : List DefEdge) (i : ℕ) (s : ℕ → Bool) (p : ℕ) → Heard es i s p → silent_source s (source_at (counted es) i p) ≡ true
unheard es i s p h = ap (silent_source s) (feeds_source i p es h.0 h.1) ∙ h.2

-- ---- the equation and the words
module _ (d : SynthDef) (done : List Bool) (flags : ℕ → Bool) (same : (i : ℕ) → i < length (node_rows d.nodes) → get_or done i false ≡ flags i) where
  abbrev at_port : (ℕ → Bool) → ℕ → ℕ → Bool
  at_port s i p = silent_source s (source_at (counted (edge_rows d.edges)) i p)

  words : (s : ℕ → Bool) → SilenceOf d done s → SilentBy d flags s
  words s h i n e = (forth, back)
    where
      falls : (b : Bool) → flags i ≡ b → (b || by_rule (silence_of n.kind) n (at_port s i)) ≡ true → Falls d flags s n i
      falls true k m = inl k
      falls false k m = inr (asked (at_port s i) (Heard (edge_rows d.edges) i s) (heard (edge_rows d.edges) i s) (unheard (edge_rows d.edges) i s) (silence_of n.kind) n m)

      eq : s i ≡ (flags i || by_rule (silence_of n.kind) n (at_port s i))
      eq = h i n e ∙ ap (λ b. b || by_rule (silence_of n.kind) n (at_port s i)) (same i (placed (node_rows d.nodes) i n e))

      forth : s i ≡ true → Falls d flags s n i
      forth k = falls (flags i) refl (sym eq ∙ k)

      back : Falls d flags s n i → s i ≡ true
      back (inl k) = eq ∙ or_left (flags i) (by_rule (silence_of n.kind) n (at_port s i)) k
      back (inr f) =
          eq
          ∙ or_right (flags i) (by_rule (silence_of n.kind) n (at_port s i))
          (said (at_port s i) (Heard (edge_rows d.edges) i s) (heard (edge_rows d.edges) i s) (unheard (edge_rows d.edges) i s) (silence_of n.kind) n f)

  equation : (s : ℕ → Bool) → SilentBy d flags s → SilenceOf d done s
  equation s h i n e = both (s i) (get_or done i false || by_kind (counted (edge_rows d.edges)) s n i) forth back
    where
      at : get_or done i false ≡ flags i
      at = same i (placed (node_rows d.nodes) i n e)

      forth : s i ≡ true → (get_or done i false || by_kind (counted (edge_rows d.edges)) s n i) ≡ true
      forth k = go ((h i n e).0 k)
        where
          go : Falls d flags s n i → (get_or done i false || by_kind (counted (edge_rows d.edges)) s n i) ≡ true
          go (inl f) = or_left (get_or done i false) (by_kind (counted (edge_rows d.edges)) s n i) (at ∙ f)
          go (inr f) =
              or_right (get_or done i false) (by_kind (counted (edge_rows d.edges)) s n i)
              (said (at_port s i) (Heard (edge_rows d.edges) i s) (heard (edge_rows d.edges) i s) (unheard (edge_rows d.edges) i s) (silence_of n.kind) n f)

      back : (get_or done i false || by_kind (counted (edge_rows d.edges)) s n i) ≡ true → s i ≡ true
      back k = go (get_or done i false) refl k
        where
          go : (b : Bool) → get_or done i false ≡ b → (b || by_kind (counted (edge_rows d.edges)) s n i) ≡ true → s i ≡ true
          go true m f = (h i n e).1 (inl (sym at ∙ m))
          go false m f =
              (h i n e).1
              (inr (asked (at_port s i) (Heard (edge_rows d.edges) i s) (heard (edge_rows d.edges) i s) (unheard (edge_rows d.edges) i s) (silence_of n.kind) n f))

-- ---- the done flags of a voice's nodes
flag_same : (o : Option Node) → done_flag o ≡ flag o
flag_same None = refl
flag_same (Some n) = refl

counted_up : (f : ℕ → Bool) (k i p : ℕ) → i < k → get_or (map f (count_up k p)) i false ≡ f (p + i)
unfolding count_up
counted_up f zero i p h = absurd (omega arith)
counted_up f (suc k) zero p h = let e : p ≡ p + 0 = omega arith in ap f e
counted_up f (suc k) (suc i) p h = let e : suc p + i ≡ p + suc i = omega arith in counted_up f k i (suc p) (omega arith) ∙ ap f e

module _ (d : SynthDef) (h : allowed d ≡ true) (ns : List Node) (v : Voice) (plan : v.plan ≡ plan_of d) (count : v.count ≡ length (node_rows d.nodes)) where
  flags_same : (i : ℕ) → i < length (node_rows d.nodes) → get_or (done_flags ns v) i false ≡ flag_at ns v i
  flags_same i l =
      let few : length (node_rows d.nodes) ≤ 24 = omega (arith, length-take (min d.nodes.count 24) d.nodes.rows) in
      let within : i < min v.count 24 = omega arith in
      let zero-add : 0 + i ≡ i = omega arith in
      counted_up (λ k. done_flag (node_at ns (id (v.first.0 + k)))) (min v.count 24) i 0 within
      ∙ ap (λ k. done_flag (node_at ns (id (v.first.0 + k)))) zero-add
      ∙ flag_same (node_at ns (id (v.first.0 + i)))

  one : Answers d (done_flags ns v)
  one = plan_answers d h (done_flags ns v)

  answers : PlanAnswers d ns v
  answers = record {
    silent = one.silent;
    by_rule = words d (done_flags ns v) (flag_at ns v) flags_same one.silent one.rule;
    only = λ s k i l. one.only s (equation d (done_flags ns v) (flag_at ns v) flags_same s k) i l;
    voice = ap (λ p. plan_silent p (done_flags ns v)) plan ∙ one.plan;
  }

pub plan_law : PlanLaw
plan_law d h ns v plan count = answers d h ns v plan count

pub spawned_plan : SpawnedPlan
spawned_plan x h s p m ns = answers x.def h ns (new_voice x s p m) refl refl
