-- What every run keeps of edges and voices, over `own`, the owner of each live node: one edge per port, both ends of each edge
-- live, and its port one of the target's where the target is a host node; voices stand by rising id, each with its feeder, on a
-- bus of the host; what a voice feeds is one port, of its own bus. (`EndInvariant` says from which node.)
use Prim.Native.Nat.{ℕ, ◌≤◌, ◌<◌}
use native.Mathlib.Omega.{arith}
use mathlib.Core.Path.{◌≡◌, refl, sym, ap, ◌∙◌, subst}
use mathlib.Core.Logic.{◌⊎◌, inl, inr, ⊎_elim}
use mathlib.Core.List.{List, [], ◌∷◌, ◌++◌, map}
use Rattle.std.specs.Prelude.{Some, find, cond}
use mathlib.Core.Bool.{Bool, true, false, not, ◌&&◌, false≢true}
use lib.Dec.{eqb}
use borrow.Author.Tests.{eqb-true, eq-eqb, not-true}
use Rattle.std.proofs.lemmas.Bool.{and_from}
use Rattle.lists.specs.Member.{In}
use Rattle.lists.proofs.Member.{and_left, and_right, in_snoc, in_map}
use Rattle.lists.proofs.Filter.{in_filter}
use Rattle.lists.specs.Find.{Once}
use Rattle.lists.proofs.Find.{find_in, none_find, find_snoc_off, find_snoc_none, find_filter_same, once_filter, once_snoc}
use Rattle.lists.specs.Rising.{RisesFrom}
use Rattle.lists.proofs.Rising.{rises_in, rises_snoc, rises_map}
use Rattle.node.specs.declared.record.NodeId.{NodeId}
use Rattle.node.specs.declared.record.Edge.{Edge}
use Rattle.edges.specs.Wiring.{ends_at, drop_at, wired}
use Rattle.voice.specs.declared.voices.Voice.{Voice}
use Rattle.voice.specs.Voice.{feeder}
use Rattle.ledger.specs.Claim.{Owners}

pub record Ends (own : Owners) (ports : ℕ → ℕ) (e : Edge) : Type 0 where
  pub a : ℕ
  pub b : ℕ
  pub from : own e.from.0 ≡ Some a
  pub to : own e.to.0 ≡ Some b
  pub range : b ≡ 0 → e.port < ports e.to.0

pub record EdgeInvariant (own : Owners) (ports : ℕ → ℕ) (es : List Edge) : Type 0 where
  pub once : (k : NodeId) (p : ℕ) → Once (ends_at k p) es
  pub ends : (e : Edge) → In e es → Ends own ports e

-- its feeder is live and its own; its id was given out; its bus was a node, and if that still lives, it is the host's
pub record Sung (own : Owners) (next given : ℕ) (v : Voice) : Type 0 where
  pub feeds : own (feeder v).0 ≡ Some v.id.0
  pub named : v.id.0 ≤ given
  pub bus : v.bus.0 < next
  pub hosted : (k : ℕ) → own v.bus.0 ≡ Some k → k ≡ 0

-- the edge leads from a node of that voice to a host node
abbrev pub Out : Owners → ℕ → Edge → Type 0
Out own i e = (own e.to.0 ≡ Some 0) × (own e.from.0 ≡ Some i)

abbrev pub FeedsBus : Owners → Voice → Edge → Type 0
FeedsBus own v e = Out own v.id.0 e → v.bus.0 ≡ e.to.0

pub record Voiced (own : Owners) (next given : ℕ) (es : List Edge) (vs : List Voice) : Type 0 where
  pub rises : RisesFrom (λ (v : Voice). v.id.0) 1 vs
  pub sung : (v : Voice) → In v vs → Sung own next given v
  pub fed : (v : Voice) → In v vs → (e : Edge) → In e es → FeedsBus own v e
  -- it feeds at most one port
  pub one : (v : Voice) → In v vs → (e d : Edge) → In e es → In d es → Out own v.id.0 e → Out own v.id.0 d → e.port ≡ d.port

pub above : {own : Owners} {next given : ℕ} {es : List Edge} {vs : List Voice} → Voiced own next given es vs → (v : Voice) → In v vs → 0 < v.id.0
above {vs = vs} g v i = rises_in (λ (v : Voice). v.id.0) 1 vs v g.rises i

-- both ends have the owners that they had
abbrev pub Same : Owners → Owners → Edge → Type 0
Same own own' e = (own' e.from.0 ≡ own e.from.0) × (own' e.to.0 ≡ own e.to.0)

pub out_back : (own own' : Owners) (i : ℕ) (e : Edge) → Same own own' e → Out own' i e → Out own i e
out_back own own' i e s o = (sym s.1 ∙ o.0, sym s.0 ∙ o.1)

-- ---- an edge is put
pub ends_at_lem : (k : NodeId) (p : ℕ) (e : Edge) → ends_at k p e ≡ true → (e.to.0 ≡ k.0) × (e.port ≡ p)
ends_at_lem k p e h = (eqb-true _ _ (and_left _ _ h), eqb-true _ _ (and_right (eqb e.to.0 k.0) _ h))

pub at_ends : (k : NodeId) (p : ℕ) (e : Edge) → e.to.0 ≡ k.0 → e.port ≡ p → ends_at k p e ≡ true
at_ends k p e a b = and_from _ _ (eq-eqb _ _ a) (eq-eqb _ _ b)

pub edge_at_lem : (es : List Edge) (k : NodeId) (p : ℕ) (e : Edge) → find (ends_at k p) es ≡ Some e → In e es × (e.to.0 ≡ k.0) × (e.port ≡ p)
edge_at_lem es k p e h = let r = find_in (ends_at k p) es e h in let t = ends_at_lem k p e r.1 in (r.0, t.0, t.1)

module _ (e : Edge) (es : List Edge) where
  abbrev away : Edge → Bool
  away d = not (ends_at e.to e.port d)

  kept_off : (k : NodeId) (p : ℕ) → ends_at k p e ≡ true → (d : Edge) → In d (drop_at es e.to e.port) → ends_at k p d ≡ false
  kept_off k p h d i =
      let t = ends_at_lem k p e h in
      let q : not (ends_at e.to e.port d) ≡ true = (in_filter away es d i).1 in
      ap (λ n. eqb d.to.0 n && eqb d.port p) (sym t.0) ∙ ap (λ n. eqb d.to.0 e.to.0 && eqb d.port n) (sym t.1) ∙ not-true _ q

  kept_on : (k : NodeId) (p : ℕ) → ends_at k p e ≡ false → (d : Edge) → ends_at k p d ≡ true → away d ≡ true
  kept_on k p h d g = go (ends_at e.to e.port d) refl
    where
      go : (b : Bool) → ends_at e.to e.port d ≡ b → not b ≡ true
      go false f = refl
      go true f =
          let x = ends_at_lem e.to e.port d f in
          let y = ends_at_lem k p d g in
          absurd (false≢true (sym h ∙ at_ends k p e (sym x.0 ∙ y.0) (sym x.1 ∙ y.1)))

  pub edge_put : (k : NodeId) (p : ℕ) → find (ends_at k p) (wired es e) ≡ cond (ends_at k p e) (Some e) (find (ends_at k p) es)
  edge_put k p = go (ends_at k p e) refl
    where
      go : (b : Bool) → ends_at k p e ≡ b → find (ends_at k p) (wired es e) ≡ cond b (Some e) (find (ends_at k p) es)
      go true h =
          find_snoc_none (ends_at k p) (drop_at es e.to e.port) e (none_find (ends_at k p) (drop_at es e.to e.port) (kept_off k p h)) ∙ rw h
      go false h =
          find_snoc_off (ends_at k p) (drop_at es e.to e.port) e h ∙ find_filter_same (ends_at k p) away (kept_on k p h) es

  -- an edge of the new list is an old one, which ends elsewhere, or the new one
  pub in_put : (d : Edge) → In d (wired es e) → (In d es × (away d ≡ true)) ⊎ (d ≡ e)
  in_put d i = ⊎_elim (λ j. inl (in_filter away es d j)) inr (in_snoc (drop_at es e.to e.port) e d i)

  pub wired_put : {own : Owners} {ports : ℕ → ℕ} → EdgeInvariant own ports es → Ends own ports e → EdgeInvariant own ports (wired es e)
  wired_put {own} {ports} w g =
      record {
        once = λ k p.
            once_snoc (ends_at k p) (drop_at es e.to e.port) e (once_filter (ends_at k p) away es (w.once k p))
            (λ h. none_find (ends_at k p) (drop_at es e.to e.port) (kept_off k p h));
        ends = λ d i. ⊎_elim (λ j. w.ends d j.0) (λ s. subst (Ends own ports) (sym s) g) (in_put d i);
      }

  pub voiced_put : {own : Owners} {nx nv : ℕ} {vs : List Voice} → Voiced own nx nv es vs → ((v : Voice) → In v vs → FeedsBus own v e)
      → ((v : Voice) → In v vs → (d : Edge) → In d es → away d ≡ true → Out own v.id.0 e → Out own v.id.0 d → ⊥)
      → Voiced own nx nv (wired es e) vs
  voiced_put {own} {nx} {nv} {vs} g f other =
      record {
        rises = g.rises;
        sung = g.sung;
        fed = λ v i d j. ⊎_elim (λ k. g.fed v i d k.0) (λ s. subst (FeedsBus own v) (sym s) (f v i)) (in_put d j);
        one = λ v i d u a b. two v i d u (in_put d a) (in_put u b);
      }
    where
      Either : Edge → Type 0
      Either d = (In d es × (away d ≡ true)) ⊎ (d ≡ e)

      two : (v : Voice) → In v vs → (d u : Edge) → Either d → Either u → Out own v.id.0 d → Out own v.id.0 u → d.port ≡ u.port
      two v i d u (inl a) (inl b) x y = g.one v i d u a.0 b.0 x y
      two v i d u (inl a) (inr q) x y = absurd (other v i d a.0 a.1 (subst (Out own v.id.0) q y) x)
      two v i d u (inr q) (inl b) x y = absurd (other v i u b.0 b.1 (subst (Out own v.id.0) q x) y)
      two v i d u (inr q) (inr z) x y = ap (λ (w : Edge). w.port) (q ∙ sym z)

-- ---- nodes come and go, edges and voices go
pub wired_move : {own own' : Owners} {ports ports' : ℕ → ℕ} {es es' : List Edge} → ((k : NodeId) (p : ℕ) → Once (ends_at k p) es') → ((e : Edge) → In e es' → In e es)
    → ((e : Edge) → In e es' → Same own own' e × (ports' e.to.0 ≡ ports e.to.0)) → EdgeInvariant own ports es → EdgeInvariant own' ports' es'
wired_move {own} {own'} {ports} {ports'} once sub same w =
    record {
      once = once;
      ends = λ e i.
          let g = w.ends e (sub e i) in
          let s = same e i in
          record { a = g.a; b = g.b; from = s.0.0 ∙ g.from; to = s.0.1 ∙ g.to; range = λ z. subst (λ n. e.port < n) (sym s.1) (g.range z) };
    }

pub voiced_move : {own own' : Owners} {nx nx' nv nv' : ℕ} {es es' : List Edge} {vs vs' : List Voice} → nx ≤ nx' → nv ≤ nv' → RisesFrom (λ (v : Voice). v.id.0) 1 vs'
    → ((v : Voice) → In v vs' → In v vs) → ((e : Edge) → In e es' → In e es) → ((e : Edge) → In e es' → Same own own' e)
    → ((v : Voice) → In v vs' → own' (feeder v).0 ≡ own (feeder v).0) → ((v : Voice) → In v vs' → (k : ℕ) → own' v.bus.0 ≡ Some k → own v.bus.0 ≡ Some k)
    → Voiced own nx nv es vs → Voiced own' nx' nv' es' vs'
voiced_move {own} {own'} up more rises sub sube same feeds bus g =
    record {
      rises = rises;
      sung = λ v i.
          let s = g.sung v (sub v i) in
          record { feeds = feeds v i ∙ s.feeds; named = omega (arith, s.named); bus = omega (arith, s.bus); hosted = λ k h. s.hosted k (bus v i k h) };
      fed = λ v i e j o. g.fed v (sub v i) e (sube e j) (out_back own own' v.id.0 e (same e j) o);
      one = λ v i e d a b x y.
          g.one v (sub v i) e d (sube e a) (sube d b) (out_back own own' v.id.0 e (same e a) x) (out_back own own' v.id.0 d (same d b) y);
    }

-- ---- a change of the voices that leaves id, feeder and bus
pub voiced_map : {own : Owners} {nx nv : ℕ} {es : List Edge} {vs : List Voice} (f : Voice → Voice) → ((v : Voice) → (f v).id.0 ≡ v.id.0)
    → ((v : Voice) → (feeder (f v)).0 ≡ (feeder v).0) → ((v : Voice) → (f v).bus.0 ≡ v.bus.0) → Voiced own nx nv es vs → Voiced own nx nv es (map f vs)
voiced_map {own} {nx} {nv} {es} {vs} f fi ff fb g =
    record {
      rises = rises_map (λ (v : Voice). v.id.0) f fi 1 vs g.rises;
      sung = λ v i. let r = in_map f vs v i in subst (Sung own nx nv) (sym r.2) (sung' r.0 (g.sung r.0 r.1));
      fed = λ v i e j. let r = in_map f vs v i in subst (λ u. FeedsBus own u e) (sym r.2) (fed' r.0 e (g.fed r.0 r.1 e j));
      one = λ v i e d a b x y.
          let r = in_map f vs v i in
          let same : v.id.0 ≡ r.0.id.0 = ap (λ (z : Voice). z.id.0) r.2 ∙ fi r.0 in
          g.one r.0 r.1 e d a b (subst (λ k. Out own k e) same x) (subst (λ k. Out own k d) same y);
    }
  where
    sung' : (v : Voice) → Sung own nx nv v → Sung own nx nv (f v)
    sung' v s =
        record {
          feeds = ap own (ff v) ∙ s.feeds ∙ ap Some (sym (fi v));
          named = subst (λ n. n ≤ nv) (sym (fi v)) s.named;
          bus = subst (λ n. n < nx) (sym (fb v)) s.bus;
          hosted = λ k h. s.hosted k (sym (ap own (fb v)) ∙ h);
        }

    fed' : (v : Voice) (e : Edge) → FeedsBus own v e → FeedsBus own (f v) e
    fed' v e h o = fb v ∙ h (o.0, o.1 ∙ ap Some (fi v))

-- ---- a voice more
pub voiced_snoc : {own : Owners} {nx nv : ℕ} {es : List Edge} {vs : List Voice} (v : Voice) → Voiced own nx nv es vs → Sung own nx nv v
    → ((u : Voice) → In u vs → u.id.0 < v.id.0) → 0 < v.id.0 → ((e : Edge) → In e es → Out own v.id.0 e → ⊥) → Voiced own nx nv es (vs ++ (v ∷ []))
voiced_snoc {own} {nx} {nv} {es} {vs} v g s last pos off =
    record {
      rises = rises_snoc (λ (v : Voice). v.id.0) 1 vs v g.rises pos last;
      sung = λ u i. ⊎_elim (g.sung u) (λ p. subst (Sung own nx nv) (sym p) s) (in_snoc vs v u i);
      fed = λ u i e j o. ⊎_elim (λ k. g.fed u k e j o) (λ p. absurd (off e j (subst (λ (z : Voice). Out own z.id.0 e) p o))) (in_snoc vs v u i);
      one = λ u i e d a b x y. ⊎_elim (λ k. g.one u k e d a b x y) (λ p. absurd (off e a (subst (λ (z : Voice). Out own z.id.0 e) p x))) (in_snoc vs v u i);
    }
