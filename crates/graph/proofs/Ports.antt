-- Ports of a node as a table, one edge more: whether they have an edge, and what feeds them.
use Prim.Native.Nat.{ℕ, zero, suc, ◌+◌, ◌≤◌, ◌<◌}
use native.Mathlib.Omega.{arith}
use native.Mathlib.Decide.{ℕ_discrete}
use mathlib.Core.Path.{◌≡◌, refl, sym, ap, ◌∙◌}
use mathlib.Core.List.{List, [], ◌∷◌, ◌++◌}
use mathlib.Core.Bool.{Bool, true, false, cond, ◌&&◌, ◌||◌, and-false, or-false, false≢true}
use lib.Dec.{eqb}
use lib.ListN.{length, drop, get_or, set, length-set}
use lib.Seq.{get_or-set_same, get_or-set_other, drop-cons}
use Rattle.std.proofs.lemmas.List.{drop_all}
use borrow.Author.Tests.{eq-eqb, ne_eqb}
use Rattle.std.specs.Prelude.{Option, None, Some, find, is_some, option_map}
use Rattle.lists.proofs.Find.{find_snoc_some, find_snoc_none, find_snoc_off}
use Rattle.node.specs.declared.record.NodeId.{NodeId}
use Rattle.node.specs.declared.record.Edge.{Edge}
use Rattle.edges.specs.Wiring.{ends_at, taken}
use Rattle.edges.specs.Ports.{source_at, sources_from}
use Rattle.graph.specs.Taken.{TakenBelow, FedBelow}

or_true : (b : Bool) → (b || true) ≡ true
or_true true = refl
or_true false = refl

found_snoc : {A : Type 0} (q : A → Bool) (l : List A) (y : A) → is_some (find q (l ++ y ∷ [])) ≡ (is_some (find q l) || q y)
found_snoc q [] y = go (q y)
  where
    go : (b : Bool) → is_some (cond b (Some y) None) ≡ b
    go true = refl
    go false = refl
found_snoc q (x ∷ l) y = go (q x) (found_snoc q l y)
  where
    go : (b : Bool) → is_some (find q (l ++ y ∷ [])) ≡ (is_some (find q l) || q y) → is_some (cond b (Some x) (find q (l ++ y ∷ []))) ≡ (is_some (cond b (Some x) (find q l)) || q y)
    go true ih = refl
    go false ih = ih

module _ (top : ℕ) (es : List Edge) (n : NodeId) (e : Edge) (f : List Bool) (h : TakenBelow top es n f) where
  pub more_off : ((p : ℕ) → p < top → ends_at n p e ≡ false) → TakenBelow top (es ++ e ∷ []) n f
  more_off off = (h.0, λ p m. h.1 p m ∙ sym (found_snoc (ends_at n p) es e ∙ ap (λ b. taken es n p || b) (off p m) ∙ or-false (taken es n p)))

  pub more_hit : e.to.0 ≡ n.0 → e.port < top → TakenBelow top (es ++ e ∷ []) n (set f e.port true)
  more_hit t m = (length-set f e.port true ∙ h.0, λ p k. go p k (ℕ_discrete p e.port))
    where
      long : length f ≡ top
      long = h.0

      go : (p : ℕ) → p < top → Dec (p ≡ e.port) → get_or (set f e.port true) p false ≡ taken (es ++ e ∷ []) n p
      go p k (yes s) =
          let inside : e.port < length f = omega (arith, long, m) in
          let hit : ends_at n p e ≡ true = rw (eq-eqb _ _ t, eq-eqb e.port p (sym s)) in
          ap (λ j. get_or (set f e.port true) j false) s ∙ get_or-set_same f e.port true false inside ∙ sym (found_snoc (ends_at n p) es e ∙ ap (λ b. taken es n p || b) hit ∙ or_true (taken es n p))
      go p k (no o) =
          let off : ends_at n p e ≡ false = ap (λ b. eqb e.to.0 n.0 && b) (ne_eqb e.port p (λ z. o (sym z))) ∙ and-false (eqb e.to.0 n.0) in
          get_or-set_other f e.port p true false o ∙ h.1 p k ∙ sym (found_snoc (ends_at n p) es e ∙ ap (λ b. taken es n p || b) off ∙ or-false (taken es n p))

pub off_to : (n : NodeId) (e : Edge) {top : ℕ} → (e.to.0 ≡ n.0 → ⊥) → (p : ℕ) → p < top → ends_at n p e ≡ false
off_to n e o p m = ap (λ b. b && eqb e.port p) (ne_eqb e.to.0 n.0 o)

pub off_port : (n : NodeId) (e : Edge) {top : ℕ} → top ≤ e.port → (p : ℕ) → p < top → ends_at n p e ≡ false
off_port n e o p m = ap (λ b. eqb e.to.0 n.0 && b) (ne_eqb e.port p (λ z. omega (arith, z))) ∙ and-false (eqb e.to.0 n.0)

-- ---- what feeds each port
fed_snoc : (es : List Edge) (n : NodeId) (p : ℕ) (e : Edge) → ends_at n p e ≡ false → source_at (es ++ e ∷ []) n p ≡ source_at es n p
fed_snoc es n p e off = ap (option_map (λ (d : Edge). d.from)) (find_snoc_off (ends_at n p) es e off)

module _ (top : ℕ) (es : List Edge) (n : NodeId) (e : Edge) (f : List (Option NodeId)) (h : FedBelow top es n f) where
  pub fed_off : ((p : ℕ) → p < top → ends_at n p e ≡ false) → FedBelow top (es ++ e ∷ []) n f
  fed_off off = (h.0, λ p m. h.1 p m ∙ sym (fed_snoc es n p e (off p m)))

  other : (p : ℕ) → (p ≡ e.port → ⊥) → ends_at n p e ≡ false
  other p o = ap (λ b. eqb e.to.0 n.0 && b) (ne_eqb e.port p (λ z. o (sym z))) ∙ and-false (eqb e.to.0 n.0)

  hit : (p : ℕ) → e.to.0 ≡ n.0 → p ≡ e.port → ends_at n p e ≡ true
  hit p t s = rw (eq-eqb _ _ t, eq-eqb e.port p (sym s))

  pub fed_hit : e.to.0 ≡ n.0 → e.port < top → is_some (get_or f e.port None) ≡ false → FedBelow top (es ++ e ∷ []) n (set f e.port (Some e.from))
  fed_hit t m free = (length-set f e.port (Some e.from) ∙ h.0, λ p k. go p k (ℕ_discrete p e.port))
    where
      long : length f ≡ top
      long = h.0

      none : (o : Option Edge) → is_some (option_map (λ (d : Edge). d.from) o) ≡ false → o ≡ None
      none None b = refl
      none (Some d) b = absurd (false≢true (sym b))

      go : (p : ℕ) → p < top → Dec (p ≡ e.port) → get_or (set f e.port (Some e.from)) p None ≡ source_at (es ++ e ∷ []) n p
      go p k (yes s) =
          let inside : e.port < length f = omega (arith, long, m) in
          let empty : find (ends_at n p) es ≡ None = none _ (ap is_some (sym (h.1 p k) ∙ ap (λ j. get_or f j None) s) ∙ free) in
          ap (λ j. get_or (set f e.port (Some e.from)) j None) s ∙ get_or-set_same f e.port (Some e.from) None inside
          ∙ sym (ap (option_map (λ (d : Edge). d.from)) (find_snoc_none (ends_at n p) es e empty ∙ ap (λ b. cond b (Some e) None) (hit p t s)))
      go p k (no o) = get_or-set_other f e.port p (Some e.from) None o ∙ h.1 p k ∙ sym (fed_snoc es n p e (other p o))

  pub fed_held : e.port < top → is_some (get_or f e.port None) ≡ true → FedBelow top (es ++ e ∷ []) n f
  fed_held m held = (h.0, λ p k. h.1 p k ∙ go p k (ℕ_discrete p e.port))
    where
      same : (p : ℕ) (o : Option Edge) → find (ends_at n p) es ≡ o → is_some (option_map (λ (d : Edge). d.from) o) ≡ true
          → option_map (λ (d : Edge). d.from) o ≡ source_at (es ++ e ∷ []) n p
      same p None g b = absurd (false≢true b)
      same p (Some d) g b = ap (option_map (λ (d : Edge). d.from)) (sym (find_snoc_some (ends_at n p) es e d g))

      go : (p : ℕ) → p < top → Dec (p ≡ e.port) → source_at es n p ≡ source_at (es ++ e ∷ []) n p
      go p k (yes s) = same p (find (ends_at n p) es) refl (ap is_some (sym (h.1 p k) ∙ ap (λ j. get_or f j None) s) ∙ held)
      go p k (no o) = sym (fed_snoc es n p e (other p o))

pub fed_all : (es : List Edge) (n : NodeId) (f : List (Option NodeId)) (k i : ℕ) → i + k ≡ length f → ((p : ℕ) → p < length f → get_or f p None ≡ source_at es n p) → drop i f ≡ sources_from k es n i
unfolding sources_from
fed_all es n f zero i h each = drop_all i f (omega (arith, h))
fed_all es n f (suc k) i h each =
    let low : i < length f = omega (arith, h) in
    let next : suc i + k ≡ length f = omega (arith, h) in
    drop-cons f i None low ∙ ap (λ o. o ∷ drop (suc i) f) (each i low) ∙ ap (λ l. source_at es n i ∷ l) (fed_all es n f k (suc i) next each)
