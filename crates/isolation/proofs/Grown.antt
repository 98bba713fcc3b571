-- Nodes are appended: the old ones stay, the host's ports stay where the new ones are a voice's, and the new ones are found.
use Prim.Native.Nat.{ℕ, zero, suc, ◌+◌, ◌≤◌, ◌<◌}
use native.Mathlib.Omega.{arith}
use mathlib.Core.Path.{◌≡◌, refl, ap, ◌∙◌, subst}
use mathlib.Core.Logic.{inl, inr, ⊎_elim}
use mathlib.Core.List.{List, [], ◌∷◌, ◌++◌}
use Rattle.std.specs.Prelude.{Option, None, Some, cond}
use mathlib.Core.Bool.{Bool, true, false}
use lib.ListN.{length}
use lib.Ieee.{Float}
use borrow.Author.Tests.{eqb-true, eq-eqb, ne_eqb}
use Rattle.lists.specs.Member.{In}
use Rattle.lists.proofs.Member.{in_snoc}
use Rattle.lists.specs.Find.{Once}
use Rattle.lists.proofs.Find.{none_find, find_snoc_off, find_snoc_some, find_snoc_none, once_snoc}
use Rattle.node.specs.declared.record.NodeId.{NodeId}
use Rattle.node.specs.declared.record.Node.{Node}
use Rattle.graph.specs.View.{GraphView}
use Rattle.graph.specs.Node.{is_node, node_at}
use Rattle.node.specs.Node.{with_id}
use Rattle.graph.specs.Change as change
use Rattle.voice.specs.declared.voices.Voice.{Voice}
use Rattle.voice.specs.Voice.{id}
use Rattle.model.specs.Voice.{node_level}
use Rattle.model.specs.Spawn.{append_all}
use Rattle.model.specs.Clear.{done_flag}
use Rattle.isolation.proofs.Part.{host_ports, ports_now, Same}

abbrev pub Below : List Node → ℕ → Type 0
Below ns next = (x : Node) → In x ns → x.id.0 < next

-- ---- one node
module _ (ns : List Node) (next : ℕ) (x : Node) where
  abbrev more : List Node
  more = ns ++ (with_id next x ∷ [])

  pub old_node : (k : ℕ) → k < next → node_at more (id k) ≡ node_at ns (id k)
  old_node k h = find_snoc_off (is_node (id k)) ns (with_id next x) (ne_eqb next k (λ q. omega arith))

  pub new_node : Below ns next → node_at more (id next) ≡ Some (with_id next x)
  new_node b = find_snoc_none (is_node (id next)) ns (with_id next x) (none_find (is_node (id next)) ns (λ y i. ne_eqb y.id.0 next (λ e. omega (arith, e, b y i)))) ∙ rw (eq-eqb next next refl)

  pub ports_one : 0 < x.owner.0 → (b : NodeId) → ports_now b more ≡ ports_now b ns
  ports_one pos b = go (node_at ns b) refl
    where
      mine : (c : Bool) → host_ports (cond c (Some (with_id next x)) None) ≡ None
      mine false = refl
      mine true = rw (ne_eqb x.owner.0 0 (λ e. omega arith))

      go : (o : Option Node) → node_at ns b ≡ o → ports_now b more ≡ host_ports o
      go (Some y) e = ap host_ports (find_snoc_some (is_node b) ns (with_id next x) y e)
      go None e = ap host_ports (find_snoc_none (is_node b) ns (with_id next x) e) ∙ mine (is_node b (with_id next x))

  pub below_one : Below ns next → Below more (next + 1)
  below_one b y i = ⊎_elim (λ j. omega (arith, b y j)) (λ e. let z : y.id.0 ≡ next = ap (λ (n : Node). n.id.0) e in omega arith) (in_snoc ns (with_id next x) y i)

  pub once_one : Below ns next → ((k : NodeId) → Once (is_node k) ns) → (k : NodeId) → Once (is_node k) more
  once_one b o k = once_snoc (is_node k) ns (with_id next x) (o k) (λ h. none_find (is_node k) ns (λ y i. ne_eqb y.id.0 k.0 (λ e. let z : next ≡ k.0 = eqb-true _ _ h in omega (arith, e, z, b y i))))

-- ---- many
pub old_nodes : (xs : List Node) (g : GraphView) (k : ℕ) → k < g.next → node_at (append_all g xs).nodes (id k) ≡ node_at g.nodes (id k)
old_nodes [] g k h = refl
old_nodes (x ∷ xs) g k h = old_nodes xs (change.append g x) k (omega arith) ∙ old_node g.nodes g.next x k h

pub ports_all : (xs : List Node) (g : GraphView) → ((x : Node) → In x xs → 0 < x.owner.0) → (b : NodeId) → ports_now b (append_all g xs).nodes ≡ ports_now b g.nodes
ports_all [] g own b = refl
ports_all (x ∷ xs) g own b = ports_all xs (change.append g x) (λ y i. own y (inr i)) b ∙ ports_one g.nodes g.next x (own x (inl refl)) b

pub once_all : (xs : List Node) (g : GraphView) → Below g.nodes g.next → ((k : NodeId) → Once (is_node k) g.nodes) → (k : NodeId) → Once (is_node k) (append_all g xs).nodes
once_all [] g b o = o
once_all (x ∷ xs) g b o = once_all xs (change.append g x) (below_one g.nodes g.next x b) (once_one g.nodes g.next x b o)

pub new_nodes : (f : Float) (xs : List Node) (g : GraphView) → Below g.nodes g.next → ((x : Node) → In x xs → (x.level ≡ f) × (x.done ≡ false)) → (i : ℕ) → i < length xs
    → (node_level (node_at (append_all g xs).nodes (id (g.next + i))) ≡ Some f) × (done_flag (node_at (append_all g xs).nodes (id (g.next + i))) ≡ false)
new_nodes f [] g b all i h = absurd (omega arith)
new_nodes f (x ∷ xs) g b all zero h =
    let z : g.next + 0 ≡ g.next = omega arith in
    let e : node_at (append_all g (x ∷ xs)).nodes (id (g.next + 0)) ≡ Some (with_id g.next x) =
    ap (λ k. node_at (append_all g (x ∷ xs)).nodes (id k)) z ∙ old_nodes xs (change.append g x) g.next (omega arith) ∙ new_node g.nodes g.next x b in
    (ap node_level e ∙ ap Some (all x (inl refl)).0, ap done_flag e ∙ (all x (inl refl)).1)
new_nodes f (x ∷ xs) g b all (suc i) h =
    let z : g.next + 1 + i ≡ g.next + suc i = omega arith in
    subst (λ k. (node_level (node_at (append_all g (x ∷ xs)).nodes (id k)) ≡ Some f) × (done_flag (node_at (append_all g (x ∷ xs)).nodes (id k)) ≡ false)) z
    (new_nodes f xs (change.append g x) (below_one g.nodes g.next x b) (λ y j. all y (inr j)) i (omega arith))

pub same_nodes : (ns ns' : List Node) (v : Voice) (next : ℕ) → ((k : ℕ) → k < next → node_at ns' (id k) ≡ node_at ns (id k)) → v.first.0 + v.count ≤ next → Same ns ns' v
same_nodes ns ns' v next h p k a b = let e = h k (omega arith) in (ap node_level e, ap done_flag e)
