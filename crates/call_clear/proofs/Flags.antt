-- The walk over the nodes that gathers done flags, from the last node to the first: a flag by the nodes from row i on.
use Prim.Native.Nat.{ℕ, zero, suc, ◌+◌, ◌-◌, ◌/◌, ◌≤◌, ◌<◌, min}
use native.Mathlib.Omega.{arith}
use native.Mathlib.Decide.{ℕ_discrete}
use mathlib.Core.Path.{◌≡◌, refl, sym, ap, ◌∙◌}
use mathlib.Core.List.{List, [], ◌∷◌, map}
use mathlib.Core.Bool.{Bool, true, false, cond, ◌||◌}
use Rattle.lists.proofs.Member.{cond_same}
use Rattle.std.specs.Prelude.{Option, None, Some, find, is_some}
use Rattle.std.specs.List.{list_any, range_with_len}
use lib.Dec.{ltb}
use lib.ListN.{length, take, drop, get_or, set, replicate, length-set, length-take, drop_of_length-le, get_or-eq_default}
use lib.Seq.{get_or-take, get_or-set_same, get_or-set_other}
use borrow.Author.Tests.{lt-ltb, ltb-true, ltb-false, eq-eqb, ne_eqb}
use Rattle.std.proofs.lemmas.List.{drop_more}
use Rattle.lists.proofs.Table.{left_row, find_over}
use Rattle.lists.proofs.Find.{find_in, find_none}
use Rattle.node.specs.declared.record.Node.{Node}
use Rattle.rank.specs.Order.{count_up}
use Rattle.graph.specs.Node.{node_at}
use Rattle.words.proofs.InWords.{take_count}
use Rattle.words.proofs.Place.{counted}
use Rattle.words.proofs.Rows.{rows_long}
use Rattle.graph_rows.specs.Node.{node_of, nodes_in}
use Rattle.synthdef.specs.Plan.{plan_silent}
use Rattle.synthdef.proofs.PassLaws.{silent_flags}
use Rattle.voice.specs.declared.voices.Voice.{Voice}
use Rattle.voice.specs.Voice.{id}
use Rattle.model.specs.Clear.{done_flag, done_flags, is_silent}
use Rattle.call_clear.specs.Flags.{flag_at, FlagsAre, any_done}

-- ---- one node more in front
module _ (first count : ℕ) (x : Node) (l : List Node) where
  abbrev with_x : Bool → ℕ → Bool
  with_x b j = done_flag (cond b (Some x) (node_at l (id (first + j))))

  -- it has the place j
  here : (j : ℕ) → x.id.0 ≡ first + j → j < min count 24 → flag_at (x ∷ l) first count j ≡ x.done
  here j e h = ap (λ b. cond b (done_flag (node_at (x ∷ l) (id (first + j)))) false) (lt-ltb j (min count 24) h) ∙ ap (λ b. with_x b j) (eq-eqb x.id.0 (first + j) e)

  -- it has not
  elsewhere : (j : ℕ) → (j < min count 24 → x.id.0 ≡ first + j → ⊥) → flag_at (x ∷ l) first count j ≡ flag_at l first count j
  elsewhere j not = go (ltb j (min count 24)) refl
    where
      go : (b : Bool) → ltb j (min count 24) ≡ b → cond b (done_flag (node_at (x ∷ l) (id (first + j)))) false ≡ cond b (done_flag (node_at l (id (first + j)))) false
      go true t = ap (λ b. with_x b j) (ne_eqb x.id.0 (first + j) (not (ltb-true j (min count 24) t)))
      go false t = refl

  module _ (flags : List Bool) (old : FlagsAre l first count flags) where
    front_take : (p : ℕ) → x.id.0 ≡ first + p → p < min count 24 → FlagsAre (x ∷ l) first count (set flags p x.done)
    front_take p is h = record { long = length-set flags p x.done ∙ old.long; is = λ j. go j (ℕ_discrete j p) }
      where
        go : (j : ℕ) → Dec (j ≡ p) → get_or (set flags p x.done) j false ≡ flag_at (x ∷ l) first count j
        go j (yes e) =
            let inside : p < length flags = omega (arith, old.long) in
            ap (λ k. get_or (set flags p x.done) k false) e ∙ get_or-set_same flags p x.done false inside ∙ sym (here p is h) ∙ ap (flag_at (x ∷ l) first count) (sym e)
        go j (no e) =
            get_or-set_other flags p j x.done false e
            ∙ old.is j
            ∙ sym (elsewhere j (λ b f. let same : j ≡ p = omega (arith, is, f) in e same))

    front_pass : ((j : ℕ) → j < min count 24 → x.id.0 ≡ first + j → ⊥) → FlagsAre (x ∷ l) first count flags
    front_pass not = record { long = old.long; is = λ j. old.is j ∙ sym (elsewhere j (not j)) }

-- ---- no node yet
clear_past : (k j : ℕ) → get_or (replicate k false) j false ≡ false
clear_past zero j = refl
clear_past (suc k) zero = refl
clear_past (suc k) (suc j) = clear_past k j

none_yet : (first count : ℕ) → FlagsAre [] first count (replicate 24 false)
none_yet first count = record { long = refl; is = λ j. clear_past 24 j ∙ sym (cond_same (ltb j (min count 24)) false) }

-- ---- no node is done
module _ (ns : List Node) (nobody : any_done ns ≡ false) where
  all_clear : find (λ (n : Node). n.done) ns ≡ None
  all_clear = go (find (λ (n : Node). n.done) ns) nobody
    where
      go : (o : Option Node) → is_some o ≡ false → o ≡ None
      go None e = refl
      go (Some x) e = let z : ◌≡◌ {A = ℕ} 1 0 = ap (λ b. cond b 1 0) e in absurd (omega arith)

  clear_at : (first j : ℕ) → done_flag (node_at ns (id (first + j))) ≡ false
  clear_at first j = go (node_at ns (id (first + j))) refl
    where
      go : (o : Option Node) → node_at ns (id (first + j)) ≡ o → done_flag o ≡ false
      go None e = refl
      go (Some x) e = find_none (λ (n : Node). n.done) ns x all_clear (find_in _ ns x e).0

  pub none_done : (first count : ℕ) → FlagsAre ns first count (replicate 24 false)
  none_done first count = record { long = refl; is = λ j. clear_past 24 j ∙ sym (go j (ltb j (min count 24))) }
    where
      go : (j : ℕ) (b : Bool) → cond b (done_flag (node_at ns (id (first + j)))) false ≡ false
      go j true = clear_at first j
      go j false = refl

-- ---- any of the rows' numbers stands for a node that is done
module _ (c : List ℕ) (n top : ℕ) (e : top ≡ min n (length c / 22)) where
  abbrev pub done_row : ℕ → Bool
  done_row i = (get_or (nodes_in c) i (node_of [])).done

  abbrev rest : ℕ → List Node
  rest i = drop i (take top (nodes_in c))

  any_left : (m i : ℕ) → i + m ≡ top → list_any done_row (range_with_len i m) ≡ any_done (rest i)
  any_left zero i h = sym (ap is_some (find_over (λ (x : Node). x.done) (nodes_in c) top i (omega (arith, h)) (omega (arith, e, rows_long 22 node_of c))))
  any_left (suc m) i h =
      let x = get_or (nodes_in c) i (node_of []) in
      go x.done x (any_left m (i + 1) (omega (arith, h)))
      ∙ sym (ap any_done (left_row (node_of []) (nodes_in c) top i (omega (arith, h)) (omega (arith, e, rows_long 22 node_of c))))
    where
      go : (b : Bool) (x : Node) → list_any done_row (range_with_len (i + 1) m) ≡ any_done (rest (i + 1))
          → (b || list_any done_row (range_with_len (i + 1) m)) ≡ is_some (cond b (Some x) (find (λ (x : Node). x.done) (rest (i + 1))))
      go true x ih = refl
      go false x ih = ih

  pub any_row : list_any done_row (range_with_len 0 top) ≡ any_done (take n (nodes_in c))
  any_row = let start : 0 + top ≡ top = omega arith in any_left top 0 start ∙ ap any_done (take_count 22 node_of c n top e)

-- ---- the walk over the words: the flags by the nodes from row i on
pub record FlagsFrom (c : List ℕ) (n first count i : ℕ) (flags : List Bool) : Type 0 where
  pub within : i ≤ length (take n (nodes_in c))
  pub are : FlagsAre (drop i (take n (nodes_in c))) first count flags

module _ (c : List ℕ) (n first count : ℕ) where
  abbrev ns : List Node
  ns = take n (nodes_in c)

  pub flags_start : (top : ℕ) → top ≡ min n (length c / 22) → FlagsFrom c n first count top (replicate 24 false)
  flags_start top e =
      let long : length ns ≡ top = counted 22 node_of c n top e in
      let past : length ns ≤ top = omega arith in
      record { within = omega arith; are = rw (drop_of_length-le ns past) (none_yet first count) }

  module _ (i : ℕ) (flags : List Bool) (more : 0 < i) (inv : FlagsFrom c n first count i flags) where
    abbrev x : Node
    x = get_or (nodes_in c) (i - 1) (node_of [])

    next : drop (i - 1) ns ≡ x ∷ drop i ns
    next =
        let inside : i - 1 < length ns = omega (arith, inv.within) in
        let below : i - 1 < n = omega (arith, inv.within, length-take n (nodes_in c)) in
        let on : i - 1 + 1 ≡ i = omega arith in
        drop_more ns (i - 1) (node_of []) inside
        ∙ ap (λ y. y ∷ drop (i - 1 + 1) ns) (get_or-take n (nodes_in c) (i - 1) (node_of []) below)
        ∙ ap (λ k. x ∷ drop k ns) on

    pub flags_take : (p : ℕ) → x.id.0 ≡ first + p → p < min count 24 → FlagsFrom c n first count (i - 1) (set flags p x.done)
    flags_take p is h = record { within = omega (arith, inv.within); are = rw next (front_take first count x (drop i ns) flags inv.are p is h) }

    pub flags_pass : ((j : ℕ) → j < min count 24 → x.id.0 ≡ first + j → ⊥) → FlagsFrom c n first count (i - 1) flags
    flags_pass not = record { within = omega (arith, inv.within); are = rw next (front_pass first count x (drop i ns) flags inv.are not) }

-- ---- a plan looks at the flags by their places
counted_at : {A : Type 0} (f : ℕ → A) (d : A) (n k i : ℕ) → i < n → get_or (map f (count_up n k)) i d ≡ f (k + i)
unfolding count_up
counted_at f d zero k i h = absurd (omega arith)
counted_at f d (suc n) k zero h = let e : k ≡ k + 0 = omega arith in ap f e
counted_at f d (suc n) k (suc i) h =
    let below : i < n = omega arith in
    let e : suc k + i ≡ k + suc i = omega arith in
    counted_at f d n (suc k) i below ∙ ap f e

counted_long : {A : Type 0} (f : ℕ → A) (n k : ℕ) → length (map f (count_up n k)) ≡ n
unfolding count_up
counted_long f zero k = refl
counted_long f (suc n) k = ap suc (counted_long f n (suc k))

module _ (ns : List Node) (v : Voice) where
  flag_of : ℕ → Bool
  flag_of j = done_flag (node_at ns (id (v.first.0 + j)))

  same : (j : ℕ) → get_or (done_flags ns v) j false ≡ flag_at ns v.first.0 v.count j
  unfolding flag_of
  same j = go (ltb j (min v.count 24)) refl
    where
      go : (b : Bool) → ltb j (min v.count 24) ≡ b → get_or (done_flags ns v) j false ≡ cond b (flag_of j) false
      go true t = let zero-on : 0 + j ≡ j = omega arith in counted_at flag_of false (min v.count 24) 0 j (ltb-true j (min v.count 24) t) ∙ ap flag_of zero-on
      go false t =
          let past : length (done_flags ns v) ≤ j = omega (arith, counted_long flag_of (min v.count 24) 0, ltb-false j (min v.count 24) t) in
          get_or-eq_default (done_flags ns v) false past

  pub silent_by : (flags : List Bool) → FlagsAre ns v.first.0 v.count flags → plan_silent v.plan flags ≡ is_silent ns v
  silent_by flags h = silent_flags flags (done_flags ns v) (λ j. h.is j ∙ sym (same j)) v.plan
