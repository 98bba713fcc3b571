-- Connecting (SPEC 4.3): dropping the edge at a port makes a place if there was one.
use Prim.Native.Nat.{ℕ, ◌+◌, ◌≤◌, ◌<◌}
use native.Mathlib.Omega.{arith}
use mathlib.Core.Path.{◌≡◌, refl, sym, ap, ◌∙◌}
use mathlib.Core.List.{List, [], ◌∷◌, ◌++◌}
use Rattle.std.specs.Prelude.{Option, None, Some, find, is_some}
use mathlib.Core.Bool.{Bool, true, false, not, cond, ◌&&◌, and-false, and-true}
use lib.Dec.{leb}
use lib.ListN.{length}
use borrow.Author.Tests.{le-leb, lt-leb, leb-false}
use Rattle.std.proofs.lemmas.List.{length_push}
use Rattle.lists.proofs.Filter.{filter_all, length_filter}
use Rattle.lists.proofs.Find.{find_in, find_none}
use Rattle.lists.proofs.Count.{count_filter_lt, count_all}
use Rattle.node.specs.declared.record.NodeId.{NodeId}
use Rattle.node.specs.declared.record.Edge.{Edge}
use Rattle.edges.specs.Wiring.{ends_at, taken, drop_at, no_place, put, wired, pushed}
use Rattle.edges.proofs.Loops.{pushed_on}

-- with an edge at the port, dropping it leaves fewer; without one, all
pub drop_fewer : (es : List Edge) (n : NodeId) (p : ℕ) → taken es n p ≡ true → length (drop_at es n p) < length es
drop_fewer es n p h = go (find (ends_at n p) es) refl h
  where
    go : (o : Option Edge) → find (ends_at n p) es ≡ o → is_some o ≡ true → length (drop_at es n p) < length es
    go None e t = absurd (let z : ◌≡◌ {A = ℕ} 0 1 = cc in omega arith)
    go (Some x) e t =
        let i = find_in (ends_at n p) es x e in
        let fewer = count_filter_lt (λ y. true) (λ y. not (ends_at n p y)) es x i.0 refl (ap not i.1) in
        omega (arith, fewer, count_all es, count_all (drop_at es n p))

-- connecting adds one edge at most
pub length_wired : (es : List Edge) (e : Edge) → length (wired es e) ≤ length es + 1
length_wired es e = omega (arith, length_push (drop_at es e.to e.port) e, length_filter (λ d. not (ends_at e.to e.port d)) es)

pub drop_none : (es : List Edge) (n : NodeId) (p : ℕ) → taken es n p ≡ false → drop_at es n p ≡ es
drop_none es n p h = go (find (ends_at n p) es) refl h
  where
    go : (o : Option Edge) → find (ends_at n p) es ≡ o → is_some o ≡ false → drop_at es n p ≡ es
    go None e t = filter_all (λ y. not (ends_at n p y)) es (λ x i. ap not (find_none (ends_at n p) es x e i))
    go (Some x) e t = absurd (let z : ◌≡◌ {A = ℕ} 0 1 = cc in omega arith)

-- so there is no place exactly where none is left after dropping
pub place_left : (es : List Edge) (n : NodeId) (p : ℕ) → length es ≤ 1024 → leb 1024 (length (drop_at es n p)) ≡ no_place es n p
place_left es n p h = go (taken es n p) refl
  where
    go : (b : Bool) → taken es n p ≡ b → leb 1024 (length (drop_at es n p)) ≡ (leb 1024 (length es) && not b)
    go true e =
        let fewer : length (drop_at es n p) < 1024 = omega (arith, h, drop_fewer es n p e) in
        lt-leb _ _ fewer ∙ sym (and-false (leb 1024 (length es)))
    go false e = ap (λ l. leb 1024 (length l)) (drop_none es n p e) ∙ sym (and-true (leb 1024 (length es)))

module _ (es d : List Edge) (e : Edge) (small : length es ≤ 1024) (dropped : d ≡ drop_at es e.to e.port) where
  pub left : leb 1024 (length d) ≡ no_place es e.to e.port
  left = ap (λ l. leb 1024 (length l)) dropped ∙ place_left es e.to e.port small

  pub wired_room : leb 1024 (length d) ≡ false → pushed 1024 d e ≡ wired es e
  wired_room h =
      let room : length d < 1024 = leb-false _ _ h in
      pushed_on 1024 d e room ∙ ap (λ l. l ++ (e ∷ [])) dropped

  pub put_room : length d < 1024 → pushed 1024 d e ≡ put es e
  put_room h =
      wired_room (lt-leb _ _ h) ∙ ap (λ b. cond b es (wired es e)) (sym (lt-leb _ _ h) ∙ left)

  pub put_full : 1024 ≤ length d → es ≡ put es e
  put_full h = ap (λ b. cond b es (wired es e)) (sym (le-leb _ _ h) ∙ left)
