-- Names in words: they are the same exactly if their lengths are and, word by word, the bytes that count.
use Prim.Native.Nat.{ℕ, zero, suc, ◌-◌, ◌%◌, min}
use native.Mathlib.Omega.{arith}
use mathlib.Core.Path.{◌≡◌, refl, sym, ap, ◌∙◌}
use mathlib.Core.List.{List, [], ◌∷◌, ◌++◌}
use mathlib.Core.Bool.{Bool, true, false, ◌&&◌, and_assoc}
use lib.Dec.{eqb}
use lib.ListN.{length, take, length-take}
use Rattle.node.specs.Name.{name_length, named, text, same_bytes, same_name}
use Rattle.node.specs.declared.name.Name.{Name}
use Rattle.node.proofs.NameLaws.{name_long, same_to}
use Rattle.words.specs.Fields.{four, name_from}
use Rattle.event_table.specs.Key.{same_four}

-- ---- word by word
same_append : (a b l m : List ℕ) → length a ≡ length b → (n : ℕ)
    → same_bytes (take n (a ++ l)) (take n (b ++ m)) ≡ (same_bytes (take n a) (take n b) && same_bytes (take (n - length a) l) (take (n - length a) m))
same_append [] [] l m h n =
    let k : n - 0 ≡ n = omega arith in
    sym (ap (λ j. same_bytes (take j l) (take j m)) k) ∙ go n
  where
    go : (j : ℕ) → same_bytes (take (n - 0) l) (take (n - 0) m) ≡ (same_bytes (take j []) (take j []) && same_bytes (take (n - 0) l) (take (n - 0) m))
    go zero = refl
    go (suc j) = refl
same_append [] (y ∷ b) l m h n = absurd (omega arith)
same_append (x ∷ a) [] l m h n = absurd (omega arith)
same_append (x ∷ a) (y ∷ b) l m h zero = let k : 0 - suc (length a) ≡ 0 = omega arith in rw k
same_append (x ∷ a) (y ∷ b) l m h (suc n) =
    let same : length a ≡ length b = omega arith in
    let k : suc n - suc (length a) ≡ n - length a = omega arith in
    ap (λ z. eqb x y && z) (same_append a b l m same n)
    ∙ sym (and_assoc (eqb x y) (same_bytes (take n a) (take n b)) (same_bytes (take (n - length a) l) (take (n - length a) m)))
    ∙ sym (ap (λ j. (eqb x y && same_bytes (take n a) (take n b)) && same_bytes (take j l) (take j m)) k)

module _ (a b c d x y z w n : ℕ) where
  pub sixteen : same_bytes (take n (four a ++ four b ++ four c ++ four d)) (take n (four x ++ four y ++ four z ++ four w))
      ≡ (same_four n a x && (same_four (n - 4) b y && (same_four (n - 8) c z && same_four (n - 12) d w)))
  sixteen =
      let p : n - 4 - 4 ≡ n - 8 = omega arith in
      let q : n - 8 - 4 ≡ n - 12 = omega arith in
      same_append (four a) (four x) (four b ++ four c ++ four d) (four y ++ four z ++ four w) refl n
      ∙ ap (λ r. same_four n a x && r)
      (same_append (four b) (four y) (four c ++ four d) (four z ++ four w) refl (n - 4)
      ∙ ap (λ r. same_four (n - 4) b y && r)
      (ap (λ j. same_bytes (take j (four c ++ four d)) (take j (four z ++ four w))) p
      ∙ same_append (four c) (four z) (four d) (four w) refl (n - 8) ∙ ap (λ j. same_four (n - 8) c z && same_four j d w) q))

-- ---- a name, and one in words
module _ (m : Name) (a b c d : ℕ) (is : four a ++ four b ++ four c ++ four d ≡ m.bytes) (x y z w len : ℕ) where
  pub names_off : name_length m.len ≡ false → false ≡ same_name m (name_from x y z w len)
  names_off h = sym (ap (λ r. r && (named (name_from x y z w len) && same_bytes (text m) (text (name_from x y z w len)))) h)

  pub names_apart : (len % 256 ≡ m.len → ⊥) → false ≡ same_name m (name_from x y z w len)
  names_apart h = go (same_name m (name_from x y z w len)) refl
    where
      long : length m.bytes ≡ 16
      long = ap length (sym is)

      go : (r : Bool) → same_name m (name_from x y z w len) ≡ r → false ≡ r
      go false e = refl
      go true e =
          let s = same_to m (name_from x y z w len) e in
          let p = name_long m.len s.first in
          let q = name_long (len % 256) s.second in
          let u : min m.len (length m.bytes) ≡ min (len % 256) 16 = sym (length-take m.len m.bytes) ∙ ap length s.string ∙ length-take (len % 256) (four x ++ four y ++ four z ++ four w) in
          absurd (h (omega (arith, p.1, q.1, u, long)))

  pub names_same : name_length m.len ≡ true → len % 256 ≡ m.len
      → (same_four m.len a x && (same_four (m.len - 4) b y && (same_four (m.len - 8) c z && same_four (m.len - 12) d w))) ≡ same_name m (name_from x y z w len)
  names_same h e =
      sym (sixteen a b c d x y z w m.len)
      ∙ ap (λ l. same_bytes (take m.len l) (take m.len (four x ++ four y ++ four z ++ four w))) is
      ∙ sym (ap (λ k. same_bytes (text m) (take k (four x ++ four y ++ four z ++ four w))) e)
      ∙ sym (ap (λ r. r && same_bytes (text m) (text (name_from x y z w len))) (ap name_length e ∙ h))
      ∙ sym (ap (λ r. r && (named (name_from x y z w len) && same_bytes (text m) (text (name_from x y z w len)))) h)
