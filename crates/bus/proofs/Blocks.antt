-- Loops that fill a lent block, sample by sample and channel by channel.
--     Filling     the first i samples are f 0, f 1, .., and the rest is as it was
--     Laying      so are the first c channels, each filled whole
use Rattle.std.proofs.Common.{◌≡◌, Bool, true, ◌&&◌, cond, ℕ, zero, suc, ◌+◌, ◌*◌, ◌<◌, ◌≤◌, List, [], ◌∷◌, ◌++◌, length, get_or, take, drop, set, sym, refl, ap, ◌∙◌, subst, ⊎_elim, append_assoc, append-nil, le_of_suc-le-suc, mul-le-mul_right, suc-mul, add-sub_of_le, eq-or-lt_of_le, zero-mul, add-one, arith, length-append, length-drop, length-set, length-take, get_or-drop, drop-cons, get_or-take, drop-drop, take_at, get_or-append-add, ext_get_or, drop_at}
use lib.ListN.{get_or-append}
use lib.Seq.{drop-length, set_at, get_or_at}
use Rattle.std.proofs.lemmas.List.{replicate-append-replicate}
use Rattle.std.proofs.Math.ListN.{replicate}
use Prim.Native.Nat.{zero-le}
use Rattle.bus.specs.Answer.{left}
use Rattle.bus.specs.Block.{each, block_of, sample_at}

-- channel k of n lies within their samples
pub room : (n size k len : ℕ) → len ≡ n * size → k < n → k * size + size ≤ len
room n size k len e h = subst (λ (x : ℕ). k * size + size ≤ x) (sym e) (subst (λ (x : ℕ). x ≤ n * size) (suc-mul k size) (mul-le-mul_right size h))

module _ {A : Type 0} where
  pub length_each : (n : ℕ) (f : ℕ → A) → length (each n f) ≡ n
  unfolding each
  length_each zero f = refl
  length_each (suc n) f = length-append (each n f) (f n ∷ []) ∙ ap (λ (k : ℕ). k + 1) (length_each n f) ∙ add-one n

  pub each_at : (n i : ℕ) (f : ℕ → A) (d : A) → i < n → get_or (each n f) i d ≡ f i
  unfolding each
  each_at zero i f d h = absurd (omega arith)
  each_at (suc n) i f d h =
      ⊎_elim (λ e. get_or_at (each n f) (f n) [] d i (length_each n f ∙ sym e) ∙ ap f (sym e))
      (λ l. get_or-append (each n f) (f n ∷ []) d i (subst (λ (k : ℕ). i < k) (sym (length_each n f)) l) ∙ each_at n i f d l)
      (eq-or-lt_of_le (le_of_suc-le-suc h))

  pub each_same : (n : ℕ) (f g : ℕ → A) → ((i : ℕ) → i < n → f i ≡ g i) → each n f ≡ each n g
  unfolding each
  each_same zero f g h = refl
  each_same (suc n) f g h =
      let front : each n f ≡ each n g = each_same n f g (λ i l. let k : i < suc n = omega arith in h i k) in
      let last : f n ≡ g n = let k : n < suc n = omega arith in h n k in
      cc

  -- n times the same
  pub each_replicate : (n : ℕ) (a : A) → each n (λ i. a) ≡ replicate n a
  unfolding each
  each_replicate zero a = refl
  each_replicate (suc n) a =
      ap (λ (l : List A). l ++ (a ∷ [])) (each_replicate n a) ∙ replicate-append-replicate n 1 a ∙ ap (λ (k : ℕ). replicate k a) (add-one n)

  -- a list that is made by its places, in two parts
  pub each_split : (n m : ℕ) (f : ℕ → A) → each (n + m) f ≡ each n f ++ each m (λ i. f (n + i))
  unfolding each
  each_split n zero f = let e : n + 0 ≡ n = omega arith in ap (λ (k : ℕ). each k f) e ∙ sym (append-nil (each n f))
  each_split n (suc m) f =
      let e : n + suc m ≡ suc (n + m) = omega arith in
      ap (λ (k : ℕ). each k f) e ∙ ap (λ (l : List A). l ++ (f (n + m) ∷ [])) (each_split n m f) ∙ append_assoc (each n f) (each m (λ i. f (n + i))) (f (n + m) ∷ [])

  -- a list of n elements that are f 0, f 1, ..
  pub each_is : (n : ℕ) (f : ℕ → A) (d : A) (l : List A) → length l ≡ n → ((i : ℕ) → i < n → get_or l i d ≡ f i) → l ≡ each n f
  each_is n f d l e h =
      ext_get_or d l (each n f) (e ∙ sym (length_each n f))
      (λ i q. let p : i < n = subst (λ (k : ℕ). i < k) e q in h i p ∙ sym (each_at n i f d p))

  -- the part of a list that starts at a and has k elements
  pub length_part : (k a size : ℕ) (l : List A) → k ≡ size → a + size ≤ length l → length (take k (drop a l)) ≡ size
  length_part k a size l e h = simp (length-take, length-drop) (omega arith)

  pub part_at : (k a size : ℕ) (l : List A) (i : ℕ) (d : A) → k ≡ size → i < size → get_or (take k (drop a l)) i d ≡ get_or l (a + i) d
  part_at k a size l i d e h = let p : i < k = omega arith in get_or-take k (drop a l) i d p ∙ get_or-drop a l i d

  pub record Filling (f : ℕ → A) (before now : List A) (i : ℕ) : Type 0 where
    pub within : i ≤ length before
    pub long : length now ≡ length before
    pub is : now ≡ each i f ++ drop i before

  pub fill_none : (f : ℕ → A) (l : List A) → Filling f l l 0
  unfolding each
  fill_none f l = record { within = zero-le; long = refl; is = refl }

  -- what stands at i has not been written yet
  pub fill_next : (f : ℕ → A) (l now : List A) (i : ℕ) (d : A) → Filling f l now i → i < length now → get_or now i d ≡ get_or l i d
  fill_next f l now i d q h =
      let p : i < length l = subst (λ (k : ℕ). i < k) q.long h in
      ap (λ (t : List A). get_or t i d) (q.is ∙ ap (λ (t : List A). each i f ++ t) (drop-cons l i d p))
      ∙ get_or_at (each i f) (get_or l i d) (drop (suc i) l) d i (length_each i f)

  pub fill_more : (f : ℕ → A) (l now : List A) (i : ℕ) (v : A) → Filling f l now i → i < length now → v ≡ f i → Filling f l (set now i v) (i + 1)
  unfolding each
  fill_more f l now i v q h e =
      let p : i < length l = subst (λ (k : ℕ). i < k) q.long h in
      record {
        within = omega arith;
        long = length-set now i v ∙ q.long;
        is =
            ap (λ (t : List A). set t i v) (q.is ∙ ap (λ (t : List A). each i f ++ t) (drop-cons l i v p))
            ∙ set_at (each i f) (get_or l i v) (drop (suc i) l) v i (length_each i f)
            ∙ ap (λ (a : A). each i f ++ a ∷ drop (suc i) l) e
            ∙ sym (append_assoc (each i f) (f i ∷ []) (drop (suc i) l))
            ∙ ap (λ (k : ℕ). each k f ++ drop k l) (sym (add-one i));
      }

  pub fill_all : (f : ℕ → A) (l now : List A) (i : ℕ) → Filling f l now i → length now ≤ i → now ≡ each (length l) f
  fill_all f l now i q h =
      let e : i ≡ length l = let w = q.within in let g = q.long in omega arith in
      q.is ∙ ap (λ (k : ℕ). each k f ++ drop k l) e ∙ ap (λ (t : List A). each (length l) f ++ t) (drop-length l) ∙ append-nil (each (length l) f)

  pub length_block : (c size : ℕ) (f : ℕ → ℕ → A) → length (block_of c size f) ≡ c * size
  unfolding block_of
  length_block zero size f = sym (zero-mul size)
  length_block (suc c) size f =
      length-append (block_of c size f) (each size (f c)) ∙ ap (λ (k : ℕ). k + length (each size (f c))) (length_block c size f)
      ∙ ap (λ (k : ℕ). c * size + k) (length_each size (f c)) ∙ sym (suc-mul c size)

  -- what `block_of` says: sample i of its channel c is f c i
  pub block_at : (n size : ℕ) (f : ℕ → ℕ → A) (c i : ℕ) (d : A) → c < n → i < size → sample_at d size (block_of n size f) c i ≡ f c i
  unfolding block_of
  block_at zero size f c i d h l = absurd (omega arith)
  block_at (suc n) size f c i d h l =
      ⊎_elim
      (λ e.
      ap (λ (k : ℕ). get_or (block_of n size f ++ each size (f n)) (k + i) d) (ap (λ (k : ℕ). k * size) e ∙ sym (length_block n size f))
      ∙ get_or-append-add (block_of n size f) (each size (f n)) i d
      ∙ each_at size i (f n) d l
      ∙ ap (λ (k : ℕ). f k i) (sym e))
      (λ p.
      let q : c * size + i < length (block_of n size f) = omega (arith, room n size c (length (block_of n size f)) (length_block n size f) p) in
      get_or-append (block_of n size f) (each size (f n)) d (c * size + i) q ∙ block_at n size f c i d p l)
      (eq-or-lt_of_le (le_of_suc-le-suc h))

  -- a block by its places
  pub block_each : (n size : ℕ) (f : ℕ → ℕ → A) (g : ℕ → A) → ((c i : ℕ) → c < n → i < size → f c i ≡ g (c * size + i)) → block_of n size f ≡ each (n * size) g
  unfolding block_of each
  block_each zero size f g h = ap (λ (k : ℕ). each k g) (sym (zero-mul size))
  block_each (suc n) size f g h =
      ap (λ (l : List A). l ++ each size (f n)) (block_each n size f g (λ c i p q. let k : c < suc n = omega arith in h c i k q))
      ∙ ap (λ (l : List A). each (n * size) g ++ l) (let k : n < suc n = omega arith in each_same size (f n) (λ i. g (n * size + i)) (λ i q. h n i k q))
      ∙ sym (each_split (n * size) size g)
      ∙ ap (λ (k : ℕ). each k g) (sym (suc-mul n size))

  pub record Laying (size : ℕ) (f : ℕ → ℕ → A) (before now : List A) (c : ℕ) : Type 0 where
    pub long : length now ≡ length before
    pub is : now ≡ block_of c size f ++ drop (c * size) before

  pub lay_none : (size : ℕ) (f : ℕ → ℕ → A) (l : List A) → Laying size f l l 0
  unfolding block_of
  lay_none size f l = record { long = refl; is = ap (λ (k : ℕ). drop k l) (sym (zero-mul size)) }

  lay_one : (size : ℕ) (f : ℕ → ℕ → A) (l now : List A) (c : ℕ) (ys : List A) → Laying size f l now c → c * size + size ≤ length l → ys ≡ each size (f c)
      → Laying size f l (take (c * size) now ++ (ys ++ drop size (drop (c * size) now))) (c + 1)
  unfolding block_of
  lay_one size f l now c ys q fits e =
      let b = block_of c size f in
      let front : take (c * size) now ≡ b = ap (take (c * size)) q.is ∙ take_at b (drop (c * size) l) (c * size) (length_block c size f) in
      let back : drop (c * size) now ≡ drop (c * size) l = ap (drop (c * size)) q.is ∙ drop_at b (drop (c * size) l) (c * size) (length_block c size f) in
      let next : c * size + size ≡ (c + 1) * size = sym (suc-mul c size) ∙ ap (λ (k : ℕ). k * size) (sym (add-one c)) in
      let whole : take (c * size) now ++ (ys ++ drop size (drop (c * size) now)) ≡ block_of (c + 1) size f ++ drop ((c + 1) * size) l =
      ap (λ (t : List A). t ++ (ys ++ drop size (drop (c * size) now))) front
      ∙ ap (λ (t : List A). b ++ (t ++ drop size (drop (c * size) now))) e
      ∙ ap (λ (t : List A). b ++ (each size (f c) ++ drop size t)) back
      ∙ ap (λ (t : List A). b ++ (each size (f c) ++ t)) (drop-drop size (c * size) l)
      ∙ sym (append_assoc b (each size (f c)) (drop (c * size + size) l))
      ∙ ap (λ (k : ℕ). block_of k size f ++ drop (c * size + size) l) (sym (add-one c))
      ∙ ap (λ (k : ℕ). block_of (c + 1) size f ++ drop k l) next in
      record {
        is = whole;
        long =
            ap length whole ∙ length-append (block_of (c + 1) size f) (drop ((c + 1) * size) l)
            ∙ ap (λ (k : ℕ). k + length (drop ((c + 1) * size) l)) (length_block (c + 1) size f)
            ∙ ap (λ (k : ℕ). (c + 1) * size + k) (length-drop ((c + 1) * size) l)
            ∙ add-sub_of_le (subst (λ (k : ℕ). k ≤ length l) next fits);
      }

  -- channel c, of k samples, is written as ys, and comes back to its place
  pub lay_more : (size : ℕ) (f : ℕ → ℕ → A) (l now : List A) (c k : ℕ) (ys : List A) → Laying size f l now c → c * size + size ≤ length l → k ≡ size → ys ≡ each size (f c)
      → Laying size f l (take (c * size) now ++ (ys ++ drop k (drop (c * size) now))) (c + 1)
  lay_more size f l now c k ys q fits k-is e =
      subst (λ (j : ℕ). Laying size f l (take (c * size) now ++ (ys ++ drop j (drop (c * size) now))) (c + 1)) (sym k-is) (lay_one size f l now c ys q fits e)

  pub lay_all : (n size : ℕ) (f : ℕ → ℕ → A) (l now : List A) (c : ℕ) → Laying size f l now c → c ≡ n → length l ≡ n * size → now ≡ block_of n size f
  lay_all n size f l now c q done e =
      q.is ∙ ap (λ (k : ℕ). block_of k size f ++ drop (k * size) l) done ∙ ap (λ (k : ℕ). block_of n size f ++ drop k l) (sym e) ∙ ap (λ (t : List A). block_of n size f ++ t) (drop-length l) ∙ append-nil (block_of n size f)

  -- the output of a call that is not refused
  pub left_new : (fits in_range : Bool) (new old now : List A) → fits ≡ true → in_range ≡ true → now ≡ new → now ≡ left fits in_range new old
  left_new fits in_range new old now f r e = e ∙ sym (ap (λ (b : Bool). cond (b && in_range) new old) f ∙ ap (λ (b : Bool). cond b new old) r)
