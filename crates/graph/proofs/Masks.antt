-- The laws of masks: the flags that the masks of all rows are.
use Prim.Native.Nat.{ℕ, zero, suc, ◌+◌, ◌-◌, ◌*◌, ◌/◌, ◌%◌, ◌^◌, ◌≤◌, ◌<◌, min}
use native.Mathlib.Omega.{arith}
use native.Mathlib.Nat.{add-zero, pow-suc, zero-div, div-one, div-eq_of_lt, div-div-eq-div-mul}
use mathlib.Core.Path.{◌≡◌, refl, sym, ap, ◌∙◌}
use mathlib.Core.List.{List, [], ◌∷◌, ◌++◌, map}
use mathlib.Core.Bool.{Bool, true, false, not, ◌&&◌, ◌||◌}
use lib.Dec.{eqb}
use lib.ListN.{length, get_or, set, replicate, length-append, length-map}
use lib.Seq.{get_or-append-add, set-append_left}
use Rattle.std.specs.Int.{bit_at, bit_not}
use Rattle.std.specs.Int.Bits.{bit_and}
use Rattle.std.proofs.Common.{w64}
use Rattle.std.proofs.lemmas.Nat.{and_le_r, pow_pos}
use Rattle.std.proofs.lemmas.Nat.Bits.{bit_at_and, bit_at_not, bit_at_ones, bit_at-lt}
use Rattle.std.proofs.lemmas.Bool.Decides.{nat_tests}
use Rattle.rank.specs.Order.{count_up, upto}
use Rattle.prepare.specs.Required.{any, bit}
use Rattle.prepare.specs.Parts.{ports_lack}
use Rattle.graph.specs.Masks.{ports_in, mask_lacks, WithPort}

-- ---- the flags of one row
-- flags of the k numbers from i on
at_up : (f : ℕ → Bool) (k i j : ℕ) → j < k → get_or (map f (count_up k i)) j false ≡ f (i + j)
unfolding count_up
at_up f zero i j h = absurd (omega arith)
at_up f (suc k) i zero h = ap f (sym (add-zero i))
at_up f (suc k) i (suc j) h =
    let next : suc i + j ≡ i + suc j = omega arith in
    at_up f k (suc i) j (omega arith) ∙ ap f next

same_up : (f g : ℕ → Bool) (k i : ℕ) → ((q : ℕ) → i ≤ q → g q ≡ f q) → map g (count_up k i) ≡ map f (count_up k i)
unfolding count_up
same_up f g zero i e = refl
same_up f g (suc k) i e = ap (λ b. b ∷ map g (count_up k (suc i))) (e i (omega arith)) ∙ ap (λ l. f i ∷ l) (same_up f g k (suc i) (λ q h. e q (omega arith)))

set_up : (f g : ℕ → Bool) (k i j : ℕ) → j < k → g (i + j) ≡ true → ((q : ℕ) → (q ≡ i + j → ⊥) → g q ≡ f q) → map g (count_up k i) ≡ set (map f (count_up k i)) j true
unfolding count_up
set_up f g zero i j h on others = absurd (omega arith)
set_up f g (suc k) i zero h on others =
    ap (λ b. b ∷ map g (count_up k (suc i))) (ap g (sym (add-zero i)) ∙ on)
    ∙ ap (λ l. true ∷ l) (same_up f g k (suc i) (λ q low. others q (λ e. absurd (omega arith))))
set_up f g (suc k) i (suc j) h on others =
    let next : suc i + j ≡ i + suc j = omega arith in
    ap (λ b. b ∷ map g (count_up k (suc i))) (others i (λ e. absurd (omega arith)))
    ∙ ap (λ l. f i ∷ l) (set_up f g k (suc i) j (omega arith) (ap g next ∙ on) (λ q o. others q (λ e. o (e ∙ sym next))))

row_long : (x : ℕ) → length (map (bit x) (upto 64)) ≡ 64
unfolding count_up
row_long x = length-map (upto 64) (bit x)

-- ---- the flags of all rows
pub ports_long : (l : List ℕ) → length (ports_in l) ≡ length l * 64
unfolding ports_in
ports_long [] = refl
ports_long (x ∷ l) = length-append (map (bit x) (upto 64)) (ports_in l) ∙ omega (arith, row_long x, ports_long l)

get_d_front : (a b : List Bool) (j : ℕ) → j < length a → get_or (a ++ b) j false ≡ get_or a j false
get_d_front [] b j h = absurd (omega arith)
get_d_front (x ∷ a) b zero h = refl
get_d_front (x ∷ a) b (suc j) h = get_d_front a b j (omega arith)

set_back : (a b : List Bool) (j k : ℕ) (y : Bool) → k ≡ length a + j → set (a ++ b) k y ≡ a ++ set b j y
set_back [] b j k y e = let same : k ≡ j = omega arith in ap (λ n. set b n y) same
set_back (x ∷ a) b j zero y e = absurd (omega arith)
set_back (x ∷ a) b j (suc k) y e = ap (λ l. x ∷ l) (set_back a b j k y (omega arith))

pub port_at : (l : List ℕ) (r p : ℕ) → r < length l → p < 64 → get_or (ports_in l) (r * 64 + p) false ≡ bit (get_or l r 0) p
unfolding ports_in
port_at [] r p h k = absurd (omega arith)
port_at (x ∷ l) zero p h k =
    let place : 0 * 64 + p ≡ p = omega arith in
    let first : 0 + p ≡ p = omega arith in
    ap (λ j. get_or (map (bit x) (upto 64) ++ ports_in l) j false) place
    ∙ get_d_front (map (bit x) (upto 64)) (ports_in l) p (omega (arith, row_long x))
    ∙ at_up (bit x) 64 0 p k
    ∙ ap (bit x) first
port_at (x ∷ l) (suc r) p h k =
    let place : suc r * 64 + p ≡ length (map (bit x) (upto 64)) + (r * 64 + p) = omega (arith, row_long x) in
    ap (λ j. get_or (map (bit x) (upto 64) ++ ports_in l) j false) place
    ∙ get_or-append-add (map (bit x) (upto 64)) (ports_in l) (r * 64 + p) false
    ∙ port_at l r p (omega arith) k

pub port_set : (l : List ℕ) (t p y : ℕ) → t < length l → p < 64 → WithPort (get_or l t 0) p y → ports_in (set l t y) ≡ set (ports_in l) (t * 64 + p) true
unfolding ports_in
port_set [] t p y h k w = absurd (omega arith)
port_set (x ∷ l) zero p y h k w =
    let place : 0 * 64 + p ≡ p = omega arith in
    let first : 0 + p ≡ p = omega arith in
    ap (λ a. a ++ ports_in l) (set_up (bit x) (bit y) 64 0 p k (ap (bit y) first ∙ w.on) (λ q o. w.others q (λ e. o (e ∙ sym first))))
    ∙ sym (set-append_left (map (bit x) (upto 64)) (ports_in l) p true (omega (arith, row_long x)))
    ∙ ap (λ j. set (map (bit x) (upto 64) ++ ports_in l) j true) (sym place)
port_set (x ∷ l) (suc t) p y h k w =
    let place : suc t * 64 + p ≡ length (map (bit x) (upto 64)) + (t * 64 + p) = omega (arith, row_long x) in
    ap (λ r. map (bit x) (upto 64) ++ r) (port_set l t p y (omega arith) k w)
    ∙ sym (set_back (map (bit x) (upto 64)) (ports_in l) (t * 64 + p) (suc t * 64 + p) true place)

-- masks of 0 have no port
none_up : (k i j : ℕ) → get_or (map (bit 0) (count_up k i)) j false ≡ false
unfolding count_up
none_up zero i j = refl
none_up (suc k) i zero = ap (λ x. eqb (x % 2) 1) (zero-div (2 ^ i))
none_up (suc k) i (suc j) = none_up k (suc i) j

none_both : (a b : List Bool) → ((j : ℕ) → get_or a j false ≡ false) → ((j : ℕ) → get_or b j false ≡ false) → (j : ℕ) → get_or (a ++ b) j false ≡ false
none_both [] b e f j = f j
none_both (x ∷ a) b e f zero = e 0
none_both (x ∷ a) b e f (suc j) = none_both a b (λ i. e (suc i)) f j

pub no_ports : (n j : ℕ) → get_or (ports_in (replicate n 0)) j false ≡ false
unfolding ports_in
no_ports zero j = refl
no_ports (suc n) j = none_both (map (bit 0) (upto 64)) (ports_in (replicate n 0)) (none_up 64 0) (no_ports n) j

-- ---- what a row lacks, by its mask
any_up : (f g : ℕ → Bool) (k i : ℕ) → ((q : ℕ) → q < i + k → f q ≡ g q) → any f (count_up k i) ≡ any g (count_up k i)
unfolding any count_up
any_up f g zero i e = refl
any_up f g (suc k) i e = ap (λ b. b || any f (count_up k (suc i))) (e i (omega arith)) ∙ ap (λ b. g i || b) (any_up f g k (suc i) (λ q h. e q (omega arith)))

pub mask_lacks_lem : (l : List ℕ) (row ports required : ℕ) → row < length l → mask_lacks (get_or l row 0) ports required ≡ ports_lack (ports_in l) row ports required
unfolding mask_lacks ports_lack
mask_lacks_lem l row ports required h =
    any_up (λ p. bit required p && not (bit (get_or l row 0) p)) (λ p. bit required p && not (get_or (ports_in l) (row * 64 + p) false)) (min ports 64) 0
    (λ q low. ap (λ b. bit required q && not b) (sym (port_at l row q h (omega arith))))

-- ---- what a row lacks, by all bits at once
-- a number is not 0 just if its last bit is on or its half is not 0
half_on : (y : ℕ) → (eqb (y % 2) 1 || not (eqb (y / 2) 0)) ≡ not (eqb y 0)
half_on y = grind (arith, nat_tests)

-- the k bits from i on, the highest of a number: one is on just if they are not 0
some_on : (x k i n : ℕ) → n ≡ i + k → x < 2 ^ n → any (bit x) (count_up k i) ≡ not (eqb (x / 2 ^ i) 0)
unfolding any count_up
some_on x zero i n e h =
    let all : n ≡ i = omega arith in
    ap (λ y. not (eqb y 0)) (sym (div-eq_of_lt (rw all at h)))
some_on x (suc k) i n e h =
    let half : x / 2 ^ suc i ≡ x / 2 ^ i / 2 = ap (λ y. x / y) (pow-suc 2 i) ∙ sym (div-div-eq-div-mul x (2 ^ i) 2) in
    ap (λ b. bit x i || b) (some_on x k (suc i) n (omega arith) h ∙ ap (λ y. not (eqb y 0)) half) ∙ half_on (x / 2 ^ i)

-- what is required of the first k ports and not in the mask, as a mask
abbrev pub unmet : ℕ → ℕ → ℕ → ℕ
unmet mask k required = bit_and (bit_and required (bit_not w64 mask)) (2 ^ k - 1)

bit_unmet : (r m : ℕ) → r < 2 → m < 2 → (eqb r 1 && not (eqb m 1)) ≡ eqb (min (min r (1 - m)) 1) 1
bit_unmet r m hr hm = grind (arith, nat_tests)

unmet_at : (mask k required q : ℕ) → mask < 2 ^ 64 → k ≤ 64 → q < k → (bit required q && not (bit mask q)) ≡ bit (unmet mask k required) q
unmet_at mask k required q h few low =
    let inside : q < 64 = omega arith in
    bit_unmet (bit_at required q) (bit_at mask q) (bit_at-lt required q) (bit_at-lt mask q)
    ∙ ap (λ b. eqb b 1) (sym (rw (bit_at_and (bit_and required (bit_not w64 mask)) (2 ^ k - 1) q, bit_at_and required (bit_not w64 mask) q, bit_at_not w64 mask q h inside, bit_at_ones k q low)))

pub lacks_at_once : (mask ports required : ℕ) → mask < 2 ^ 64 → mask_lacks mask ports required ≡ not (eqb (unmet mask (min ports 64) required) 0)
unfolding mask_lacks
lacks_at_once mask ports required h =
    let k = min ports 64 in
    let x = unmet mask k required in
    let room : x < 2 ^ k = omega (arith, pow_pos k, and_le_r (bit_and required (bit_not w64 mask)) (2 ^ k - 1)) in
    any_up (λ p. bit required p && not (bit mask p)) (bit x) k 0 (λ q low. unmet_at mask k required q h (omega arith) (omega (arith, low)))
    ∙ some_on x k 0 k (omega arith) room
    ∙ ap (λ y. not (eqb y 0)) (div-one x)
