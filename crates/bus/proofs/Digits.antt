-- The machine's exclusive or, and its products that wrap, in the words of `Noise`.
use Rattle.std.proofs.Common.{◌≡◌, ℕ, zero, suc, ◌+◌, ◌*◌, ◌/◌, ◌%◌, ◌^◌, ◌<◌, sym, refl, ap, ◌∙◌, subst, mod-lt, pow-suc, arith, lit<}
use lib.Bits.{bit_xor, differ, xor_step, xor_lt}
use Rattle.std.proofs.lemmas.Nat.{mul-mod_first}
use Rattle.bus.specs.Noise.{wrap, exclusive_or, seed_of}

-- one digit: 1 where the two differ, which is where their sum is odd
odd_sum : (x y : ℕ) → x < 2 → y < 2 → differ x y ≡ (x + y) % 2
odd_sum zero y p q = omega arith
odd_sum (suc zero) zero p q = refl
odd_sum (suc zero) (suc zero) p q = refl
odd_sum (suc zero) (suc (suc y)) p q = absurd (omega arith)
odd_sum (suc (suc x)) y p q = absurd (omega arith)

half : (k n : ℕ) → n < 2 ^ suc k → n / 2 < 2 ^ k
half k n h = omega (arith, pow-suc 2 k)

pub xor_is : (k a b : ℕ) → a < 2 ^ k → b < 2 ^ k → exclusive_or k a b ≡ bit_xor a b
unfolding exclusive_or
xor_is zero a b p q =
    let ea : a ≡ 0 = omega arith in
    let eb : b ≡ 0 = omega arith in
    sym (ap (λ (x : ℕ). bit_xor x b) ea ∙ eb)
xor_is (suc k) a b p q =
    let d : differ (a % 2) (b % 2) ≡ (a % 2 + b % 2) % 2 = odd_sum (a % 2) (b % 2) (mod-lt a (lit< tt)) (mod-lt b (lit< tt)) in
    let m : (a % 2 + b % 2) % 2 ≡ (a + b) % 2 = omega arith in
    ap (λ (x : ℕ). x * 2 + (a + b) % 2) (xor_is k (a / 2) (b / 2) (half k a p) (half k b q))
    ∙ ap (λ (x : ℕ). bit_xor (a / 2) (b / 2) * 2 + x) (sym (d ∙ m))
    ∙ sym (xor_step a b)

-- a product's remainder needs no more of a factor than the factor's own
mod_mul : (n b d : ℕ) → n % d * b % d ≡ n * b % d
mod_mul = mul-mod_first

-- the seed as the code has it: r and t are the two products that wrapped, the second of the node's low digits alone
pub seed_is : (s n r t : ℕ) → r ≡ wrap (s * 0x9E3779B9) → t ≡ wrap (n % 2 ^ 32 * 0x85EBCA77) → bit_xor (bit_xor 0xDEADBEEF r) t ≡ seed_of s n
unfolding seed_of
seed_is s n r t er et =
    let p : r < 2 ^ 32 = subst (λ (x : ℕ). x < 2 ^ 32) (sym er) (mod-lt (s * 0x9E3779B9) (lit< tt)) in
    let q : t < 2 ^ 32 = subst (λ (x : ℕ). x < 2 ^ 32) (sym et) (mod-lt (n % 2 ^ 32 * 0x85EBCA77) (lit< tt)) in
    sym (xor_is 32 (bit_xor 0xDEADBEEF r) t (xor_lt 32 0xDEADBEEF r (lit< tt) p) q)
    ∙ ap (λ (x : ℕ). exclusive_or 32 x t) (sym (xor_is 32 0xDEADBEEF r (lit< tt) p))
    ∙ ap (λ (x : ℕ). exclusive_or 32 (exclusive_or 32 0xDEADBEEF x) t) er
    ∙ ap (exclusive_or 32 (exclusive_or 32 0xDEADBEEF (wrap (s * 0x9E3779B9)))) (et ∙ mod_mul n 0x85EBCA77 (2 ^ 32))
