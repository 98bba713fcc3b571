-- What was written to the words is read back.
use Prim.Native.Nat.{ℕ, zero, suc, ◌+◌, ◌*◌, ◌/◌, ◌%◌, ◌<◌}
use native.Mathlib.Omega.{arith}
use mathlib.Core.Path.{◌≡◌, refl, sym, ap, ◌∙◌}
use mathlib.Core.List.{List, [], ◌∷◌}
use lib.ListN.{length, get_or}
use Rattle.words.specs.Fields.{long_from, long_at}
use Rattle.state_words.specs.State.{halves}
use Rattle.call_console.specs.declared.queues.Queue.{Queue}
use Rattle.call_console.specs.declared.queues.WishState.{WishState}
use Rattle.wish_state_words.specs.Waiting.{queue_from, waiting_in}

pub queue_back : (q : Queue) → q.start < 256 → q.count < 256 → queue_from (q.start + q.count * 256) ≡ q
queue_back q a b =
    let low : (q.start + q.count * 256) % 256 ≡ q.start = omega arith in
    let high : (q.start + q.count * 256) / 256 ≡ q.count = omega arith in
    let byte : q.count % 256 ≡ q.count = omega arith in
    ap (λ n. record { start = n; count = (q.start + q.count * 256) / 256 % 256 }) low ∙ ap (λ n. record { start = q.start; count = n }) (ap (λ n. n % 256) high ∙ byte)

-- the words one by one
pub waiting_same : (w : List ℕ) (k n : ℕ) (a b c d e f g h : Queue)
    → k ≡ long_at w 0 → n ≡ long_at w 2
    → a ≡ queue_from (get_or w 4 0) → b ≡ queue_from (get_or w 5 0) → c ≡ queue_from (get_or w 6 0) → d ≡ queue_from (get_or w 7 0)
    → e ≡ queue_from (get_or w 8 0) → f ≡ queue_from (get_or w 9 0) → g ≡ queue_from (get_or w 10 0) → h ≡ queue_from (get_or w 11 0)
    → ◌≡◌ {A = WishState} (record { keyboards = k; next = n; queues = a ∷ b ∷ c ∷ d ∷ e ∷ f ∷ g ∷ h ∷ [] }) (waiting_in w)
waiting_same w k n a b c d e f g h i j x0 x1 x2 x3 x4 x5 x6 x7 = rw (i, j, x0, x1, x2, x3, x4, x5, x6, x7) refl

-- eight of a kind
eight : (l : List Queue) (d : Queue) → length l ≡ 8
    → get_or l 0 d ∷ get_or l 1 d ∷ get_or l 2 d ∷ get_or l 3 d ∷ get_or l 4 d ∷ get_or l 5 d ∷ get_or l 6 d ∷ get_or l 7 d ∷ [] ≡ l
eight (a ∷ b ∷ c ∷ d ∷ e ∷ f ∷ g ∷ h ∷ []) z n = refl
eight [] z n = absurd (omega (arith, n))
eight (a ∷ []) z n = absurd (omega (arith, n))
eight (a ∷ b ∷ []) z n = absurd (omega (arith, n))
eight (a ∷ b ∷ c ∷ []) z n = absurd (omega (arith, n))
eight (a ∷ b ∷ c ∷ d ∷ []) z n = absurd (omega (arith, n))
eight (a ∷ b ∷ c ∷ d ∷ e ∷ []) z n = absurd (omega (arith, n))
eight (a ∷ b ∷ c ∷ d ∷ e ∷ f ∷ []) z n = absurd (omega (arith, n))
eight (a ∷ b ∷ c ∷ d ∷ e ∷ f ∷ g ∷ []) z n = absurd (omega (arith, n))
eight (a ∷ b ∷ c ∷ d ∷ e ∷ f ∷ g ∷ h ∷ i ∷ l) z n = absurd (omega (arith, n))

pub waiting_back : (s : WishState) (z : Queue) → length s.queues ≡ 8 → (i j k l a b c d e f g h : ℕ)
    → i ≡ s.keyboards % 4294967296 → j ≡ s.keyboards / 4294967296 → k ≡ s.next % 4294967296 → l ≡ s.next / 4294967296
    → queue_from a ≡ get_or s.queues 0 z → queue_from b ≡ get_or s.queues 1 z → queue_from c ≡ get_or s.queues 2 z → queue_from d ≡ get_or s.queues 3 z
    → queue_from e ≡ get_or s.queues 4 z → queue_from f ≡ get_or s.queues 5 z → queue_from g ≡ get_or s.queues 6 z → queue_from h ≡ get_or s.queues 7 z
    → waiting_in (i ∷ j ∷ k ∷ l ∷ a ∷ b ∷ c ∷ d ∷ e ∷ f ∷ g ∷ h ∷ []) ≡ s
waiting_back s z long i j k l a b c d e f g h ei ej ek el x0 x1 x2 x3 x4 x5 x6 x7 =
    rw (ei, ej, ek, el, halves s.keyboards, halves s.next, x0, x1, x2, x3, x4, x5, x6, x7, eight s.queues z long) refl
