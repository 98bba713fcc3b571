-- A loop that fills an array with f of each row: what is filled, with f of what is left, is f of all.
use Prim.Native.Nat.{ℕ, ◌+◌, ◌<◌}
use mathlib.Core.Path.{◌≡◌, ap, ◌∙◌}
use mathlib.Core.List.{List, ◌∷◌, ◌++◌, map}
use lib.ListN.{length, take, drop, set}
use lib.Seq.{append_snoc}
use Rattle.std.proofs.lemmas.List.{take_more_set}

abbrev pub Mapped : {A B : Type 0} → (A → B) → List B → ℕ → List A → Type 0
Mapped f out i l = take i out ++ map f (drop i l) ≡ map f l

pub map_next : {A B : Type 0} (f : A → B) (out : List B) (i : ℕ) (l : List A) (a : A) (v : B) → i < length out → drop i l ≡ a ∷ drop (i + 1) l → v ≡ f a
    → Mapped f out i l → Mapped f (set out i v) (i + 1) l
map_next f out i l a v h dr q inv =
    ap (λ (z : List _). z ++ map f (drop (i + 1) l)) (take_more_set out i v h)
    ∙ append_snoc (take i out) v (map f (drop (i + 1) l))
    ∙ ap (λ (x : _). take i out ++ x ∷ map f (drop (i + 1) l)) q ∙ (rw dr at inv)
