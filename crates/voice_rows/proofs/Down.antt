-- A fold over the numbers below a bound, from the last down: what holds of the first value at the bound, and passes each call from i + 1 to i,
-- holds of the result at 0.
use Rattle.std.proofs.Common.{ℕ, ◌+◌, ◌-◌, ◌<◌, ◌≤◌, List, [], ◌∷◌, ◌≡◌, ap, sym, refl, subst, arith}
use Rattle.std.specs.Prelude.{Option, None}
use Rattle.std.specs.Option.{MatchOption}
use Rattle.std.specs.Iterator.{Yields, Drains}
use Rattle.std.specs.List.{FoldsTo}
use Rattle.std.specs.Fn.{Called}
use Rattle.std.specs.declared.ops.Range.{Range}
use Rattle.std.specs.declared.iter.Rev.{Rev}
use denote.Param.Members.{Mut}

-- one call of a range from its end, as its clause has it
abbrev pub back : Rev (Range ℕ) → Option ℕ → Rev (Range ℕ) → Type 0
back s r t = (t.iter.start ≡ s.iter.start) × MatchOption r ((s.iter.end - s.iter.start ≡ 0) × (t.iter.end ≡ s.iter.end)) (λ x. (0 < s.iter.end - s.iter.start) × (x ≡ t.iter.end) × (s.iter.end ≡ t.iter.end + 1))

module _ {C F : Type 0} (g : Mut F (C × (ℕ × Unit {0})) C) (f : F) (Inv : ℕ → C → Type 0) (top : ℕ)
    (turn : (a : C) (i : ℕ) (b : C) (q : F) → i < top → Inv (i + 1) a → Called g f (a, (i, tt)) b q → (q ≡ f) × Inv i b) where
  abbrev pub Runs : F × C → List ℕ → F × C → Type 0
  Runs p xs q = FoldsTo {P = F × C} (λ a x b. Called g a.0 (a.1, (x, tt)) b.1 b.0) p xs q

  down : (xs : List ℕ) (s t u : Rev (Range ℕ)) (p q : F × C) → s.iter.start ≡ 0 → s.iter.end ≤ top → Yields back s xs t → back t None u → p.0 ≡ f → Inv s.iter.end p.1 → Runs p xs q → Inv 0 q.1
  down [] s t u p q low high y e same inv r =
      let none : s.iter.end ≡ 0 = omega (arith, low, ap (λ (k : Rev (Range ℕ)). k.iter.end) y, ap (λ (k : Rev (Range ℕ)). k.iter.start) y, e.1.0) in
      subst (λ (k : F × C). Inv 0 k.1) r (subst (λ k. Inv k p.1) none inv)
  down (x ∷ xs) s t u p q low high y e same inv r =
      let next = y.0 in
      let first : s.iter.end ≡ x + 1 = omega (arith, y.1.1.1, y.1.1.2) in
      let told = turn p.1 x r.0.1 r.0.0 (omega arith) (subst (λ k. Inv k p.1) first inv) (subst (λ w. Called g w (p.1, (x, tt)) r.0.1 r.0.0) same r.1) in
      down xs next t u r.0 q (omega (arith, y.1.0)) (omega (arith, y.1.1.2)) y.2 e told.0 (subst (λ k. Inv k r.0.1) y.1.1.1 told.1) r.2

  pub fold_down : (init r : C) (s : Rev (Range ℕ)) → s.iter.start ≡ 0 → s.iter.end ≡ top → ((xs : List ℕ) × (q : F) × Drains back s xs × Runs (f, init) xs (q, r)) → Inv top init → Inv 0 r
  fold_down init r s low high d inv =
      down d.0 s d.2.1.0 d.2.0 (f, init) (d.1, r) low (omega arith) d.2.1.1 d.2.1.2 refl (subst (λ k. Inv k init) (sym high) inv) d.3
