use Rattle.std.proofs.Common.{ℕ, zero, suc, ◌≡◌, ◌+◌, ◌-◌, ◌<◌, ◌≤◌, List, length, get_or, sym, ap, ◌∙◌, arith}
use Rattle.std.specs.Prelude.{false}
use Rattle.std.specs.Float.{nan}
use Rattle.std.proofs.lemmas.List.{get_or-map}
use Rattle.voice.specs.declared.steals.StealRecord.{StealRecord}
use Rattle.busiest.specs.declared.stretch.Scan.{Scan}
use Rattle.busiest.specs.Stretch.{samples}
use Rattle.busiest.specs.Scan.{advanced, scan_from, concluded}
use Rattle.busiest.proofs.Found.{advanced_place, concluded_busiest}
use Rattle.busiest.proofs.stretch.busiest_stretch.Goals as goal

-- one record more
step_law : (xs : List ℕ) (n i : ℕ) (s : Scan) → i < n → scan_from (n - i) xs i s ≡ scan_from (n - (i + 1)) xs (i + 1) (advanced s (get_or xs s.head 0) (get_or xs i 0))
step_law xs n i s l = go (n - i) (n - (i + 1)) (omega arith)
  where
    go : (k j : ℕ) → k ≡ suc j → scan_from k xs i s ≡ scan_from j xs (i + 1) (advanced s (get_or xs s.head 0) (get_or xs i 0))
    go zero j e = absurd (omega arith)
    go (suc k) j e = let h : k ≡ j = omega arith in ap (λ (m : ℕ). scan_from m xs (i + 1) (advanced s (get_or xs s.head 0) (get_or xs i 0))) h

-- and none
end_law : (xs : List ℕ) (n i : ℕ) (s : Scan) → n ≤ i → scan_from (n - i) xs i s ≡ s
end_law xs n i s l = let h : n - i ≡ 0 = omega arith in ap (λ (k : ℕ). scan_from k xs i s) h

-- the sample of a record of the run
sample_lem : (run : List StealRecord) (i : ℕ) (d : StealRecord) → i < length run → (get_or run i d).sample ≡ get_or (samples run) i 0
sample_lem run i d h = sym (get_or-map (λ (r : StealRecord). r.sample) run i d 0 h)

pub loop-r-preserved : goal.loop-r-preserved
loop-r-preserved c =
    let run = c.args.run.now in
    let i = c.loop-r.r-index in
    let s = c.loop-r.at in
    let x = get_or (samples run) s.head 0 in
    let y = get_or (samples run) i 0 in
    let inside : i < length run = omega arith in
    let before : s.head < length run = omega arith in
    let d : StealRecord = record { sample = 0; level = nan; known = false; cut = false } in
    let moved : c.advance-at.result ≡ advanced s x y =
    c.advance-at.ensures ∙ ap (λ (m : ℕ). advanced s m (get_or run i d).sample) (sample_lem run s.head d before) ∙ ap (advanced s x) (sample_lem run i d inside) in
    record {
      place =
          ap (λ (z : Scan). z.head + z.most) moved
          ∙ advanced_place s x y
          ∙ ap (λ (n : ℕ). n + 1) c.loop-r.invariant.place;
      walked =
          ap (scan_from (length run - (i + 1)) (samples run) (i + 1)) moved
          ∙ sym (step_law (samples run) (length run) i s inside)
          ∙ c.loop-r.invariant.walked;
    }

pub returns : goal.returns
returns c =
    let run = c.args.run.now in
    let s = c.loop-r.at in
    let past : length run ≤ c.loop-r.r-index = omega arith in
    c.conclude.ensures
    ∙ ap concluded (sym (end_law (samples run) (length run) c.loop-r.r-index s past) ∙ c.loop-r.invariant.walked)
    ∙ concluded_busiest c.args.width (samples run)
