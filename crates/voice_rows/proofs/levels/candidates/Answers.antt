use Prim.Native.Nat.{◌+◌, ◌/◌, ◌<◌, min}
use native.Mathlib.Omega.{arith}
use mathlib.Core.Path.{◌≡◌, sym, ap, ◌∙◌}
use mathlib.Core.List.{[]}
use borrow.Author.Rules.{rules}
use lib.ListN.{length-set, length, take, get_or}
use Rattle.voice_rows.proofs.Words.{voices_long}
use Rattle.voice.specs.Voice.{counted}
use Rattle.words.proofs.InWords.{take_count}
use Rattle.graph_rows.specs.Node.{nodes_in}
use Rattle.voice_rows.specs.Levels.{candidate_at, candidates_at}
use Rattle.voice_rows.specs.Rows.{voice_of, voices_in}
use Rattle.voice_rows.proofs.Picked.{picked_on, picked_off}
use Rattle.voice_rows.proofs.levels.candidates.Goals as goal
use Rattle.voice_rows.proofs.levels.candidates.Goals.{then-is_counted, else-is_counted}

pub loop-i-preserved : goal.loop-i-preserved
loop-i-preserved c =
    let a = c.args in
    let vs = voices_in a.t.now in
    let at = c.loop-i in
    let m = c.min-i-end.result in
    let ns = take a.n (nodes_in a.nodes.now) in
    let q = counted a.by.scope a.by.bus in
    let long : length a.t.now ≡ 9152 = search rules in
    let below : at.i < length vs = omega (arith, voices_long a.t.now long, c.min-i-end.ensures, c.loop-i-test.true) in
    elim c.if-is_counted.branch [
      | then-is_counted w ↦
          let fits : at.out.count < length at.out.rows = omega (arith, at.invariant.0, at.invariant.1, c.min-i-end.ensures, c.loop-i-test.true) in
          let walk = at.walk in
          let here : w.candidate.result ≡ candidate_at ns a.by.clock (get_or vs at.i (voice_of [])) =
          w.candidate.ensures.is
          ∙ ap (λ l. candidate_at (take walk.n (nodes_in l)) a.by.clock (get_or vs at.i (voice_of []))) at.invariant.3
          ∙ ap (λ n. candidate_at (take n (nodes_in a.nodes.now)) a.by.clock (get_or vs at.i (voice_of []))) at.invariant.4 in
          let put = w.push.ensures in
          let more : w.push.new.self.count ≡ at.out.count + 1 = put.counted (omega (arith, at.invariant.0, c.min-i-end.ensures, c.loop-i-test.true)) in
          rw (w.out-is, w.walk-is) (
            omega (arith, at.invariant.0, more),
            ap length put.stored ∙ length-set at.out.rows at.out.count w.candidate.result ∙ at.invariant.1,
            ap (λ k. take k w.push.new.self.rows) more
                ∙ ap (take (at.out.count + 1)) put.stored
                ∙ picked_on (voice_of []) (candidate_at ns a.by.clock) q vs at.out.rows w.candidate.result at.i at.out.count below fits at.invariant.2 (sym c.is_counted.ensures ∙ w.if-is_counted.true) here,
            w.candidate.ensures.kept.0 ∙ at.invariant.3,
            w.candidate.ensures.kept.1 ∙ at.invariant.4,
          )
      | else-is_counted w ↦
          rw (w.out-is, w.walk-is) (
            omega (arith, at.invariant.0),
            at.invariant.1,
            picked_off (voice_of []) (candidate_at ns a.by.clock) q vs at.out.rows at.i at.out.count below at.invariant.2 (sym c.is_counted.ensures ∙ w.if-is_counted.false),
            at.invariant.3,
            at.invariant.4,
          )
    ]

pub returns : goal.returns
returns c =
    let a = c.args in
    let t = a.t.now in
    let at = c.loop-i in
    let m = c.min-i-end.result in
    let long : length t ≡ 9152 = search rules in
    let over : at.i ≡ m = omega (arith, at.auto.i-end, c.loop-i-test.false) in
    let small : min at.out.count 64 ≡ at.out.count = omega (arith, at.invariant.0, at.auto.i-end, c.min-i-end.ensures) in
    let e : m ≡ min a.count (length t / 143) = c.min-i-end.ensures ∙ ap (min a.count) (sym (ap (λ k. k / 143) long)) in
    let is = candidates_at (take a.n (nodes_in a.nodes.now)) a.by.clock (counted a.by.scope a.by.bus) in
    ap (λ k. take k at.out.rows) small ∙ at.invariant.2 ∙ ap (λ k. is (take k (voices_in t))) over ∙ ap is (take_count 143 voice_of t a.count m e)
