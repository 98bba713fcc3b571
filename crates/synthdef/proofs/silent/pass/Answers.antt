-- `synthdef::silent::pass` meets its contract: an array that is made by its places has at each place what the call there gave.
use Rattle.std.proofs.Common.{ℕ, zero, suc, ◌+◌, List, [], ◌∷◌, Bool, false, ◌||◌, ◌≡◌, ◌<◌, ◌∙◌, refl, sym, ap, length, get_or, arith, rules, tests}
use Rattle.lists.proofs.FromFn.{made_is}
use Rattle.synthdef.specs.Plan.{no_step, says, pass_from, pass}
use Rattle.synthdef.specs.declared.plan.DoneStep.{DoneStep}
use Rattle.synthdef.proofs.PassLaws.{length_pass}
use Rattle.synthdef.proofs.silent.pass.Goals as goal

-- what a pass says of the node at a place
pass_at : (sts : List DoneStep) (done s : List Bool) (i k : ℕ) → k < length sts
    → get_or (pass_from sts done s i) k false ≡ (get_or done (i + k) false || says (get_or sts k no_step) s)
pass_at [] done s i k h = absurd (omega arith)
pass_at (st ∷ sts) done s i zero h = let same : i + 0 ≡ i = omega arith in rw same refl
pass_at (st ∷ sts) done s i (suc k) h = let same : i + suc k ≡ suc i + k = omega arith in rw same (pass_at sts done s (suc i) k (omega arith))

pub returns : goal.returns
returns c =
    let sts = c.args.p.steps in
    let done = c.args.done in
    let s = c.args.s in
    let wide : length sts ≡ 24 = search rules in
    made_is _ _ c.from_fn.result (pass sts done s) false 24 (λ i x q h p.
    let there : x ≡ (get_or done i false || says (get_or sts i no_step) s) = search (rules, tests) in
    let from_0 : i ≡ 0 + i = omega arith in
    (search rules, there ∙ ap (λ k. get_or done k false || says (get_or sts i no_step) s) from_0 ∙ sym (pass_at sts done s 0 i (omega arith)))) (length_pass sts done s 0 ∙ wide) c.from_fn.ensures.items
