use Rattle.std.proofs.Common.{rules, ◌≡◌, sym, ap, subst, ◌∙◌, None, Some, Err}
use Rattle.graph.proofs.Calls.{answer_done}
use Rattle.model.specs.Model.{Model}
use Rattle.model.specs.Refuse.{spawn_refusal}
use Rattle.model.specs.Wish.{spawn_in}
use Rattle.engine.specs.Spawning.{Headroom, answer_in, admission_under, place_under, steal}
use Rattle.engine.proofs.Rooms.{answer_some, roomy, roomy_head, roomy_fade, roomy_stolen}
use Rattle.engine.proofs.Placing.{step_of}
use Rattle.engine.proofs.Spawns.{spawn_step, spawn_not, spawn_rejected, spawn_admitted, spawn_stolen}
use Rattle.engine.proofs.Tables.spawn_voice.Goals as goal

pub place-requires : goal.place-requires
place-requires c =
    let w = c.args.wish.now in
    let m = c.args.self.now in
    let passed : spawn_refusal m.shared m.voices w.def w.bus w.rank ≡ None = answer_done _ (sym c.in_ok-spawn_test.ensures) in
    roomy_head w.def m (roomy m w.def w.bus w.rank passed)

pub steal_voice-requires : goal.steal_voice-requires
steal_voice-requires c =
    let w = c.args.wish.now in
    let m = c.args.self.now in
    let passed : spawn_refusal m.shared m.voices w.def w.bus w.rank ≡ None = answer_done _ (sym c.in_ok-spawn_test.ensures) in
    roomy_fade w.def m (roomy m w.def w.bus w.rank passed)

pub place-requires-in-Steal : goal.place-requires-in-Steal
place-requires-in-Steal c =
    let w = c.args.wish.now in
    let m = c.args.self.now in
    let passed : spawn_refusal m.shared m.voices w.def w.bus w.rank ≡ None = answer_done _ (sym c.in_ok-spawn_test.ensures) in
    subst (Headroom w.def) (sym c.steal_voice.ensures) (roomy_stolen w.def _ m (roomy m w.def w.bus w.rank passed))

pub returns-in_err-spawn_test : goal.returns-in_err-spawn_test
returns-in_err-spawn_test c =
    let w = c.args.wish.now in
    let m = c.args.self.now in
    let why = c.in_err-spawn_test.field-0.0 in
    let is : c.from_residual.result ≡ Err why = search rules in
    let test : spawn_refusal m.shared m.voices w.def w.bus w.rank ≡ Some why = answer_some _ why (sym c.spawn_test.ensures ∙ c.in_err-spawn_test.was) in
    ap (λ a. step_of (answer_in a m)) is ∙ ap step_of (spawn_not (spawn_in w) m w.managed why test) ∙ spawn_step (spawn_in w) m w.managed

pub returns-in-Reject : goal.returns-in-Reject
returns-in-Reject c =
    let w = c.args.wish.now in
    let m = c.args.self.now in
    let passed : spawn_refusal m.shared m.voices w.def w.bus w.rank ≡ None = answer_done _ (sym c.in_ok-spawn_test.ensures) in
    let met = sym c.in-Reject.is ∙ c.admission.ensures ∙ ap (λ k. admission_under k w.bus w.rank m) c.budget_for-budget.ensures in
    ap step_of (spawn_rejected (spawn_in w) m w.managed passed met) ∙ spawn_step (spawn_in w) m w.managed

pub returns-in-Admit : goal.returns-in-Admit
returns-in-Admit c =
    let w = c.args.wish.now in
    let m = c.args.self.now in
    let passed : spawn_refusal m.shared m.voices w.def w.bus w.rank ≡ None = answer_done _ (sym c.in_ok-spawn_test.ensures) in
    let met = sym c.in-Admit.is ∙ c.admission.ensures ∙ ap (λ k. admission_under k w.bus w.rank m) c.budget_for-budget.ensures in
    ap step_of (c.place.ensures ∙ ap (λ k. place_under k (spawn_in w) m) c.budget_for-budget.ensures ∙ spawn_admitted (spawn_in w) m w.managed passed met) ∙ spawn_step (spawn_in w) m w.managed

pub returns-in-Steal : goal.returns-in-Steal
returns-in-Steal c =
    let w = c.args.wish.now in
    let m = c.args.self.now in
    let b = c.budget_for-budget.result in
    let voice = c.in-Steal.voice in
    let passed : spawn_refusal m.shared m.voices w.def w.bus w.rank ≡ None = answer_done _ (sym c.in_ok-spawn_test.ensures) in
    let met = sym c.in-Steal.is ∙ c.admission.ensures ∙ ap (λ k. admission_under k w.bus w.rank m) c.budget_for-budget.ensures in
    ap step_of
    (c.place-in-Steal.ensures ∙ ap (place_under b (spawn_in w)) c.steal_voice.ensures ∙ ap (λ k. place_under k (spawn_in w) (steal voice m)) c.budget_for-budget.ensures
    ∙ spawn_stolen (spawn_in w) m w.managed _ voice passed met)
    ∙ spawn_step (spawn_in w) m w.managed
