use mathlib.Core.Path.{sym, ap, subst, ◌∙◌}
use Rattle.node.specs.declared.refusal.Refusal.TheVariants.{Rejected}
use Rattle.model.specs.Call.{spawned}
use Rattle.model.specs.Model.{SpawnResult}
use Rattle.model.specs.Numbers.{number_in}
use Rattle.model.specs.Refuse.{spawn_refusal}
use Rattle.model.specs.Spawn.{state_under, tries}
use Rattle.model.specs.Wish.{spawn_in}
use Rattle.memory.specs.View.{shared_of, model_of}
use Rattle.memory.specs.Lent.{lent_spawn}
use Rattle.memory.specs.Called.{keeps}
use Rattle.memory.proofs.Contracts.{kept_none}
use Rattle.call_spawn.specs.Room.{Headroom, admission_under, place_under, steal}
use Rattle.graph.proofs.Calls.{answer_done}
use Rattle.call_spawn.proofs.Rooms.{answer_some, roomy, roomy_head, roomy_fade, roomy_stolen}
use Rattle.call_spawn.proofs.Placing.{step_of, place_free}
use Rattle.call_spawn.proofs.Spawns.{refused_in, spawn_step, spawn_not, spawn_rejected, spawn_admitted, spawn_stolen}
use Rattle.call_spawn.proofs.spawn.spawn_voice.Goals as goal

pub place-requires : goal.place-requires
place-requires c =
    let a = c.args in
    λ m.
    let old = lent_spawn a.s a.nodes.now a.edges.now a.voices.now a.steals.now m in
    let passed = answer_done (spawn_refusal (shared_of old) (model_of old).voices a.w.def a.w.bus a.w.rank) (sym (c.spawn_refusal.ensures old) ∙ c.in_default.is) in
    roomy_head a.w.def (model_of old) (roomy (model_of old) a.w.def a.w.bus a.w.rank passed)

pub steal_voice-left-requires : goal.steal_voice-left-requires
steal_voice-left-requires c =
    let a = c.args in
    λ m.
    let old = lent_spawn a.s a.nodes.now a.edges.now a.voices.now a.steals.now m in
    let passed = answer_done (spawn_refusal (shared_of old) (model_of old).voices a.w.def a.w.bus a.w.rank) (sym (c.spawn_refusal.ensures old) ∙ c.in_default.is) in
    roomy_fade a.w.def (model_of old) (roomy (model_of old) a.w.def a.w.bus a.w.rank passed)

pub place-requires-in-Steal : goal.place-requires-in-Steal
place-requires-in-Steal c =
    let a = c.args in
    λ m.
    let old = lent_spawn a.s a.nodes.now a.edges.now a.voices.now a.steals.now m in
    let passed = answer_done (spawn_refusal (shared_of old) (model_of old).voices a.w.def a.w.bus a.w.rank) (sym (c.spawn_refusal.ensures old) ∙ c.in_default.is) in
    subst (Headroom a.w.def) (sym (c.steal_voice-left.ensures m)) (roomy_stolen a.w.def _ (model_of old) (roomy (model_of old) a.w.def a.w.bus a.w.rank passed))

pub returns-in-Err : goal.returns-in-Err
returns-in-Err c =
    let a = c.args in
    let x = spawn_in a.w in record {
      is = λ m.
          let old = lent_spawn a.s a.nodes.now a.edges.now a.voices.now a.steals.now m in
          let is = answer_some (spawn_refusal (shared_of old) (model_of old).voices a.w.def a.w.bus a.w.rank) _ (sym (c.spawn_refusal.ensures old) ∙ c.in-Err.is) in
          ap step_of (refused_in _ c.refuse.result.answer old _ c.refuse.ensures.1 (ap (λ k. lent_spawn k a.nodes.now a.edges.now a.voices.now a.steals.now m) c.refuse.ensures.0) ∙ spawn_not x (model_of old) a.w.managed _ is) ∙ spawn_step x (model_of old) a.w.managed;
      same = λ m e. ap (λ k. lent_spawn k a.nodes.now a.edges.now a.voices.now a.steals.now m) c.refuse.ensures.0;
    }

pub returns-in-Reject : goal.returns-in-Reject
returns-in-Reject c =
    let a = c.args in
    let x = spawn_in a.w in record {
      is = λ m.
          let old = lent_spawn a.s a.nodes.now a.edges.now a.voices.now a.steals.now m in
          let passed = answer_done (spawn_refusal (shared_of old) (model_of old).voices a.w.def a.w.bus a.w.rank) (sym (c.spawn_refusal.ensures old) ∙ c.in_default.is) in
          let met = sym c.in-Reject.is ∙ c.admission.ensures old ∙ ap (λ k. admission_under k a.w.bus a.w.rank (model_of old)) c.budget_for-budget.ensures in
          ap step_of (refused_in Rejected c.refuse-in-Reject.result.answer old _ c.refuse-in-Reject.ensures.1 (ap (λ k. lent_spawn k a.nodes.now a.edges.now a.voices.now a.steals.now m) c.refuse-in-Reject.ensures.0) ∙ spawn_rejected x (model_of old) a.w.managed passed met) ∙ spawn_step x (model_of old) a.w.managed;
      same = λ m e. ap (λ k. lent_spawn k a.nodes.now a.edges.now a.voices.now a.steals.now m) c.refuse-in-Reject.ensures.0;
    }

pub returns-in-Admit : goal.returns-in-Admit
returns-in-Admit c =
    let a = c.args in
    let x = spawn_in a.w in
    let b = c.budget_for-budget.result in record {
      is = λ m.
          let old = lent_spawn a.s a.nodes.now a.edges.now a.voices.now a.steals.now m in
          let passed = answer_done (spawn_refusal (shared_of old) (model_of old).voices a.w.def a.w.bus a.w.rank) (sym (c.spawn_refusal.ensures old) ∙ c.in_default.is) in
          let met = sym c.in-Admit.is ∙ c.admission.ensures old ∙ ap (λ k. admission_under k a.w.bus a.w.rank (model_of old)) c.budget_for-budget.ensures in
          ap step_of (c.place.ensures m ∙ ap (λ k. place_under k x (model_of old)) c.budget_for-budget.ensures ∙ spawn_admitted x (model_of old) a.w.managed passed met) ∙ spawn_step x (model_of old) a.w.managed;
      same = λ m e.
          let old = model_of (lent_spawn a.s a.nodes.now a.edges.now a.voices.now a.steals.now m) in
          kept_none (sym (ap (λ (l : SpawnResult). keeps (number_in (spawned l.answer))) (c.place.ensures m) ∙ place_free (tries b old.voices) x (state_under b) old) ∙ e);
    }

pub returns-in-Steal : goal.returns-in-Steal
returns-in-Steal c =
    let a = c.args in
    let x = spawn_in a.w in
    let b = c.budget_for-budget.result in
    let stolen = c.steal_voice-left in
    let w = c.in-Steal.voice in record {
      is = λ m.
          let old = lent_spawn a.s a.nodes.now a.edges.now a.voices.now a.steals.now m in
          let passed = answer_done (spawn_refusal (shared_of old) (model_of old).voices a.w.def a.w.bus a.w.rank) (sym (c.spawn_refusal.ensures old) ∙ c.in_default.is) in
          let met = sym c.in-Steal.is ∙ c.admission.ensures old ∙ ap (λ k. admission_under k a.w.bus a.w.rank (model_of old)) c.budget_for-budget.ensures in
          ap step_of
          (c.place-in-Steal.ensures m ∙ ap (place_under b x) (stolen.ensures m) ∙ ap (λ k. place_under k x (steal w (model_of old))) c.budget_for-budget.ensures
          ∙ spawn_stolen x (model_of old) a.w.managed _ w passed met)
          ∙ spawn_step x (model_of old) a.w.managed;
      same = λ m e.
          let left = model_of (lent_spawn stolen.result stolen.new.nodes stolen.new.edges stolen.new.voices stolen.new.steals m) in
          kept_none (sym (ap (λ (l : SpawnResult). keeps (number_in (spawned l.answer))) (c.place-in-Steal.ensures m) ∙ place_free (tries b left.voices) x (state_under b) left) ∙ e);
    }
