-- Every call's contract is the model's step (SPEC 21.8), so that a run of calls on a lent store is the model's run, of
-- which the claim holds (SPEC 21.1, 21.2, 21.3); the store of an accepted making is the model's new store; and a
-- refusal other than 12 leaves the very memory.
use Rattle.node.specs.declared.refusal.Refusal.{Refusal}
use mathlib.Core.Path.{◌≡◌, refl, sym, ap, ◌∙◌}
use mathlib.Core.List.{List, map}
use Rattle.std.specs.Prelude.{Some, Err, Ok, Result}
use Rattle.lists.proofs.Member.{some_inj, none_some}
use Rattle.model.specs.Model.{Model}
use Rattle.model.specs.Make.{Making, make}
use Rattle.model.specs.Call.{Call, Answer, Ran, run}
use Rattle.model.specs.Call as call
use Rattle.model.specs.Numbers.{number_in}
use Rattle.ledger.proofs.Claim.{claim}
use Rattle.isolation.proofs.Store.{store_isolated}
use Rattle.replaced.proofs.Theorem.{replaced_same}
use Rattle.memory.specs.View.{Memory, model_of}
use Rattle.memory.specs.Lent.{lent_state}
use Rattle.memory.specs.Called.{Called, Kept}
use Rattle.memory.specs.Called as memory
use Rattle.memory.proofs.Run as lent
use Rattle.memory.proofs.Contracts.{kept_none}
use Rattle.call_make.specs.Made.{if_done}
use Rattle.call_make.proofs.make.Reads as fn-make
use Rattle.refinement.specs.Contract.{Contract, Runs, ends, calls}
use Rattle.refinement.specs.Contract as contract
use Rattle.refinement.specs.Refines.{Refines}

pub called : {c : Call} {m : Memory} {a : Answer} {n : Memory} → Contract c m a n → Called c m a n
called (contract.add_node κs a r s p m) = p.0 m
called (contract.remove_node κs a r s p m) = p.0 m
called (contract.connect κs a r s p m) = p.0 m
called (contract.disconnect κs a r s p m) = p.0 m
called (contract.set_sink κs a r s p m) = p.0 m
called (contract.spawn_voice κs a r s p m) = p.0 m
called (contract.free_voice κs a r s p m) = p.0 m
called (contract.free_done κs a r s p m) = p m
called (contract.set_param κs a r s p m) = p.0 m
called (contract.set_param_glide κs a r s p m) = p.0 m
called (contract.schedule κs a r s p m) = p.0 m
called (contract.report κs a r s p m) = p.0 m
called (contract.prepare κs a r s p m) = p.0 m
called (contract.render κs a r s p m) = p.0 m
called (contract.voice_level κs a r s p m) = p m
called (contract.fade_position κs a r s p m) = p m
called (contract.voice κs a r s p m) = p m
called (contract.voice_at κs a r s p m) = p m
called (contract.voices κs a r s p m) = p.0 m
called (contract.steals κs a r s p m) = p m
called (contract.edges κs a r s p m) = p.0 m
called (contract.processing_order κs a r s p m) = p.0 m
called (contract.sources κs a r s p m) = p m
called (contract.node_record κs a r s p m) = p m
called (contract.clock κs a r s p m) = p m
called (contract.page κs a r s p m) = p.0 m
called (contract.fade_output κs a r s p m e) =
    ap (call.reads (model_of m))
    (p.0 ∙ ap (λ c. call.fade_answer c a.1.0.now a.1.1.1.0.ins a.1.1.0.now a.1.1.1.0.position a.1.1.1.1.0.now a.1.1.1.0.outs) (sym e))
called (contract.bus_sum κs a r s p m e) =
    ap (call.reads (model_of m)) (p.0 ∙ ap (λ c. call.sum_answer c a.1.0.now a.1.1.0.now a.1.1.1.0.now a.1.1.1.1.0) (sym e))
called (contract.whole_fade κs a r s p m e) =
    ap (call.reads (model_of m))
    (p.0 ∙ ap (λ c. call.whole_fade_answer c a.1.0.now a.1.1.1.0.ins a.1.1.0.now a.1.1.1.0.position a.1.1.1.1.0.now a.1.1.1.0.outs) (sym e))
called (contract.whole_sum κs a r s p m e) =
    ap (call.reads (model_of m)) (p.0 ∙ ap (λ c. call.whole_sum_answer c a.1.0.now a.1.1.0.now a.1.1.1.0.now a.1.1.1.1.0) (sym e))

-- questions leave the very memory, whatever they answer
pub kept : {c : Call} {m : Memory} {a : Answer} {n : Memory} → Contract c m a n → Kept a m n
kept (contract.add_node κs a r s p m) = p.1 m
kept (contract.remove_node κs a r s p m) = p.1 m
kept (contract.connect κs a r s p m) = p.1 m
kept (contract.disconnect κs a r s p m) = p.1 m
kept (contract.set_sink κs a r s p m) = p.1 m
kept (contract.spawn_voice κs a r s p m) = p.1 m
kept (contract.free_voice κs a r s p m) = λ e. kept_none e
kept (contract.free_done κs a r s p m) = λ e. kept_none e
kept (contract.set_param κs a r s p m) = λ e. kept_none e
kept (contract.set_param_glide κs a r s p m) = λ e. kept_none e
kept (contract.schedule κs a r s p m) = p.1 m
kept (contract.report κs a r s p m) = p.1 m
kept (contract.prepare κs a r s p m) = p.1 m
kept (contract.render κs a r s p m) = p.1 m
kept (contract.voice_level κs a r s p m) = λ e. refl
kept (contract.fade_position κs a r s p m) = λ e. refl
kept (contract.voice κs a r s p m) = λ e. refl
kept (contract.voice_at κs a r s p m) = λ e. refl
kept (contract.voices κs a r s p m) = λ e. refl
kept (contract.steals κs a r s p m) = λ e. refl
kept (contract.edges κs a r s p m) = λ e. refl
kept (contract.processing_order κs a r s p m) = λ e. refl
kept (contract.sources κs a r s p m) = λ e. refl
kept (contract.node_record κs a r s p m) = λ e. refl
kept (contract.clock κs a r s p m) = λ e. refl
kept (contract.page κs a r s p m) = λ e. refl
kept (contract.fade_output κs a r s p m e) = λ f. refl
kept (contract.bus_sum κs a r s p m e) = λ f. refl
kept (contract.whole_fade κs a r s p m e) = λ f. refl
kept (contract.whole_sum κs a r s p m e) = λ f. refl

runs : {m n : Memory} {cs : List Call} {said : List Answer} → Runs m cs said n → memory.Runs m cs said n
runs ends = memory.ends
runs (calls e r) = memory.calls (called e) (runs r)

pub run_is : {m n : Memory} {cs : List Call} {said : List Answer} → Runs m cs said n → ◌≡◌ {A = Ran} (record { answers = said; model = model_of n }) (run cs (model_of m))
run_is r = lent.run_is (runs r)

-- the store of an accepted making is the model's new store, whatever stands in the tables
pub made_new : (k : Making) (m : Model) (a : Result (Unit {0}) Refusal) (n : Memory) → if_done a (model_of n) ≡ make k → make k ≡ Some m → model_of n ≡ m
made_new k m a n e accepted = go a (e ∙ accepted)
  where
    go : (a : Result (Unit {0}) Refusal) → if_done a (model_of n) ≡ Some m → model_of n ≡ m
    go (Ok tt) h = some_inj h
    go (Err x) h = absurd (none_some h)

-- the refinement, from the contract of `make`
pub refines : (κs : _) (a : _) (r : _) (s : _) → fn-make.Post κs a r s
    → (m : Model) → make a.0 ≡ Some m
    → (tables last : Memory) (cs : List Call) (said : List Answer) → Runs (lent_state r.state tables) cs said last
    → Refines a.0 m cs said last
refines κs a r s p m accepted tables last cs said ran =
    let k = a.0 in
    let is = run_is ran ∙ ap (run cs) (made_new k m r.answer (lent_state r.state tables) (p.0 tables) accepted) in
    let holds = claim k m accepted cs in
    record { ran = is; claimed = holds; replaced = replaced_same k m accepted cs; isolated = λ per ids b₁ b₂ ds. store_isolated k m accepted per ids b₁ b₂ cs ds; numbers = ap (map number_in) (ap (λ (x : Ran). x.answers) is ∙ holds.answers) }
