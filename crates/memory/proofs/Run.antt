-- A list of calls on a lent store is the model's run: it gives the model's answers, and leaves words that stand for the model's
-- last state.
use mathlib.Core.Path.{◌≡◌, refl, ap, ◌∙◌}
use mathlib.Core.List.{List, ◌∷◌}
use Rattle.model.specs.Call.{Call, Answer, Step, Ran, run}
use Rattle.memory.specs.View.{Memory, model_of}
use Rattle.memory.specs.Called.{Runs, ends, calls}

abbrev after : Answer → Ran → Ran
after a r = record { answers = a ∷ r.answers; model = r.model }

pub run_is : {m n : Memory} {cs : List Call} {said : List Answer} → Runs m cs said n → ◌≡◌ {A = Ran} (record { answers = said; model = model_of n }) (run cs (model_of m))
run_is ends = refl
run_is (calls {cs = cs} {a = a} e r) = ap (after a) (run_is r) ∙ ap (λ (x : Step). after x.answer (run cs x.model)) e
