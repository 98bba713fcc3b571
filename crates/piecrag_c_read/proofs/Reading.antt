-- From what a reading call answers to what stands in the cells.
use Rattle.node.specs.declared.refusal.Refusal.{Refusal}
use Prim.Native.Nat.{ℕ}
use mathlib.Core.Path.{◌≡◌, refl, sym, ap, ◌∙◌}
use mathlib.Core.List.{List, []}
use Rattle.std.specs.Prelude.{Result, Err, Ok}
use lib.IntN.{ℤ}
use lib.Ieee.{Float}
use Rattle.voice.specs.Steals.{StealLog}
use Rattle.steal_log.specs.Rows.{log_in}
use Rattle.model.specs.Call.{Call, Answer, Step}
use Rattle.model.specs.Call as call
use Rattle.memory.specs.View.{Memory}
use Rattle.memory.specs.Lent.{lent_steals}
use Rattle.memory.specs.Called.{Called}
use Rattle.memory.specs.declared.state.State.{State}
use Rattle.call_page.specs.Paged.{paged_of}
use Rattle.mixing.specs.Filled as float
use Rattle.whole_mixing.specs.Filled as whole
use Rattle.state_words.specs.State.{state_in}
use Rattle.c_answer.specs.Exported.{code, result_code, said_by, Tells}
use Rattle.c_answer.proofs.Exporting.{tells}

-- a call that only reads: s are the words w as the code has read them, x the value of its answer, which the cells hold
pub reads : {A : Type 0} {c : Call} (at : State → Memory) (w : List ℕ) {s : State} (a : Answer) (say : A → Answer) (x : A) {cells : A → Type 0}
    → s ≡ state_in w → Called c (at s) a (at s) → a ≡ say x → ◌≡◌ {A = ℕ} 0 (code (say x)) → cells x → Tells say c (at (state_in w)) 0 cells
reads {c = c} at w {s = s} a say x {cells = cells} read called says number held = tells c c at at w s s a refl read called say 0 cells x says (number ∙ ap code (sym says)) held

-- a block that was worked out: r is what the code answered, which the model says too
pub told : {say : Result (Unit {0}) Refusal → Answer} {c : Call} {m : Memory} {k : ℕ} {cells : Result (Unit {0}) Refusal → Type 0} (r : Result (Unit {0}) Refusal)
    → say r ≡ said_by c m → k ≡ code (say r) → cells r → Tells say c m k cells
told r answer number held = record { value = r; answer = sym answer; number = number; held = held }

-- the numbers of a page and of a block
pub page_code : (p : Result ℕ Refusal) (out : List ℕ) → result_code p ≡ code (paged_of p out)
page_code (Ok n) out = refl
page_code (Err r) out = refl

pub float_code : (r : Result (Unit {0}) Refusal) (out : List Float) → result_code r ≡ code (float.filled_of r out)
float_code (Ok tt) out = refl
float_code (Err x) out = refl

pub whole_code : (r : Result (Unit {0}) Refusal) (out : List ℤ) → result_code r ≡ code (whole.filled_of r out)
whole_code (Ok tt) out = refl
whole_code (Err x) out = refl

-- the steals that were read are those that the words hold
same_log : (b l : StealLog) → call.stolen b ≡ call.stolen l → b ≡ l
same_log b l e = cc

nothing : State → Memory
nothing s = record { state = s; nodes = []; edges = []; order = []; voices = []; events = []; steals = [] }

pub log_read : (w : List ℕ) (s : State) (b : StealLog)
    → ((m : Memory) → Called (call.ask call.steals) (lent_steals s w m) (call.stolen b) (lent_steals s w m))
    → b ≡ log_in w s.stolen s.place
log_read w s b called = same_log b (log_in w s.stolen s.place) (ap (λ (x : Step). x.answer) (called (nothing s)))
