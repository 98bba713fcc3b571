-- Two records with the same fields are the same; a state read from the same words is the same.
use Prim.Native.Nat.{ℕ, ◌+◌, ◌<◌}
use native.Mathlib.Omega.{arith}
use mathlib.Core.Path.{◌≡◌, sym, ap, ◌∙◌}
use mathlib.Core.Bool.{Bool, cond}
use mathlib.Core.List.{List}
use lib.Dec.{eqb}
use lib.ListN.{get_or}
use Rattle.node.specs.declared.record.NodeId.{NodeId}
use Rattle.node.specs.declared.record.VoiceId.{VoiceId}
use Rattle.synthdef.specs.declared.def.Param.{Param}
use Rattle.synthdef.specs.Tables.{Params}
use Rattle.synthdef.specs.declared.plan.DoneStep.{DoneStep}
use Rattle.synthdef.specs.declared.plan.DonePlan.{DonePlan}
use Rattle.voice.specs.declared.voices.Voice.{Voice}
use Rattle.voice.specs.declared.voices.VoiceState.{VoiceState}
use Rattle.voice.specs.declared.voices.VoiceState.TheVariants.{Tracked, Fading, Loose}
use Rattle.words.specs.Fields.{long_from}
use Rattle.voice_rows.specs.Rows.{node, state_at}
use Rattle.voice_rows.specs.Filled.{Local}
use Rattle.voice_rows.specs.Layouts.{first}

params : List Param → ℕ → Params
params l k = record { rows = l; count = k }

pub params_same : (p q : Params) → p.rows ≡ q.rows → p.count ≡ q.count → p ≡ q
unfolding params
params_same p q a b = let same : params p.rows p.count ≡ params q.rows q.count = cc in same

plan : List DoneStep → ℕ → DonePlan
plan l k = record { steps = l; output = k }

pub plan_same : (p q : DonePlan) → p.steps ≡ q.steps → p.output ≡ q.output → p ≡ q
unfolding plan
plan_same p q a b = let same : plan p.steps p.output ≡ plan q.steps q.output = cc in same

made : VoiceId → ℕ → NodeId → ℕ → NodeId → ℕ → NodeId → Bool → ℕ → ℕ → VoiceState → Params → DonePlan → Voice
made a b c d e f g h i m j k l =
    record { id = a; birth = b; bus = c; port = d; first = e; count = f; output = g; panned = h; sequence = i; rank = m; state = j; params = k; plan = l }

pub voice_same : (v w : Voice) → v.id ≡ w.id → v.birth ≡ w.birth → v.bus ≡ w.bus → v.port ≡ w.port → v.first ≡ w.first → v.count ≡ w.count
    → v.output ≡ w.output → v.panned ≡ w.panned → v.sequence ≡ w.sequence → v.rank ≡ w.rank → v.state ≡ w.state → v.params ≡ w.params → v.plan ≡ w.plan → v ≡ w
unfolding made
voice_same v w a b c d e f g h i m j k l =
    let same : made v.id v.birth v.bus v.port v.first v.count v.output v.panned v.sequence v.rank v.state v.params v.plan
    ≡ made w.id w.birth w.bus w.port w.first w.count w.output w.panned w.sequence w.rank w.state w.params w.plan = cc in
    same

-- ---- a state is read from eight
state_from : ℕ → ℕ → ℕ → ℕ → ℕ → ℕ → ℕ → ℕ → VoiceState
state_from k n a b c d e f =
    cond (eqb k 1) Tracked (cond (eqb k 2) (Fading (record { node = node n; start = long_from a b; position = long_from c d; number = long_from e f })) Loose)

pub state_local : Local 8 state_at
unfolding state_from
state_local c e a b h =
    let e0 : get_or c a 0 ≡ get_or e b 0 = first 8 c e a b h (omega arith) in
    let e1 : get_or c (a + 1) 0 ≡ get_or e (b + 1) 0 = h 1 (omega arith) in
    let e2 : get_or c (a + 2) 0 ≡ get_or e (b + 2) 0 = h 2 (omega arith) in
    let e3 : get_or c (a + 2 + 1) 0 ≡ get_or e (b + 2 + 1) 0 = later 3 (a + 2 + 1) (b + 2 + 1) (omega arith) (omega arith) (omega arith) in
    let e4 : get_or c (a + 4) 0 ≡ get_or e (b + 4) 0 = h 4 (omega arith) in
    let e5 : get_or c (a + 4 + 1) 0 ≡ get_or e (b + 4 + 1) 0 = later 5 (a + 4 + 1) (b + 4 + 1) (omega arith) (omega arith) (omega arith) in
    let e6 : get_or c (a + 6) 0 ≡ get_or e (b + 6) 0 = h 6 (omega arith) in
    let e7 : get_or c (a + 6 + 1) 0 ≡ get_or e (b + 6 + 1) 0 = later 7 (a + 6 + 1) (b + 6 + 1) (omega arith) (omega arith) (omega arith) in
    let same : state_from (get_or c a 0) (get_or c (a + 1) 0) (get_or c (a + 2) 0) (get_or c (a + 2 + 1) 0) (get_or c (a + 4) 0) (get_or c (a + 4 + 1) 0) (get_or c (a + 6) 0) (get_or c (a + 6 + 1) 0)
    ≡ state_from (get_or e b 0) (get_or e (b + 1) 0) (get_or e (b + 2) 0) (get_or e (b + 2 + 1) 0) (get_or e (b + 4) 0) (get_or e (b + 4 + 1) 0) (get_or e (b + 6) 0) (get_or e (b + 6 + 1) 0) = cc in
    same
  where
    later : (j x y : ℕ) → j < 8 → x ≡ a + j → y ≡ b + j → get_or c x 0 ≡ get_or e y 0
    later j x y l p q = ap (λ k. get_or c k 0) p ∙ h j l ∙ ap (λ k. get_or e k 0) (sym q)
