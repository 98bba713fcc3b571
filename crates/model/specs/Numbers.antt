-- What each answer of a call says in numbers and values (SPEC 20), for every enum that the store's calls answer by.
-- What a call that answers by a result says is `says` (node/specs/Refusal): making, the host's calls, prepare,
-- scheduling, a spawn, the page, fade output and bus sum. The number of a value, a glide or a free is `outcome_number`
-- (Order).
use Rattle.std.specs.Prelude.{ℕ, Bool, true, false, Option, None, Some}
use Rattle.node.specs.Refusal.{Said, refused, gives, number_of, says}
use Rattle.node.specs.declared.record.VoiceId.{VoiceId}
use Rattle.node.specs.declared.refusal.Refusal.TheVariants.{Rejected}
use Rattle.voice.specs.declared.policy.Admission.{Admission}
use Rattle.voice.specs.declared.policy.Admission.TheVariants as admission
use Rattle.store.specs.declared.answer.Rendered.{Rendered}
use Rattle.store.specs.declared.answer.Rendered.TheVariants as rendered
use Rattle.model.specs.Call.{Answer}
use Rattle.model.specs.Call as call

-- an admission: nobody is stolen, that voice is, or 11 (SPEC 9.4)
abbrev pub admission_says : Admission → Said (Option VoiceId)
admission_says admission.Admit = gives None
admission_says admission.Reject = refused (number_of Rejected)
admission_says (admission.Steal place w) = gives (Some w)

-- a render sounds or is silent; where the prepare inside it was refused it is silent, with 13 or 14 beside it (SPEC 12)
pub record Heard : Type 0 where
  pub sounds : Bool
  pub failed : Option ℕ

abbrev pub render_says : Rendered → Said Heard
render_says rendered.Sounding = gives (record { sounds = true; failed = None })
render_says rendered.Silent = gives (record { sounds = false; failed = None })
render_says (rendered.Unprepared r) = gives (record { sounds = false; failed = Some (number_of r) })
render_says (rendered.Refused r) = refused (number_of r)

-- ---- the number of the refusal that a call's answer is, or none
abbrev pub number : {A : Type 0} → Said A → Option ℕ
number (refused n) = Some n
number (gives x) = None

abbrev pub number_in : Answer → Option ℕ
number_in call.done = None
number_in (call.refused r) = Some (number_of r)
number_in (call.node k) = None
number_in (call.spawned s) = number (says s)
number_in (call.removed n) = None
number_in (call.ordered o) = None
number_in (call.rendered a n out) = number (render_says a)
number_in (call.known l) = None
number_in (call.reached p) = None
number_in (call.found v) = None
number_in (call.found_node n) = None
number_in (call.all vs) = None
number_in (call.stolen b) = None
number_in (call.wires es) = None
number_in (call.in_order l) = None
number_in (call.fed l) = None
number_in (call.time t) = None
number_in (call.printed n out) = None
number_in (call.filled out) = None
number_in (call.filled_whole out) = None
