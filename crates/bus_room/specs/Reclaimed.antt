-- "If none: reclaim the earliest-started fade of that bus (ties by voice order) and mark its record, if still held, cut, else free
-- the policy's victim among tracked voices of that bus with a cut record; try again." Here without the new voice, of which the rank alone
-- counts, and which takes its port in what is left.
use Rattle.std.specs.Prelude.{ℕ, zero, suc, List, Option, None, Some}
use Rattle.node.specs.declared.record.NodeId.{NodeId}
use Rattle.node.specs.declared.record.Node.{Node}
use Rattle.voice.specs.Policy.{victim}
use Rattle.voice.specs.Steals.{StealLog}
use Rattle.voice.specs.declared.policy.StealPolicy.{StealPolicy}
use Rattle.voice.specs.declared.voices.Voice.{Voice}
use Rattle.voice_rows.specs.Levels.{candidates_at}
use Rattle.model.specs.SharedState.{SharedState, with_steals}
use Rattle.voice.specs.Voice.{tracked_on, fades_on}
use Rattle.model.specs.Spawn.{voice_of, earliest, else_victim, next_out, reclaim_log}
use Rattle.model.specs.Model.{Model, port_free, cut_off}

-- who is removed, where no port is free
abbrev pub if_none : Option ℕ → Option Voice → Option Voice
if_none None o = o
if_none (Some p) o = None

abbrev pub leaving : NodeId → ℕ → Model → Option Voice
leaving bus rank m = if_none (port_free bus m) (next_out m.shared bus rank m.voices)

-- what the removal of a voice writes, by the state that it is in; and the store without it
abbrev pub removal_log : Voice → SharedState → StealLog
removal_log v d = reclaim_log v v.state d

abbrev pub cut_now : Voice → Model → Model
cut_now v m = cut_off v v.state m

abbrev pub go_on : Option Voice → Model → (Model → Model) → Model
go_on None m again = m
go_on (Some v) m again = again (cut_now v m)

-- what is left after at most so many removals
abbrev pub reclaimed : ℕ → NodeId → ℕ → Model → Model
reclaimed zero bus rank m = m
reclaimed (suc k) bus rank m = go_on (leaving bus rank m) m (λ j. reclaimed k bus rank j)

-- other steal records
abbrev pub restolen : StealLog → Model → Model
restolen b m = record { shared = with_steals b m.shared; voices = m.voices }

-- `next_out` over what it reads
abbrev pub next_at : List Node → ℕ → StealPolicy → NodeId → ℕ → List Voice → Option Voice
next_at ns clock policy bus rank vs = else_victim (earliest (fades_on bus) vs) (voice_of (victim policy rank (candidates_at ns clock (tracked_on bus) vs)) vs)
