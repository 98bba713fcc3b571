use Rattle.std.proofs.Common.{rules, not}
use Rattle.arrayvec.proofs.ArrayVecLemmas.{filter-from_retain}
use Rattle.voice.specs.Voices.{is_any_of}
use Rattle.voice.proofs.voices.drop_any.Goals as goal

pub returns : goal.returns
returns c = filter-from_retain _ (λ v. not (is_any_of c.args.voices.now v)) _ (λ x b f y called. search rules) _ _ c.retain.ensures.filtered
