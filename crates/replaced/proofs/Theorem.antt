-- Paper 9's theorem: for every list of calls from a newly made store, and so after each call of it.
use mathlib.Core.Path.{◌≡◌, sym, ap, ◌∙◌}
use mathlib.Core.List.{List, []}
use Rattle.std.specs.Prelude.{Some}
use Rattle.model.specs.Model.{Model}
use Rattle.model.specs.Make.{Making, make}
use Rattle.model.specs.Call.{Call, run}
use Rattle.replaced.specs.Kept.{with_queue, kept_run, lasts}
use Rattle.replaced.specs.Replaced.{Replaced}
use Rattle.replaced.proofs.Lasts.{thinned_lasts}
use Rattle.replaced.proofs.Related.{related_step, related_runs}
use Rattle.replaced.proofs.Told.{told_alike}

pub replaced_same : (k : Making) (m : Model) → make k ≡ Some m → (xs : List Call) → Replaced m xs
replaced_same k m accepted xs =
    let r = related_runs k m accepted xs in
    let t = r.0 in
    let a = (run xs m).model in
    let b = (kept_run xs m m).model in
    record {
      same = sym (ap (with_queue []) t.is);
      pending = thinned_lasts t.queue a.shared.events t.thin t.single ∙ ap (λ (y : Model). lasts y.shared.events) (sym t.is);
      answers = λ x. (related_step x a b r.1 t).answer;
      renders = λ out. told_alike a b r.1 t out;
    }
