use Rattle.std.specs.Prelude.{Err}
use mathlib.Core.Path.{◌≡◌, refl, ◌∙◌}
use Rattle.model.specs.Call as call
use Rattle.c_answer.proofs.Exporting.{tells}
use Rattle.memory.specs.Lent.{lent_page}
use Rattle.std.specs.Result.{result_unwrap_or}
use Rattle.node.specs.declared.refusal.Refusal as refusal
use Rattle.call_page.specs.Paged.{paged_of}
use Rattle.piecrag_c_read.proofs.Reading.{page_code}
use Rattle.piecrag_c_read.proofs.mix.piecrag_page.Goals as goal

pub returns : goal.returns
returns c =
    let a = c.args in
    let r = c.page-p in
    let read = c.state_in-s in
    let out = r.new.out in
    λ m.
    tells (call.ask (call.page a.out.now)) (call.ask (call.page a.out.now)) (λ s. lent_page s a.edges.now a.voices.now m) (λ s. lent_page s a.edges.now a.voices.now m) a.state.now read.result read.result (paged_of r.result out) refl read.ensures (r.ensures.is m)
    (λ p. paged_of p out) c.result_code.result (λ p. (c.unwrap_or.result ≡ result_unwrap_or p a.length.now) × ((x : refusal.Refusal) → p ≡ Err x → out ≡ a.out.now)) r.result refl (c.result_code.ensures ∙ page_code r.result out) (c.unwrap_or.ensures, r.ensures.same)
