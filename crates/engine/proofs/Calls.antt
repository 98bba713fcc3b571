-- One call more, and the claim.
use Rattle.std.proofs.Common.{◌≡◌, ◌<◌, ◌∙◌, ap, sym, refl, subst, List, [], ◌∷◌, ◌++◌, ℕ}
use Rattle.lists.specs.Member.{In}
use Rattle.model.specs.Call.{Call, Answer, Step, step, run}
use Rattle.model.specs.Make.{config_of}
use Rattle.model.specs.Model.{Model}
use Rattle.model.specs.SharedState.{SharedState}
use Rattle.ledger.specs.Claim.{ledger_after, node_ids}
use Rattle.ledger.proofs.Made.{made}
use Rattle.ledger.proofs.Since.{nodes_after_lem}
use Rattle.ledger.proofs.Store.{config_after}
use Rattle.ledger.proofs.Claim.{claim}
use Rattle.replaced.proofs.Theorem.{replaced_same}
use Rattle.engine.specs.Called.{Called}
use Rattle.engine.specs.Reached.{Reached, Claimed}

one_more : (cs : List Call) (c : Call) (m : Model)
    → (run (cs ++ c ∷ []) m).model ≡ (step c (run cs m).model).model
one_more [] c m = refl
one_more (d ∷ cs) c m = one_more cs c (step d m).model

pub next : (c : Call) {m : Model} {a : Answer} {n : Model} → Reached m → Called c m a n → Reached n
next c r e =
    record {
      making = r.making;
      new = r.new;
      accepted = r.accepted;
      calls = r.calls ++ c ∷ [];
      is = ap (λ (s : Step). s.model) e ∙ ap (λ m. (step c m).model) r.is ∙ sym (one_more r.calls c r.new);
    }

pub claimed : {m : Model} → Reached m → Claimed m
claimed {m} r =
    let c = config_of r.making in
    let k = claim r.making r.new r.accepted r.calls in
    let same : m.shared ≡ (ledger_after c r.calls).shared = ap (λ (n : Model). n.shared) r.is ∙ k.shared in
    record {
      reached = r;
      config =
          ap (λ (d : SharedState). d.config) same ∙ config_after c (made r.making r.new r.accepted).length r.calls;
      ids =
          subst (λ (d : SharedState). (j : ℕ) → In j (node_ids d.graph.nodes) → j < d.graph.next) (sym same)
          (nodes_after_lem c [] r.calls).below;
      claim = k;
      replaced = replaced_same r.making r.new r.accepted r.calls;
    }
