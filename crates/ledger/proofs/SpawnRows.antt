-- The refusals of a spawn as one list, from what is answered of a spawn that may come.
use Prim.Native.Nat.{ℕ, ◌≤◌, ◌<◌}
use native.Mathlib.Omega.{arith}
use mathlib.Core.Path.{◌≡◌, refl, sym, ap, ◌∙◌}
use mathlib.Core.Logic.{◌⊎◌, inl, inr}
use mathlib.Core.List.{List, [], ◌∷◌}
use mathlib.Core.Bool.{Bool, true, false, not, ◌||◌, true≢false, false≢true}
use Rattle.std.specs.Prelude.{Option, None, Some, Err}
use lib.Dec.{ltb}
use borrow.Author.Tests.{ltb-true, leb-true, le-leb, lt-ltb}
use Rattle.std.proofs.lemmas.Bool.{and_from, and_parts}
use Rattle.rank.proofs.Cycle.{in_upto, upto_in}
use Rattle.rank.specs.Order.{upto}
use Rattle.lists.specs.Member.{In}
use Rattle.lists.proofs.Member.{some_inj, none_some}
use Rattle.lists.specs.Count.{more, count}
use Rattle.synthdef.specs.Rows.{every}
use Rattle.synthdef.proofs.Rows.{every_in, in_every}
use Rattle.node.specs.declared.record.Node.{Node}
use Rattle.node.specs.declared.refusal.Refusal.{Refusal}
use Rattle.node.specs.declared.refusal.Refusal.TheVariants.{Rejected, NoPort}
use Rattle.graph.specs.Node.{node_at, ports_of}
use Rattle.graph.specs.Refuse.{when}
use Rattle.voice.specs.Policy.{at_budget}
use Rattle.voice.specs.declared.policy.StealPolicy.{StealPolicy}
use Rattle.voice.specs.declared.policy.StealPolicy.TheVariants as policy
use Rattle.store.specs.declared.config.Config.{Config}
use Rattle.voice.specs.declared.voices.Voice.{Voice}
use Rattle.voice.specs.Voice.{counted}
use Rattle.model.specs.Refuse.{or_else, spawn_refusal}
use Rattle.model.specs.Spawn.{Spawn, next_voice}
use Rattle.model.specs.Model.{Model}
use Rattle.model.specs.Call.{Call}
use Rattle.model.specs.Call as call
use Rattle.refusals.specs.First.{Told}
use Rattle.refusals.specs.Spawn.{May, SpawnAnswers}
use Rattle.refusals.proofs.First.{no_row, row}
use Rattle.refusals.proofs.Spawn.{managed_refuses, said, answers_by, answers_behind, kept_behind, rows_before}
use Rattle.ledger.specs.Claim.{steals, by_other, blocked, stays, outranked, answer_when, spawn_answer, managed_rows, managed_when, AtBudget, EachPort, port_holder}

-- ---- 11 and 12 as tests
every_port : (n : ℕ) (t : ℕ → Bool) → every t (upto n) ≡ true → (p : ℕ) → p < n → t p ≡ true
every_port n t h p l = every_in t (upto n) p h (in_upto n p l)

port_every : (n : ℕ) (t : ℕ → Bool) → ((p : ℕ) → p < n → t p ≡ true) → every t (upto n) ≡ true
port_every n t h = in_every t (upto n) (λ p i. h p (upto_in n p i))

-- a test that is no, though it would be yes
not_yes : (b : Bool) → b ≡ false → b ≡ true → ⊥
not_yes b e h = true≢false (sym h ∙ e)

steals_not : (t : StealPolicy) → not (steals t) ≡ true → t ≡ policy.Reject
steals_not policy.Reject e = refl
steals_not policy.Oldest e = absurd (false≢true e)
steals_not policy.Newest e = absurd (false≢true e)
steals_not policy.Quietest e = absurd (false≢true e)

module _ (x : Spawn) (s : Model) where
  abbrev k : Config
  k = s.shared.config

  budget_row : outranked k x.bus x.rank s.voices ≡ true → AtBudget x s
  budget_row h = go k.budget refl (and_parts (at_budget k.budget (count (counted k.scope x.bus) s.voices)) _ h)
    where
      outrank : every (stays k.scope x.bus x.rank) s.voices ≡ true → (v : Voice) → In v s.voices
          → counted k.scope x.bus v ≡ true → x.rank < v.rank
      outrank e v i t = two (counted k.scope x.bus v) t (every_in (stays k.scope x.bus x.rank) s.voices v e i)
        where
          two : (b : Bool) → b ≡ true → (not b || ltb x.rank v.rank) ≡ true → x.rank < v.rank
          two false q p = absurd (false≢true q)
          two true q p = ltb-true _ _ p

      nobody : (b e : Bool) → not (steals k.policy) ≡ b → every (stays k.scope x.bus x.rank) s.voices ≡ e → (b || e)
          ≡ true
          → (k.policy ≡ policy.Reject) ⊎ ((v : Voice) → In v s.voices → counted k.scope x.bus v ≡ true
          → x.rank < v.rank)
      nobody true e p q t = inl (steals_not k.policy p)
      nobody false true p q t = inr (outrank q)
      nobody false false p q t = absurd (false≢true t)

      go : (o : Option ℕ) → k.budget ≡ o → (at_budget k.budget (count (counted k.scope x.bus) s.voices) ≡ true)
          × ((not (steals k.policy) || every (stays k.scope x.bus x.rank) s.voices) ≡ true) → AtBudget x s
      go None e r = absurd (false≢true (sym (ap (λ o. at_budget o (count (counted k.scope x.bus) s.voices)) e) ∙ r.0))
      go (Some n) e r =
          record {
            most = n;
            budget = e;
            reached = leb-true _ _ (sym (ap (λ o. at_budget o (count (counted k.scope x.bus) s.voices)) e) ∙ r.0);
            nobody = nobody (not (steals k.policy)) (every (stays k.scope x.bus x.rank) s.voices) refl refl r.1;
          }

  row_budget : AtBudget x s → outranked k x.bus x.rank s.voices ≡ true
  row_budget a = and_from _ _ (ap (λ o. at_budget o (count (counted k.scope x.bus) s.voices)) a.budget
      ∙ le-leb _ _ a.reached) (go a.nobody)
    where
      or_true : (t : Bool) → (t || true) ≡ true
      or_true true = refl
      or_true false = refl

      stay : (v : Voice) → (counted k.scope x.bus v ≡ true → x.rank < v.rank) → stays k.scope x.bus x.rank v ≡ true
      stay v h = two (counted k.scope x.bus v) h
        where
          two : (b : Bool) → (b ≡ true → x.rank < v.rank) → (not b || ltb x.rank v.rank) ≡ true
          two false q = refl
          two true q = lt-ltb _ _ (q refl)

      go : (k.policy ≡ policy.Reject) ⊎ ((v : Voice) → In v s.voices → counted k.scope x.bus v ≡ true → x.rank < v.rank)
          → (not (steals k.policy) || every (stays k.scope x.bus x.rank) s.voices) ≡ true
      go (inl e) = ap (λ t. not (steals t) || every (stays k.scope x.bus x.rank) s.voices) e
      go (inr f) = ap (λ t. not (steals k.policy) || t)
          (in_every (stays k.scope x.bus x.rank) s.voices (λ v i. stay v (f v i))) ∙ or_true (not (steals k.policy))

  abbrev ns : List Node
  ns = s.shared.graph.nodes

  abbrev ports : ℕ
  ports = ports_of (node_at ns x.bus)

  blocked_row : blocked x.bus x.rank s ≡ true
      → EachPort x.bus s (λ p. by_other k.policy x.bus x.rank s.voices (port_holder x.bus s p) ≡ true)
  blocked_row h = every_port ports (λ p. by_other k.policy x.bus x.rank s.voices (port_holder x.bus s p)) h

  row_blocked : EachPort x.bus s (λ p. by_other k.policy x.bus x.rank s.voices (port_holder x.bus s p) ≡ true)
      → blocked x.bus x.rank s ≡ true
  row_blocked h = port_every ports (λ p. by_other k.policy x.bus x.rank s.voices (port_holder x.bus s p)) h

  -- ---- 11 and 12 behind the rows
  abbrev rest : Option Refusal
  rest = when (outranked k x.bus x.rank s.voices) Rejected (when (blocked x.bus x.rank s) NoPort None)

  rest_told : Told (managed_when x s) (Rejected ∷ NoPort ∷ []) rest
  rest_told =
      row (outranked k x.bus x.rank s.voices) Rejected _ (managed_when x s) _ budget_row
      (λ e h. not_yes _ e (row_budget h))
      (row (blocked x.bus x.rank s) NoPort None (managed_when x s) [] blocked_row (λ e h. not_yes _ e (row_blocked h))
      (no_row (managed_when x s)))

  answer_said : (a b : Bool) → answer_when a b (next_voice s.shared)
      ≡ said (next_voice s.shared) (when a Rejected (when b NoPort None))
  answer_said true b = refl
  answer_said false true = refl
  answer_said false false = refl

  module _ (may_answer : May x s → (call.step (call.spawn_managed x) s).answer
      ≡ call.spawned (spawn_answer x.bus x.rank s)) where
    rest_kept : (a b : Bool) → outranked k x.bus x.rank s.voices ≡ a → blocked x.bus x.rank s ≡ b → May x s
        → (r : Refusal) → when a Rejected (when b NoPort None) ≡ Some r
        → (r ≡ NoPort) ⊎ ((call.step (call.spawn_managed x) s).model ≡ s)
    rest_kept true b e f y r h = inr ((managed_refuses x s).rejected
        (may_answer y ∙ ap (λ t. call.spawned (answer_when t (blocked x.bus x.rank s) (next_voice s.shared))) e))
    rest_kept false true e f y r h = inl (sym (some_inj h))
    rest_kept false false e f y r h = absurd (none_some h)

    pub managed_answers : SpawnAnswers (managed_when x s) managed_rows (call.spawn_managed x) s
    managed_answers =
        answers_by (managed_when x s) managed_rows (call.spawn_managed x) s
        (or_else (spawn_refusal s.shared s.voices x.def x.bus x.rank) rest)
        (rows_before x s (managed_when x s) (Rejected ∷ NoPort ∷ []) rest
        (record {
          rank = (λ h. h, λ h. h);
          definition = (λ h. h, λ h. h);
          unknown = (λ h. h, λ h. h);
          voices =
              (λ h. h, λ h. h);
          portless = (λ h. h, λ h. h);
          full = (λ h. h, λ h. h);
          spent =
              (λ h. h, λ h. h);
        }) rest_told)
        (answers_behind x (call.spawn_managed x) s rest (managed_refuses x s)
        (λ y. may_answer y ∙ ap call.spawned
        (answer_said (outranked k x.bus x.rank s.voices) (blocked x.bus x.rank s))))
        (kept_behind x (call.spawn_managed x) s rest (managed_refuses x s)
        (rest_kept (outranked k x.bus x.rank s.voices) (blocked x.bus x.rank s) refl refl))

    -- a budget of 0, under which nobody counts
    pub none_let : k.budget ≡ Some 0 → count (counted k.scope x.bus) s.voices ≤ 0 → May x s
        → (call.step (call.spawn_managed x) s).answer ≡ call.spawned (Err Rejected)
    none_let b n y =
        may_answer y ∙ ap (λ t. call.spawned (answer_when t (blocked x.bus x.rank s) (next_voice s.shared)))
        (row_budget (record {
          most = 0;
          budget = b;
          reached = omega arith;
          nobody = inr
              (λ v i t. absurd (nobody s.voices n v i t));
        }))
      where
        nobody : (vs : List Voice) → count (counted k.scope x.bus) vs ≤ 0 → (v : Voice) → In v vs
            → counted k.scope x.bus v ≡ true → ⊥
        nobody [] h v i t = i
        nobody (u ∷ vs) h v i t = go (counted k.scope x.bus u) refl h i (nobody vs)
          where
            go : (b : Bool) → counted k.scope x.bus u ≡ b → more b (count (counted k.scope x.bus) vs) ≤ 0
                → In v (u ∷ vs) → (count (counted k.scope x.bus) vs ≤ 0 → (v : Voice) → In v vs
                → counted k.scope x.bus v ≡ true → ⊥) → ⊥
            go true e h i below = omega arith
            go false e h (inl q) below = true≢false (sym (sym (ap (counted k.scope x.bus) q) ∙ t) ∙ e)
            go false e h (inr j) below = below h v j t
