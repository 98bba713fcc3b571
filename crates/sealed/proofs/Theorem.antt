-- The promise of the seal, of every store that making gives, for every list of calls before the seal and every list that it let through.
use Prim.Native.Nat.{ℕ, ◌≤◌}
use mathlib.Core.Path.{◌≡◌, refl, sym, ap, ◌∙◌, subst}
use mathlib.Core.List.{List, [], ◌∷◌, ◌++◌, map}
use Rattle.std.specs.Prelude.{Option, Some}
use mathlib.Core.Bool.{true, false≢true}
use lib.ListN.{length, length-map}
use borrow.Author.Tests.{eqb-true, eq-eqb}
use Rattle.lists.specs.Member.{In}
use Rattle.lists.proofs.Member.{in_map}
use Rattle.node.specs.declared.record.VoiceId.{VoiceId}
use Rattle.node.specs.declared.refusal.Refusal.{Refusal}
use Rattle.bus.specs.Fade.{fade_length}
use Rattle.store.specs.declared.config.Config.{Config}
use Rattle.voice.specs.declared.voices.Voice.{Voice}
use Rattle.model.specs.Model.{Model}
use Rattle.model.specs.Make.{Making, config_of, make}
use Rattle.model.specs.Refuse.{spawn_refusal, no_ids}
use Rattle.refusals.proofs.Definition.{limits}
use Rattle.refusals.proofs.Spawn.{left_ids, admissible}
use Rattle.model.specs.Spawn.{Spawn}
use Rattle.model.specs.Call.{Call}
use Rattle.model.specs.Call as call
use Rattle.ledger.specs.Holder.{Holder, nobody, host, voice, by_voice}
use Rattle.ledger.specs.Ledger.{Ledger, new_ledger}
use Rattle.ledger.specs.Call.{run}
use Rattle.ledger.specs.Claim.{after, ledger_after, holder_at}
use Rattle.ledger.proofs.Claim.{claim}
use Rattle.ledger.proofs.History.{run_append}
use Rattle.ledger.proofs.Made.{made}
use Rattle.ledger.proofs.Store.{shown, store_of, store_step, store_after, kept_after, config_after, refusal_same}
use Rattle.sealed.specs.declared.profile.Profile.{Profile}
use Rattle.sealed.specs.Seal.{nobody_in, accepts, all_open}
use Rattle.sealed.specs.Sealed.{Promise, SealedRun}
use Rattle.sealed.proofs.Accepts.{fits_accepts}
use Rattle.sealed.proofs.Opens.{fitting_within}
use Rattle.sealed.proofs.Live.{live_step, live_new, LiveNodes}
use Rattle.sealed.proofs.Never.{Sealed, sealed_start, sealed_run, spawn_never_full, not_refused, voices_few, one_port}

live_run : (xs : List Call) (l : Ledger) → LiveNodes l → LiveNodes (run xs l).ledger
live_run [] l h = h
live_run (x ∷ xs) l h = live_run xs _ (live_step x l h)

-- what sealing tests does not see how far a fade has come
nobody_shown : (c : Config) (vs : List Voice) → nobody_in (map (shown c) vs) ≡ nobody_in vs
nobody_shown c [] = refl
nobody_shown c (v ∷ vs) = refl

is_by : (w : VoiceId) (x : Holder) → x ≡ voice w → by_voice w x ≡ true
is_by w x e = ap (by_voice w) e ∙ eq-eqb w.0 w.0 refl

by_is : (w : VoiceId) (x : Holder) → by_voice w x ≡ true → x ≡ voice w
by_is w nobody h = absurd (false≢true h)
by_is w (host k) h = absurd (false≢true h)
by_is w (voice u) h = ap (λ n. voice (record { 0 = n })) (eqb-true u.0 w.0 h)

module _ (k : Making) (m : Model) (accepted : make k ≡ Some m) (s : Profile) (before later : List Call) where
  abbrev c : Config
  c = config_of k

  abbrev xs : List Call
  xs = before ++ later

  abbrev l : Ledger
  l = ledger_after c xs

  fits : fade_length c.rate ≤ 18446744073709551615
  fits = (made k m accepted).length

  store : (ys : List Call) → after m ys ≡ store_of c (ledger_after c ys)
  store ys = ap (λ n. after n ys) (made k m accepted).new ∙ store_after c fits ys

  sealed_here : accepts s (after m before).shared (after m before).voices ≡ true → all_open s later ≡ true → Sealed s l
  sealed_here a o =
      let b = ledger_after c before in
      let a₁ : accepts s b.shared (map (shown c) b.voices) ≡ true = sym (ap (λ (n : Model). accepts s n.shared n.voices) (store before)) ∙ a in
      let a₂ : accepts s b.shared b.voices ≡ true = rw (sym (nobody_shown c b.voices)) a₁ in
      subst (Sealed s) (sym (run_append before later (new_ledger c))) (sealed_run s later b o (sealed_start s b (kept_after c fits before) (live_run before (new_ledger c) (live_new c)) a₂))

  held : (p : ℕ) → l.holders s.bus.0 p ≡ holder_at (after m xs).shared.graph.nodes (after m xs).shared.graph.edges s.bus.0 p
  held p = (claim k m accepted xs).holders s.bus.0 p

  -- a voice of the store, as the ledger has it
  ours : (v : Voice) → In v (after m xs).voices → (u : Voice) × In u l.voices × (v ≡ shown c u)
  ours v i = in_map (shown c) l.voices v (subst (λ (n : Model). In v n.voices) (store xs) i)

  promise : Sealed s l → Promise s (after m xs)
  promise q =
      record {
        never = λ x w e. spawn_never_full s x l q (fitting_within s x w) (sym (ap (λ (r : call.Step). r.answer) (ap (call.step (call.spawn_managed x)) (store xs) ∙ store_step c (call.spawn_managed x) l q.kept (config_after c fits xs))) ∙ e);
        spawns = λ x w low ok ids. (claim k m accepted xs).now.spawns x
            ((admissible (after m xs).shared (after m xs).voices x.def x.bus x.rank).0
            (ap (λ (z : Model). spawn_refusal_lem z x) (store xs) ∙ refusal_same c l.shared l.voices x.def x.bus x.rank
            ∙ not_refused s x l q (fitting_within s x w) low ((limits x.def).1 ok) (sym (ap (λ (z : Model). no_ids z.shared x.def) (store xs)) ∙ left_ids (after m xs).shared x.def ids)));
        holds = λ v i.
            let u = ours v i in
            let h = q.inside.holds u.0 u.1 in
            (h.0, h.1, sym (held h.0) ∙ by_is _ _ h.2 ∙ ap (λ (z : Voice). voice z.id) (sym u.2));
        one = λ v i p r a b.
            let u = ours v i in
            one_port s l q.kept.sound q.inside u.0 u.1 p r (mine u p a) (mine u r b);
        few = subst (λ n. n ≤ s.ports) (sym (ap (λ (z : Model). length z.voices) (store xs) ∙ length-map l.voices (shown c))) (voices_few s l q.kept.sound q.live.1 q.inside);
      }
    where
      spawn_refusal_lem : Model → Spawn → Option Refusal
      spawn_refusal_lem z x = spawn_refusal z.shared z.voices x.def x.bus x.rank

      mine : {v : Voice} (u : (u : Voice) × In u l.voices × (v ≡ shown c u)) (p : ℕ) → holder_at (after m xs).shared.graph.nodes (after m xs).shared.graph.edges s.bus.0 p ≡ voice v.id → by_voice u.0.id (l.holders s.bus.0 p) ≡ true
      mine u p e = is_by _ _ (held p ∙ e ∙ ap (λ (z : Voice). voice z.id) u.2)

pub sealed : (k : Making) (m : Model) → make k ≡ Some m → SealedRun m
sealed k m accepted s before later f o = promise k m accepted s before later (sealed_here k m accepted s before later (fits_accepts s _ _ f) o)
