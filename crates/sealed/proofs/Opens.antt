-- Which calls a seal leaves open, and when a board is sealed: the definitions say what specs/Opens states.
use Prim.Native.Nat.{ℕ, zero, suc}
use native.Mathlib.Omega.{arith}
use mathlib.Core.Path.{◌≡◌, refl, sym, ap, ◌∙◌}
use mathlib.Core.Logic.{◌↔◌}
use mathlib.Core.List.{List, [], ◌∷◌}
use mathlib.Core.Bool.{Bool, true, false, not, cond, true≢false}
use lib.Dec.{eqb, leb}
use lib.ListN.{get_or}
use borrow.Author.Tests.{le-leb, leb-true, eq-eqb, eqb-true, not-false}
use Rattle.std.specs.Prelude.{None, Some}
use Rattle.std.proofs.lemmas.Bool.{and_from}
use Rattle.lists.proofs.Member.{and_left, and_right, none_some}
use Rattle.store.specs.declared.wish.Wish.{Wish}
use Rattle.model.specs.Spawn.{Spawn}
use Rattle.model.specs.Call as call
use Rattle.model.specs.Wish.{spawn_in}
use Rattle.console.specs.Console.{ConsoleCall, console_step}
use Rattle.console.specs.Console as console
use Rattle.sealed.specs.declared.profile.Profile.{Profile}
use Rattle.sealed.specs.declared.refusal.SealRefusal.TheVariants.{NotAccepted, Closed}
use Rattle.sealed.specs.Seal.{Seal, accepts, Fits, within}
use Rattle.sealed.specs.Board.{Board, BoardAnswer, seal, given, sealed, refused, BoardStep, closes, closed, none_at, none_waits, sealable, refuses, passes, sealing, board_step}
use Rattle.sealed.specs.Opens.{Fitting, LeavesOpen, IsConsoles, Passes, NoWish, Sealing}
use Rattle.sealed.specs.Opens as opens
use Rattle.sealed.proofs.Accepts.{accepts_fits, fits_accepts}

-- ---- what fits
pub within_fitting : (s : Profile) (x : Spawn) → within s x ≡ true → Fitting s x.def x.bus
within_fitting s x h =
    let h₁ = and_right (eqb x.bus.0 s.bus.0) _ h in
    record {
      on_bus = eqb-true _ _ (and_left (eqb x.bus.0 s.bus.0) _ h);
      nodes = leb-true _ _ (and_left (leb x.def.nodes.count s.def_nodes) _ h₁);
      edges = leb-true _ _ (and_right (leb x.def.nodes.count s.def_nodes) _ h₁);
    }

pub fitting_within : (s : Profile) (x : Spawn) → Fitting s x.def x.bus → within s x ≡ true
fitting_within s x f = and_from _ _ (eq-eqb _ _ f.on_bus) (and_from _ _ (le-leb _ _ f.nodes) (le-leb _ _ f.edges))

-- ---- what is open
no_seal : {A : Type 0} → true ≡ false → A
no_seal e = absurd (true≢false e)

is_open : (s : Profile) (c : ConsoleCall) → closes s c ≡ false → LeavesOpen s c
is_open s (console.on (call.add_node kind ports required values glides)) e = no_seal e
is_open s (console.on (call.remove_node k)) e = no_seal e
is_open s (console.on (call.connect a b p)) e = no_seal e
is_open s (console.on (call.disconnect b p)) e = no_seal e
is_open s (console.on (call.set_sink k)) e = no_seal e
is_open s (console.on (call.spawn_managed x)) e = opens.spawn x (within_fitting s x (not-false _ e))
is_open s (console.on (call.spawn_loose x)) e = no_seal e
is_open s (console.on (call.free w)) e = opens.free w
is_open s (console.on call.clear) e = opens.clear
is_open s (console.on (call.order w name o)) e = opens.order w name o
is_open s (console.on (call.schedule t w name a)) e = opens.schedule t w name a
is_open s (console.on (call.report k channels samples flag)) e = opens.report k channels samples flag
is_open s (console.on call.prepare) e = opens.prepare
is_open s (console.on (call.render out)) e = opens.render out
is_open s (console.on (call.ask q)) e = opens.ask q
is_open s (console.wish q w) e =
    let h = not-false _ e in
    opens.wish q w (and_left w.managed _ h) (within_fitting s (spawn_in w) (and_right w.managed _ h))
is_open s console.turn e = opens.turn

open_is : (s : Profile) (c : ConsoleCall) → LeavesOpen s c → closes s c ≡ false
open_is s c (opens.spawn x f) = ap not (fitting_within s x f)
open_is s c (opens.wish q w m f) = ap not (and_from _ _ m (fitting_within s (spawn_in w) f))
open_is s c opens.turn = refl
open_is s c (opens.free w) = refl
open_is s c opens.clear = refl
open_is s c (opens.order w name o) = refl
open_is s c (opens.schedule t w name a) = refl
open_is s c (opens.report k channels samples flag) = refl
open_is s c opens.prepare = refl
open_is s c (opens.render out) = refl
open_is s c (opens.ask q) = refl

pub opens_exactly : (s : Profile) (c : ConsoleCall) → (closes s c ≡ false) ↔ LeavesOpen s c
opens_exactly s c = (is_open s c, open_is s c)

pub passes_exactly : (b : Board) (c : ConsoleCall) → Passes b c
passes_exactly b c =
    record {
      unsealed = λ e. through (ap (λ x. closed x c) e);
      opened = λ s e o. through (ap (λ x. closed x c) e ∙ open_is s c o);
      shut = λ s e n. ap stepped (ap (λ x. closed x c) e ∙ shut_by s n (closes s c) refl);
    }
  where
    stepped : Bool → BoardStep
    stepped t = cond t (refuses Closed b) (passes (console_step c b.console) b.seal)

    through : closed b.seal c ≡ false → IsConsoles b c
    through e = ap stepped e

    shut_by : (s : Profile) → (LeavesOpen s c → ⊥) → (t : Bool) → closes s c ≡ t → closes s c ≡ true
    shut_by s n true e = e
    shut_by s n false e = absurd (n (is_open s c e))

-- ---- when a board is sealed
none_from : (ls : List (List Wish)) → ((q : ℕ) → get_or ls q [] ≡ []) → none_waits ls ≡ true
none_from [] h = refl
none_from (l ∷ ls) h = and_from _ _ (ap none_at (h 0)) (none_from ls (λ q. h (suc q)))

from_none : (ls : List (List Wish)) → none_waits ls ≡ true → (q : ℕ) → get_or ls q [] ≡ []
from_none [] h q = refl
from_none (l ∷ ls) h zero = empty l (and_left (none_at l) _ h)
  where
    empty : (l : List Wish) → none_at l ≡ true → l ≡ []
    empty [] e = refl
    empty (w ∷ l) e = no_seal (sym e)
from_none (l ∷ ls) h (suc q) = from_none ls (and_right (none_at l) _ h) q

-- answers that differ
abbrev sort : BoardAnswer → ℕ
sort (given a) = 0
sort sealed = 1
sort (refused r) = 2

abbrev closes_it : BoardAnswer → ℕ
closes_it (given a) = 0
closes_it sealed = 0
closes_it (refused NotAccepted) = 0
closes_it (refused Closed) = 1

module _ (b : Board) (s : Profile) where
  abbrev fit : Type 0
  fit = Fits s b.console.model.shared b.console.model.voices × NoWish b

  fits : sealable s b.console ≡ true → fit
  fits e =
      let m = b.console.model in (
        accepts_fits s m.shared m.voices (and_left (accepts s m.shared m.voices) _ e),
        from_none b.console.wishes.waits (and_right (accepts s m.shared m.voices) _ e),
      )

  is_fit : fit → sealable s b.console ≡ true
  is_fit f = and_from _ _ (fits_accepts s b.console.model.shared b.console.model.voices f.0) (none_from b.console.wishes.waits f.1)

  -- what sealing comes to
  abbrev done : BoardStep
  done = record { answer = sealed; board = record { console = b.console; seal = Some s } }

  tried : b.seal ≡ None → (t : Bool) → sealable s b.console ≡ t → board_step (seal s) b ≡ cond t done (refuses NotAccepted b)
  tried e t f = ap (λ x. sealing x s b) e ∙ ap (λ u. cond u done (refuses NotAccepted b)) f

  answer : {t u : BoardStep} → t ≡ u → t.answer ≡ u.answer
  answer e = ap (λ (t : BoardStep). t.answer) e

  left : {t u : BoardStep} → t ≡ u → t.board ≡ u.board
  left e = ap (λ (t : BoardStep). t.board) e

  pub sealing_exactly : Sealing b s
  sealing_exactly = go b.seal refl
    where
      at : b.seal ≡ None → (t : Bool) → sealable s b.console ≡ t → Sealing b s
      at e true f =
          let is = tried e true f in
          record {
            accepted = (λ h. let g = fits f in (e, g.0, g.1), λ h. answer is);
            closed = (λ h. absurd (let z : ◌≡◌ {A = ℕ} 1 2 = ap sort (sym (answer is) ∙ h) in omega arith), λ n. absurd (n e));
            seals = λ h. left is;
            keeps = λ r h. absurd (let z : ◌≡◌ {A = ℕ} 1 2 = ap sort (sym (answer is) ∙ h) in omega arith);
          }
      at e false f =
          let is = tried e false f in
          record {
            accepted = (λ h. absurd (let z : ◌≡◌ {A = ℕ} 2 1 = ap sort (sym (answer is) ∙ h) in omega arith), λ h. no_seal (sym (is_fit (h.1, h.2)) ∙ f));
            closed = (λ h. absurd (let z : ◌≡◌ {A = ℕ} 0 1 = ap closes_it (sym (answer is) ∙ h) in omega arith), λ n. absurd (n e));
            seals = λ h. absurd (let z : ◌≡◌ {A = ℕ} 2 1 = ap sort (sym (answer is) ∙ h) in omega arith);
            keeps = λ r h. left is;
          }

      go : (x : Seal) → b.seal ≡ x → Sealing b s
      go None e = at e (sealable s b.console) refl
      go (Some t) e =
          let is : board_step (seal s) b ≡ refuses Closed b = ap (λ x. sealing x s b) e in
          record {
            accepted = (λ h. absurd (let z : ◌≡◌ {A = ℕ} 2 1 = ap sort (sym (answer is) ∙ h) in omega arith), λ h. absurd (none_some (sym h.0 ∙ e)));
            closed = (λ h n. none_some (sym n ∙ e), λ n. answer is);
            seals = λ h. absurd (let z : ◌≡◌ {A = ℕ} 2 1 = ap sort (sym (answer is) ∙ h) in omega arith);
            keeps = λ r h. left is;
          }
