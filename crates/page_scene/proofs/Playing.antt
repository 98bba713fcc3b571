-- Calls one after the other, each by its contract.
use Rattle.std.specs.Prelude.{None, Some, ℕ, List, [], ◌∷◌, ◌++◌, false}
use mathlib.Core.Path.{◌≡◌, refl, sym, ap, ◌∙◌}
use lib.Ieee.{of_bits, binary32}
use Rattle.bus.specs.Rate.{rate_of}
use Rattle.voice.specs.declared.policy.StealPolicy.TheVariants.{Oldest}
use Rattle.voice.specs.declared.policy.BudgetScope.TheVariants.{Global}
use Rattle.model.specs.Model.{Model}
use Rattle.model.specs.Make.{Making, make, new_model, refusal_of}
use Rattle.model.specs.Call.{Call, Answer, Step, step, answer_to, page_answer}
use Rattle.model.specs.Call as call
use Rattle.model.specs.Page.{port_now, page}
use Rattle.model.specs.Scene.{further, page_config, printed}
use Rattle.engine.specs.Called.{Asked}
use Rattle.page_scene.specs.Played.{opening, turn, played, played_page}

-- one call, and the rest
pub and_then : (c : Call) (cs : List Call) (m n end : Model)
    → n ≡ (step c m).model → end ≡ further cs n → end ≡ further (c ∷ cs) m
and_then c cs m n end e f = f ∙ ap (further cs) e

pub further_both : (a b : List Call) (m : Model) → further (a ++ b) m ≡ further b (further a m)
further_both [] b m = refl
further_both (c ∷ a) b m = further_both a b (step c m).model

-- what the scene asks for, as the code writes it
abbrev pub asked : Making
asked =
    record { rate = of_bits binary32 0x45fa0000; block = 16; budget = Some 2; policy = Oldest; scope = Global; table = false }

pub not_refused : refusal_of asked ≡ None
unfolding of_bits rate_of
not_refused = refl

pub made : make asked ≡ Some (new_model page_config)
unfolding of_bits rate_of
made = refl

-- three turns from the opening on
pub all_played : (m n x y end : Model) → m ≡ new_model page_config → n ≡ further opening m → x ≡ further turn n
    → y ≡ further turn x → end ≡ further turn y → end ≡ played.model
unfolding played
all_played m n x y end a b c d e =
    let new = new_model page_config in
    let opened = further opening new in
    e ∙ ap (further turn) d ∙ ap (λ k. further turn (further turn k)) c
    ∙ ap (λ k. further turn (further turn (further turn k))) (b ∙ ap (further opening) a)
    ∙ sym (further_both opening (turn ++ (turn ++ turn)) new
    ∙ further_both turn (turn ++ turn) opened ∙ further_both turn turn (further turn opened))

-- the page of the scene
pub page_is : (s : Model) (a : Answer) (out : List ℕ) → Asked (call.page out) s a → s ≡ played.model
    → a ≡ page_answer printed out
page_is s a out e f =
    e ∙ ap (λ (m : Model). page_answer (page m.shared.clock (port_now m.shared.graph.edges) m.voices) out) f
    ∙ ap (λ (t : List ℕ). page_answer t out) played_page
