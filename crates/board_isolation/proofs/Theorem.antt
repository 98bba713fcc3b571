-- No bus of a board hears another (SPEC 21.4). Sealings that agree with their answers leave two seals that are the same
-- up to the matching, and these close the same of the bus's spawns; so what was let through agrees as the calls of two
-- consoles do.
use Prim.Native.Nat.{ℕ}
use mathlib.Core.Path.{◌≡◌, refl, sym, ap, ap₂, ◌∙◌, subst}
use mathlib.Core.List.{List, [], ◌∷◌}
use Rattle.std.specs.Prelude.{Option, None, Some}
use mathlib.Core.Bool.{Bool, not, cond, ◌&&◌, true≢false}
use lib.Dec.{leb}
use Rattle.node.specs.declared.record.NodeId.{NodeId}
use Rattle.model.specs.Spawn.{Spawn}
use Rattle.model.specs.Make.{config_of}
use Rattle.model.specs.Call.{Call}
use Rattle.ledger.specs.Ledger.{Ledger, new_ledger}
use Rattle.console.specs.Console.{Console, store_calls}
use Rattle.console.specs.Console as console
use Rattle.console.specs.Begins.{Begins}
use Rattle.console.proofs.Begins.{begun}
use Rattle.isolation.specs.Agree.{Matching, OneToOne, SameSpawn, Agree}
use Rattle.isolation.specs.Agree as agree
use Rattle.isolation.proofs.Agreed.{matched_by}
use Rattle.console_isolation.specs.Isolated.{calls_from}
use Rattle.console_isolation.proofs.Theorem.{console_isolated}
use Rattle.sealed.specs.declared.profile.Profile.{Profile}
use Rattle.sealed.specs.declared.refusal.SealRefusal.TheVariants.{Closed}
use Rattle.sealed.specs.Seal.{Seal, within}
use Rattle.sealed.specs.Board.{BoardCall, BoardAnswer, given, sealed, refused, closed, new_board}
use Rattle.sealed.proofs.Boards.{board_claim}
use Rattle.board_isolation.specs.Agree.{Asked, sealing, passed, shut, ledger_by, SameProfile, SameSpawns, managed, loose, AgreeAsked}
use Rattle.board_isolation.specs.Agree as board
use Rattle.board_isolation.specs.Isolated.{seal_says, seal_tale, asked_of, let_through, BoardIsolated}
use Rattle.board_isolation.proofs.Marks.{seal_after, Marked, asked_marked, passed_of, passed_calls}

module _ (m : Matching) (nodes : OneToOne m.nodes) where
  -- ---- two seals that are the same up to the matching
  abbrev SameSeal : Seal → Seal → Type 0
  SameSeal None None = Unit {0}
  SameSeal None (Some t) = ⊥
  SameSeal (Some s) None = ⊥
  SameSeal (Some s) (Some t) = SameProfile m s t

  -- a sealing with its answer leaves such seals
  same_after : (a : BoardAnswer) (s t : Profile) (x y : Seal) → SameProfile m s t → SameSeal x y → SameSeal (seal_after a s x) (seal_after a t y)
  same_after sealed s t x y p e = p
  same_after (refused r) s t x y p e = e
  same_after (given c) s t x y p e = e

  -- and they close the same spawns
  same_within : (s t : Profile) (x y : Spawn) → SameProfile m s t → SameSpawn m x y → within s x ≡ within t y
  same_within s t x y p e =
      ap₂ (λ a b. a && b) (matched_by m nodes s.bus t.bus x.bus y.bus p.bus e.bus)
      (ap₂ (λ a b. a && b) (ap₂ (λ d n. leb d.nodes.count n) e.def p.def_nodes) (ap₂ (λ d n. leb d.edges.count n) e.def p.def_edges))

  same_closed : (x y : Seal) (c d : Call) → SameSeal x y → SameSpawns m c d → closed x (console.on c) ≡ closed y (console.on d)
  same_closed None None c d e f = refl
  same_closed None (Some t) c d e f = absurd e
  same_closed (Some s) None c d e f = absurd e
  same_closed (Some s) (Some t) _ _ e (managed {x = x} {y = y} f) = ap not (same_within s t x y e f)
  same_closed (Some s) (Some t) _ _ e (loose f) = refl

  -- ---- so what was let through agrees, and the seals have answered the same
  module _ (b₁ b₂ : NodeId) where
    record Alike (xs ys : List Asked) (k l : Ledger) : Type 0 where
      pub calls : Agree m b₁ b₂ (passed_of xs) k (passed_of ys) l
      pub seals : seal_tale b₁ xs k ≡ seal_tale b₂ ys l

    -- what the seals answer, given whether the first is the bus's
    abbrev tell : NodeId → Asked → List Asked → Ledger → Bool → List (Option BoardAnswer)
    tell b x xs k t = cond t (seal_says x ∷ seal_tale b xs (ledger_by x k)) (seal_tale b xs (ledger_by x k))

    alike : {xs ys : List Asked} {k l : Ledger} → AgreeAsked m b₁ b₂ xs k ys l → (x y : Seal) → SameSeal x y → Marked x xs → Marked y ys → Alike xs ys k l
    alike board.ends x y e f g = record { calls = agree.ends; seals = refl }
    alike (board.first {x = sealing s a} h r) x y e f g = absurd (true≢false h)
    alike (board.first {x = passed c} {xs = xs} {k = k} h r) x y e f g =
        let i = alike r x y e f.1 g in
        record { calls = agree.first h i.calls; seals = ap (tell b₁ (passed c) xs k) h ∙ i.seals }
    alike (board.first {x = shut c} {xs = xs} {k = k} h r) x y e f g =
        let i = alike r x y e f.1 g in
        record { calls = i.calls; seals = ap (tell b₁ (shut c) xs k) h ∙ i.seals }
    alike (board.second {y = sealing s a} h r) x y e f g = absurd (true≢false h)
    alike (board.second {y = passed c} {ys = ys} {l = l} h r) x y e f g =
        let i = alike r x y e f g.1 in
        record { calls = agree.second h i.calls; seals = i.seals ∙ sym (ap (tell b₂ (passed c) ys l) h) }
    alike (board.second {y = shut c} {ys = ys} {l = l} h r) x y e f g =
        let i = alike r x y e f g.1 in
        record { calls = i.calls; seals = i.seals ∙ sym (ap (tell b₂ (shut c) ys l) h) }
    alike (board.both {ys = ys} h₁ h₂ (board.sealings {s = s} {t = t} {a = a} p q) r) x y e f g =
        let i = alike r (seal_after a s x) (seal_after a t y) (same_after a s t x y p e) f (subst (λ c. Marked (seal_after c t y) ys) (sym q) g) in
        record { calls = i.calls; seals = ap₂ (λ c l. Some c ∷ l) q i.seals }
    alike (board.both {xs = xs} {ys = ys} {k = k} {l = l} h₁ h₂ (board.both_passed {x = c} {y = d} q) r) x y e f g =
        let i = alike r x y e f.1 g.1 in
        record { calls = agree.both h₁ h₂ q i.calls; seals = ap (tell b₁ (passed c) xs k) h₁ ∙ ap (λ t. None ∷ t) i.seals ∙ sym (ap (tell b₂ (passed d) ys l) h₂) }
    alike (board.both {xs = xs} {ys = ys} {k = k} {l = l} h₁ h₂ (board.both_shut {x = c} {y = d} q) r) x y e f g =
        let i = alike r x y e f.1 g.1 in
        record { calls = i.calls; seals = ap (tell b₁ (shut c) xs k) h₁ ∙ ap (λ t. Some (refused Closed) ∷ t) i.seals ∙ sym (ap (tell b₂ (shut d) ys l) h₂) }
    alike (board.both h₁ h₂ (board.first_shut {x = c} {y = d} q) r) x y e f g = absurd (true≢false (sym f.0 ∙ same_closed x y c d e q ∙ g.0))
    alike (board.both h₁ h₂ (board.second_shut {x = c} {y = d} q) r) x y e f g = absurd (true≢false (sym g.0 ∙ sym (same_closed x y c d e q) ∙ f.0))

-- ---- the stores of two consoles
pub board_isolated : BoardIsolated
board_isolated k n₁ n₂ c₁ c₂ e₁ e₂ per ids b₁ b₂ xs₁ xs₂ h₁ h₂ a =
    let r = alike ids a.nodes b₁ b₂ a.calls None None tt (marks c₁ xs₁) (marks c₂ xs₂) in
    record {
      seals = r.seals;
      console = console_isolated k n₁ n₂ c₁ c₂ e₁ e₂ per ids b₁ b₂ (let_through xs₁ c₁) (let_through xs₂ c₂) h₁ h₂
          (record { nodes = a.nodes; voices = a.voices; bus = a.bus; calls = calls r.calls });
      first = (board_claim k n₁ c₁ e₁ xs₁).console.console;
      second = (board_claim k n₂ c₂ e₂ xs₂).console.console;
    }
  where
    marks : (c : Console) (xs : List BoardCall) → Marked None (asked_of xs c)
    marks c xs = asked_marked c.model xs (new_board c) (record { calls = []; is = refl })

    calls_of : (n : ℕ) (c : Console) → Begins k n c → (xs : List BoardCall) → passed_of (asked_of xs c) ≡ calls_from n (let_through xs c)
    calls_of n c e xs = passed_calls xs (new_board c) ∙ ap (store_calls (let_through xs c)) (begun k n c e).wishes

    calls : Agree ids b₁ b₂ (passed_of (asked_of xs₁ c₁)) (new_ledger (config_of k)) (passed_of (asked_of xs₂ c₂)) (new_ledger (config_of k))
        → Agree ids b₁ b₂ (calls_from n₁ (let_through xs₁ c₁)) (new_ledger (config_of k)) (calls_from n₂ (let_through xs₂ c₂)) (new_ledger (config_of k))
    calls r =
        subst (λ ys. Agree ids b₁ b₂ (calls_from n₁ (let_through xs₁ c₁)) (new_ledger (config_of k)) ys (new_ledger (config_of k))) (calls_of n₂ c₂ e₂ xs₂)
        (subst (λ xs. Agree ids b₁ b₂ xs (new_ledger (config_of k)) (passed_of (asked_of xs₂ c₂)) (new_ledger (config_of k))) (calls_of n₁ c₁ e₁ xs₁) r)
