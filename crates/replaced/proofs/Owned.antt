-- What `Applied` needs of a store holds after every list of calls: the node of a voice's parameter is one of its definition's nodes
-- (`Fits`), so it is the voice's own, by the ledger's `OwnNodes`; and ids of nodes are distinct, by the ledger's `Listed`.
use Prim.Native.Nat.{ℕ, ◌+◌, ◌≤◌, ◌<◌}
use native.Mathlib.Omega.{arith}
use mathlib.Core.Path.{◌≡◌, refl, sym, ap, ◌∙◌, subst}
use mathlib.Core.Logic.{⊎_elim}
use mathlib.Core.List.{List, [], ◌∷◌, ◌++◌, map}
use Rattle.std.specs.Prelude.{Option, None, Some, find, option_map, filter}
use mathlib.Core.Bool.{Bool, true, false, not, cond}
use lib.ListN.{length}
use lib.Dec.{ltb}
use borrow.Author.Tests.{ltb-true}
use Rattle.node.specs.declared.name.Name.{Name}
use Rattle.node.specs.declared.record.VoiceId.{VoiceId}
use Rattle.synthdef.specs.declared.def.Param.{Param}
use Rattle.synthdef.specs.declared.def.SynthDef.{SynthDef}
use Rattle.voice.specs.declared.voices.Voice.{Voice}
use Rattle.voice.specs.declared.voices.VoiceState.TheVariants.{Fading, Loose}
use Rattle.voice.specs.declared.voices.Fade.{Fade}
use Rattle.lists.specs.Member.{In}
use Rattle.lists.proofs.Member.{in_snoc, in_map, and_left, and_right, some_inj, none_some}
use Rattle.lists.proofs.Find.{find_in}
use Rattle.lists.proofs.Filter.{in_filter}
use Rattle.node.specs.Name.{named}
use Rattle.synthdef.specs.Rows.{every}
use Rattle.synthdef.proofs.Rows.{every_in}
use Rattle.synthdef.specs.Tables.{node_rows, edge_rows, param_rows}
use Rattle.synthdef.specs.Params.{called, param_node}
use Rattle.synthdef.specs.Limits.{counts_allowed, node_allowed, edge_allowed, param_allowed, allowed}
use Rattle.voice.specs.Voice.{id, is_voice, with_state, begin_fade, moved}
use Rattle.model.specs.Spawn.{Spawn, new_voice, state_under, tries, fade_of}
use Rattle.model.specs.Call.{Call}
use Rattle.ledger.specs.Ledger.{Ledger, port_held, stolen, steal_voice, place_within_budget}
use Rattle.ledger.specs.Render.{one_more}
use Rattle.ledger.specs.Call.{step}
use Rattle.ledger.proofs.Allowed.{spawn_allowed}
use Rattle.ledger.proofs.Preserved.{place_kept, Preserves, voices_only_spawn, both_preserved, kept_step_lem}
use Rattle.ledger.proofs.Managed.{IdsOf, managed_kept, ids_preserved, ids_budgeted, ids_steal}
use Rattle.ledger.proofs.Owner.{once}
use Rattle.ledger.proofs.Abstraction.{model_of, stored}
use Rattle.ledger.proofs.Nodes.{OwnNodes}
use Rattle.ledger.proofs.Simulation.{RunInvariant}
use Rattle.replaced.proofs.Applied.{Good}

-- ---- parameters name nodes of their definition
abbrev pub Fits : Voice → Type 0
Fits v = (p : Param) → In p (param_rows v.params) → p.node < v.count

abbrev pub FitsAll : List Voice → Type 0
FitsAll vs = (v : Voice) → In v vs → Fits v

abbrev pub FitsOf : Ledger → Type 0
FitsOf l = FitsAll l.voices

allowed_fits : (d : SynthDef) → allowed d ≡ true → (p : Param) → In p (param_rows d.params) → p.node < length (node_rows d.nodes)
allowed_fits d h p i =
    let n = length (node_rows d.nodes) in
    let h₁ = and_right (counts_allowed d.nodes.count d.edges.count d.params.count) _ h in
    let h₂ = and_right (every node_allowed (node_rows d.nodes)) _ h₁ in
    let h₃ = and_right (every (edge_allowed (node_rows d.nodes)) (edge_rows d.edges)) _ h₂ in
    let e : every (param_allowed n) (param_rows d.params) ≡ true = and_left (every (param_allowed n) (param_rows d.params)) _ h₃ in
    ltb-true _ _ (and_right (named p.name) (ltb p.node n) (every_in (param_allowed n) (param_rows d.params) p e i))

fits_filter : (t : Voice → Bool) (vs : List Voice) → FitsAll vs → FitsAll (filter t vs)
fits_filter t vs f v i = f v (in_filter t vs v i).0

fits_map : (g : Voice → Voice) → ((v : Voice) → ((g v).params ≡ v.params) × ((g v).count ≡ v.count)) → (vs : List Voice) → FitsAll vs → FitsAll (map g vs)
fits_map g same vs f v i =
    let r = in_map g vs v i in
    let s = same r.0 in
    subst Fits (sym r.2) (λ p j. subst (λ n. p.node < n) (sym s.1) (f r.0 r.1 p (subst (λ z. In p (param_rows z)) s.0 j)))

fits_snoc : (vs : List Voice) (v : Voice) → Fits v → FitsAll vs → FitsAll (vs ++ (v ∷ []))
fits_snoc vs v h f u i = ⊎_elim (f u) (λ e. subst Fits (sym e) h) (in_snoc vs v u i)

fits_begin : (w : VoiceId) (f : Fade) (v : Voice) → ((begin_fade w f v).params ≡ v.params) × ((begin_fade w f v).count ≡ v.count)
fits_begin w f v = go (is_voice w v)
  where
    go : (b : Bool) → ((cond b (with_state (Fading f) v) v).params ≡ v.params) × ((cond b (with_state (Fading f) v) v).count ≡ v.count)
    go true = (refl, refl)
    go false = (refl, refl)

fits_steal : (v : Voice) (l : Ledger) → FitsOf l → FitsOf (steal_voice v l)
fits_steal v l f = go (port_held v l)
  where
    go : (o : Option ℕ) → FitsOf (stolen v o l)
    go None = fits_filter (λ x. not (is_voice v.id x)) l.voices f
    go (Some p) = fits_map (begin_fade v.id (fade_of l.shared)) (fits_begin v.id (fade_of l.shared)) l.voices f

fits_budgeted : (spawn : Spawn) (l : Ledger) → allowed spawn.def ≡ true → FitsOf l → FitsOf (place_within_budget spawn l).ledger
fits_budgeted spawn l h f =
    place_kept spawn (state_under l.shared.config.budget) (λ n l. FitsOf l) (λ r. FitsOf r.ledger)
    (λ n l p e f. fits_snoc l.voices (new_voice spawn _ p l.shared) (allowed_fits spawn.def h) f) (λ l e f. f) (λ n l e g f. f)
    (λ n l v e g f. fits_filter (λ x. not (is_voice v.id x)) l.voices f) (tries l.shared.config.budget l.voices) l f

fits_preserved : Preserves FitsOf
fits_preserved =
    voices_only_spawn (λ c b n vs. FitsAll vs) (λ c b n vs w f. fits_filter (λ x. not (is_voice w x)) vs f) (λ c b n vs f. fits_map (moved one_more) (λ v. (refl, refl)) vs f)
    (λ l spawn p allow f. fits_snoc l.voices (new_voice spawn Loose p l.shared) (allowed_fits spawn.def allow.definition) f)

pub fits_step : (x : Call) (l : Ledger) → IdsOf l → FitsOf l → FitsOf (step x l).ledger
fits_step x l u f =
    (kept_step_lem (λ m. IdsOf m × FitsOf m) (both_preserved ids_preserved fits_preserved)
    (λ m spawn e h.
    let a = (spawn_allowed m.shared m.voices spawn.def spawn.bus spawn.rank e).definition in
    managed_kept spawn (λ r. IdsOf r.ledger × FitsOf r.ledger) m h.0 (λ z. h) (λ z. (ids_budgeted spawn m h.0, fits_budgeted spawn m a h.1))
    (λ p w z v i t. (ids_budgeted spawn (steal_voice v m) (ids_steal v m h.0), fits_budgeted spawn (steal_voice v m) a (fits_steal v m h.1))))
    x l (u, f)).1

-- ---- so a store that calls made is good
param_fits : (v : Voice) → Fits v → (name : Name) (i : ℕ) → param_node (param_rows v.params) name ≡ Some i → i < v.count
param_fits v f name i h = go (find (called name) (param_rows v.params)) refl h
  where
    go : (o : Option Param) → find (called name) (param_rows v.params) ≡ o → option_map (λ (p : Param). p.node) o ≡ Some i → i < v.count
    go None e z = absurd (none_some z)
    go (Some p) e z = subst (λ n. n < v.count) (some_inj z) (f p (find_in (called name) (param_rows v.params) p e).0)

pub good_of : (l : Ledger) → RunInvariant l → OwnNodes l → FitsOf l → Good (model_of l)
good_of l k q f =
    record {
      once = λ j. once k.sound.listed (id j);
      own = λ v i name j e x y h.
          let r = in_map (stored l) l.voices v i in
          let u = r.0 in
          let a : v.first.0 ≡ u.first.0 = ap (λ (z : Voice). z.first.0) r.2 in
          let b : v.id.0 ≡ u.id.0 = ap (λ (z : Voice). z.id.0) r.2 in
          let n : j < u.count = param_fits u (f u r.1) name j (ap (λ (z : Voice). param_node (param_rows z.params) name) (sym r.2) ∙ e) in
          let lo : u.first.0 ≤ x.id.0 = omega arith in
          let hi : x.id.0 < u.first.0 + u.count = omega arith in
          q.1.owned u r.1 x y lo hi ∙ sym b;
    }
