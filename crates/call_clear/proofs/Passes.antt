-- One pass over the voices, and both.
use Prim.Native.Nat.{ℕ, ◌+◌, ◌/◌, min}
use native.Mathlib.Omega.{arith}
use mathlib.Core.Path.{◌≡◌, refl, sym, ap, ◌∙◌}
use mathlib.Core.List.{List, [], ◌∷◌, map}
use mathlib.Core.Bool.{Bool}
use lib.ListN.{length, take, length-map}
use Rattle.std.specs.Prelude.{filter}
use Rattle.words.proofs.InPlace.{Gathering}
use Rattle.words.proofs.InWords.{take_count}
use Rattle.voice.specs.declared.voices.Voice.{Voice}
use Rattle.model.specs.SharedState.{length_l}
use Rattle.model.specs.Model.{Model, without_voice}
use Rattle.model.specs.Call.{Step, step, clear, removed}
use Rattle.model.specs.Clear.{Cleared, without_voices, is_silent}
use Rattle.voice_rows.specs.Rows.{voice_of, voices_in}
use Rattle.call_free.specs.Forgotten.{without_ids}
use Rattle.call_clear.specs.Passes.{has_faded, Gathered}

abbrev pub id_of : Voice → ℕ
id_of v = v.id.0

-- ---- gathering the ids
pub gathered : (q : Voice → Bool) (c : List ℕ) (count i k : ℕ) (ids : List ℕ) → length c ≡ 9152 → i ≡ min count 64 → Gathering q id_of 64 (voices_in c) ids i k
    → Gathered q (take count (voices_in c)) (record { rows = ids; count = k })
gathered q c count i k ids h end g =
    let all : i ≡ min count (length c / 143) = end ∙ ap (λ x. min count (x / 143)) (sym h) in
    let fits : min k 64 ≡ k = omega (arith, g.low) in
    ap (λ n. take n ids) fits ∙ g.front ∙ ap (λ l. map id_of (filter q l)) (take_count 143 voice_of c count i all)

-- ---- removing them
by_ids : (vs : List Voice) (m : Model) → without_ids (map id_of vs) m ≡ without_voices vs m
by_ids [] m = refl
by_ids (v ∷ vs) m = by_ids vs (without_voice v.id m)

-- of these voices those that pass a test are removed
abbrev cleared_by : (Voice → Bool) → Model → Cleared
cleared_by q m = record { removed = length (filter q m.voices); model = without_voices (filter q m.voices) m }

pass_whole : (q : Voice → Bool) (ids : List ℕ) (m k : Model) → ids ≡ map id_of (filter q m.voices) → k ≡ without_ids ids m
    → ◌≡◌ {A = Cleared} (record { removed = length ids; model = k }) (cleared_by q m)
pass_whole q ids m k g e =
    let goes = filter q m.voices in
    let count : length ids ≡ length goes = ap length g ∙ length-map goes id_of in
    let left : k ≡ without_voices goes m = e ∙ ap (λ l. without_ids l m) g ∙ by_ids goes m in
    ap (λ x. record { removed = x; model = k }) count ∙ ap (λ x. record { removed = length goes; model = x }) left

-- the answer is the sum of both passes
abbrev both : Cleared → Cleared → Step
both a b = record { answer = removed (a.removed + b.removed); model = b.model }

-- the model m, what the first pass leaves of it, and what the second leaves of that, with the ids that each removes
module _ (m f d : Model) (len : ℕ) (faded silent : List ℕ) where
  pub clear_whole : len ≡ length_l m.shared → faded ≡ map id_of (filter (has_faded len) m.voices) → f ≡ without_ids faded m
      → silent ≡ map id_of (filter (is_silent f.shared.graph.nodes) f.voices) → d ≡ without_ids silent f
      → ◌≡◌ {A = Step} (record { answer = removed (length faded + length silent); model = d }) (step clear m)
  clear_whole l g e h k =
      let first = pass_whole (has_faded len) faded m f g e ∙ ap (λ x. cleared_by (has_faded x) m) l in
      let second = pass_whole (is_silent f.shared.graph.nodes) silent f d h k in
      let left : f ≡ without_voices (filter (has_faded (length_l m.shared)) m.voices) m = ap (λ (x : Cleared). x.model) first in
      ap (λ x. both (record { removed = length faded; model = f }) x) second ∙ ap (λ x. both x (cleared_by (is_silent f.shared.graph.nodes) f)) first
      ∙ ap (λ x. both (cleared_by (has_faded (length_l m.shared)) m) (cleared_by (is_silent x.shared.graph.nodes) x)) left
