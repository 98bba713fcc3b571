-- The records of a bus among the steal records of all: an item for each record that its spawns wrote, with the number that the record has
-- there. What is still held under that number is the item's record, whatever other buses write and mark.
use Prim.Native.Nat.{ℕ, ◌+◌, ◌<◌}
use native.Mathlib.Omega.{arith}
use mathlib.Core.Path.{◌≡◌, refl, sym, ap, ◌∙◌, subst}
use mathlib.Core.Logic.{◌⊎◌, ⊎_elim}
use mathlib.Core.List.{List, [], ◌∷◌, ◌++◌, map}
use Rattle.std.specs.Prelude.{Option, None, Some}
use mathlib.Core.Bool.{Bool, true, false, cond}
use lib.Dec.{eqb}
use borrow.Author.Tests.{eqb-true, eqb-false}
use Rattle.lists.specs.Member.{In}
use Rattle.lists.proofs.Member.{in_map, in_of_map, in_snoc, some_inj, none_some}
use Rattle.node.specs.declared.record.NodeId.{NodeId}
use Rattle.voice.specs.Steals.{StealLog, pushed, marked, cut_of}
use Rattle.voice.specs.declared.steals.StealRecord.{StealRecord}
use Rattle.voice.specs.declared.voices.Voice.{Voice}
use Rattle.voice.specs.declared.voices.VoiceState.{VoiceState}
use Rattle.voice.specs.declared.voices.VoiceState.TheVariants.{Tracked, Fading, Loose}
use Rattle.voice.specs.declared.voices.Fade.{Fade}
use Rattle.voice.specs.Voice.{is_on}
use Rattle.ledger.specs.Ledger.{Ledger}
use Rattle.ledger.specs.Claim.{Newest, held_record, cut_found}
use Rattle.ledger.proofs.StealLog.{held_pushed, held_new, held_marked, held_unmarked, count_pushed}
use Rattle.isolation.proofs.Bus.{BusPorts}
use Rattle.isolation.proofs.Part.{ports_now}
use Rattle.isolation.proofs.Acts.{HeldRecord}

pub record Item : Type 0 where
  pub at : ℕ
  pub voice : ℕ
  pub what : StealRecord

abbrev pub strip : Item → HeldRecord
strip x = record { voice = x.voice; what = x.what }

abbrev pub cut_item : ℕ → Item → Item
cut_item s x = record { at = x.at; voice = x.voice; what = cond (eqb x.voice s) (cut_of x.what) x.what }

-- over the log, the bus's sequence and the voices
pub record BusRecords (b : NodeId) (ts : List Item) (log : StealLog) (U : ℕ → Type 0) (vs : List Voice) : Type 0 where
  pub same : (x : Item) → In x ts → (r : StealRecord) → held_record log x.at ≡ Some r → x.what ≡ r
  -- a fade of the bus has an item of its number; a fade of another bus has none
  pub tags : (v : Voice) → In v vs → is_on b v ≡ true → (f : Fade) → v.state ≡ Fading f → (x : Item) × In x ts × (x.at ≡ f.number) × (x.voice ≡ v.sequence)
  pub foreign : (v : Voice) → In v vs → is_on b v ≡ false → (f : Fade) → v.state ≡ Fading f → (x : Item) → In x ts → x.at ≡ f.number → ⊥
  pub once : (x y : Item) → In x ts → In y ts → x.voice ≡ y.voice → x ≡ y
  pub apart : (x y : Item) → In x ts → In y ts → x.at ≡ y.at → x ≡ y
  pub unlisted : (v : Voice) → In v vs → is_on b v ≡ true → v.state ≡ Tracked → (x : Item) → In x ts → x.voice ≡ v.sequence → ⊥
  pub below : (x : Item) → In x ts → x.at < log.count
  pub numbered : (x : Item) → In x ts → U x.voice

-- the bus was added, and its noise sequence is above the number, while it lives
abbrev pub UnderR : Option BusPorts → ℕ → Type 0
UnderR None s = Unit {0}
UnderR (Some r) s = s < r.noise

abbrev pub UnderOn : NodeId → Ledger → ℕ → Type 0
UnderOn b l s = (b.0 < l.shared.graph.next) × UnderR (ports_now b l.shared.graph.nodes) s

abbrev pub BusRecordsOf : NodeId → List Item → Ledger → Type 0
BusRecordsOf b ts l = BusRecords b ts l.shared.steals (UnderOn b l) l.voices

-- ---- voices go, or change without their fades, or come without one
-- a voice as it was, but for how far its fade has come
pub record Was (vs : List Voice) (v : Voice) : Type 0 where
  pub old : Voice
  pub member : In old vs
  pub bus : v.bus.0 ≡ old.bus.0
  pub number : v.sequence ≡ old.sequence
  pub fade : (f : Fade) → v.state ≡ Fading f → (g : Fade) × (old.state ≡ Fading g) × (g.number ≡ f.number)
  pub held : v.state ≡ Tracked → old.state ≡ Tracked

abbrev pub Old : List Voice → Voice → Type 0
Old vs v = Was vs v ⊎ (v.state ≡ Loose)

loose_not : {s : VoiceState} {f : Fade} → s ≡ Loose → s ≡ Fading f → ⊥
loose_not e h = let z : ◌≡◌ {A = ℕ} 0 1 = cc in omega arith

loose_untracked : {s : VoiceState} → s ≡ Loose → s ≡ Tracked → ⊥
loose_untracked e h = let z : ◌≡◌ {A = ℕ} 0 1 = cc in omega arith

pub was_self : (vs : List Voice) (v : Voice) → In v vs → Was vs v
was_self vs v i = record { old = v; member = i; bus = refl; number = refl; fade = λ f e. (f, e, refl); held = λ e. e }

module _ {b : NodeId} {ts : List Item} {log : StealLog} {U : ℕ → Type 0} {vs : List Voice} (k : BusRecords b ts log U vs) where
  pub records_next : (U' : ℕ → Type 0) (vs' : List Voice) → ((s : ℕ) → U s → U' s) → ((v : Voice) → In v vs' → Old vs v) → BusRecords b ts log U' vs'
  records_next U' vs' up old =
      record {
        same = k.same;
        tags = λ v i on f e. ⊎_elim (λ (w : Was vs v). let g = w.fade f e in let r = k.tags w.old w.member (ap (λ n. eqb n b.0) (sym w.bus) ∙ on) g.0 g.1 in (r.0, r.1, r.2 ∙ g.2, r.3 ∙ sym w.number)) (λ z. absurd (loose_not z e)) (old v i);
        foreign = λ v i off f e x j h. ⊎_elim (λ (w : Was vs v). let g = w.fade f e in k.foreign w.old w.member (ap (λ n. eqb n b.0) (sym w.bus) ∙ off) g.0 g.1 x j (h ∙ sym g.2)) (λ z. loose_not z e) (old v i);
        once = k.once;
        apart = k.apart;
        unlisted = λ v i on e x j h. ⊎_elim (λ (w : Was vs v). k.unlisted w.old w.member (ap (λ n. eqb n b.0) (sym w.bus) ∙ on) (w.held e) x j (h ∙ w.number)) (λ z. loose_untracked z e) (old v i);
        below = k.below;
        numbered = λ x i. up x.voice (k.numbered x i);
      }

  -- ---- a new voice on the bus, or on another one
  pub records_instantiate : (U' : ℕ → Type 0) (u : Voice) → ((s : ℕ) → U s → U' s) → ((f : Fade) → u.state ≡ Fading f → ⊥) → (is_on b u ≡ true → (s : ℕ) → U s → s ≡ u.sequence → ⊥) → BusRecords b ts log U' (vs ++ (u ∷ []))
  records_instantiate U' u up unfaded number =
      record {
        same = k.same;
        tags = λ v i on f e. ⊎_elim (λ j. k.tags v j on f e) (λ z. absurd (unfaded f (ap (λ (y : Voice). y.state) (sym z) ∙ e))) (in_snoc vs u v i);
        foreign = λ v i off f e. ⊎_elim (λ j. k.foreign v j off f e) (λ z. absurd (unfaded f (ap (λ (y : Voice). y.state) (sym z) ∙ e))) (in_snoc vs u v i);
        once = k.once;
        apart = k.apart;
        unlisted = λ v i on e x j h. ⊎_elim (λ m. k.unlisted v m on e x j h) (λ z. number (ap (is_on b) (sym z) ∙ on) x.voice (k.numbered x j) (h ∙ ap (λ (y : Voice). y.sequence) z)) (in_snoc vs u v i);
        below = k.below;
        numbered = λ x i. up x.voice (k.numbered x i);
      }

  -- ---- a record of another bus is written, or marked
  module _ (r : StealRecord) (w : Newest log) (small : log.count < 18446744073709551615) where
    same_pushed : (x : Item) → In x ts → (s : StealRecord) → held_record (pushed log r) x.at ≡ Some s → x.what ≡ s
    same_pushed x i s e = ⊎_elim (λ h. k.same x i s (sym h ∙ e)) (λ h. absurd (none_some (sym h.0 ∙ e))) (held_pushed log r small w x.at (k.below x i))

    more : (pushed log r).count ≡ log.count + 1
    more = count_pushed log r small

    pub records_pushed : BusRecords b ts (pushed log r) U vs
    records_pushed =
        record { same = same_pushed; tags = k.tags; foreign = k.foreign; once = k.once; apart = k.apart; unlisted = k.unlisted; below = λ x i. let m = more in omega (arith, m, k.below x i); numbered = k.numbered }

    -- a record of this bus, of the tracked voice g
    module _ (g : Voice) (i : In g vs) (on : is_on b g ≡ true) (held : g.state ≡ Tracked) (under : U g.sequence) where
      abbrev new : Item
      new = record { at = log.count; voice = g.sequence; what = r }

      pub same_own : (x : Item) → In x (ts ++ (new ∷ [])) → (s : StealRecord) → held_record (pushed log r) x.at ≡ Some s → x.what ≡ s
      same_own x j s e =
          ⊎_elim (λ m. same_pushed x m s e)
          (λ z. ap (λ (y : Item). y.what) z ∙ some_inj (sym (held_new log r small w) ∙ ap (λ (y : Item). held_record (pushed log r) y.at) (sym z) ∙ e)) (in_snoc ts new x j)

      pub once_own : (x y : Item) → In x (ts ++ (new ∷ [])) → In y (ts ++ (new ∷ [])) → x.voice ≡ y.voice → x ≡ y
      once_own x y a c e =
          ⊎_elim (λ m. ⊎_elim (λ n. k.once x y m n e) (λ z. absurd (k.unlisted g i on held x m (e ∙ ap (λ (u : Item). u.voice) z))) (in_snoc ts new y c))
          (λ z. ⊎_elim (λ n. absurd (k.unlisted g i on held y n (sym e ∙ ap (λ (u : Item). u.voice) z))) (λ n. z ∙ sym n) (in_snoc ts new y c)) (in_snoc ts new x a)

      pub apart_own : (x y : Item) → In x (ts ++ (new ∷ [])) → In y (ts ++ (new ∷ [])) → x.at ≡ y.at → x ≡ y
      apart_own x y a c e =
          ⊎_elim (λ m. ⊎_elim (λ n. k.apart x y m n e) (λ z. let s : y.at ≡ log.count = ap (λ (u : Item). u.at) z in absurd (omega (arith, s, e, k.below x m))) (in_snoc ts new y c))
          (λ z. ⊎_elim (λ n. let s : x.at ≡ log.count = ap (λ (u : Item). u.at) z in absurd (omega (arith, s, e, k.below y n))) (λ n. z ∙ sym n) (in_snoc ts new y c)) (in_snoc ts new x a)

      pub below_own : (x : Item) → In x (ts ++ (new ∷ [])) → x.at < (pushed log r).count
      below_own x j = let m = more in ⊎_elim (λ n. omega (arith, m, k.below x n)) (λ z. let s : x.at ≡ log.count = ap (λ (u : Item). u.at) z in omega (arith, m, s)) (in_snoc ts new x j)

      pub numbered_own : (x : Item) → In x (ts ++ (new ∷ [])) → U x.voice
      numbered_own x j = ⊎_elim (k.numbered x) (λ z. subst U (sym (ap (λ (u : Item). u.voice) z)) under) (in_snoc ts new x j)

  -- another bus's record is marked: no item has its number
  pub records_marked : (n : ℕ) → ((x : Item) → In x ts → x.at ≡ n → ⊥) → BusRecords b ts (marked log n) U vs
  records_marked n off =
      record {
        same = λ x i s e. k.same x i s (sym (held_unmarked log n x.at (off x i)) ∙ e);
        tags = k.tags;
        foreign = k.foreign;
        once = k.once;
        apart = k.apart;
        unlisted = k.unlisted;
        below = k.below;
        numbered = k.numbered;
      }

  -- this bus's record is marked: that of the fading voice g
  pub records_cut : (g : Voice) → In g vs → is_on b g ≡ true → (f : Fade) → g.state ≡ Fading f → BusRecords b (map (cut_item g.sequence) ts) (marked log f.number) U vs
  records_cut g i on f e =
      record {
        same = λ y j s h. let x = was y j in subst (λ (z : Item). z.what ≡ s) (sym x.2) (same' x.0 x.1 s (ap (λ (z : Item). held_record (marked log f.number) z.at) (sym x.2) ∙ h) (eqb x.0.voice g.sequence) refl);
        tags = λ v j o u h. let r = k.tags v j o u h in (cut_item g.sequence r.0, in_of_map (cut_item g.sequence) ts r.0 r.1, r.2, r.3);
        foreign = λ v j o u h y m z. let x = was y m in k.foreign v j o u h x.0 x.1 (ap (λ (w : Item). w.at) (sym x.2) ∙ z);
        once = λ y z j m h. let p = was y j in let r = was z m in p.2 ∙ ap (cut_item g.sequence) (k.once p.0 r.0 p.1 r.1 (ap (λ (w : Item). w.voice) (sym p.2) ∙ h ∙ ap (λ (w : Item). w.voice) r.2)) ∙ sym r.2;
        apart = λ y z j m h. let p = was y j in let r = was z m in p.2 ∙ ap (cut_item g.sequence) (k.apart p.0 r.0 p.1 r.1 (ap (λ (w : Item). w.at) (sym p.2) ∙ h ∙ ap (λ (w : Item). w.at) r.2)) ∙ sym r.2;
        unlisted = λ v j o h y m z. let x = was y m in k.unlisted v j o h x.0 x.1 (ap (λ (w : Item). w.voice) (sym x.2) ∙ z);
        below = λ y j. let x = was y j in subst (λ (z : Item). z.at < log.count) (sym x.2) (k.below x.0 x.1);
        numbered = λ y j. let x = was y j in subst (λ (z : Item). U z.voice) (sym x.2) (k.numbered x.0 x.1);
      }
    where
      was : (y : Item) → In y (map (cut_item g.sequence) ts) → (x : Item) × In x ts × (y ≡ cut_item g.sequence x)
      was y j = in_map (cut_item g.sequence) ts y j

      its : (x : Item) × In x ts × (x.at ≡ f.number) × (x.voice ≡ g.sequence)
      its = k.tags g i on f e

      uncut : (o : Option StealRecord) (s : StealRecord) → cut_found o ≡ Some s → (r : StealRecord) × (o ≡ Some r) × (cut_of r ≡ s)
      uncut None s h = absurd (none_some h)
      uncut (Some r) s h = (r, refl, some_inj h)

      same' : (x : Item) → In x ts → (s : StealRecord) → held_record (marked log f.number) x.at ≡ Some s → (c : Bool) → eqb x.voice g.sequence ≡ c → cond c (cut_of x.what) x.what ≡ s
      same' x j s h true c =
          let z : x ≡ its.0 = k.once x its.0 j its.1 (eqb-true _ _ c ∙ sym its.3) in
          let n : x.at ≡ f.number = ap (λ (w : Item). w.at) z ∙ its.2 in
          let r = uncut (held_record log f.number) s (sym (held_marked log f.number) ∙ ap (held_record (marked log f.number)) (sym n) ∙ h) in
          ap cut_of (k.same x j r.0 (ap (held_record log) n ∙ r.1)) ∙ r.2
      same' x j s h false c =
          k.same x j s (sym (held_unmarked log f.number x.at (λ n. eqb-false _ _ c (ap (λ (w : Item). w.voice) (k.apart x its.0 j its.1 (n ∙ sym its.2)) ∙ its.3))) ∙ h)
