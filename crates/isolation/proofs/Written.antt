-- The records of a bus through a managed spawn: on another bus, nothing changes of them; on its own, they follow what the bus by itself
-- writes.
use Prim.Native.Nat.{ℕ, zero, suc, ◌+◌, ◌-◌, ◌≤◌, ◌<◌}
use native.Mathlib.Omega.{arith}
use mathlib.Core.Path.{◌≡◌, refl, sym, ap, ◌∙◌, subst}
use mathlib.Core.Logic.{inl, ⊎_elim}
use mathlib.Core.List.{List, [], ◌∷◌, ◌++◌, map, append_assoc, append-nil, map-map}
use Rattle.std.specs.Prelude.{Option, None, Some, filter}
use mathlib.Core.Bool.{Bool, true, false, not, cond, true≢false}
use lib.Dec.{eqb}
use borrow.Author.Tests.{eqb-true, eqb-false, not-true}
use Rattle.std.proofs.lemmas.List.{map-append}
use Rattle.lists.specs.Member.{In}
use Rattle.lists.proofs.Member.{in_snoc, in_left, in_right}
use Rattle.lists.proofs.Filter.{in_filter}
use Rattle.rank.specs.Order.{count_up}
use Rattle.node.specs.declared.record.NodeId.{NodeId}
use Rattle.node.specs.declared.record.Node.{Node}
use Rattle.graph.specs.Node.{node_at}
use Rattle.voice.specs.Steals.{StealLog, pushed, record_of}
use Rattle.voice.specs.declared.steals.StealRecord.{StealRecord}
use Rattle.voice.specs.declared.voices.Voice.{Voice}
use Rattle.voice.specs.declared.voices.VoiceState.{VoiceState}
use Rattle.voice.specs.declared.voices.VoiceState.TheVariants.{Tracked, Fading, Loose}
use Rattle.voice.specs.declared.voices.Fade.{Fade}
use Rattle.voice.specs.Voice.{is_voice, is_on}
use Rattle.model.specs.Voice.{voice_level}
use Rattle.model.specs.Spawn.{fade_of}
use Rattle.ledger.specs.Ledger.{Ledger, cut_off, fade}
use Rattle.ledger.proofs.StealLog.{count_pushed}
use Rattle.ledger.proofs.Records.{RecordedOf, steal_small, begun, fade_inj}
use Rattle.isolation.specs.Story.{phase_of, from_to}
use Rattle.isolation.proofs.Part.{host_ports, own_of, Tidy, room_of}
use Rattle.isolation.proofs.Fade as fading
use Rattle.isolation.proofs.Others.{cut_ports}
use Rattle.isolation.proofs.Acts.{Act, cut_if, apply, apply_append, goes, writes}
use Rattle.isolation.proofs.BusRecords.{Item, strip, cut_item, UnderR, UnderOn, BusRecordsOf, Old, was_self, records_next, records_pushed, same_own, once_own, apart_own, below_own, numbered_own, records_marked, records_cut}

-- ---- the numbers from m to below n
up_join : (x y i : ℕ) → count_up (x + y) i ≡ count_up x i ++ count_up y (i + x)
unfolding count_up
up_join zero y i = let a : zero + y ≡ y = omega arith in let c : i ≡ i + zero = omega arith in ap (λ n. count_up n i) a ∙ ap (count_up y) c
up_join (suc x) y i =
    let a : suc x + y ≡ suc (x + y) = omega arith in
    let c : suc i + x ≡ i + suc x = omega arith in
    ap (λ n. count_up n i) a ∙ ap (λ l. i ∷ l) (up_join x y (suc i) ∙ ap (λ n. count_up x (suc i) ++ count_up y n) c)

pub to_self : (m n : ℕ) → n ≡ m → from_to m n ≡ []
unfolding count_up
to_self m n e = let a : n - m ≡ 0 = omega arith in ap (λ k. count_up k m) a

pub to_join : (a b c : ℕ) → a ≤ b → b ≤ c → from_to a b ++ from_to b c ≡ from_to a c
to_join a b c p q =
    let x : (b - a) + (c - b) ≡ c - a = omega arith in
    let y : a + (b - a) ≡ b = omega arith in
    sym (sym (ap (λ n. count_up n a) x) ∙ up_join (b - a) (c - b) a ∙ ap (λ n. count_up (b - a) a ++ count_up (c - b) n) y)

to_one : (m n : ℕ) → n ≡ m + 1 → from_to m n ≡ m ∷ []
unfolding count_up
to_one m n e = let a : n - m ≡ suc zero = omega arith in ap (λ k. count_up k m) a

-- ---- what happened to the items from the ledger l to m
pub record Logs (b : NodeId) (l : Ledger) (ts : List Item) (m : Ledger) (acts : List Act) : Type 0 where
  pub items : List Item
  pub logged : BusRecordsOf b items m
  pub strips : map strip items ≡ apply acts (map strip ts)
  pub ats : map (λ (x : Item). x.at) items ≡ map (λ (x : Item). x.at) ts ++ from_to l.shared.steals.count m.shared.steals.count
  pub up : l.shared.steals.count ≤ m.shared.steals.count

abbrev At : Item → ℕ
At x = x.at

pub logs_none : (b : NodeId) (l : Ledger) (ts : List Item) (m : Ledger) → BusRecordsOf b ts m → m.shared.steals.count ≡ l.shared.steals.count → Logs b l ts m []
logs_none b l ts m k e = record { items = ts; logged = k; strips = refl; ats = sym (ap (λ z. map At ts ++ z) (to_self l.shared.steals.count m.shared.steals.count e) ∙ append-nil (map At ts)); up = omega arith }

pub logs_then : {b : NodeId} {l : Ledger} {ts : List Item} {m n : Ledger} {acts more : List Act} → (p : Logs b l ts m acts) → Logs b m p.items n more → Logs b l ts n (acts ++ more)
logs_then {b} {l} {ts} {m} {n} {acts} {more} p q =
    record {
      items = q.items;
      logged = q.logged;
      strips = q.strips ∙ ap (apply more) p.strips ∙ sym (apply_append acts more (map strip ts));
      ats = q.ats ∙ ap (λ z. z ++ from_to m.shared.steals.count n.shared.steals.count) p.ats
          ∙ append_assoc (map At ts) (from_to l.shared.steals.count m.shared.steals.count) (from_to m.shared.steals.count n.shared.steals.count)
          ∙ ap (λ z. map At ts ++ z) (to_join l.shared.steals.count m.shared.steals.count n.shared.steals.count p.up q.up);
      up = let x = p.up in let y = q.up in omega arith;
    }

-- ---- one voice
module _ (l : Ledger) (t : Tidy l) (r : RecordedOf l) (g : Voice) (i : In g l.voices) where
  abbrev others : List Voice
  others = filter (λ x. not (is_voice g.id x)) l.voices

  abbrev rec : Bool → StealRecord
  rec c = record_of l.shared.clock (voice_level l.shared g) c

  stays : (v : Voice) → In v others → Old l.voices v
  stays v j = inl (was_self l.voices v (in_filter (λ x. not (is_voice g.id x)) l.voices v j).0)

  not_it : (v : Voice) → In v others → v ≡ g → ⊥
  not_it v j e = eqb-false _ _ (not-true _ (in_filter (λ x. not (is_voice g.id x)) l.voices v j).1) (ap (λ (z : Voice). z.id.0) e)

  up_cut : (b : NodeId) (c : VoiceState) (s : ℕ) → UnderOn b l s → UnderOn b (cut_off g c l) s
  up_cut b c s h = (h.0, subst (λ o. UnderR o s) (sym (cut_ports l t g i c b)) h.1)

  up_fade : (b : NodeId) (p s : ℕ) → UnderOn b l s → UnderOn b (fade g p l) s
  up_fade b p s h = (let z = h.0 in omega arith, subst (λ o. UnderR o s) (sym (fading.ports_stay l t g i p b)) h.1)

  -- ---- of another bus
  module _ (b : NodeId) (off : is_on b g ≡ false) (ts : List Item) (k : BusRecordsOf b ts l) where
    pub other_cut : (s : VoiceState) → g.state ≡ s → BusRecordsOf b ts (cut_off g s l)
    other_cut Tracked e = records_next (records_pushed k (rec true) r.newest (steal_small r g i e)) (UnderOn b (cut_off g Tracked l)) others (up_cut b Tracked) stays
    other_cut (Fading f) e = records_next (records_marked k f.number (k.foreign g i off f e)) (UnderOn b (cut_off g (Fading f) l)) others (up_cut b (Fading f)) stays
    other_cut Loose e = records_next k (UnderOn b (cut_off g Loose l)) others (up_cut b Loose) stays

    pub other_fade : g.state ≡ Tracked → (p : ℕ) → BusRecordsOf b ts (fade g p l)
    other_fade e p =
        let z = records_pushed k (rec false) r.newest (steal_small r g i e) in
        record {
          same = z.same;
          tags = λ v j on f h. ⊎_elim (λ q. absurd (true≢false (sym on ∙ ap (is_on b) q ∙ off))) (λ q. k.tags v q.0 on f h) (begun r.ids g i (fade_of l.shared) v j);
          foreign = λ v j o f h x m y. ⊎_elim (λ q. let n : f.number ≡ l.shared.steals.count = ap (λ (u : Fade). u.number) (fade_inj (sym h ∙ ap (λ (u : Voice). u.state) q)) in omega (arith, n, y, k.below x m)) (λ q. k.foreign v q.0 o f h x m y) (begun r.ids g i (fade_of l.shared) v j);
          once = z.once;
          apart = z.apart;
          unlisted = λ v j on h. ⊎_elim (λ q. absurd (true≢false (sym on ∙ ap (is_on b) q ∙ off))) (λ q. k.unlisted v q.0 on h) (begun r.ids g i (fade_of l.shared) v j);
          below = z.below;
          numbered = λ x m. up_fade b p x.voice (z.numbered x m);
        }

  -- ---- of its own bus
  module _ (b : NodeId) (on : is_on b g ≡ true) (ts : List Item) (k : BusRecordsOf b ts l) where
    under : UnderOn b l g.sequence
    under = (subst (λ n. n < l.shared.graph.next) (eqb-true _ _ on) (t.hosted g i).0, go (node_at l.shared.graph.nodes b) refl)
      where
        is : g.bus ≡ b
        is = ap (λ n. record { 0 = n }) (eqb-true _ _ on)

        go : (o : Option Node) → node_at l.shared.graph.nodes b ≡ o → UnderR (host_ports o) g.sequence
        go None e = tt
        go (Some n) e = at (eqb n.owner.0 0)
          where
            at : (c : Bool) → UnderR (cond c (Some (room_of n)) None) g.sequence
            at true = ((t.hosted g i).1 n (ap (node_at l.shared.graph.nodes) is ∙ e)).1
            at false = tt

    same_number : (v : Voice) → In v l.voices → is_on b v ≡ true → g.sequence ≡ v.sequence → v ≡ g
    same_number v j o e = t.single v g j i (eqb-true _ _ o ∙ sym (eqb-true _ _ on)) (sym e)

    abbrev item : Bool → Item
    item c = record { at = l.shared.steals.count; voice = g.sequence; what = rec c }

    written : (c : Bool) (m : Ledger) → g.state ≡ Tracked → m.shared.steals ≡ pushed l.shared.steals (rec c) → BusRecordsOf b (ts ++ (item c ∷ [])) m → Logs b l ts m (writes c l.shared.clock (own_of l.shared.graph.nodes g) ∷ [])
    written c m e s z =
        let n : m.shared.steals.count ≡ l.shared.steals.count + 1 = ap (λ (y : StealLog). y.count) s ∙ count_pushed l.shared.steals (rec c) (steal_small r g i e) in
        record {
          items = ts ++ (item c ∷ []);
          logged = z;
          strips = map-append strip ts (item c ∷ []);
          ats = map-append At ts (item c ∷ []) ∙ ap (λ y. map At ts ++ y) (sym (to_one l.shared.steals.count m.shared.steals.count n));
          up = omega arith;
        }

    pub cut_tracked : g.state ≡ Tracked → Logs b l ts (cut_off g Tracked l) (writes true l.shared.clock (own_of l.shared.graph.nodes g) ∷ [])
    cut_tracked e =
        written true (cut_off g Tracked l) e refl
        (record {
          same = same_own k (rec true) r.newest small g i on e under;
          tags = λ v j o f h. let y = k.tags v (old v j) o f h in (y.0, in_left ts (item true ∷ []) y.0 y.1, y.2, y.3);
          foreign = λ v j o f h x m y. ⊎_elim (λ q. k.foreign v (old v j) o f h x q y) (λ q. let n : x.at ≡ l.shared.steals.count = ap At q in omega (arith, n, y, r.numbers v (old v j) f h)) (in_snoc ts (item true) x m);
          once = once_own k (rec true) r.newest small g i on e under;
          apart = apart_own k (rec true) r.newest small g i on e under;
          unlisted = λ v j o h x m y. ⊎_elim (λ q. k.unlisted v (old v j) o h x q y) (λ q. not_it v j (same_number v (old v j) o (sym (ap (λ (u : Item). u.voice) q) ∙ y))) (in_snoc ts (item true) x m);
          below = below_own k (rec true) r.newest small g i on e under;
          numbered = λ x j. up_cut b Tracked x.voice (numbered_own k (rec true) r.newest small g i on e under x j);
        })
      where
        small : l.shared.steals.count < 18446744073709551615
        small = steal_small r g i e

        old : (v : Voice) → In v others → In v l.voices
        old v j = (in_filter (λ x. not (is_voice g.id x)) l.voices v j).0

    pub fade_tracked : g.state ≡ Tracked → (p : ℕ) → Logs b l ts (fade g p l) (writes false l.shared.clock (own_of l.shared.graph.nodes g) ∷ [])
    fade_tracked e p =
        written false (fade g p l) e refl
        (record {
          same = same_own k (rec false) r.newest small g i on e under;
          tags = λ v j o f h. ⊎_elim (λ q. (item false, in_right ts (item false ∷ []) (item false) (inl refl), ap (λ (u : Fade). u.number) (fade_inj (sym (ap (λ (u : Voice). u.state) q) ∙ h)), ap (λ (u : Voice). u.sequence) (sym q)))
              (λ q. let y = k.tags v q.0 o f h in (y.0, in_left ts (item false ∷ []) y.0 y.1, y.2, y.3)) (begun r.ids g i (fade_of l.shared) v j);
          foreign = λ v j o f h x m y. ⊎_elim (λ q. true≢false (sym on ∙ ap (is_on b) (sym q) ∙ o))
              (λ q. ⊎_elim (λ z. k.foreign v q.0 o f h x z y) (λ z. let n : x.at ≡ l.shared.steals.count = ap At z in omega (arith, n, y, r.numbers v q.0 f h)) (in_snoc ts (item false) x m)) (begun r.ids g i (fade_of l.shared) v j);
          once = once_own k (rec false) r.newest small g i on e under;
          apart = apart_own k (rec false) r.newest small g i on e under;
          unlisted = λ v j o h x m y. ⊎_elim (λ q. fading_held (sym (ap (λ (u : Voice). u.state) q) ∙ h))
              (λ q. ⊎_elim (λ z. k.unlisted v q.0 o h x z y) (λ z. eqb-false _ _ q.1 (ap (λ (u : Voice). u.id.0) (same_number v q.0 o (sym (ap (λ (u : Item). u.voice) z) ∙ y)))) (in_snoc ts (item false) x m)) (begun r.ids g i (fade_of l.shared) v j);
          below = below_own k (rec false) r.newest small g i on e under;
          numbered = λ x j. up_fade b p x.voice (numbered_own k (rec false) r.newest small g i on e under x j);
        })
      where
        small : l.shared.steals.count < 18446744073709551615
        small = steal_small r g i e

        fading_held : {f : Fade} → Fading f ≡ Tracked → ⊥
        fading_held h = let z : ◌≡◌ {A = ℕ} 0 1 = cc in omega arith

    pub own_cut : (s : VoiceState) → g.state ≡ s → Logs b l ts (cut_off g s l) (goes (phase_of s) l.shared.clock (own_of l.shared.graph.nodes g))
    own_cut Tracked e = cut_tracked e
    own_cut (Fading f) e =
        record {
          items = map (cut_item g.sequence) ts;
          logged = records_next (records_cut k g i on f e) (UnderOn b (cut_off g (Fading f) l)) others (up_cut b (Fading f)) stays;
          strips = map-map strip (cut_item g.sequence) ts ∙ sym (map-map (cut_if g.sequence) strip ts);
          ats = map-map At (cut_item g.sequence) ts ∙ sym (ap (λ z. map At ts ++ z) (to_self l.shared.steals.count l.shared.steals.count refl) ∙ append-nil (map At ts));
          up = omega arith;
        }
    own_cut Loose e = logs_none b l ts (cut_off g Loose l) (records_next k (UnderOn b (cut_off g Loose l)) others (up_cut b Loose) stays) refl
