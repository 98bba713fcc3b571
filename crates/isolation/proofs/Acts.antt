-- What a managed spawn on the bus by itself writes into the steal records: a record for each voice stolen, a mark for each fade reclaimed.
-- Records are called by the number of the voice that was stolen: no voice is stolen twice.
use Prim.Native.Nat.{ℕ, zero, suc}
use mathlib.Core.Path.{◌≡◌, refl}
use mathlib.Core.List.{List, [], ◌∷◌, ◌++◌, map}
use Rattle.std.specs.Prelude.{Option, None, Some, find}
use mathlib.Core.Bool.{Bool, true, false, cond}
use lib.Dec.{eqb, ltb}
use Rattle.voice.specs.Steals.{record_of, cut_of}
use Rattle.voice.specs.declared.steals.StealRecord.{StealRecord}
use Rattle.voice.specs.declared.policy.Admission.{Admission}
use Rattle.voice.specs.declared.policy.Admission.TheVariants as admission
use Rattle.synthdef.specs.Limits.{allowed}
use Rattle.model.specs.Refuse.{rank_limit}
use Rattle.isolation.specs.Story.{Entry, opened, closed, plugged, unplugged, lost, managed, freed, reported, cleared, rendered, Phase, held, fading}
use Rattle.isolation.specs.Story as story
use Rattle.isolation.proofs.Bus.{Own, BusPorts, Bus, level_now, is_number, port_free, port_held, next_out, without_voice, steal, tries, admission_on, follow}

pub data Act : Type 0 where
  wrote : ℕ → StealRecord → Act
  cut : ℕ → Act

pub record HeldRecord : Type 0 where
  pub voice : ℕ
  pub what : StealRecord

abbrev pub cut_if : ℕ → HeldRecord → HeldRecord
cut_if s k = record { voice = k.voice; what = cond (eqb k.voice s) (cut_of k.what) k.what }

abbrev pub apply : List Act → List HeldRecord → List HeldRecord
apply [] ks = ks
apply (wrote s r ∷ ts) ks = apply ts (ks ++ (record { voice = s; what = r } ∷ []))
apply (cut s ∷ ts) ks = apply ts (map (cut_if s) ks)

pub apply_append : (ts bs : List Act) (ks : List HeldRecord) → apply (ts ++ bs) ks ≡ apply bs (apply ts ks)
apply_append [] bs ks = refl
apply_append (wrote s r ∷ ts) bs ks = apply_append ts bs (ks ++ (record { voice = s; what = r } ∷ []))
apply_append (cut s ∷ ts) bs ks = apply_append ts bs (map (cut_if s) ks)

-- the voice is removed at once, or fades
abbrev pub writes : Bool → ℕ → Own → Act
writes c clock v = wrote v.number (record_of clock (level_now clock v) c)

abbrev pub goes : Phase → ℕ → Own → List Act
goes held clock v = writes true clock v ∷ []
goes (fading start count) clock v = cut v.number ∷ []
goes story.loose clock v = []

abbrev pub log_or : Option ℕ → Option Own → Bus → (Bus → List Act) → List Act
log_or (Some p) o m again = []
log_or None None m again = []
log_or None (Some v) m again = goes v.phase m.clock v ++ again (without_voice v.number m)

abbrev pub log_place : ℕ → ℕ → Bus → List Act
log_place r zero m = []
log_place r (suc n) m = log_or (port_free m) (next_out r m) m (λ k. log_place r n k)

abbrev pub log_settle : ℕ → Bus → List Act
log_settle r m = log_place r (tries m.config.budget m.voices) m

abbrev pub log_stolen : Option ℕ → ℕ → Own → List Act
log_stolen (Some p) clock v = writes false clock v ∷ []
log_stolen None clock v = writes true clock v ∷ []

abbrev pub log_then : Option Own → ℕ → Bus → List Act
log_then None r m = log_settle r m
log_then (Some v) r m = log_stolen (port_held v.number m) m.clock v ++ log_settle r (steal v.number m)

abbrev pub log_admitted : Admission → ℕ → Bus → List Act
log_admitted admission.Admit r m = log_settle r m
log_admitted admission.Reject r m = []
log_admitted (admission.Steal place w) r m = log_then (find (is_number w.0) m.voices) r m

abbrev pub log_ports : ℕ → List Act → List Act
log_ports zero ts = []
log_ports (suc n) ts = ts

abbrev pub log_bus : Option BusPorts → List Act → List Act
log_bus None ts = []
log_bus (Some x) ts = log_ports x.ports ts

abbrev pub log : Entry → Bus → List Act
log (opened n) m = []
log closed m = []
log (plugged p) m = []
log (unplugged p) m = []
log (lost ps) m = []
log (managed def pan r) m = cond (ltb rank_limit r) [] (cond (allowed def) (log_bus m.ports (log_admitted (admission_on r m) r m)) [])
log (story.loose def pan r) m = []
log (freed s) m = []
log (reported s i samples flag) m = []
log cleared m = []
log (rendered ss b) m = []

abbrev pub records_of : List Entry → Bus → List HeldRecord → List HeldRecord
records_of [] m ks = ks
records_of (e ∷ es) m ks = records_of es (follow e m).bus (apply (log e m) ks)
