-- A covered history meets neither 7 nor 8: as a test of an answer.
use mathlib.Core.Path.{◌≡◌, refl, ap}
use mathlib.Core.Bool.{Bool, false, ◌||◌}
use lib.Dec.{eqb}
use borrow.Author.Tests.{both_ways}
use Rattle.std.specs.Prelude.{Option, None, Some}
use Rattle.node.specs.declared.refusal.Refusal.{Refusal}
use Rattle.node.specs.declared.refusal.Refusal.TheVariants as r
use Rattle.node.specs.Refusal.{number_of}

abbrev pub is_full : Refusal → Bool
is_full x = eqb (number_of x) 7 || eqb (number_of x) 8

abbrev pub full_in : Option Refusal → Bool
full_in None = false
full_in (Some x) = is_full x

pub not_full : (o : Option Refusal) → (o ≡ Some r.TableFull → ⊥) × (o ≡ Some r.IdsUsedUp → ⊥) → full_in o ≡ false
not_full None h = refl
not_full (Some r.SampleRate) h = refl
not_full (Some r.BlockSize) h = refl
not_full (Some r.BudgetTooLarge) h = refl
not_full (Some r.UnknownNode) h = refl
not_full (Some r.VoiceNode) h = refl
not_full (Some r.PortOrKind) h = refl
not_full (Some r.TableFull) h = absurd (h.0 refl)
not_full (Some r.IdsUsedUp) h = absurd (h.1 refl)
not_full (Some r.DefinitionLimits) h = refl
not_full (Some r.BusWithoutPorts) h = refl
not_full (Some r.Rejected) h = refl
not_full (Some r.NoPort) h = refl
not_full (Some r.RequiredPort) h = refl
not_full (Some r.Cycle) h = refl
not_full (Some r.ClockEnd) h = refl
not_full (Some r.LentBlock) h = refl
not_full (Some r.ShortBuffer) h = refl
not_full (Some r.TableRate) h = refl
not_full (Some r.OutOfRange) h = refl
not_full (Some r.RankTooHigh) h = refl

-- the other way round
pub is_not_full : (o : Option Refusal) → full_in o ≡ false → (o ≡ Some r.TableFull → ⊥) × (o ≡ Some r.IdsUsedUp → ⊥)
is_not_full o h = (λ e. both_ways _ h (ap full_in e), λ e. both_ways _ h (ap full_in e))
