-- The numbers that tell refusals.
use Rattle.std.specs.Prelude.{ℕ, Some, None, Option}
use Rattle.designs.specs.declared.refusal.PeriodRefusal.{PeriodRefusal}
use Rattle.designs.specs.declared.refusal.PeriodRefusal.TheVariants.{HourCount, PastLastHour, EnergyTooLarge, PriceOutOfRange}
use Rattle.designs.specs.declared.refusal.Refusal.{Refusal}
use Rattle.designs.specs.declared.refusal.Refusal.TheVariants.{FigureOutOfRange}

-- The number of a figure's refusal.
abbrev pub number_of : Refusal → ℕ
number_of FigureOutOfRange = 21

-- The number of a period's refusal.
abbrev pub period_number : PeriodRefusal → ℕ
period_number HourCount = 11
period_number PastLastHour = 12
period_number (EnergyTooLarge hour) = 13
period_number (PriceOutOfRange hour) = 14

-- The place in the period, from 0, of the hour that it is refused for; none where it is refused as a whole.
abbrev pub hour_of : PeriodRefusal → Option ℕ
hour_of HourCount = None
hour_of PastLastHour = None
hour_of (EnergyTooLarge hour) = Some hour
hour_of (PriceOutOfRange hour) = Some hour
