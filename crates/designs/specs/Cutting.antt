-- The part of the hours held that is a period, and why it is refused.
use Rattle.std.specs.Prelude.{ℕ, ◌+◌, ◌≤◌, ◌||◌, List, [], ◌∷◌, length, take, drop, pos, neg_ℤ, Result, ◌==◌, int_lt, nat_lt}
use Rattle.refusals.specs.Checks.{Checks, first, answer_unless}
use Rattle.designs.specs.declared.hours.Hour.{Hour}
use Rattle.designs.specs.declared.refusal.PeriodRefusal.{PeriodRefusal}
use Rattle.designs.specs.declared.refusal.PeriodRefusal.TheVariants.{HourCount, PastLastHour, EnergyTooLarge, PriceOutOfRange}
use Rattle.designs.specs.Periods.{Lawful, most_kwh}

-- Hour by hour, the first at this place: the energy, then the price.
abbrev pub hour_checks : ℕ → List Hour → Checks PeriodRefusal
hour_checks place [] = []
hour_checks place (h ∷ hs) =
    (nat_lt most_kwh h.kwh, EnergyTooLarge place)
    ∷ (int_lt h.price.0 (neg_ℤ (pos 100000)) || int_lt (pos 400000) h.price.0, PriceOutOfRange place)
    ∷ hour_checks (place + 1) hs

-- The hours from start on, count of them.
abbrev pub part_of : List Hour → ℕ → ℕ → List Hour
part_of held start count = take count (drop start held)

-- The number of hours, then whether the period passes the last hour held, then hour by hour.
abbrev pub period_checks : List Hour → ℕ → ℕ → Checks PeriodRefusal
period_checks held start count =
    (count == 0 || nat_lt 840 count, HourCount)
    ∷ (nat_lt (length held) (start + count), PastLastHour)
    ∷ hour_checks 0 (part_of held start count)

-- A cut hands on the part itself, unless a check refuses.
abbrev pub cut_of : List Hour → ℕ → ℕ → Result (List Hour) PeriodRefusal
cut_of held start count = answer_unless (first (period_checks held start count)) (part_of held start count)

-- What is not cut is no lawful period: it passes the last hour held, or the part is not lawful.
abbrev pub Unlawful : List Hour → ℕ → ℕ → Type 0
Unlawful held start count = start + count ≤ length held → Lawful (part_of held start count) → ⊥
