-- The checks of a bill are the period's and the month's.
use Rattle.std.proofs.Common.{ℕ, ◌<◌, List, [], ◌∷◌, ◌++◌, map, ℤ, leb-false}
use Rattle.std.proofs.lemmas.Bool.{lt-leb}
use Rattle.refusals.specs.Checks.{Checks}
use Rattle.refusals.proofs.Passed.{Passed}
use Rattle.designs.specs.declared.hours.Hour.{Hour}
use Rattle.designs.specs.declared.refusal.PeriodRefusal.{PeriodRefusal}
use Rattle.designs.specs.Cutting.{period_checks}
use Rattle.account.specs.declared.figures.OpenMonth.{OpenMonth}
use Rattle.account.specs.Limits.{most_bills}
use Rattle.account.specs.Rules.{of_its_period, month_checks, bill_checks}

-- two lists of checks, joined, refuse nothing: neither does each
split : {R : Type 0} (front back : Checks R) → Passed (front ++ back) → Passed front × Passed back
split [] back h = (tt, h)
split (check ∷ front) back h = let rest = split front back h.1 in ((h.0, rest.0), rest.1)

-- and where each refuses nothing, neither do they joined
join : {R : Type 0} (front back : Checks R) → Passed front → Passed back → Passed (front ++ back)
join [] back h k = k
join (check ∷ front) back h k = (h.0, join front back h.1 k)

-- the period's checks, also where they are the bill's
of_period : (checks : Checks PeriodRefusal) → Passed (map of_its_period checks) → Passed checks
of_period [] h = tt
of_period (check ∷ checks) h = (h.0, of_period checks h.1)

module _ (t : OpenMonth) (held : List Hour) (start count : ℕ) (amount : ℤ) (h : Passed (bill_checks t held start count amount)) where
  parts : Passed (map of_its_period (period_checks held start count)) × Passed (month_checks t amount)
  parts = split (map of_its_period (period_checks held start count)) (month_checks t amount) h

  -- the period of an accepted bill is refused nothing
  pub period_passed : Passed (period_checks held start count)
  period_passed = of_period (period_checks held start count) parts.0

  -- the month had room
  pub had_room : t.bills < most_bills
  had_room = leb-false most_bills t.bills parts.1.0

  -- any month with room would take the bill
  pub where_room : (other : OpenMonth) → other.bills < most_bills → Passed (bill_checks other held start count amount)
  where_room other room =
      join (map of_its_period (period_checks held start count)) (month_checks other amount) parts.0 (lt-leb most_bills other.bills room, parts.1.1)
