-- Ranges of figures.
use Rattle.std.specs.Prelude.{◌≤◌, ℤ, unsigned_abs}
use Rattle.ranges.specs.Ranges.{Between}

-- the tax T is 0 to 2,000 ten-thousandths
abbrev pub TaxRange : ℤ → Type 0
TaxRange tax = Between 0 2000 tax

-- an annual interest rate is 0 to 2,400 ten-thousandths
abbrev pub InterestRange : ℤ → Type 0
InterestRange annual = Between 0 2400 annual

-- the reconciliation rate E is at most 100,000 in size
abbrev pub WithinReach : ℤ → Type 0
WithinReach e = unsigned_abs e ≤ 100000
