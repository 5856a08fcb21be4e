-- The ranges of a design's figures.
use Rattle.std.specs.Prelude.{ℤ}
use Rattle.ranges.specs.Ranges.{Between}

-- A rate component is 0 to 100,000 rate units.
abbrev pub ComponentRange : ℤ → Type 0
ComponentRange units = Between 0 100000 units

-- A loss multiplier is 10,000 to 11,000 ten-thousandths.
abbrev pub LossRange : ℤ → Type 0
LossRange value = Between 10000 11000 value
