-- A line of a sheet beside what the rules give for it.
use Rattle.std.specs.Prelude.{Bool, not, List, length, ℤ, ◌-ℤ◌, count_by, ◌==◌, unsigned_abs}
use Rattle.schedules.specs.declared.comparison.Comparison.{Comparison}
use Rattle.schedules.specs.declared.comparison.Tally.{Tally}
use Rattle.schedules.specs.declared.comparison.Unit.{Unit}
use Rattle.schedules.specs.declared.line_name.LineName.{LineName}

-- A line: its name and unit, the sheet's figure and the worked one.
abbrev pub line : LineName → Unit → (sheet worked : ℤ) → Comparison
line name unit sheet worked = record { name = name; unit = unit; sheet = sheet; worked = worked }

-- The difference: the worked figure less the sheet's.
abbrev pub difference_of : Comparison → ℤ
difference_of line = line.worked -ℤ line.sheet

-- A line is marked where the size of its difference is not zero.
abbrev pub differs : Comparison → Bool
differs line = not (unsigned_abs (difference_of line) == 0)

-- How many lines there are, and how many of them are marked.
abbrev pub tally_of : List Comparison → Tally
tally_of lines = record { lines = length lines; differing = count_by differs lines }
