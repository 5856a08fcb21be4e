-- Ranges of figures.
use Rattle.std.specs.Prelude.{Bool, ◌||◌, ℤ, pos, int_lt}

-- A figure is below low or above high.
unfoldable pub outside : ℤ → ℤ → ℤ → Bool
outside low high figure = int_lt figure low || int_lt high figure

-- A price as given is outside 0 to 100,000 cents per MWh.
abbrev pub price_out : ℤ → Bool
price_out price = outside (pos 0) (pos 100000) price

-- A price as printed on a line of a schedule is outside 0 to 1,000,000 cents per MWh.
abbrev pub printed_out : ℤ → Bool
printed_out price = outside (pos 0) (pos 1000000) price

-- A share is outside 0 to 10,000 ten-thousandths.
abbrev pub share_out : ℤ → Bool
share_out share = outside (pos 0) (pos 10000) share

-- A season's factor is outside 50 to 200 hundredths.
abbrev pub factor_out : ℤ → Bool
factor_out factor = outside (pos 50) (pos 200) factor
