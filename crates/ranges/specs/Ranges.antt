-- Ranges of figures.
use Rattle.std.specs.Prelude.{ℕ, ℤ, pos, ◌≤ℤ◌}

-- a figure from low to high, both included
abbrev pub Between : ℕ → ℕ → ℤ → Type 0
Between low high figure = (pos low ≤ℤ figure) × (figure ≤ℤ pos high)
