-- Signed numbers as the machine keeps them.
use Rattle.std.proofs.Common.{ℤ, to_z-of_z, w64, to_z, of_z}
use Rattle.std.specs.Int.{w128}

-- in 64 and in 128 bits
abbrev pub in64 : ℤ → ℤ
in64 z = to_z w64 (of_z w64 z)

abbrev pub in128 : ℤ → ℤ
in128 z = to_z w128 (of_z w128 z)

-- what fits is read back as it was
pub ruleset read_back = to_z-of_z
