-- The number that tells each refusal.
use Rattle.std.specs.Prelude.{ℕ}
use Rattle.supply.specs.declared.refusal.Refusal.{Refusal}
use Rattle.supply.specs.declared.refusal.Refusal.TheVariants.{LineCount, LineOutOfRange, TermOutOfRange}

abbrev pub number_of : Refusal → ℕ
number_of LineCount = 71
number_of LineOutOfRange = 72
number_of TermOutOfRange = 73
