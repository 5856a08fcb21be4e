-- The number that tells each refusal.
use Rattle.std.specs.Prelude.{ℕ}
use Rattle.reconciliation.specs.declared.refusal.Refusal.{Refusal}
use Rattle.reconciliation.specs.declared.refusal.Refusal.TheVariants.{TaxOrInterest, Projections, RateTooLarge}

abbrev pub number_of : Refusal → ℕ
number_of TaxOrInterest = 22
number_of Projections = 24
number_of RateTooLarge = 25
