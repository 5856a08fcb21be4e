-- The number that tells each refusal.
use Rattle.std.specs.Prelude.{ℕ}
use Rattle.reconciliation.specs.declared.refusal.Refusal.{Refusal as FigureRefusal}
use Rattle.reconciliation.specs.declared.refusal.Refusal.TheVariants.{TaxOrInterest as FigureTaxOrInterest, Projections as FigureProjections, RateTooLarge as FigureRateTooLarge}
use Rattle.designs.specs.Refusals.{period_number}
use Rattle.account.specs.declared.refusal.BillRefusal.{BillRefusal}
use Rattle.account.specs.declared.refusal.BillRefusal.TheVariants.{OfPeriod, OfAccount}
use Rattle.account.specs.declared.refusal.Refusal.{Refusal}
use Rattle.account.specs.declared.refusal.Refusal.TheVariants.{TaxOrInterest, NumberOrBalance, Projections, RateTooLarge, UnknownKind, AmountTooLarge, LineFull, MonthFull, BillTooLarge, BalanceTooLarge, MonthsFull, NotQuarterEnd, AlreadyPending, NotPending, TooEarly, Lapsed, MonthBilled, FilingsFull}

-- The number of a refusal.
abbrev pub number_of : Refusal → ℕ
number_of TaxOrInterest = 22
number_of NumberOrBalance = 23
number_of Projections = 24
number_of RateTooLarge = 25
number_of UnknownKind = 31
number_of AmountTooLarge = 32
number_of LineFull = 33
number_of MonthFull = 34
number_of BillTooLarge = 35
number_of BalanceTooLarge = 36
number_of MonthsFull = 37
number_of NotQuarterEnd = 41
number_of AlreadyPending = 42
number_of NotPending = 43
number_of TooEarly = 44
number_of Lapsed = 45
number_of MonthBilled = 46
number_of FilingsFull = 47

-- The number of a bill's refusal.
abbrev pub bill_number : BillRefusal → ℕ
bill_number (OfPeriod refusal) = period_number refusal
bill_number (OfAccount refusal) = number_of refusal

-- The refusal of a figure, which keeps its number, as one of the account.
abbrev pub of_figure : FigureRefusal → Refusal
of_figure FigureTaxOrInterest = TaxOrInterest
of_figure FigureProjections = Projections
of_figure FigureRateTooLarge = RateTooLarge
