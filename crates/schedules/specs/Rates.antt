-- The lines of the rates, each from the figures that a sheet prints above it.
use Rattle.std.specs.Prelude.{ℕ, ◌+◌, ◌-◌, List, [], ◌∷◌, ℤ, pos, Some, None, Option, slice_index, unsigned_abs}
use Rattle.rounding.specs.Rounding.{rate_rounded}
use Rattle.reconciliation.specs.Reconciliation.{rate_of}
use Rattle.designs.specs.declared.flat.FlatFigures.{FlatFigures}
use Rattle.designs.specs.Flat.{ptc_current, rate_in_force}
use Rattle.schedules.specs.declared.comparison.Comparison.{Comparison}
use Rattle.schedules.specs.declared.comparison.Unit.TheVariants.{DollarsPerKwh, Factor, Kwh}
use Rattle.schedules.specs.declared.line_name.LineName.TheVariants.{Subtotal, MultipliedBy, PtcCurrent, RateTimesTax, PtcDefault, ProjectedSales, RateBeforeTax, GrossUp, RateWithTax}
use Rattle.schedules.specs.declared.rate_page.RatePage.{RatePage}
use Rattle.schedules.specs.declared.rate_page.RateWorked.{RateWorked}
use Rattle.schedules.specs.declared.reconciliation_page.ReconciliationPage.{ReconciliationPage}
use Rattle.schedules.specs.declared.reconciliation_page.EWorked.{EWorked}
use Rattle.schedules.specs.Comparisons.{line}
use Rattle.schedules.specs.Months.{in_cents}

-- The gross-up 1 ÷ (1 − T), in millionths.
unfoldable pub gross_up_of : ℕ → ℤ
gross_up_of tax = rate_rounded (pos 10000000000) (10000 - tax)

-- PTC_Current of a flat design's figures, none of which is negative.
abbrev pub current_of : FlatFigures → ℤ
current_of figures = ptc_current (unsigned_abs figures.cost) (unsigned_abs figures.loss) (unsigned_abs figures.adm) (unsigned_abs figures.nits)

-- The lines from PTC_Current to PTC_Default.
unfoldable pub rate_worked : RatePage → (tax : ℕ) → RateWorked
rate_worked page tax = record {
  current = current_of page.figures;
  gross_up = gross_up_of tax;
  current_taxed = rate_in_force page.current (pos 0) tax;
  e_taxed = rate_in_force (pos 0) page.e tax;
  default = rate_in_force page.current page.e tax;
}

-- They as printed, beside those that are worked.
abbrev pub rate_lines : RatePage → RateWorked → List Comparison
rate_lines page worked =
    line Subtotal DollarsPerKwh page.current worked.current
    ∷ line MultipliedBy Factor page.gross_up worked.gross_up
    ∷ line PtcCurrent DollarsPerKwh page.current_taxed worked.current_taxed
    ∷ line MultipliedBy Factor page.gross_up worked.gross_up
    ∷ line RateTimesTax DollarsPerKwh page.e_taxed worked.e_taxed
    ∷ line PtcDefault DollarsPerKwh page.default worked.default
    ∷ []

-- E of the balance over the projected sales, and what of it is billed, with tax.
unfoldable pub e_worked : ReconciliationPage → (tax : ℕ) → EWorked
e_worked page tax = record {
  e = rate_of (in_cents page.balance) page.projected;
  gross_up = gross_up_of tax;
  taxed = rate_in_force (pos 0) page.billed tax;
}

-- They as printed, beside those that are worked.
abbrev pub e_lines : ReconciliationPage → EWorked → List Comparison
e_lines page worked =
    line RateBeforeTax DollarsPerKwh page.e worked.e
    ∷ line GrossUp Factor page.gross_up worked.gross_up
    ∷ line RateWithTax DollarsPerKwh page.taxed worked.taxed
    ∷ []

-- The sum of three months.
abbrev pub sum_of_three : List ℕ → ℕ
sum_of_three months = slice_index months 0 + slice_index months 1 + slice_index months 2

-- The projected sales beside the sum of the months, where the sheet prints them.
abbrev pub sales_line : ℕ → Option (List ℕ) → Option Comparison
sales_line projected (Some months) = Some (line ProjectedSales Kwh (pos projected) (pos (sum_of_three months)))
sales_line projected None = None
