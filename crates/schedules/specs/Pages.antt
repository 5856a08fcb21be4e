-- The lines of a page that has two parts, in the order of the sheet.
use Rattle.std.specs.Prelude.{ℕ, List, ◌++◌, option_to_list}
use Rattle.schedules.specs.declared.comparison.Comparison.{Comparison}
use Rattle.schedules.specs.declared.reconciliation_page.ReconciliationPage.{ReconciliationPage}
use Rattle.schedules.specs.declared.sheet.PricePage.{PricePage}
use Rattle.schedules.specs.Rates.{e_lines, e_worked, rate_lines, rate_worked, sales_line}
use Rattle.schedules.specs.Supply.{supply_lines}

-- The supply schedule, and then the rate.
abbrev pub price_lines : PricePage → (tax : ℕ) → List Comparison
price_lines page tax = supply_lines page.supply ++ rate_lines page.rate (rate_worked page.rate tax)

-- The projected sales, where the sheet prints them, and then the reconciliation rate E.
abbrev pub reconciliation_lines : ReconciliationPage → (tax : ℕ) → List Comparison
reconciliation_lines page tax = option_to_list (sales_line page.projected page.sales) ++ e_lines page (e_worked page tax)
