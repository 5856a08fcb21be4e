-- The lines of a month in whole dollars, each from the figures that a sheet prints above it.
use Rattle.std.specs.Prelude.{ℕ, List, [], ◌∷◌, ℤ, pos, ◌+ℤ◌, ◌-ℤ◌, ◌*ℤ◌}
use Rattle.rounding.specs.Rounding.{money_rounded}
use Rattle.reconciliation.specs.Reconciliation.{carrying_charge, net_of, tax_on}
use Rattle.schedules.specs.declared.comparison.Comparison.{Comparison}
use Rattle.schedules.specs.declared.comparison.Unit.TheVariants.{Dollars}
use Rattle.schedules.specs.declared.line_name.LineName.TheVariants.{TaxInRevenues, RevenuesWithoutTax, BalanceBeforeInterest, Interest, BalanceAtEnd}
use Rattle.schedules.specs.declared.months.Month.{Month}
use Rattle.schedules.specs.declared.months.MonthWorked.{MonthWorked}
use Rattle.schedules.specs.Comparisons.{line}

-- Whole dollars in cents.
abbrev pub in_cents : ℤ → ℤ
in_cents dollars = dollars *ℤ pos 100

-- Cents in whole dollars.
abbrev pub in_dollars : ℤ → ℤ
in_dollars cents = money_rounded cents 100

-- The interest of a month in cents, from its two balances as printed.
abbrev pub interest_of : Month → ℕ → ℕ → ℤ
interest_of month under over = carrying_charge (in_cents month.last) (in_cents month.before) under over

-- The lines: tax, net, last + expenses − net, interest, and balance before + interest.
unfoldable pub month_worked : Month → (tax under over : ℕ) → MonthWorked
month_worked month tax under over = record {
  tax = in_dollars (tax_on (in_cents month.revenue) tax);
  net = in_dollars (net_of (in_cents month.revenue) tax);
  before = month.last +ℤ month.expenses -ℤ month.net;
  interest = in_dollars (interest_of month under over);
  end = in_dollars (in_cents month.before +ℤ interest_of month under over);
}

-- A month's lines as printed, beside those that are worked.
abbrev pub month_lines : Month → MonthWorked → List Comparison
month_lines month worked =
    line TaxInRevenues Dollars month.tax worked.tax
    ∷ line RevenuesWithoutTax Dollars month.net worked.net
    ∷ line BalanceBeforeInterest Dollars month.before worked.before
    ∷ line Interest Dollars month.interest worked.interest
    ∷ line BalanceAtEnd Dollars month.end worked.end
    ∷ []
