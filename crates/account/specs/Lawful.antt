-- The bounds that an account always keeps.
use Rattle.std.specs.Prelude.{◌≡◌, ℕ, ◌*◌, ◌<◌, ◌≤◌, length, pos, Some, Option, slice_index_or, unsigned_abs}
use Rattle.reconciliation.specs.Figures.{WithinReach}
use Rattle.designs.specs.Periods.{most_quantity}
use Rattle.account.specs.declared.figures.CostLine.{CostLine}
use Rattle.account.specs.declared.figures.Ledger.{Ledger}
use Rattle.account.specs.declared.figures.OpenMonth.{OpenMonth}
use Rattle.account.specs.declared.figures.Pending.{Pending}
use Rattle.account.specs.declared.figures.Terms.{Terms}
use Rattle.account.specs.Limits.{most_amount, most_balance, most_bill, most_bills, most_entries, most_filings, most_months}

-- A line with no entry.
abbrev pub no_entries : CostLine
no_entries = record { count = 0; total = record { 0 = pos 0 } }

-- A line has at most 10,000 entries, each at most 10^11 in size.
abbrev pub Fair : CostLine → Type 0
Fair line = (line.count ≤ most_entries) × (unsigned_abs line.total.0 ≤ most_amount * line.count)

-- Each of the eight lines is fair.
abbrev pub Lines : OpenMonth → Type 0
Lines t = (k : ℕ) → k < 8 → Fair (slice_index_or t.costs k no_entries)

-- A month has at most a million bills, each of a lawful quantity and at most 10^9 in size.
abbrev pub Bills : OpenMonth → Type 0
Bills t =
    (t.bills ≤ most_bills) × (t.quantity ≤ most_quantity * t.bills) × (unsigned_abs t.billed.0 ≤ most_bill * t.bills)

-- The open month has eight fair lines, and its bills are in bounds.
abbrev pub Tidy : OpenMonth → Type 0
Tidy t = Lines t × Bills t × (length t.costs ≡ 8)

-- The tax is at most 2,000 and the annual rates at most 2,400 ten-thousandths.
abbrev pub Agreed : Terms → Type 0
Agreed t = (t.tax ≤ 2000) × (t.under ≤ 2400) × (t.over ≤ 2400)

-- The last balance, the months closed and the filings made are in bounds.
abbrev pub Kept : Ledger → Type 0
Kept l = (unsigned_abs l.last.0 ≤ most_balance) × (l.months ≤ most_months) × (l.filings ≤ most_filings)

-- A pending filing has an E within reach, and was made after some of at most 1,200 months.
abbrev pub Own : Option Pending → Type 0
Own o = (p : Pending) → o ≡ Some p → WithinReach p.e.0 × (p.months ≤ most_months)
