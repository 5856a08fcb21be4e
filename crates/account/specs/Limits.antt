-- The limits of an account, and its calendar. Money is in cents.
use Rattle.std.specs.Prelude.{ℕ}

-- A balance is at most 10^13 in size.
abbrev pub most_balance : ℕ
most_balance = 10000000000000

-- A cost is at most 10^11 in size.
abbrev pub most_amount : ℕ
most_amount = 100000000000

-- A kind has at most 10,000 costs a month.
abbrev pub most_entries : ℕ
most_entries = 10000

-- A bill is at most 10^9 in size.
abbrev pub most_bill : ℕ
most_bill = 1000000000

-- A month has at most a million bills.
abbrev pub most_bills : ℕ
most_bills = 1000000

-- An account closes at most 1,200 months.
abbrev pub most_months : ℕ
most_months = 1200

-- An account makes at most a million filings.
abbrev pub most_filings : ℕ
most_filings = 1000000

-- A monthly projection is at most 10^12.
abbrev pub most_projection : ℕ
most_projection = 1000000000000

-- Filings are made at whole quarters.
abbrev pub months_between_filings : ℕ
months_between_filings = 3

-- A filing is taken into force after the second closing since.
abbrev pub closings_before_force : ℕ
closings_before_force = 2

-- A filing lapses at the third closing since.
abbrev pub closings_to_lapse : ℕ
closings_to_lapse = 3
