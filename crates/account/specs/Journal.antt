-- The journal of an account: its accepted calls, the newest first, each with the amounts that the rules give.
-- It is worked from the opening's arguments and the calls with accepted or refused, and from nothing else.
use Rattle.std.specs.Prelude.{ℕ, ◌+◌, Bool, true, false, cond, List, [], ◌∷◌, ℤ, pos, ◌+ℤ◌, ◌-ℤ◌, ◌==◌, unsigned_abs}
use Rattle.reconciliation.specs.Reconciliation.{carrying_charge, net_of, rate_of}
use Rattle.designs.specs.declared.hours.Hour.{Hour}
use Rattle.designs.specs.Cutting.{part_of}
use Rattle.designs.specs.Meanings.{Meaning}
use Rattle.account.specs.declared.opening.Opening.{Opening}
use Rattle.account.specs.Calls.{Call, Outcome}
use Rattle.account.specs.Calls.Call.{cost, bill, close, file, force, withdraw, read}

-- A count over a list, item by item.
abbrev pub sum_of : {X : Type 0} → (X → ℕ) → List X → ℕ
sum_of f [] = 0
sum_of f (x ∷ xs) = f x + sum_of f xs

-- A total over a list, item by item.
abbrev pub total_of : {X : Type 0} → (X → ℤ) → List X → ℤ
total_of f [] = pos 0
total_of f (x ∷ xs) = f x +ℤ total_of f xs

-- ---- entries

-- A bill: its quantity, its base in ten-thousandths of a mil, and its cents with tax.
pub record Bill : Type 0 where
  pub quantity : ℕ
  pub base : ℤ
  pub amount : ℤ

-- A filing as this account made it: its number, the last balance at that time, and the sum of its draft.
pub record Filed : Type 0 where
  pub number : ℕ
  pub balance : ℤ
  pub projected : ℕ

-- What an accepted call brings.
pub data Entry (D : Type 0) : Type 0 where
  costed : (amount : ℤ) → Entry D
  billed : (b : Bill) → Entry D
  closed : (charge : ℤ) → Entry D
  filed : (filing : Filed) → Entry D
  forced : (filing : Filed) (design : D) → Entry D

-- The entries, the newest first.
abbrev pub Journal : Type 0 → Type 0
Journal D = List (Entry D)

-- ---- months

-- A month's costs and bills, and the carrying charge of its closing, 0 while it is open.
pub record Month : Type 0 where
  pub costs : List ℤ
  pub bills : List Bill
  pub charge : ℤ

-- A month in which nothing has come yet.
abbrev pub empty : Month
empty = record { costs = []; bills = []; charge = pos 0 }

-- The open month, and the closed ones, the newest first.
pub record Months : Type 0 where
  pub current : Month
  pub past : List Month

-- A journal, cut at its closings.
abbrev pub months : {D : Type 0} → Journal D → Months
months [] = record { current = empty; past = [] }
months (costed amount ∷ j) = record {
  current = record { costs = amount ∷ (months j).current.costs; bills = (months j).current.bills; charge = pos 0 };
  past = (months j).past;
}
months (billed b ∷ j) = record {
  current = record { costs = (months j).current.costs; bills = b ∷ (months j).current.bills; charge = pos 0 };
  past = (months j).past;
}
months (closed charge ∷ j) = record {
  current = empty;
  past = record { costs = (months j).current.costs; bills = (months j).current.bills; charge = charge } ∷ (months j).past;
}
months (filed filing ∷ j) = months j
months (forced filing design ∷ j) = months j

-- The open month before the closed ones.
abbrev pub all_months : {D : Type 0} → Journal D → List Month
all_months j = (months j).current ∷ (months j).past

-- A month's costs.
abbrev pub costs_in : Month → ℤ
costs_in month = total_of (λ amount. amount) month.costs

-- A month's bills with tax.
abbrev pub billed_in : Month → ℤ
billed_in month = total_of (λ b. b.amount) month.bills

-- The quantity of a month's bills.
abbrev pub quantity_in : Month → ℕ
quantity_in month = sum_of (λ b. b.quantity) month.bills

-- A month's bills net of tax, which is rounded once for the month.
abbrev pub net_in : ℕ → Month → ℤ
net_in tax month = net_of (billed_in month) tax

-- The balance before the charge: last balance + costs − bills net of tax.
abbrev pub before : ℕ → ℤ → Month → ℤ
before tax last month = last +ℤ costs_in month -ℤ net_in tax month

-- T in force, in ten-thousandths.
abbrev pub tax_in_force : {D : Type 0} → Opening D → ℕ
tax_in_force o = unsigned_abs o.tax

-- The last balance: the opening's, then each closing's.
abbrev pub last_from : {D : Type 0} → Opening D → List Month → ℤ
last_from o [] = o.balance.0
last_from o (month ∷ past) = before (tax_in_force o) (last_from o past) month +ℤ month.charge

abbrev pub last_balance : {D : Type 0} → Opening D → Journal D → ℤ
last_balance o j = last_from o (months j).past

-- ---- filings, and the rate in force

-- How many filings were made.
abbrev pub made : {D : Type 0} → Journal D → ℕ
made [] = 0
made (costed amount ∷ j) = made j
made (billed b ∷ j) = made j
made (closed charge ∷ j) = made j
made (filed filing ∷ j) = made j + 1
made (forced filing design ∷ j) = made j

-- This account's own filing of a number.
abbrev pub own_filing : {D : Type 0} → ℕ → Journal D → Filed
own_filing n [] = record { number = 0; balance = pos 0; projected = 0 }
own_filing n (costed amount ∷ j) = own_filing n j
own_filing n (billed b ∷ j) = own_filing n j
own_filing n (closed charge ∷ j) = own_filing n j
own_filing n (filed filing ∷ j) = cond (filing.number == n) filing (own_filing n j)
own_filing n (forced filing design ∷ j) = own_filing n j

-- The E of a filing.
abbrev pub e_of : Filed → ℤ
e_of filing = rate_of filing.balance filing.projected

-- A design, and the E that it bills at.
pub record InForce (D : Type 0) : Type 0 where
  pub design : D
  pub e : ℤ

-- The design and E in force: the opening's design and 0, then those of the latest taking into force.
abbrev pub in_force : {D : Type 0} → Opening D → Journal D → InForce D
in_force o [] = record { design = o.design; e = pos 0 }
in_force o (costed amount ∷ j) = in_force o j
in_force o (billed b ∷ j) = in_force o j
in_force o (closed charge ∷ j) = in_force o j
in_force o (filed filing ∷ j) = in_force o j
in_force o (forced filing design ∷ j) = record { design = design; e = e_of filing }

-- ---- from calls to entries

-- What a design makes of a period.
abbrev pub bill_of : Meaning → List Hour → ℤ → ℕ → Bill
bill_of m period e tax = record { quantity = m.quantity period; base = m.base period; amount = m.bill period e tax }

-- The bill of a period by the design in force, at E and T in force.
abbrev pub bill_now : {D : Type 0} → (D → Meaning) → Opening D → Journal D → List Hour → Bill
bill_now m o j period = bill_of (m (in_force o j).design) period (in_force o j).e (tax_in_force o)

-- The carrying charge of closing the open month.
abbrev pub charge_now : {D : Type 0} → Opening D → Journal D → ℤ
charge_now o j =
    carrying_charge (last_balance o j) (before (tax_in_force o) (last_balance o j) (months j).current) (unsigned_abs o.under) (unsigned_abs o.over)

-- The filing of the last balance over a draft's sum, numbered from 1.
abbrev pub filing_now : {D : Type 0} → Opening D → Journal D → ℕ → Filed
filing_now o j projected = record { number = made j + 1; balance = last_balance o j; projected = projected }

-- What a call adds to the journal if it is accepted.
abbrev pub added : {D : Type 0} → (D → Meaning) → Opening D → Journal D → Bool → Call D → Journal D
added m o j false call = j
added m o j true (cost kind amount) = costed amount ∷ j
added m o j true (bill held start count) = billed (bill_now m o j (part_of held start count)) ∷ j
added m o j true close = closed (charge_now o j) ∷ j
added m o j true (file draft) = filed (filing_now o j draft.sum.units) ∷ j
added m o j true (force filing design) = forced (own_filing filing.number j) design ∷ j
added m o j true (withdraw filing) = j
added m o j true read = j

-- The journal of an opening and the calls since, each accepted or refused.
abbrev pub journal : {D : Type 0} → (D → Meaning) → Opening D → List (Outcome D) → Journal D
journal m o [] = []
journal m o (outcome ∷ earlier) = added m o (journal m o earlier) outcome.accepted outcome.call
