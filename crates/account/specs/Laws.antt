-- The laws of every run of an account, whatever its design.
use Rattle.std.specs.Prelude.{◌≡◌, ℕ, ◌+◌, ◌*◌, ◌≤◌, Bool, true, false, cond, All, List, [], ◌∷◌, ◌++◌, map, length, ℤ, pos, ◌+ℤ◌, ◌*ℤ◌, unsigned_abs}
use Rattle.rounding.specs.Rounding.{gap}
use Rattle.designs.specs.Meanings.{Meaning}
use Rattle.account.specs.declared.answers.Reading.{Reading}
use Rattle.account.specs.declared.figures.Figures.{Figures}
use Rattle.account.specs.declared.opening.Opening.{Opening}
use Rattle.account.specs.Calls.{Call, Step, History, accepted, outcomes, LeadsTo}
use Rattle.account.specs.Calls.Call.{cost, bill, close, file, force, withdraw, read}
use Rattle.account.specs.Journal.{Bill, Filed, Entry, Journal, months, all_months, sum_of, total_of, costs_in, billed_in, quantity_in, net_in, e_of, in_force, last_balance, made, tax_in_force, journal}
use Rattle.account.specs.Journal.Entry.{costed, billed, closed, filed, forced}

-- ---- sums over a journal, or over a part of one

-- Accepted costs.
abbrev pub costs : {D : Type 0} → Journal D → ℤ
costs j = total_of costs_in (all_months j)

-- Carrying charges.
abbrev pub charges : {D : Type 0} → Journal D → ℤ
charges j = total_of (λ month. month.charge) (all_months j)

-- Bills net of tax: the monthly nets, an open month's from its bills so far.
abbrev pub nets : {D : Type 0} → ℕ → Journal D → ℤ
nets tax j = total_of (net_in tax) (all_months j)

-- Base charges, in ten-thousandths of a mil.
abbrev pub base_charges : {D : Type 0} → Journal D → ℤ
base_charges j = total_of (λ month. total_of (λ b. b.base) month.bills) (all_months j)

-- The number of bills.
abbrev pub bill_count : {D : Type 0} → Journal D → ℕ
bill_count j = sum_of (λ month. length month.bills) (all_months j)

-- The billed quantity.
abbrev pub billed_quantity : {D : Type 0} → Journal D → ℕ
billed_quantity j = sum_of quantity_in (all_months j)

-- A billed month has at least one bill.
abbrev pub one_if_any : List Bill → ℕ
one_if_any [] = 0
one_if_any (b ∷ bills) = 1

-- The number of billed months.
abbrev pub billed_months : {D : Type 0} → Journal D → ℕ
billed_months j = sum_of (λ month. one_if_any month.bills) (all_months j)

-- ---- Conservation: opening balance + accepted costs + carrying charges = bills net of tax + the balance now.

abbrev pub Conservation : {D : Type 0} → (D → Meaning) → Opening D → History D → ℤ → Type 0
Conservation m o h balance =
    o.balance.0 +ℤ costs (journal m o (outcomes h)) +ℤ charges (journal m o (outcomes h)) ≡ nets (tax_in_force o) (journal m o (outcomes h)) +ℤ balance

-- ---- Recovery: over a term, bills net of tax equal base charges plus the filed balance, within four allowances.

-- The four allowances, each in half mils. For rounding bills: 500 mils for each of the design's c half cents, on each bill.
abbrev pub bills_allowance : (c bills : ℕ) → ℕ
bills_allowance c bills = 1000 * (c * bills)

-- For rounding a month's tax: 500 mils on each billed month.
abbrev pub months_allowance : (months : ℕ) → ℕ
months_allowance months = 1000 * months

-- For rounding rates: half a mil for each of the design's u half rate units on each unit billed, and for E on each unit projected.
abbrev pub rates_allowance : (u quantity projected : ℕ) → ℕ
rates_allowance u quantity projected = u * quantity + projected

-- For billing another quantity than was projected: E on each unit between them.
abbrev pub quantity_allowance : (e : ℤ) (quantity projected : ℕ) → ℕ
quantity_allowance e quantity projected = 2 * (unsigned_abs e * gap (pos quantity) (pos projected))

-- How far bills net of tax are from base charges plus the filed balance, in ten-thousandths of a mil: a cent is 10,000,000 of them.
abbrev pub difference : (net base balance : ℤ) → ℕ
difference net base balance = gap (pos 10000000 *ℤ net) (base +ℤ pos 10000000 *ℤ balance)

-- Twice the difference is at most 10,000 times the allowances, which are in half mils.
abbrev pub Recovered : {D : Type 0} → Meaning → ℕ → Filed → Journal D → Type 0
Recovered m tax filing term =
    2 * difference (nets tax term) (base_charges term) filing.balance
    ≤ 10000
    * (bills_allowance m.c (bill_count term)
    + months_allowance (billed_months term)
    + rates_allowance m.u (billed_quantity term) filing.projected
    + quantity_allowance (e_of filing) (billed_quantity term) filing.projected)

-- An entry is a taking into force.
abbrev pub is_force : {D : Type 0} → Entry D → Bool
is_force (costed amount) = false
is_force (billed b) = false
is_force (closed charge) = false
is_force (filed filing) = false
is_force (forced filing design) = true

-- A term: what the journal has after a taking into force and before the next, the whole of it or up to any point.
pub record Term {D : Type 0} (j : Journal D) (filing : Filed) (design : D) (term : Journal D) : Type 0 where
  pub later : Journal D
  pub earlier : Journal D
  pub parts : j ≡ later ++ (term ++ (forced filing design ∷ earlier))
  pub one : All (λ (entry : Entry D). is_force entry ≡ false) term

-- This account made a filing: of its last balance at that time, and with its next number.
pub record Made {D : Type 0} (o : Opening D) (j : Journal D) (filing : Filed) : Type 0 where
  pub later : Journal D
  pub earlier : Journal D
  pub parts : j ≡ later ++ (filed filing ∷ earlier)
  pub balance : filing.balance ≡ last_balance o earlier
  pub number : filing.number ≡ made earlier + 1

-- Each term is of a filing that this account made, begins in a month with no bill yet, and recovers the filed balance.
pub record Recovers {D : Type 0} (m : D → Meaning) (o : Opening D) (j : Journal D) (filing : Filed) (design : D) (term : Journal D) (t : Term j filing design term) : Type 0 where
  pub own : Made o t.earlier filing
  pub unbilled : (months t.earlier).current.bills ≡ []
  pub recovered : Recovered (m design) (tax_in_force o) filing term

abbrev pub Recovery : {D : Type 0} → (D → Meaning) → Opening D → History D → Type 0
Recovery {D} m o h =
    (filing : Filed) (design : D) (term : Journal D) (t : Term (journal m o (outcomes h)) filing design term)
    → Recovers m o (journal m o (outcomes h)) filing design term t

-- ---- Order: two accounts opened alike get the same costs and bills between the same other calls, in different orders. Where one refuses
-- no cost or bill, neither does the other; those other calls answer alike in both, and both end equal in every figure held, design included.

-- A call is a cost or a bill.
abbrev pub is_entry : {D : Type 0} → Call D → Bool
is_entry (cost kind amount) = true
is_entry (bill held start count) = true
is_entry close = false
is_entry (file draft) = false
is_entry (force filing design) = false
is_entry (withdraw filing) = false
is_entry read = false

-- The same calls, but that costs and bills which stand side by side may change places, as often as one likes.
pub data Reordered {D : Type 0} : List (Call D) → List (Call D) → Type 0 where
  none : Reordered [] []
  same : (call : Call D) {xs ys : List (Call D)} → Reordered xs ys → Reordered (call ∷ xs) (call ∷ ys)
  swapped : (a b : Call D) (xs : List (Call D)) → is_entry a ≡ true → is_entry b ≡ true → Reordered (a ∷ b ∷ xs) (b ∷ a ∷ xs)
  then : {xs ys zs : List (Call D)} → Reordered xs ys → Reordered ys zs → Reordered xs zs

-- The calls of a history, without their answers.
abbrev pub calls : {D : Type 0} → History D → List (Call D)
calls h = map (λ s. s.call) h

-- A step is no cost or bill, or it was accepted.
abbrev pub TakenAt : {D : Type 0} → Step D → Type 0
TakenAt s = is_entry s.call ≡ true → accepted s.call s.answer ≡ true

-- No cost or bill was refused.
abbrev pub Taken : {D : Type 0} → History D → Type 0
Taken {D} h = All (λ (s : Step D). TakenAt s) h

-- The other calls, with their answers.
abbrev pub others : {D : Type 0} → History D → History D
others [] = []
others (s ∷ h) = cond (is_entry s.call) (others h) (s ∷ others h)

abbrev pub Order : {D : Type 0} → (D → Meaning) → Opening D → History D → Figures D → Type 0
Order {D} m o h f =
    (h' : History D) (f' : Figures D) → LeadsTo m o h' f' → Reordered (calls h) (calls h') → Taken h → Taken h' × (others h ≡ others h') × (f ≡ f')

-- ---- What is told and held: the months closed and E that a reading tells are the journal's, and the open month has the count, quantity and
-- total of its accepted bills.

pub record Told {D : Type 0} (o : Opening D) (j : Journal D) (f : Figures D) (r : Reading) : Type 0 where
  pub months_closed : r.months ≡ length (months j).past
  pub rate : r.e.0 ≡ (in_force o j).e
  pub bills : f.ledger.month.bills ≡ length (months j).current.bills
  pub quantity : f.ledger.month.quantity ≡ quantity_in (months j).current
  pub billed_total : f.ledger.month.billed.0 ≡ billed_in (months j).current

-- ---- all of them

pub record Laws {D : Type 0} (m : D → Meaning) (o : Opening D) (h : History D) (f : Figures D) (r : Reading) : Type 0 where
  pub conservation : Conservation m o h r.balance.0
  pub recovery : Recovery m o h
  pub order : Order m o h f
  pub told : Told o (journal m o (outcomes h)) f r

-- Whatever was opened, and whatever calls led from there to these figures, the laws hold of that run, at what a reading tells.
abbrev pub EveryRun : {D : Type 0} → (D → Meaning) → Figures D → Reading → Type 0
EveryRun {D} m f r = (o : Opening D) (h : History D) → LeadsTo m o h f → Laws m o h f r
