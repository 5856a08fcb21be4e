-- What each call answers, and every figure after it. Checks run in the order listed; a refused call changes nothing.
use Rattle.std.specs.Prelude.{ℕ, ◌+◌, ◌-◌, ◌%◌, ◌^◌, Bool, false, not, ◌&&◌, ◌||◌, List, [], ◌∷◌, ◌++◌, map, replicate, ℤ, pos, ◌+ℤ◌, ◌-ℤ◌, Some, None, Ok, Err, fold, Option, Result, ◌==◌, int_lt, nat_le, nat_lt, slice_index_or, slice_set, unsigned_abs}
use Rattle.refusals.specs.Checks.{Checks, answer_unless, first, unless}
use Rattle.reconciliation.specs.declared.figures.Cents.{Cents}
use Rattle.reconciliation.specs.declared.figures.RateUnits.{RateUnits}
use Rattle.reconciliation.specs.Reconciliation.{carrying_charge, net_of, rate_of, tax_on}
use Rattle.designs.specs.declared.hours.Hour.{Hour}
use Rattle.designs.specs.declared.refusal.PeriodRefusal.{PeriodRefusal}
use Rattle.designs.specs.Cutting.{part_of, period_checks}
use Rattle.designs.specs.Meanings.{Meaning}
use Rattle.account.specs.declared.answers.Billed.{Billed}
use Rattle.account.specs.declared.answers.Closing.{Closing}
use Rattle.account.specs.declared.answers.Reading.{Reading}
use Rattle.account.specs.declared.figures.CostLine.{CostLine}
use Rattle.account.specs.declared.figures.Figures.{Figures}
use Rattle.account.specs.declared.figures.Ledger.{Ledger}
use Rattle.account.specs.declared.figures.OpenMonth.{OpenMonth}
use Rattle.account.specs.declared.figures.Pending.{Pending}
use Rattle.account.specs.declared.figures.Terms.{Terms}
use Rattle.account.specs.declared.opening.Opening.{Opening}
use Rattle.account.specs.declared.filings.Draft.{Draft}
use Rattle.account.specs.declared.filings.Filing.{Filing}
use Rattle.account.specs.declared.refusal.BillRefusal.{BillRefusal}
use Rattle.account.specs.declared.refusal.BillRefusal.TheVariants.{OfPeriod, OfAccount}
use Rattle.account.specs.declared.refusal.Refusal.{Refusal}
use Rattle.account.specs.declared.refusal.Refusal.TheVariants.{TaxOrInterest, NumberOrBalance, Projections, RateTooLarge, UnknownKind, AmountTooLarge, LineFull, MonthFull, BillTooLarge, BalanceTooLarge, MonthsFull, NotQuarterEnd, AlreadyPending, NotPending, TooEarly, Lapsed, MonthBilled, FilingsFull}
use Rattle.account.specs.Lawful.{no_entries}
use Rattle.account.specs.Limits.{most_amount, most_balance, most_bill, most_bills, most_entries, most_filings, most_months, most_projection, months_between_filings, closings_before_force, closings_to_lapse}

-- ---- opening

-- A figure is not low to high.
abbrev pub outside : ℕ → ℕ → ℤ → Bool
outside low high figure = int_lt figure (pos low) || int_lt (pos high) figure

abbrev pub open_checks : {D : Type 0} → Opening D → Checks Refusal
open_checks o =
    (outside 0 2000 o.tax || (outside 0 2400 o.under || outside 0 2400 o.over), TaxOrInterest)
    ∷ (nat_le (2 ^ 32) o.account || nat_lt most_balance (unsigned_abs o.balance.0), NumberOrBalance) ∷ []

-- A month with no entry and no bill.
abbrev pub empty_month : OpenMonth
empty_month = record { costs = replicate 8 no_entries; bills = 0; quantity = 0; billed = record { 0 = pos 0 } }

-- E is 0, no month is closed, no filing was made, none pends, every line is zero.
abbrev pub starting : {D : Type 0} → Terms → Cents → D → Figures D
starting terms balance design = record {
  terms = terms;
  rate = record { design = design; e = record { 0 = pos 0 } };
  pending = None;
  ledger = record { last = balance; months = 0; filings = 0; month = empty_month };
}

-- The figures that an opening leaves.
abbrev pub opened : {D : Type 0} → Opening D → Figures D
opened o =
    starting (record { account = o.account; tax = unsigned_abs o.tax; under = unsigned_abs o.under; over = unsigned_abs o.over }) o.balance o.design

-- The opening of an account that stands for none yet.
abbrev pub no_opening : {D : Type 0} → D → Opening D
no_opening design = record { account = 0; balance = record { 0 = pos 0 }; tax = pos 0; under = pos 0; over = pos 0; design = design }

abbrev pub open_rule : {D : Type 0} → Figures D → Opening D → Result Unit Refusal × Figures D
open_rule lent o = unless (first (open_checks o)) tt lent (opened o)

-- ---- cost

-- The figures with another open month.
abbrev pub with_month : {D : Type 0} → Figures D → OpenMonth → Figures D
with_month f t = record {
  terms = f.terms;
  rate = f.rate;
  pending = f.pending;
  ledger = record { last = f.ledger.last; months = f.ledger.months; filings = f.ledger.filings; month = t };
}

-- The line of a kind, 1 to 8.
abbrev pub line_of : OpenMonth → ℕ → CostLine
line_of t kind = slice_index_or t.costs (kind - 1) no_entries

-- A line with one entry more.
abbrev pub entered : CostLine → ℤ → CostLine
entered line amount = record { count = line.count + 1; total = record { 0 = line.total.0 +ℤ amount } }

-- A month with another line of a kind.
abbrev pub with_line : OpenMonth → ℕ → CostLine → OpenMonth
with_line t kind line = record { costs = slice_set t.costs (kind - 1) line; bills = t.bills; quantity = t.quantity; billed = t.billed }

abbrev pub cost_checks : OpenMonth → ℕ → ℤ → Checks Refusal
cost_checks t kind amount =
    (nat_lt kind 1 || nat_lt 8 kind, UnknownKind)
    ∷ (nat_lt most_amount (unsigned_abs amount), AmountTooLarge)
    ∷ (nat_le most_entries (line_of t kind).count, LineFull) ∷ []

-- A month with one cost more.
abbrev pub with_cost : OpenMonth → ℕ → ℤ → OpenMonth
with_cost t kind amount = with_line t kind (entered (line_of t kind) amount)

-- The figures with one cost more.
abbrev pub costed : {D : Type 0} → Figures D → ℕ → ℤ → Figures D
costed f kind amount = with_month f (with_cost f.ledger.month kind amount)

abbrev pub cost_rule : {D : Type 0} → Figures D → ℕ → ℤ → Result Unit Refusal × Figures D
cost_rule f kind amount = unless (first (cost_checks f.ledger.month kind amount)) tt f (costed f kind amount)

-- ---- bill

-- What the design in force makes of a period, at E and T in force.
abbrev pub bill_told : {D : Type 0} → (D → Meaning) → Figures D → List Hour → Billed
bill_told m f period = record {
  quantity = (m f.rate.design).quantity period;
  amount = record { 0 = (m f.rate.design).bill period f.rate.e.0 f.terms.tax };
}

-- A month with one bill more.
abbrev pub with_bill : OpenMonth → Billed → OpenMonth
with_bill t b = record {
  costs = t.costs;
  bills = t.bills + 1;
  quantity = t.quantity + b.quantity;
  billed = record { 0 = t.billed.0 +ℤ b.amount.0 };
}

-- The figures with one bill more.
abbrev pub billed_to : {D : Type 0} → Figures D → Billed → Figures D
billed_to f b = with_month f (with_bill f.ledger.month b)

-- A check of the period, as one of the bill.
abbrev pub of_its_period : Bool × PeriodRefusal → Bool × BillRefusal
of_its_period check = (check.0, OfPeriod check.1)

-- The checks of the month, by its bill.
abbrev pub month_checks : OpenMonth → ℤ → Checks BillRefusal
month_checks t amount =
    (nat_le most_bills t.bills, OfAccount MonthFull)
    ∷ (nat_lt most_bill (unsigned_abs amount), OfAccount BillTooLarge) ∷ []

-- The period is checked, then the month.
abbrev pub bill_checks : OpenMonth → List Hour → ℕ → ℕ → ℤ → Checks BillRefusal
bill_checks t held start count amount = map of_its_period (period_checks held start count) ++ month_checks t amount

abbrev pub bill_rule : {D : Type 0} → (D → Meaning) → Figures D → List Hour → ℕ → ℕ → Result Billed BillRefusal × Figures D
bill_rule m f held start count =
    unless (first (bill_checks f.ledger.month held start count (bill_told m f (part_of held start count)).amount.0))
    (bill_told m f (part_of held start count)) f (billed_to f (bill_told m f (part_of held start count)))

-- ---- closing

-- The total of a month's eight lines.
abbrev pub costs_of : OpenMonth → ℤ
costs_of t = fold (λ a line. a +ℤ line.total.0) (pos 0) t.costs

-- Last balance + costs − bills net of tax.
abbrev pub balance_before : Ledger → ℕ → ℤ
balance_before l tax = l.last.0 +ℤ costs_of l.month -ℤ net_of l.month.billed.0 tax

-- The carrying charge of closing the open month.
abbrev pub charge_at : Terms → Ledger → ℤ
charge_at t l = carrying_charge l.last.0 (balance_before l t.tax) t.under t.over

-- The balance before the charge, and the charge.
abbrev pub balance_after : Terms → Ledger → ℤ
balance_after t l = balance_before l t.tax +ℤ charge_at t l

-- The checks of the balance before the charge, and of the balance after it.
abbrev pub balance_checks : Terms → Ledger → Checks Refusal
balance_checks t l =
    (nat_lt most_balance (unsigned_abs (balance_before l t.tax)), BalanceTooLarge)
    ∷ (nat_lt most_balance (unsigned_abs (balance_after t l)), BalanceTooLarge) ∷ []

abbrev pub close_checks : Terms → Ledger → Checks Refusal
close_checks t l = (nat_le most_months l.months, MonthsFull) ∷ balance_checks t l

abbrev pub closing_of : Terms → Ledger → Closing
closing_of t l = record {
  months = l.months + 1;
  tax = record { 0 = tax_on l.month.billed.0 t.tax };
  net = record { 0 = net_of l.month.billed.0 t.tax };
  charge = record { 0 = charge_at t l };
  balance = record { 0 = balance_after t l };
}

-- One month more is closed at a balance, and the month's lines start again at zero.
abbrev pub closed : {D : Type 0} → Figures D → ℤ → Figures D
closed f balance = record {
  terms = f.terms;
  rate = f.rate;
  pending = f.pending;
  ledger = record { last = record { 0 = balance }; months = f.ledger.months + 1; filings = f.ledger.filings; month = empty_month };
}

abbrev pub close_rule : {D : Type 0} → Figures D → Result Closing Refusal × Figures D
close_rule f =
    unless (first (close_checks f.terms f.ledger)) (closing_of f.terms f.ledger) f (closed f (balance_after f.terms f.ledger))

-- ---- drafts

-- The sum of three projections, unless one is beyond 10^12 or the sum is zero.
abbrev pub drafted : ℕ → ℕ → ℕ → Result ℕ Refusal
drafted a b c =
    answer_unless (first (
    (nat_lt most_projection a || (nat_lt most_projection b || nat_lt most_projection c), Projections)
    ∷ ((a + b + c == 0), Projections) ∷ [])) (a + b + c)

-- The sum of a new draft, or its refusal.
abbrev pub sum_of : Result Draft Refusal → Result ℕ Refusal
sum_of (Ok draft) = Ok draft.sum.units
sum_of (Err refusal) = Err refusal

-- A refused amendment keeps the old sum.
abbrev pub taken : ℕ → Result ℕ Refusal → Result Unit Refusal × ℕ
taken old (Ok sum) = (Ok tt, sum)
taken old (Err refusal) = (Err refusal, old)

-- What amending a draft of an old sum answers, and the sum after it.
abbrev pub amended : ℕ → ℕ → ℕ → ℕ → Result Unit Refusal × ℕ
amended old a b c = taken old (drafted a b c)

-- ---- filing

-- The E that a filing of this draft would have: of the last balance, not of the balance now.
abbrev pub e_filed : Ledger → Draft → ℤ
e_filed l draft = rate_of l.last.0 draft.sum.units

-- A filing pends that has not lapsed.
abbrev pub unlapsed : Option Pending → ℕ → Bool
unlapsed None months = false
unlapsed (Some p) months = nat_lt months (p.months + closings_to_lapse)

abbrev pub file_checks : {D : Type 0} → Figures D → Draft → Checks (Draft × Refusal)
file_checks f draft =
    (not (f.ledger.months % months_between_filings == 0), (draft, NotQuarterEnd))
    ∷ (unlapsed f.pending f.ledger.months, (draft, AlreadyPending))
    ∷ (nat_le most_filings f.ledger.filings, (draft, FilingsFull))
    ∷ (nat_lt 100000 (unsigned_abs (e_filed f.ledger draft)), (draft, RateTooLarge)) ∷ []

-- The token of the next filing.
abbrev pub filing_at : {D : Type 0} → Figures D → ℤ → Filing
filing_at f e = record { account = f.terms.account; number = f.ledger.filings + 1; e = record { 0 = e } }

-- The account's own record of the next filing.
abbrev pub pending_at : Ledger → ℤ → Pending
pending_at l e = record { number = l.filings + 1; e = record { 0 = e }; balance = l.last; months = l.months }

-- One filing more is made, and it pends.
abbrev pub filed : {D : Type 0} → Figures D → ℤ → Figures D
filed f e = record {
  terms = f.terms;
  rate = f.rate;
  pending = Some (pending_at f.ledger e);
  ledger = record { last = f.ledger.last; months = f.ledger.months; filings = f.ledger.filings + 1; month = f.ledger.month };
}

abbrev pub file_rule : {D : Type 0} → Figures D → Draft → Result Filing (Draft × Refusal) × Figures D
file_rule f draft =
    unless (first (file_checks f draft)) (filing_at f (e_filed f.ledger draft)) f (filed f (e_filed f.ledger draft))

-- ---- taking into force, and withdrawal

-- The account's number and the pending filing's are the token's.
abbrev pub is_pending : {D : Type 0} → Figures D → Filing → Option Pending → Bool
is_pending f filing None = false
is_pending f filing (Some p) = filing.account == f.terms.account && filing.number == p.number

-- What the account recorded of its pending filing, and zeros where none pends.
abbrev pub recorded : Option Pending → Pending
recorded None = record { number = 0; e = record { 0 = pos 0 }; balance = record { 0 = pos 0 }; months = 0 }
recorded (Some p) = p

abbrev pub force_checks : {D : Type 0} → Figures D → Filing → Checks (Filing × Refusal)
force_checks f filing =
    (not (is_pending f filing f.pending), (filing, NotPending))
    ∷ (nat_lt f.ledger.months ((recorded f.pending).months + closings_before_force), (filing, TooEarly))
    ∷ (nat_lt ((recorded f.pending).months + closings_before_force) f.ledger.months, (filing, Lapsed))
    ∷ (not (f.ledger.month.bills == 0), (filing, MonthBilled)) ∷ []

-- The design, E and the pending filing change, and no other figure.
abbrev pub in_force : {D : Type 0} → Figures D → D → Figures D
in_force f design = record {
  terms = f.terms;
  rate = record { design = design; e = (recorded f.pending).e };
  pending = None;
  ledger = f.ledger;
}

abbrev pub force_rule : {D : Type 0} → Figures D → Filing → D → Result RateUnits (Filing × Refusal) × Figures D
force_rule f filing design = unless (first (force_checks f filing)) (recorded f.pending).e f (in_force f design)

-- Nothing pends any more.
abbrev pub withdrawn : {D : Type 0} → Figures D → Figures D
withdrawn f = record { terms = f.terms; rate = f.rate; pending = None; ledger = f.ledger }

abbrev pub withdraw_checks : {D : Type 0} → Figures D → Filing → Checks Refusal
withdraw_checks f filing = (not (is_pending f filing f.pending), NotPending) ∷ []

abbrev pub withdraw_rule : {D : Type 0} → Figures D → Filing → Result ℕ Refusal × Figures D
withdraw_rule f filing = unless (first (withdraw_checks f filing)) filing.number f (withdrawn f)

-- ---- reading

-- The pending filing's number, if one pends.
abbrev pub number_pending : Option Pending → Option ℕ
number_pending None = None
number_pending (Some p) = Some p.number

abbrev pub reading_of : {D : Type 0} → Figures D → Reading
reading_of f = record {
  months = f.ledger.months;
  e = f.rate.e;
  pending = number_pending f.pending;
  balance = record { 0 = balance_before f.ledger f.terms.tax };
}
