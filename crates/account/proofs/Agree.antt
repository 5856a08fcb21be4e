-- The figures of an account agree with its journal.
use Rattle.std.proofs.Common.{◌≡◌, ℕ, zero, suc, ◌+◌, ◌-◌, ◌<◌, ◌≤◌, true, false, cond, ◌||◌, eqb, ltb, List, [], ◌∷◌, length, get_or, set, ℤ, pos, ◌+ℤ◌, nat_abs, is_ok, Some, None, fold, Option, Result, sym, refl, ap, ◌∙◌, subst, arith, lit≤, ltb-false, eq-eqb, eqb-true, int_lt}
use Rattle.std.proofs.lemmas.Int.{ints}
use Rattle.std.proofs.lemmas.Bool.{and_parts, not-false, both_ways, or_parts}
use Rattle.std.proofs.lemmas.Option.{none-some}
use Rattle.std.proofs.lemmas.List.{length-set}
use Rattle.refusals.proofs.Passed.{Passed, by_checks}
use Rattle.reconciliation.specs.declared.figures.Cents.{Cents}
use Rattle.reconciliation.specs.Figures.{WithinReach}
use Rattle.reconciliation.specs.Reconciliation.{rate_of}
use Rattle.designs.specs.declared.hours.Hour.{Hour}
use Rattle.designs.specs.Cutting.{part_of}
use Rattle.designs.specs.Meanings.{Meaning}
use Rattle.account.specs.declared.answers.Billed.{Billed}
use Rattle.account.specs.declared.figures.CostLine.{CostLine}
use Rattle.account.specs.declared.figures.Figures.{Figures}
use Rattle.account.specs.declared.figures.OpenMonth.{OpenMonth}
use Rattle.account.specs.declared.figures.Pending.{Pending}
use Rattle.account.specs.declared.figures.Rate.{Rate}
use Rattle.account.specs.declared.figures.Terms.{Terms}
use Rattle.account.specs.declared.opening.Opening.{Opening}
use Rattle.account.specs.declared.filings.Draft.{Draft}
use Rattle.account.specs.declared.filings.Filing.{Filing}
use Rattle.account.specs.declared.refusal.Refusal.{Refusal}
use Rattle.account.specs.Lawful.{no_entries}
use Rattle.account.specs.Rules.{opened, open_checks, open_rule, outside, entered, cost_checks, costed as with_cost_in, cost_rule, bill_told, bill_checks, billed_to, bill_rule, costs_of, balance_before, balance_after, closing_of, close_checks, closed as closed_at, close_rule, e_filed, filing_at, pending_at, file_checks, filed as filed_at, file_rule, is_pending, recorded, force_checks, in_force as forced_in, force_rule, withdrawn, withdraw_checks, withdraw_rule}
use Rattle.account.specs.Calls.{Call, Answer, rule, accepted, History, outcomes, Opens, LeadsTo}
use Rattle.account.specs.Calls.Call.{cost, bill, close, file, force, withdraw, read}
use Rattle.account.specs.Journal.{Filed, InForce, Journal, Month, months, total_of, costs_in, billed_in, quantity_in, before, tax_in_force, last_from, last_balance, made, own_filing, e_of, in_force, filing_now, added, journal}
use Rattle.account.specs.Journal.Entry.{filed}

-- ---- what it is to agree

-- The terms are the opening's.
pub record AsOpened {D : Type 0} (o : Opening D) (t : Terms) : Type 0 where
  pub tax : t.tax ≡ tax_in_force o
  pub under : t.under ≡ nat_abs o.under
  pub over : t.over ≡ nat_abs o.over
  pub tax_high : tax_in_force o ≤ 2000

-- The design and E are those in force.
pub record AtRate {D : Type 0} (now : InForce D) (r : Rate D) : Type 0 where
  pub design : r.design ≡ now.design
  pub e : r.e.0 ≡ now.e
  pub reach : WithinReach now.e

-- The last balance and the months closed are the closed months'.
pub record AfterClosings {D : Type 0} (o : Opening D) (past : List Month) (held : Cents) (count : ℕ) : Type 0 where
  pub last : held.0 ≡ last_from o past
  pub closed : count ≡ length past

-- The open month's figures are those of its costs and bills.
pub record InMonth (month : Month) (t : OpenMonth) : Type 0 where
  pub costs : costs_of t ≡ costs_in month
  pub lines : length t.costs ≡ 8
  pub bills : t.bills ≡ length month.bills
  pub quantity : t.quantity ≡ quantity_in month
  pub billed : t.billed.0 ≡ billed_in month

-- A pending filing has the E of the account's own filing of its number.
pub record IsOwn (own : Filed) (p : Pending) : Type 0 where
  pub e : p.e.0 ≡ e_of own
  pub reach : WithinReach p.e.0
  pub some : 1 ≤ own.projected

-- The filings are counted, and the pending one is the account's own.
pub record ByFilings (number : ℕ) (filing : ℕ → Filed) (filings : ℕ) (pending : Option Pending) : Type 0 where
  pub count : filings ≡ number
  pub own : (p : Pending) → pending ≡ Some p → IsOwn (filing p.number) p

pub record Agrees {D : Type 0} (o : Opening D) (j : Journal D) (f : Figures D) : Type 0 where
  pub terms : AsOpened o f.terms
  pub rate : AtRate (in_force o j) f.rate
  pub closings : AfterClosings o (months j).past f.ledger.last f.ledger.months
  pub month : InMonth (months j).current f.ledger.month
  pub filings : ByFilings (made j) (λ n. own_filing n j) f.ledger.filings f.pending

-- ---- a cost

abbrev total : List CostLine → ℤ
total lines = total_of (λ line. line.total.0) lines

abbrev total_onto : ℤ → List CostLine → ℤ
total_onto z lines = fold (λ sum line. sum +ℤ line.total.0) z lines

-- the lines are folded to their total
folded_from : (z : ℤ) (lines : List CostLine) → total_onto z lines ≡ z +ℤ total lines
folded_from z [] = omega (arith, ints)
folded_from z (line ∷ lines) = omega (arith, ints, folded_from (z +ℤ line.total.0) lines)

-- one entry more in a line is one amount more in the total
total_entered : (lines : List CostLine) (i : ℕ) (amount : ℤ) → i < length lines → total (set lines i (entered (get_or lines i no_entries) amount)) ≡ amount +ℤ total lines
total_entered [] i amount h = absurd (omega arith)
total_entered (line ∷ lines) zero amount h = omega (arith, ints)
total_entered (line ∷ lines) (suc i) amount h = omega (arith, ints, total_entered lines i amount (omega arith))

costs_entered : (lines : List CostLine) (i : ℕ) (amount : ℤ) → i < length lines → total_onto (pos 0) (set lines i (entered (get_or lines i no_entries) amount)) ≡ amount +ℤ total_onto (pos 0) lines
costs_entered lines i amount h =
    omega (arith, ints, folded_from (pos 0) (set lines i (entered (get_or lines i no_entries) amount)), folded_from (pos 0) lines, total_entered lines i amount h)

pub in_range : (kind : ℕ) → (ltb kind 1 || ltb 8 kind) ≡ false → kind - 1 < 8
in_range kind e = let h = or_parts (ltb kind 1) (ltb 8 kind) e in omega (arith, ltb-false kind 1 h.0, ltb-false 8 kind h.1)

-- ---- a filing

-- a token of the pending filing has its number
is_recorded : {D : Type 0} (f : Figures D) (filing : Filing) (pending : Option Pending) → is_pending f filing pending ≡ true → (pending ≡ Some (recorded pending)) × (filing.number ≡ (recorded pending).number)
is_recorded f filing None h = absurd (both_ways false refl h)
is_recorded f filing (Some p) h = (refl, eqb-true _ _ (and_parts (eqb filing.account f.terms.account) (eqb filing.number p.number) h).1)

-- ---- each call

-- what a call leaves, by its answer
abbrev After : {D : Type 0} → (D → Meaning) → Opening D → Journal D → (call : Call D) → Answer call × Figures D → Type 0
After m o j call r = Agrees o (added m o j (accepted call r.0) call) r.1

module _ {D : Type 0} (o : Opening D) (j : Journal D) (f : Figures D) (a : Agrees o j f) where
  -- the balance now is the journal's
  pub balance_is : balance_before f.ledger f.terms.tax ≡ before (tax_in_force o) (last_balance o j) (months j).current
  balance_is = let l = a.closings.last in let c = a.month.costs in let b = a.month.billed in let t = a.terms.tax in cc

  -- what is taken into force is the account's own filing
  pub own_of : (filing : Filing) → Passed (force_checks f filing) → IsOwn (own_filing filing.number j) (recorded f.pending)
  own_of filing passed =
      let r = is_recorded f filing f.pending (not-false _ passed.0) in
      subst (λ n. IsOwn (own_filing n j) (recorded f.pending)) (sym r.1) (a.filings.own _ r.0)

  module _ (m : D → Meaning) where
    after_cost : (kind : ℕ) (amount : ℤ) → After m o j (cost kind amount) (cost_rule f kind amount)
    after_cost kind amount =
        by_checks (After m o j (cost kind amount)) (cost_checks f.ledger.month kind amount) tt f (with_cost_in f kind amount) (λ _. a) λ passed. record {
          terms = a.terms;
          rate = a.rate;
          closings = a.closings;
          month = record {
            costs = costs_entered f.ledger.month.costs (kind - 1) amount (omega (arith, in_range kind passed.0, a.month.lines)) ∙ ap (λ sum. amount +ℤ sum) a.month.costs;
            lines = length-set _ _ _ ∙ a.month.lines;
            bills = a.month.bills;
            quantity = a.month.quantity;
            billed = a.month.billed;
          };
          filings = a.filings;
        }

    after_bill : (held : List Hour) (start count : ℕ) → After m o j (bill held start count) (bill_rule m f held start count)
    after_bill held start count =
        by_checks (After m o j (bill held start count)) (bill_checks f.ledger.month held start count told.amount.0) told f (billed_to f told) (λ _. a) λ _. record {
          terms = a.terms;
          rate = a.rate;
          closings = a.closings;
          month = record {
            costs = a.month.costs;
            lines = a.month.lines;
            bills = omega (arith, a.month.bills);
            quantity = omega (arith, a.month.quantity, ap (λ d. (m d).quantity period) a.rate.design);
            billed = omega (arith, ints, a.month.billed, same);
          };
          filings = a.filings;
        }
      where
        period : List Hour
        period = part_of held start count

        told : Billed
        told = bill_told m f period

        same : told.amount.0 ≡ (m (in_force o j).design).bill period (in_force o j).e (tax_in_force o)
        same = let d = a.rate.design in let e = a.rate.e in let t = a.terms.tax in cc

    after_close : After m o j close (close_rule f)
    after_close =
        by_checks (After m o j close) (close_checks f.terms f.ledger) (closing_of f.terms f.ledger) f (closed_at f (balance_after f.terms f.ledger)) (λ _. a) λ _. record {
          terms = a.terms;
          rate = a.rate;
          closings = record {
            last = let b = balance_is in let l = a.closings.last in let u = a.terms.under in let v = a.terms.over in cc;
            closed = omega (arith, a.closings.closed);
          };
          month = record { costs = refl; lines = refl; bills = refl; quantity = refl; billed = refl };
          filings = a.filings;
        }

    after_file : (draft : Draft) → After m o j (file draft) (file_rule f draft)
    after_file draft =
        by_checks (After m o j (file draft)) (file_checks f draft) (filing_at f e) f (filed_at f e) (λ _. a) λ passed. record {
          terms = a.terms;
          rate = a.rate;
          closings = a.closings;
          month = a.month;
          filings = record {
            count = omega (arith, a.filings.count);
            own = λ p h. subst (λ q. IsOwn (own_filing q.number (filed now ∷ j)) q) (cc h) (new (ltb-false _ _ passed.1.1.1.0));
          };
        }
      where
        e : ℤ
        e = e_filed f.ledger draft

        now : Filed
        now = filing_now o j draft.sum.units

        new : WithinReach e → IsOwn (own_filing (f.ledger.filings + 1) (filed now ∷ j)) (pending_at f.ledger e)
        new small =
            subst (λ b. IsOwn (cond b now (own_filing (f.ledger.filings + 1) j)) (pending_at f.ledger e)) (sym (eq-eqb (made j + 1) (f.ledger.filings + 1) (omega (arith, a.filings.count))))
            (record { e = ap (λ l. rate_of l draft.sum.units) a.closings.last; reach = small; some = draft.sum.some })

    after_force : (filing : Filing) (design : D) → After m o j (force filing design) (force_rule f filing design)
    after_force filing design =
        by_checks (After m o j (force filing design)) (force_checks f filing) (recorded f.pending).e f (forced_in f design) (λ _. a) λ passed.
        let w = own_of filing passed in
        record {
          terms = a.terms;
          rate = record { design = refl; e = w.e; reach = subst WithinReach w.e w.reach };
          closings = a.closings;
          month = a.month;
          filings = record { count = a.filings.count; own = λ q h. absurd (none-some q h) };
        }

    after_withdraw : (filing : Filing) → After m o j (withdraw filing) (withdraw_rule f filing)
    after_withdraw filing =
        by_checks (After m o j (withdraw filing)) (withdraw_checks f filing) filing.number f (withdrawn f) (λ _. a) λ _. record {
          terms = a.terms;
          rate = a.rate;
          closings = a.closings;
          month = a.month;
          filings = record { count = a.filings.count; own = λ q h. absurd (none-some q h) };
        }

    after : (call : Call D) → After m o j call (rule m f call)
    after (cost kind amount) = after_cost kind amount
    after (bill held start count) = after_bill held start count
    after close = after_close
    after (file draft) = after_file draft
    after (force filing design) = after_force filing design
    after (withdraw filing) = after_withdraw filing
    after read = a

-- ---- every run

at_opening : {D : Type 0} (o : Opening D) (f : Figures D) → Opens o f → Agrees o [] f
at_opening {D} o f h = subst P h.1 start refl
  where
    P : Result Unit Refusal × Figures D → Type 0
    P r = is_ok r.0 ≡ true → Agrees o [] r.1

    start : P (open_rule h.0 o)
    start =
        by_checks P (open_checks o) tt h.0 (opened o) (λ _ e. absurd (both_ways false refl e)) λ passed _.
        let t = or_parts (int_lt o.tax (pos 0)) (int_lt (pos 2000) o.tax) (or_parts (outside 0 2000 o.tax) _ passed.0).0 in
        record {
          terms = record { tax = refl; under = refl; over = refl; tax_high = omega (arith, ints, t) };
          rate = record { design = refl; e = refl; reach = lit≤ tt };
          closings = record { last = refl; closed = refl };
          month = record { costs = refl; lines = refl; bills = refl; quantity = refl; billed = refl };
          filings = record { count = refl; own = λ p e. absurd (none-some p e) };
        }

-- the figures that a run leads to agree with its journal
pub agree : {D : Type 0} (m : D → Meaning) (o : Opening D) (h : History D) (f : Figures D) → LeadsTo m o h f → Agrees o (journal m o (outcomes h)) f
agree m o [] f w = at_opening o f w
agree m o (step ∷ h) f w =
    let j = journal m o (outcomes h) in
    subst (After m o j step.call) w.2 (after o j w.0 (agree m o h w.0 w.1) m step.call)
