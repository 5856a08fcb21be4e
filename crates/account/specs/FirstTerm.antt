-- A run from an opening into a first term: every kind of call at least once, and what the laws say of that run.
use Rattle.std.specs.Prelude.{◌≡◌, List, [], ◌∷◌, length, ℤ}
use Rattle.designs.specs.declared.hours.Hour.{Hour}
use Rattle.designs.specs.Cutting.{part_of}
use Rattle.designs.specs.Meanings.{Meaning}
use Rattle.account.specs.declared.answers.Reading.{Reading}
use Rattle.account.specs.declared.figures.Figures.{Figures}
use Rattle.account.specs.declared.filings.Draft.{Draft}
use Rattle.account.specs.declared.filings.Filing.{Filing}
use Rattle.account.specs.declared.opening.Opening.{Opening}
use Rattle.account.specs.Calls.{Call, History, LeadsTo, outcomes}
use Rattle.account.specs.Calls.Call.{cost, bill, close, file, force, withdraw, read}
use Rattle.account.specs.Journal.{Filed, Journal, bill_of, e_of, journal, tax_in_force}
use Rattle.account.specs.Journal.Entry.{costed, billed}
use Rattle.account.specs.Laws.{calls, Conservation, Recovered, Taken, Term}

-- What is asked for besides the opening: two drafts, the design of the term, a startup cost, and the hours to bill.
pub record Asked (D : Type 0) : Type 0 where
  pub draft : Draft
  pub again : Draft
  pub design : D
  pub amount : ℤ
  pub held : List Hour

-- The calls up to the taking into force, the newest first: a filing is withdrawn, and another taken into force two closings later.
abbrev pub until_force : {D : Type 0} → Asked D → (withdrawn taken : Filing) → List (Call D)
until_force a withdrawn taken =
    force taken a.design ∷ close ∷ close ∷ file a.again ∷ withdraw withdrawn ∷ file a.draft ∷ []

-- The bill and then the cost, and a reading.
abbrev pub bill_first : {D : Type 0} → Asked D → (withdrawn taken : Filing) → List (Call D)
bill_first a withdrawn taken = read ∷ cost 1 a.amount ∷ bill a.held 0 (length a.held) ∷ until_force a withdrawn taken

-- The cost and then the bill, and a reading.
abbrev pub cost_first : {D : Type 0} → Asked D → (withdrawn taken : Filing) → List (Call D)
cost_first a withdrawn taken = read ∷ bill a.held 0 (length a.held) ∷ cost 1 a.amount ∷ until_force a withdrawn taken

-- The second filing: of the opening balance, since no month was closed by then.
abbrev pub second_filing : {D : Type 0} → Opening D → Asked D → Filed
second_filing o a = record { number = 2; balance = o.balance.0; projected = a.again.sum.units }

-- The term: all the hours billed by its design at the E of that filing, and the cost.
abbrev pub term_made : {D : Type 0} → (D → Meaning) → Opening D → Asked D → Journal D
term_made m o a =
    costed a.amount
    ∷ billed (bill_of (m a.design) (part_of a.held 0 (length a.held)) (e_of (second_filing o a)) (tax_in_force o)) ∷ []

-- The run that was made, and the three laws of it: the balance is conserved, the term recovers the opening balance within its allowances,
-- and with cost and bill the other way round the account would have come to the same figures.
pub record Ran {D : Type 0} (m : D → Meaning) (o : Opening D) (a : Asked D) (f : Figures D) (r : Reading) : Type 0 where
  pub history : History D
  pub withdrawn : Filing
  pub taken : Filing
  pub made : calls history ≡ bill_first a withdrawn taken
  pub leads : LeadsTo m o history f
  pub conserved : Conservation m o history r.balance.0
  pub term : Term (journal m o (outcomes history)) (second_filing o a) a.design (term_made m o a)
  pub recovered : Recovered (m a.design) (tax_in_force o) (second_filing o a) (term_made m o a)
  pub either_order : (h' : History D) (f' : Figures D) → LeadsTo m o h' f' → calls h' ≡ cost_first a withdrawn taken → Taken h' × (f ≡ f')
