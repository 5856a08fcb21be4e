-- Sums and laws worked by hand on a short journal, so that a wrong definition of one would be noticed.
use Rattle.std.specs.Prelude.{◌≡◌, ℕ, true, List, [], ◌∷◌, ◌++◌, ℤ, pos, neg_ℤ, Ok}
use Rattle.designs.specs.declared.hours.Hour.{Hour}
use Rattle.designs.specs.Meanings.{Meaning}
use Rattle.account.specs.declared.answers.Billed.{Billed}
use Rattle.account.specs.declared.answers.Reading.{Reading}
use Rattle.account.specs.Calls.Call.{cost, bill, read}
use Rattle.account.specs.Journal.{Filed, Journal, e_of}
use Rattle.account.specs.Journal.Entry.{costed, billed, closed, filed, forced}
use Rattle.account.specs.Laws.{Recovered, Term, base_charges, bill_count, billed_months, billed_quantity, charges, costs, is_entry, nets, others}

-- A filing of 100 cents over 2,000 units: E is 50.
abbrev pub first_filing : Filed
first_filing = record { number = 1; balance = pos 100; projected = 2000 }

abbrev pub next_filing : Filed
next_filing = record { number = 2; balance = pos 3; projected = 10 }

-- Three months, the newest first: an open month with one bill; a month with a cost and no bill; a month with a cost and two bills, and a
-- filing. (The design is of no matter here; it is a number.)
abbrev pub worked_term : Journal ℕ
worked_term =
    billed (record { quantity = 30; base = pos 3000; amount = pos 106 })
    ∷ closed (pos 7)
    ∷ costed (neg_ℤ (pos 20))
    ∷ filed next_filing
    ∷ closed (pos 5)
    ∷ billed (record { quantity = 20; base = pos 2000; amount = neg_ℤ (pos 5) })
    ∷ costed (pos 900)
    ∷ billed (record { quantity = 10; base = pos 1000; amount = pos 58 }) ∷ []

-- The term between two takings into force.
abbrev pub worked_journal : Journal ℕ
worked_journal = forced next_filing 2 ∷ (worked_term ++ (forced first_filing 1 ∷ filed first_filing ∷ []))

-- A term of one bill of so many cents, with no quantity and no base, of a filing of nothing over one unit.
abbrev pub one_bill : ℕ → Journal ℕ
one_bill cents = billed (record { quantity = 0; base = pos 0; amount = pos cents }) ∷ []

abbrev pub nothing_filed : Filed
nothing_filed = record { number = 1; balance = pos 0; projected = 1 }

-- A meaning with one half cent a bill and no slack in its rate.
abbrev pub half_cent : Meaning
half_cent = record { quantity = λ period. 0; base = λ period. pos 0; bill = λ period e tax. pos 0; c = 1; u = 0 }

-- What the sums come to, at a tax of 590: of the bills 53 and 106 cents the tax is 3.127 and 6.254, rounded to 3 and 6.
pub record Worked : Type 0 where
  pub costs_are : costs worked_term ≡ pos 880
  pub charges_are : charges worked_term ≡ pos 12
  pub nets_are : nets 590 worked_term ≡ pos 150
  pub base_is : base_charges worked_term ≡ pos 6000
  pub bills_are : bill_count worked_term ≡ 3
  pub months_are : billed_months worked_term ≡ 2
  pub quantity_is : billed_quantity worked_term ≡ 60
  pub e_is : e_of first_filing ≡ pos 50
  pub is_term : Term worked_journal first_filing 1 worked_term
  pub one_cent_recovers : Recovered half_cent 0 nothing_filed (one_bill 1)
  pub two_cents_do_not : Recovered half_cent 0 nothing_filed (one_bill 2) → ⊥
  pub costs_move : (kind : ℕ) (amount : ℤ) → is_entry {D = ℕ} (cost kind amount) ≡ true
  pub bills_move : (held : List Hour) (start count : ℕ) → is_entry {D = ℕ} (bill held start count) ≡ true
  pub readings_stay : (r : Reading) (b : Billed) → others {D = ℕ} (record { call = read; answer = r } ∷ record { call = bill [] 0 0; answer = Ok b } ∷ []) ≡ record { call = read; answer = r } ∷ []
