-- The calls of an account, and what a run of them leads to.
use Rattle.std.specs.Prelude.{◌≡◌, ℕ, Bool, true, List, [], ◌∷◌, map, ℤ, is_ok, Ok, Result}
use Rattle.reconciliation.specs.declared.figures.RateUnits.{RateUnits}
use Rattle.designs.specs.declared.hours.Hour.{Hour}
use Rattle.designs.specs.Meanings.{Meaning}
use Rattle.account.specs.declared.answers.Billed.{Billed}
use Rattle.account.specs.declared.answers.Closing.{Closing}
use Rattle.account.specs.declared.answers.Reading.{Reading}
use Rattle.account.specs.declared.figures.Figures.{Figures}
use Rattle.account.specs.declared.opening.Opening.{Opening}
use Rattle.account.specs.declared.filings.Draft.{Draft}
use Rattle.account.specs.declared.filings.Filing.{Filing}
use Rattle.account.specs.declared.refusal.BillRefusal.{BillRefusal}
use Rattle.account.specs.declared.refusal.Refusal.{Refusal}
use Rattle.account.specs.Rules.{open_rule, cost_rule, bill_rule, close_rule, file_rule, force_rule, withdraw_rule, reading_of}

-- What can be asked of an open account.
pub data Call (D : Type 0) : Type 0 where
  cost : (kind : ℕ) (amount : ℤ) → Call D
  bill : (held : List Hour) (start count : ℕ) → Call D
  close : Call D
  file : (draft : Draft) → Call D
  force : (filing : Filing) (design : D) → Call D
  withdraw : (filing : Filing) → Call D
  read : Call D

-- What each call answers.
abbrev pub Answer : {D : Type 0} → Call D → Type 0
Answer (cost kind amount) = Result Unit Refusal
Answer (bill held start count) = Result Billed BillRefusal
Answer close = Result Closing Refusal
Answer (file draft) = Result Filing (Draft × Refusal)
Answer (force filing design) = Result RateUnits (Filing × Refusal)
Answer (withdraw filing) = Result ℕ Refusal
Answer read = Reading

-- The answer by the rules, and the figures after it.
abbrev pub rule : {D : Type 0} → (D → Meaning) → Figures D → (call : Call D) → Answer call × Figures D
rule m f (cost kind amount) = cost_rule f kind amount
rule m f (bill held start count) = bill_rule m f held start count
rule m f close = close_rule f
rule m f (file draft) = file_rule f draft
rule m f (force filing design) = force_rule f filing design
rule m f (withdraw filing) = withdraw_rule f filing
rule m f read = (reading_of f, f)

-- A call was accepted: not refused.
abbrev pub accepted : {D : Type 0} (call : Call D) → Answer call → Bool
accepted (cost kind amount) answer = is_ok answer
accepted (bill held start count) answer = is_ok answer
accepted close answer = is_ok answer
accepted (file draft) answer = is_ok answer
accepted (force filing design) answer = is_ok answer
accepted (withdraw filing) answer = is_ok answer
accepted read answer = true

-- A call and its answer.
pub record Step (D : Type 0) : Type 0 where
  pub call : Call D
  pub answer : Answer call

-- The calls since the opening with their answers, the newest first.
abbrev pub History : Type 0 → Type 0
History D = List (Step D)

-- A call, and whether it was accepted or refused.
pub record Outcome (D : Type 0) : Type 0 where
  pub call : Call D
  pub accepted : Bool

-- What a history tells of its answers: accepted or refused.
abbrev pub outcomes : {D : Type 0} → History D → List (Outcome D)
outcomes h = map (λ s. record { call = s.call; accepted = accepted s.call s.answer }) h

-- The opening is accepted, on some lent account, and leaves these figures.
abbrev pub Opens : {D : Type 0} → Opening D → Figures D → Type 0
Opens {D} o f = (lent : Figures D) × (open_rule lent o ≡ (Ok tt, f))

-- The opening, and then each call from what the earlier ones left, and nothing more.
abbrev pub LeadsTo : {D : Type 0} → (D → Meaning) → Opening D → History D → Figures D → Type 0
LeadsTo m o [] f = Opens o f
LeadsTo {D} m o (step ∷ earlier) f = (g : Figures D) × LeadsTo m o earlier g × (rule m g step.call ≡ (step.answer, f))
