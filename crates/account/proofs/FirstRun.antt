-- The run of the first term, from what its calls ensure.
use Rattle.std.proofs.Common.{◌≡◌, ℕ, ◌+◌, Bool, true, false, [], ◌∷◌, length, Some, Ok, Err, Result, sym, refl, arith, rules}
use Rattle.std.specs.Result.{result_ok}
use Rattle.std.proofs.lemmas.List.Elements.{All-from_recursion}
use Rattle.reconciliation.specs.declared.figures.RateUnits.{RateUnits}
use Rattle.designs.specs.Meanings.{Meaning}
use Rattle.account.specs.declared.answers.Billed.{Billed}
use Rattle.account.specs.declared.answers.Closing.{Closing}
use Rattle.account.specs.declared.answers.Reading.{Reading}
use Rattle.account.specs.declared.figures.Figures.{Figures}
use Rattle.account.specs.declared.filings.Draft.{Draft}
use Rattle.account.specs.declared.filings.Filing.{Filing}
use Rattle.account.specs.declared.opening.Opening.{Opening}
use Rattle.account.specs.declared.refusal.Refusal.{Refusal}
use Rattle.account.specs.Calls.{Step, History, LeadsTo, outcomes}
use Rattle.account.specs.Calls.Call.{cost, bill, close, file, force, withdraw, read}
use Rattle.account.specs.FirstTerm.{Asked, Ran, second_filing, term_made, until_force}
use Rattle.account.specs.Journal.{Entry, Journal, added, journal, own_filing}
use Rattle.account.specs.Laws.{EveryRun, Laws, Taken, TakenAt, Term, is_force}
use Rattle.account.specs.Laws.Reordered.{same, swapped}
use Rattle.account.specs.Rules.{open_rule, cost_rule, bill_rule, close_rule, file_rule, force_rule, withdraw_rule, reading_of}
use Rattle.account.proofs.Agree.{agree}

-- a call whose answer was taken by `ok()?` answered `Ok`
pub accepted_with : {T E S : Type 0} {r : Result T E} {v : T} {f : S} {x : Result T E × S} → Some v ≡ result_ok r → (r, f) ≡ x → (Ok v, f) ≡ x
accepted_with {r = Ok u} e h = cc
accepted_with {r = Err u} e h = cc

-- a filing has the next number
numbered : {D : Type 0} (f : Figures D) (draft : Draft) (filing : Filing) (g : Figures D) → (Ok filing, g) ≡ file_rule f draft → filing.number ≡ f.ledger.filings + 1
numbered f draft filing g e = grind arith

-- a closing makes no filing, and a withdrawal adds nothing
closing_files_none : {D : Type 0} (m : D → Meaning) (o : Opening D) (j : Journal D) (b : Bool) (n : ℕ) → own_filing n (added m o j b close) ≡ own_filing n j
closing_files_none m o j true n = refl
closing_files_none m o j false n = refl

withdrawal_adds_none : {D : Type 0} (m : D → Meaning) (o : Opening D) (j : Journal D) (b : Bool) (filing : Filing) → added m o j b (withdraw filing) ≡ j
withdrawal_adds_none m o j true filing = refl
withdrawal_adds_none m o j false filing = refl

-- the run, from what each call ensures
pub ran : {D : Type 0} (m : D → Meaning) (o : Opening D) (a : Asked D) (lent : Figures D)
    {opened filed withdrawn refiled closed reclosed forced billed costed : Figures D}
    {first second : Filing} {number : Result ℕ Refusal} {closing reclosing : Result Closing Refusal} {e : RateUnits} {told : Billed} (r : Reading)
    → (Ok tt, opened) ≡ open_rule lent o
    → (Ok first, filed) ≡ file_rule opened a.draft
    → (number, withdrawn) ≡ withdraw_rule filed first
    → (Ok second, refiled) ≡ file_rule withdrawn a.again
    → (closing, closed) ≡ close_rule refiled
    → (reclosing, reclosed) ≡ close_rule closed
    → (Ok e, forced) ≡ force_rule reclosed second a.design
    → (Ok told, billed) ≡ bill_rule m forced a.held 0 (length a.held)
    → (Ok tt, costed) ≡ cost_rule billed 1 a.amount
    → EveryRun m costed r → Ran m o a costed r
ran {D} m o a lent {opened} {filed} {withdrawn} {refiled} {closed} {reclosed} {forced} {billed} {costed} {first} {second} {number} {closing} {reclosing} {e} {told} r
    opens files withdraws refiles closes recloses forces bills costs every =
    let laws : Laws m o whole costed r = every o whole leads in
    let term : Term (journal m o (outcomes whole)) (second_filing o a) a.design (term_made m o a) = record {
      later = [];
      earlier = earlier;
      parts = rw filing_is;
      one = All-from_recursion (λ (entry : Entry D). is_force entry ≡ false) (term_made m o a) (refl, (refl, tt));
    } in
    record {
      history = whole;
      withdrawn = first;
      taken = second;
      made = refl;
      leads = leads;
      conserved = laws.conservation;
      term = term;
      recovered = (laws.recovery (second_filing o a) a.design (term_made m o a) term).recovered;
      either_order = λ h' f' w' same_calls.
          let all = laws.order h' f' w' (rw same_calls (same read (swapped (cost 1 a.amount) (bill a.held 0 (length a.held)) (until_force a first second) refl refl))) taken in
          (all.0, all.2);
    }
  where
    before_force : History D
    before_force =
        record { call = close; answer = reclosing }
        ∷ record { call = close; answer = closing }
        ∷ record { call = file a.again; answer = Ok second }
        ∷ record { call = withdraw first; answer = number }
        ∷ record { call = file a.draft; answer = Ok first } ∷ []

    whole : History D
    whole =
        record { call = read; answer = reading_of costed }
        ∷ record { call = cost 1 a.amount; answer = Ok tt }
        ∷ record { call = bill a.held 0 (length a.held); answer = Ok told }
        ∷ record { call = force second a.design; answer = Ok e } ∷ before_force

    earlier : Journal D
    earlier = journal m o (outcomes before_force)

    leads : LeadsTo m o whole costed
    leads =
        (costed, (billed, (forced, (reclosed, (closed, (refiled, (withdrawn, (filed, (opened, (lent, sym opens), sym files), sym withdraws), sym refiles), sym closes), sym recloses), sym forces), sym bills), sym costs), refl)

    -- the second filing is the one taken into force
    filing_is : own_filing second.number earlier ≡ second_filing o a
    filing_is =
        let agrees = agree m o (record { call = withdraw first; answer = number } ∷ record { call = file a.draft; answer = Ok first } ∷ []) withdrawn (filed, (opened, (lent, sym opens), sym files), sym withdraws) in
        let one : withdrawn.ledger.filings ≡ 1 = simp withdrawal_adds_none at agrees.filings.count in
        let two : second.number ≡ 2 = omega (arith, numbered withdrawn a.again second refiled refiles) in
        simp (closing_files_none, withdrawal_adds_none, two)

    taken : Taken whole
    taken = All-from_recursion (λ (s : Step D). TakenAt s) whole (search rules)
