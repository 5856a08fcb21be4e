-- Recovery, of every run.
use Rattle.std.proofs.Common.{◌≡◌, ℕ, ◌+◌, ◌≤◌, Bool, true, false, cond, eqb, ltb, List, [], ◌∷◌, ◌++◌, length, ℤ, sym, refl, ap, ◌∙◌, subst, arith, ltb-false, eqb-true}
use Rattle.std.specs.List.{AllByRecursion}
use Rattle.std.proofs.lemmas.Bool.{eqb-false, not-false, both_ways, or_parts}
use Rattle.std.proofs.lemmas.List.{nil_from_length}
use Rattle.std.proofs.lemmas.List.Elements.{recursion_from_All}
use Rattle.refusals.proofs.Passed.{Passed, none_refuses, by_checks}
use Rattle.designs.specs.declared.hours.Hour.{Hour}
use Rattle.designs.specs.Cutting.{part_of, period_checks, hour_checks}
use Rattle.designs.specs.Meanings.{Meaning, Sound}
use Rattle.designs.specs.Periods.{Lawful}
use Rattle.designs.proofs.Cuts.{hours_lawful}
use Rattle.account.specs.declared.answers.Billed.{Billed}
use Rattle.account.specs.declared.figures.Figures.{Figures}
use Rattle.account.specs.declared.opening.Opening.{Opening}
use Rattle.account.specs.declared.filings.Draft.{Draft}
use Rattle.account.specs.declared.filings.Filing.{Filing}
use Rattle.account.specs.Rules.{bill_told, bill_checks, billed_to, bill_rule, recorded, force_checks, in_force as forced_in, force_rule}
use Rattle.account.specs.Calls.{Call, Answer, rule, accepted, History, outcomes, LeadsTo}
use Rattle.account.specs.Calls.Call.{cost, bill, close, file, force, withdraw, read}
use Rattle.account.specs.Journal.{Bill, Filed, Entry, Journal, Month, months, all_months, tax_in_force, e_of, InForce, in_force, last_balance, made, own_filing, added, journal}
use Rattle.account.specs.Journal.Entry.{costed, billed, closed, filed, forced}
use Rattle.account.specs.Laws.{is_force, Made, Recovery}
use Rattle.account.proofs.Agree.{Agrees, agree, own_of}
use Rattle.account.proofs.Joined.{period_passed}
use Rattle.account.proofs.Bounds.{Keeps, recovered}

-- a period that is refused nothing is lawful
lawful : (held : List Hour) (start count : ℕ) → Passed (period_checks held start count) → Lawful (part_of held start count)
lawful held start count p =
    let q = or_parts (eqb count 0) (ltb 840 count) p.0 in
    (hours_lawful held start count (eqb-false count 0 q.0) (ltb-false 840 count q.1) (ltb-false (length held) (start + count) p.1.0) (none_refuses (hour_checks 0 (part_of held start count)) p.1.1)).1

module _ {D : Type 0} (m : D → Meaning) (o : Opening D) where
  -- A bill keeps the law of the design in force, at E in force.
  abbrev KeepsAt : InForce D → Bill → Type 0
  KeepsAt now b = Keeps (m now.design).c (m now.design).u (tax_in_force o) now.e b

  -- Bills keep the law, filings have the last balance and the next number, and those taken into force were made here, in a month unbilled.
  abbrev Good : Journal D → Type 0
  Good [] = Unit {0}
  Good (costed amount ∷ j) = Good j
  Good (billed b ∷ j) = KeepsAt (in_force o j) b × Good j
  Good (closed charge ∷ j) = Good j
  Good (filed filing ∷ j) = (filing.balance ≡ last_balance o j) × (filing.number ≡ made j + 1) × Good j
  Good (forced filing design ∷ j) = (1 ≤ filing.projected) × Made o j filing × ((months j).current.bills ≡ []) × Good j

  -- an older part of a good journal is good
  older : (later j : Journal D) → Good (later ++ j) → Good j
  older [] j g = g
  older (costed amount ∷ later) j g = older later j g
  older (billed b ∷ later) j g = older later j g.1
  older (closed charge ∷ later) j g = older later j g
  older (filed filing ∷ later) j g = older later j g.2
  older (forced filing design ∷ later) j g = older later j g.3

  -- what was made before is made still
  still : {j : Journal D} {filing : Filed} (entry : Entry D) → Made o j filing → Made o (entry ∷ j) filing
  still entry p = record { later = entry ∷ p.later; earlier = p.earlier; parts = ap (λ j. entry ∷ j) p.parts; balance = p.balance; number = p.number }

  -- whichever of two filings is found was made
  either_made : {j : Journal D} {x y : Filed} (b : Bool) → Made o j x → (1 ≤ y.projected → Made o j y) → 1 ≤ (cond b x y).projected → Made o j (cond b x y)
  either_made true p q h = p
  either_made false p q h = q h

  -- a filing found under a number, and not empty, is one that this account made
  own_made : (n : ℕ) (j : Journal D) → Good j → 1 ≤ (own_filing n j).projected → Made o j (own_filing n j)
  own_made n [] g h = absurd (omega arith)
  own_made n (costed amount ∷ j) g h = still (costed amount) (own_made n j g h)
  own_made n (billed b ∷ j) g h = still (billed b) (own_made n j g.1 h)
  own_made n (closed charge ∷ j) g h = still (closed charge) (own_made n j g h)
  own_made n (filed filing ∷ j) g h =
      either_made (eqb filing.number n) (record { later = []; earlier = j; parts = refl; balance = g.0; number = g.1 }) (λ k. still (filed filing) (own_made n j g.2 k)) h
  own_made n (forced filing design ∷ j) g h = still (forced filing design) (own_made n j g.3 h)

  -- ---- every journal is good

  abbrev After : Journal D → (call : Call D) → Answer call × Figures D → Type 0
  After j call r = Good (added m o j (accepted call r.0) call)

  module _ (sound : (d : D) → Sound (m d)) where
    module _ (j : Journal D) (f : Figures D) (a : Agrees o j f) (g : Good j) where
      after_bill : (held : List Hour) (start count : ℕ) → After j (bill held start count) (bill_rule m f held start count)
      after_bill held start count =
          by_checks (After j (bill held start count)) (bill_checks f.ledger.month held start count told.amount.0) told f (billed_to f told) (λ _. g) λ p.
          let l = lawful held start count (period_passed f.ledger.month held start count told.amount.0 p) in
          (record { law = record { within = ((sound (in_force o j).design).law (part_of held start count) (in_force o j).e (tax_in_force o) l a.rate.reach a.terms.tax_high).holds } }, g)
        where
          told : Billed
          told = bill_told m f (part_of held start count)

      after_force : (filing : Filing) (design : D) → After j (force filing design) (force_rule f filing design)
      after_force filing design =
          by_checks (After j (force filing design)) (force_checks f filing) (recorded f.pending).e f (forced_in f design) (λ _. g) λ p.
          let some = (own_of o j f a filing p).some in
          (some, own_made filing.number j g some, nil_from_length _ (sym a.month.bills ∙ eqb-true _ _ (not-false _ p.1.1.1.0)), g)

      -- the other calls bring no bill and take nothing into force
      after_cost : (kind : ℕ) (amount : ℤ) (b : Bool) → Good (added m o j b (cost kind amount))
      after_cost kind amount false = g
      after_cost kind amount true = g

      after_close : (b : Bool) → Good (added m o j b close)
      after_close false = g
      after_close true = g

      after_file : (draft : Draft) (b : Bool) → Good (added m o j b (file draft))
      after_file draft false = g
      after_file draft true = (refl, refl, g)

      after_withdraw : (filing : Filing) (b : Bool) → Good (added m o j b (withdraw filing))
      after_withdraw filing false = g
      after_withdraw filing true = g

      after : (call : Call D) → After j call (rule m f call)
      after (cost kind amount) = after_cost kind amount _
      after (bill held start count) = after_bill held start count
      after close = after_close _
      after (file draft) = after_file draft _
      after (force filing design) = after_force filing design
      after (withdraw filing) = after_withdraw filing _
      after read = g

    good : (h : History D) (f : Figures D) → LeadsTo m o h f → Good (journal m o (outcomes h))
    good [] f w = tt
    good (step ∷ h) f w =
        let j = journal m o (outcomes h) in
        subst (After j step.call) w.2 (after j w.0 (agree m o h w.0 w.1) (good h w.0 w.1) step.call)

    -- ---- every term recovers its filing

    module _ (filing : Filed) (design : D) (earlier : Journal D) where
      abbrev Unforced : Journal D → Type 0
      Unforced term = AllByRecursion (λ (entry : Entry D). is_force entry ≡ false) term

      -- the design and E of a term
      abbrev taken : InForce D
      taken = record { design = design; e = e_of filing }

      -- they are in force throughout it
      throughout : (term : Journal D) → Unforced term → in_force o (term ++ (forced filing design ∷ earlier)) ≡ taken
      throughout [] h = refl
      throughout (costed amount ∷ term) h = throughout term h.1
      throughout (billed b ∷ term) h = throughout term h.1
      throughout (closed charge ∷ term) h = throughout term h.1
      throughout (filed p ∷ term) h = throughout term h.1
      throughout (forced p d ∷ term) h = absurd (both_ways true h.0 refl)

      term_keeps : (term : Journal D) → Unforced term → Good (term ++ (forced filing design ∷ earlier)) → AllByRecursion (λ (month : Month). AllByRecursion (KeepsAt taken) month.bills) (all_months term)
      term_keeps [] h g = (tt, tt)
      term_keeps (costed amount ∷ term) h g = term_keeps term h.1 g
      term_keeps (billed b ∷ term) h g =
          let k = term_keeps term h.1 g.1 in
          ((subst (λ now. KeepsAt now b) (throughout term h.1) g.0, k.0), k.1)
      term_keeps (closed charge ∷ term) h g = (tt, term_keeps term h.1 g)
      term_keeps (filed p ∷ term) h g = term_keeps term h.1 g.2
      term_keeps (forced p d ∷ term) h g = absurd (both_ways true h.0 refl)

    pub run_recovers : (h : History D) (f : Figures D) → LeadsTo m o h f → Recovery m o h
    run_recovers h f w filing design term t =
        let g : Good (term ++ (forced filing design ∷ t.earlier)) = older t.later _ (subst Good t.parts (good h f w)) in
        let s = older term (forced filing design ∷ t.earlier) g in
        record {
          own = s.1;
          unbilled = s.2;
          recovered = recovered (m design).c (m design).u (tax_in_force o) filing (agree m o h f w).terms.tax_high s.0 (all_months term) (term_keeps filing design t.earlier term (recursion_from_All _ term t.one) g);
        }
