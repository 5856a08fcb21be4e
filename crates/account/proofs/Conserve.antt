-- Conservation, of every run.
use Rattle.std.proofs.Common.{◌≡◌, List, [], ◌∷◌, pos, ◌+ℤ◌, refl, arith}
use Rattle.std.proofs.lemmas.Int.{ints}
use Rattle.designs.specs.Meanings.{Meaning}
use Rattle.account.specs.declared.figures.Figures.{Figures}
use Rattle.account.specs.declared.opening.Opening.{Opening}
use Rattle.account.specs.Rules.{reading_of}
use Rattle.account.specs.Calls.{History, outcomes, LeadsTo}
use Rattle.account.specs.Journal.{Journal, Month, months, total_of, costs_in, net_in, tax_in_force, last_from, journal}
use Rattle.account.specs.Journal.Entry.{costed, billed, closed, filed, forced}
use Rattle.account.specs.Laws.{Conservation}
use Rattle.account.proofs.Agree.{agree, balance_is}

-- over closed months
closed_even : {D : Type 0} (o : Opening D) (past : List Month)
    → o.balance.0 +ℤ total_of costs_in past +ℤ total_of (λ month. month.charge) past ≡ total_of (net_in (tax_in_force o)) past +ℤ last_from o past
closed_even o [] = omega (arith, ints)
closed_even o (month ∷ past) = omega (arith, ints, closed_even o past)

-- an open month has no charge
uncharged : {D : Type 0} (j : Journal D) → (months j).current.charge ≡ pos 0
uncharged [] = refl
uncharged (costed amount ∷ j) = refl
uncharged (billed b ∷ j) = refl
uncharged (closed charge ∷ j) = refl
uncharged (filed filing ∷ j) = uncharged j
uncharged (forced filing design ∷ j) = uncharged j

pub run_conserves : {D : Type 0} (m : D → Meaning) (o : Opening D) (h : History D) (f : Figures D) → LeadsTo m o h f → Conservation m o h (reading_of f).balance.0
run_conserves m o h f w =
    let j = journal m o (outcomes h) in
    omega (arith, ints, closed_even o (months j).past, uncharged j, balance_is o j f (agree m o h f w))
