-- The sums and laws worked by hand come out.
use Rattle.std.proofs.Common.{◌≡◌, ℕ, false, [], ◌∷◌, refl, arith, lit≤}
use Rattle.std.proofs.lemmas.List.Elements.{All-from_recursion}
use Rattle.rounding.specs.Rounding as rounding
use Rattle.reconciliation.specs.Reconciliation as reconciliation
use Rattle.account.specs.Journal.{Entry}
use Rattle.account.specs.Journal.Entry.{forced, filed}
use Rattle.account.specs.Laws.{is_force}
use Rattle.account.specs.Worked.{Worked, first_filing, next_filing, worked_term}

pub by_hand : Worked
unfolding rounding.half_up rounding.nearest rounding.money_rounded rounding.rate_rounded reconciliation.tax_on reconciliation.net_of reconciliation.rate_of
by_hand = record {
  costs_are = refl;
  charges_are = refl;
  nets_are = refl;
  base_is = refl;
  bills_are = refl;
  months_are = refl;
  quantity_is = refl;
  e_is = refl;
  is_term = record {
    later = forced next_filing 2 ∷ [];
    earlier = filed first_filing ∷ [];
    parts = refl;
    one = All-from_recursion (λ (entry : Entry ℕ). is_force entry ≡ false) worked_term (refl, (refl, (refl, (refl, (refl, (refl, (refl, (refl, tt))))))));
  };
  one_cent_recovers = lit≤ tt;
  two_cents_do_not = λ h. omega arith;
  costs_move = λ kind amount. refl;
  bills_move = λ held start count. refl;
  readings_stay = λ r b. refl;
}
