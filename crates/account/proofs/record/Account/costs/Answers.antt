use Rattle.std.proofs.Common.{◌≤◌, ℤ, pos, nat_abs, All, rules, arith, w64, FitsSigned}
use Rattle.std.proofs.lemmas.Int.{ints}
use Rattle.std.proofs.lemmas.Iterator.{YieldsList-from_map, YieldsList-from_slice}
use Rattle.std.proofs.lemmas.List.Elements.{All-from_get_or}
use Rattle.rounding.proofs.Sums.{mapped_sum, mapped_sums_fit, sum_size}
use Rattle.account.specs.declared.figures.CostLine.{CostLine}
use Rattle.account.specs.declared.figures.OpenMonth.{OpenMonth}
use Rattle.account.specs.Lawful.{Tidy, no_entries}
use Rattle.account.proofs.record.Account.costs.Goals as goal

abbrev total : CostLine → ℤ
total line = line.total.0

-- a line holds at most 10^15
each : (t : OpenMonth) → Tidy t → All (λ line. nat_abs (total line) ≤ 1000000000000000) t.costs
each t tidy =
    All-from_get_or (λ line. nat_abs (total line) ≤ 1000000000000000) t.costs no_entries (λ i l. let fair = tidy.0 i (omega arith) in omega arith)

pub sum-total-requires-clause-fits : goal.sum-total-requires-clause-fits
sum-total-requires-clause-fits g c =
    let t = c.args.self.now.figures.ledger.month in
    mapped_sums_fit total t.costs _ (YieldsList-from_map _ total (YieldsList-from_slice t.costs cc) c.map.ensures.closure (λ x r q k. search rules))
    (FitsSigned w64) 1000000000000000 (λ z h. omega (arith, ints)) (each t c.args.self.now.tidy)

pub returns : goal.returns
returns g c =
    let t = c.args.self.now.figures.ledger.month in
    let sum =
    mapped_sum total t.costs _ (YieldsList-from_map _ total (YieldsList-from_slice t.costs cc) c.map.ensures.closure (λ x r q k. search rules))
    c.sum-total.result c.sum-total.ensures.ran in
    let size = sum_size total 1000000000000000 (pos 0) t.costs (each t c.args.self.now.tidy) in
    record { value = omega (arith, ints); small = omega (arith, ints) }
