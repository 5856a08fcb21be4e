use Rattle.std.proofs.Common.{◌≡◌, ◌≤◌, length, pos, ◌+ℤ◌, nat_abs, sym, arith, to_z-of_z, rules, w64, SFits}
use Rattle.std.proofs.lemmas.Int.{ints}
use Rattle.std.proofs.lemmas.Iterator.{YieldsList-from_slice}
use Rattle.std.proofs.lemmas.Iterator.Adapters.{total_from_yields_List}
use Rattle.std.proofs.lemmas.List.Elements.{All-weaker}
use Rattle.rounding.proofs.Sums.{sums_fit}
use Rattle.supply.proofs.Steps.{Subtotal, subtotal_worked}
use Rattle.supply.proofs.Figured.{Between, prices_inside}
use Rattle.supply.proofs.schedule.block_subtotal.Goals as goal

pub sum-requires-clause-fits : goal.sum-requires-clause-fits
sum-requires-clause-fits c =
    let e : length c.args.adders ≡ 3 = search rules in
    sums_fit (λ x. x.now) c.iter.result c.args.adders (YieldsList-from_slice c.args.adders cc) (SFits w64) 100000 (λ z h. omega (arith, ints))
    (All-weaker (Between 0 100000) (λ z. nat_abs z ≤ 100000) (λ z b. omega (arith, ints, b.0, b.1)) c.args.adders (prices_inside c.args.adders (sym c.if-adders_out.ensures)))

worked : (c : goal.After-sum) → Subtotal c.args.fixed c.args.variable c.sum.result c.args.adders
worked c =
    let fixed = to_z-of_z c.ranges.fixed in
    let variable = to_z-of_z c.ranges.variable in
    subtotal_worked c.args.fixed c.args.variable c.sum.result c.args.adders (cc) (cc) (cc) (search rules)
    (total_from_yields_List ◌+ℤ◌ (pos 0) c.sum.result c.sum.ensures.ran (YieldsList-from_slice c.args.adders cc))

pub overflow_add-result-2 : goal.overflow_add-result-2
overflow_add-result-2 c = (worked c).fits

pub returns : goal.returns
returns c = let w = worked c in grind (arith, to_z-of_z)
