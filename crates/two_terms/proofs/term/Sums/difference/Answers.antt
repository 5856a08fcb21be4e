use Rattle.std.proofs.Common.{arith, to_z-of_z}
use Rattle.two_terms.proofs.Wide.{aim_fits, charge_small, gap_fits, gap_is, scaled_small}
use Rattle.two_terms.proofs.term.Sums.difference.Goals as goal

pub overflow_add-aim : goal.overflow_add-aim
overflow_add-aim c = grind (arith, aim_fits, charge_small, scaled_small)

pub overflow_sub-times : goal.overflow_sub-times
overflow_sub-times c = grind (arith, gap_fits, charge_small, scaled_small)

pub returns : goal.returns
returns c = grind (arith, gap_is, charge_small, scaled_small, to_z-of_z)
