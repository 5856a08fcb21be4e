use Rattle.std.proofs.Common.{arith}
use Rattle.supply.proofs.Steps.{tranche_steps}
use Rattle.supply.proofs.schedule.tranche_average.Goals as goal

pub overflow_mul-weighted : goal.overflow_mul-weighted
overflow_mul-weighted c = grind (arith, tranche_steps)

pub overflow_mul-weights : goal.overflow_mul-weights
overflow_mul-weights c = grind (arith, tranche_steps)

pub round_rate-requires : goal.round_rate-requires
round_rate-requires c = grind (arith, tranche_steps)

pub overflow_cast-result : goal.overflow_cast-result
overflow_cast-result c = grind (arith, tranche_steps)

pub returns : goal.returns
returns c = grind (arith, tranche_steps)
