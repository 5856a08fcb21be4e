use Rattle.std.proofs.Common.{arith}
use Rattle.supply.proofs.Steps.{part_steps}
use Rattle.supply.proofs.schedule.share_of.Goals as goal

pub overflow_cast-result : goal.overflow_cast-result
overflow_cast-result c = grind (arith, part_steps)

pub returns : goal.returns
returns c = grind (arith, part_steps)
