use Rattle.std.proofs.Common.{◌≡◌, arith}
use Rattle.rounding.proofs.Widths.{in64, in128}
use Rattle.supply.specs.Schedule.{block_average}
use Rattle.supply.proofs.Steps.{block_steps, blocks_among}
use Rattle.supply.proofs.schedule.block_average.Goals as goal

pub round_rate-requires : goal.round_rate-requires
round_rate-requires c = grind (arith, block_steps)

pub overflow_cast-result : goal.overflow_cast-result
overflow_cast-result c = grind (arith, block_steps)

pub returns-clause-answer : goal.returns-clause-answer
returns-clause-answer c = grind (arith, block_steps)

pub returns-clause-among : goal.returns-clause-among
returns-clause-among c =
    let is : in64 (in128 c.round_rate.result) ≡ block_average c.args.blocks.now = grind (arith, block_steps) in
    rw is (blocks_among c.args.blocks.now c.in_ok-check_lines.ensures)
