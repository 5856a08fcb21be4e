use Rattle.std.proofs.Common.{rules, arith}
use Rattle.supply.proofs.Sheet.{row}
use Rattle.supply.proofs.schedule.supply_schedule.Goals as goal

pub unwrap-tranche_average-requires : goal.unwrap-tranche_average-requires
unwrap-tranche_average-requires c = let r = row c.args.tranches.now c.args.blocks.now c.args.terms.now c.in_ok-check_sheet.ensures (search rules) in grind arith

pub unwrap-tranche_part-requires : goal.unwrap-tranche_part-requires
unwrap-tranche_part-requires c = let r = row c.args.tranches.now c.args.blocks.now c.args.terms.now c.in_ok-check_sheet.ensures (search rules) in grind arith

pub unwrap-fixed_part-requires : goal.unwrap-fixed_part-requires
unwrap-fixed_part-requires c = let r = row c.args.tranches.now c.args.blocks.now c.args.terms.now c.in_ok-check_sheet.ensures (search rules) in grind arith

pub unwrap-variable_part-requires : goal.unwrap-variable_part-requires
unwrap-variable_part-requires c = let r = row c.args.tranches.now c.args.blocks.now c.args.terms.now c.in_ok-check_sheet.ensures (search rules) in grind arith

pub unwrap-block_subtotal-requires : goal.unwrap-block_subtotal-requires
unwrap-block_subtotal-requires c = let r = row c.args.tranches.now c.args.blocks.now c.args.terms.now c.in_ok-check_sheet.ensures (search rules) in grind arith

pub unwrap-block_part-requires : goal.unwrap-block_part-requires
unwrap-block_part-requires c = let r = row c.args.tranches.now c.args.blocks.now c.args.terms.now c.in_ok-check_sheet.ensures (search rules) in grind arith

pub unwrap-cost_component-requires : goal.unwrap-cost_component-requires
unwrap-cost_component-requires c = let r = row c.args.tranches.now c.args.blocks.now c.args.terms.now c.in_ok-check_sheet.ensures (search rules) in grind arith

pub returns-clause-answer : goal.returns-clause-answer
returns-clause-answer c = let r = row c.args.tranches.now c.args.blocks.now c.args.terms.now c.in_ok-check_sheet.ensures (search rules) in grind arith
