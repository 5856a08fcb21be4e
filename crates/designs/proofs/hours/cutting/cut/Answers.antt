use Rattle.std.proofs.Common.{◌≡◌, ◌+◌, ◌-◌, take, drop, arith}
use Rattle.std.proofs.lemmas.Result.{err_from_is_err_and}
use Rattle.designs.proofs.Cuts.{refused_from, hours_refused, hours_lawful, answered, told}
use Rattle.designs.proofs.hours.cutting.cut.Goals as goal

pub returns-in_err-check_hours-clause-lawful : goal.returns-in_err-check_hours-clause-lawful
returns-in_err-check_hours-clause-lawful c =
    let held = c.args.held.now in
    let start = c.args.start in
    let count = c.args.count in
    let p = err_from_is_err_and c.from_residual.result c.from_residual.ensures.1 in
    let whole : start + count - start ≡ count = omega arith in
    let some = told (refused_from 0 (take (start + count - start) (drop start held))) tt c.in_err-check_hours.field-0.0 c.in_err-check_hours.ensures in
    rw p.1 (hours_refused held start count c.if-count-eq0.false c.if-count-gt840.false (omega arith) c.in_err-check_hours.field-0.0 (rw whole at some)).1

pub invariant_of-result : goal.invariant_of-result
invariant_of-result c =
    let held = c.args.held.now in
    let start = c.args.start in
    let count = c.args.count in
    let whole : start + count - start ≡ count = omega arith in
    let none = answered (refused_from 0 (take (start + count - start) (drop start held))) tt c.in_ok-check_hours.ensures in
    rw whole (record { ok = (hours_lawful held start count c.if-count-eq0.false c.if-count-gt840.false (omega arith) (rw whole at none)).1 })
