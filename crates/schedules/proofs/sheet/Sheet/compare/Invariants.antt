use Rattle.std.proofs.Common.{◌≤◌, vec_len}
use Rattle.schedules.proofs.sheet.Sheet.compare.Given as goal

abbrev pub invariant-loop-month : goal.invariant-loop-month
invariant-loop-month g l = vec_len l.initial.report.lines ≤ vec_len l.report.lines
