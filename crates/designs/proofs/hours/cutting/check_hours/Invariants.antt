use Rattle.std.proofs.Common.{◌≡◌, drop}
use Rattle.refusals.specs.Checks.{first}
use Rattle.designs.specs.Cutting.{hour_checks}
use Rattle.designs.proofs.hours.cutting.check_hours.Given as goal

abbrev pub invariant-loop-place : goal.invariant-loop-place
invariant-loop-place l = first (hour_checks 0 l.hours) ≡ first (hour_checks l.place (drop l.place l.hours))
