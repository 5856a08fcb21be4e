use Rattle.schedules.proofs.written.+grouped.Given as goal

abbrev pub decreases-grouped : goal.decreases-grouped
decreases-grouped g l = l.number
