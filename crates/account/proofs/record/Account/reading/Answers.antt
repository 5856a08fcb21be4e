use Rattle.account.proofs.Theorem.{every_run}
use Rattle.account.proofs.record.Account.reading.Goals as goal

pub returns-clause-laws : goal.returns-clause-laws
returns-clause-laws g c =
    rw c.told.ensures (every_run g.D.RateDesign.meaning g.met.D.RateDesign.sound c.args.self.now.figures)
