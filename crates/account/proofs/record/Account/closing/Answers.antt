use Rattle.std.proofs.Common.{arith}
use Rattle.std.proofs.lemmas.Bool.Decides.{nat_tests}
use Rattle.account.proofs.Balances.{after_is, charge_within}
use Rattle.account.proofs.record.Account.closing.Goals as goal

pub returns-clause-rule : goal.returns-clause-rule
returns-clause-rule g c =
    let after = after_is c.balance-before.result.0 c.carrying_charge-charge.result.0 (grind arith) (grind (arith, charge_within)) in
    grind (arith, nat_tests)
