use Rattle.std.proofs.Common.{arith}
use Rattle.account.proofs.Balances.{net_within, sum_fits, sum_is, sum_small}
use Rattle.account.proofs.record.Account.balance.Goals as goal

pub overflow_sub-result : goal.overflow_sub-result
overflow_sub-result g c = grind (arith, net_within, sum_fits)

pub returns-clause-value : goal.returns-clause-value
returns-clause-value g c = grind (arith, net_within, sum_is)

pub returns-clause-small : goal.returns-clause-small
returns-clause-small g c = grind (arith, net_within, sum_small)
