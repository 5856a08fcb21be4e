use Rattle.std.proofs.Common.{◌≡◌, ◌^◌, arith, to_z-of_z, SFits, rules}
use Rattle.std.specs.Int.{w128}
use Rattle.std.proofs.lemmas.Int.{ints}
use Rattle.rounding.specs.Rounding.{money_rounded}
use Rattle.rounding.proofs.Near.{money_bound}
use Rattle.schedules.proofs.months.dollars.Goals as goal

pub returns : goal.returns
returns c =
    let f : SFits w128 c.args.cents = search rules in
    let same = to_z-of_z f in
    let small = money_bound c.args.cents 100 (2 ^ 58) (omega arith) (omega (arith, c.requires)) in
    let value : c.round_money.result ≡ money_rounded c.args.cents 100 = cc in
    omega (arith, ints)
