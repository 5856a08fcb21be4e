use Rattle.std.proofs.Common.{◌≡◌, ◌-◌, ◌<◌, ◌^◌, pos, nat_abs, arith}
use Rattle.std.proofs.lemmas.Int.{ints}
use Rattle.std.proofs.lemmas.Nat.{mul-le}
use Rattle.rounding.proofs.Near.{rate_bound}
use Rattle.schedules.specs.Rates.{gross_up_of}
use Rattle.schedules.proofs.rate_page.gross_up.Goals as goal

known : (c : goal.After-round_rate) → (c.round_rate.result ≡ gross_up_of c.args.tax.value) × (nat_abs (gross_up_of c.args.tax.value) < 2 ^ 62)
unfolding gross_up_of
known c =
    let d = 10000 - c.args.tax.value in
    let low = c.args.tax.low in
    let h = rate_bound (pos 10000000000) d 10000000000 (omega arith) (omega (arith, mul-le 10000000000 1 10000000000 d (omega arith) (omega arith))) in
    (cc, omega arith)

pub overflow_cast-result : goal.overflow_cast-result
overflow_cast-result c = let k = known c in omega (arith, ints)

pub returns : goal.returns
returns c = let k = known c in omega (arith, ints)
