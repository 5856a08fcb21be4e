use Rattle.std.proofs.Common.{◌≡◌, arith, to_z-of_z, w64, to_z, of_z}
use Rattle.std.proofs.lemmas.Int.{ints}
use Rattle.schedules.proofs.Plain.{plain}
use Rattle.schedules.proofs.rate_page.with_tax.Goals as goal

pub returns : goal.returns
returns c =
    let size = c.rate.ensures.size in
    let told : to_z w64 (of_z w64 c.rate.result.0) ≡ c.rate.result.0 = omega (arith, ints) in
    grind (arith, to_z-of_z, plain)
