-- Powers of ten, as the places after a decimal point.
use Rattle.std.proofs.Common.{ℕ, ◌<◌, ◌≤◌, ◌^◌, arith}
use Rattle.std.proofs.Math.Nat.{one-le-pow, pow-le-pow_right}

pub ten_some : (places : ℕ) → 0 < 10 ^ places
ten_some places = one-le-pow places 10 (omega arith)

-- 38 places fit in 128 bits
pub ten_fits : (places : ℕ) → places ≤ 38 → 10 ^ places < 2 ^ 128
ten_fits places few = let most = pow-le-pow_right {n = 10} (omega arith) {i = places} {j = 38} few in omega arith
