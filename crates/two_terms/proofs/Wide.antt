-- A difference as the code works it, in 128 bits.
use Rattle.std.proofs.Common.{◌≡◌, ℕ, ◌*◌, ◌≤◌, ℤ, pos, ◌+ℤ◌, ◌-ℤ◌, ◌*ℤ◌, nat_abs, arith, SFits}
use Rattle.std.specs.Int.{w128}
use Rattle.std.proofs.lemmas.Nat.{mul-le}
use Rattle.std.proofs.lemmas.Int.{ints}
use Rattle.rounding.proofs.Widths.{in64, in128}

-- a charge of 64 bits of quantity at a rate up to 310,000
pub charge_small : (quantity : ℕ) (rate : ℤ) → quantity ≤ 18446744073709551615 → nat_abs rate ≤ 310000 → quantity * nat_abs (in64 rate) ≤ 6000000000000000000000000
charge_small quantity rate low high =
    let kept : nat_abs (in64 rate) ≤ 310000 = omega (arith, ints) in
    omega (arith, mul-le quantity (nat_abs (in64 rate)) 18446744073709551615 310000 low kept)

-- 10,000,000 times an amount of 64 bits
pub scaled_small : (amount : ℤ) → 10000000 * nat_abs (in64 amount) ≤ 92233720368547758080000000
scaled_small amount = omega (arith, ints)

-- 10,000 times a charge, in 128 bits
abbrev pub base : ℤ → ℤ
base charge = in128 (pos 10000 *ℤ in128 charge)

pub base_fits : (charge : ℤ) → nat_abs charge ≤ 6000000000000000000000000 → SFits w128 (pos 10000 *ℤ in128 charge)
base_fits charge hc = omega (arith, ints)

module _ (charge balance : ℤ) (hc : nat_abs charge ≤ 6000000000000000000000000) (hb : nat_abs balance ≤ 92233720368547758080000000) where
  -- 10,000 times a charge and a balance
  abbrev aim : ℤ
  aim = base charge +ℤ in128 balance

  pub aim_fits : SFits w128 aim
  aim_fits = omega (arith, ints)

  module _ (net : ℤ) (hn : nat_abs net ≤ 92233720368547758080000000) where
    pub gap_fits : SFits w128 (in128 net -ℤ in128 aim)
    gap_fits = omega (arith, ints)

    pub gap_is : nat_abs (in128 (in128 net -ℤ in128 aim)) ≡ nat_abs (net -ℤ (pos 10000 *ℤ charge +ℤ balance))
    gap_is = omega (arith, ints)

pub same_gap : {n n' c c' b b' : ℤ} → n ≡ n' → c ≡ c' → b ≡ b' → nat_abs (n -ℤ (pos 10000 *ℤ c +ℤ b)) ≡ nat_abs (n' -ℤ (pos 10000 *ℤ c' +ℤ b'))
same_gap {n} {n'} {c} {c'} {b} {b'} p q r = cc
