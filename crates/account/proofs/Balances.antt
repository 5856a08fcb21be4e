-- The balance as the code works it, in 64 bits.
use Rattle.std.proofs.Common.{◌≡◌, ℕ, ◌≤◌, ℤ, ◌+ℤ◌, ◌-ℤ◌, nat_abs, arith, w64, SFits}
use Rattle.std.proofs.lemmas.Int.{ints}
use Rattle.rounding.proofs.Widths.{in64}
use Rattle.reconciliation.specs.Reconciliation.{carrying_charge, net_of}
use Rattle.reconciliation.proofs.Sizes.{carrying_high, tax_within}

-- a month's bills net of tax are no larger than its bills
pub net_within : (billed : ℤ) (tax : ℕ) → tax ≤ 2000 → nat_abs (net_of billed tax) ≤ nat_abs billed
net_within billed tax low = omega (arith, tax_within billed tax low)

module _ (last costs net : ℤ) (hl : nat_abs last ≤ 10000000000000) (hc : nat_abs costs ≤ 8000000000000000) (hn : nat_abs net ≤ 1000000000000000) where
  pub sum_fits : SFits w64 (in64 (in64 last +ℤ in64 costs) -ℤ in64 net)
  sum_fits = omega (arith, ints)

  pub sum_is : in64 (in64 (in64 last +ℤ in64 costs) -ℤ in64 net) ≡ last +ℤ costs -ℤ net
  sum_is = omega (arith, ints)

  pub sum_small : nat_abs (in64 (in64 (in64 last +ℤ in64 costs) -ℤ in64 net)) ≤ 9010000000000000
  sum_small = omega (arith, ints)

-- the carrying charge of two balances in bounds
pub charge_within : (last before : ℤ) (under over : ℕ) → nat_abs last ≤ 10000000000000 → nat_abs before ≤ 10000000000000 → under ≤ 2400 → over ≤ 2400
    → nat_abs (carrying_charge last before under over) ≤ 184467440737095517
charge_within last before under over hl hb hu ho = carrying_high last before under over (omega (arith, ints)) hu ho

module _ (before charge : ℤ) (hb : nat_abs before ≤ 10000000000000) (hc : nat_abs charge ≤ 184467440737095517) where
  pub after_fits : SFits w64 (in64 before +ℤ in64 charge)
  after_fits = omega (arith, ints)

  pub after_is : in64 (in64 before +ℤ in64 charge) ≡ before +ℤ charge
  after_is = omega (arith, ints)
