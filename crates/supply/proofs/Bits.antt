-- Figures in range as the machine holds them.
use Rattle.std.proofs.Common.{◌≡◌, ℕ, ◌≤◌, ℤ, ◌*ℤ◌, ◌∙◌, arith, to_z-of_z, w64, SFits}
use Rattle.std.specs.Int.{w128}
use Rattle.std.proofs.lemmas.Int.{ints}
use Rattle.rounding.proofs.Widths.{in64, in128}
use Rattle.supply.proofs.Figured.{Between}
use Rattle.supply.proofs.Sizes.{product_between}

pub same : (z : ℤ) → Between 0 4000000 z → in64 z ≡ z
same z b = omega (arith, ints, b.0, b.1)

-- what casts to 128 and to 64 bits leave as it is
abbrev pub Narrow : ℤ → Type 0
Narrow z = (in128 z ≡ z) × (in64 z ≡ z) × SFits w64 z

pub narrow : (z : ℤ) → Between 0 4000000 z → Narrow z
narrow z b = (omega (arith, ints), omega (arith, ints), omega (arith, ints))

-- a product of 128 bits
module _ (a b : ℤ) (n : ℕ) (ha : Between 0 10000 a) (hb : Between 0 n b) (small : n ≤ 64000000000000) where
  factors_are : in128 a *ℤ in128 b ≡ a *ℤ b
  factors_are =
      let x : in128 a ≡ a = omega (arith, ints, ha.0, ha.1) in
      let y : in128 b ≡ b = omega (arith, ints, hb.0, hb.1) in
      rw (x, y)

  pub product_fits : SFits w128 (in128 a *ℤ in128 b)
  product_fits = let p = product_between a b 10000 n ha hb in rw factors_are (omega (arith, ints, p.0, p.1))

  pub product_is : in128 (in128 a *ℤ in128 b) ≡ a *ℤ b
  product_is = to_z-of_z product_fits ∙ factors_are
