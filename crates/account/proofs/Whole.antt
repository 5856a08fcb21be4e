-- Laws of products that `omega` does not reach, since a product of two unknowns is an unknown to it.
use Rattle.std.proofs.Common.{◌≡◌, ℕ, ◌+◌, ◌*◌, ℤ, pos, ◌+ℤ◌, ◌-ℤ◌, ◌*ℤ◌, neg_ℤ, nat_abs, ap, ◌∙◌, mul_assoc, add-mul, arith}
use borrow.Author.Differences.{up, down, same_in, sum_is_lem, neg_is, product_is}
use Rattle.std.proofs.lemmas.Int.{ints, unsigned_abs-mul}
use Rattle.rounding.specs.Rounding.{gap}
use Rattle.rounding.proofs.Gaps.{times_is, by_is}

-- (m + n) × z = m × z + n × z
pub sum_times : (m n : ℕ) (z : ℤ) → pos (m + n) *ℤ z ≡ pos m *ℤ z +ℤ pos n *ℤ z
sum_times m n z =
    same_in _ _ (omega (arith, add-mul m n (up z), add-mul m n (down z), sum_is_lem (pos m *ℤ z) (pos n *ℤ z), times_is (m + n) z, times_is m z, times_is n z))

-- (k × n) × z = k × (n × z)
pub product_times : (k n : ℕ) (z : ℤ) → pos (k * n) *ℤ z ≡ pos k *ℤ (pos n *ℤ z)
product_times k n z =
    let inner = times_is n z in
    same_in _ _
    (omega (arith, mul_assoc k n (up z), mul_assoc k n (down z), times_is (k * n) z, times_is k (pos n *ℤ z), ap (λ x. k * x) inner.0, ap (λ x. k * x) inner.1))

-- m × z and z × n are as far apart as z times what is between m and n.
pub gap_times : (z : ℤ) (m n : ℕ) → gap (pos m *ℤ z) (z *ℤ pos n) ≡ nat_abs z * gap (pos m) (pos n)
gap_times z m n = ap nat_abs (go (pos m -ℤ pos n) (omega (arith, ints))) ∙ unsigned_abs-mul z (pos m -ℤ pos n)
  where
    go : (d : ℤ) → up d + n ≡ m + down d → pos m *ℤ z -ℤ z *ℤ pos n ≡ z *ℤ d
    go d h =
        same_in _ _
        (omega (arith, sum_is_lem (pos m *ℤ z) (neg_ℤ (z *ℤ pos n)), neg_is (z *ℤ pos n), times_is m z, by_is z n, product_is z d, ap (λ x. up z * x) h, ap (λ x. down z * x) h))
