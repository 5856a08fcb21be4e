-- How far bills net of tax stray from base charges and E, summed over months.
use Rattle.std.proofs.Common.{◌≡◌, ℕ, ◌+◌, ◌-◌, ◌*◌, ◌≤◌, List, [], ◌∷◌, length, ℤ, pos, ◌+ℤ◌, ◌-ℤ◌, ◌*ℤ◌, sym, refl, ap, ◌∙◌, mul-suc, mul-add, arith, lit<}
use Rattle.std.specs.List.{AllByRecursion}
use Rattle.std.proofs.lemmas.Int.{ints}
use Rattle.rounding.specs.Rounding.{gap, money_rounded, rate_rounded}
use Rattle.rounding.proofs.Gaps.{times_sum}
use Rattle.rounding.proofs.Near.{money_near, rate_near}
use Rattle.reconciliation.specs.Reconciliation.{net_of, rate_of, tax_on}
use Rattle.designs.specs.Meanings.{rate_units_per_cent}
use Rattle.account.specs.Journal.{Bill, Filed, Month, sum_of, total_of, quantity_in, net_in, e_of}
use Rattle.account.specs.Laws.{one_if_any, bills_allowance, months_allowance, rates_allowance, quantity_allowance, difference}
use Rattle.account.proofs.Whole.{sum_times, product_times, gap_times}

-- Twice the gap of x and y is at most n.
pub record Near (x y : ℤ) (n : ℕ) : Type 0 where
  pub within : 2 * gap x y ≤ n

near_sum : {x y x' y' : ℤ} {n n' : ℕ} → Near x y n → Near x' y' n' → Near (x +ℤ x') (y +ℤ y') (n + n')
near_sum {x} {y} {x'} {y'} {n} {n'} h k = omega (arith, ints)

near_then : {x y z : ℤ} {n n' : ℕ} → Near x y n → Near y z n' → Near x z (n + n')
near_then {x} {y} {z} {n} {n'} h k = omega (arith, ints)

near_as : {x y x' y' : ℤ} {n n' : ℕ} → x' ≡ x → y' ≡ y → n' ≡ n → Near x y n → Near x' y' n'
near_as {x} {y} {x'} {y'} {n} {n'} p q r h = omega (arith, ints)

-- ---- the tax of a month

-- no bills, no tax
net_of_none : (tax : ℕ) → net_of (pos 0) tax ≡ pos 0
unfolding net_of tax_on
net_of_none tax = go (money_rounded (pos tax *ℤ pos 0) 10000) (money_near (pos tax *ℤ pos 0) 10000 (lit< tt))
  where
    go : (r : ℤ) → 2 * gap (pos tax *ℤ pos 0) (r *ℤ pos 10000) ≤ 10000 → pos 0 -ℤ r ≡ pos 0
    go r near = omega (arith, ints)

-- the rounding of a month's tax costs at most half a cent
taxed : (tax : ℕ) → tax ≤ 2000 → (total : ℤ) → Near (pos 10000000 *ℤ net_of total tax) (pos (rate_units_per_cent * (10000 - tax)) *ℤ total) 10000000
unfolding net_of tax_on
taxed tax low total = go total (money_rounded (pos tax *ℤ total) 10000) (pos tax *ℤ total) _ parts (money_near (pos tax *ℤ total) 10000 (lit< tt))
  where
    parts : pos (1000 * (10000 - tax)) *ℤ total +ℤ pos 1000 *ℤ (pos tax *ℤ total) ≡ pos 10000000 *ℤ total
    parts =
        ap (λ x. pos (1000 * (10000 - tax)) *ℤ total +ℤ x) (sym (product_times 1000 tax total))
        ∙ sym (sum_times (1000 * (10000 - tax)) (1000 * tax) total)
        ∙ ap (λ n. pos n *ℤ total) (omega arith)

    go : (a r t k : ℤ) → k +ℤ pos 1000 *ℤ t ≡ pos 10000000 *ℤ a → 2 * gap t (r *ℤ pos 10000) ≤ 10000 → Near (pos 10000000 *ℤ (a -ℤ r)) k 10000000
    go a r t k e h = omega (arith, ints)

-- ---- bills at one E, under one tax

-- What a bill aims at: base + 10,000 × E × quantity.
abbrev aim : ℤ → ℤ → ℕ → ℤ
aim e base quantity = base +ℤ pos (10000 * quantity) *ℤ e

aim_sum : (e b b' : ℤ) (q q' : ℕ) → aim e (b +ℤ b') (q + q') ≡ aim e b q +ℤ aim e b' q'
aim_sum e b b' q q' = go _ _ _ (ap (λ n. pos n *ℤ e) (mul-add 10000 q q') ∙ sum_times (10000 * q) (10000 * q') e)
  where
    go : (x y z : ℤ) → x ≡ y +ℤ z → (b +ℤ b') +ℤ x ≡ (b +ℤ y) +ℤ (b' +ℤ z)
    go x y z h = omega (arith, ints)

-- the base, the quantity and the number of some bills, and of some months
abbrev base_of : List Bill → ℤ
base_of bills = total_of (λ b. b.base) bills

abbrev quantity_of : List Bill → ℕ
quantity_of bills = sum_of (λ b. b.quantity) bills

abbrev bases : List Month → ℤ
bases months = total_of (λ month. base_of month.bills) months

abbrev quantities : List Month → ℕ
quantities months = sum_of quantity_in months

abbrev counts : List Month → ℕ
counts months = sum_of (λ month. length month.bills) months

abbrev billed_ones : List Month → ℕ
billed_ones months = sum_of (λ month. one_if_any month.bills) months

module _ (c u tax : ℕ) (e : ℤ) where
  -- A bill that keeps the law.
  pub record Keeps (b : Bill) : Type 0 where
    pub law : Near (pos (rate_units_per_cent * (10000 - tax)) *ℤ b.amount) (aim e b.base b.quantity) (10000 * (rate_units_per_cent * c + u * b.quantity))

  -- a month's bills before the tax is taken out
  gross : (bills : List Bill) → AllByRecursion Keeps bills
      → Near (pos (rate_units_per_cent * (10000 - tax)) *ℤ total_of (λ b. b.amount) bills) (aim e (base_of bills) (quantity_of bills)) (10000 * (bills_allowance c (length bills) + u * quantity_of bills))
  gross [] h = omega (arith, ints)
  gross (b ∷ bills) h =
      near_as (times_sum (rate_units_per_cent * (10000 - tax)) b.amount (total_of (λ b. b.amount) bills)) (aim_sum e b.base (base_of bills) b.quantity (quantity_of bills))
      (omega (arith, mul-suc c (length bills), mul-add u b.quantity (quantity_of bills)))
      (near_sum h.0.law (gross bills h.1))

  -- a month's bills net of tax
  net : tax ≤ 2000 → (bills : List Bill) → AllByRecursion Keeps bills
      → Near (pos 10000000 *ℤ net_of (total_of (λ b. b.amount) bills) tax) (aim e (base_of bills) (quantity_of bills)) (10000 * (bills_allowance c (length bills) + months_allowance (one_if_any bills) + u * quantity_of bills))
  net low [] h = near_as (ap (λ x. pos 10000000 *ℤ x) (net_of_none tax)) refl refl (omega (arith, ints))
  net low (b ∷ bills) h = near_as refl refl (omega arith) (near_then (taxed tax low (total_of (λ b. b.amount) (b ∷ bills))) (gross (b ∷ bills) h))

  -- the bills of all months net of tax
  nets : tax ≤ 2000 → (months : List Month) → AllByRecursion (λ (month : Month). AllByRecursion Keeps month.bills) months
      → Near (pos 10000000 *ℤ total_of (net_in tax) months) (aim e (bases months) (quantities months)) (10000 * (bills_allowance c (counts months) + months_allowance (billed_ones months) + u * quantities months))
  nets low [] h = omega (arith, ints)
  nets low (month ∷ months) h =
      near_as (times_sum 10000000 (net_in tax month) (total_of (net_in tax) months)) (aim_sum e (base_of month.bills) (bases months) (quantity_in month) (quantities months))
      (omega (arith, mul-add c (length month.bills) (counts months), mul-add u (quantity_in month) (quantities months)))
      (near_sum (net low month.bills h.0) (nets low months h.1))

-- ---- E, of the filed balance over the projected quantity

-- what is aimed at with a filing's E is its balance, but for the rounding of E and the gap of the quantities
aimed : (base : ℤ) (quantity : ℕ) (filing : Filed) → 1 ≤ filing.projected
    → Near (aim (e_of filing) base quantity) (base +ℤ pos 10000000 *ℤ filing.balance) (10000 * (filing.projected + quantity_allowance (e_of filing) quantity filing.projected))
unfolding rate_of
aimed base q filing some =
    go base filing.balance _ (pos q *ℤ e) (e *ℤ pos p) _ (product_times 10000 q e) (rate_near (pos 1000 *ℤ filing.balance) p some) (gap_times e q p)
  where
    p : ℕ
    p = filing.projected

    e : ℤ
    e = rate_rounded (pos 1000 *ℤ filing.balance) p

    go : (base balance x eq ep : ℤ) (g : ℕ) → x ≡ pos 10000 *ℤ eq → 2 * gap (pos 1000 *ℤ balance) ep ≤ p → gap eq ep ≡ g → Near (base +ℤ x) (base +ℤ pos 10000000 *ℤ balance) (10000 * (p + 2 * g))
    go base balance x eq ep g h k l = omega (arith, ints)

pub recovered : (c u tax : ℕ) (filing : Filed) → tax ≤ 2000 → 1 ≤ filing.projected → (months : List Month) → AllByRecursion (λ (month : Month). AllByRecursion (Keeps c u tax (e_of filing)) month.bills) months
    → 2 * difference (total_of (net_in tax) months) (bases months) filing.balance
    ≤ 10000
    * (bills_allowance c (counts months)
    + months_allowance (billed_ones months)
    + rates_allowance u (quantities months) filing.projected
    + quantity_allowance (e_of filing) (quantities months) filing.projected)
recovered c u tax filing low some months h =
    (near_as refl refl (omega arith) (near_then (nets c u tax (e_of filing) low months h) (aimed (bases months) (quantities months) filing some))).within
