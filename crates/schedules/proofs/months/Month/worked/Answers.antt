use Rattle.std.proofs.Common.{◌≡◌, ℕ, ℤ, ◌+ℤ◌, ◌-ℤ◌, arith, to_z-of_z, w32, w64, SFits, to_z, of_z, rules}
use Rattle.std.proofs.lemmas.Int.{ints}
use Rattle.rounding.proofs.Widths.{in64, in128}
use Rattle.reconciliation.specs.Reconciliation.{net_of, tax_on}
use Rattle.schedules.specs.declared.months.Month.{Month}
use Rattle.schedules.specs.declared.months.MonthWorked.{MonthWorked}
use Rattle.schedules.specs.Months.{in_cents, in_dollars, interest_of, month_worked}
use Rattle.schedules.proofs.months.Month.worked.Goals as goal

-- a sum of numbers of 64 bits in 128
wide_sum : (x y : ℤ) → SFits w64 x → SFits w64 y → in128 (in128 (in64 x) +ℤ in128 (in64 y)) ≡ x +ℤ y
wide_sum x y f g = omega (arith, ints)

-- the balance before interest, of figures of 32 bits
abbrev in32 : ℤ → ℤ
in32 z = to_z w32 (of_z w32 z)

abbrev before : ℤ → ℤ → ℤ → ℤ
before last expenses net = in64 (in64 (in32 last) +ℤ in64 (in32 expenses)) -ℤ in64 (in32 net)

before_is : (last expenses net : ℤ) → SFits w32 last → SFits w32 expenses → SFits w32 net → in64 (before last expenses net) ≡ last +ℤ expenses -ℤ net
before_is last expenses net a b d = omega (arith, ints)

joined : (m : Month) (t u o : ℕ) (tax net before interest end : ℤ)
    → tax ≡ in_dollars (tax_on (in_cents m.revenue) t) → net ≡ in_dollars (net_of (in_cents m.revenue) t) → before ≡ m.last +ℤ m.expenses -ℤ m.net
    → interest ≡ in_dollars (interest_of m u o) → end ≡ in_dollars (in_cents m.before +ℤ interest_of m u o)
    → ◌≡◌ {A = MonthWorked} (record { tax = tax; net = net; before = before; interest = interest; end = end }) (month_worked m t u o)
unfolding month_worked
joined m t u o tax net before interest end a b d e f = cc

pub overflow_add-before : goal.overflow_add-before
overflow_add-before c =
    let a : SFits w64 c.cents-before.result.0 = search rules in
    let b : SFits w64 c.carrying_charge-interest.result.0 = search rules in
    omega (arith, ints)

pub returns : goal.returns
returns c =
    joined c.args.self.now _ _ _ _ _ _ _ _ (grind (arith, to_z-of_z)) (grind (arith, to_z-of_z))
    (before_is c.args.self.now.last c.args.self.now.expenses c.args.self.now.net (search rules) (search rules) (search rules))
    (grind (arith, to_z-of_z)) (grind (arith, to_z-of_z, wide_sum))
