-- The sums of a term so far and of a further month.
use Rattle.std.specs.Prelude.{◌+◌, ◌-◌, ◌^◌, min, ◌+ℤ◌}
use Rattle.std.specs.Int.{saturate_to_bits}
use Rattle.two_terms.specs.declared.term.Sums.{Sums}

-- Each is added to the other; what would not fit stays at the largest number.
abbrev pub joined : Sums → Sums → Sums
joined a b = record {
  bills = min (a.bills + b.bills) (2 ^ 32 - 1);
  months = min (a.months + b.months) (2 ^ 32 - 1);
  quantity = min (a.quantity + b.quantity) (2 ^ 64 - 1);
  net = record { 0 = saturate_to_bits 63 (a.net.0 +ℤ b.net.0) };
}
