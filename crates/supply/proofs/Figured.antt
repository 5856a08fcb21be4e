-- What the tests of figures say.
use Rattle.std.proofs.Common.{◌≡◌, ℕ, Bool, false, List, ℤ, pos, ◌≤ℤ◌, arith}
use Rattle.std.specs.List.{All, list_any}
use Rattle.std.proofs.lemmas.Int.{ints}
use Rattle.std.proofs.lemmas.List.Folds.{list_any_at}
use Rattle.std.proofs.lemmas.List.Elements.{All-weaker}
use Rattle.supply.specs.Figures.{factor_out, outside, price_out, printed_out, share_out}

abbrev pub Between : ℕ → ℕ → ℤ → Type 0
Between low high z = (pos low ≤ℤ z) × (z ≤ℤ pos high)

inside : (low high z : ℤ) → outside low high z ≡ false → (low ≤ℤ z) × (z ≤ℤ high)
unfolding outside
inside low high z e = (grind (arith, ints), grind (arith, ints))

not_outside : (low high z : ℤ) → low ≤ℤ z → z ≤ℤ high → outside low high z ≡ false
unfolding outside
not_outside low high z l h = grind (arith, ints)

pub price_inside : (z : ℤ) → price_out z ≡ false → Between 0 100000 z
price_inside z e = inside (pos 0) (pos 100000) z e

pub printed_inside : (z : ℤ) → printed_out z ≡ false → Between 0 1000000 z
printed_inside z e = inside (pos 0) (pos 1000000) z e

pub printed : (z : ℤ) → Between 0 1000000 z → printed_out z ≡ false
printed z b = not_outside (pos 0) (pos 1000000) z b.0 b.1

pub share_inside : (z : ℤ) → share_out z ≡ false → Between 0 10000 z
share_inside z e = inside (pos 0) (pos 10000) z e

pub factor_inside : (z : ℤ) → factor_out z ≡ false → Between 50 200 z
factor_inside z e = inside (pos 50) (pos 200) z e

-- where none passes, each fails
pub none_passes : {X : Type 0} (test : X → Bool) (xs : List X) → list_any test xs ≡ false → All (λ x. test x ≡ false) xs
none_passes test xs e k d lt = let any = list_any_at test xs k d lt in grind arith

pub prices_inside : (prices : List ℤ) → list_any price_out prices ≡ false → All (Between 0 100000) prices
prices_inside prices e = All-weaker (λ z. price_out z ≡ false) (Between 0 100000) (λ z. price_inside z) prices (none_passes price_out prices e)
