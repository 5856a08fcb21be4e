-- Lists of lines that have a weight and a price, whatever their kind.
use Rattle.std.specs.Prelude.{◌≡◌, ℕ, Bool, false, ◌||◌, List, [], ◌∷◌, length, ℤ, pos, ◌+ℤ◌, ◌*ℤ◌, ◌≤ℤ◌, fold, sum_by, ◌==◌, nat_lt}
use Rattle.std.specs.List.{All, list_any}
use Rattle.refusals.specs.Checks.{Checks}
use Rattle.supply.specs.declared.refusal.Refusal.{Refusal}
use Rattle.supply.specs.declared.refusal.Refusal.TheVariants.{LineCount, LineOutOfRange}
use Rattle.supply.specs.Figures.{price_out}

-- A kind of line: a line's weight, its price, and the largest weight that is lawful.
pub record Kind (L : Type 0) : Type 0 where
  pub weight : L → ℕ
  pub price : L → ℤ
  pub most : ℕ

-- A list has no lines, or over 64.
unfoldable pub wrong_count : {L : Type 0} → List L → Bool
wrong_count lines = length lines == 0 || nat_lt 64 (length lines)

-- A line's weight is 0 or over the most, or its price is out of range.
unfoldable pub line_out : {L : Type 0} → Kind L → L → Bool
line_out kind line =
    (kind.weight line == 0) || (nat_lt kind.most (kind.weight line) || price_out (kind.price line))

-- Some line of a list is out of range.
abbrev pub some_out : {L : Type 0} → Kind L → List L → Bool
some_out kind lines = list_any (line_out kind) lines

-- A list of 1 to 64 lines, each in range.
abbrev pub Lawful : {L : Type 0} → Kind L → List L → Type 0
Lawful kind lines = (wrong_count lines ≡ false) × (some_out kind lines ≡ false)

-- The checks of a list: its count, then its lines.
abbrev pub lines_checks : {L : Type 0} → Kind L → List L → Checks Refusal
lines_checks kind lines = (wrong_count lines, LineCount) ∷ (some_out kind lines, LineOutOfRange) ∷ []

-- The sum of weight × price.
unfoldable pub weighted_sum : {L : Type 0} → Kind L → List L → ℤ
weighted_sum kind lines = fold (λ sum line. sum +ℤ pos (kind.weight line) *ℤ kind.price line) (pos 0) lines

-- The sum of the weights.
unfoldable pub weights : {L : Type 0} → Kind L → List L → ℕ
weights kind lines = sum_by kind.weight lines

-- Every range that holds the price of each line holds this price too: it lies from the least of their prices to the greatest.
abbrev pub AmongPrices : {L : Type 0} → Kind L → List L → ℤ → Type 0
AmongPrices kind lines price =
    (low high : ℤ) → All (λ line. (low ≤ℤ kind.price line) × (kind.price line ≤ℤ high)) lines → (low ≤ℤ price) × (price ≤ℤ high)
