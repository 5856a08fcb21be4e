-- What the tests of a list of lines say, and the bounds of a lawful list's sums.
use Rattle.std.proofs.Common.{◌≡◌, ℕ, ◌+◌, ◌*◌, ◌<◌, ◌≤◌, false, List, [], ◌∷◌, length, ℤ, pos, negsuc, nat_abs, ◌+ℤ◌, ◌*ℤ◌, ◌≤ℤ◌, fold, Ok, Result, arith}
use Rattle.std.specs.List.{All}
use Rattle.std.proofs.lemmas.Int.{ints}
use Rattle.std.proofs.lemmas.Bool.Decides.{nat_tests}
use Rattle.std.proofs.lemmas.Nat.{mul-le}
use Rattle.std.proofs.lemmas.List.Elements.{All-head, All-tail, All-weaker}
use Rattle.std.proofs.lemmas.List.Sums.{sum_by-cons, sum_by-le}
use Rattle.refusals.specs.Checks.{answer_unless, first}
use Rattle.supply.specs.declared.refusal.Refusal.{Refusal}
use Rattle.supply.specs.Kinds.{Kind, Lawful, line_out, lines_checks, some_out, weighted_sum, weights, wrong_count}
use Rattle.supply.proofs.Figured.{none_passes, price_inside}

-- a line in range
pub record InRange {L : Type 0} (kind : Kind L) (line : L) : Type 0 where
  pub some : 1 ≤ kind.weight line
  pub most : kind.weight line ≤ kind.most
  pub low : pos 0 ≤ℤ kind.price line
  pub high : kind.price line ≤ℤ pos 100000

pub in_range : {L : Type 0} (kind : Kind L) (line : L) → line_out kind line ≡ false → InRange kind line
unfolding line_out
in_range kind line e =
    let z = price_inside (kind.price line) (grind arith) in
    record { some = grind (arith, nat_tests); most = grind (arith, nat_tests); low = z.0; high = z.1 }

pub all_in_range : {L : Type 0} (kind : Kind L) (lines : List L) → some_out kind lines ≡ false → All (InRange kind) lines
all_in_range kind lines e = All-weaker (λ line. line_out kind line ≡ false) (InRange kind) (λ line. in_range kind line) lines (none_passes (line_out kind) lines e)

-- a price of a known range, weighted
pub one : (w low high : ℕ) (p : ℤ) → pos low ≤ℤ p → p ≤ℤ pos high → (pos (low * w) ≤ℤ (pos w *ℤ p)) × ((pos w *ℤ p) ≤ℤ pos (high * w))
one w low high (pos q) l h =
    let x = mul-le w low w q (omega arith) (omega (arith, ints)) in
    let y = mul-le w q w high (omega arith) (omega (arith, ints)) in
    (omega (arith, ints), omega (arith, ints))
one w low high (negsuc q) l h = absurd (omega (arith, ints))

-- a line whose price lies from low to high
abbrev pub Priced : {L : Type 0} → Kind L → ℤ → ℤ → L → Type 0
Priced kind low high line = (low ≤ℤ kind.price line) × (kind.price line ≤ℤ high)

-- where each price lies from low to high, the weighted sum lies from low × weights to high × weights
pub between : {L : Type 0} (kind : Kind L) (low high : ℕ) (lines : List L) → All (Priced kind (pos low) (pos high)) lines
    → (pos (low * weights kind lines) ≤ℤ weighted_sum kind lines) × (weighted_sum kind lines ≤ℤ pos (high * weights kind lines))
unfolding weighted_sum weights
between {L = L} kind low high lines all = go lines (pos 0) 0 (omega (arith, ints)) (omega (arith, ints)) all
  where
    go : (lines : List L) (a : ℤ) (n : ℕ) → pos (low * n) ≤ℤ a → a ≤ℤ pos (high * n) → All (Priced kind (pos low) (pos high)) lines
        → (pos (low * fold (λ m line. m + kind.weight line) n lines) ≤ℤ fold (λ sum line. sum +ℤ pos (kind.weight line) *ℤ kind.price line) a lines)
        × (fold (λ sum line. sum +ℤ pos (kind.weight line) *ℤ kind.price line) a lines ≤ℤ pos (high * fold (λ m line. m + kind.weight line) n lines))
    go [] a n l h all = (l, h)
    go (line ∷ lines) a n l h all =
        let w = kind.weight line in
        let p = All-head (Priced kind (pos low) (pos high)) line lines all in
        let z = one w low high (kind.price line) p.0 p.1 in
        go lines (a +ℤ pos w *ℤ kind.price line) (n + w) (omega (arith, ints)) (omega (arith, ints)) (All-tail (Priced kind (pos low) (pos high)) line lines all)

pub sum_between : {L : Type 0} (kind : Kind L) (lines : List L) → All (InRange kind) lines → (pos 0 ≤ℤ weighted_sum kind lines) × (weighted_sum kind lines ≤ℤ pos (100000 * weights kind lines))
sum_between kind lines all =
    let b = between kind 0 100000 lines (All-weaker (InRange kind) (Priced kind (pos 0) (pos 100000)) (λ line h. (h.low, h.high)) lines all) in
    (omega (arith, ints), b.1)

pub weights_high : {L : Type 0} (kind : Kind L) (lines : List L) → All (InRange kind) lines → weights kind lines ≤ length lines * kind.most
unfolding weights
weights_high kind lines all = sum_by-le kind.weight kind.most lines (All-weaker (InRange kind) (λ line. kind.weight line ≤ kind.most) (λ line h. h.most) lines all)

pub weights_low : {L : Type 0} (kind : Kind L) (lines : List L) → 0 < length lines → All (InRange kind) lines → 1 ≤ weights kind lines
unfolding weights
weights_low kind [] h all = absurd (omega arith)
weights_low kind (line ∷ lines) h all = let s = sum_by-cons kind.weight line lines in let k = (All-head (InRange kind) line lines all).some in omega arith

pub right_count : {L : Type 0} (lines : List L) → wrong_count lines ≡ false → (0 < length lines) × (length lines ≤ 64)
unfolding wrong_count
right_count lines e = (grind (arith, nat_tests), grind (arith, nat_tests))

-- a list that no check refuses is lawful
pub lawful_list : {L : Type 0} (kind : Kind L) (lines : List L) → ◌≡◌ {A = Result (Unit {0}) Refusal} (Ok tt) (answer_unless (first (lines_checks kind lines)) tt) → Lawful kind lines
lawful_list kind lines e = (grind arith, grind arith)

-- what the sums of a list in range stay below
pub record Small {L : Type 0} (kind : Kind L) (lines : List L) : Type 0 where
  pub low : pos 0 ≤ℤ weighted_sum kind lines
  pub high : weighted_sum kind lines ≤ℤ pos 64000000000000
  pub light : weights kind lines ≤ 640000000

pub small : {L : Type 0} (kind : Kind L) (lines : List L) → kind.most ≤ 10000000 → Lawful kind lines → Small kind lines
small kind lines most lawful =
    let all = all_in_range kind lines lawful.1 in
    let b = sum_between kind lines all in
    let w = weights_high kind lines all in
    let m = mul-le (length lines) kind.most 64 10000000 (right_count lines lawful.0).1 most in
    let light : weights kind lines ≤ 640000000 = omega arith in
    record { low = b.0; high = omega (arith, ints, b.1, light); light = light }

-- what a line adds to the weighted sum
abbrev pub product : {L : Type 0} → Kind L → L → ℤ
product kind line = pos (kind.weight line) *ℤ kind.price line

-- what each adds is small
pub products_small : {L : Type 0} (kind : Kind L) (lines : List L) → kind.most ≤ 10000000 → Lawful kind lines → All (λ line. nat_abs (product kind line) ≤ 1000000000000) lines
products_small kind lines most lawful =
    All-weaker (InRange kind) (λ line. nat_abs (product kind line) ≤ 1000000000000)
    (λ line h.
    let p = one (kind.weight line) 0 100000 (kind.price line) h.low h.high in
    let w = h.most in
    omega (arith, ints, p.0, p.1)) lines (all_in_range kind lines lawful.1)
