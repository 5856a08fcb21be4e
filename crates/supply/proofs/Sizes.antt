-- Every line of a lawful schedule is in range.
use Rattle.std.proofs.Common.{◌≡◌, ℕ, suc, ◌+◌, ◌*◌, ◌<◌, ◌≤◌, false, List, [], ◌∷◌, length, ℤ, pos, negsuc, ◌+ℤ◌, ◌-ℤ◌, ◌*ℤ◌, fold, ⊎_elim, arith}
use Rattle.std.specs.List.{All}
use Rattle.std.proofs.lemmas.Int.{ints}
use Rattle.std.proofs.lemmas.Nat.{mul-le}
use Rattle.std.proofs.lemmas.List.Elements.{All-head, All-tail}
use Rattle.std.proofs.lemmas.Bool.{cases_lt}
use Rattle.std.proofs.lemmas.Bool.Decides.{nat_tests}
use Rattle.rounding.specs.Rounding.{half_up, rate_rounded}
use Rattle.rounding.proofs.Gaps.{gap_out}
use Rattle.rounding.proofs.Near.{rate_bound, rate_near, rate_of_size}
use Rattle.supply.specs.declared.blocks.Block.{Block}
use Rattle.supply.specs.declared.tranches.Tranche.{Tranche}
use Rattle.supply.specs.declared.terms.Seasons.{Seasons}
use Rattle.supply.specs.Kinds.{Kind, AmongPrices, Lawful, weighted_sum, weights}
use Rattle.supply.specs.Lines.{a_block, a_tranche}
use Rattle.supply.specs.Schedule.{block_average, part_of, rest_of, season_weight, tranche_average}
use Rattle.supply.specs.Terms.{seasons_out}
use Rattle.supply.proofs.Figured.{Between, factor_inside}
use Rattle.supply.proofs.Lists.{InRange, Priced, all_in_range, between, one, right_count, sum_between, weights_low}

-- a number from low × d to high × d, over d and rounded, lies from low to high
pub rounded_between : (z : ℤ) (d low high : ℕ) → 0 < d → Between (low * d) (high * d) z → Between low high (rate_rounded z d)
rounded_between (negsuc n) d low high h b = absurd (omega (arith, ints, b.0))
rounded_between (pos n) d low high h b =
    let r = half_up n d in
    let e = rate_of_size n d in
    let top : r ≤ high = rw e at (rate_bound (pos n) d high h (omega (arith, ints, b.1))) in
    let near = gap_out d (pos n) (pos (r * d)) (rw e at (rate_near (pos n) d h)) in
    let bottom : low ≤ r =
    ⊎_elim (λ l. let m = mul-le (suc r) d low d l (omega arith) in absurd (omega (arith, ints, b.0, near.0))) (λ l. l) (cases_lt r low) in
    rw e (omega (arith, ints), omega (arith, ints))

pub product_between : (a b : ℤ) (m n : ℕ) → Between 0 m a → Between 0 n b → Between 0 (m * n) (a *ℤ b)
product_between (pos x) (pos y) m n h k = let p = mul-le x y m n (omega (arith, ints)) (omega (arith, ints)) in (omega (arith, ints), omega (arith, ints))
product_between (pos x) (negsuc y) m n h k = absurd (omega (arith, ints))
product_between (negsuc x) b m n h k = absurd (omega (arith, ints))

pub part_between : (price share : ℤ) (k : ℕ) → Between 0 k price → Between 0 10000 share → Between 0 k (part_of price share)
unfolding part_of
part_between price share k p s =
    let b = product_between share price 10000 k s p in
    rounded_between (share *ℤ price) 10000 0 k (omega arith) (omega (arith, ints, b.0), omega (arith, ints, b.1))

pub complement : (share : ℤ) → Between 0 10000 share → Between 0 10000 (pos 10000 -ℤ share)
complement share s = (omega (arith, ints), omega (arith, ints))

pub rest_between : (price share : ℤ) (k : ℕ) → Between 0 k price → Between 0 10000 share → Between 0 k (rest_of price share)
unfolding rest_of
rest_between price share k p s = part_between price (pos 10000 -ℤ share) k p (complement share s)

pub block_average_between : (blocks : List Block) → Lawful a_block blocks → Between 0 100000 (block_average blocks)
unfolding block_average
block_average_between blocks lawful =
    let all = all_in_range a_block blocks lawful.1 in
    let some = weights_low a_block blocks (right_count blocks lawful.0).0 all in
    let b = sum_between a_block blocks all in
    rounded_between (weighted_sum a_block blocks) (weights a_block blocks) 0 100000 some (omega (arith, ints, b.0), b.1)

-- the parts of what the seasons' test says
pub record InSeason (seasons : Seasons) : Type 0 where
  pub summer : Between 50 200 seasons.summer.factor
  pub winter : Between 50 200 seasons.winter.factor
  pub months : seasons.summer.months + seasons.winter.months ≡ 3

pub in_season : (seasons : Seasons) → seasons_out seasons ≡ false → InSeason seasons
unfolding seasons_out
in_season seasons e =
    record { summer = factor_inside seasons.summer.factor (grind arith); winter = factor_inside seasons.winter.factor (grind arith); months = grind (arith, nat_tests) }

pub season_weight_between : (seasons : Seasons) → InSeason seasons → Between 0 600 (season_weight seasons)
unfolding season_weight
season_weight_between seasons s =
    let x = one seasons.summer.months 50 200 seasons.summer.factor s.summer.0 s.summer.1 in
    let y = one seasons.winter.months 50 200 seasons.winter.factor s.winter.0 s.winter.1 in
    let three = s.months in
    (omega (arith, ints, x.0, y.0), omega (arith, ints, x.1, y.1))

-- what is over 300 times the weights in line 1
pub seasoned_between : (tranches : List Tranche) (seasons : Seasons) → Lawful a_tranche tranches → seasons_out seasons ≡ false
    → Between 0 (600 * (100000 * weights a_tranche tranches)) (season_weight seasons *ℤ weighted_sum a_tranche tranches)
seasoned_between tranches seasons lawful e =
    product_between (season_weight seasons) (weighted_sum a_tranche tranches) 600 (100000 * weights a_tranche tranches)
    (season_weight_between seasons (in_season seasons e)) (sum_between a_tranche tranches (all_in_range a_tranche tranches lawful.1))

pub tranche_average_between : (tranches : List Tranche) (seasons : Seasons) → Lawful a_tranche tranches → seasons_out seasons ≡ false
    → Between 0 200000 (tranche_average tranches seasons)
unfolding tranche_average
tranche_average_between tranches seasons lawful e =
    let some = weights_low a_tranche tranches (right_count tranches lawful.0).0 (all_in_range a_tranche tranches lawful.1) in
    let b = seasoned_between tranches seasons lawful e in
    rounded_between (season_weight seasons *ℤ weighted_sum a_tranche tranches) (300 * weights a_tranche tranches) 0 200000 (omega arith)
    (omega (arith, ints, b.0), omega (arith, ints, b.1))

pub summed : (k : ℕ) (a : ℤ) (adders : List ℤ) → Between 0 k a → All (Between 0 100000) adders → Between 0 (k + 100000 * length adders) (fold ◌+ℤ◌ a adders)
summed k a [] b all = (b.0, omega (arith, ints, b.1))
summed k a (adder ∷ adders) b all =
    let x = All-head (Between 0 100000) adder adders all in
    let rest = summed (k + 100000) (a +ℤ adder) adders (omega (arith, ints), omega (arith, ints)) (All-tail (Between 0 100000) adder adders all) in
    (rest.0, omega (arith, ints, rest.1))

-- the average of a lawful list lies among its prices

none_below : {L : Type 0} (kind : Kind L) (lines : List L) (low : ℤ) (n : ℕ) → 0 < length lines → All (InRange kind) lines → All (Priced kind low (negsuc n)) lines → ⊥
none_below kind [] low n h all given = omega arith
none_below kind (line ∷ lines) low n h all given =
    let x = (All-head (InRange kind) line lines all).low in
    let y = All-head (Priced kind low (negsuc n)) line lines given in
    omega (arith, ints, x, y.1)

pub mean_among : {L : Type 0} (kind : Kind L) (lines : List L) → Lawful kind lines → AmongPrices kind lines (rate_rounded (weighted_sum kind lines) (weights kind lines))
mean_among {L = L} kind lines lawful = go
  where
    some : 0 < length lines
    some = (right_count lines lawful.0).0

    all : All (InRange kind) lines
    all = all_in_range kind lines lawful.1

    mean_between : (low high : ℕ) → All (Priced kind (pos low) (pos high)) lines → Between low high (rate_rounded (weighted_sum kind lines) (weights kind lines))
    mean_between low high given =
        rounded_between (weighted_sum kind lines) (weights kind lines) low high (weights_low kind lines some all) (between kind low high lines given)

    go : AmongPrices kind lines (rate_rounded (weighted_sum kind lines) (weights kind lines))
    go low (negsuc high) given = absurd (none_below kind lines low high some all given)
    go (pos low) (pos high) given = mean_between low high given
    go (negsuc low) (pos high) given =
        let b = mean_between 0 high (λ k d lt. ((all k d lt).low, (given k d lt).1)) in
        (omega (arith, ints, b.0), b.1)
