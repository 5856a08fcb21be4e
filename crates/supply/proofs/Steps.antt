-- What the functions of a schedule work, step by step, in the machine's widths.
use Rattle.std.proofs.Common.{◌≡◌, ℕ, ◌+◌, ◌*◌, ◌≤◌, false, List, length, ℤ, pos, ◌+ℤ◌, ◌*ℤ◌, fold, Ok, Result, arith, to_z-of_z, w64, SFits}
use Rattle.std.specs.Int.{w128}
use Rattle.std.specs.List.{list_any}
use Rattle.std.proofs.lemmas.Int.{ints}
use Rattle.refusals.specs.Checks.{answer_unless, first}
use Rattle.rounding.specs.Rounding.{rate_rounded}
use Rattle.rounding.proofs.Sums.{sum_from}
use Rattle.rounding.proofs.Widths.{in64, in128}
use Rattle.supply.specs.declared.blocks.Block.{Block}
use Rattle.supply.specs.declared.refusal.Refusal.{Refusal}
use Rattle.supply.specs.declared.terms.Seasons.{Seasons}
use Rattle.supply.specs.declared.tranches.Tranche.{Tranche}
use Rattle.supply.specs.Figures.{price_out, printed_out, share_out}
use Rattle.supply.specs.Kinds.{AmongPrices, Lawful, lines_checks, weighted_sum, weights}
use Rattle.supply.specs.Lines.{a_block, a_tranche}
use Rattle.supply.specs.Schedule.{block_average, part_of, season_weight, subtotal_of, tranche_average}
use Rattle.supply.specs.Terms.{seasons_out}
use Rattle.supply.proofs.Bits.{Narrow, narrow, product_fits, product_is}
use Rattle.supply.proofs.Figured.{Between, prices_inside, printed_inside, share_inside}
use Rattle.supply.proofs.Lists.{all_in_range, lawful_list, one, right_count, small, weights_low}
use Rattle.supply.proofs.Sizes.{block_average_between, in_season, mean_among, part_between, season_weight_between, summed, tranche_average_between}

-- a share of a price as the code works it
module _ (price share : ℤ) (p : printed_out price ≡ false) (s : share_out share ≡ false) where
  pub part_worked : (rate_rounded (in128 (in128 share *ℤ in128 price)) 10000 ≡ part_of price share) × Narrow (part_of price share)
  unfolding part_of
  part_worked =
      let product = product_is share price 1000000 (share_inside share s) (printed_inside price p) (omega arith) in
      let b = part_between price share 1000000 (printed_inside price p) (share_inside share s) in
      (cc, narrow (part_of price share) (b.0, omega (arith, ints)))

pub ruleset part_steps = (to_z-of_z, part_worked)

-- the seasons' weight as the code works it
pub seasons_worked : (seasons : Seasons) → seasons_out seasons ≡ false
    → in128 (in128 (pos seasons.summer.months *ℤ in64 seasons.summer.factor) +ℤ in128 (pos seasons.winter.months *ℤ in64 seasons.winter.factor))
    ≡ season_weight seasons
unfolding season_weight
seasons_worked seasons e =
    let s = in_season seasons e in
    let three = s.months in
    let f : in64 seasons.summer.factor ≡ seasons.summer.factor = omega (arith, ints, s.summer.0, s.summer.1) in
    let g : in64 seasons.winter.factor ≡ seasons.winter.factor = omega (arith, ints, s.winter.0, s.winter.1) in
    let x = one seasons.summer.months 50 200 seasons.summer.factor s.summer.0 s.summer.1 in
    let y = one seasons.winter.months 50 200 seasons.winter.factor s.winter.0 s.winter.1 in
    rw (f, g) (omega (arith, ints, x.0, x.1, y.0, y.1))

-- the average price of tranches as the code works it
module _ (tranches : List Tranche) (passed : ◌≡◌ {A = Result (Unit {0}) Refusal} (Ok tt) (answer_unless (first (lines_checks a_tranche tranches)) tt)) where
  tranches_lawful : Lawful a_tranche tranches
  tranches_lawful = lawful_list a_tranche tranches passed

  pub tranches_weigh : (1 ≤ weights a_tranche tranches) × (weights a_tranche tranches ≤ 640000000)
  tranches_weigh =
      (weights_low a_tranche tranches (right_count tranches tranches_lawful.0).0 (all_in_range a_tranche tranches tranches_lawful.1), (small a_tranche tranches (omega arith) tranches_lawful).light)

  sum : Between 0 64000000000000 (weighted_sum a_tranche tranches)
  sum = let x = small a_tranche tranches (omega arith) tranches_lawful in (x.low, x.high)

  module _ (seasons : Seasons) (s : seasons_out seasons ≡ false) where
    season : Between 0 10000 (season_weight seasons)
    season = let b = season_weight_between seasons (in_season seasons s) in (b.0, omega (arith, ints))

    pub tranches_fit : SFits w128 (in128 (season_weight seasons) *ℤ in128 (weighted_sum a_tranche tranches))
    tranches_fit = product_fits (season_weight seasons) (weighted_sum a_tranche tranches) 64000000000000 season sum (omega arith)

    pub tranches_worked : (d : ℕ) → d ≡ 300 * weights a_tranche tranches
        → (rate_rounded (in128 (in128 (season_weight seasons) *ℤ in128 (weighted_sum a_tranche tranches))) d
        ≡ tranche_average tranches seasons) × Narrow (tranche_average tranches seasons)
    unfolding tranche_average
    tranches_worked d e =
        let p = product_is (season_weight seasons) (weighted_sum a_tranche tranches) 64000000000000 season sum (omega arith) in
        let b = tranche_average_between tranches seasons tranches_lawful s in
        (cc, narrow (tranche_average tranches seasons) (b.0, omega (arith, ints)))

pub ruleset tranche_steps = (tranches_weigh, tranches_fit, tranches_worked)

-- the average price of blocks as the code works it
module _ (blocks : List Block) (passed : ◌≡◌ {A = Result (Unit {0}) Refusal} (Ok tt) (answer_unless (first (lines_checks a_block blocks)) tt)) where
  lawful : Lawful a_block blocks
  lawful = lawful_list a_block blocks passed

  pub blocks_weigh : 1 ≤ weights a_block blocks
  blocks_weigh = weights_low a_block blocks (right_count blocks lawful.0).0 (all_in_range a_block blocks lawful.1)

  pub blocks_worked : (rate_rounded (in128 (weighted_sum a_block blocks)) (weights a_block blocks) ≡ block_average blocks) × Narrow (block_average blocks)
  unfolding block_average
  blocks_worked =
      let x = small a_block blocks (omega arith) lawful in
      let same : in128 (weighted_sum a_block blocks) ≡ weighted_sum a_block blocks = omega (arith, ints, x.low, x.high) in
      let b = block_average_between blocks lawful in
      (cc, narrow (block_average blocks) (b.0, omega (arith, ints)))

  pub blocks_among : AmongPrices a_block blocks (block_average blocks)
  unfolding block_average
  blocks_among = mean_among a_block blocks lawful

pub ruleset block_steps = (blocks_weigh, blocks_worked)

-- two parts and the adders' sum as the code adds them
pub record Subtotal (fixed variable sum : ℤ) (adders : List ℤ) : Type 0 where
  pub fits : SFits w64 (in64 (in64 fixed +ℤ in64 variable) +ℤ in64 sum)
  pub is : in64 (in64 (in64 fixed +ℤ in64 variable) +ℤ in64 sum) ≡ subtotal_of fixed variable adders

pub subtotal_worked : (fixed variable sum : ℤ) (adders : List ℤ) → printed_out fixed ≡ false → printed_out variable ≡ false → list_any price_out adders ≡ false → length adders ≡ 3
    → sum ≡ fold ◌+ℤ◌ (pos 0) adders → Subtotal fixed variable sum adders
unfolding subtotal_of
subtotal_worked fixed variable sum adders f v prices three e =
    let x = printed_inside fixed f in
    let y = printed_inside variable v in
    let b = summed 0 (pos 0) adders (omega (arith, ints), omega (arith, ints)) (prices_inside adders prices) in
    let z : Between 0 300000 sum = rw e (b.0, omega (arith, ints, b.1)) in
    let whole : in64 (in64 (in64 fixed +ℤ in64 variable) +ℤ in64 sum) ≡ fixed +ℤ variable +ℤ sum = omega (arith, ints, x.0, x.1, y.0, y.1, z.0, z.1) in
    record { fits = omega (arith, ints, x.0, x.1, y.0, y.1, z.0, z.1); is = cc (whole, e, sum_from (fixed +ℤ variable) adders) }
