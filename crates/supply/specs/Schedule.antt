-- The lines of a supply schedule in cents per MWh, each rounded and then used as printed, and when they are refused.
use Rattle.std.specs.Prelude.{◌≡◌, ◌*◌, ◌||◌, List, [], ◌∷◌, ◌++◌, ℤ, pos, ◌+ℤ◌, ◌-ℤ◌, ◌*ℤ◌, Ok, fold, Result}
use Rattle.std.specs.List.{list_any}
use Rattle.refusals.specs.Checks.{Checks, answer_unless, first}
use Rattle.rounding.specs.Rounding.{rate_rounded}
use Rattle.supply.specs.declared.blocks.Block.{Block}
use Rattle.supply.specs.declared.tranches.Tranche.{Tranche}
use Rattle.supply.specs.declared.refusal.Refusal.{Refusal}
use Rattle.supply.specs.declared.refusal.Refusal.TheVariants.{LineCount, LineOutOfRange, TermOutOfRange}
use Rattle.supply.specs.declared.schedule.SupplyLines.{SupplyLines}
use Rattle.supply.specs.declared.terms.Seasons.{Seasons}
use Rattle.supply.specs.declared.terms.Terms.{Terms}
use Rattle.supply.specs.Figures.{price_out, printed_out, share_out}
use Rattle.supply.specs.Kinds.{lines_checks, some_out, weighted_sum, weights, wrong_count}
use Rattle.supply.specs.Lines.{a_block, a_tranche}
use Rattle.supply.specs.Terms.{seasons_out, terms_out}

-- The seasons' weight: factor × months, summed over the two seasons.
unfoldable pub season_weight : Seasons → ℤ
season_weight seasons =
    pos seasons.summer.months *ℤ seasons.summer.factor +ℤ pos seasons.winter.months *ℤ seasons.winter.factor

-- Line 1: the sum of count × price, × the seasons' weight, ÷ (300 × the sum of counts).
unfoldable pub tranche_average : List Tranche → Seasons → ℤ
tranche_average tranches seasons =
    rate_rounded (season_weight seasons *ℤ weighted_sum a_tranche tranches) (300 * weights a_tranche tranches)

-- Line 3: the sum of MWh × price, ÷ the sum of MWh.
unfoldable pub block_average : List Block → ℤ
block_average blocks = rate_rounded (weighted_sum a_block blocks) (weights a_block blocks)

-- Lines 2 and 4: a share of a price.
unfoldable pub part_of : ℤ → ℤ → ℤ
part_of price share = rate_rounded (share *ℤ price) 10000

-- Lines 4 and 6: what the share leaves of a price, price × (1 − share).
unfoldable pub rest_of : ℤ → ℤ → ℤ
rest_of price share = part_of price (pos 10000 -ℤ share)

-- Line 5: the two parts of line 4 and the adders.
unfoldable pub subtotal_of : ℤ → ℤ → List ℤ → ℤ
subtotal_of fixed variable adders = fold ◌+ℤ◌ (fixed +ℤ variable) adders

-- All lines; the last, line 7, is line 2 + line 6.
unfoldable pub lines_of : List Tranche → List Block → Terms → SupplyLines
lines_of tranches blocks terms =
    let line_1 = tranche_average tranches terms.seasons in
    let line_2 = part_of line_1 terms.tranche_share in
    let line_3 = block_average blocks in
    let fixed = part_of line_3 terms.fixed_share in
    let variable = rest_of terms.variable_price terms.fixed_share in
    let line_5 = subtotal_of fixed variable terms.adders in
    let line_6 = rest_of line_5 terms.tranche_share in
    record {
      tranche_average = line_1;
      tranche_part = line_2;
      block_average = line_3;
      fixed_part = fixed;
      variable_part = variable;
      block_subtotal = line_5;
      block_part = line_6;
      cost_component = line_2 +ℤ line_6;
    }

-- Line 1, by itself: the count of lines is checked first, then the lines, then the seasons.
abbrev pub tranche_average_answer : List Tranche → Seasons → Result ℤ Refusal
tranche_average_answer tranches seasons =
    answer_unless (first (lines_checks a_tranche tranches ++ (seasons_out seasons, TermOutOfRange) ∷ [])) (tranche_average tranches seasons)

-- Line 3, by itself: the count of lines is checked first, then the lines.
abbrev pub block_average_answer : List Block → Result ℤ Refusal
block_average_answer blocks =
    answer_unless (first (lines_checks a_block blocks)) (block_average blocks)

-- A share of a price is refused where the price is out of range, then where the share is.
abbrev pub share_checks : ℤ → ℤ → Checks Refusal
share_checks price share = (printed_out price, LineOutOfRange) ∷ (share_out share, TermOutOfRange) ∷ []

-- Lines 2 and 4, by themselves.
abbrev pub share_answer : ℤ → ℤ → Result ℤ Refusal
share_answer price share = answer_unless (first (share_checks price share)) (part_of price share)

-- Lines 4 and 6, by themselves.
abbrev pub rest_answer : ℤ → ℤ → Result ℤ Refusal
rest_answer price share = answer_unless (first (share_checks price share)) (rest_of price share)

-- Line 5, by itself: the two parts are checked first, then the adders.
abbrev pub subtotal_answer : ℤ → ℤ → List ℤ → Result ℤ Refusal
subtotal_answer fixed variable adders =
    answer_unless (first ((printed_out fixed || printed_out variable, LineOutOfRange) ∷ (list_any price_out adders, TermOutOfRange) ∷ []))
    (subtotal_of fixed variable adders)

-- Line 7, by itself: line 2 + line 6, each in range.
abbrev pub component_answer : ℤ → ℤ → Result ℤ Refusal
component_answer tranche_part block_part =
    answer_unless (first ((printed_out tranche_part || printed_out block_part, LineOutOfRange) ∷ [])) (tranche_part +ℤ block_part)

-- The checks of a whole sheet: both lists' counts, then the lines of both, then the terms.
abbrev pub sheet_checks : List Tranche → List Block → Terms → Checks Refusal
sheet_checks tranches blocks terms =
    (wrong_count tranches || wrong_count blocks, LineCount)
    ∷ (some_out a_tranche tranches || some_out a_block blocks, LineOutOfRange) ∷ (terms_out terms, TermOutOfRange) ∷ []

-- The whole schedule.
abbrev pub schedule_answer : List Tranche → List Block → Terms → Result SupplyLines Refusal
schedule_answer tranches blocks terms = answer_unless (first (sheet_checks tranches blocks terms)) (lines_of tranches blocks terms)

-- The lines are what the calls for single lines answer in a row, each worked from the lines above it as printed.
pub record LineByLine (tranches : List Tranche) (blocks : List Block) (terms : Terms) (lines : SupplyLines) : Type 0 where
  pub line_1 : tranche_average_answer tranches terms.seasons ≡ Ok lines.tranche_average
  pub line_2 : share_answer lines.tranche_average terms.tranche_share ≡ Ok lines.tranche_part
  pub line_3 : block_average_answer blocks ≡ Ok lines.block_average
  pub fixed : share_answer lines.block_average terms.fixed_share ≡ Ok lines.fixed_part
  pub variable : rest_answer terms.variable_price terms.fixed_share ≡ Ok lines.variable_part
  pub line_5 : subtotal_answer lines.fixed_part lines.variable_part terms.adders ≡ Ok lines.block_subtotal
  pub line_6 : rest_answer lines.block_subtotal terms.tranche_share ≡ Ok lines.block_part
  pub line_7 : component_answer lines.tranche_part lines.block_part ≡ Ok lines.cost_component
