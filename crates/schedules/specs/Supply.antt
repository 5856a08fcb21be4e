-- The lines of a supply schedule, each from the figures that the sheet prints above it.
use Rattle.std.specs.Prelude.{List, [], ◌∷◌, ◌++◌, ℤ, pos, ◌+ℤ◌, Some, None, Option}
use Rattle.supply.specs.declared.blocks.Block.{Block}
use Rattle.supply.specs.declared.tranches.Tranche.{Tranche}
use Rattle.supply.specs.declared.terms.Terms.{Terms}
use Rattle.supply.specs.Schedule.{block_average, lines_of, part_of, rest_of, subtotal_of, tranche_average}
use Rattle.schedules.specs.declared.comparison.Comparison.{Comparison}
use Rattle.schedules.specs.declared.comparison.Unit.TheVariants.{DollarsPerMwh}
use Rattle.schedules.specs.declared.line_name.LineName.TheVariants.{WorkedThrough}
use Rattle.schedules.specs.declared.supply_page.Blocks.{Blocks}
use Rattle.schedules.specs.declared.supply_page.Printed.{Printed}
use Rattle.schedules.specs.declared.supply_page.Rest.{Rest}
use Rattle.schedules.specs.declared.supply_page.Supplied.{Supplied}
use Rattle.schedules.specs.declared.supply_page.Supplied.TheVariants.{Hourly, InBlocks}
use Rattle.schedules.specs.declared.supply_page.SupplyPage.{SupplyPage}
use Rattle.schedules.specs.Comparisons.{line}

-- A line as printed, beside what is worked.
abbrev pub beside : Printed → ℤ → Comparison
beside printed worked = line printed.name DollarsPerMwh printed.price worked

-- The average price of the tranches, and their share of it as printed.
abbrev pub tranche_lines : SupplyPage → List Tranche → List Comparison
tranche_lines page tranches =
    beside page.tranche_average (tranche_average tranches page.seasons)
    ∷ beside page.tranche_part (part_of page.tranche_average.price page.tranche_share)
    ∷ []

-- The average price of the blocks, their share of it as printed, and what the share leaves of the hour's price.
abbrev pub block_lines : Blocks → List Block → List Comparison
block_lines bought blocks =
    beside bought.average (block_average blocks)
    ∷ beside bought.fixed (part_of bought.average.price bought.share)
    ∷ beside bought.variable (rest_of bought.hourly_price bought.share)
    ∷ []

-- The fixed and the variable part as printed.
abbrev pub fixed_part : Supplied → ℤ
fixed_part (Hourly price) = pos 0
fixed_part (InBlocks bought) = bought.fixed.price

abbrev pub variable_part : Supplied → ℤ
variable_part (Hourly price) = price
variable_part (InBlocks bought) = bought.variable.price

-- The two parts with the adders, and what the tranches' share leaves of that as printed.
abbrev pub rest_lines : SupplyPage → Rest → List Comparison
rest_lines page rest =
    beside rest.subtotal (subtotal_of (fixed_part rest.supplied) (variable_part rest.supplied) rest.adders)
    ∷ beside rest.part (rest_of rest.subtotal.price page.tranche_share)
    ∷ []

-- The part of the rest as printed, if there is a rest.
abbrev pub rest_part : Option Rest → ℤ
rest_part (Some rest) = rest.part.price
rest_part None = pos 0

-- The cost component: both parts as printed.
abbrev pub component_line : SupplyPage → Comparison
component_line page = beside page.cost_component (page.tranche_part.price +ℤ rest_part page.rest)

-- The terms of a whole schedule.
abbrev pub terms_of : SupplyPage → Rest → Blocks → Terms
terms_of page rest bought = record {
  seasons = page.seasons;
  tranche_share = page.tranche_share;
  fixed_share = bought.share;
  variable_price = bought.hourly_price;
  adders = rest.adders;
}

-- The cost component from the auction results straight down.
abbrev pub through_line : SupplyPage → Rest → Blocks → List Tranche → List Block → Comparison
through_line page rest bought tranches blocks =
    line WorkedThrough DollarsPerMwh page.cost_component.price (lines_of tranches blocks (terms_of page rest bought)).cost_component

-- The lines of the rest and of the cost component; where the rest is bought in blocks, the lines of the blocks before them, and the cost
-- component worked straight down after them.
abbrev pub bought_lines : SupplyPage → Rest → Supplied → List Comparison
bought_lines page rest (Hourly price) = rest_lines page rest ++ component_line page ∷ []
bought_lines page rest (InBlocks bought) =
    block_lines bought bought.blocks.now
    ++ rest_lines page rest
    ++ component_line page
    ∷ through_line page rest bought page.tranches.now bought.blocks.now
    ∷ []

-- What follows the lines of the tranches: the cost component alone where they supply the whole load.
abbrev pub lines_below : SupplyPage → Option Rest → List Comparison
lines_below page (Some rest) = bought_lines page rest rest.supplied
lines_below page None = component_line page ∷ []

-- The lines of a schedule, in the order of the sheet.
abbrev pub supply_lines : SupplyPage → List Comparison
supply_lines page = tranche_lines page page.tranches.now ++ lines_below page page.rest
