-- The ranges of a schedule's terms.
use Rattle.std.specs.Prelude.{◌+◌, Bool, not, ◌||◌, ◌==◌}
use Rattle.std.specs.List.{list_any}
use Rattle.supply.specs.declared.terms.Seasons.{Seasons}
use Rattle.supply.specs.declared.terms.Terms.{Terms}
use Rattle.supply.specs.Figures.{factor_out, price_out, share_out}

-- A season's factor is out of range, or the months do not add to 3.
unfoldable pub seasons_out : Seasons → Bool
seasons_out seasons =
    factor_out seasons.summer.factor || (factor_out seasons.winter.factor || not (seasons.summer.months + seasons.winter.months == 3))

-- A share, a factor, the months, the variable price or an adder is out of range.
unfoldable pub terms_out : Terms → Bool
terms_out terms =
    share_out terms.tranche_share
    || (share_out terms.fixed_share || (seasons_out terms.seasons || (price_out terms.variable_price || list_any price_out terms.adders)))
