-- The two kinds of line.
use Rattle.supply.specs.declared.tranches.Tranche.{Tranche}
use Rattle.supply.specs.declared.blocks.Block.{Block}
use Rattle.supply.specs.Kinds.{Kind}

-- Tranches at one price, by their count, 1 to 100.
abbrev pub a_tranche : Kind Tranche
a_tranche = record { weight = λ tranche. tranche.count; price = λ tranche. tranche.price; most = 100 }

-- A block of energy, by its MWh, 1 to 10,000,000.
abbrev pub a_block : Kind Block
a_block = record { weight = λ block. block.mwh; price = λ block. block.price; most = 10000000 }
