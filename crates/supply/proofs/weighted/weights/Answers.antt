use Rattle.std.proofs.Common.{arith, rules, tests}
use Rattle.std.proofs.lemmas.Iterator.{YieldsList-from_map, YieldsList-from_slice}
use Rattle.std.proofs.lemmas.Iterator.Consumers.{YieldsList-at, fits_by_from_yields_list}
use Rattle.supply.specs.Kinds.{weights}
use Rattle.supply.proofs.Lists.{small}
use Rattle.supply.proofs.weighted.weights.Goals as goal

pub sum-requires-clause-fits : goal.sum-requires-clause-fits
unfolding weights
sum-requires-clause-fits g c =
    let kind = g.L.Weighted.kind in
    let s = small kind c.args.lines.now g.met.L.Weighted.small c.requires in
    fits_by_from_yields_list kind.weight c.args.lines.now c.map.result _
    (YieldsList-from_map _ kind.weight (YieldsList-at c.map.ensures.source (YieldsList-from_slice c.args.lines.now (cc))) c.map.ensures.closure (λ x r q k. search (rules, tests)))
    (omega arith)
