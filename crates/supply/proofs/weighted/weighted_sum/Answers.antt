use Rattle.std.proofs.Common.{◌∙◌, arith, rules, tests, to_z-of_z, SFits}
use Rattle.std.specs.Int.{w128}
use Rattle.std.proofs.lemmas.Int.{ints}
use Rattle.std.proofs.lemmas.Iterator.{YieldsList-from_map, YieldsList-from_slice}
use Rattle.std.proofs.lemmas.Iterator.Consumers.{YieldsList-at}
use Rattle.rounding.proofs.Sums.{mapped_sum, mapped_sums_fit}
use Rattle.supply.specs.Kinds.{weighted_sum}
use Rattle.supply.proofs.Lists.{product, products_small, right_count}
use Rattle.supply.proofs.weighted.weighted_sum.Goals as goal

pub sum-requires-clause-fits : goal.sum-requires-clause-fits
sum-requires-clause-fits g c =
    let kind = g.L.Weighted.kind in
    let lines = c.args.lines.now in
    let few = (right_count lines c.requires.0).1 in
    mapped_sums_fit (product kind) lines c.map.result
    (YieldsList-from_map _ (product kind) (YieldsList-at c.map.ensures.source (YieldsList-from_slice lines cc)) c.map.ensures.closure (λ x r q k. search (rules, tests)))
    (SFits w128) 1000000000000 (λ z h. omega (arith, ints)) (products_small kind lines g.met.L.Weighted.small c.requires)

pub returns : goal.returns
unfolding weighted_sum
returns g c =
    let kind = g.L.Weighted.kind in
    let lines = c.args.lines.now in
    to_z-of_z {w = w128} {z = c.sum.result} (record { sfits = c.sum.type_inv })
    ∙ mapped_sum (product kind) lines c.map.result
    (YieldsList-from_map _ (product kind) (YieldsList-at c.map.ensures.source (YieldsList-from_slice lines cc)) c.map.ensures.closure (λ x r q k. search (rules, tests)))
    c.sum.result c.sum.ensures.ran
