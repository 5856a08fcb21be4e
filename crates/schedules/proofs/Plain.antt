-- A flat design that has a cost component and nothing else.
use Rattle.std.proofs.Common.{◌≡◌, ℕ, ◌+◌, ◌*◌, pos, ap, ◌∙◌, arith}
use Rattle.rounding.proofs.Near.{half_up_is, rate_of_size}
use Rattle.designs.specs.Flat.{ptc_current}

cost_alone : (cost : ℕ) → ptc_current cost 10000 0 0 ≡ pos cost
unfolding ptc_current
cost_alone cost =
    let n = cost * 10000 + 10000 * (0 + 0) in
    rate_of_size n 10000 ∙ ap pos (half_up_is n 10000 cost (omega arith) (omega arith) (omega arith))

-- its PTC_Current is the cost component
pub plain : (cost loss adm nits : ℕ) → pos loss ≡ pos 10000 → pos adm ≡ pos 0 → pos nits ≡ pos 0 → ptc_current cost loss adm nits ≡ pos cost
plain cost loss adm nits l a n = let e = cost_alone cost in cc
