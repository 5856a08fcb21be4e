use Rattle.std.proofs.Common.{◌≡◌, nat_abs, ap, rules}
use Rattle.schedules.specs.Rates.{current_of, rate_worked}
use Rattle.schedules.proofs.rate_page.RatePage.worked.Goals as goal

-- PTC_Current, by the figures as the page has them
current : (c : goal.In_ok-with_tax-3) → c.ptc_current.result.0 ≡ current_of c.args.self.now.figures
current c =
    let is = c.in_ok-new.ensures.0 in
    cc (ap nat_abs is.0, ap nat_abs is.1, ap nat_abs is.2, ap nat_abs is.3, c.ptc_current.ensures.value)

pub returns : goal.returns
unfolding rate_worked
returns c = let first = current c in search rules
