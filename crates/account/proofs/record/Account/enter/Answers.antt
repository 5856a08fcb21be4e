use Rattle.std.proofs.Common.{ℕ, ◌<◌, ◌∙◌, List, get_or, set, arith, get_or-set_other, get_or-set_same, length-set}
use Rattle.std.proofs.lemmas.Int.{ints}
use Rattle.std.proofs.lemmas.List.{set_past}
use Rattle.std.proofs.lemmas.Bool.Decides.{nat_tests}
use Rattle.account.specs.declared.figures.CostLine.{CostLine}
use Rattle.account.specs.Lawful.{Fair, no_entries}
use Rattle.account.proofs.record.Account.enter.Goals as goal

-- an accepted cost keeps every line fair
fair_set : (lines : List CostLine) (i : ℕ) (line : CostLine) → Fair line → ((k : ℕ) → k < 8 → Fair (get_or lines k no_entries)) → (k : ℕ) → k < 8 → Fair (get_or (set lines i line) k no_entries)
fair_set lines i line fair all k h = let before = all k h in grind (arith, get_or-set_same, get_or-set_other, set_past)

pub invariant_of-self-2-clause-tidy : goal.invariant_of-self-2-clause-tidy
invariant_of-self-2-clause-tidy g c =
    let t = c.args.self.now.tidy in
    (fair_set _ _ _ (grind (arith, ints, t.0)) t.0, t.1, length-set _ _ _ ∙ t.2)

pub returns : goal.returns
returns g c = grind (arith, ints, nat_tests, c.args.self.now.tidy.0)
