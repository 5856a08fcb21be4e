-- The kinds of cost.
use Rattle.std.specs.Prelude.{ℕ, ◌≤◌}
use Rattle.account.specs.declared.kinds.CostKind.{CostKind}
use Rattle.account.specs.declared.kinds.CostKind.TheVariants.{Startup, Supply, BlockSpot, Pjm, Transmission, Admin, Credit, Other}

-- The number of a kind.
abbrev pub kind_number : CostKind → ℕ
kind_number Startup = 1
kind_number Supply = 2
kind_number BlockSpot = 3
kind_number Pjm = 4
kind_number Transmission = 5
kind_number Admin = 6
kind_number Credit = 7
kind_number Other = 8

-- The numbers of kinds are 1 to 8.
abbrev pub KindRange : ℕ → Type 0
KindRange number = (1 ≤ number) × (number ≤ 8)
