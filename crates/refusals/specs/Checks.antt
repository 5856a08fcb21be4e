-- Checks run in the order listed.
use Rattle.std.specs.Prelude.{Bool, cond, List, [], ◌∷◌, Some, None, Ok, Err, Option, Result}

-- A list of checks: each is a test, and the refusal that is told where the test is true.
abbrev pub Checks : Type 0 → Type 0
Checks R = List (Bool × R)

-- The first refusal whose test is true.
abbrev pub first : {R : Type 0} → Checks R → Option R
first [] = None
first (check ∷ rest) = cond check.0 (Some check.1) (first rest)

-- The answer, unless a check refuses.
abbrev pub answer_unless : {R A : Type 0} → Option R → A → Result A R
answer_unless None answer = Ok answer
answer_unless (Some refusal) answer = Err refusal

-- The answer and the state after it, unless a check refuses: then nothing changes.
abbrev pub unless : {R A S : Type 0} → Option R → A → S → S → Result A R × S
unless None answer before after = (Ok answer, after)
unless (Some refusal) answer before after = (Err refusal, before)
