-- What the checks of a period say of it, one hour at a time and as a whole.
use Rattle.std.proofs.Common.{◌≡◌, ℕ, ◌+◌, ◌≤◌, All, List, [], ◌∷◌, length, drop, pos, neg_ℤ, Some, None, Ok, Err, Option, refl, ◌∙◌, arith, length-drop, length-take, int_lt}
use Rattle.std.proofs.lemmas.Bool.{or_parts}
use Rattle.std.proofs.lemmas.Int.{ints}
use Rattle.std.proofs.lemmas.List.Elements.{All-cons, All-from_get_or, All-get_or, All-head, All-nil, All-tail}
use Rattle.refusals.specs.Checks.{first, answer_unless}
use Rattle.refusals.proofs.Passed.{passed, none_refuses}
use Rattle.designs.specs.declared.hours.Hour.{Hour}
use Rattle.designs.specs.declared.refusal.PeriodRefusal.{PeriodRefusal}
use Rattle.designs.specs.Cutting.{hour_checks, period_checks, part_of, Unlawful}
use Rattle.designs.specs.Periods.{Lawful, LawfulHour, no_hour}

-- what the checks of the hours from a place on refuse
abbrev pub refused_from : ℕ → List Hour → Option PeriodRefusal
refused_from place hours = first (hour_checks place hours)

-- an hour in range passes
pub hour_passed : (place : ℕ) (h : Hour) (rest : List Hour) → LawfulHour h → refused_from place (h ∷ rest) ≡ refused_from (place + 1) rest
hour_passed place h rest lawful = grind (arith, ints)

-- hours in range are those that pass
pub all_pass : (place : ℕ) (hours : List Hour) → All LawfulHour hours → refused_from place hours ≡ None
all_pass place [] all = refl
all_pass place (h ∷ hours) all = hour_passed place h hours (All-head LawfulHour h hours all) ∙ all_pass (place + 1) hours (All-tail LawfulHour h hours all)

pub pass_all : (place : ℕ) (hours : List Hour) → refused_from place hours ≡ None → All LawfulHour hours
pass_all place [] none = All-nil LawfulHour
pass_all place (h ∷ hours) none =
    let each = passed (hour_checks place (h ∷ hours)) none in
    let price = or_parts (int_lt h.price.0 (neg_ℤ (pos 100000))) (int_lt (pos 400000) h.price.0) each.1.0 in
    All-cons LawfulHour h hours (grind arith, grind (arith, ints), grind (arith, ints)) (pass_all (place + 1) hours (none_refuses (hour_checks (place + 1) hours) each.1.1))

-- hours in range, at each place
pub each_lawful : (period : List Hour) → Lawful period → All LawfulHour period
each_lawful period lawful = All-from_get_or LawfulHour period no_hour lawful.2

module _ (held : List Hour) (start count : ℕ) where
  part_length : start + count ≤ length held → length (part_of held start count) ≡ count
  part_length within = omega (arith, length-take count (drop start held), length-drop start held)

  module _ (some : count ≡ 0 → ⊥) (few : count ≤ 840) (within : start + count ≤ length held) where
    -- where the number of hours is right and all are held, the hours decide
    pub by_hours : first (period_checks held start count) ≡ refused_from 0 (part_of held start count)
    by_hours = grind arith

    pub hours_refused : (x : PeriodRefusal) → refused_from 0 (part_of held start count) ≡ Some x → (first (period_checks held start count) ≡ Some x) × Unlawful held start count
    hours_refused x e =
        (by_hours ∙ e, λ _ lawful. let none = all_pass 0 (part_of held start count) (each_lawful (part_of held start count) lawful) in grind arith)

    pub hours_lawful : refused_from 0 (part_of held start count) ≡ None → (first (period_checks held start count) ≡ None) × Lawful (part_of held start count)
    hours_lawful e =
        let l = part_length within in
        let all = pass_all 0 (part_of held start count) e in
        (by_hours ∙ e, (omega arith, omega arith, λ place h. All-get_or LawfulHour (part_of held start count) place no_hour h all))

-- a list of checks that answers has refused nothing, and one that refuses has its refusal
pub answered : {A : Type 0} (o : Option PeriodRefusal) (x : A) → Ok x ≡ answer_unless o x → o ≡ None
answered None x e = refl
answered (Some r) x e = cc

pub told : {A : Type 0} (o : Option PeriodRefusal) (x : A) (r : PeriodRefusal) → Err r ≡ answer_unless o x → o ≡ Some r
told None x r e = cc
told (Some r') x r e = cc
