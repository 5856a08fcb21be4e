-- What a list of checks says where none refuses, and where two lists are joined.
use Rattle.std.proofs.Common.{◌≡◌, Bool, true, false, cond, [], ◌∷◌, ◌++◌, Some, None, Ok, Err, Option, Result, refl, ap, ◌∙◌}
use Rattle.std.specs.List.{AllByRecursion}
use Rattle.refusals.specs.Checks.{Checks, first, unless}

-- each test is false
abbrev pub Passed : {R : Type 0} → Checks R → Type 0
Passed {R} checks = AllByRecursion (λ (check : Bool × R). check.0 ≡ false) checks

no_refusal : {R : Type 0} {x : R} {o : Option R} → Some x ≡ None → o ≡ None
no_refusal {R} {x} {o} e = let z : ◌≡◌ {A = Bool} true false = cc in cc

pub passed : {R : Type 0} (checks : Checks R) → first checks ≡ None → Passed checks
passed [] e = tt
passed (check ∷ rest) e = go check.0 refl e (passed rest)
  where
    go : (b : Bool) → check.0 ≡ b → cond b (Some check.1) (first rest) ≡ None → (first rest ≡ None → Passed rest) → (check.0 ≡ false) × Passed rest
    go true h none k = let z : ◌≡◌ {A = Bool} true false = cc in (h ∙ z, k (no_refusal none))
    go false h none k = (h, k none)

pub none_refuses : {R : Type 0} (checks : Checks R) → Passed checks → first checks ≡ None
none_refuses [] h = refl
none_refuses (check ∷ rest) h = ap (λ b. cond b (Some check.1) (first rest)) h.0 ∙ none_refuses rest h.1

-- where the first list refuses nothing, the second decides
pub after_passed : {R : Type 0} (front back : Checks R) → first front ≡ None → first (front ++ back) ≡ first back
after_passed [] back e = refl
after_passed (check ∷ rest) back e =
    let p = passed (check ∷ rest) e in
    ap (λ b. cond b (Some check.1) (first (rest ++ back))) p.0 ∙ after_passed rest back (none_refuses rest p.1)

-- What holds where a check refuses, and where none does, holds of the call.
pub by_checks : {R A S : Type 0} (P : Result A R × S → Type 0) (checks : Checks R) (answer : A) (before after : S)
    → ((refusal : R) → P (Err refusal, before)) → (Passed checks → P (Ok answer, after)) → P (unless (first checks) answer before after)
by_checks {R} P checks answer before after refused accepted = go (first checks) refl
  where
    go : (o : Option R) → first checks ≡ o → P (unless o answer before after)
    go None e = accepted (passed checks e)
    go (Some refusal) e = refused refusal
