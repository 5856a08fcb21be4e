-- Costs and bills of a month may come in any order.
use Rattle.std.proofs.Common.{◌≡◌, ℕ, ◌+◌, ◌-◌, ◌<◌, true, false, cond, ◌≢◌, List, [], ◌∷◌, length, get_or, set, ℤ, is_ok, Result, sym, refl, ap, ◌∙◌, subst, ⊎_elim, arith, leb-false}
use Rattle.std.specs.List.{AllByRecursion}
use Rattle.std.proofs.lemmas.Int.{ints}
use Rattle.std.proofs.lemmas.Bool.{lt-leb, both_ways}
use Rattle.std.proofs.lemmas.Bool.{cases_eq}
use Rattle.std.proofs.lemmas.List.Elements.{All-from_recursion, recursion_from_All}
use Rattle.std.proofs.lemmas.List.{set-set, set_comm, get_or-set_same, get_or-set_other}
use Rattle.refusals.specs.Checks.{Checks, first, unless}
use Rattle.refusals.proofs.Passed.{Passed, none_refuses, by_checks}
use Rattle.designs.specs.declared.hours.Hour.{Hour}
use Rattle.designs.specs.Cutting.{part_of}
use Rattle.designs.specs.Meanings.{Meaning}
use Rattle.account.specs.declared.answers.Billed.{Billed}
use Rattle.account.specs.declared.figures.CostLine.{CostLine}
use Rattle.account.specs.declared.figures.Figures.{Figures}
use Rattle.account.specs.declared.opening.Opening.{Opening}
use Rattle.account.specs.declared.refusal.Refusal.{Refusal}
use Rattle.account.specs.Lawful.{no_entries}
use Rattle.account.specs.Limits.{most_entries}
use Rattle.account.specs.Rules.{with_month, entered, cost_checks, costed, cost_rule, bill_told, bill_checks, billed_to, bill_rule, opened, open_checks, open_rule}
use Rattle.account.specs.Calls.{Call, rule, accepted, Step, History, Opens, LeadsTo}
use Rattle.account.specs.Calls.Call.{cost, bill, close, file, force, withdraw, read}
use Rattle.account.specs.Laws.{is_entry, Reordered, calls, Taken, TakenAt, others, Order}
use Rattle.account.specs.Laws.Reordered.{none, same, swapped, then}
use Rattle.account.proofs.Agree.{agree, in_range}
use Rattle.account.proofs.Joined.{had_room, where_room}

-- ---- two entries in the lines of a month

abbrev line_at : List CostLine → ℕ → CostLine
line_at lines i = get_or lines i no_entries

abbrev enter : List CostLine → ℕ → ℤ → List CostLine
enter lines i x = set lines i (entered (line_at lines i) x)

module _ (lines : List CostLine) (i j : ℕ) (x y : ℤ) (in-i : i < length lines) (in-j : j < length lines) where
  enter_swap : enter (enter lines j y) i x ≡ enter (enter lines i x) j y
  enter_swap = ⊎_elim alike apart (cases_eq i j)
    where
      twice : (line : CostLine) → entered (entered line y) x ≡ entered (entered line x) y
      twice line = ap (λ sum. record { count = line.count + 1 + 1; total = record { 0 = sum } }) (omega (arith, ints))

      here : (x y : ℤ) → enter (enter lines i y) i x ≡ set lines i (entered (entered (line_at lines i) y) x)
      here x y = set-set lines i _ _ ∙ ap (λ line. set lines i (entered line x)) (get_or-set_same lines i (entered (line_at lines i) y) no_entries in-i)

      alike : i ≡ j → enter (enter lines j y) i x ≡ enter (enter lines i x) j y
      alike e = subst (λ k. enter (enter lines k y) i x ≡ enter (enter lines i x) k y) e (here x y ∙ ap (set lines i) (twice (line_at lines i)) ∙ sym (here y x))

      apart : i ≢ j → enter (enter lines j y) i x ≡ enter (enter lines i x) j y
      apart n =
          ap (λ line. set (enter lines j y) i (entered line x)) (get_or-set_other lines j i (entered (line_at lines j) y) no_entries n)
          ∙ sym (set_comm lines i j _ _ n)
          ∙ ap (λ line. set (enter lines i x) j (entered line y)) (sym (get_or-set_other lines i j (entered (line_at lines i) x) no_entries (λ e. n (sym e))))

  -- where both lines had room one after the other, they have it in the other order
  room_swap : (n : ℕ) → (line_at lines j).count < n → (line_at (enter lines j y) i).count < n → ((line_at lines i).count < n) × ((line_at (enter lines i x) j).count < n)
  room_swap n room_j room_i = ⊎_elim alike apart (cases_eq i j)
    where
      alike : i ≡ j → ((line_at lines i).count < n) × ((line_at (enter lines i x) j).count < n)
      alike e =
          let p = ap (λ line. line.count) (get_or-set_same lines j (entered (line_at lines j) y) no_entries in-j) in
          let q = ap (λ line. line.count) (get_or-set_same lines j (entered (line_at lines j) x) no_entries in-j) in
          let r = subst (λ k. (line_at (enter lines j y) k).count < n) e room_i in
          subst (λ k. ((line_at lines k).count < n) × ((line_at (enter lines k x) j).count < n)) (sym e) (omega arith, omega arith)

      apart : i ≢ j → ((line_at lines i).count < n) × ((line_at (enter lines i x) j).count < n)
      apart k =
          let p = ap (λ line. line.count) (get_or-set_other lines j i (entered (line_at lines j) y) no_entries k) in
          let q = ap (λ line. line.count) (get_or-set_other lines i j (entered (line_at lines i) x) no_entries (λ e. k (sym e))) in
          (omega arith, omega arith)

-- ---- one cost or bill

-- A cost or a bill is accepted, and leaves these figures.
record Enters {D : Type 0} (m : D → Meaning) (f : Figures D) (call : Call D) (g : Figures D) : Type 0 where
  took : accepted call (rule m f call).0 ≡ true
  left : (rule m f call).1 ≡ g

not_refused : {R A S : Type 0} (checks : Checks R) (answer : A) (before after : S) → is_ok (unless (first checks) answer before after).0 ≡ true → Passed checks
not_refused {R} {A} {S} checks answer before after =
    by_checks (λ (r : Result A R × S). is_ok r.0 ≡ true → Passed checks) checks answer before after (λ _ e. absurd (both_ways false refl e)) (λ passed _. passed)

module _ {D : Type 0} (m : D → Meaning) (f : Figures D) where
  cost_enters : (kind : ℕ) (amount : ℤ) → Passed (cost_checks f.ledger.month kind amount) → Enters m f (cost kind amount) (costed f kind amount)
  cost_enters kind amount p =
      let e = ap (λ o. unless o tt f (costed f kind amount)) (none_refuses (cost_checks f.ledger.month kind amount) p) in
      record { took = ap (λ r. is_ok r.0) e; left = ap (λ r. r.1) e }

  cost_passed : (kind : ℕ) (amount : ℤ) → is_ok (cost_rule f kind amount).0 ≡ true → Passed (cost_checks f.ledger.month kind amount)
  cost_passed kind amount = not_refused (cost_checks f.ledger.month kind amount) tt f (costed f kind amount)

  module _ (held : List Hour) (start count : ℕ) where
    abbrev billed_now : Billed
    billed_now = bill_told m f (part_of held start count)

    bill_enters : Passed (bill_checks f.ledger.month held start count billed_now.amount.0) → Enters m f (bill held start count) (billed_to f billed_now)
    bill_enters p =
        let e = ap (λ o. unless o billed_now f (billed_to f billed_now)) (none_refuses (bill_checks f.ledger.month held start count billed_now.amount.0) p) in
        record { took = ap (λ r. is_ok r.0) e; left = ap (λ r. r.1) e }

    bill_passed : is_ok (bill_rule m f held start count).0 ≡ true → Passed (bill_checks f.ledger.month held start count billed_now.amount.0)
    bill_passed = not_refused (bill_checks f.ledger.month held start count billed_now.amount.0) billed_now f (billed_to f billed_now)

-- ---- two of them

-- They are accepted in this order too, and leave the same figures.
record Swaps {D : Type 0} (m : D → Meaning) (f : Figures D) (a b : Call D) : Type 0 where
  first_a : accepted a (rule m f a).0 ≡ true
  then_b : accepted b (rule m (rule m f a).1 b).0 ≡ true
  equal : (rule m (rule m f b).1 a).1 ≡ (rule m (rule m f a).1 b).1

swapping : {D : Type 0} (m : D → Meaning) (f fb fba fa fab : Figures D) (a b : Call D) → Enters m f b fb → Enters m fb a fba → Enters m f a fa → Enters m fa b fab → fba ≡ fab → Swaps m f a b
swapping m f fb fba fa fab a b eb eba ea eab e = record {
  first_a = ea.took;
  then_b = subst (λ g. accepted b (rule m g b).0 ≡ true) (sym ea.left) eab.took;
  equal = ap (λ g. (rule m g a).1) eb.left ∙ eba.left ∙ e ∙ sym (ap (λ g. (rule m g b).1) ea.left ∙ eab.left);
}

-- the second, where the first has come in
second : {D : Type 0} (m : D → Meaning) (f fb : Figures D) (a b : Call D) → Enters m f b fb → accepted a (rule m (rule m f b).1 a).0 ≡ true → accepted a (rule m fb a).0 ≡ true
second m f fb a b e h = subst (λ g. accepted a (rule m g a).0 ≡ true) e.left h

data CostOrBill {D : Type 0} : Call D → Type 0 where
  a_cost : (kind : ℕ) (amount : ℤ) → CostOrBill (cost kind amount)
  a_bill : (held : List Hour) (start count : ℕ) → CostOrBill (bill held start count)

which : {D : Type 0} (call : Call D) → is_entry call ≡ true → CostOrBill call
which (cost kind amount) e = a_cost kind amount
which (bill held start count) e = a_bill held start count
which close e = absurd (both_ways false refl e)
which (file draft) e = absurd (both_ways false refl e)
which (force filing design) e = absurd (both_ways false refl e)
which (withdraw filing) e = absurd (both_ways false refl e)
which read e = absurd (both_ways false refl e)

billed_twice : {D : Type 0} (f : Figures D) (x y : Billed) → billed_to (billed_to f y) x ≡ billed_to (billed_to f x) y
billed_twice {D} f x y = go _ _ _ _ (omega arith) (omega (arith, ints))
  where
    with_bills : ℕ → ℤ → Figures D
    with_bills quantity sum = with_month f (record { costs = f.ledger.month.costs; bills = f.ledger.month.bills + 1 + 1; quantity = quantity; billed = record { 0 = sum } })

    go : (q q' : ℕ) (z z' : ℤ) → q ≡ q' → z ≡ z' → with_bills q z ≡ with_bills q' z'
    go q q' z z' e h = ap (λ n. with_bills n z) e ∙ ap (λ n. with_bills q' n) h

swap : {D : Type 0} (m : D → Meaning) (f : Figures D) → length f.ledger.month.costs ≡ 8 → {a b : Call D} → CostOrBill a → CostOrBill b
    → accepted b (rule m f b).0 ≡ true → accepted a (rule m (rule m f b).1 a).0 ≡ true → Swaps m f a b
swap m f eight (a_cost ka xa) (a_cost kb xb) tb ta =
    let lines = f.ledger.month.costs in
    let pb = cost_passed m f kb xb tb in
    let eb = cost_enters m f kb xb pb in
    let pba = cost_passed m (costed f kb xb) ka xa (second m f (costed f kb xb) (cost ka xa) (cost kb xb) eb ta) in
    let la : ka - 1 < length lines = omega (arith, in_range ka pba.0) in
    let lb : kb - 1 < length lines = omega (arith, in_range kb pb.0) in
    let room = room_swap lines (ka - 1) (kb - 1) xa xb la lb most_entries (leb-false most_entries _ pb.1.1.0) (leb-false most_entries _ pba.1.1.0) in
    let pa : Passed (cost_checks f.ledger.month ka xa) = (pba.0, (pba.1.0, (lt-leb most_entries _ room.0, tt))) in
    let pab : Passed (cost_checks (costed f ka xa).ledger.month kb xb) = (pb.0, (pb.1.0, (lt-leb most_entries _ room.1, tt))) in
    swapping m f (costed f kb xb) (costed (costed f kb xb) ka xa) (costed f ka xa) (costed (costed f ka xa) kb xb) (cost ka xa) (cost kb xb)
    eb (cost_enters m (costed f kb xb) ka xa pba) (cost_enters m f ka xa pa) (cost_enters m (costed f ka xa) kb xb pab)
    (ap (λ costs. with_month f (record { costs = costs; bills = f.ledger.month.bills; quantity = f.ledger.month.quantity; billed = f.ledger.month.billed }))
    (enter_swap lines (ka - 1) (kb - 1) xa xb la lb))
swap m f eight (a_cost ka xa) (a_bill held start count) tb ta =
    let b = billed_now m f held start count in
    let pb = bill_passed m f held start count tb in
    let eb = bill_enters m f held start count pb in
    let pa = cost_passed m (billed_to f b) ka xa (second m f (billed_to f b) (cost ka xa) (bill held start count) eb ta) in
    swapping m f (billed_to f b) (costed (billed_to f b) ka xa) (costed f ka xa) (billed_to (costed f ka xa) b) (cost ka xa) (bill held start count)
    eb (cost_enters m (billed_to f b) ka xa pa) (cost_enters m f ka xa pa) (bill_enters m (costed f ka xa) held start count pb) refl
swap m f eight (a_bill held start count) (a_cost kb xb) tb ta =
    let b = billed_now m f held start count in
    let pb = cost_passed m f kb xb tb in
    let eb = cost_enters m f kb xb pb in
    let pa = bill_passed m (costed f kb xb) held start count (second m f (costed f kb xb) (bill held start count) (cost kb xb) eb ta) in
    swapping m f (costed f kb xb) (billed_to (costed f kb xb) b) (billed_to f b) (costed (billed_to f b) kb xb) (bill held start count) (cost kb xb)
    eb (bill_enters m (costed f kb xb) held start count pa) (bill_enters m f held start count pa) (cost_enters m (billed_to f b) kb xb pb) refl
swap m f eight (a_bill ha sa ca) (a_bill hb sb cb) tb ta =
    let a = billed_now m f ha sa ca in
    let b = billed_now m f hb sb cb in
    let pb = bill_passed m f hb sb cb tb in
    let eb = bill_enters m f hb sb cb pb in
    let pba = bill_passed m (billed_to f b) ha sa ca (second m f (billed_to f b) (bill ha sa ca) (bill hb sb cb) eb ta) in
    let room = had_room (billed_to f b).ledger.month ha sa ca a.amount.0 pba in
    let pa = where_room (billed_to f b).ledger.month ha sa ca a.amount.0 pba f.ledger.month (omega (arith, room)) in
    let pab = where_room f.ledger.month hb sb cb b.amount.0 pb (billed_to f a).ledger.month (omega (arith, room)) in
    swapping m f (billed_to f b) (billed_to (billed_to f b) a) (billed_to f a) (billed_to (billed_to f a) b) (bill ha sa ca) (bill hb sb cb)
    eb (bill_enters m (billed_to f b) ha sa ca pba) (bill_enters m f ha sa ca pa) (bill_enters m (billed_to f a) hb sb cb pab) (billed_twice f a b)

-- ---- runs

-- the figures that calls lead to, and their history
abbrev run : {D : Type 0} → (D → Meaning) → Figures D → List (Call D) → Figures D
run m f [] = f
run m f (call ∷ cs) = (rule m (run m f cs) call).1

abbrev step_at : {D : Type 0} → (D → Meaning) → Figures D → Call D → Step D
step_at m f call = record { call = call; answer = (rule m f call).0 }

abbrev answered : {D : Type 0} → (D → Meaning) → Figures D → List (Call D) → History D
answered m f [] = []
answered m f (call ∷ cs) = step_at m (run m f cs) call ∷ answered m f cs

-- A run's figures and history follow from its calls.
record Follows {D : Type 0} (m : D → Meaning) (start : Figures D) (h : History D) (f : Figures D) : Type 0 where
  figures : f ≡ run m start (calls h)
  history : h ≡ answered m start (calls h)

-- no cost or bill was refused, by recursion on the history
abbrev Takes : {D : Type 0} → History D → Type 0
Takes {D} h = AllByRecursion (λ (s : Step D). TakenAt s) h

-- Two runs of calls answer alike and end equal.
record Alike {D : Type 0} (m : D → Meaning) (start : Figures D) (xs ys : List (Call D)) : Type 0 where
  takes : Takes (answered m start ys)
  answers : others (answered m start xs) ≡ others (answered m start ys)
  ends : run m start xs ≡ run m start ys

-- an opening leaves one set of figures
opens_as : {D : Type 0} (o : Opening D) (f : Figures D) → Opens o f → f ≡ opened o
opens_as {D} o f h = subst P h.1 start refl
  where
    P : Result Unit Refusal × Figures D → Type 0
    P r = is_ok r.0 ≡ true → r.1 ≡ opened o

    start : P (open_rule h.0 o)
    start = by_checks P (open_checks o) tt h.0 (opened o) (λ _ e. absurd (both_ways false refl e)) (λ _ _. refl)

module _ {D : Type 0} (m : D → Meaning) (o : Opening D) where
  follows : (h : History D) (f : Figures D) → LeadsTo m o h f → Follows m (opened o) h f
  follows [] f w = record { figures = opens_as o f w; history = refl }
  follows (step ∷ h) f w =
      let r = follows h w.0 w.1 in
      let e = sym w.2 ∙ ap (λ g. rule m g step.call) r.figures in
      record {
        figures = ap (λ q. q.1) e;
        history = ap (λ q. record { call = step.call; answer = q.0 } ∷ h) e ∙ ap (λ t. step_at m (run m (opened o) (calls h)) step.call ∷ t) r.history;
      }

  -- every run began with the opening
  began : (h : History D) (f : Figures D) → LeadsTo m o h f → Opens o (opened o)
  began [] f w = subst (Opens o) (opens_as o f w) w
  began (step ∷ h) f w = began h w.0 w.1

  module _ (w : Opens o (opened o)) where
    -- calls from the opening lead where they lead
    leads : (cs : List (Call D)) → LeadsTo m o (answered m (opened o) cs) (run m (opened o) cs)
    leads [] = w
    leads (call ∷ cs) = (run m (opened o) cs, leads cs, refl)

    skip : (call : Call D) (g : Figures D) → is_entry call ≡ true → (hs : History D) → cond (is_entry call) hs (step_at m g call ∷ hs) ≡ hs
    skip call g e hs = ap (λ q. cond q hs (step_at m g call ∷ hs)) e

    reordered : {xs ys : List (Call D)} → Reordered xs ys → Takes (answered m (opened o) xs) → Alike m (opened o) xs ys
    reordered none t = record { takes = tt; answers = refl; ends = refl }
    reordered (same call {xs} {ys} r) t =
        let i = reordered r t.1 in
        record {
          takes = (subst (λ g. is_entry call ≡ true → accepted call (rule m g call).0 ≡ true) i.ends t.0, i.takes);
          answers =
              ap (λ hs. cond (is_entry call) hs (step_at m (run m (opened o) xs) call ∷ hs)) i.answers
              ∙ ap (λ g. cond (is_entry call) (others (answered m (opened o) ys)) (step_at m g call ∷ others (answered m (opened o) ys))) i.ends;
          ends = ap (λ g. (rule m g call).1) i.ends;
        }
    reordered (swapped a b xs ea eb) t =
        let f = run m (opened o) xs in
        let s = swap m f (agree m o (answered m (opened o) xs) f (leads xs)).month.lines (which a ea) (which b eb) (t.1.0 eb) (t.0 ea) in
        record {
          takes = (λ _. s.then_b, (λ _. s.first_a, t.1.1));
          answers = skip a (rule m f b).1 ea _ ∙ skip b f eb _ ∙ sym (skip b (rule m f a).1 eb _ ∙ skip a f ea _);
          ends = s.equal;
        }
    reordered (then r s) t =
        let i = reordered r t in
        let k = reordered s i.takes in
        record { takes = k.takes; answers = i.answers ∙ k.answers; ends = i.ends ∙ k.ends }

  pub run_ordered : (h : History D) (f : Figures D) → LeadsTo m o h f → Order m o h f
  run_ordered h f w h' f' w' r t =
      let p = follows h f w in
      let q = follows h' f' w' in
      let k = reordered (began h f w) r (recursion_from_All (λ (s : Step D). TakenAt s) _ (subst Taken p.history t)) in
      (subst Taken (sym q.history) (All-from_recursion (λ (s : Step D). TakenAt s) _ k.takes), ap others p.history ∙ k.answers ∙ sym (ap others q.history), p.figures ∙ k.ends ∙ sym q.figures)
