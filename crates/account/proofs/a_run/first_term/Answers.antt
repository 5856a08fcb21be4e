use Rattle.account.proofs.FirstRun.{accepted_with, ran}
use Rattle.account.proofs.a_run.first_term.Goals as goal

pub returns : goal.returns
returns g c =
    ran g.D.RateDesign.meaning c.args.opening
    (record { draft = c.args.draft; again = c.args.again; design = c.args.design; amount = c.args.amount.0; held = c.args.held.now })
    c.args.account.now.figures c.reading.result
    (accepted_with c.in_ok-ok.ensures.value c.open.ensures)
    (accepted_with c.in_ok-first.ensures.value c.file.ensures)
    c.withdraw.ensures
    (accepted_with c.in_ok-second.ensures.value c.file-2.ensures)
    c.close.ensures
    c.close-2.ensures
    (rw c.in_default.is at c.force.ensures)
    (accepted_with c.in_ok-ok-2.ensures.value c.bill.ensures)
    (accepted_with c.in_ok-ok-3.ensures.value c.cost.ensures)
    c.reading.ensures.laws
