-- The laws of every run of an account, for every design that keeps its law.
use Rattle.designs.specs.Meanings.{Meaning, Sound}
use Rattle.account.specs.declared.figures.Figures.{Figures}
use Rattle.account.specs.Rules.{reading_of}
use Rattle.account.specs.Laws.{EveryRun}
use Rattle.account.proofs.Agree.{agree}
use Rattle.account.proofs.Conserve.{run_conserves}
use Rattle.account.proofs.Order.{run_ordered}
use Rattle.account.proofs.Recover.{run_recovers}

pub every_run : {D : Type 0} (m : D → Meaning) → ((d : D) → Sound (m d)) → (f : Figures D) → EveryRun m f (reading_of f)
every_run m sound f o h w =
    let a = agree m o h f w in
    record {
      conservation = run_conserves m o h f w;
      recovery = run_recovers m o sound h f w;
      order = run_ordered m o h f w;
      told = record {
        months_closed = a.closings.closed;
        rate = a.rate.e;
        bills = a.month.bills;
        quantity = a.month.quantity;
        billed_total = a.month.billed;
      };
    }
