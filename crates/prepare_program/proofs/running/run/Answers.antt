use Rattle.prepare_program.proofs.Statuses.{completes_by, refuses_by}
use Rattle.prepare_program.proofs.running.run.Goals as goal

pub returns-then-is_prepare-clause-completes : goal.returns-then-is_prepare-clause-completes
returns-then-is_prepare-clause-completes g c = λ is read written.
    let run = c.prepare.ensures in
    completes_by _ _ _ run.status (λ e. read (run.read_failed e)) (λ e. written (run.write_failed e)) run.too_long run.reports_exactly run.refuses_exactly

pub returns-then-is_prepare-clause-refuses : goal.returns-then-is_prepare-clause-refuses
returns-then-is_prepare-clause-refuses g c = λ is read written.
    let run = c.prepare.ensures in
    refuses_by _ _ _ run.status (λ e. read (run.read_failed e)) (λ e. written (run.write_failed e)) run.too_long run.reports_exactly run.refuses_exactly
