use Rattle.ro_words.specs.Commands.{run_by, to_run}
use Rattle.std.proofs.Common.{◌≡◌, [], option_map, rules, subst, sym}
use Rattle.ro_legal.specs.Jobs.{job_of}
use Rattle.ro_files.specs.Agreeing.{recorded_of}
use Rattle.ro_files.proofs.Asked.{done_asks}
use Rattle.ro_top.specs.Top.{IsUndone}
use Rattle.ro_top.proofs.Claims.{of_its_job, of_no_job}
use Rattle.ro_top.proofs.top.ran.Goals as goal

pub returns-in-Ok-clause-asks : goal.returns-in-Ok-clause-asks
returns-in-Ok-clause-asks g c =
    done_asks (g.S.Store.told c.args.store.now) (to_run (run_by c.args.command.now)) (g.S.Store.calls c.args.store.now) (g.S.Store.calls c.fetch_job.new.store) c.in-Ok.ensures.asked c.run_fetched.result.answer c.run_fetched.ensures.program

pub returns-in-Ok-clause-run : goal.returns-in-Ok-clause-run
returns-in-Ok-clause-run g c =
    let fetched = c.in-Ok.fetched in
    of_its_job (g.S.Store.told c.args.store.now) (run_by c.args.command.now) (job_of fetched.job.image fetched.job.input.items fetched.job.faults.items fetched.job.settings)
    (recorded_of fetched.job.settings fetched.executable.items fetched.job.input.items fetched.list.items) c.run_fetched.result.journal.items (option_map (λ bytes. bytes.items) c.run_fetched.result.head) c.run_fetched.result.answer _
    c.in-Ok.ensures.job c.run_fetched.ensures.run

pub returns-in-Err-clause-run : goal.returns-in-Err-clause-run
returns-in-Err-clause-run g c =
    let undone : IsUndone c.in-Err.answer = search rules in
    let none : c.with_head.result.journal.items ≡ [] = search rules in
    let answer : c.with_head.result.answer ≡ c.in-Err.answer = search rules in
    of_no_job (g.S.Store.told c.args.store.now) (run_by c.args.command.now) c.with_head.result.journal.items (option_map (λ bytes. bytes.items) c.with_head.result.head) c.with_head.result.answer _
    (subst IsUndone (sym answer) undone) none
