use Rattle.std.proofs.Common.{length, refl, ap}
use Rattle.ro_io.specs.MemSink.{SinkState, room_left}
use Rattle.ro_words.specs.Commands.{bench_by}
use Rattle.ro_top.proofs.Made.{is_bench}
use Rattle.ro_top.proofs.benching.bench_in.Goals as goal

pub returns-clause-bench : goal.returns-clause-bench
returns-clause-bench g c =
    is_bench (bench_by c.args.command.now) _ _ c.requires.job c.run_job-job.ensures.answer c.run_job-job.ensures.run
    c.args.sink.bytes c.run_job-job.result.1.out.bytes (ap (λ (s : SinkState). s.bytes) c.requires.sink) (ap (λ (s : SinkState). room_left s.acts s.room (length s.bytes)) c.requires.sink) refl refl _ _ _ _ c.written.result c.written.ensures
