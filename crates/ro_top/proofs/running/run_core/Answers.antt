use Rattle.std.proofs.Common.{List, ◌⊎◌, length, sym, ap, ◌∙◌, subst}
use Rattle.ro_event.specs.Views.{View}
use Rattle.ro_journal.specs.Plan.{outcome_of}
use Rattle.ro_legal.specs.Core.{Job}
use Rattle.ro_master.specs.Driven.{ShowsLast, ScrubsLast}
use Rattle.ro_top.specs.Ends.{IsOutcome}
use Rattle.ro_top.proofs.Claims.{is_run, not_differ, not_majority}
use Rattle.ro_top.proofs.Finishing.{ran_joined, ran_home, ran, ran_counts, ran_sent, ran_held, nothing_ran, ran_calm, ran_cause, opened_by}
use Rattle.ro_top.proofs.running.run_core.Goals as goal

pub drive-core-requires-clause-journal : goal.drive-core-requires-clause-journal
drive-core-requires-clause-journal g c κs lives = (opened_by (g.C.RunCore.seen c.args.core) c.new.result (g.K.Sink.held c.args.out) (g.K.Sink.failures c.args.out) (g.K.Sink.sure c.args.out) c.new.ensures c.requires.fresh).journal_is

pub returns-clause-counts : goal.returns-clause-counts
returns-clause-counts g c =
    ran_counts _ _ _ _ _ (opened_by (g.C.RunCore.seen c.args.core) c.new.result (g.K.Sink.held c.args.out) (g.K.Sink.failures c.args.out) (g.K.Sink.sure c.args.out) c.new.ensures c.requires.fresh) _ c.drive-core.ensures.goes c.drive-core.ensures.driven c.drive-core.ensures.all_sent _ c.finish-image.ensures.journal

pub returns-clause-run : goal.returns-clause-run
returns-clause-run g c =
    let opened = opened_by (g.C.RunCore.seen c.args.core) c.new.result (g.K.Sink.held c.args.out) (g.K.Sink.failures c.args.out) (g.K.Sink.sure c.args.out) c.new.ensures c.requires.fresh in
    let goes = c.drive-core.ensures.goes in
    let driven = c.drive-core.ensures.driven in
    let sent = c.drive-core.ensures.all_sent in
    let is = c.finish-image.ensures.journal in
    let outcome = subst (IsOutcome c.answer_of.result) c.finish-image.ensures.how c.answer_of.ensures.answer in
    is_run _ _ (subst (λ js. IsOutcome c.answer_of.result (outcome_of js)) (sym is) outcome) (record {
      ran = ran _ _ _ _ _ opened _ goes driven sent _ is;
      home = ran_home _ _ _ _ _ opened _ goes driven sent _ is c.drive-core.ensures.home;
      output = c.finish-image.ensures.sink.0 ∙ ran_held _ _ _ _ _ opened _ goes driven sent _ is;
      bytes = c.finish-image.ensures.bytes ∙ ap length (ran_sent _ _ _ _ _ opened _ goes driven sent _ is);
      calm = λ other. c.finish-image.ensures.sink.1 ∙ ran_calm _ _ _ _ _ opened _ goes driven sent _ is c.drive-core.ensures.ended c.finish-image.ensures.open other;
      joined = ran_joined _ _ _ _ _ opened _ goes driven sent _ is c.drive-core.ensures.joined;
      end = ran_cause _ _ _ _ _ opened _ goes driven sent _ is _ (λ split. subst (λ (vs : List View). ShowsLast c.drive-core.result.job c.drive-core.result.journal vs ⊎ ScrubsLast c.drive-core.result.job c.drive-core.result.journal vs) (sym (c.finish-image.ensures.kept split)) (c.drive-core.ensures.last split)) _ c.finish-image.ensures.sink.1
          c.answer_of.result outcome c.answer_of.ensures.program;
    })

pub returns-clause-no_views : goal.returns-clause-no_views
returns-clause-no_views g c differ majority =
    let is = subst (IsOutcome c.answer_of.result) c.finish-image.ensures.how c.answer_of.ensures.answer in
    c.finish-image.ensures.no_views (not_differ _ c.answer_of.result is differ) (not_majority _ c.answer_of.result is majority)

pub returns-clause-nothing_run : goal.returns-clause-nothing_run
returns-clause-nothing_run g c none =
    let same = nothing_ran _ _ _ _ _ (opened_by (g.C.RunCore.seen c.args.core) c.new.result (g.K.Sink.held c.args.out) (g.K.Sink.failures c.args.out) (g.K.Sink.sure c.args.out) c.new.ensures c.requires.fresh) _ c.drive-core.ensures.goes c.drive-core.ensures.driven c.drive-core.ensures.all_sent _ c.finish-image.ensures.journal none in
    (c.finish-image.ensures.sink.0 ∙ same.0, c.finish-image.ensures.sink.1 ∙ same.1)

pub returns-clause-image : goal.returns-clause-image
returns-clause-image g c = c.finish-image.ensures.image ∙ ap (λ (j : Job). j.program.image) (c.drive-core.ensures.goes.job ∙ (opened_by (g.C.RunCore.seen c.args.core) c.new.result (g.K.Sink.held c.args.out) (g.K.Sink.failures c.args.out) (g.K.Sink.sure c.args.out) c.new.ensures c.requires.fresh).job_is)
