-- Votes and scrubs of runs whose corruptions stay apart.
use Rattle.std.specs.Prelude.{◌≡◌, ℕ, false, List, [], ◌∷◌, ◌++◌, None, slice_get}
use Rattle.std.proofs.Common.{refl, sym, ap, ◌∙◌, subst, arith}
use Rattle.ro_journal.specs.declared.Did.{Did}
use Rattle.ro_journal.specs.declared.losers.Lost.{Lost}
use Rattle.ro_journal.specs.Losers.{numbers}
use Rattle.ro_journal.specs.declared.Entry.{Entry}
use Rattle.ro_journal.specs.declared.Entry.TheVariants.{Vote, Scrub}
use Rattle.ro_replica.specs.Replica.{Replica}
use Rattle.ro_plain.specs.Machine.{Machine}
use Rattle.ro_plain.specs.Order.{RaceFree}
use Rattle.ro_plain.proofs.Calls.{some-injective}
use Rattle.ro_vote.specs.Numbers.{is_among, without}
use Rattle.ro_vote.proofs.Places.{without-itself}
use Rattle.ro_legal.specs.Core.{Job, Core, opening_core}
use Rattle.ro_legal.specs.Legal.{after, MayVote, MayScrub}
use Rattle.ro_legal.specs.Ideal.{IsAlike}
use Rattle.ro_legal.specs.Upsets.{Moment, Comes, journal_of, core_of, Possible}
use Rattle.ro_simulation.specs.Invariant.{Agrees, TracksIdeal}
use Rattle.ro_simulation.specs.Theorem.{GoesOn}
use Rattle.ro_simulation.specs.Corruptions.{StillAlikeAt, CorruptionsApart, CopiesStill, ScrubsStill}
use Rattle.ro_simulation.proofs.Alike.{agrees-is-alike, alike-agrees}
use Rattle.ro_simulation.proofs.Kept.{ideal-same}
use Rattle.ro_simulation.proofs.Votes.{vote-parts, AfterVote, after-vote}
use Rattle.ro_simulation.proofs.Scrubs.{going as going-still, scrub-replicas, AfterScrub, after-scrub}
use Rattle.ro_simulation.proofs.Corruptions.{journal-append, core-append, Along, Before, reach-before, apart-policy}

module _ (job : Job) (free : RaceFree job.program) (whole : List Moment) (apart : CorruptionsApart job whole) (possible : Possible job whole) where
  at-moment : (before rest : List Moment) (moment : Moment) → whole ≡ before ++ moment ∷ rest → Before job (λ before os. Unit {0}) before moment
  at-moment before rest moment is = reach-before job free (λ before os. Unit {0}) whole (apart-policy job whole apart) [] (omega arith) tt possible before rest moment is

  -- each vote is good
  pub copies-still : (before rest : List Moment) (thread count won : ℕ) (lost : Lost) (did : Did) → whole ≡ before ++ Comes (Vote thread count won lost did) ∷ rest → CopiesStill job before (Vote thread count won lost did) won (numbers lost)
  copies-still before rest thread count won lost did is =
      let b = at-moment before rest (Comes (Vote thread count won lost did)) is in
      by b.odds b.along b.may
    where
      by : (odds : List ℕ) (along : Along job odds before (core_of job before)) → MayVote job (core_of job before) thread count won lost did → CopiesStill job before (Vote thread count won lost did) won (numbers lost)
      by odds along may = record {
        losers_differed = λ l r k there alike. voted.losers_differ l r k there (agreed r alike);
        stay_alike = λ on number r there alike. alike-after (without number odds) (voted.stays number r there (agreed r alike)) on number (without-itself number odds);
        heals = λ on winner there alike l k. alike-after (without l odds) (voted.heals winner there (agreed winner alike) l k) on l (without-itself l odds);
        winner_alike = λ many winner there.
            agrees-is-alike job (journal_of before) along.holds.machine winner along.holds.ideal_is going
            (along.holds.others_agree going won winner (voted.winner_even (let n = along.holds.replica_count in omega arith)) there);
        then_all = λ many on number. alike-after [] (voted.then_all (let n = along.holds.replica_count in omega arith)) on number refl;
      }
        where
          vote : Entry
          vote = Vote thread count won lost did

          voted : AfterVote job odds (journal_of before) (core_of job before) along.holds.machine thread count won lost did
          voted = after-vote job free odds (journal_of before) (core_of job before) along.holds thread count won did lost may

          going : along.holds.machine.ended ≡ None
          going = sym along.holds.same_end ∙ (vote-parts (core_of job before) thread may.may).going.not_due

          agreed : (r : Replica) → IsAlike job (journal_of before) r → Agrees job along.holds.machine r
          agreed r alike = alike-agrees job (journal_of before) along.holds.machine r along.holds.ideal_is alike

          alike-after : (odds' : List ℕ) → TracksIdeal job odds' (journal_of before ++ vote ∷ []) (after job (core_of job before) vote) → GoesOn job (journal_of before ++ vote ∷ [])
              → (number : ℕ) → is_among odds' number ≡ false → StillAlikeAt job (before ++ Comes vote ∷ []) number
          alike-after odds' all on number d r there =
              let same : on.0 ≡ all.machine = some-injective (sym on.1 ∙ all.ideal_is) in
              let on_all : all.machine.ended ≡ None = ap (λ (m : Machine). m.ended) (sym same) ∙ on.2 in
              subst (λ (j : List Entry). IsAlike job j r) (sym (journal-append before (Comes vote ∷ [])))
              (agrees-is-alike job (journal_of before ++ vote ∷ []) all.machine r all.ideal_is on_all
              (all.others_agree on_all number r d
              (ap (λ (c : Core). slice_get c.replicas number) (sym (core-append job (opening_core job) before (Comes vote ∷ []))) ∙ there)))

  -- each scrub is good
  pub scrubs-still : (before rest : List Moment) (won : ℕ) (lost : Lost) → whole ≡ before ++ Comes (Scrub won lost) ∷ rest → ScrubsStill job before (Scrub won lost) won (numbers lost)
  scrubs-still before rest won lost is =
      let b = at-moment before rest (Comes (Scrub won lost)) is in
      by b.odds b.along b.may
    where
      by : (odds : List ℕ) (along : Along job odds before (core_of job before)) → MayScrub (core_of job before) won lost → ScrubsStill job before (Scrub won lost) won (numbers lost)
      by odds along may = record {
        winner_alike = λ winner there. agrees-is-alike job (journal_of before) along.holds.machine winner along.holds.ideal_is on (scrubbed.winner_agrees winner there);
        losers_differed = λ l r k there alike. scrubbed.losers_differed l r k there (alike-agrees job (journal_of before) along.holds.machine r along.holds.ideal_is alike);
        then_all = λ number r there.
            subst (λ (j : List Entry). IsAlike job j r) (sym (journal-append before (Comes (Scrub won lost) ∷ [])))
            (agrees-is-alike job (journal_of before ++ Scrub won lost ∷ []) along.holds.machine r (ideal-same job (journal_of before) (Scrub won lost) refl ∙ along.holds.ideal_is) on
            (scrubbed.all_agree number r
            (ap (λ (rs : List Replica). slice_get rs number)
            (sym (ap (λ (c : Core). c.replicas) (core-append job (opening_core job) before (Comes (Scrub won lost) ∷ [])) ∙ scrub-replicas job (core_of job before) won lost)) ∙ there)));
      }
        where
          on : along.holds.machine.ended ≡ None
          on = going-still job odds (journal_of before) (core_of job before) along.holds may.may

          scrubbed : AfterScrub job (journal_of before) (core_of job before) along.holds.machine won lost
          scrubbed = after-scrub job free odds (journal_of before) (core_of job before) along.holds won lost may
