-- Of two or three replicas at most one differs.
use Rattle.std.specs.Prelude.{◌≡◌, ℕ, ◌≤◌, ◌↔◌, true, List, [], ◌∷◌}
use Rattle.std.proofs.Common.{refl, sym, ap, ◌∙◌, arith, inl, inr}
use Rattle.std.proofs.lemmas.Bool.{true≢false}
use Rattle.ro_journal.specs.declared.Entry.{Entry}
use Rattle.ro_journal.specs.declared.losers.Lost.TheVariants.{One}
use Rattle.ro_plain.specs.Machine.{Machine}
use Rattle.ro_plain.proofs.Calls.{some-injective}
use Rattle.ro_legal.specs.Core.{Job}
use Rattle.ro_legal.specs.Ideal.{IsAlike, AllAlikeBut, StrikesApart, StaysApart}
use Rattle.ro_vote.specs.Numbers.{is_among, AtMostHalf}
use Rattle.ro_vote.proofs.Places.{only, not-only, is-only}
use Rattle.ro_simulation.specs.Theorem.{FewDiffer, Simulates, AllOfOne, NamesFew}
use Rattle.ro_simulation.specs.AtMostOne.{TwoOrThree, StrikesAlone, AtMostOneDiffers, EachHealsAll, OneDiffers}
use Rattle.ro_simulation.proofs.Laws.{one-is-few}

-- two or three are at least two
at-least-two : (job : Job) → TwoOrThree job → 2 ≤ job.settings.replicas
at-least-two job (inl two) = omega arith
at-least-two job (inr three) = omega arith

-- and at most three
at-most-three : (job : Job) → TwoOrThree job → job.settings.replicas ≤ 3
at-most-three job (inl two) = omega arith
at-most-three job (inr three) = omega arith

-- ---- strikes

-- of at most three replicas, no other differs at a strike
pub apart-before : (job : Job) (journal : List Entry) → job.settings.replicas ≤ 3 → StaysApart job journal → StrikesAlone job journal
apart-before job journal three apart before rest lease count hit whole some other r d there = by s.others s.few s.alike
  where
    s : StrikesApart job before lease.replica
    s = apart before rest lease count hit whole some

    by : (others : List ℕ) → AtMostHalf job.settings.replicas (lease.replica ∷ others) → AllAlikeBut job before (lease.replica ∷ others) → IsAlike job before r
    by [] few alike = alike other r (not-only lease.replica other (λ e. d (sym e))) there
    by (x ∷ others) few alike = absurd (omega arith)

-- where none does, of two or more, faults stay apart
pub apart-after : (job : Job) (journal : List Entry) → 2 ≤ job.settings.replicas → StrikesAlone job journal → StaysApart job journal
apart-after job journal two apart before rest lease count hit whole some = record {
  others = [];
  few = omega arith;
  alike = λ number r d there. apart before rest lease count hit whole some number r (λ e. true≢false (sym (only lease.replica number (sym e)) ∙ d)) there;
}

-- so both say the same
pub apart-alone : (job : Job) (journal : List Entry) → TwoOrThree job → StaysApart job journal ↔ StrikesAlone job journal
apart-alone job journal count = (apart-before job journal (at-most-three job count), apart-after job journal (at-least-two job count))

-- ---- the lists of faults

-- a list of at most one number names one replica
few-is-one : (job : Job) → job.settings.replicas ≤ 3 → NamesFew job → AllOfOne job.faults
few-is-one job three names one other a b = by names.named names.few (names.all one a) (names.all other b)
  where
    by : (named : List ℕ) → AtMostHalf job.settings.replicas named → is_among named one.replica ≡ true → is_among named other.replica ≡ true → one.replica ≡ other.replica
    by [] few h k = absurd (true≢false (sym h))
    by (n ∷ []) few h k = sym (is-only n one.replica h) ∙ is-only n other.replica k
    by (n ∷ m ∷ named) few h k = absurd (omega arith)

-- so few replicas are one
pub few-are-one : (job : Job) → TwoOrThree job → NamesFew job ↔ AllOfOne job.faults
few-are-one job count = (few-is-one job (at-most-three job count), one-is-few job (at-least-two job count))

-- ---- what the theorem says

-- at most one differs
one-differs : (job : Job) (journal : List Entry) → job.settings.replicas ≤ 3 → FewDiffer job journal → AtMostOneDiffers job journal
one-differs job journal three few = by few.odds few.few few.others_alike
  where
    by : (odds : List ℕ) → AtMostHalf job.settings.replicas odds → AllAlikeBut job journal odds → AtMostOneDiffers job journal
    by [] bound alike = record { odd = 0; others_alike = λ number replica d there. alike number replica refl there }
    by (x ∷ []) bound alike = record { odd = x; others_alike = λ number replica d there. alike number replica (not-only x number (λ e. d (sym e))) there }
    by (x ∷ y ∷ odds) bound alike = absurd (omega arith)

-- a copy of one loser leaves none that differs
heals-all : (job : Job) (journal : List Entry) → job.settings.replicas ≤ 3 → Simulates job journal → EachHealsAll job journal
heals-all job journal three s before rest thread count won lost did whole =
    let copies = s.copies before rest thread count won (One lost) did whole in
    record {
      winner_alike = λ winner there. copies.winner_alike (omega arith) winner there;
      then_all = λ machine is goes_on number replica there. copies.then_all (omega arith) (machine, is, goes_on) number replica there;
    }

-- so much of two or three replicas
pub one-of-few : (job : Job) (journal : List Entry) → TwoOrThree job → Simulates job journal → OneDiffers job journal
one-of-few job journal count s = record {
  at_most_one = λ machine is goes_on.
      let same : s.machine ≡ machine = some-injective (sym s.ideal_is ∙ is) in
      one-differs job journal (at-most-three job count) (s.few_differ (ap (λ (m : Machine). m.ended) same ∙ goes_on));
  copies = heals-all job journal (at-most-three job count) s;
}
