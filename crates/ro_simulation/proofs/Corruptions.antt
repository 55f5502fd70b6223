-- The simulation theorem of moments: whatever becomes of a replica, while few of them are corrupted.
use Rattle.std.specs.Prelude.{◌≡◌, ℕ, zero, suc, ◌+◌, ◌-◌, Bool, true, false, ◌||◌, ◌==◌, List, [], ◌∷◌, ◌++◌, length, drop, Option, Some, None, slice_get}
use Rattle.std.proofs.Common.{refl, sym, ap, ◌∙◌, subst, arith, append_assoc, append-nil}
use Rattle.std.proofs.lemmas.Bool.{true≢false, eq-eqb}
use Rattle.std.proofs.lemmas.List.{take-append-drop}
use Rattle.ro_journal.specs.declared.How.{How}
use Rattle.ro_journal.specs.declared.How.TheVariants.{Exit, Trap, Deadlock, Limit, Differ, NoMajority, Sink}
use Rattle.ro_journal.specs.declared.Lease.{Lease}
use Rattle.ro_journal.specs.declared.losers.Lost.{Lost}
use Rattle.ro_journal.specs.declared.Entry.{Entry}
use Rattle.ro_journal.specs.declared.Entry.TheVariants.{Take, Put, Part, Vote, Free, Scrub, End}
use Rattle.ro_replica.specs.Replica.{Replica}
use Rattle.ro_plain.specs.Machine.{Machine}
use Rattle.ro_plain.specs.Order.{RaceFree}
use Rattle.ro_plain.proofs.Calls.{some-injective}
use Rattle.ro_vote.specs.Numbers.{is_among, without, AtMostHalf}
use Rattle.ro_vote.proofs.Places.{without-shorter, without-other}
use Rattle.ro_vote.proofs.Copies.{neither}
use Rattle.ro_legal.specs.Core.{Job, Core, opening_core}
use Rattle.ro_legal.specs.Legal.{after, cut_output, MayPut, MayEnd, LegalFrom, replay_from}
use Rattle.ro_legal.specs.Ideal.{ideal}
use Rattle.ro_legal.proofs.Outcomes.{ended-none}
use Rattle.ro_simulation.specs.Invariant.{Agrees, TracksIdeal}
use Rattle.ro_simulation.specs.Theorem.{IsFront, IsComplete, by_exit, by_trap, by_deadlock, EndsAs, TwoThreeOrFive}
use Rattle.ro_legal.specs.Upsets.{Moment, Comes, Upsets, Gives, return_entry, journal_of, behind, behind_all, core_of, IsPossible, PossibleFrom, Possible, corrupted_in, all_come, CorruptsOnly}
use Rattle.ro_simulation.specs.Corruptions.{CorruptsApart, CorruptionsApart, WritesStill}
use Rattle.ro_simulation.proofs.Alike.{agrees-is-alike, alike-agrees}
use Rattle.ro_simulation.proofs.Kept.{ideal-same}
use Rattle.ro_simulation.proofs.Votes.{after-vote}
use Rattle.ro_simulation.proofs.Frees.{after-free}
use Rattle.ro_simulation.proofs.Entries.{after-take, after-calm-put, after-struck-put, put-going}
use Rattle.ro_simulation.proofs.Parted.{part-calm, after-part}
use Rattle.ro_simulation.proofs.Scrubs.{after-scrub}
use Rattle.ro_simulation.proofs.Ends.{end-as}
use Rattle.ro_simulation.proofs.Opening.{opening-holds}
use Rattle.ro_simulation.proofs.Journals.{IsCalm, takes_calm, puts_calm, parts_calm, votes_calm, frees_calm, Scrubbed, after-end-ended}
use Rattle.ro_simulation.proofs.Upsets.{after-upset, after-given, gives-no-steps}

-- ---- moments in parts

pub journal-append : (xs ys : List Moment) → journal_of (xs ++ ys) ≡ journal_of xs ++ journal_of ys
journal-append [] ys = refl
journal-append (Comes entry ∷ xs) ys = ap (λ (j : List Entry). entry ∷ j) (journal-append xs ys)
journal-append (Upsets number now ∷ xs) ys = journal-append xs ys
journal-append (Gives lease back now ∷ xs) ys = ap (λ (j : List Entry). return_entry lease back ∷ j) (journal-append xs ys)

pub core-append : (job : Job) (core : Core) (xs ys : List Moment) → behind_all job core (xs ++ ys) ≡ behind_all job (behind_all job core xs) ys
core-append job core [] ys = refl
core-append job core (x ∷ xs) ys = core-append job (behind job core x) xs ys

-- ---- with no other corruption it is a legal journal

pub journal-comes : (journal : List Entry) → journal_of (all_come journal) ≡ journal
journal-comes [] = refl
journal-comes (entry ∷ journal) = ap (λ (j : List Entry). entry ∷ j) (journal-comes journal)

pub comes-possible : (job : Job) (core : Core) (journal : List Entry) → LegalFrom job core journal → PossibleFrom job core (all_come journal)
comes-possible job core [] legal = tt
comes-possible job core (entry ∷ journal) legal = (legal.0, comes-possible job (after job core entry) journal legal.1)

pub comes-legal : (job : Job) (core : Core) (journal : List Entry) → PossibleFrom job core (all_come journal) → LegalFrom job core journal
comes-legal job core [] h = tt
comes-legal job core (entry ∷ journal) h = (h.0, comes-legal job (after job core entry) journal h.1)

pub comes-core : (job : Job) (core : Core) (journal : List Entry) → behind_all job core (all_come journal) ≡ replay_from job core journal
comes-core job core [] = refl
comes-core job core (entry ∷ journal) = comes-core job (after job core entry) journal

-- ---- the invariant along moments

pub record Along (job : Job) (odds : List ℕ) (moments : List Moment) (core : Core) : Type 0 where
  pub holds : TracksIdeal job odds (journal_of moments) core
  pub is_core : core_of job moments ≡ core

-- those that may differ where a replica is corrupted
pub record Chosen (job : Job) (Q : List ℕ → Type 0) (core : Core) (machine : Machine) (wrong : ℕ) : Type 0 where
  pub odds : List ℕ
  pub allows : Q odds
  pub few : AtMostHalf job.settings.replicas odds
  pub odd : machine.ended ≡ None → is_among odds wrong ≡ true
  pub others : machine.ended ≡ None → (n : ℕ) (r : Replica) → is_among odds n ≡ false → slice_get core.replicas n ≡ Some r → Agrees job machine r

pub chosen : (job : Job) (odds : List ℕ) (before : List Moment) (core : Core) (along : Along job odds before core) (wrong : ℕ) → ((core_of job before).due ≡ None → CorruptsApart job before wrong) → Chosen job (λ os. Unit {0}) core along.holds.machine wrong
chosen job odds before core along wrong apart = by core.due refl
  where
    by : (o : Option How) → core.due ≡ o → Chosen job (λ os. Unit {0}) core along.holds.machine wrong
    by None e =
        let w = apart (ap (λ (c : Core). c.due) along.is_core ∙ e) in
        record {
          odds = wrong ∷ w.others;
          allows = tt;
          few = w.few;
          odd = λ on. ap (λ (b : Bool). b || is_among w.others wrong) (eq-eqb wrong wrong refl);
          others = λ on n r d there. alike-agrees job (journal_of before) along.holds.machine r along.holds.ideal_is (w.alike n r d (ap (λ (c : Core). slice_get c.replicas n) along.is_core ∙ there));
        }
    by (Some how) e = record {
      odds = odds;
      allows = tt;
      few = along.holds.few;
      odd = λ on. absurd (let f : Some how ≡ None = sym e ∙ (along.holds.same_end ∙ on) in cc);
      others = λ on. along.holds.others_agree on;
    }

-- one moment
pub data AfterMoment (job : Job) (Q : List Moment → List ℕ → Type 0) (before : List Moment) (core : Core) (moment : Moment) : Type 0 where
  is_step : (odds : List ℕ) → Q (before ++ moment ∷ []) odds → TracksIdeal job odds (journal_of (before ++ moment ∷ [])) (behind job core moment) → AfterMoment job Q before core moment
  is_end : (how : How) → moment ≡ Comes (End how) → MayEnd job core how → AfterMoment job Q before core moment

-- moments go on, or have ended by their last one
pub data Stage (job : Job) (Q : List Moment → List ℕ → Type 0) (moments : List Moment) (core : Core) : Type 0 where
  goes_on : (odds : List ℕ) → Q moments odds → Along job odds moments core → Stage job Q moments core
  has_ended : (before : List Moment) (how : How) (odds : List ℕ) (last : Core) → Q before odds → moments ≡ before ++ Comes (End how) ∷ [] → Along job odds before last → MayEnd job last how → core ≡ after job last (End how) → Stage job Q moments core

-- nothing is possible behind an end
pub possible-going : (job : Job) (core : Core) (moment : Moment) → IsPossible job core moment → core.ended ≡ None
possible-going job core (Comes entry) may = ended-none job core entry may
possible-going job core (Upsets number now) may = may.not_ended
possible-going job core (Gives lease back now) may = may.upsets.not_ended

over-from : (job : Job) (core : Core) (how : How) (moments : List Moment) → core.ended ≡ Some how → PossibleFrom job core moments → moments ≡ []
over-from job core how [] e possible = refl
over-from job core how (moment ∷ moments) e possible = absurd (let f : None ≡ Some how = sym (possible-going job core moment possible.0) ∙ e in cc)

-- which replicas may be odd, and why the others agree where one is corrupted
pub record Policy (job : Job) (Q : List Moment → List ℕ → Type 0) (whole : List Moment) : Type 0 where
  pub corrupts : (odds : List ℕ) (before rest : List Moment) (moment : Moment) (wrong : ℕ) → Q before odds → whole ≡ before ++ moment ∷ rest → corrupted_in moment ≡ Some wrong →
      (core : Core) (along : Along job odds before core) → IsPossible job core moment → Chosen job (Q (before ++ moment ∷ [])) core along.holds.machine wrong
  pub calm : (odds : List ℕ) (before : List Moment) (entry : Entry) → IsCalm entry → Q before odds → Q (before ++ Comes entry ∷ []) odds
  pub scrubbed : (odds : List ℕ) (before : List Moment) (won : ℕ) (lost : Lost) → Q before odds → AtMostHalf job.settings.replicas odds → Scrubbed job (Q (before ++ Comes (Scrub won lost) ∷ []))

-- corruptions that stay apart
pub apart-policy : (job : Job) (whole : List Moment) → CorruptionsApart job whole → Policy job (λ before os. Unit {0}) whole
apart-policy job whole apart = record {
  corrupts = λ odds before rest moment wrong q whole_is is core along may. chosen job odds before core along wrong (apart before rest moment wrong whole_is is);
  calm = λ odds before entry calm q. tt;
  scrubbed = λ odds before won lost q few. record { odds = odds; allows = tt; few = few };
}

module _ (job : Job) (free : RaceFree job.program) (Q : List Moment → List ℕ → Type 0) (whole : List Moment) (policy : Policy job Q whole) where
  module _ (odds : List ℕ) (before rest : List Moment) (q : Q before odds) (core : Core) (along : Along job odds before core) where
    -- an entry keeps it
    comes : (entry : Entry) (odds' : List ℕ) → Q (before ++ Comes entry ∷ []) odds' → TracksIdeal job odds' (journal_of before ++ entry ∷ []) (after job core entry) → AfterMoment job Q before core (Comes entry)
    comes entry odds' q' h = is_step odds' q' (subst (λ (j : List Entry). TracksIdeal job odds' j (after job core entry)) (sym (journal-append before (Comes entry ∷ []))) h)

    -- one behind which the same replicas may be odd
    calmly : (entry : Entry) → IsCalm entry → TracksIdeal job odds (journal_of before ++ entry ∷ []) (after job core entry) → AfterMoment job Q before core (Comes entry)
    calmly entry calm h = comes entry odds (policy.calm odds before entry calm q) h

    corrupted-at : (moment : Moment) (wrong : ℕ) → whole ≡ before ++ moment ∷ rest → corrupted_in moment ≡ Some wrong → IsPossible job core moment → Chosen job (Q (before ++ moment ∷ [])) core along.holds.machine wrong
    corrupted-at moment wrong whole_is is may = policy.corrupts odds before rest moment wrong q whole_is is core along may

    put-moment : (lease : Lease) (count hit : ℕ) → whole ≡ before ++ Comes (Put lease count hit) ∷ rest → MayPut job core lease count hit → AfterMoment job Q before core (Comes (Put lease count hit))
    put-moment lease count zero whole_is may = calmly (Put lease count 0) (puts_calm refl) (after-calm-put job odds (journal_of before) core along.holds lease count 0 may free refl)
    put-moment lease count (suc hit) whole_is may =
        let s = corrupted-at (Comes (Put lease count (suc hit))) lease.replica whole_is refl may in
        let on = (put-going job odds (journal_of before) core along.holds lease count (suc hit) may).0 in
        comes (Put lease count (suc hit)) s.odds s.allows (after-struck-put job odds (journal_of before) core along.holds lease count (suc hit) may s.odds s.few (s.odd on) (s.others on))

    -- the invariant behind a moment
    after-moment : (moment : Moment) → whole ≡ before ++ moment ∷ rest → IsPossible job core moment → AfterMoment job Q before core moment
    after-moment (Comes (Take lease)) whole_is may = calmly (Take lease) takes_calm (after-take job odds (journal_of before) core along.holds lease may)
    after-moment (Comes (Put lease count hit)) whole_is may = put-moment lease count hit whole_is may
    after-moment (Comes (Part lease count hit)) whole_is may = calmly (Part lease count hit) (parts_calm (part-calm job core lease count hit may)) (after-part job core lease count hit may odds (journal_of before) along.holds free)
    after-moment (Comes (Vote thread count won lost did)) whole_is may = calmly (Vote thread count won lost did) votes_calm (after-vote job free odds (journal_of before) core along.holds thread count won did lost may).holds
    after-moment (Comes (Free thread)) whole_is may = calmly (Free thread) frees_calm (after-free job free odds (journal_of before) core along.holds thread may)
    after-moment (Comes (Scrub won lost)) whole_is may =
        let s = policy.scrubbed odds before won lost q along.holds.few in
        comes (Scrub won lost) s.odds s.allows ((after-scrub job free odds (journal_of before) core along.holds won lost may).holds s.odds s.few)
    after-moment (Comes (End how)) whole_is may = is_end how refl may.1
    after-moment (Upsets number now) whole_is may =
        let s = corrupted-at (Upsets number now) number whole_is refl may in
        is_step s.odds s.allows (subst (λ (j : List Entry). TracksIdeal job s.odds j (behind job core (Upsets number now))) (sym (journal-append before (Upsets number now ∷ []) ∙ append-nil (journal_of before)))
        (after-upset job odds (journal_of before) core along.holds number now may s.odds s.few s.odd s.others))
    after-moment (Gives lease back now) whole_is may =
        let s = corrupted-at (Gives lease back now) lease.replica whole_is refl may in
        is_step s.odds s.allows (subst (λ (j : List Entry). TracksIdeal job s.odds j (behind job core (Gives lease back now))) (sym (journal-append before (Gives lease back now ∷ [])))
        (after-given job odds (journal_of before) core along.holds lease.replica now may.upsets s.odds s.few s.odd s.others lease refl back (gives-no-steps lease back)))

  -- the invariant behind any number of moments
  pub reach : (odds : List ℕ) (before rest tail : List Moment) → Q before odds → (core : Core) → whole ≡ before ++ (rest ++ tail) → Along job odds before core → PossibleFrom job core rest → Stage job Q (before ++ rest) (behind_all job core rest)
  reach odds before [] tail q core whole_is along possible =
      goes_on odds (subst (λ (j : List Moment). Q j odds) (sym (append-nil before)) q) (subst (λ (j : List Moment). Along job odds j core) (sym (append-nil before)) along)
  reach odds before (moment ∷ rest) tail q core whole_is along possible =
      by (after-moment odds before (rest ++ tail) q core along moment whole_is possible.0)
      (λ odds' q' along'. reach odds' (before ++ moment ∷ []) rest tail q' (behind job core moment) (whole_is ∙ sym (append_assoc before (moment ∷ []) (rest ++ tail))) along' possible.1)
    where
      ended : (how : How) → MayEnd job core how → rest ≡ [] → Stage job Q (before ++ Comes (End how) ∷ rest) (behind_all job (after job core (End how)) rest)
      ended how may none = has_ended before how odds core q (ap (λ (r : List Moment). before ++ Comes (End how) ∷ r) none) along may (ap (behind_all job (after job core (End how))) none)

      by : AfterMoment job Q before core moment
          → ((odds' : List ℕ) → Q (before ++ moment ∷ []) odds' → Along job odds' (before ++ moment ∷ []) (behind job core moment) → Stage job Q ((before ++ moment ∷ []) ++ rest) (behind_all job (behind job core moment) rest))
          → Stage job Q (before ++ moment ∷ rest) (behind_all job (behind job core moment) rest)
      by (is_step odds' q' h) later =
          subst (λ (j : List Moment). Stage job Q j (behind_all job (behind job core moment) rest)) (append_assoc before (moment ∷ []) rest)
          (later odds' q' (record { holds = h; is_core = core-append job (opening_core job) before (moment ∷ []) ∙ ap (λ (c : Core). behind job c moment) along.is_core }))
      by (is_end how same may) later =
          subst (λ (m : Moment). Stage job Q (before ++ m ∷ rest) (behind_all job (behind job core m) rest)) (sym same)
          (ended how may (over-from job (after job core (End how)) how rest (after-end-ended job core how) (subst (λ (m : Moment). PossibleFrom job (behind job core m) rest) same possible.1)))

-- ---- before a moment

-- the invariant at the opening
pub opening-along : (job : Job) (odds : List ℕ) → AtMostHalf job.settings.replicas odds → Along job odds [] (opening_core job)
unfolding opening_core
opening-along job odds few = record { holds = opening-holds job odds few; is_core = refl }

possible-parts : (job : Job) (core : Core) (xs ys : List Moment) → PossibleFrom job core (xs ++ ys) → PossibleFrom job core xs × PossibleFrom job (behind_all job core xs) ys
possible-parts job core [] ys l = (tt, l)
possible-parts job core (x ∷ xs) ys l = let p = possible-parts job (behind job core x) xs ys l.1 in ((l.0, p.0), p.1)

-- the invariant holds, and the moment is possible
pub record Before (job : Job) (Q : List Moment → List ℕ → Type 0) (before : List Moment) (moment : Moment) : Type 0 where
  pub odds : List ℕ
  pub allows : Q before odds
  pub along : Along job odds before (core_of job before)
  pub may : IsPossible job (core_of job before) moment

module _ (job : Job) (free : RaceFree job.program) (Q : List Moment → List ℕ → Type 0) (whole : List Moment) (policy : Policy job Q whole) (start : List ℕ) (start_few : AtMostHalf job.settings.replicas start) (start_allowed : Q [] start) (possible : Possible job whole) where
  pub reach-before : (before rest : List Moment) (moment : Moment) → whole ≡ before ++ moment ∷ rest → Before job Q before moment
  reach-before before rest moment is =
      let parts = possible-parts job (opening_core job) before (moment ∷ rest) (subst (Possible job) is possible) in
      by parts.1.0 (reach job free Q whole policy start [] before (moment ∷ rest) start_allowed (opening_core job) is (opening-along job start start_few) parts.0)
    where
      by : IsPossible job (core_of job before) moment → Stage job Q before (core_of job before) → Before job Q before moment
      by may (goes_on odds q along) = record { odds = odds; allows = q; along = along; may = may }
      by may (has_ended b how odds last q same along ends last_is) =
          absurd (let f : None ≡ Some how = sym (possible-going job (core_of job before) moment may) ∙ (ap (λ (c : Core). c.ended) last_is ∙ after-end-ended job last how) in cc)

  -- where each corrupted replica and those that may be odd are at most half of all, corruptions stay apart
  pub apart-with : ((before rest : List Moment) (moment : Moment) (corrupted : ℕ) (odds : List ℕ) → Q before odds → whole ≡ before ++ moment ∷ rest → corrupted_in moment ≡ Some corrupted → AtMostHalf job.settings.replicas (corrupted ∷ without corrupted odds))
      → CorruptionsApart job whole
  apart-with few before rest moment corrupted whole_is is due =
      let b = reach-before before rest moment whole_is in
      record {
        others = without corrupted b.odds;
        few = few before rest moment corrupted b.odds b.allows whole_is is;
        alike = λ number r d there.
            let p = neither (corrupted == number) (is_among (without corrupted b.odds) number) d in
            let on = sym b.along.holds.same_end ∙ due in
            agrees-is-alike job (journal_of before) b.along.holds.machine r b.along.holds.ideal_is on
            (b.along.holds.others_agree on number r (without-other corrupted b.odds number p.1 (λ e. true≢false (sym (eq-eqb corrupted number e) ∙ p.0))) there);
      }

-- ---- the headline

module _ (job : Job) (free : RaceFree job.program) (count : TwoThreeOrFive job) (moments : List Moment) where
  still-going : (odds : List ℕ) → Along job odds moments (core_of job moments) → WritesStill job moments
  still-going odds along = record {
    machine = along.holds.machine;
    ideal_is = along.holds.ideal_is;
    same_kernel = along.holds.same_kernel;
    front = ([], sym along.holds.same_output ∙ sym (append-nil (core_of job moments).output));
    few_differ = λ on. record {
      odds = odds;
      few = along.holds.few;
      others_alike = λ n r d e. agrees-is-alike job (journal_of moments) along.holds.machine r along.holds.ideal_is on (along.holds.others_agree on n r d e);
    };
    ends_as = λ how e. absurd (let f : None ≡ Some how = sym along.holds.not_ended ∙ e in cc);
    complete = λ how e whole. absurd (let f : None ≡ Some how = sym along.holds.not_ended ∙ e in cc);
  }

  module _ (before : List Moment) (how : How) (odds : List ℕ) (last : Core) (same : moments ≡ before ++ Comes (End how) ∷ []) (along : Along job odds before last) (may : MayEnd job last how) (last_is : core_of job moments ≡ after job last (End how)) where
    ended_is : (core_of job moments).ended ≡ Some how
    ended_is = ap (λ (c : Core). c.ended) last_is ∙ after-end-ended job last how

    ideal_is : ideal job (journal_of moments) ≡ Some along.holds.machine
    ideal_is =
        ap (λ (m : List Moment). ideal job (journal_of m)) same
        ∙ (ap (ideal job) (journal-append before (Comes (End how) ∷ []))
        ∙ (ideal-same job (journal_of before) (End how) refl ∙ along.holds.ideal_is))

    kernel_is : (core_of job moments).kernel ≡ along.holds.machine.kernel
    unfolding after
    kernel_is = ap (λ (c : Core). c.kernel) last_is ∙ along.holds.same_kernel

    replicas_are : (core_of job moments).replicas ≡ last.replicas
    unfolding after
    replicas_are = ap (λ (c : Core). c.replicas) last_is

    output_is : (core_of job moments).output ≡ cut_output last how
    unfolding after
    output_is = ap (λ (c : Core). c.output) last_is

    cut-front : (how : How) → IsFront (cut_output last how) last.output
    cut-front (Sink bytes) = (drop (length last.output - last.wrote + bytes) last.output, sym (take-append-drop (length last.output - last.wrote + bytes) last.output))
    cut-front (Exit status) = ([], sym (append-nil last.output))
    cut-front (Trap code) = ([], sym (append-nil last.output))
    cut-front Deadlock = ([], sym (append-nil last.output))
    cut-front (Limit steps next) = ([], sym (append-nil last.output))
    cut-front Differ = ([], sym (append-nil last.output))
    cut-front NoMajority = ([], sym (append-nil last.output))

    cut-complete : (other : How) → IsComplete other → cut_output last other ≡ last.output
    cut-complete (Exit status) by_exit = refl
    cut-complete (Trap code) by_trap = refl
    cut-complete Deadlock by_deadlock = refl
    cut-complete (Limit steps next) h = elim h [ ]
    cut-complete Differ h = elim h [ ]
    cut-complete NoMajority h = elim h [ ]
    cut-complete (Sink bytes) h = elim h [ ]

    still-ended : WritesStill job moments
    still-ended = record {
      machine = along.holds.machine;
      ideal_is = ideal_is;
      same_kernel = kernel_is;
      front = subst (λ (o : List ℕ). IsFront o along.holds.machine.output) (sym output_is) (subst (IsFront (cut_output last how)) along.holds.same_output (cut-front how));
      few_differ = λ on. record {
        odds = odds;
        few = along.holds.few;
        others_alike = λ n r d e.
            agrees-is-alike job (journal_of moments) along.holds.machine r ideal_is on
            (along.holds.others_agree on n r d (ap (λ (rs : List Replica). slice_get rs n) (sym replicas_are) ∙ e));
      };
      ends_as = λ other e. subst (EndsAs job.program along.holds.machine) (some-injective (sym ended_is ∙ e)) (end-as job odds (journal_of before) last along.holds free count how may);
      complete = λ other e whole. output_is ∙ (cut-complete how (subst IsComplete (some-injective (sym e ∙ ended_is)) whole) ∙ along.holds.same_output);
    }

  -- the headline under a policy
  pub writes-with : (Q : List Moment → List ℕ → Type 0) → Policy job Q moments → (start : List ℕ) → AtMostHalf job.settings.replicas start → Q [] start → Possible job moments → WritesStill job moments
  writes-with Q policy start few q possible = by (reach job free Q moments policy start [] moments [] q (opening_core job) (sym (append-nil moments)) (opening-along job start few) possible)
    where
      by : Stage job Q moments (core_of job moments) → WritesStill job moments
      by (goes_on odds q along) = still-going odds along
      by (has_ended before how odds last q same along may last_is) = still-ended before how odds last same along may last_is

  -- the headline, where corruptions stay apart
  pub writes-still : Possible job moments → CorruptionsApart job moments → WritesStill job moments
  writes-still possible apart = writes-with (λ before os. Unit {0}) (apart-policy job moments apart) [] (omega arith) tt possible

-- ---- a few replicas that are corrupted, always the same ones

pub named-policy : (job : Job) (named : List ℕ) (moments : List Moment) → AtMostHalf job.settings.replicas named → CorruptsOnly named moments → Policy job (λ before odds. odds ≡ named) moments
named-policy job named moments few only = record {
  corrupts = λ odds before rest moment wrong q whole_is is core along may. record {
    odds = named;
    allows = refl;
    few = few;
    odd = λ on. only before rest moment wrong whole_is is;
    others = λ on n r d there. along.holds.others_agree on n r (ap (λ (l : List ℕ). is_among l n) q ∙ d) there;
  };
  calm = λ odds before entry calm q. q;
  scrubbed = λ odds before won lost q few. record { odds = odds; allows = q; few = few };
}

pub writes-named : (job : Job) → RaceFree job.program → TwoThreeOrFive job → (moments : List Moment) (named : List ℕ) → AtMostHalf job.settings.replicas named → CorruptsOnly named moments → Possible job moments → WritesStill job moments
writes-named job free count moments named few only possible = writes-with job free count moments (λ before odds. odds ≡ named) (named-policy job named moments few only) named few refl possible

-- they stay apart
pub named-apart : (job : Job) → RaceFree job.program → (moments : List Moment) (named : List ℕ) → AtMostHalf job.settings.replicas named → CorruptsOnly named moments → Possible job moments → CorruptionsApart job moments
named-apart job free moments named few only possible =
    apart-with job free (λ before odds. odds ≡ named) moments (named-policy job named moments few only) named few refl possible
    (λ before rest moment corrupted odds q whole_is is.
    subst (λ (l : List ℕ). AtMostHalf job.settings.replicas (corrupted ∷ without corrupted l)) (sym q)
    (let short = without-shorter corrupted named (only before rest moment corrupted whole_is is) in let f = few in omega arith))
