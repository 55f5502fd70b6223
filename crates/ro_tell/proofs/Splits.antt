-- How replicas that differ at the end of a run are told.
use Rattle.std.proofs.Common.{◌≡◌, ◌≢◌, ◌⊎◌, inl, inr, ◌≤◌, Bool, true, false, List, [], ◌∷◌, length, Option, Some, None, refl, sym, ap, ◌∙◌, subst, arith, IfSome}
use Rattle.std.specs.Prelude.{◌||◌, is_none, option_map}
use Rattle.std.proofs.lemmas.Bool.{and_parts}
use Rattle.ro_settings.specs.declared.Mode.TheVariants.{Voted, Cooperative}
use Rattle.ro_event.specs.declared.stops.Stop.TheVariants.{Watchdog}
use Rattle.ro_event.specs.Views.{View}
use Rattle.ro_journal.specs.declared.How.{How}
use Rattle.ro_journal.specs.declared.How.TheVariants as how
use Rattle.ro_journal.specs.declared.Entry.{Entry}
use Rattle.ro_journal.specs.declared.Entry.TheVariants.{End}
use Rattle.ro_journal.specs.Plan.{outcome_of}
use Rattle.ro_kernel.specs.Reserved.{reservation_of}
use Rattle.ro_legal.specs.Core.{Job, opening_core}
use Rattle.ro_legal.specs.Legal.{Legal as IsLegal, EndsVote, replay}
use Rattle.ro_legal.specs.Sides.{Side}
use Rattle.ro_legal.specs.Cooperative as together
use Rattle.ro_legal.specs.Cooperative.{Legal as IsLegalTogether, AreAll, answered_alike}
use Rattle.ro_legal.specs.Modes.{Mode, InMode, Suits, Legal as IsLegalIn}
use Rattle.ro_legal.specs.Rules.{IsFit, Legal as IsLegalBy}
use Rattle.ro_legal.proofs.Journals.{LegalFrom-parts}
use Rattle.ro_legal.proofs.TogetherJournals.{LegalFrom-parts as LegalFrom-parts-together}
use Rattle.ro_legal.proofs.Together.{keeps-replicas}
use Rattle.ro_legal.proofs.Ordered.{vote-parts}
use Rattle.ro_legal.proofs.Outcomes.{ended_is_outcome}
use Rattle.ro_legal.proofs.Winners.{views-count}
use Rattle.ro_core.specs.Seen.{EndsByScrub, KeepsViews, ShowsViews}
use Rattle.ro_core.proofs.Held.{outcome_cases}
use Rattle.ro_coop_core.specs.Seen.{KeepsViews as KeepsUnlike, ShowsViews as ShowsUnlike}
use Rattle.ro_cores.specs.Cores.{KeepsViews as KeepsViewsBy}
use Rattle.ro_cores.proofs.Majorities.{no-majority}
use Rattle.ro_findings.specs.declared.findings.Ended.{Ended}
use Rattle.ro_findings.specs.declared.findings.Ended.TheVariants.{Exit, Deadlock, Trap, Limit, Differ, NoMajority, Sink}
use Rattle.ro_findings.specs.declared.findings.Split.{Split}
use Rattle.ro_findings.specs.declared.findings.Split.TheVariants.{AtVote, AtScrub}
use Rattle.ro_tell.specs.Judging.{IsEnded, IsSplitBy, IsSplitOf, TellsSplit, how_of}

-- the run ended by replicas that differ
abbrev EndsSplit : List Entry → Type 0
EndsSplit entries = (outcome_of entries ≡ Some how.Differ) ⊎ (outcome_of entries ≡ Some how.NoMajority)

-- ---- by votes

module _ (job : Job) (entries : List Entry) (legal : IsLegal job entries) where
  -- the end that shows views is that of the journal
  how_is : (views : List View) (shows : ShowsViews job entries views) (h : How) → outcome_of entries ≡ Some h → shows.how ≡ h
  how_is views shows h e = by (outcome_cases shows.before (End shows.how) h (ap outcome_of (sym shows.journal_is) ∙ e))
    where
      before : IsLegal job shows.before
      before = (LegalFrom-parts job (opening_core job) shows.before (End shows.how ∷ []) (subst (IsLegal job) shows.journal_is legal)).0

      by : (outcome_of shows.before ≡ Some h) ⊎ (outcome_of (End shows.how ∷ []) ≡ Some h) → shows.how ≡ h
      by (inl was) = absurd (let f : None ≡ Some h = sym (vote-parts (replay job shows.before) shows.thread shows.may).not_ended ∙ (ended_is_outcome job shows.before before ∙ was) in cc)
      by (inr is) = let f : Some shows.how ≡ Some h = is in cc

  -- each replica has a view
  as_many : (views : List View) (shows : ShowsViews job entries views) → length views ≡ length (replay job shows.before).replicas
  as_many views shows =
      ap (λ (vs : List View). length vs) shows.views_are ∙ views-count job (replay job shows.before) shows.thread (and_parts _ _ shows.may).1

  -- and there are some
  some_views : ShowsViews job entries [] → EndsSplit entries → ⊥
  some_views shows (inl e) =
      let ends = subst (EndsVote job (replay job shows.before) shows.thread) (how_is [] shows how.Differ e) shows.in_place in
      let none : 0 ≡ length (replay job shows.before).replicas = as_many [] shows in
      let two : length (replay job shows.before).replicas ≡ 2 = ends.1 in
      omega (arith, none, two)
  some_views shows (inr e) =
      let ends = subst (EndsVote job (replay job shows.before) shows.thread) (how_is [] shows how.NoMajority e) shows.in_place in
      let none : 0 ≡ length (replay job shows.before).replicas = as_many [] shows in
      let most : 3 ≤ length (replay job shows.before).replicas = ends.1 in
      omega (arith, none, most)

  at_vote : (views : List View) → views ≢ [] → ShowsViews job entries views ⊎ EndsByScrub job entries views → (views : List View) × ShowsViews job entries views
  at_vote views some (inl shows) = (views, shows)
  at_vote views some (inr ends) = absurd (some ends.no_views)

  at_scrub : (views : List View) → views ≡ [] → EndsSplit entries → ShowsViews job entries views ⊎ EndsByScrub job entries views → EndsByScrub job entries []
  at_scrub views none e (inl shows) = absurd (some_views (subst (ShowsViews job entries) none shows) e)
  at_scrub views none e (inr ends) = subst (EndsByScrub job entries) none ends

-- ---- in a cooperative run

some_view : View
some_view = record { registers = []; pc = 0; since = 0; stop = Watchdog; payload = [] }

module _ (job : Job) (entries : List Entry) (unstruck : job.faults ≡ []) (legal : IsLegalTogether job entries) where
  unlike : (views : List View) → KeepsUnlike job entries views → EndsSplit entries → ShowsUnlike job entries views
  unlike views keeps (inl e) = keeps e
  unlike views keeps (inr e) = absurd (no-majority job entries unstruck legal e)

  -- with no views there are no replicas
  no_sides : (shows : ShowsUnlike job entries []) → length (together.replay job shows.before).sides ≡ 0
  no_sides shows =
      let front = (LegalFrom-parts-together job (together.opening_core job) shows.before (End how.Differ ∷ []) (subst (IsLegalTogether job) shows.journal_is legal)).0 in
      let k = keeps-replicas job shows.before unstruck front in
      k.side_count ∙ sym k.replica_count ∙ sym (ap (λ (vs : List View). length vs) shows.views_are ∙ views-count job (together.replay job shows.before) shows.thread (and_parts _ _ shows.may).1)

  -- so that none could differ
  none_unlike : ShowsUnlike job entries [] → ⊥
  none_unlike shows = shows.differ some_view (subst (AreAll some_view) shows.views_are tt, by (is_none (reservation_of (together.replay job shows.before).kernel.reserved shows.thread)) (together.replay job shows.before).sides (no_sides shows))
    where
      by : (none : Bool) (sides : List Side) → length sides ≡ 0 → (none || answered_alike shows.thread sides) ≡ true
      by true sides e = refl
      by false [] e = refl
      by false (s ∷ sides) e = absurd (omega arith)

-- ---- by the mode

-- told by views, or whole
abbrev ToldAtVote : Mode → Job → List Entry → Type 0
ToldAtVote mode job entries = InMode mode ((views : List View) × ShowsViews job entries views) ((views : List View) × ShowsUnlike job entries views)

abbrev ToldAtScrub : Mode → Job → List Entry → Type 0
ToldAtScrub mode job entries = InMode mode (EndsByScrub job entries []) ⊥

abbrev Keeps : Mode → Job → List Entry → List View → Type 0
Keeps mode job entries views = InMode mode (KeepsViews job entries views) (KeepsUnlike job entries views)

told_at_vote : (mode : Mode) (job : Job) (entries : List Entry) → Suits mode job → IsLegalIn mode job entries → (views : List View) → views ≢ [] → Keeps mode job entries views → EndsSplit entries
    → ToldAtVote mode job entries
told_at_vote Voted job entries fit legal views some keeps e = at_vote job entries legal views some (keeps e)
told_at_vote Cooperative job entries fit legal views some keeps e = (views, unlike job entries fit.0 legal views keeps e)

told_at_scrub : (mode : Mode) (job : Job) (entries : List Entry) → Suits mode job → IsLegalIn mode job entries → (views : List View) → views ≡ [] → Keeps mode job entries views → EndsSplit entries
    → ToldAtScrub mode job entries
told_at_scrub Voted job entries fit legal views none keeps e = at_scrub job entries legal views none e (keeps e)
told_at_scrub Cooperative job entries fit legal views none keeps e =
    none_unlike job entries fit.0 legal (subst (ShowsUnlike job entries) none (unlike job entries fit.0 legal views keeps e))

module _ (job : Job) (entries : List Entry) (fit : IsFit job) (legal : IsLegalBy job entries) where
  split_is : (views : List View) (split : Split) → IsSplitBy views split → KeepsViewsBy job entries views → EndsSplit entries → IsSplitOf job entries split
  split_is views (AtVote fields) by keeps e = told_at_vote job.settings.mode job entries fit legal views by keeps e
  split_is views (AtScrub threads pages) by keeps e = told_at_scrub job.settings.mode job entries fit legal views by keeps e

  pub told_end : (views : List View) (split : Split) (end : Option Ended) → KeepsViewsBy job entries views → option_map how_of end ≡ outcome_of entries → IfSome end (TellsSplit split) → IsSplitBy views split
      → IfSome end (IsEnded job entries)
  told_end views split None keeps e tells by = tt
  told_end views split (Some (Exit status)) keeps e tells by = tt
  told_end views split (Some (Deadlock threads)) keeps e tells by = tt
  told_end views split (Some (Trap cause at)) keeps e tells by = tt
  told_end views split (Some (Limit steps next threads)) keeps e tells by = tt
  told_end views split (Some (Sink taken)) keeps e tells by = tt
  told_end views split (Some (Differ told)) keeps e tells by = subst (IsSplitOf job entries) (sym tells) (split_is views split by keeps (inl (sym e)))
  told_end views split (Some (NoMajority told)) keeps e tells by = subst (IsSplitOf job entries) (sym tells) (split_is views split by keeps (inr (sym e)))
