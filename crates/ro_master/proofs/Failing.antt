-- A core whose sink failed: the end by it is due, and all else is as the journal leaves it.
use Rattle.std.proofs.Common.{◌≡◌, ◌⊎◌, inl, inr, ℕ, Bool, true, true≢false, List, [], ◌∷◌, ◌++◌, length, Option, Some, None, refl, sym, ap, ◌∙◌, subst, arith}
use Rattle.std.specs.Prelude.{◌&&◌, if◌then◌else◌, is_none, is_some, unwrap_or}
use Rattle.ro_journal.specs.declared.How.{How}
use Rattle.ro_journal.specs.declared.How.TheVariants.{Deadlock, Sink}
use Rattle.ro_journal.specs.declared.Entry.{Entry}
use Rattle.ro_journal.specs.declared.Entry.TheVariants.{End}
use Rattle.ro_journal.specs.declared.Lease.{Lease}
use Rattle.ro_legal.specs.declared.actions.Action.TheVariants.{End as DoEnd, Scrub as DoScrub, Over}
use Rattle.ro_legal.specs.Core.{Job, Core, may_vote, may_free}
use Rattle.ro_legal.specs.Legal.{MayTake, EndsAlone, EndsSink, may_scrub, cut_output}
use Rattle.ro_legal.specs.Action.{next_action}
use Rattle.ro_legal.specs.Rules.{IsFit, Legal, replay, replay_with, output_of}
use Rattle.ro_legal.specs.Sound.{IsOver}
use Rattle.ro_legal.proofs.Nexts.{end_is, scrub_next, sink_alone}
use Rattle.ro_legal.proofs.Ordered.{going-parts}
use Rattle.ro_legal.proofs.Rules.{replay-more, end-output, due-over}
use Rattle.ro_core.specs.Seen.{CoreOf, Stays}
use Rattle.ro_cores.specs.Cores.{left_by, state, sent_of, HasRoom, Quiet, with_sink}
use Rattle.ro_master.specs.Sessions.{Cuts}

module _ (job : Job) (journal : List Entry) where
  pub with-leases : (failed : Option ℕ) → (replay_with job journal failed).leases ≡ (replay job journal).leases
  with-leases None = refl
  with-leases (Some n) = refl

  pub with-ended : (failed : Option ℕ) → (replay_with job journal failed).ended ≡ (replay job journal).ended
  with-ended None = refl
  with-ended (Some n) = refl

  pub with-vote : (failed : Option ℕ) (thread : ℕ) → may_vote (replay_with job journal failed) thread ≡ (is_none failed && may_vote (replay job journal) thread)
  with-vote None thread = refl
  with-vote (Some n) thread = refl

  pub with-free : (failed : Option ℕ) (thread : ℕ) → may_free job (replay_with job journal failed) thread ≡ (is_none failed && may_free job (replay job journal) thread)
  with-free None thread = refl
  with-free (Some n) thread = refl

-- that end comes next
pub sink-next : (core : CoreOf) (taken : ℕ) → Cuts core (Some taken) → next_action core.job (replay_with core.job core.journal (Some taken)) ≡ DoEnd (Sink taken)
unfolding next_action
sink-next core taken cuts = ap (λ (o : Option How). if is_some o then Over else DoEnd (Sink taken)) (going-parts (left_by core) cuts.1).1

-- ---- what may be done only where the sink has not failed

calm : (failed : Option ℕ) (may : Bool) → (is_none failed && may) ≡ true → (failed ≡ None) × (may ≡ true)
calm None may e = (refl, e)
calm (Some n) may e = absurd (true≢false (sym e))

-- a core without its sink, and whether that failed
module _ (core : CoreOf) (failed : Option ℕ) where
  abbrev pub now : Core
  now = replay_with core.job core.journal failed

  -- where it has not, the state is what the journal leaves
  pub at-state : (P : Core → Type 0) → failed ≡ None → P (left_by core) → P now
  at-state P e p = subst (λ (o : Option ℕ). P (replay_with core.job core.journal o)) (sym e) p

  pub from-state : (P : Core → Type 0) → failed ≡ None → P now → P (left_by core)
  from-state P e p = subst (λ (o : Option ℕ). P (replay_with core.job core.journal o)) e p

  pub vote-calm : (thread : ℕ) → may_vote now thread ≡ true → (failed ≡ None) × (may_vote (left_by core) thread ≡ true)
  vote-calm thread e = calm failed (may_vote (left_by core) thread) (sym (with-vote core.job core.journal failed thread) ∙ e)

  pub free-calm : (thread : ℕ) → may_free core.job now thread ≡ true → (failed ≡ None) × (may_free core.job (left_by core) thread ≡ true)
  free-calm thread e = calm failed (may_free core.job (left_by core) thread) (sym (with-free core.job core.journal failed thread) ∙ e)

  pub take-calm : (lease : Lease) → MayTake core.job now lease → (failed ≡ None) × MayTake core.job (left_by core) lease
  take-calm lease m = by failed refl m
    where
      by : (o : Option ℕ) → failed ≡ o → MayTake core.job (replay_with core.job core.journal o) lease → (failed ≡ None) × MayTake core.job (left_by core) lease
      by None e m = (e, m)
      by (Some n) e m = absurd (true≢false (sym m.going))

  pub scrub-calm : next_action core.job now ≡ DoScrub → (failed ≡ None) × (next_action core.job (left_by core) ≡ DoScrub)
  scrub-calm next = by failed refl (scrub_next core.job now next)
    where
      by : (o : Option ℕ) → failed ≡ o → may_scrub now ≡ true → (failed ≡ None) × (next_action core.job (left_by core) ≡ DoScrub)
      by None e may = (e, from-state (λ (c : Core). next_action core.job c ≡ DoScrub) e next)
      by (Some n) e may = absurd (true≢false (sym (subst (λ (o : Option ℕ). may_scrub (replay_with core.job core.journal o) ≡ true) e may)))

  -- ---- an end that is due, or comes alone

  module _ (fit : IsFit core.job) (legal : Legal core.job core.journal) (cuts : Cuts core failed) (how : How) (ends : next_action core.job now ≡ DoEnd how) where
    pub sink-end : (taken : ℕ) → failed ≡ Some taken → how ≡ Sink taken
    sink-end taken e = sym (end_is core.job (replay_with core.job core.journal (Some taken)) how (subst (λ (o : Option ℕ). next_action core.job (replay_with core.job core.journal o) ≡ DoEnd how) e ends))

    pub end-comes : (next_action core.job (left_by core) ≡ DoEnd how) ⊎ EndsSink (left_by core) how
    end-comes = by failed refl
      where
        by : (o : Option ℕ) → failed ≡ o → (next_action core.job (left_by core) ≡ DoEnd how) ⊎ EndsSink (left_by core) how
        by None e = inl (subst (λ (o : Option ℕ). next_action core.job (replay_with core.job core.journal o) ≡ DoEnd how) e ends)
        by (Some taken) e =
            let c = subst (Cuts core) e cuts in
            inr (subst (EndsSink (left_by core)) (sym (sink-end taken e)) (c.1, c.0))

    -- it comes next or alone
    pub end-may : (next_action core.job (left_by core) ≡ DoEnd how) ⊎ EndsAlone core.job (left_by core) how
    end-may = elim end-comes [
      | inl next ↦ inl next
      | inr sink ↦ inr (sink_alone core.job (left_by core) how sink)
    ]

    abbrev due_or : Option How → How
    due_or due = unwrap_or due Deadlock

    -- an end that the core comes to by itself is no sink's
    own-end : next_action core.job (left_by core) ≡ DoEnd how → (taken : ℕ) → how ≡ Sink taken → ⊥
    own-end next taken e = by (left_by core).due refl
      where
        by : (o : Option How) → (left_by core).due ≡ o → ⊥
        by None f = let g : Deadlock ≡ Sink taken = sym (ap due_or f) ∙ end_is core.job (left_by core) how next ∙ e in cc
        by (Some other) f = elim (subst IsOver (sym (ap due_or f) ∙ end_is core.job (left_by core) how next ∙ e) (due-over core.job core.journal fit legal other f)) [ ]

    cut-none : ((taken : ℕ) → how ≡ Sink taken → ⊥) → cut_output (left_by core) how ≡ (left_by core).output
    cut-none not_sink = by how refl
      where
        by : (so : How) → how ≡ so → cut_output (left_by core) so ≡ (left_by core).output
        by (Sink taken) e = absurd (not_sink taken e)
        by so e = refl

    -- it sends nothing more
    pub end-sends : output_of core.job (core.journal ++ End how ∷ []) ≡ sent_of core.job core.journal failed
    end-sends = ap (λ (c : Core). c.output) (replay-more core.job core.journal (End how)) ∙ end-output core.job (left_by core) how ∙ by failed refl
      where
        by : (o : Option ℕ) → failed ≡ o → cut_output (left_by core) how ≡ sent_of core.job core.journal o
        by None e = cut-none (own-end (subst (λ (o : Option ℕ). next_action core.job (replay_with core.job core.journal o) ≡ DoEnd how) e ends))
        by (Some taken) e = ap (cut_output (left_by core)) (sink-end taken e)

-- nothing leaves where nothing is written
pub quiet-same : (old new : CoreOf) (failed : Option ℕ) (held : Option (List ℕ)) (failures sure : ℕ) → failed ≡ None → (left_by new).output ≡ (left_by old).output
    → Quiet (with_sink old failed held failures sure) (with_sink new failed held failures sure)
quiet-same old new failed held failures sure none output = record {
  failed = none;
  sent = ap (sent_of new.job new.journal) none ∙ output ∙ sym (ap (sent_of old.job old.journal) none);
  held = refl;
  failures = refl;
  sure = refl;
}

-- nothing but room
pub stays-with : (old new : CoreOf) → Stays old new → (failed : Option ℕ) (held : Option (List ℕ)) (failures sure : ℕ) → Stays (with_sink old failed held failures sure) (with_sink new failed held failures sure)
stays-with old new s failed held failures sure = record { job = s.job; journal = s.journal; failed = refl; held = refl; failures = refl; sure = refl }

-- ---- room, whether the sink failed or not

module _ (core : CoreOf) (failed : Option ℕ) (held : Option (List ℕ)) (failures sure : ℕ) where
  same-leases : length (state (with_sink core failed held failures sure)).leases ≡ length (state core).leases
  same-leases = ap length (with-leases core.job core.journal failed ∙ sym (with-leases core.job core.journal core.failed))

  pub room-without : HasRoom (with_sink core failed held failures sure) → HasRoom core
  room-without room = let same = same-leases in omega arith

  pub room-with : HasRoom core → HasRoom (with_sink core failed held failures sure)
  room-with room = let same = same-leases in omega arith
