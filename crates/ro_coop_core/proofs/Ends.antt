-- An end that is due, or comes alone, in the fields of a run.
use Rattle.std.proofs.Common.{◌≡◌, ◌⊎◌, inl, inr, ℕ, ◌+◌, ◌-◌, ◌<◌, ◌≤◌, take, List, [], ◌∷◌, ◌++◌, length, Option, Some, None, refl, sym, ap, ◌∙◌, subst, arith}
use Rattle.std.specs.Prelude.{slice_index_or, unwrap_or}
use Rattle.std.proofs.lemmas.Bool.{and_parts}
use Rattle.std.proofs.lemmas.List.{length-take-le}
use Rattle.ro_journal.specs.declared.How.{How}
use Rattle.ro_journal.specs.declared.How.TheVariants.{Deadlock, Differ, Sink}
use Rattle.ro_journal.specs.declared.Entry.TheVariants.{End}
use Rattle.ro_event.specs.declared.calls.Call.{Call}
use Rattle.ro_kernel.specs.State.{State}
use Rattle.ro_legal.specs.Core.{Job, Core}
use Rattle.ro_legal.specs.declared.actions.Action.TheVariants.{End as DoEnd}
use Rattle.ro_legal.specs.Legal.{EndsAlone, EndsSink, cut_output}
use Rattle.ro_legal.specs.Legal.{MayEnd as MayEndVoted, due as due_voted, alone as alone_voted, for_vote as for_vote_voted, for_free as for_free_voted, for_scrub}
use Rattle.ro_legal.specs.Cooperative.{after, MayEnd, due, alone}
use Rattle.ro_legal.specs.Action.{next_action}
use Rattle.ro_legal.specs.Choices.{IsNext}
use Rattle.ro_legal.specs.Sound.{IsOver}
use Rattle.ro_coop_core.specs.Seen.{KeepsViews}
use Rattle.ro_coop_core.specs.declared.seats.Seat.{Seat}
use Rattle.ro_coop_core.specs.declared.seats.Partner.{Partner}
use Rattle.ro_coop_core.specs.Seats.{Homed, IsSeated, AreSeated}
use Rattle.ro_coop_core.specs.Fields.{one_end, Fields, core_in, blocked_at, CountsBytes, Holds}
use Rattle.ro_legal.proofs.Journals.{outcome_of-append}
use Rattle.ro_legal.proofs.Ordered.{going-parts}
use Rattle.ro_legal.proofs.Nexts.{end_next, end_is}
use Rattle.ro_coop_core.proofs.Keeping.{keeps-replicas}
use Rattle.ro_coop_core.proofs.Held.{not-differ, no-outcome, same-waits, length-more, holds-step}

-- a seat behind an end
end-seat : (job : Job) (core : Core) (number : ℕ) (seat : Seat) (how : How) → IsSeated job core number seat → IsSeated job (after job core (End how)) number seat
unfolding after
end-seat job core number seat how s = record {
  replica = s.replica;
  side = s.side;
  replica_there = s.replica_there;
  side_there = s.side_there;
  knows = s.knows;
  homed = by seat.home s.homed;
}
  where
    by : (home : Option Partner) → Homed job core number s.replica s.side home → Homed job (after job core (End how)) number s.replica s.side home
    by None e = e
    by (Some partner) e = e

end-seated : (job : Job) (core : Core) (seats : List Seat) (how : How) → AreSeated job core seats → AreSeated job (after job core (End how)) seats
unfolding after
end-seated job core seats how h = record {
  count = h.count;
  each = λ number seat e. end-seat job core number seat how (h.each number seat e);
  at_home = h.at_home;
}

-- the fields behind an end
pub ended-holds : (f f' : Fields) → Holds f → (how : How) → f.ended ≡ None → MayEnd f.job (core_in f) how → CountsBytes f'.sent f'.wrote f'.steps (after f.job (core_in f) (End how)) → KeepsViews f.job (f.journal ++ End how ∷ []) f'.views
    → f'.job ≡ f.job → f'.kernel ≡ f.kernel → f'.cooperates ≡ f.cooperates → f'.blocked ≡ f.blocked → f'.most_done ≡ f.most_done → f'.steps ≡ f.steps → f'.waits ≡ f.waits → f'.seats ≡ f.seats → f'.leases ≡ f.leases → f'.due ≡ None → f'.ended ≡ Some how
    → f'.journal ≡ f.journal ++ End how ∷ [] → f.places ≡ f'.places + 1 → Holds f'
unfolding after
ended-holds f f' h how none allowed counts kept job kernel cooperates blocked most steps waits seats leases over ended journal less = holds-step f f' (End how) h (sym h.ended_is ∙ none, allowed) (record {
  job = job;
  journal = journal;
  leases = leases ∙ h.leases_are;
  setup = ap (λ (k : State). k.setup) kernel;
  kernel = ap (λ (k : State). k.kernel) kernel ∙ h.kernel_is;
  cooperates = cooperates;
  blocked_count = ap length blocked ∙ h.blocked_count;
  blocked = λ t. ap (λ (bs : List (Option Call)). blocked_at bs t) blocked ∙ h.blocked_are t;
  most_count = ap length most ∙ h.most_count;
  most = λ t. ap (λ (ns : List ℕ). slice_index_or ns t 0) most ∙ h.most_are t;
  steps = steps ∙ h.steps_are;
  waits = same-waits f f' h (after f.job (core_in f) (End how)) refl waits (ap length journal ∙ length-more f.journal (End how));
  counts = counts;
  due = over;
  ended = ended;
  seats = subst (AreSeated f.job (after f.job (core_in f) (End how))) (sym seats) (end-seated f.job (core_in f) f.seats how h.seats_are);
  views_count = λ unended. absurd (let g : Some how ≡ None = sym ended ∙ unended in cc);
  views_kept = kept;
  room = let k = h.room in let one : one_end f.ended ≡ 1 = ap one_end none in let no : one_end f'.ended ≡ 0 = ap one_end ended in let n : length f'.leases ≡ length f.leases = ap length leases in omega arith;
})

-- an end that is not the sink's cuts nothing
pub cut-none : (core : Core) (how : How) → ((bytes : ℕ) → how ≡ Sink bytes → ⊥) → cut_output core how ≡ core.output
cut-none core (Sink bytes) not_sink = absurd (not_sink bytes refl)
cut-none core how not_sink = refl

-- how many bytes are left of so many, of which the last entry wrote these, where a failing sink took so many of them
cut-length : (core : Core) (taken : ℕ) → taken ≤ core.wrote → core.wrote ≤ length core.output → length (cut_output core (Sink taken)) ≡ length core.output - (core.wrote - taken)
cut-length core taken less within =
    let e : length (take (length core.output - core.wrote + taken) core.output) ≡ length core.output - core.wrote + taken = length-take-le (length core.output - core.wrote + taken) core.output (omega arith) in
    omega (arith, e)

-- ---- an end that is due, or comes alone

-- a deadlock that comes next comes alone
next-alone : (job : Job) (core : Core) → core.due ≡ None → MayEndVoted job core Deadlock → EndsAlone job core Deadlock
next-alone job core none (due_voted e) = absurd (let g : None ≡ Some Deadlock = sym none ∙ e in cc)
next-alone job core none (alone_voted e) = e
next-alone job core none (for_vote_voted thread may e) = absurd e
next-alone job core none (for_free_voted thread may e) = absurd e
next-alone job core none (for_scrub may e) = absurd e

-- an end that comes next is due, or a deadlock
next-ends : (job : Job) (core : Core) (how : How) → next_action job core ≡ DoEnd how → MayEnd job core how
next-ends job core how next = by core.due refl
  where
    is : (o : Option How) → core.due ≡ o → unwrap_or o Deadlock ≡ how
    is o e = sym (ap (λ (o : Option How). unwrap_or o Deadlock) e) ∙ end_is job core how next

    by : (o : Option How) → core.due ≡ o → MayEnd job core how
    by None e = subst (MayEnd job core) (is None e) (alone (next-alone job core e (subst (MayEndVoted job core) (sym (is None e)) (end_next job core how next).1)))
    by (Some other) e = due (e ∙ ap Some (is (Some other) e))

-- an end that comes next, or alone
abbrev Comes : Job → Core → How → Type 0
Comes job core how = (next_action job core ≡ DoEnd how) ⊎ EndsAlone job core how

module _ (f : Fields) (h : Holds f) (how : How) (now : Comes f.job (core_in f) how) where
  -- no end has come
  alone-open : (so : How) → EndsAlone f.job (core_in f) so → (core_in f).ended ≡ None
  alone-open Deadlock stuck = (going-parts (core_in f) (and_parts _ _ (and_parts _ _ stuck).0).0).1
  alone-open (Sink bytes) e = (going-parts (core_in f) e.0).1
  alone-open so e = absurd e

  now-open : Comes f.job (core_in f) how → (core_in f).ended ≡ None
  now-open (inl next) = (end_next f.job (core_in f) how next).0
  now-open (inr e) = alone-open how e

  pub end-not-over : (core_in f).ended ≡ None
  end-not-over = now-open now

  ended-none : f.ended ≡ None
  ended-none = h.ended_is ∙ end-not-over

  -- it is allowed
  pub end-allowed : MayEnd f.job (core_in f) how
  end-allowed = by now
    where
      by : Comes f.job (core_in f) how → MayEnd f.job (core_in f) how
      by (inl next) = next-ends f.job (core_in f) how next
      by (inr e) = alone e

  -- an end that comes next is an exit, a trap or a deadlock; one that comes alone a deadlock or a failing sink's
  next-over : next_action f.job (core_in f) ≡ DoEnd how → IsOver how ⊎ (how ≡ Deadlock)
  next-over next = by (core_in f).due refl
    where
      by : (o : Option How) → (core_in f).due ≡ o → IsOver how ⊎ (how ≡ Deadlock)
      by None e = inr (sym (sym (ap (λ (o : Option How). unwrap_or o Deadlock) e) ∙ end_is f.job (core_in f) how next))
      by (Some other) e = inl (subst IsOver (sym (ap (λ (o : Option How). unwrap_or o Deadlock) e) ∙ end_is f.job (core_in f) how next) ((keeps-replicas f h).due_over other e))

  -- so it is not by views that differ
  not-by-views : how ≡ Differ → ⊥
  not-by-views is = by now
    where
      next : IsOver how ⊎ (how ≡ Deadlock) → ⊥
      next (inl o) = elim (subst IsOver is o) [ ]
      next (inr e) = let g : Differ ≡ Deadlock = sym is ∙ e in cc

      by : Comes f.job (core_in f) how → ⊥
      by (inl n) = next (next-over n)
      by (inr e) = subst (EndsAlone f.job (core_in f)) is e

  -- a failing sink's end comes alone, and did not take all of the last write
  end-cuts : (taken : ℕ) → how ≡ Sink taken → taken < f.wrote
  end-cuts taken is = by now
    where
      next : IsOver how ⊎ (how ≡ Deadlock) → taken < f.wrote
      next (inl o) = elim (subst IsOver is o) [ ]
      next (inr e) = absurd (let g : Sink taken ≡ Deadlock = sym is ∙ e in cc)

      by : Comes f.job (core_in f) how → taken < f.wrote
      by (inl n) = next (next-over n)
      by (inr e) = (let less : taken < (core_in f).wrote = (subst (EndsAlone f.job (core_in f)) is e).1 in let w = h.counts.wrote_is in omega arith)

  -- what the sink took
  pub end-took : (taken : ℕ) → how ≡ Sink taken → (taken ≤ f.wrote) × (f.wrote ≤ f.sent)
  end-took taken is = (let less = end-cuts taken is in omega (arith, less), h.counts.within)

  pub end-room : 0 < f.places
  end-room = let e : one_end f.ended ≡ 1 = ap one_end ended-none in let k = h.room in omega arith

  -- what was written, less what the sink did not take
  end-counts-sink : (taken sent : ℕ) → how ≡ Sink taken → sent ≡ f.sent - (f.wrote - taken) → CountsBytes sent 0 f.steps (after f.job (core_in f) (End how))
  unfolding after
  end-counts-sink taken sent is count =
      let less = end-cuts taken is in
      let w = h.counts.wrote_is in
      let s = h.counts.sent_are in
      let within = h.counts.within in
      let cut : length (cut_output (core_in f) how) ≡ length (core_in f).output - ((core_in f).wrote - taken) =
      ap (λ (x : How). length (cut_output (core_in f) x)) is ∙ cut-length (core_in f) taken (omega arith) (omega arith) in
      record {
        sent_are = omega (arith, cut);
        wrote_is = refl;
        within = omega arith;
        few = let few = h.counts.few in omega arith;
      }

  end-counts-other : ((taken : ℕ) → how ≡ Sink taken → ⊥) → CountsBytes f.sent 0 f.steps (after f.job (core_in f) (End how))
  unfolding after
  end-counts-other other = record {
    sent_are = h.counts.sent_are ∙ ap length (sym (cut-none (core_in f) how other));
    wrote_is = refl;
    within = omega arith;
    few = h.counts.few;
  }

  pub end-counts : (sent : ℕ) → ((taken : ℕ) → how ≡ Sink taken → sent ≡ f.sent - (f.wrote - taken)) → (((taken : ℕ) → how ≡ Sink taken → ⊥) → sent ≡ f.sent) → CountsBytes sent 0 f.steps (after f.job (core_in f) (End how))
  end-counts sent cut whole = by how refl
    where
      kept : ((taken : ℕ) → how ≡ Sink taken → ⊥) → CountsBytes sent 0 f.steps (after f.job (core_in f) (End how))
      kept other = subst (λ (n : ℕ). CountsBytes n 0 f.steps (after f.job (core_in f) (End how))) (sym (whole other)) (end-counts-other other)

      by : (so : How) → how ≡ so → CountsBytes sent 0 f.steps (after f.job (core_in f) (End how))
      by (Sink taken) e = end-counts-sink taken sent e (cut taken e)
      by so e = kept (λ taken g. let k : so ≡ Sink taken = sym e ∙ g in cc)

  pub end-holds : (f' : Fields) → CountsBytes f'.sent f'.wrote f'.steps (after f.job (core_in f) (End how)) → f'.job ≡ f.job → f'.kernel ≡ f.kernel → f'.cooperates ≡ f.cooperates → f'.blocked ≡ f.blocked → f'.most_done ≡ f.most_done → f'.steps ≡ f.steps → f'.waits ≡ f.waits → f'.seats ≡ f.seats → f'.leases ≡ f.leases → f'.due ≡ None → f'.ended ≡ Some how
      → f'.journal ≡ f.journal ++ End how ∷ [] → f.places ≡ f'.places + 1 → Holds f'
  end-holds f' counts = ended-holds f f' h how ended-none end-allowed counts (not-differ f.job _ f'.views how (outcome_of-append f.journal (End how ∷ []) (no-outcome f h ended-none)) not-by-views)

-- one that is next, or that of a failing sink, comes next
pub comes-next : (job : Job) (core : Core) (how : How) → (next_action job core ≡ DoEnd how) ⊎ EndsSink core how → IsNext job core (End how)
comes-next job core how (inl next) = inl next
comes-next job core how (inr sink) = inr (inl sink)
