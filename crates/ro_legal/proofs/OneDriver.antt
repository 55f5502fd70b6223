-- With one driver each lease comes back in the next entry.
use Rattle.std.proofs.Common.{◌≡◌, ℕ, ◌<◌, Bool, true, false, true≢false, not, cond, ◌||◌, List, [], ◌∷◌, Option, refl, sym, ap, ◌∙◌, subst, arith, eq-eqb}
use Rattle.std.specs.Prelude.{◌==◌}
use Rattle.std.specs.List.{list_any}
use Rattle.ro_journal.specs.declared.losers.Lost.{Lost}
use Rattle.ro_journal.specs.Losers.{numbers}
use Rattle.ro_journal.specs.declared.Entry.{Entry}
use Rattle.ro_journal.specs.declared.Entry.TheVariants.{Take, Put, Part, Vote, Free, Scrub, End}
use Rattle.ro_replica.specs.Runs.{RanTo}
use Rattle.ro_journal.specs.declared.Lease.{Lease}
use Rattle.ro_legal.specs.Core.{Job, Core, opening_core, is_lease, is_out}
use Rattle.ro_legal.specs.Event.{with_recovered}
use Rattle.ro_legal.specs.Legal.{core_after_take, core_after_put, core_after_part, event_in, freed_event, after, MayTake, MayPut, MayPart, LegalFrom, Legal, replay_from, replay}
use Rattle.ro_legal.specs.Sound.{IsOrdered}
use Rattle.ro_legal.proofs.Leases.{same-lease, event_leases}
use Rattle.ro_legal.proofs.Ordered.{ordered-opening, ordered-after, vote-parts, free-parts, scrub-parts, end-alone}
use Rattle.ro_legal.specs.Turns.{TakesTurns}

or_false : (b : Bool) → (b || false) ≡ b
or_false true = refl
or_false false = refl

-- what is taken comes back, and nothing is lent then
module _ (job : Job) (one : job.settings.drivers ≡ 1) where
  pub first : (core : Core) (lease : Lease) → MayTake job core lease → lease.driver ≡ 0
  first core lease m = let less : lease.driver < job.settings.drivers = m.driver_exists in omega arith

  -- the core in which one lease is out
  abbrev pub lent_out : Core → Lease → Core
  lent_out core lease = record (core_after_take core lease) { leases = lease ∷ [] }

  taken : (core : Core) (lease : Lease) → core.leases ≡ [] → after job core (Take lease) ≡ lent_out core lease
  unfolding after
  taken core lease home = ap (λ (ls : List Lease). record (core_after_take core lease) { leases = lease ∷ ls }) home

  pub still_lent : (core : Core) (lease : Lease) → (lent_out core lease).leases ≡ [] → ⊥
  still_lent core lease e = cc (e)

  -- what comes back is the one lease
  pub its_own : (core : Core) (lease back : Lease) → is_out (lent_out core lease) back ≡ true → is_lease back lease ≡ true
  its_own core lease back out = sym (or_false (is_lease back lease)) ∙ out

  put_home : (core : Core) (lease back : Lease) (count hit : ℕ) → MayPut job (lent_out core lease) back count hit → (after job (lent_out core lease) (Put back count hit)).leases ≡ []
  unfolding after
  put_home core lease back count hit m =
      ap (λ (o : Option RanTo). (core_after_put job (lent_out core lease) back count o).leases) m.returns.runs
      ∙ ap (λ (b : Bool). cond (not b) (lease ∷ []) []) (its_own core lease back m.returns.out)

  part_home : (core : Core) (lease back : Lease) (count hit : ℕ) → MayPart job (lent_out core lease) back count hit → (after job (lent_out core lease) (Part back count hit)).leases ≡ []
  unfolding after
  part_home core lease back count hit m =
      ap (λ (o : Option RanTo). (core_after_part job (lent_out core lease) back o).leases) m.returns.runs
      ∙ ap (λ (b : Bool). cond (not b) (lease ∷ []) []) (its_own core lease back m.returns.out)

  -- another take of the one driver
  pub no_take : (core : Core) (lease other : Lease) → lease.driver ≡ 0 → MayTake job (lent_out core lease) other → ⊥
  no_take core lease other zero_is m =
      let o : other.driver ≡ 0 = first (lent_out core lease) other m in
      let held : (lease.driver == other.driver) ≡ true = eq-eqb lease.driver other.driver (zero_is ∙ sym o) in
      true≢false (sym m.driver_is_idle ∙ ap (λ (b : Bool). not (b || false)) held)

  voted_home : (core : Core) (thread count won : ℕ) (lost : Lost) (did : _) → core.leases ≡ [] → (after job core (Vote thread count won lost did)).leases ≡ []
  unfolding after
  voted_home core thread count won lost did home = event_leases core thread count (with_recovered won (numbers lost) core.replicas) (event_in job core thread won) ∙ home

  freed_home : (core : Core) (thread : ℕ) → core.leases ≡ [] → (after job core (Free thread)).leases ≡ []
  unfolding after
  freed_home core thread home = event_leases core thread 0 core.replicas (freed_event job core thread) ∙ home

  scrubbed_home : (core : Core) (won : ℕ) (lost : Lost) → core.leases ≡ [] → (after job core (Scrub won lost)).leases ≡ []
  unfolding after
  scrubbed_home core won lost home = home

  ended_home : (core : Core) (how : _) → core.leases ≡ [] → (after job core (End how)).leases ≡ []
  unfolding after
  ended_home core how home = home

  turns_from : (core : Core) (journal : List Entry) → IsOrdered job core → LegalFrom job core journal → core.leases ≡ [] → (replay_from job core journal).leases ≡ [] → TakesTurns journal
  turns_from core [] o legal home end = tt
  turns_from core (Take lease ∷ []) o legal home end = still_lent core lease (sym (ap (λ (c : Core). c.leases) (taken core lease home)) ∙ end)
  turns_from core (Take lease ∷ Take other ∷ js) o legal home end =
      no_take core lease other (first core lease legal.0) (subst (λ (c : Core). MayTake job c other) (taken core lease home) legal.1.0)
  turns_from core (Take lease ∷ Put back n k ∷ js) o legal home end =
      let m : MayPut job (lent_out core lease) back n k = subst (λ (c : Core). MayPut job c back n k) (taken core lease home) legal.1.0 in
      let zero_is = first core lease legal.0 in
      let o' = ordered-after job core (Take lease) legal.0 o in
      let home' : (after job (after job core (Take lease)) (Put back n k)).leases ≡ [] = ap (λ (c : Core). (after job c (Put back n k)).leases) (taken core lease home) ∙ put_home core lease back n k m in
      (zero_is, ap (λ (l : Lease). l.driver) (sym (same-lease back lease (its_own core lease back m.returns.out))) ∙ zero_is, turns_from (after job (after job core (Take lease)) (Put back n k)) js (ordered-after job (after job core (Take lease)) (Put back n k) legal.1.0 o') legal.1.1 home' end)
  turns_from core (Take lease ∷ Part back n k ∷ js) o legal home end =
      let m : MayPart job (lent_out core lease) back n k = subst (λ (c : Core). MayPart job c back n k) (taken core lease home) legal.1.0 in
      let zero_is = first core lease legal.0 in
      let o' = ordered-after job core (Take lease) legal.0 o in
      let home' : (after job (after job core (Take lease)) (Part back n k)).leases ≡ [] = ap (λ (c : Core). (after job c (Part back n k)).leases) (taken core lease home) ∙ part_home core lease back n k m in
      (zero_is, ap (λ (l : Lease). l.driver) (sym (same-lease back lease (its_own core lease back m.returns.out))) ∙ zero_is, turns_from (after job (after job core (Take lease)) (Part back n k)) js (ordered-after job (after job core (Take lease)) (Part back n k) legal.1.0 o') legal.1.1 home' end)
  turns_from core (Take lease ∷ Vote v n w l i ∷ js) o legal home end =
      still_lent core lease (sym (ap (λ (c : Core). c.leases) (taken core lease home)) ∙ (vote-parts (after job core (Take lease)) v legal.1.0.may).alone)
  turns_from core (Take lease ∷ Free v ∷ js) o legal home end =
      still_lent core lease (sym (ap (λ (c : Core). c.leases) (taken core lease home)) ∙ (free-parts job (after job core (Take lease)) v legal.1.0.may).alone)
  turns_from core (Take lease ∷ Scrub w l ∷ js) o legal home end =
      still_lent core lease (sym (ap (λ (c : Core). c.leases) (taken core lease home)) ∙ (scrub-parts (after job core (Take lease)) legal.1.0.may).alone)
  turns_from core (Take lease ∷ End how ∷ js) o legal home end =
      still_lent core lease (sym (ap (λ (c : Core). c.leases) (taken core lease home)) ∙ end-alone job (after job core (Take lease)) how legal.1.0.1 (ordered-after job core (Take lease) legal.0 o))
  turns_from core (Put lease n k ∷ js) o legal home end =
      true≢false (sym legal.0.returns.out ∙ ap (list_any (is_lease lease)) home)
  turns_from core (Part lease n k ∷ js) o legal home end =
      true≢false (sym legal.0.returns.out ∙ ap (list_any (is_lease lease)) home)
  turns_from core (Vote t n w l i ∷ js) o legal home end =
      turns_from (after job core (Vote t n w l i)) js (ordered-after job core (Vote t n w l i) legal.0 o) legal.1 (voted_home core t n w l i home) end
  turns_from core (Free t ∷ js) o legal home end =
      turns_from (after job core (Free t)) js (ordered-after job core (Free t) legal.0 o) legal.1 (freed_home core t home) end
  turns_from core (Scrub w l ∷ js) o legal home end =
      turns_from (after job core (Scrub w l)) js (ordered-after job core (Scrub w l) legal.0 o) legal.1 (scrubbed_home core w l home) end
  turns_from core (End how ∷ js) o legal home end =
      turns_from (after job core (End how)) js (ordered-after job core (End how) legal.0 o) legal.1 (ended_home core how home) end

  pub turns_of_one : (journal : List Entry) → Legal job journal → (replay job journal).leases ≡ [] → TakesTurns journal
  unfolding opening_core
  turns_of_one journal legal end = turns_from (opening_core job) journal (ordered-opening job) legal refl end
