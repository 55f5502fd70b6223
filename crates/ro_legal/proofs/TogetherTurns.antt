-- With one driver of a cooperative run each lease comes back in the next entry.
use Rattle.std.specs.Prelude.{◌≡◌, ℕ, ◌<◌, Bool, true, not, cond, List, [], ◌∷◌, Option, Some, None}
use Rattle.std.specs.List.{list_any}
use Rattle.std.specs.Option.{option_map}
use Rattle.std.proofs.Common.{refl, sym, ap, ◌∙◌, subst, arith}
use Rattle.std.proofs.lemmas.Bool.{true≢false, and_parts}
use Rattle.ro_event.specs.declared.stops.Stop.TheVariants.{Calls}
use Rattle.ro_journal.specs.declared.Did.{Did}
use Rattle.ro_journal.specs.declared.How.{How}
use Rattle.ro_journal.specs.declared.How.TheVariants.{Deadlock, Sink}
use Rattle.ro_journal.specs.declared.Lease.{Lease}
use Rattle.ro_journal.specs.declared.losers.Lost.{Lost}
use Rattle.ro_journal.specs.declared.Entry.{Entry}
use Rattle.ro_journal.specs.declared.Entry.TheVariants.{Take, Put, Part, Vote, Free, Scrub, End}
use Rattle.ro_peer.specs.Peers.{Peer}
use Rattle.ro_legal.specs.Core.{Job, Core, is_lease, is_out}
use Rattle.ro_legal.specs.Core.{opening_core as opening_voted}
use Rattle.ro_legal.specs.Legal.{MayTake, core_after_take}
use Rattle.ro_legal.specs.Turns.{TakesTurns}
use Rattle.ro_legal.specs.Cooperative.{opening_core, core_after_put, core_after_part, voted_stop, voted_event, freed_event, after, MayPut, MayPart, MayEnd, due, alone, for_vote, for_free, LegalFrom, Legal, replay_from, replay}
use Rattle.ro_legal.proofs.Leases.{same-lease}
use Rattle.ro_legal.proofs.OneDriver.{first, lent_out, still_lent, its_own, no_take}
use Rattle.ro_legal.proofs.Ordered.{going-parts, none-lent-is, vote-parts, free-parts}
use Rattle.ro_legal.proofs.TogetherLeases.{event-leases}

module _ (job : Job) (one : job.settings.drivers ≡ 1) where
  taken : (core : Core) (lease : Lease) → core.leases ≡ [] → after job core (Take lease) ≡ lent_out job one core lease
  unfolding after
  taken core lease home = ap (λ (ls : List Lease). record (core_after_take core lease) { leases = lease ∷ ls }) home

  -- nothing else comes while it is out
  lent-still : (core : Core) (lease : Lease) → core.leases ≡ [] → (after job core (Take lease)).leases ≡ [] → ⊥
  lent-still core lease home none = still_lent job one core lease (sym (ap (λ (c : Core). c.leases) (taken core lease home)) ∙ none)

  no-end : (core : Core) (lease : Lease) (how : How) → core.due ≡ None → MayEnd job (lent_out job one core lease) how → ⊥
  no-end core lease how going (due e) = let f : None ≡ Some how = sym going ∙ e in cc
  no-end core lease Deadlock going (alone e) = still_lent job one core lease (none-lent-is (lent_out job one core lease) (and_parts _ _ (and_parts _ _ e).0).1)
  no-end core lease (Sink bytes) going (alone e) = let less : bytes < 0 = e.1 in absurd (omega arith)
  no-end core lease how going (alone e) = e
  no-end core lease how going (for_vote thread may e) = still_lent job one core lease (vote-parts (lent_out job one core lease) thread may).alone
  no-end core lease how going (for_free thread may e) = still_lent job one core lease (free-parts job (lent_out job one core lease) thread may).alone

  -- it comes back, and nothing is lent then
  put_home : (core : Core) (lease back : Lease) (count hit : ℕ) → MayPut job (lent_out job one core lease) back count hit → (after job (lent_out job one core lease) (Put back count hit)).leases ≡ []
  unfolding after
  put_home core lease back count hit m =
      ap (λ (o : Option Peer). (core_after_put job (lent_out job one core lease) back count o).leases) m.ran.runs
      ∙ ap (λ (b : Bool). cond (not b) (lease ∷ []) []) (its_own job one core lease back m.ran.out)

  part_home : (core : Core) (lease back : Lease) (count hit : ℕ) → MayPart job (lent_out job one core lease) back count hit → (after job (lent_out job one core lease) (Part back count hit)).leases ≡ []
  unfolding after
  part_home core lease back count hit m =
      ap (λ (o : Option Peer). (core_after_part job (lent_out job one core lease) back count o).leases) m.ran.runs
      ∙ ap (λ (b : Bool). cond (not b) (lease ∷ []) []) (its_own job one core lease back m.ran.out)

  own_driver : (core : Core) (lease back : Lease) → lease.driver ≡ 0 → is_out (lent_out job one core lease) back ≡ true → back.driver ≡ 0
  own_driver core lease back zero_is out = ap (λ (l : Lease). l.driver) (sym (same-lease back lease (its_own job one core lease back out))) ∙ zero_is

  voted_home : (core : Core) (thread count won : ℕ) (lost : Lost) (did : Did) → core.leases ≡ [] → (after job core (Vote thread count won lost did)).leases ≡ []
  unfolding after
  voted_home core thread count won lost did home = event-leases job core thread (voted_stop core thread) (voted_event job core thread) ∙ home

  freed_home : (core : Core) (thread : ℕ) → core.leases ≡ [] → (after job core (Free thread)).leases ≡ []
  unfolding after
  freed_home core thread home = event-leases job core thread (option_map Calls (core.blocked thread)) (freed_event job core thread) ∙ home

  ended_home : (core : Core) (how : How) → core.leases ≡ [] → (after job core (End how)).leases ≡ []
  unfolding after
  ended_home core how home = home

  not_out : (core : Core) (lease : Lease) → core.leases ≡ [] → is_out core lease ≡ true → ⊥
  not_out core lease home out = true≢false (sym out ∙ ap (list_any (is_lease lease)) home)

  turns_from : (core : Core) (journal : List Entry) → LegalFrom job core journal → core.leases ≡ [] → (replay_from job core journal).leases ≡ [] → TakesTurns journal
  turns_from core [] legal home end = tt
  turns_from core (Take lease ∷ []) legal home end = lent-still core lease home end
  turns_from core (Take lease ∷ Take other ∷ js) legal home end =
      no_take job one core lease other (first job one core lease legal.0) (subst (λ (c : Core). MayTake job c other) (taken core lease home) legal.1.0)
  turns_from core (Take lease ∷ Put back n k ∷ js) legal home end =
      let m : MayPut job (lent_out job one core lease) back n k = subst (λ (c : Core). MayPut job c back n k) (taken core lease home) legal.1.0 in
      let zero_is = first job one core lease legal.0 in
      (zero_is, own_driver core lease back zero_is m.ran.out, turns_from (after job (after job core (Take lease)) (Put back n k)) js legal.1.1 (ap (λ (c : Core). (after job c (Put back n k)).leases) (taken core lease home) ∙ put_home core lease back n k m) end)
  turns_from core (Take lease ∷ Part back n k ∷ js) legal home end =
      let m : MayPart job (lent_out job one core lease) back n k = subst (λ (c : Core). MayPart job c back n k) (taken core lease home) legal.1.0 in
      let zero_is = first job one core lease legal.0 in
      (zero_is, own_driver core lease back zero_is m.ran.out, turns_from (after job (after job core (Take lease)) (Part back n k)) js legal.1.1 (ap (λ (c : Core). (after job c (Part back n k)).leases) (taken core lease home) ∙ part_home core lease back n k m) end)
  turns_from core (Take lease ∷ Vote v n w l i ∷ js) legal home end = lent-still core lease home (vote-parts (after job core (Take lease)) v legal.1.0.may).alone
  turns_from core (Take lease ∷ Free v ∷ js) legal home end = lent-still core lease home (free-parts job (after job core (Take lease)) v legal.1.0.may).alone
  turns_from core (Take lease ∷ Scrub w l ∷ js) legal home end = absurd legal.1.0
  turns_from core (Take lease ∷ End how ∷ js) legal home end =
      no-end core lease how (going-parts core legal.0.going).0 (subst (λ (c : Core). MayEnd job c how) (taken core lease home) legal.1.0.1)
  turns_from core (Put lease n k ∷ js) legal home end = not_out core lease home legal.0.ran.out
  turns_from core (Part lease n k ∷ js) legal home end = not_out core lease home legal.0.ran.out
  turns_from core (Vote t n w l i ∷ js) legal home end = turns_from (after job core (Vote t n w l i)) js legal.1 (voted_home core t n w l i home) end
  turns_from core (Free t ∷ js) legal home end = turns_from (after job core (Free t)) js legal.1 (freed_home core t home) end
  turns_from core (Scrub w l ∷ js) legal home end = absurd legal.0
  turns_from core (End how ∷ js) legal home end = turns_from (after job core (End how)) js legal.1 (ended_home core how home) end

  pub together_turns_of_one : (journal : List Entry) → Legal job journal → (replay job journal).leases ≡ [] → TakesTurns journal
  unfolding opening_core opening_voted
  together_turns_of_one journal legal end = turns_from (opening_core job) journal legal refl end
