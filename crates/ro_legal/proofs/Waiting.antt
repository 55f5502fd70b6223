-- How long threads have waited, and that none waits for long.
use Rattle.std.proofs.Common.{◌≡◌, ℕ, List, [], ◌∷◌, Option, refl, ap, ◌∙◌}
use Rattle.std.specs.List.{fold}
use Rattle.ro_event.specs.declared.calls.Call.{Call}
use Rattle.ro_journal.specs.Losers.{numbers}
use Rattle.ro_journal.specs.declared.Entry.{Entry}
use Rattle.ro_journal.specs.declared.Entry.TheVariants.{Take, Put, Part, Vote, Free, Scrub, End}
use Rattle.ro_legal.specs.Waits.{waited_after, waited_of, waited_behind}
use Rattle.ro_legal.specs.Core.{Job, Core, opening_core}
use Rattle.ro_legal.specs.Event.{Event, with_recovered}
use Rattle.ro_legal.specs.Legal.{core_after_event, lease_run, after, IsAllowed, LegalFrom, Legal, replay_from, replay}
use Rattle.ro_legal.proofs.Leases.{put-only, part-only}
use Rattle.ro_legal.proofs.Ordered.{vote-parts, free-parts, freed-is}

-- ---- the core's count is the journal's

pub entry-waited : (job : Job) (core : Core) (entry : Entry) → IsAllowed job core entry → (thread : ℕ) → (after job core entry).waited thread ≡ waited_after thread (core.waited thread) entry
unfolding after
entry-waited job core (Take lease) may thread = refl
entry-waited job core (Put lease count hit) may thread = ap (λ (c : Core). c.waited thread) (put-only job core lease count (lease_run job core lease count))
entry-waited job core (Part lease count hit) may thread = ap (λ (c : Core). c.waited thread) (part-only job core lease (lease_run job core lease count))
entry-waited job core (Vote voted count won lost did) may thread =
    ap (λ (o : Option Event). (core_after_event core voted count (with_recovered won (numbers lost) core.replicas) o).waited thread) may.comes
    ∙ ap (λ (o : Option Call). waited_behind core.waited voted o thread) (vote-parts core voted may.may).unblocked
entry-waited job core (Free freed) may thread =
    let p = free-parts job core freed may.may in
    ap (λ (o : Option Event). (core_after_event core freed 0 core.replicas o).waited thread) (freed-is job core freed p.call p.blocked_on)
    ∙ ap (λ (o : Option Call). waited_behind core.waited freed o thread) p.blocked_on
entry-waited job core (Scrub won lost) may thread = refl
entry-waited job core (End how) may thread = refl

waited-from : (job : Job) (core : Core) (journal : List Entry) → LegalFrom job core journal → (thread : ℕ) → (replay_from job core journal).waited thread ≡ fold (waited_after thread) (core.waited thread) journal
waited-from job core [] legal thread = refl
waited-from job core (entry ∷ journal) legal thread =
    waited-from job (after job core entry) journal legal.1 thread ∙ ap (λ (n : ℕ). fold (waited_after thread) n journal) (entry-waited job core entry legal.0 thread)

pub waited-is : (job : Job) (journal : List Entry) → Legal job journal → (thread : ℕ) → (replay job journal).waited thread ≡ waited_of journal thread
unfolding opening_core
waited-is job journal legal thread = waited-from job (opening_core job) journal legal thread
