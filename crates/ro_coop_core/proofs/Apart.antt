-- In a legal cooperative journal each replica is lent once at the most.
use Rattle.std.proofs.Common.{◌≡◌, ℕ, List, [], ◌∷◌, Option, Some, None, refl}
use Rattle.ro_event.specs.declared.stops.Stop.{Stop}
use Rattle.ro_journal.specs.declared.Entry.{Entry}
use Rattle.ro_journal.specs.declared.Entry.TheVariants.{Take, Put, Part, Vote, Free, Scrub, End}
use Rattle.ro_journal.specs.declared.Lease.{Lease}
use Rattle.ro_peer.specs.Peers.{Peer}
use Rattle.ro_legal.specs.Core.{Job, Core}
use Rattle.ro_legal.specs.Core.{opening_core as opening_voted}
use Rattle.ro_legal.specs.Event.{Event}
use Rattle.ro_legal.specs.Cooperative.{opening_core, core_after_put, core_after_part, lease_run, core_after_event, voted_event, freed_event, after, IsAllowed, LegalFrom, Legal, replay_from, replay}
use Rattle.ro_legal.proofs.Leases.{Apart, apart_take, differ-filter}

-- each lease is of a whole replica, and no two are of one
abbrev AreApart : Core → Type 0
AreApart core = (core.sharing ≡ None) × Apart core.leases

put-apart : (job : Job) (core : Core) (lease : Lease) (count : ℕ) (ran : Option Peer) → AreApart core → AreApart (core_after_put job core lease count ran)
put-apart job core lease count None h = h
put-apart job core lease count (Some peer) h = (h.0, differ-filter (λ l. l.replica) _ core.leases h.1)

part-apart : (job : Job) (core : Core) (lease : Lease) (count : ℕ) (ran : Option Peer) → AreApart core → AreApart (core_after_part job core lease count ran)
part-apart job core lease count None h = h
part-apart job core lease count (Some peer) h = (h.0, differ-filter (λ l. l.replica) _ core.leases h.1)

event-apart : (job : Job) (core : Core) (thread : ℕ) (stop : Option Stop) (event : Option Event) → AreApart core → AreApart (core_after_event job core thread stop event)
event-apart job core thread stop None h = h
event-apart job core thread stop (Some event) h = h

entry-apart : (job : Job) (core : Core) (entry : Entry) → IsAllowed job core entry → AreApart core → AreApart (after job core entry)
unfolding after
entry-apart job core (Take lease) may h = (h.0, apart_take job core lease h.0 may h.1)
entry-apart job core (Put lease count hit) may h = put-apart job core lease count (lease_run job core lease count) h
entry-apart job core (Part lease count hit) may h = part-apart job core lease count (lease_run job core lease count) h
entry-apart job core (Vote thread count won lost did) may h = event-apart job core thread _ (voted_event job core thread) h
entry-apart job core (Free thread) may h = event-apart job core thread _ (freed_event job core thread) h
entry-apart job core (Scrub won lost) may h = absurd may
entry-apart job core (End how) may h = h

apart-along : (job : Job) (core : Core) (journal : List Entry) → LegalFrom job core journal → AreApart core → AreApart (replay_from job core journal)
apart-along job core [] legal h = h
apart-along job core (entry ∷ journal) legal h = apart-along job (after job core entry) journal legal.1 (entry-apart job core entry legal.0 h)

pub leases-apart : (job : Job) (journal : List Entry) → Legal job journal → Apart (replay job journal).leases
unfolding opening_core opening_voted
leases-apart job journal legal = (apart-along job (opening_core job) journal legal (refl, tt)).1
