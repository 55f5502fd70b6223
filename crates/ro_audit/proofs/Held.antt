-- No two leases that are out are of one driver, by the rules of the job's mode.
use Rattle.std.proofs.Common.{List, Option, sym, subst}
use Rattle.std.specs.Prelude.{not}
use Rattle.std.specs.List.{filter}
use Rattle.ro_journal.specs.declared.Entry.{Entry}
use Rattle.ro_journal.specs.declared.Entry.TheVariants.{Take, Put, Part, Vote, Free, Scrub, End}
use Rattle.ro_journal.specs.declared.Lease.{Lease}
use Rattle.ro_peer.specs.Peers.{Peer}
use Rattle.ro_settings.specs.declared.Mode.TheVariants.{Voted, Cooperative}
use Rattle.ro_legal.specs.Core.{Job, Core, is_lease}
use Rattle.ro_legal.specs.Core.{opening_core as opening_voted}
use Rattle.ro_legal.specs.Cooperative.{opening_core, core_after_put, core_after_part, voted_stop, voted_event, freed_event, after, IsAllowed, Legal, replay}
use Rattle.ro_legal.specs.Modes.{Mode}
use Rattle.ro_legal.specs.Modes as modes
use Rattle.ro_legal.proofs.Leases.{OneEach, differ-filter, one_take, one_each}
use Rattle.ro_legal.proofs.TogetherJournals.{legal-keeps}
use Rattle.ro_legal.proofs.TogetherLeases.{event-leases}

-- fewer leases are of as many drivers each
each-fewer : (lease : Lease) (leases : List Lease) → OneEach leases → OneEach (filter (λ other. not (is_lease lease other)) leases)
each-fewer lease leases h = differ-filter (λ l. l.driver) (λ other. not (is_lease lease other)) leases h

-- what each entry of a cooperative run keeps
each-after : (job : Job) (core : Core) (entry : Entry) → IsAllowed job core entry → OneEach core.leases → OneEach (after job core entry).leases
unfolding after
each-after job core (Take lease) m h = one_take job core lease m h
each-after job core (Put lease count hit) m h = subst (λ (o : Option Peer). OneEach (core_after_put job core lease count o).leases) (sym m.ran.runs) (each-fewer lease core.leases h)
each-after job core (Part lease count hit) m h = subst (λ (o : Option Peer). OneEach (core_after_part job core lease count o).leases) (sym m.ran.runs) (each-fewer lease core.leases h)
each-after job core (Vote thread count won lost did) m h = subst OneEach (sym (event-leases job core thread (voted_stop core thread) (voted_event job core thread))) h
each-after job core (Free thread) m h = subst OneEach (sym (event-leases job core thread _ (freed_event job core thread))) h
each-after job core (Scrub won lost) m h = absurd m
each-after job core (End how) m h = h

shared-each : (job : Job) (journal : List Entry) → Legal job journal → OneEach (replay job journal).leases
unfolding opening_core opening_voted
shared-each job journal legal = legal-keeps job (λ core. OneEach core.leases) (each-after job) (opening_core job) journal legal tt

-- in either mode
pub one-each : (mode : Mode) (job : Job) (journal : List Entry) → modes.Legal mode job journal → OneEach (modes.replay mode job journal).leases
one-each Voted job journal legal = one_each job journal legal
one-each Cooperative job journal legal = shared-each job journal legal
