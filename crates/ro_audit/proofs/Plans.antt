-- The steps of a core are as many as the plan of its journal has.
use Rattle.std.proofs.Common.{◌≡◌, ℕ, ◌+◌, List, [], ◌∷◌, length, Option, refl, ap, ◌∙◌, arith, length-append}
use Rattle.std.specs.Prelude.{replicate}
use Rattle.std.proofs.lemmas.List.{length-replicate}
use Rattle.ro_journal.specs.declared.Entry.{Entry}
use Rattle.ro_journal.specs.declared.Entry.TheVariants.{Take, Put, Part, Vote, Free, Scrub, End}
use Rattle.ro_journal.specs.Losers.{numbers}
use Rattle.ro_journal.specs.Plan.{entry_plan, event_steps, plan_of}
use Rattle.ro_legal.specs.Core.{Job, Core, opening_core}
use Rattle.ro_legal.specs.Event.{Event, with_recovered}
use Rattle.ro_legal.specs.Legal.{after, lease_run, core_after_event, event_in, IsAllowed, LegalFrom, Legal, replay_from, replay}
use Rattle.ro_legal.proofs.Leases.{put-only, part-only}
use Rattle.ro_legal.proofs.Ordered.{free-parts, freed-is, freed-steps}

entry-steps : (job : Job) (core : Core) (entry : Entry) → IsAllowed job core entry → (after job core entry).steps ≡ core.steps + length (entry_plan entry)
unfolding after
entry-steps job core (Take lease) m = omega arith
entry-steps job core (Put lease count hit) m = let same = ap (λ (c : Core). c.steps) (put-only job core lease count (lease_run job core lease count)) in omega arith
entry-steps job core (Part lease count hit) m = let same = ap (λ (c : Core). c.steps) (part-only job core lease (lease_run job core lease count)) in omega arith
entry-steps job core (Vote thread count won lost did) m =
    let comes : (core_after_event core thread count (with_recovered won (numbers lost) core.replicas) (event_in job core thread won)).steps ≡ core.steps + count + event_steps m.event.did =
    ap (λ (o : Option Event). (core_after_event core thread count (with_recovered won (numbers lost) core.replicas) o).steps) m.comes
    in
    let did_is : event_steps m.event.did ≡ event_steps did = ap event_steps m.did_is in
    let both = length-append (replicate count thread) (replicate (event_steps did) thread) in
    let one = length-replicate count thread in
    let other = length-replicate (event_steps did) thread in
    omega arith
entry-steps job core (Free thread) m =
    let p = free-parts job core thread m.may in
    let comes = ap (λ (o : Option Event). (core_after_event core thread 0 core.replicas o).steps) (freed-is job core thread p.call p.blocked_on) in
    let one = ap event_steps (freed-steps job core.kernel thread p.call p.goes_on) in
    omega arith
entry-steps job core (Scrub won lost) m = omega arith
entry-steps job core (End how) m = omega arith

steps-from : (job : Job) (core : Core) (journal : List Entry) → LegalFrom job core journal → (replay_from job core journal).steps ≡ core.steps + length (plan_of journal)
steps-from job core [] legal = omega arith
steps-from job core (entry ∷ journal) legal =
    let first = entry-steps job core entry legal.0 in
    let rest = steps-from job (after job core entry) journal legal.1 in
    let both = length-append (entry_plan entry) (plan_of journal) in
    omega arith

pub plan_steps : (job : Job) (journal : List Entry) → Legal job journal → (replay job journal).steps ≡ length (plan_of journal)
unfolding opening_core
plan_steps job journal legal =
    let none : (opening_core job).steps ≡ 0 = refl in
    let sum : (replay job journal).steps ≡ (opening_core job).steps + length (plan_of journal) = steps-from job (opening_core job) journal legal in
    sum ∙ ap (λ (n : ℕ). n + length (plan_of journal)) none ∙ omega arith
