-- What is not allowed in a cooperative run, by computation.
use Rattle.std.specs.Prelude.{◌≡◌, ℕ, zero, suc, ◌+◌, ◌<◌, ◌≤◌, ◌⊎◌, IsSome, Bool, true, false, Option, Some, None, is_some}
use Rattle.std.specs.Option.{option_map, option_map_or}
use Rattle.std.proofs.Common.{refl, sym, ap, ◌∙◌, inl, inr, arith}
use Rattle.std.proofs.Math.Dec.{lit<, lit≤}
use Rattle.std.proofs.lemmas.Bool.{false≢true}
use Rattle.ro_decode.specs.Table.{instruction_of}
use Rattle.ro_event.specs.Table.{call_at}
use Rattle.ro_region.specs.Permission.{permits_of}
use Rattle.ro_alu.specs.Results.{alu_of, taken_by}
use Rattle.ro_exec.specs.Meaning.{meaning}
use Rattle.ro_exec.specs.Next.{fetch_stop, instruction_stop, next}
use Rattle.ro_exec.specs.Threads.{first_cpu, made_cpu}
use Rattle.ro_kernel.specs.Serve.{serve, payload_of}
use Rattle.ro_journal.specs.declared.Did.TheVariants.{Served}
use Rattle.ro_journal.specs.declared.How.TheVariants.{Differ, Limit}
use Rattle.ro_journal.specs.declared.Entry.TheVariants.{Put, Vote, End}
use Rattle.ro_journal.specs.declared.losers.Lost.TheVariants.{Nobody, One}
use Rattle.ro_journal.specs.Plan.{event_steps}
use Rattle.ro_replica.specs.Replica.{opening_replica, applied, cancelled}
use Rattle.ro_plain.proofs.Calls.{some-injective}
use Rattle.ro_orders.specs.Choices.{in_table}
use Rattle.ro_peer.specs.Peers.{Peer, leased}
use Rattle.ro_legal.specs.Core.{opening_core as opening_voted}
use Rattle.ro_legal.specs.Event.{Event, event_of}
use Rattle.ro_legal.specs.Cooperative.{opening_core, lease_run, arrival, voted_event, after, MayEnd, due, alone, for_vote, for_free, IsAllowed}
use Rattle.ro_coop.specs.Guests.{put_by, vote_on}
use Rattle.ro_coop.specs.Contests.{lease_by, writers_job}
use Rattle.ro_rows.specs.Cooperative.{limited_job, first_lent, both_there, lent_at}

-- of a run that exists a test says what it says of any
of-run : {X : Type 0} (test : X → Bool) (o : Option X) (x : X) → option_map_or test o false ≡ false → o ≡ Some x → test x ≡ true → ⊥
of-run test None x e f h = absurd (let g : None ≡ Some x = f in cc)
of-run test (Some y) x e f h = false≢true (sym e ∙ (ap test (some-injective f) ∙ h))

-- how many steps an event is
steps-is : (o : Option Event) (event : Event) (count : ℕ) → o ≡ Some event → option_map (λ (e : Event). event_steps e.did) o ≡ Some count → event_steps event.did ≡ count
steps-is o event count e f = some-injective (sym (ap (option_map (λ (e : Event). event_steps e.did)) e) ∙ f)

-- the run of two steps stands at no stop
no-arrival : option_map_or (λ (peer : Peer). is_some (arrival writers_job first_lent.kernel 0 2 peer)) (lease_run writers_job first_lent (lease_by 0 0) 2) false ≡ false
unfolding in_table opening_core opening_voted after opening_replica first_cpu made_cpu next fetch_stop instruction_stop instruction_of call_at permits_of alu_of taken_by meaning serve payload_of event_of applied cancelled leased
no-arrival = refl

-- the vote's event is one step
one-step : option_map (λ (e : Event). event_steps e.did) (voted_event (limited_job 3) (both_there 3) 0) ≡ Some 1
unfolding in_table opening_core opening_voted after opening_replica first_cpu made_cpu next fetch_stop instruction_stop instruction_of call_at permits_of alu_of taken_by meaning serve payload_of event_of applied cancelled leased
one-step = refl

-- ---- refused_row

pub refused-put : IsAllowed writers_job first_lent (put_by 0 0 3)
unfolding in_table opening_core opening_voted after opening_replica first_cpu made_cpu next fetch_stop instruction_stop instruction_of call_at permits_of alu_of taken_by meaning serve payload_of event_of applied cancelled leased
refused-put = record { ran = record { not_ended = refl; out = refl; peer = _; runs = refl; within = refl }; unstruck = refl; arrives = inr (lit< tt, refl) }

pub refused-short : IsAllowed writers_job first_lent (put_by 0 0 2) → ⊥
unfolding in_table opening_core opening_voted after opening_replica first_cpu made_cpu next fetch_stop instruction_stop instruction_of call_at permits_of alu_of taken_by meaning serve payload_of event_of applied cancelled leased
refused-short h = by h.arrives
  where
    by : (2 ≡ writers_job.settings.quantum) ⊎ ((2 < writers_job.settings.quantum) × IsSome (arrival writers_job first_lent.kernel 0 2 h.ran.peer)) → ⊥
    by (inl whole) = omega arith
    by (inr g) = of-run (λ (peer : Peer). is_some (arrival writers_job first_lent.kernel 0 2 peer)) (lease_run writers_job first_lent (lease_by 0 0) 2) h.ran.peer no-arrival h.ran.runs g.1

pub refused-hit : IsAllowed writers_job first_lent (Put (lease_by 0 0) 3 1) → ⊥
unfolding in_table opening_core opening_voted after opening_replica first_cpu made_cpu next fetch_stop instruction_stop instruction_of call_at permits_of alu_of taken_by meaning serve payload_of event_of applied cancelled leased
refused-hit h = let e : ◌≡◌ {A = ℕ} 1 0 = h.unstruck in omega arith

pub refused-near : IsAllowed writers_job (lent_at 1023) (put_by 0 1 6)
unfolding in_table opening_core opening_voted after opening_replica first_cpu made_cpu next fetch_stop instruction_stop instruction_of call_at permits_of alu_of taken_by meaning serve payload_of event_of applied cancelled leased
refused-near = record { ran = record { not_ended = refl; out = refl; peer = _; runs = refl; within = refl }; unstruck = refl; arrives = inr (lit< tt, refl) }

pub refused-ahead : IsAllowed writers_job (lent_at 1024) (put_by 0 1 6) → ⊥
unfolding in_table opening_core opening_voted after opening_replica first_cpu made_cpu next fetch_stop instruction_stop instruction_of call_at permits_of alu_of taken_by meaning serve payload_of event_of applied cancelled leased
refused-ahead h = let e : false ≡ true = h.ran.within in cc

pub refused-vote : IsAllowed (limited_job 4) (both_there 4) (vote_on 0 3 Served)
unfolding in_table opening_core opening_voted after opening_replica first_cpu made_cpu next fetch_stop instruction_stop instruction_of call_at permits_of alu_of taken_by meaning serve payload_of event_of applied cancelled leased
refused-vote = record { may = refl; view = _; agreed = ((refl, (refl, tt)), refl); first = refl; none_lost = refl; count_is = refl; event = _; comes = refl; did_is = refl; fits = lit≤ tt }

pub refused-winner : IsAllowed (limited_job 4) (both_there 4) (Vote 0 3 1 Nobody Served) → ⊥
unfolding in_table opening_core opening_voted after opening_replica first_cpu made_cpu next fetch_stop instruction_stop instruction_of call_at permits_of alu_of taken_by meaning serve payload_of event_of applied cancelled leased
refused-winner h = let e : ◌≡◌ {A = ℕ} 1 0 = h.first in omega arith

pub refused-loser : IsAllowed (limited_job 4) (both_there 4) (Vote 0 3 0 (One 1) Served) → ⊥
unfolding in_table opening_core opening_voted after opening_replica first_cpu made_cpu next fetch_stop instruction_stop instruction_of call_at permits_of alu_of taken_by meaning serve payload_of event_of applied cancelled leased
refused-loser h = let e : One 1 ≡ Nobody = h.none_lost in cc

pub refused-differ : IsAllowed (limited_job 4) (both_there 4) (End Differ) → ⊥
unfolding in_table opening_core opening_voted after opening_replica first_cpu made_cpu next fetch_stop instruction_stop instruction_of call_at permits_of alu_of taken_by meaning serve payload_of event_of applied cancelled leased
refused-differ h = by h.1
  where
    by : MayEnd (limited_job 4) (both_there 4) (Differ) → ⊥
    by (due e) = absurd (let f : None ≡ Some (Differ) = e in cc)
    by (alone e) = e
    by (for_vote zero may e) = e _ ((refl, (refl, tt)), refl)
    by (for_vote (suc thread) may e) = false≢true may
    by (for_free thread may e) = e

pub refused-fits : IsAllowed (limited_job 4) (both_there 4) (End (Limit 3 1)) → ⊥
unfolding in_table opening_core opening_voted after opening_replica first_cpu made_cpu next fetch_stop instruction_stop instruction_of call_at permits_of alu_of taken_by meaning serve payload_of event_of applied cancelled leased
refused-fits h = by h.1
  where
    by : MayEnd (limited_job 4) (both_there 4) (Limit 3 1) → ⊥
    by (due e) = absurd (let f : None ≡ Some (Limit 3 1) = e in cc)
    by (alone e) = e
    by (for_vote zero may e) = let f : 4 < 3 + 1 = e.above in omega arith
    by (for_vote (suc thread) may e) = false≢true may
    by (for_free thread may e) = let f : 4 < 3 + 1 = e.2 in omega arith

pub refused-passes : IsAllowed (limited_job 3) (both_there 3) (vote_on 0 3 Served) → ⊥
unfolding in_table opening_core opening_voted after opening_replica first_cpu made_cpu next fetch_stop instruction_stop instruction_of call_at permits_of alu_of taken_by meaning serve payload_of event_of applied cancelled leased
refused-passes h = let e : 3 + 1 ≤ 3 = h.fits in omega arith

pub refused-limit : IsAllowed (limited_job 3) (both_there 3) (End (Limit 3 1))
unfolding in_table opening_core opening_voted after opening_replica first_cpu made_cpu next fetch_stop instruction_stop instruction_of call_at permits_of alu_of taken_by meaning serve payload_of event_of applied cancelled leased
refused-limit = (refl, for_vote 0 refl (record { view = _; agreed = ((refl, (refl, tt)), refl); event = _; comes = refl; steps_are = refl; next_is = refl; above = lit< tt }))

pub refused-more : IsAllowed (limited_job 3) (both_there 3) (End (Limit 3 2)) → ⊥
unfolding in_table opening_core opening_voted after opening_replica first_cpu made_cpu next fetch_stop instruction_stop instruction_of call_at permits_of alu_of taken_by meaning serve payload_of event_of applied cancelled leased
refused-more h = by h.1
  where
    by : MayEnd (limited_job 3) (both_there 3) (Limit 3 2) → ⊥
    by (due e) = absurd (let f : None ≡ Some (Limit 3 2) = e in cc)
    by (alone e) = e
    by (for_vote zero may e) = let f : ◌≡◌ {A = ℕ} 2 1 = e.next_is ∙ steps-is _ e.event 1 e.comes one-step in omega arith
    by (for_vote (suc thread) may e) = false≢true may
    by (for_free thread may e) = let f : ◌≡◌ {A = ℕ} 2 1 = e.1 in omega arith

pub refused-other-steps : IsAllowed (limited_job 3) (both_there 3) (End (Limit 4 1)) → ⊥
unfolding in_table opening_core opening_voted after opening_replica first_cpu made_cpu next fetch_stop instruction_stop instruction_of call_at permits_of alu_of taken_by meaning serve payload_of event_of applied cancelled leased
refused-other-steps h = by h.1
  where
    by : MayEnd (limited_job 3) (both_there 3) (Limit 4 1) → ⊥
    by (due e) = absurd (let f : None ≡ Some (Limit 4 1) = e in cc)
    by (alone e) = e
    by (for_vote zero may e) = let f : ◌≡◌ {A = ℕ} 4 3 = e.steps_are in omega arith
    by (for_vote (suc thread) may e) = false≢true may
    by (for_free thread may e) = let f : ◌≡◌ {A = ℕ} 4 3 = e.0 in omega arith
