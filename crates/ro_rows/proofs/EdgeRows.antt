-- The edges of what is allowed, by computation.
use Rattle.std.specs.Prelude.{◌≡◌, ℕ, zero, suc, ◌+◌, ◌<◌, ◌≤◌, IsSome, Bool, true, false, [], ◌∷◌, ◌++◌, length, Option, Some, None, is_none}
use Rattle.std.specs.List.{filter}
use Rattle.std.specs.Option.{option_map}
use Rattle.std.proofs.Common.{refl, sym, ap, ◌∙◌, inl, inr, arith, ⊎_elim}
use Rattle.std.proofs.Math.Dec.{lit<, lit≤}
use Rattle.ro_journal.specs.Leases.{lease_to}
use Rattle.ro_journal.specs.declared.losers.Lost.TheVariants.{Nobody, One}
use Rattle.ro_decode.specs.Table.{instruction_of}
use Rattle.ro_event.specs.declared.stops.Stop.{Stop}
use Rattle.ro_event.specs.Table.{call_at}
use Rattle.ro_region.specs.Permission.{permits_of}
use Rattle.ro_alu.specs.Results.{alu_of, taken_by}
use Rattle.ro_exec.specs.Meaning.{meaning}
use Rattle.ro_exec.specs.Next.{fetch_stop, instruction_stop, next}
use Rattle.ro_exec.specs.Threads.{first_cpu, made_cpu}
use Rattle.ro_kernel.specs.Serve.{serve, payload_of}
use Rattle.ro_journal.specs.declared.Lease.{Lease}
use Rattle.ro_journal.specs.declared.Did.TheVariants.{Served, Blocked}
use Rattle.ro_journal.specs.declared.How.{How}
use Rattle.ro_journal.specs.declared.How.TheVariants.{Exit, Deadlock, Differ, NoMajority, Limit, Sink}
use Rattle.ro_journal.specs.declared.Entry.TheVariants.{Take, Put, Vote, Free, End, Scrub}
use Rattle.ro_journal.specs.Plan.{plan_of}
use Rattle.ro_vote.specs.Verdict.{verdict_of}
use Rattle.ro_replica.specs.Replica.{opening_replica, applied, cancelled, recovered}
use Rattle.ro_replica.specs.Runs.{RanTo, struck, execute}
use Rattle.ro_replica.specs.Snapshots.{ThreadSnapshot, thread_snapshot}
use Rattle.ro_thread.specs.declared.Thread.{Thread}
use Rattle.ro_plain.specs.Machine.{Machine, opening, steppable, step, AllEnd}
use Rattle.ro_plain.proofs.Calls.{some-injective}
use Rattle.ro_legal.specs.declared.actions.Action.TheVariants as act
use Rattle.ro_legal.specs.Waits.{waited_of}
use Rattle.ro_legal.specs.Core.{Job, Core, sharing_of, opening_core, may_free}
use Rattle.ro_legal.specs.Event.{event_of}
use Rattle.ro_legal.specs.Legal.{Legal, IsAllowed, may_scrub, HasArrived, arrival, EndsAlone, EndsVote, EndsFree, EndsScrub, MayEnd, after, replay, output_of, due, alone, for_vote, for_free, for_scrub}
use Rattle.ro_legal.specs.Action.{next_action, IsNext}
use Rattle.ro_simulation.specs.Theorem.{CannotDiffer}
use Rattle.ro_simulation.specs.Guests.{exit_guest}
use Rattle.ro_simulation.specs.Rows.{flip_a0}
use Rattle.ro_simulation.specs.Drives.{driven}
use Rattle.ro_simulation.proofs.Checks.{test_legal, legal-by-test}
use Rattle.ro_rows.specs.Exit.{exit_job}
use Rattle.ro_rows.specs.Rows.{decisions, deadlock_job, deadlock_before, hello_job}
use Rattle.ro_rows.specs.Edges.{small_job, waiters_job, two_wait, unlocked, letter_job, all_hits, is_vote, page_limit_job, before_free, exit_runs, until_free, scrubbing, one_runs, one_lent, both_stand, last_lent, parted_job, parted_runs, parted_pair, hello_written, watch_job, watch_journal, with_waits, with_three_waits, votes_of}

-- a run that does not exist
no-machine : {P : Type 0} (machine : Machine) (o : Option Machine) → o ≡ Some machine → o ≡ None → P
no-machine machine o e f = absurd (let g : None ≡ Some machine = sym f ∙ e in cc)

-- an end that neither is due, nor comes alone, nor in the place of a vote, a free or a scrub
pub no-end : (job : Job) (core : Core) (how : How) → core.due ≡ None → (EndsAlone job core how → ⊥) → ((thread : ℕ) → EndsVote job core thread how → ⊥) → (EndsFree job core how → ⊥) → (EndsScrub core how → ⊥) → MayEnd job core how → ⊥
no-end job core how none a v f s (due e) = absurd (let g : None ≡ Some how = sym none ∙ e in cc)
no-end job core how none a v f s (alone e) = a e
no-end job core how none a v f s (for_vote thread may e) = v thread e
no-end job core how none a v f s (for_free thread may e) = f e
no-end job core how none a v f s (for_scrub may e) = s e

-- a stop that is not there
no-stop : (stop : Option Stop) → is_none stop ≡ true → IsSome stop → ⊥
no-stop None e s = let f : false ≡ true = s in cc
no-stop (Some stop) e s = absurd (let f : false ≡ true = e in cc)

-- a run of so many instructions, fewer than a quantum, that comes to no stop
no-arrival : (job : Job) (core : Core) (lease : Lease) (count : ℕ) (o : Option RanTo) (ran : RanTo) → o ≡ Some ran → option_map (λ (r : RanTo). is_none (arrival job core.kernel lease.thread count r.replica)) o ≡ Some true → count < job.settings.quantum → HasArrived job core lease count ran.replica → ⊥
no-arrival job core lease count o ran e f low (inl whole) = omega arith
no-arrival job core lease count o ran e f low (inr g) =
    no-stop (arrival job core.kernel lease.thread count ran.replica) (some-injective (sym (ap (option_map (λ (r : RanTo). is_none (arrival job core.kernel lease.thread count r.replica))) e) ∙ f)) g.1

-- how many faults a run struck
pub hit-is : (o : Option RanTo) (ran : RanTo) (hit : ℕ) → o ≡ Some ran → option_map (λ (r : RanTo). r.hit) o ≡ Some hit → ran.hit ≡ hit
hit-is o ran hit e f = some-injective (sym (ap (option_map (λ (r : RanTo). r.hit)) e) ∙ f)

-- ---- length_row

pub length-three : AllEnd exit_job.program 3
unfolding opening first_cpu steppable step next fetch_stop instruction_stop instruction_of call_at permits_of alu_of meaning serve payload_of
length-three [] e = lit≤ tt
length-three (zero ∷ []) e = lit≤ tt
length-three (zero ∷ zero ∷ []) e = lit≤ tt
length-three (zero ∷ zero ∷ zero ∷ []) e = lit≤ tt
length-three (zero ∷ zero ∷ zero ∷ x ∷ rest) e = no-machine e.0 _ e.1 refl
length-three (zero ∷ zero ∷ suc x ∷ rest) e = no-machine e.0 _ e.1 refl
length-three (zero ∷ suc x ∷ rest) e = no-machine e.0 _ e.1 refl
length-three (suc x ∷ rest) e = no-machine e.0 _ e.1 refl

pub length-not-two : AllEnd exit_job.program 2 → ⊥
unfolding opening first_cpu steppable step next fetch_stop instruction_stop instruction_of call_at permits_of alu_of meaning serve payload_of
length-not-two h = let f = h (0 ∷ 0 ∷ 0 ∷ []) (_, refl) in omega arith

-- ---- take_row

pub take-last : IsAllowed exit_job (opening_core exit_job) (Take (lease_to 2 0 0))
unfolding opening_core sharing_of opening_replica struck execute applied cancelled recovered verdict_of event_of after next_action first_cpu made_cpu next fetch_stop instruction_stop instruction_of call_at permits_of alu_of taken_by meaning serve payload_of
take-last = record { going = refl; driver_exists = lit< tt; driver_is_idle = refl; lendable = refl }

pub take-no-such : IsAllowed exit_job (opening_core exit_job) (Take (lease_to 3 0 0)) → ⊥
unfolding opening_core sharing_of opening_replica struck execute applied cancelled recovered verdict_of event_of after next_action first_cpu made_cpu next fetch_stop instruction_stop instruction_of call_at permits_of alu_of taken_by meaning serve payload_of
take-no-such h = let f = h.driver_exists in omega arith

pub take-any-first : IsAllowed exit_job (opening_core exit_job) (Take (lease_to 0 1 0))
unfolding opening_core sharing_of opening_replica struck execute applied cancelled recovered verdict_of event_of after next_action first_cpu made_cpu next fetch_stop instruction_stop instruction_of call_at permits_of alu_of taken_by meaning serve payload_of
take-any-first = record { going = refl; driver_exists = lit< tt; driver_is_idle = refl; lendable = refl }

pub take-next : IsNext exit_job (opening_core exit_job) (Take (lease_to 0 0 0))
unfolding opening_core sharing_of opening_replica struck execute applied cancelled recovered verdict_of event_of after next_action first_cpu made_cpu next fetch_stop instruction_stop instruction_of call_at permits_of alu_of taken_by meaning serve payload_of
take-next = refl

pub take-not-next : IsNext exit_job (opening_core exit_job) (Take (lease_to 0 1 0)) → ⊥
unfolding opening_core sharing_of opening_replica struck execute applied cancelled recovered verdict_of event_of after next_action first_cpu made_cpu next fetch_stop instruction_stop instruction_of call_at permits_of alu_of taken_by meaning serve payload_of
take-not-next h = let f : act.Lend 0 0 ≡ act.Lend 1 0 = h in cc

-- ---- put_row

pub put-at-stop : IsAllowed exit_job (replay exit_job (Take (lease_to 0 0 0) ∷ [])) (Put (lease_to 0 0 0) 2 0)
unfolding opening_core sharing_of opening_replica struck execute applied cancelled recovered verdict_of event_of after next_action first_cpu made_cpu next fetch_stop instruction_stop instruction_of call_at permits_of alu_of taken_by meaning serve payload_of
put-at-stop = record { returns = record { not_ended = refl; out = refl; ran = _; runs = refl; struck = refl }; arrives = inr (lit< tt, refl, refl) }

pub put-early : IsAllowed exit_job (replay exit_job (Take (lease_to 0 0 0) ∷ [])) (Put (lease_to 0 0 0) 1 0) → ⊥
unfolding opening_core sharing_of opening_replica struck execute applied cancelled recovered verdict_of event_of after next_action first_cpu made_cpu next fetch_stop instruction_stop instruction_of call_at permits_of alu_of taken_by meaning serve payload_of
put-early h = no-arrival exit_job (replay exit_job (Take (lease_to 0 0 0) ∷ [])) (lease_to 0 0 0) 1 _ h.returns.ran h.returns.runs refl (lit< tt) h.arrives

pub put-late : IsAllowed exit_job (replay exit_job (Take (lease_to 0 0 0) ∷ [])) (Put (lease_to 0 0 0) 3 0) → ⊥
unfolding opening_core sharing_of opening_replica struck execute applied cancelled recovered verdict_of event_of after next_action first_cpu made_cpu next fetch_stop instruction_stop instruction_of call_at permits_of alu_of taken_by meaning serve payload_of
put-late h = let f : None ≡ Some h.returns.ran = h.returns.runs in cc

pub put-another : IsAllowed exit_job (replay exit_job (Take (lease_to 0 0 0) ∷ [])) (Put (lease_to 1 0 0) 2 0) → ⊥
unfolding opening_core sharing_of opening_replica struck execute applied cancelled recovered verdict_of event_of after next_action first_cpu made_cpu next fetch_stop instruction_stop instruction_of call_at permits_of alu_of taken_by meaning serve payload_of
put-another h = let f : false ≡ true = h.returns.out in cc

pub put-unstruck : IsAllowed exit_job (replay exit_job (Take (lease_to 0 0 0) ∷ [])) (Put (lease_to 0 0 0) 2 1) → ⊥
unfolding opening_core sharing_of opening_replica struck execute applied cancelled recovered verdict_of event_of after next_action first_cpu made_cpu next fetch_stop instruction_stop instruction_of call_at permits_of alu_of taken_by meaning serve payload_of
put-unstruck h = let f : h.returns.ran.hit ≡ 0 = hit-is _ h.returns.ran 0 h.returns.runs refl in let g : h.returns.ran.hit ≡ 1 = h.returns.struck in omega arith

-- ---- differ_row

pub differ-three : CannotDiffer (small_job exit_guest (flip_a0 1 ∷ []) 3 1000000000)
differ-three = inl refl

pub differ-two : CannotDiffer (small_job exit_guest [] 2 1000000000)
differ-two = inr (inr refl)

pub differ-struck : CannotDiffer (small_job exit_guest (flip_a0 1 ∷ []) 2 1000000000) → ⊥
differ-struck h = ⊎_elim (λ (e : 2 ≡ 3). omega arith) (λ rest. ⊎_elim (λ (e : 2 ≡ 5). omega arith) (λ (e : flip_a0 1 ∷ [] ≡ []). cc) rest) h

-- ---- stuck_row

pub stuck-stuck : IsAllowed deadlock_job (replay deadlock_job deadlock_before) (End Deadlock)
unfolding opening_core sharing_of opening_replica struck execute applied cancelled recovered verdict_of event_of after next_action first_cpu made_cpu next fetch_stop instruction_stop instruction_of call_at permits_of alu_of taken_by meaning serve payload_of
stuck-stuck = (refl, alone refl)

pub stuck-not-opening : IsAllowed deadlock_job (opening_core deadlock_job) (End Deadlock) → ⊥
unfolding opening_core sharing_of opening_replica struck execute applied cancelled recovered verdict_of event_of after next_action first_cpu made_cpu next fetch_stop instruction_stop instruction_of call_at permits_of alu_of taken_by meaning serve payload_of
stuck-not-opening h = no-end deadlock_job (opening_core deadlock_job) Deadlock refl (λ e. let f : false ≡ true = e in cc) (λ thread e. e) (λ e. e) (λ e. e) h.1

pub stuck-not-going : IsAllowed exit_job (replay exit_job exit_runs) (End Deadlock) → ⊥
unfolding opening_core sharing_of opening_replica struck execute applied cancelled recovered verdict_of event_of after next_action first_cpu made_cpu next fetch_stop instruction_stop instruction_of call_at permits_of alu_of taken_by meaning serve payload_of
stuck-not-going h = no-end exit_job (replay exit_job exit_runs) Deadlock refl (λ e. let f : false ≡ true = e in cc) (λ thread e. e) (λ e. e) (λ e. e) h.1

pub stuck-not-lent : IsAllowed exit_job (replay exit_job (Take (lease_to 0 0 0) ∷ [])) (End Deadlock) → ⊥
unfolding opening_core sharing_of opening_replica struck execute applied cancelled recovered verdict_of event_of after next_action first_cpu made_cpu next fetch_stop instruction_stop instruction_of call_at permits_of alu_of taken_by meaning serve payload_of
stuck-not-lent h = no-end exit_job (replay exit_job (Take (lease_to 0 0 0) ∷ [])) Deadlock refl (λ e. let f : false ≡ true = e in cc) (λ thread e. e) (λ e. e) (λ e. e) h.1

pub stuck-not-free : IsAllowed (page_limit_job 1000000000) (replay (page_limit_job 1000000000) before_free) (End Deadlock) → ⊥
unfolding opening_core sharing_of opening_replica struck execute applied cancelled recovered verdict_of event_of after next_action first_cpu made_cpu next fetch_stop instruction_stop instruction_of call_at permits_of alu_of taken_by meaning serve payload_of
stuck-not-free h = no-end (page_limit_job 1000000000) (replay (page_limit_job 1000000000) before_free) Deadlock refl (λ e. let f : false ≡ true = e in cc) (λ thread e. e) (λ e. e) (λ e. e) h.1

pub stuck-not-last : IsAllowed exit_job (replay exit_job last_lent) (End Deadlock) → ⊥
unfolding opening_core sharing_of opening_replica struck execute applied cancelled recovered verdict_of event_of after next_action first_cpu made_cpu next fetch_stop instruction_stop instruction_of call_at permits_of alu_of taken_by meaning serve payload_of
stuck-not-last h = no-end exit_job (replay exit_job last_lent) Deadlock refl (λ e. let f : false ≡ true = e in cc) (λ thread e. e) (λ e. e) (λ e. e) h.1

-- ---- limit_row

pub limit-vote-fits : IsAllowed (small_job exit_guest [] 3 3) (replay (small_job exit_guest [] 3 3) exit_runs) (Vote 0 2 0 Nobody Served)
unfolding opening_core sharing_of opening_replica struck execute applied cancelled recovered verdict_of event_of after next_action first_cpu made_cpu next fetch_stop instruction_stop instruction_of call_at permits_of alu_of taken_by meaning serve payload_of
limit-vote-fits = record { may = refl; verdict = refl; count_is = refl; event = _; comes = refl; did_is = refl; fits = lit≤ tt }

pub limit-no-limit : IsAllowed (small_job exit_guest [] 3 3) (replay (small_job exit_guest [] 3 3) exit_runs) (End (Limit 0 3)) → ⊥
unfolding opening_core sharing_of opening_replica struck execute applied cancelled recovered verdict_of event_of after next_action first_cpu made_cpu next fetch_stop instruction_stop instruction_of call_at permits_of alu_of taken_by meaning serve payload_of
limit-no-limit h = no-end (small_job exit_guest [] 3 3) (replay (small_job exit_guest [] 3 3) exit_runs) (Limit 0 3) refl (λ e. e) (λ thread e. let f : 3 < 0 + 3 = e.above in omega arith) (λ e. let f : 3 ≡ 1 = e.1 in omega arith) (λ e. e) h.1

pub limit-vote-passes : IsAllowed (small_job exit_guest [] 3 2) (replay (small_job exit_guest [] 3 2) exit_runs) (Vote 0 2 0 Nobody Served) → ⊥
unfolding opening_core sharing_of opening_replica struck execute applied cancelled recovered verdict_of event_of after next_action first_cpu made_cpu next fetch_stop instruction_stop instruction_of call_at permits_of alu_of taken_by meaning serve payload_of
limit-vote-passes h = let f = h.fits in omega arith

pub limit-limit : IsAllowed (small_job exit_guest [] 3 2) (replay (small_job exit_guest [] 3 2) exit_runs) (End (Limit 0 3))
unfolding opening_core sharing_of opening_replica struck execute applied cancelled recovered verdict_of event_of after next_action first_cpu made_cpu next fetch_stop instruction_stop instruction_of call_at permits_of alu_of taken_by meaning serve payload_of
limit-limit = (refl, for_vote 0 refl (record { won = 0; lost = []; verdict = refl; count = 2; count_is = refl; event = _; comes = refl; steps_are = refl; next_is = refl; above = lit< tt }))

pub limit-free-fits : IsAllowed (page_limit_job 18) (replay (page_limit_job 18) before_free) (Free 0)
unfolding opening_core sharing_of opening_replica struck execute applied cancelled recovered verdict_of event_of after next_action first_cpu made_cpu next fetch_stop instruction_stop instruction_of call_at permits_of alu_of taken_by meaning serve payload_of
limit-free-fits = record { may = refl; fits = lit≤ tt }

pub limit-no-free-limit : IsAllowed (page_limit_job 18) (replay (page_limit_job 18) before_free) (End (Limit 17 1)) → ⊥
unfolding opening_core sharing_of opening_replica struck execute applied cancelled recovered verdict_of event_of after next_action first_cpu made_cpu next fetch_stop instruction_stop instruction_of call_at permits_of alu_of taken_by meaning serve payload_of
limit-no-free-limit h = no-end (page_limit_job 18) (replay (page_limit_job 18) before_free) (Limit 17 1) refl (λ e. e) (λ thread e. let f : 18 < 17 + 1 = e.above in omega arith) (λ e. let f : 18 < 17 + 1 = e.2 in omega arith) (λ e. e) h.1

pub limit-free-passes : IsAllowed (page_limit_job 17) (replay (page_limit_job 17) before_free) (Free 0) → ⊥
unfolding opening_core sharing_of opening_replica struck execute applied cancelled recovered verdict_of event_of after next_action first_cpu made_cpu next fetch_stop instruction_stop instruction_of call_at permits_of alu_of taken_by meaning serve payload_of
limit-free-passes h = let f : 17 + 1 ≤ 17 = h.fits in omega arith

pub limit-free-limit : IsAllowed (page_limit_job 17) (replay (page_limit_job 17) before_free) (End (Limit 17 1))
unfolding opening_core sharing_of opening_replica struck execute applied cancelled recovered verdict_of event_of after next_action first_cpu made_cpu next fetch_stop instruction_stop instruction_of call_at permits_of alu_of taken_by meaning serve payload_of
limit-free-limit = (refl, for_free 0 refl (refl, refl, lit< tt))

-- ---- free_first_row

-- it passes the test of legality
letter-passes : test_legal letter_job (opening_core letter_job) (driven 200 letter_job) ≡ true
unfolding opening_core sharing_of opening_replica struck execute applied cancelled recovered verdict_of event_of after next_action first_cpu made_cpu next fetch_stop instruction_stop instruction_of call_at permits_of alu_of taken_by meaning serve payload_of
letter-passes = refl

pub free-first-decides : decisions (driven 200 letter_job) ≡ Vote 0 6 0 Nobody Served ∷ Vote 0 3 0 Nobody Served ∷ Vote 0 3 0 Nobody Blocked ∷ Vote 1 4 0 Nobody Served ∷ Vote 1 4 0 Nobody Served ∷ Vote 1 2 0 Nobody Served ∷ Vote 1 2 0 (One 2) Served ∷ Free 0 ∷ Vote 2 4 0 Nobody Served ∷ Vote 0 2 0 Nobody Blocked ∷ Vote 2 4 0 Nobody Served ∷ Vote 2 2 0 Nobody Served ∷ Vote 2 2 0 Nobody Served ∷ Free 0 ∷ Vote 0 2 0 Nobody Served ∷ End (Exit 0) ∷ []
unfolding opening_core sharing_of opening_replica struck execute applied cancelled recovered verdict_of event_of after next_action first_cpu made_cpu next fetch_stop instruction_stop instruction_of call_at permits_of alu_of taken_by meaning serve payload_of
free-first-decides = refl

pub free-first-legal : Legal letter_job (driven 200 letter_job)
free-first-legal = legal-by-test letter_job (opening_core letter_job) (driven 200 letter_job) letter-passes

pub free-first-votes : length (filter is_vote (driven 200 letter_job)) ≡ 13
unfolding opening_core sharing_of opening_replica struck execute applied cancelled recovered verdict_of event_of after next_action first_cpu made_cpu next fetch_stop instruction_stop instruction_of call_at permits_of alu_of taken_by meaning serve payload_of
free-first-votes = refl

pub free-first-hits : all_hits (driven 200 letter_job) ≡ 1
unfolding opening_core sharing_of opening_replica struck execute applied cancelled recovered verdict_of event_of after next_action first_cpu made_cpu next fetch_stop instruction_stop instruction_of call_at permits_of alu_of taken_by meaning serve payload_of
free-first-hits = refl

pub free-first-steps : length (plan_of (driven 200 letter_job)) ≡ 53
unfolding opening_core sharing_of opening_replica struck execute applied cancelled recovered verdict_of event_of after next_action first_cpu made_cpu next fetch_stop instruction_stop instruction_of call_at permits_of alu_of taken_by meaning serve payload_of
free-first-steps = refl

pub free-first-output : output_of letter_job (driven 200 letter_job) ≡ 65 ∷ 66 ∷ []
unfolding opening_core sharing_of opening_replica struck execute applied cancelled recovered verdict_of event_of after next_action first_cpu made_cpu next fetch_stop instruction_stop instruction_of call_at permits_of alu_of taken_by meaning serve payload_of
free-first-output = refl

-- ---- waiters_row

-- it passes the test of legality
waiters-pass : test_legal waiters_job (opening_core waiters_job) unlocked ≡ true
unfolding opening_core sharing_of opening_replica struck execute applied cancelled recovered verdict_of event_of after next_action first_cpu made_cpu next fetch_stop instruction_stop instruction_of call_at permits_of alu_of taken_by meaning serve payload_of
waiters-pass = refl

pub waiters-legal : Legal waiters_job unlocked
waiters-legal = legal-by-test waiters_job (opening_core waiters_job) unlocked waiters-pass

pub waiters-wait : may_free waiters_job (replay waiters_job two_wait) 1 ≡ false
unfolding opening_core sharing_of opening_replica struck execute applied cancelled recovered verdict_of event_of after next_action first_cpu made_cpu next fetch_stop instruction_stop instruction_of call_at permits_of alu_of taken_by meaning serve payload_of
waiters-wait = refl

pub waiters-wait-too : may_free waiters_job (replay waiters_job two_wait) 2 ≡ false
unfolding opening_core sharing_of opening_replica struck execute applied cancelled recovered verdict_of event_of after next_action first_cpu made_cpu next fetch_stop instruction_stop instruction_of call_at permits_of alu_of taken_by meaning serve payload_of
waiters-wait-too = refl

pub waiters-may : may_free waiters_job (replay waiters_job unlocked) 1 ≡ true
unfolding opening_core sharing_of opening_replica struck execute applied cancelled recovered verdict_of event_of after next_action first_cpu made_cpu next fetch_stop instruction_stop instruction_of call_at permits_of alu_of taken_by meaning serve payload_of
waiters-may = refl

pub waiters-may-too : may_free waiters_job (replay waiters_job unlocked) 2 ≡ true
unfolding opening_core sharing_of opening_replica struck execute applied cancelled recovered verdict_of event_of after next_action first_cpu made_cpu next fetch_stop instruction_stop instruction_of call_at permits_of alu_of taken_by meaning serve payload_of
waiters-may-too = refl

pub waiters-lowest : next_action waiters_job (replay waiters_job unlocked) ≡ act.Free 1
unfolding opening_core sharing_of opening_replica struck execute applied cancelled recovered verdict_of event_of after next_action first_cpu made_cpu next fetch_stop instruction_stop instruction_of call_at permits_of alu_of taken_by meaning serve payload_of
waiters-lowest = refl

pub waiters-early : next_action waiters_job (with_three_waits 0 0 63 (replay waiters_job unlocked)) ≡ act.Free 1
unfolding opening_core sharing_of opening_replica struck execute applied cancelled recovered verdict_of event_of after next_action first_cpu made_cpu next fetch_stop instruction_stop instruction_of call_at permits_of alu_of taken_by meaning serve payload_of
waiters-early = refl

pub waiters-overdue : next_action waiters_job (with_three_waits 0 63 64 (replay waiters_job unlocked)) ≡ act.Free 2
unfolding opening_core sharing_of opening_replica struck execute applied cancelled recovered verdict_of event_of after next_action first_cpu made_cpu next fetch_stop instruction_stop instruction_of call_at permits_of alu_of taken_by meaning serve payload_of
waiters-overdue = refl

pub waiters-longer : next_action waiters_job (with_three_waits 0 64 65 (replay waiters_job unlocked)) ≡ act.Free 2
unfolding opening_core sharing_of opening_replica struck execute applied cancelled recovered verdict_of event_of after next_action first_cpu made_cpu next fetch_stop instruction_stop instruction_of call_at permits_of alu_of taken_by meaning serve payload_of
waiters-longer = refl

pub waiters-shorter : next_action waiters_job (with_three_waits 0 65 64 (replay waiters_job unlocked)) ≡ act.Free 1
unfolding opening_core sharing_of opening_replica struck execute applied cancelled recovered verdict_of event_of after next_action first_cpu made_cpu next fetch_stop instruction_stop instruction_of call_at permits_of alu_of taken_by meaning serve payload_of
waiters-shorter = refl

pub waiters-alike : next_action waiters_job (with_three_waits 0 64 64 (replay waiters_job unlocked)) ≡ act.Free 1
unfolding opening_core sharing_of opening_replica struck execute applied cancelled recovered verdict_of event_of after next_action first_cpu made_cpu next fetch_stop instruction_stop instruction_of call_at permits_of alu_of taken_by meaning serve payload_of
waiters-alike = refl

pub waiters-then-waits : may_free waiters_job (replay waiters_job (unlocked ++ Free 1 ∷ [])) 2 ≡ false
unfolding opening_core sharing_of opening_replica struck execute applied cancelled recovered verdict_of event_of after next_action first_cpu made_cpu next fetch_stop instruction_stop instruction_of call_at permits_of alu_of taken_by meaning serve payload_of
waiters-then-waits = refl

pub waiters-lent : may_free waiters_job (replay waiters_job (unlocked ++ Take (lease_to 0 0 0) ∷ [])) 1 ≡ false
unfolding opening_core sharing_of opening_replica struck execute applied cancelled recovered verdict_of event_of after next_action first_cpu made_cpu next fetch_stop instruction_stop instruction_of call_at permits_of alu_of taken_by meaning serve payload_of
waiters-lent = refl

-- ---- vote_row

pub vote-lent : IsAllowed deadlock_job (replay deadlock_job one_lent) (Vote 0 3 0 Nobody Blocked) → ⊥
unfolding opening_core sharing_of opening_replica struck execute applied cancelled recovered verdict_of event_of after next_action first_cpu made_cpu next fetch_stop instruction_stop instruction_of call_at permits_of alu_of taken_by meaning serve payload_of
vote-lent h = let f : false ≡ true = h.may in cc

pub vote-home : IsAllowed deadlock_job (replay deadlock_job both_stand) (Vote 0 3 0 Nobody Blocked)
unfolding opening_core sharing_of opening_replica struck execute applied cancelled recovered verdict_of event_of after next_action first_cpu made_cpu next fetch_stop instruction_stop instruction_of call_at permits_of alu_of taken_by meaning serve payload_of
vote-home = record { may = refl; verdict = refl; count_is = refl; event = _; comes = refl; did_is = refl; fits = lit≤ tt }

pub vote-either : IsAllowed deadlock_job (replay deadlock_job both_stand) (Vote 1 3 0 Nobody Blocked)
unfolding opening_core sharing_of opening_replica struck execute applied cancelled recovered verdict_of event_of after next_action first_cpu made_cpu next fetch_stop instruction_stop instruction_of call_at permits_of alu_of taken_by meaning serve payload_of
vote-either = record { may = refl; verdict = refl; count_is = refl; event = _; comes = refl; did_is = refl; fits = lit≤ tt }

pub vote-lowest : IsNext deadlock_job (replay deadlock_job both_stand) (Vote 0 3 0 Nobody Blocked)
unfolding opening_core sharing_of opening_replica struck execute applied cancelled recovered verdict_of event_of after next_action first_cpu made_cpu next fetch_stop instruction_stop instruction_of call_at permits_of alu_of taken_by meaning serve payload_of
vote-lowest = refl

pub vote-not-higher : IsNext deadlock_job (replay deadlock_job both_stand) (Vote 1 3 0 Nobody Blocked) → ⊥
unfolding opening_core sharing_of opening_replica struck execute applied cancelled recovered verdict_of event_of after next_action first_cpu made_cpu next fetch_stop instruction_stop instruction_of call_at permits_of alu_of taken_by meaning serve payload_of
vote-not-higher h = let f : act.Vote 0 ≡ act.Vote 1 = h in cc

pub vote-may : IsAllowed letter_job (replay letter_job (until_free (driven 200 letter_job))) (Vote 2 4 0 Nobody Served)
unfolding opening_core sharing_of opening_replica struck execute applied cancelled recovered verdict_of event_of after next_action first_cpu made_cpu next fetch_stop instruction_stop instruction_of call_at permits_of alu_of taken_by meaning serve payload_of
vote-may = record { may = refl; verdict = refl; count_is = refl; event = _; comes = refl; did_is = refl; fits = lit≤ tt }

pub vote-free : IsNext letter_job (replay letter_job (until_free (driven 200 letter_job))) (Free 0)
unfolding opening_core sharing_of opening_replica struck execute applied cancelled recovered verdict_of event_of after next_action first_cpu made_cpu next fetch_stop instruction_stop instruction_of call_at permits_of alu_of taken_by meaning serve payload_of
vote-free = refl

pub vote-not-next : IsNext letter_job (replay letter_job (until_free (driven 200 letter_job))) (Vote 2 4 0 Nobody Served) → ⊥
unfolding opening_core sharing_of opening_replica struck execute applied cancelled recovered verdict_of event_of after next_action first_cpu made_cpu next fetch_stop instruction_stop instruction_of call_at permits_of alu_of taken_by meaning serve payload_of
vote-not-next h = let f : act.Free 0 ≡ act.Vote 2 = h in cc

-- ---- parted_row

pub parted-two : IsAllowed (small_job exit_guest (flip_a0 1 ∷ []) 2 1000000000) (replay (small_job exit_guest (flip_a0 1 ∷ []) 2 1000000000) parted_pair) (End Differ)
unfolding opening_core sharing_of opening_replica struck execute applied cancelled recovered verdict_of event_of after next_action first_cpu made_cpu next fetch_stop instruction_stop instruction_of call_at permits_of alu_of taken_by meaning serve payload_of
parted-two = (refl, for_vote 0 refl (refl, refl))

pub parted-two-majority : IsAllowed (small_job exit_guest (flip_a0 1 ∷ []) 2 1000000000) (replay (small_job exit_guest (flip_a0 1 ∷ []) 2 1000000000) parted_pair) (End NoMajority) → ⊥
unfolding opening_core sharing_of opening_replica struck execute applied cancelled recovered verdict_of event_of after next_action first_cpu made_cpu next fetch_stop instruction_stop instruction_of call_at permits_of alu_of taken_by meaning serve payload_of
parted-two-majority h = no-end (small_job exit_guest (flip_a0 1 ∷ []) 2 1000000000) (replay (small_job exit_guest (flip_a0 1 ∷ []) 2 1000000000) parted_pair) NoMajority refl (λ e. e) (λ thread e. let f : 3 ≤ 2 = e.1 in omega arith) (λ e. e) (λ e. let f : 3 ≤ 2 = e.1 in omega arith) h.1

pub parted-three : IsAllowed parted_job (replay parted_job parted_runs) (End NoMajority)
unfolding opening_core sharing_of opening_replica struck execute applied cancelled recovered verdict_of event_of after next_action first_cpu made_cpu next fetch_stop instruction_stop instruction_of call_at permits_of alu_of taken_by meaning serve payload_of
parted-three = (refl, for_vote 0 refl (refl, lit≤ tt))

pub parted-three-differ : IsAllowed parted_job (replay parted_job parted_runs) (End Differ) → ⊥
unfolding opening_core sharing_of opening_replica struck execute applied cancelled recovered verdict_of event_of after next_action first_cpu made_cpu next fetch_stop instruction_stop instruction_of call_at permits_of alu_of taken_by meaning serve payload_of
parted-three-differ h = no-end parted_job (replay parted_job parted_runs) Differ refl (λ e. e) (λ thread e. let f : 3 ≡ 2 = e.1 in omega arith) (λ e. e) (λ e. let f : 3 ≡ 2 = e.1 in omega arith) h.1

-- ---- sink_row

pub sink-none : IsAllowed hello_job (replay hello_job hello_written) (End (Sink 0))
unfolding opening_core sharing_of opening_replica struck execute applied cancelled recovered verdict_of event_of after next_action first_cpu made_cpu next fetch_stop instruction_stop instruction_of call_at permits_of alu_of taken_by meaning serve payload_of
sink-none = (refl, alone (refl, lit< tt))

pub sink-all-but-one : IsAllowed hello_job (replay hello_job hello_written) (End (Sink 4))
unfolding opening_core sharing_of opening_replica struck execute applied cancelled recovered verdict_of event_of after next_action first_cpu made_cpu next fetch_stop instruction_stop instruction_of call_at permits_of alu_of taken_by meaning serve payload_of
sink-all-but-one = (refl, alone (refl, lit< tt))

pub sink-all : IsAllowed hello_job (replay hello_job hello_written) (End (Sink 5)) → ⊥
unfolding opening_core sharing_of opening_replica struck execute applied cancelled recovered verdict_of event_of after next_action first_cpu made_cpu next fetch_stop instruction_stop instruction_of call_at permits_of alu_of taken_by meaning serve payload_of
sink-all h = no-end hello_job (replay hello_job hello_written) (Sink 5) refl (λ e. let f : 5 < 5 = e.1 in omega arith) (λ thread e. e) (λ e. e) (λ e. e) h.1

pub sink-later : IsAllowed hello_job (replay hello_job (hello_written ++ Take (lease_to 0 0 0) ∷ [])) (End (Sink 0)) → ⊥
unfolding opening_core sharing_of opening_replica struck execute applied cancelled recovered verdict_of event_of after next_action first_cpu made_cpu next fetch_stop instruction_stop instruction_of call_at permits_of alu_of taken_by meaning serve payload_of
sink-later h = no-end hello_job (replay hello_job (hello_written ++ Take (lease_to 0 0 0) ∷ [])) (Sink 0) refl (λ e. let f : 0 < 0 = e.1 in omega arith) (λ thread e. e) (λ e. e) (λ e. e) h.1

-- ---- watch_row

-- it passes the test of legality
watch-passes : test_legal watch_job (opening_core watch_job) watch_journal ≡ true
unfolding opening_core sharing_of opening_replica struck execute applied cancelled recovered verdict_of event_of after next_action first_cpu made_cpu next fetch_stop instruction_stop instruction_of call_at permits_of alu_of taken_by meaning serve payload_of
watch-passes = refl

pub watch-driven : driven 8 watch_job ≡ watch_journal
unfolding opening_core sharing_of opening_replica struck execute applied cancelled recovered verdict_of event_of after next_action first_cpu made_cpu next fetch_stop instruction_stop instruction_of call_at permits_of alu_of taken_by meaning serve payload_of
watch-driven = refl

pub watch-legal : Legal watch_job watch_journal
watch-legal = legal-by-test watch_job (opening_core watch_job) watch_journal watch-passes

pub watch-next : next_action watch_job (replay watch_job watch_journal) ≡ act.Lend 0 0
unfolding opening_core sharing_of opening_replica struck execute applied cancelled recovered verdict_of event_of after next_action first_cpu made_cpu next fetch_stop instruction_stop instruction_of call_at permits_of alu_of taken_by meaning serve payload_of
watch-next = refl

-- ---- due_row

pub due-lent : may_scrub (replay deadlock_job one_lent) ≡ false
unfolding opening_core sharing_of opening_replica struck execute applied cancelled recovered verdict_of event_of after next_action first_cpu made_cpu next fetch_stop instruction_stop instruction_of call_at permits_of alu_of taken_by meaning serve payload_of
due-lent = refl

pub due-lendable : may_scrub (replay deadlock_job one_runs) ≡ false
unfolding opening_core sharing_of opening_replica struck execute applied cancelled recovered verdict_of event_of after next_action first_cpu made_cpu next fetch_stop instruction_stop instruction_of call_at permits_of alu_of taken_by meaning serve payload_of
due-lendable = refl

pub due-still : may_scrub (replay deadlock_job both_stand) ≡ true
unfolding opening_core sharing_of opening_replica struck execute applied cancelled recovered verdict_of event_of after next_action first_cpu made_cpu next fetch_stop instruction_stop instruction_of call_at permits_of alu_of taken_by meaning serve payload_of
due-still = refl

pub due-never : next_action deadlock_job (replay deadlock_job both_stand) ≡ act.Vote 0
unfolding opening_core sharing_of opening_replica struck execute applied cancelled recovered verdict_of event_of after next_action first_cpu made_cpu next fetch_stop instruction_stop instruction_of call_at permits_of alu_of taken_by meaning serve payload_of
due-never = refl

pub due-early : next_action (scrubbing (suc (replay deadlock_job both_stand).steps) deadlock_job) (replay deadlock_job both_stand) ≡ act.Vote 0
unfolding opening_core sharing_of opening_replica struck execute applied cancelled recovered verdict_of event_of after next_action first_cpu made_cpu next fetch_stop instruction_stop instruction_of call_at permits_of alu_of taken_by meaning serve payload_of
due-early = refl

pub due-due : next_action (scrubbing (replay deadlock_job both_stand).steps deadlock_job) (replay deadlock_job both_stand) ≡ act.Scrub
unfolding opening_core sharing_of opening_replica struck execute applied cancelled recovered verdict_of event_of after next_action first_cpu made_cpu next fetch_stop instruction_stop instruction_of call_at permits_of alu_of taken_by meaning serve payload_of
due-due = refl

pub due-before : next_action deadlock_job (replay deadlock_job one_runs) ≡ act.Vote 0
unfolding opening_core sharing_of opening_replica struck execute applied cancelled recovered verdict_of event_of after next_action first_cpu made_cpu next fetch_stop instruction_stop instruction_of call_at permits_of alu_of taken_by meaning serve payload_of
due-before = refl

pub due-lends : next_action (scrubbing 1 deadlock_job) (replay deadlock_job one_runs) ≡ act.Lend 2 1
unfolding opening_core sharing_of opening_replica struck execute applied cancelled recovered verdict_of event_of after next_action first_cpu made_cpu next fetch_stop instruction_stop instruction_of call_at permits_of alu_of taken_by meaning serve payload_of
due-lends = refl

pub due-waits : next_action (scrubbing 1 deadlock_job) (replay deadlock_job one_lent) ≡ act.Wait
unfolding opening_core sharing_of opening_replica struck execute applied cancelled recovered verdict_of event_of after next_action first_cpu made_cpu next fetch_stop instruction_stop instruction_of call_at permits_of alu_of taken_by meaning serve payload_of
due-waits = refl

pub due-not-freed : next_action (scrubbing 1 letter_job) (replay letter_job (until_free (driven 200 letter_job))) ≡ act.Scrub
unfolding opening_core sharing_of opening_replica struck execute applied cancelled recovered verdict_of event_of after next_action first_cpu made_cpu next fetch_stop instruction_stop instruction_of call_at permits_of alu_of taken_by meaning serve payload_of
due-not-freed = refl

-- ---- waits_row

pub waits-vote : next_action deadlock_job (with_waits 0 64 (replay deadlock_job both_stand)) ≡ act.Vote 1
unfolding opening_core sharing_of opening_replica struck execute applied cancelled recovered verdict_of event_of after next_action first_cpu made_cpu next fetch_stop instruction_stop instruction_of call_at permits_of alu_of taken_by meaning serve payload_of
waits-vote = refl

pub waits-early : next_action deadlock_job (with_waits 0 63 (replay deadlock_job both_stand)) ≡ act.Vote 0
unfolding opening_core sharing_of opening_replica struck execute applied cancelled recovered verdict_of event_of after next_action first_cpu made_cpu next fetch_stop instruction_stop instruction_of call_at permits_of alu_of taken_by meaning serve payload_of
waits-early = refl

pub waits-first : next_action deadlock_job (with_waits 64 0 (replay deadlock_job both_stand)) ≡ act.Vote 0
unfolding opening_core sharing_of opening_replica struck execute applied cancelled recovered verdict_of event_of after next_action first_cpu made_cpu next fetch_stop instruction_stop instruction_of call_at permits_of alu_of taken_by meaning serve payload_of
waits-first = refl

pub waits-longer : next_action deadlock_job (with_waits 64 65 (replay deadlock_job both_stand)) ≡ act.Vote 1
unfolding opening_core sharing_of opening_replica struck execute applied cancelled recovered verdict_of event_of after next_action first_cpu made_cpu next fetch_stop instruction_stop instruction_of call_at permits_of alu_of taken_by meaning serve payload_of
waits-longer = refl

pub waits-shorter : next_action deadlock_job (with_waits 65 64 (replay deadlock_job both_stand)) ≡ act.Vote 0
unfolding opening_core sharing_of opening_replica struck execute applied cancelled recovered verdict_of event_of after next_action first_cpu made_cpu next fetch_stop instruction_stop instruction_of call_at permits_of alu_of taken_by meaning serve payload_of
waits-shorter = refl

pub waits-lowest : next_action deadlock_job (with_waits 64 64 (replay deadlock_job both_stand)) ≡ act.Vote 0
unfolding opening_core sharing_of opening_replica struck execute applied cancelled recovered verdict_of event_of after next_action first_cpu made_cpu next fetch_stop instruction_stop instruction_of call_at permits_of alu_of taken_by meaning serve payload_of
waits-lowest = refl

pub waits-lend : next_action deadlock_job (with_waits 0 64 (replay deadlock_job one_runs)) ≡ act.Lend 2 1
unfolding opening_core sharing_of opening_replica struck execute applied cancelled recovered verdict_of event_of after next_action first_cpu made_cpu next fetch_stop instruction_stop instruction_of call_at permits_of alu_of taken_by meaning serve payload_of
waits-lend = refl

pub waits-lend-early : next_action deadlock_job (with_waits 0 63 (replay deadlock_job one_runs)) ≡ act.Vote 0
unfolding opening_core sharing_of opening_replica struck execute applied cancelled recovered verdict_of event_of after next_action first_cpu made_cpu next fetch_stop instruction_stop instruction_of call_at permits_of alu_of taken_by meaning serve payload_of
waits-lend-early = refl

pub waits-vote-first : next_action deadlock_job (with_waits 64 0 (replay deadlock_job one_runs)) ≡ act.Vote 0
unfolding opening_core sharing_of opening_replica struck execute applied cancelled recovered verdict_of event_of after next_action first_cpu made_cpu next fetch_stop instruction_stop instruction_of call_at permits_of alu_of taken_by meaning serve payload_of
waits-vote-first = refl

pub waits-others : waited_of (votes_of 0 63) 1 ≡ 63
waits-others = refl

pub waits-own : waited_of (votes_of 0 63) 0 ≡ 0
waits-own = refl

pub waits-anew : waited_of (votes_of 0 64 ++ votes_of 1 2) 1 ≡ 0
waits-anew = refl

pub waits-since : waited_of (votes_of 0 64 ++ votes_of 1 2) 0 ≡ 2
waits-since = refl

pub waits-freed : waited_of (votes_of 0 64 ++ Free 1 ∷ []) 1 ≡ 0
waits-freed = refl

pub waits-other-freed : waited_of (votes_of 0 3 ++ Free 0 ∷ []) 1 ≡ 3
waits-other-freed = refl

-- ---- due_deadlock_row

pub due-deadlock-scrub : next_action (scrubbing 1 deadlock_job) (replay deadlock_job deadlock_before) ≡ act.Scrub
unfolding opening_core sharing_of opening_replica struck execute applied cancelled recovered verdict_of event_of after next_action first_cpu made_cpu next fetch_stop instruction_stop instruction_of call_at permits_of alu_of taken_by meaning serve payload_of
due-deadlock-scrub = refl

pub due-deadlock-behind : next_action (scrubbing 1 deadlock_job) (after (scrubbing 1 deadlock_job) (replay deadlock_job deadlock_before) (Scrub 0 Nobody)) ≡ act.End Deadlock
unfolding opening_core sharing_of opening_replica struck execute applied cancelled recovered verdict_of event_of after next_action first_cpu made_cpu next fetch_stop instruction_stop instruction_of call_at permits_of alu_of taken_by meaning serve payload_of
due-deadlock-behind = refl

pub due-deadlock-allowed : IsAllowed (scrubbing 1 deadlock_job) (replay deadlock_job deadlock_before) (End Deadlock)
unfolding opening_core sharing_of opening_replica struck execute applied cancelled recovered verdict_of event_of after next_action first_cpu made_cpu next fetch_stop instruction_stop instruction_of call_at permits_of alu_of taken_by meaning serve payload_of
due-deadlock-allowed = (refl, alone refl)

pub due-deadlock-not-next : IsNext (scrubbing 1 deadlock_job) (replay deadlock_job deadlock_before) (End Deadlock) → ⊥
due-deadlock-not-next e = elim e [
  | inl next ↦ (let f : act.Scrub ≡ act.End Deadlock = sym due-deadlock-scrub ∙ next in cc)
  | inr (inl sink) ↦ sink
  | inr (inr (inl vote)) ↦ vote.2
  | inr (inr (inr (inl free))) ↦ free.2
  | inr (inr (inr (inr scrub))) ↦ scrub.1
]

-- ---- snapshot_row

pub snapshot-exited : (one other : Thread) → one.since ≡ other.since → thread_snapshot false one ≡ thread_snapshot false other
snapshot-exited one other e = ap (λ (n : ℕ). thread_snapshot false (record one { since = n })) e

pub snapshot-counts : (lives : Bool) (one other : Thread) → thread_snapshot lives one ≡ thread_snapshot lives other → one.since ≡ other.since
snapshot-counts true one other e = ap (λ (s : ThreadSnapshot). s.since) e
snapshot-counts false one other e = ap (λ (s : ThreadSnapshot). s.since) e

pub snapshot-registers : (one other : Thread) → thread_snapshot true one ≡ thread_snapshot true other → one.cpu ≡ other.cpu
snapshot-registers one other e = some-injective (ap (λ (s : ThreadSnapshot). s.cpu) e)

pub snapshot-stops : (one other : Thread) → thread_snapshot true one ≡ thread_snapshot true other → one.stop ≡ other.stop
snapshot-stops one other e = ap (λ (s : ThreadSnapshot). s.stop) e
