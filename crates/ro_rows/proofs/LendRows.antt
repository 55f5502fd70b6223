-- Leases that have a few pages of their replica, by computation.
use Rattle.std.specs.Prelude.{◌≡◌, IsSome, Bool, true, false, [], ◌∷◌, ◌++◌, map, Option, Some, None, is_none}
use Rattle.std.specs.Option.{option_map}
use Rattle.std.proofs.Common.{refl, sym, ap, ◌∙◌, inl, inr, arith}
use Rattle.std.proofs.lemmas.Bool.{true≢false}
use Rattle.std.proofs.Math.Dec.{lit<, lit≤}
use Rattle.ro_journal.specs.Leases.{lease_to}
use Rattle.ro_journal.specs.declared.Lease.{Lease}
use Rattle.ro_journal.specs.declared.Entry.TheVariants.{Take, Put, Part, Vote}
use Rattle.ro_journal.specs.declared.losers.Lost.TheVariants.{Nobody}
use Rattle.ro_journal.specs.declared.Did.TheVariants.{Served}
use Rattle.ro_kernel.specs.Kernel.{lives_on}
use Rattle.ro_replica.specs.Views.{is_unstopped}
use Rattle.ro_decode.specs.Table.{instruction_of}
use Rattle.ro_event.specs.Table.{call_at}
use Rattle.ro_region.specs.Permission.{permits_of}
use Rattle.ro_alu.specs.Results.{alu_of, taken_by}
use Rattle.ro_exec.specs.Meaning.{meaning}
use Rattle.ro_exec.specs.Next.{fetch_stop, instruction_stop, next}
use Rattle.ro_exec.specs.Threads.{first_cpu, made_cpu}
use Rattle.ro_kernel.specs.Serve.{serve, payload_of}
use Rattle.ro_vote.specs.Verdict.{verdict_of}
use Rattle.ro_replica.specs.Replica.{opening_replica, applied, cancelled, recovered}
use Rattle.ro_replica.specs.Runs.{RanTo, struck, execute}
use Rattle.ro_plain.proofs.Calls.{some-injective}
use Rattle.ro_legal.specs.Parts.{Whole, Pages, wish_with}
use Rattle.ro_legal.specs.Core.{Job, Core, sharing_of, opening_core, lent_to, is_lendable}
use Rattle.ro_legal.specs.Event.{event_of}
use Rattle.ro_legal.specs.Legal.{HasArrived, IsAllowed, wanted_by, after}
use Rattle.ro_legal.specs.Action.{next_action}
use Rattle.ro_rows.specs.Lending.{storing_job, struck_job, lending_job, one_driver_job, behind_in, behind, parts, first_out, exits_beside, one_exited, second_parted, second_waits, missed_by}
use Rattle.ro_rows.proofs.EdgeRows.{hit-is}

-- whether the thread of a run wants a page
wants-is : (job : Job) (core : Core) (lease : Lease) (o : Option RanTo) (ran : RanTo) (none : Bool) → o ≡ Some ran → option_map (λ (r : RanTo). is_none (wanted_by job core lease r.replica)) o ≡ Some none → is_none (wanted_by job core lease ran.replica) ≡ none
wants-is job core lease o ran none e f = some-injective (sym (ap (option_map (λ (r : RanTo). is_none (wanted_by job core lease r.replica))) e) ∙ f)

not-some : {X : Type 0} (o : Option X) → is_none o ≡ true → IsSome o → ⊥
not-some None e s = let f : false ≡ true = s in cc
not-some (Some x) e s = absurd (let f : false ≡ true = e in cc)

-- ---- lend_row

pub lend-first : IsAllowed lending_job (behind []) (Take (lease_to 0 0 0))
unfolding opening_core sharing_of opening_replica struck execute applied cancelled recovered verdict_of event_of after next_action first_cpu made_cpu next fetch_stop instruction_stop instruction_of call_at permits_of alu_of taken_by meaning serve payload_of
lend-first = record { going = refl; driver_exists = lit< tt; driver_is_idle = refl; lendable = refl }

pub lend-nothing : lent_to (behind []) 0 0 ≡ Pages []
unfolding opening_core sharing_of opening_replica struck execute applied cancelled recovered verdict_of event_of after next_action first_cpu made_cpu next fetch_stop instruction_stop instruction_of call_at permits_of alu_of taken_by meaning serve payload_of
lend-nothing = refl

pub lend-wished : lent_to (behind (parts 0 0)) 0 0 ≡ Pages (17 ∷ 16 ∷ [])
unfolding opening_core sharing_of opening_replica struck execute applied cancelled recovered verdict_of event_of after next_action first_cpu made_cpu next fetch_stop instruction_stop instruction_of call_at permits_of alu_of taken_by meaning serve payload_of
lend-wished = refl

pub lend-alone : lent_to (opening_core lending_job) 0 0 ≡ Whole
unfolding opening_core sharing_of opening_replica struck execute applied cancelled recovered verdict_of event_of after next_action first_cpu made_cpu next fetch_stop instruction_stop instruction_of call_at permits_of alu_of taken_by meaning serve payload_of
lend-alone = refl

pub lend-eight : lent_to (missed_by 8 (behind (parts 0 0))) 0 0 ≡ Pages (17 ∷ 16 ∷ [])
unfolding opening_core sharing_of opening_replica struck execute applied cancelled recovered verdict_of event_of after next_action first_cpu made_cpu next fetch_stop instruction_stop instruction_of call_at permits_of alu_of taken_by meaning serve payload_of
lend-eight = refl

pub lend-nine : lent_to (missed_by 9 (behind (parts 0 0))) 0 0 ≡ Whole
unfolding opening_core sharing_of opening_replica struck execute applied cancelled recovered verdict_of event_of after next_action first_cpu made_cpu next fetch_stop instruction_stop instruction_of call_at permits_of alu_of taken_by meaning serve payload_of
lend-nine = refl

pub lend-struck : lent_to (behind_in (struck_job 4102) []) 0 0 ≡ Whole
unfolding opening_core sharing_of opening_replica struck execute applied cancelled recovered verdict_of event_of after next_action first_cpu made_cpu next fetch_stop instruction_stop instruction_of call_at permits_of alu_of taken_by meaning serve payload_of
lend-struck = refl

pub lend-later : lent_to (behind_in (struck_job 4103) []) 0 0 ≡ Pages []
unfolding opening_core sharing_of opening_replica struck execute applied cancelled recovered verdict_of event_of after next_action first_cpu made_cpu next fetch_stop instruction_stop instruction_of call_at permits_of alu_of taken_by meaning serve payload_of
lend-later = refl

pub lend-of-another : lent_to (behind_in (struck_job 4102) []) 0 1 ≡ Pages []
unfolding opening_core sharing_of opening_replica struck execute applied cancelled recovered verdict_of event_of after next_action first_cpu made_cpu next fetch_stop instruction_stop instruction_of call_at permits_of alu_of taken_by meaning serve payload_of
lend-of-another = refl

pub lend-unshared : lent_to (behind_in one_driver_job []) 0 0 ≡ Whole
unfolding opening_core sharing_of opening_replica struck execute applied cancelled recovered verdict_of event_of after next_action first_cpu made_cpu next fetch_stop instruction_stop instruction_of call_at permits_of alu_of taken_by meaning serve payload_of
lend-unshared = refl

pub lend-both : IsAllowed lending_job (behind first_out) (Take (lease_to 1 0 1))
unfolding opening_core sharing_of opening_replica struck execute applied cancelled recovered verdict_of event_of after next_action first_cpu made_cpu next fetch_stop instruction_stop instruction_of call_at permits_of alu_of taken_by meaning serve payload_of
lend-both = record { going = refl; driver_exists = lit< tt; driver_is_idle = refl; lendable = refl }

pub lend-not-twice : is_lendable (behind first_out) 0 0 ≡ false
unfolding opening_core sharing_of opening_replica struck execute applied cancelled recovered verdict_of event_of after next_action first_cpu made_cpu next fetch_stop instruction_stop instruction_of call_at permits_of alu_of taken_by meaning serve payload_of
lend-not-twice = refl

pub lend-code : IsAllowed lending_job (behind second_waits) (Take (lease_to 1 0 1))
unfolding opening_core sharing_of opening_replica struck execute applied cancelled recovered verdict_of event_of after next_action first_cpu made_cpu next fetch_stop instruction_stop instruction_of call_at permits_of alu_of taken_by meaning serve payload_of
lend-code = record { going = refl; driver_exists = lit< tt; driver_is_idle = refl; lendable = refl }

pub lend-written : is_lendable (behind_in (storing_job true) second_waits) 0 1 ≡ false
unfolding opening_core sharing_of opening_replica struck execute applied cancelled recovered verdict_of event_of after next_action first_cpu made_cpu next fetch_stop instruction_stop instruction_of call_at permits_of alu_of taken_by meaning serve payload_of
lend-written = refl

pub lend-free : lent_to (behind second_parted) 0 1 ≡ Pages (16 ∷ [])
unfolding opening_core sharing_of opening_replica struck execute applied cancelled recovered verdict_of event_of after next_action first_cpu made_cpu next fetch_stop instruction_stop instruction_of call_at permits_of alu_of taken_by meaning serve payload_of
lend-free = refl

pub lend-taken : is_lendable (behind second_parted) 0 1 ≡ false
unfolding opening_core sharing_of opening_replica struck execute applied cancelled recovered verdict_of event_of after next_action first_cpu made_cpu next fetch_stop instruction_stop instruction_of call_at permits_of alu_of taken_by meaning serve payload_of
lend-taken = refl

pub lend-other : is_lendable (behind second_parted) 1 1 ≡ true
unfolding opening_core sharing_of opening_replica struck execute applied cancelled recovered verdict_of event_of after next_action first_cpu made_cpu next fetch_stop instruction_stop instruction_of call_at permits_of alu_of taken_by meaning serve payload_of
lend-other = refl

pub lend-whole : is_lendable (missed_by 9 (behind first_out)) 0 1 ≡ false
unfolding opening_core sharing_of opening_replica struck execute applied cancelled recovered verdict_of event_of after next_action first_cpu made_cpu next fetch_stop instruction_stop instruction_of call_at permits_of alu_of taken_by meaning serve payload_of
lend-whole = refl

-- ---- part_row

pub part-code : IsAllowed lending_job (behind (Take (lease_to 0 0 0) ∷ [])) (Part (lease_to 0 0 0) 0 0)
unfolding opening_core sharing_of opening_replica struck execute applied cancelled recovered verdict_of event_of after next_action first_cpu made_cpu next fetch_stop instruction_stop instruction_of call_at permits_of alu_of taken_by meaning serve payload_of
part-code = record { returns = record { not_ended = refl; out = refl; ran = _; runs = refl; struck = refl }; early = lit< tt; wants = refl }

pub part-no-put : IsAllowed lending_job (behind (Take (lease_to 0 0 0) ∷ [])) (Put (lease_to 0 0 0) 0 0) → ⊥
unfolding opening_core sharing_of opening_replica struck execute applied cancelled recovered verdict_of event_of after next_action first_cpu made_cpu next fetch_stop instruction_stop instruction_of call_at permits_of alu_of taken_by meaning serve payload_of
part-no-put h = by h.arrives
  where
    by : HasArrived lending_job (behind (Take (lease_to 0 0 0) ∷ [])) (lease_to 0 0 0) 0 h.returns.ran.replica → ⊥
    by (inl e) = omega arith
    by (inr g) = true≢false (sym (ap is_none g.2) ∙ wants-is lending_job (behind (Take (lease_to 0 0 0) ∷ [])) (lease_to 0 0 0) _ h.returns.ran false h.returns.runs refl)

pub part-data : IsAllowed lending_job (behind second_waits) (Take (lease_to 1 0 1)) × IsAllowed lending_job (behind (second_waits ++ Take (lease_to 1 0 1) ∷ [])) (Part (lease_to 1 0 1) 1 0)
unfolding opening_core sharing_of opening_replica struck execute applied cancelled recovered verdict_of event_of after next_action first_cpu made_cpu next fetch_stop instruction_stop instruction_of call_at permits_of alu_of taken_by meaning serve payload_of
part-data = (record { going = refl; driver_exists = lit< tt; driver_is_idle = refl; lendable = refl }, record { returns = record { not_ended = refl; out = refl; ran = _; runs = refl; struck = refl }; early = lit< tt; wants = refl })

pub part-wishes : (behind (parts 0 0)).wishes 0 0 ≡ 17 ∷ 16 ∷ []
unfolding opening_core sharing_of opening_replica struck execute applied cancelled recovered verdict_of event_of after next_action first_cpu made_cpu next fetch_stop instruction_stop instruction_of call_at permits_of alu_of taken_by meaning serve payload_of
part-wishes = refl

pub part-again : wish_with 3 (1 ∷ 2 ∷ 3 ∷ 4 ∷ []) ≡ 3 ∷ 1 ∷ 2 ∷ 4 ∷ []
unfolding opening_core sharing_of opening_replica struck execute applied cancelled recovered verdict_of event_of after next_action first_cpu made_cpu next fetch_stop instruction_stop instruction_of call_at permits_of alu_of taken_by meaning serve payload_of
part-again = refl

pub part-sixteen : wish_with 17 (16 ∷ 15 ∷ 14 ∷ 13 ∷ 12 ∷ 11 ∷ 10 ∷ 9 ∷ 8 ∷ 7 ∷ 6 ∷ 5 ∷ 4 ∷ 3 ∷ 2 ∷ 1 ∷ []) ≡ 17 ∷ 16 ∷ 15 ∷ 14 ∷ 13 ∷ 12 ∷ 11 ∷ 10 ∷ 9 ∷ 8 ∷ 7 ∷ 6 ∷ 5 ∷ 4 ∷ 3 ∷ 2 ∷ []
unfolding opening_core sharing_of opening_replica struck execute applied cancelled recovered verdict_of event_of after next_action first_cpu made_cpu next fetch_stop instruction_stop instruction_of call_at permits_of alu_of taken_by meaning serve payload_of
part-sixteen = refl

pub part-misses : (behind (parts 0 0)).misses 0 0 ≡ 2
unfolding opening_core sharing_of opening_replica struck execute applied cancelled recovered verdict_of event_of after next_action first_cpu made_cpu next fetch_stop instruction_stop instruction_of call_at permits_of alu_of taken_by meaning serve payload_of
part-misses = refl

pub part-home : (behind (parts 0 0)).leases ≡ []
unfolding opening_core sharing_of opening_replica struck execute applied cancelled recovered verdict_of event_of after next_action first_cpu made_cpu next fetch_stop instruction_stop instruction_of call_at permits_of alu_of taken_by meaning serve payload_of
part-home = refl

pub part-put : IsAllowed lending_job (behind first_out) (Put (lease_to 0 0 0) 4 0)
unfolding opening_core sharing_of opening_replica struck execute applied cancelled recovered verdict_of event_of after next_action first_cpu made_cpu next fetch_stop instruction_stop instruction_of call_at permits_of alu_of taken_by meaning serve payload_of
part-put = record { returns = record { not_ended = refl; out = refl; ran = _; runs = refl; struck = refl }; arrives = inr (lit< tt, refl, refl) }

pub part-no-part : IsAllowed lending_job (behind first_out) (Part (lease_to 0 0 0) 4 0) → ⊥
unfolding opening_core sharing_of opening_replica struck execute applied cancelled recovered verdict_of event_of after next_action first_cpu made_cpu next fetch_stop instruction_stop instruction_of call_at permits_of alu_of taken_by meaning serve payload_of
part-no-part h = not-some _ (wants-is lending_job (behind first_out) (lease_to 0 0 0) _ h.returns.ran true h.returns.runs refl) h.wants

pub part-early : IsAllowed lending_job (behind first_out) (Part (lease_to 0 0 0) 1 0) → ⊥
unfolding opening_core sharing_of opening_replica struck execute applied cancelled recovered verdict_of event_of after next_action first_cpu made_cpu next fetch_stop instruction_stop instruction_of call_at permits_of alu_of taken_by meaning serve payload_of
part-early h = not-some _ (wants-is lending_job (behind first_out) (lease_to 0 0 0) _ h.returns.ran true h.returns.runs refl) h.wants

pub part-struck : IsAllowed lending_job (behind first_out) (Put (lease_to 0 0 0) 4 1) → ⊥
unfolding opening_core sharing_of opening_replica struck execute applied cancelled recovered verdict_of event_of after next_action first_cpu made_cpu next fetch_stop instruction_stop instruction_of call_at permits_of alu_of taken_by meaning serve payload_of
part-struck h = let f : h.returns.ran.hit ≡ 0 = hit-is _ h.returns.ran 0 h.returns.runs refl in let g : h.returns.ran.hit ≡ 1 = h.returns.struck in omega arith

-- ---- exited_row

pub exited-beside : lent_to (behind []) 0 0 ≡ Pages []
unfolding opening_core sharing_of opening_replica struck execute applied cancelled recovered verdict_of event_of after next_action first_cpu made_cpu next fetch_stop instruction_stop instruction_of call_at permits_of alu_of taken_by meaning serve payload_of
exited-beside = refl

pub exited-allowed : IsAllowed lending_job (behind exits_beside) (Vote 1 4 0 Nobody Served)
unfolding opening_core sharing_of opening_replica struck execute applied cancelled recovered verdict_of event_of after next_action first_cpu made_cpu next fetch_stop instruction_stop instruction_of call_at permits_of alu_of taken_by meaning serve payload_of
exited-allowed = record { may = refl; verdict = refl; count_is = refl; event = _; comes = refl; did_is = refl; fits = lit≤ tt }

pub exited-exited : lives_on (behind one_exited).kernel 1 ≡ false
unfolding opening_core sharing_of opening_replica struck execute applied cancelled recovered verdict_of event_of after next_action first_cpu made_cpu next fetch_stop instruction_stop instruction_of call_at permits_of alu_of taken_by meaning serve payload_of
exited-exited = refl

pub exited-no-stop : map (is_unstopped 1) (behind one_exited).replicas ≡ true ∷ true ∷ true ∷ []
unfolding opening_core sharing_of opening_replica struck execute applied cancelled recovered verdict_of event_of after next_action first_cpu made_cpu next fetch_stop instruction_stop instruction_of call_at permits_of alu_of taken_by meaning serve payload_of
exited-no-stop = refl

pub exited-whole : map (λ replica. lent_to (behind one_exited) replica 0) (0 ∷ 1 ∷ 2 ∷ []) ≡ Whole ∷ Whole ∷ Whole ∷ []
unfolding opening_core sharing_of opening_replica struck execute applied cancelled recovered verdict_of event_of after next_action first_cpu made_cpu next fetch_stop instruction_stop instruction_of call_at permits_of alu_of taken_by meaning serve payload_of
exited-whole = refl
