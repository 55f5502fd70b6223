-- What the rows say, computed.
use Rattle.std.specs.Prelude.{◌≡◌, true, [], ◌∷◌, ◌++◌, replicate, Option, Some, None}
use Rattle.std.proofs.Common.{refl, sym, ◌∙◌}
use Rattle.ro_decode.specs.Table.{instruction_of}
use Rattle.ro_event.specs.Table.{call_at}
use Rattle.ro_region.specs.Permission.{permits_of}
use Rattle.ro_alu.specs.Results.{alu_of, taken_by}
use Rattle.ro_exec.specs.Meaning.{meaning}
use Rattle.ro_exec.specs.Next.{fetch_stop, instruction_stop, next}
use Rattle.ro_exec.specs.Threads.{first_cpu, made_cpu}
use Rattle.ro_journal.specs.declared.How.TheVariants.{Exit as ExitHow}
use Rattle.ro_kernel.specs.Serve.{serve, payload_of}
use Rattle.ro_replica.specs.Replica.{opening_replica, applied, cancelled}
use Rattle.ro_legal.specs.Event.{event_of}
use Rattle.ro_plain.specs.Order.{RaceFree}
use Rattle.ro_simulation.specs.Guests.{locking_guest}
use Rattle.ro_simulation.proofs.LockingGuest.{locking-free}
use Rattle.ro_orders.specs.Turns.{TakesByLocks}
use Rattle.ro_orders.specs.Choices.{in_table}
use Rattle.ro_orders.proofs.Tables.{by-table}
use Rattle.ro_peer.specs.Peers.{Peer, leased}
use Rattle.ro_coop.specs.Core.{OneEnters, opening_core, kernel_for, settled, run_in, LegalFrom, first_of}
use Rattle.ro_coop.specs.Rowless.{threads_of, got_in_replica}
use Rattle.ro_coop.specs.Sound.{core_behind}
use Rattle.ro_coop.specs.Guests.{letters_job, letters_mutex, page_of_thread, letters_front, letters_back, letters_journal, shown, a_reservation, kernel_reserving, core_answering, reserved_in, answer_to}
use Rattle.ro_coop.proofs.Checks.{test_legal, legal-of, legal-back}

module _ (one : OneEnters in_table) where
  pub the-end : shown (core_behind (letters_job one) (page_of_thread 2) (opening_core (letters_job one)) letters_journal) ≡ (0x41 ∷ 0x42 ∷ [], Some (ExitHow 0), ((None, 1) ∷ []) ∷ ((None, 1) ∷ []) ∷ [])
  unfolding in_table opening_replica first_cpu made_cpu next fetch_stop instruction_stop instruction_of call_at permits_of alu_of taken_by meaning serve payload_of event_of applied cancelled leased
  the-end = refl

  passes : test_legal (letters_job one) (page_of_thread 2) (opening_core (letters_job one)) letters_journal ≡ true
  unfolding in_table opening_replica first_cpu made_cpu next fetch_stop instruction_stop instruction_of call_at permits_of alu_of taken_by meaning serve payload_of event_of applied cancelled leased
  passes = refl

  -- what was got in each replica
  pub got-first : threads_of letters_mutex (got_in_replica (letters_job one) (opening_core (letters_job one)) 0 letters_journal) ≡ 2 ∷ []
  unfolding in_table opening_replica first_cpu made_cpu next fetch_stop instruction_stop instruction_of call_at permits_of alu_of taken_by meaning serve payload_of event_of applied cancelled leased
  got-first = refl

  pub got-second : threads_of letters_mutex (got_in_replica (letters_job one) (opening_core (letters_job one)) 1 letters_journal) ≡ 2 ∷ []
  unfolding in_table opening_replica first_cpu made_cpu next fetch_stop instruction_stop instruction_of call_at permits_of alu_of taken_by meaning serve payload_of event_of applied cancelled leased
  got-second = refl

  -- where the row is another's, thread 2 has no such step
  refused : run_in (letters_job one) (page_of_thread 1) (core_behind (letters_job one) (page_of_thread 1) (opening_core (letters_job one)) letters_front) (record { driver = 0; replica = 0; thread = 2 }) 5 ≡ None
  unfolding in_table opening_replica first_cpu made_cpu next fetch_stop instruction_stop instruction_of call_at permits_of alu_of taken_by meaning serve payload_of event_of applied cancelled leased
  refused = refl

  none-some : (o : Option Peer) (peer : Peer) → o ≡ None → o ≡ Some peer → ⊥
  none-some o peer e f = let g : None ≡ Some peer = sym e ∙ f in cc

  pub not-legal : LegalFrom (letters_job one) (page_of_thread 1) (opening_core (letters_job one)) letters_journal → ⊥
  not-legal legal =
      let back = legal-back (letters_job one) (page_of_thread 1) (opening_core (letters_job one)) letters_front letters_back legal in
      none-some _ back.0.peer refused back.0.runs

  pub is-legal : LegalFrom (letters_job one) (page_of_thread 2) (opening_core (letters_job one)) letters_journal
  is-legal = legal-of (letters_job one) (page_of_thread 2) (opening_core (letters_job one)) letters_journal passes

module _ (one : OneEnters in_table) where
  pub reserved-then : reserved_in (core_answering one) ≡ replicate 2 (Some a_reservation ∷ None ∷ replicate 14 None)
  reserved-then = refl

  pub reserved-for : (kernel_for (core_answering one) 1).reserved ≡ Some a_reservation ∷ None ∷ replicate 14 None
  reserved-for = refl

  pub reserved-other : (kernel_for (core_answering one) 0).reserved ≡ kernel_reserving.reserved
  reserved-other = refl

  pub reserved-settled : reserved_in (settled (core_answering one) 1) ≡ reserved_in (core_answering one)
  reserved-settled = refl

  pub fails : answer_to (core_answering one) 1 ≡ Some 1
  unfolding permits_of serve
  fails = refl

  pub succeeds : answer_to (core_answering one) 0 ≡ Some 0
  unfolding permits_of serve
  succeeds = refl

pub the-first : first_of letters_journal ≡ replicate 14 0 ++ replicate 5 1 ++ replicate 4 2 ++ replicate 11 1 ++ 0 ∷ [] ++ replicate 12 2 ++ replicate 6 0
the-first = refl

-- ---- the guest

pub letters-free : RaceFree locking_guest
letters-free = locking-free

pub letters-by-locks : TakesByLocks locking_guest in_table
letters-by-locks = by-table locking_guest in_table refl
