-- What the row of a thread that waits by looking says, computed.
use Rattle.std.specs.Prelude.{◌≡◌, true, false}
use Rattle.std.proofs.Common.{refl}
use Rattle.ro_decode.specs.Table.{instruction_of}
use Rattle.ro_event.specs.Table.{call_at}
use Rattle.ro_region.specs.Permission.{permits_of}
use Rattle.ro_alu.specs.Results.{alu_of, taken_by}
use Rattle.ro_exec.specs.Meaning.{meaning}
use Rattle.ro_exec.specs.Next.{fetch_stop, instruction_stop, next}
use Rattle.ro_exec.specs.Threads.{first_cpu, made_cpu}
use Rattle.ro_kernel.specs.Serve.{serve, payload_of}
use Rattle.ro_replica.specs.Replica.{opening_replica, applied, cancelled}
use Rattle.ro_orders.specs.Choices.{in_table}
use Rattle.ro_peer.specs.Peers.{leased}
use Rattle.ro_legal.specs.Core.{opening_core as opening_voted, is_awaited, is_lendable}
use Rattle.ro_legal.specs.Event.{event_of}
use Rattle.ro_legal.specs.Cooperative.{opening_core, after, Legal, replay}
use Rattle.ro_coop.specs.Contests.{looking_job, looking_back, looking_asked, looking_got, gives_up}
use Rattle.ro_coop.proofs.Tests.{test_legal, legal-of}

looking-pass : test_legal looking_job (opening_core looking_job) looking_asked ≡ true
unfolding in_table opening_core opening_voted after opening_replica first_cpu made_cpu next fetch_stop instruction_stop instruction_of call_at permits_of alu_of taken_by meaning serve payload_of event_of applied cancelled leased is_awaited
looking-pass = refl

pub looking-legal : Legal looking_job looking_asked
looking-legal = legal-of looking_job (opening_core looking_job) looking_asked looking-pass

got-pass : test_legal looking_job (opening_core looking_job) looking_got ≡ true
unfolding in_table opening_core opening_voted after opening_replica first_cpu made_cpu next fetch_stop instruction_stop instruction_of call_at permits_of alu_of taken_by meaning serve payload_of event_of applied cancelled leased is_awaited
got-pass = refl

pub got-legal : Legal looking_job looking_got
got-legal = legal-of looking_job (opening_core looking_job) looking_got got-pass

pub gives-way : is_lendable (replay looking_job looking_back) 0 1 ≡ false
unfolding in_table opening_core opening_voted after opening_replica first_cpu made_cpu next fetch_stop instruction_stop instruction_of call_at permits_of alu_of taken_by meaning serve payload_of event_of applied cancelled leased is_awaited
gives-way = refl

pub waits-lent : is_lendable (replay looking_job looking_back) 0 0 ≡ true
unfolding in_table opening_core opening_voted after opening_replica first_cpu made_cpu next fetch_stop instruction_stop instruction_of call_at permits_of alu_of taken_by meaning serve payload_of event_of applied cancelled leased is_awaited
waits-lent = refl

pub given-up : gives_up (replay looking_job looking_back) 0 1 1 ≡ true
unfolding in_table opening_core opening_voted after opening_replica first_cpu made_cpu next fetch_stop instruction_stop instruction_of call_at permits_of alu_of taken_by meaning serve payload_of event_of applied cancelled leased is_awaited
given-up = refl

pub not-given-up : gives_up (replay looking_job looking_back) 0 0 1 ≡ false
unfolding in_table opening_core opening_voted after opening_replica first_cpu made_cpu next fetch_stop instruction_stop instruction_of call_at permits_of alu_of taken_by meaning serve payload_of event_of applied cancelled leased is_awaited
not-given-up = refl

pub asked-lent : is_lendable (replay looking_job looking_asked) 0 1 ≡ true
unfolding in_table opening_core opening_voted after opening_replica first_cpu made_cpu next fetch_stop instruction_stop instruction_of call_at permits_of alu_of taken_by meaning serve payload_of event_of applied cancelled leased is_awaited
asked-lent = refl

pub asked-lent-too : is_lendable (replay looking_job looking_asked) 0 0 ≡ true
unfolding in_table opening_core opening_voted after opening_replica first_cpu made_cpu next fetch_stop instruction_stop instruction_of call_at permits_of alu_of taken_by meaning serve payload_of event_of applied cancelled leased is_awaited
asked-lent-too = refl

pub asked-kept : gives_up (replay looking_job looking_asked) 0 1 1 ≡ false
unfolding in_table opening_core opening_voted after opening_replica first_cpu made_cpu next fetch_stop instruction_stop instruction_of call_at permits_of alu_of taken_by meaning serve payload_of event_of applied cancelled leased is_awaited
asked-kept = refl

pub asked-kept-too : gives_up (replay looking_job looking_asked) 0 0 1 ≡ false
unfolding in_table opening_core opening_voted after opening_replica first_cpu made_cpu next fetch_stop instruction_stop instruction_of call_at permits_of alu_of taken_by meaning serve payload_of event_of applied cancelled leased is_awaited
asked-kept-too = refl

pub got-lent : is_lendable (replay looking_job looking_got) 0 1 ≡ true
unfolding in_table opening_core opening_voted after opening_replica first_cpu made_cpu next fetch_stop instruction_stop instruction_of call_at permits_of alu_of taken_by meaning serve payload_of event_of applied cancelled leased is_awaited
got-lent = refl

pub got-own : gives_up (replay looking_job looking_got) 0 1 1 ≡ false
unfolding in_table opening_core opening_voted after opening_replica first_cpu made_cpu next fetch_stop instruction_stop instruction_of call_at permits_of alu_of taken_by meaning serve payload_of event_of applied cancelled leased is_awaited
got-own = refl

pub got-behind : gives_up (replay looking_job looking_got) 0 1 2 ≡ true
unfolding in_table opening_core opening_voted after opening_replica first_cpu made_cpu next fetch_stop instruction_stop instruction_of call_at permits_of alu_of taken_by meaning serve payload_of event_of applied cancelled leased is_awaited
got-behind = refl
