-- What the rows of the rules of a cooperative run say, computed.
use Rattle.std.specs.Prelude.{◌≡◌, ℕ, ◌≤◌, Bool, true, false, [], ◌∷◌, ◌++◌, List, length, replicate, Option, Some, None, is_some}
use Rattle.std.specs.Option.{option_map_or}
use Rattle.std.proofs.Common.{refl, sym, ap, ◌∙◌, subst, arith, inl, inr}
use Rattle.std.proofs.Math.Dec.{lit≤}
use Rattle.std.proofs.lemmas.Bool.{false≢true}
use Rattle.ro_decode.specs.Table.{instruction_of, word_of}
use Rattle.ro_event.specs.Table.{call_at}
use Rattle.ro_region.specs.Permission.{permits_of}
use Rattle.ro_alu.specs.Results.{alu_of, taken_by}
use Rattle.ro_exec.specs.Meaning.{meaning}
use Rattle.ro_exec.specs.Next.{fetch_stop, instruction_stop, next}
use Rattle.ro_exec.specs.Threads.{first_cpu, made_cpu}
use Rattle.ro_event.specs.Views.{View}
use Rattle.ro_journal.specs.declared.Did.{Did}
use Rattle.ro_journal.specs.declared.losers.Lost.{Lost}
use Rattle.ro_journal.specs.declared.Entry.TheVariants.{End}
use Rattle.ro_journal.specs.declared.How.TheVariants.{Exit as ExitHow, Deadlock, Differ}
use Rattle.ro_kernel.specs.Serve.{serve, payload_of}
use Rattle.ro_replica.specs.Replica.{opening_replica, applied, cancelled}
use Rattle.ro_plain.specs.Machine.{Program, opening, steppable, step}
use Rattle.ro_plain.specs.Accesses.{accesses}
use Rattle.ro_plain.specs.Order.{sync_of, RaceFree}
use Rattle.ro_plain.proofs.Calls.{some-injective}
use Rattle.ro_plain.proofs.Explore.{explored-free}
use Rattle.ro_settings.specs.Ranges.{IsReplicas, InRange}
use Rattle.ro_orders.specs.Turns.{TakesByLocks}
use Rattle.ro_orders.specs.Choices.{in_table, no_mutex, chosen_of}
use Rattle.ro_orders.specs.Copies.{Rows}
use Rattle.ro_orders.specs.Guests.{two_locks, two_trylocks, two_waits}
use Rattle.ro_orders.proofs.Tables.{by-table}
use Rattle.ro_peer.specs.Peers.{Peer, leased}
use Rattle.ro_peer.specs.Gets.{Get, InRows}
use Rattle.ro_legal.specs.Core.{opening_core as opening_voted, is_awaited, is_lendable, may_vote, views_of}
use Rattle.ro_legal.specs.Event.{event_of}
use Rattle.ro_legal.specs.Legal.{is_stuck}
use Rattle.ro_legal.specs.Cooperative.{opening_core, after, lease_run, lapses_alike, AgreeOn, MayVote, MayPart, for_vote, EndsVote, Legal, replay, gets_from}
use Rattle.ro_coop.specs.Core.{first_of}
use Rattle.ro_coop.specs.Contests.{contest_job, lease_by, writers_guest, writers_job, writers_mutex, page_of_threads, writers_asked, writers_got, writers_parted, writers_wrote, writers_freed, writers_freed_too, writers_journal, contest_shown, crossing_guest, crossing_job, crossing_again, crossing_stuck, crossing_journal, waiting_guest, waiting_job, waiting_stuck, waiting_journal, byte_guest, byte_job, byte_front, byte_journal, reserving_job, reserving_front, with_none_answered, store_answers}
use Rattle.ro_coop.proofs.Rules.{views-agree}
use Rattle.ro_coop.proofs.Unshared.{unshared-free}
use Rattle.ro_coop.proofs.Tests.{test_legal, are_one, are_apart, is_parked_at, legal-of, legal-more, one-of, apart-of}

range-of : (program : Program) (replicas : ℕ) → IsReplicas replicas → 1 ≤ replicas → replicas ≤ 8 → InRange (contest_job program replicas).settings
range-of program replicas is least most = record { replicas = is; drivers = (least, most); watchdog = (lit≤ tt, lit≤ tt); quantum = (lit≤ tt, lit≤ tt); limit = (lit≤ tt, lit≤ tt); scrub = (lit≤ tt, lit≤ tt) }

-- ---- two threads that write

pub writers-free : RaceFree writers_guest
unfolding sync_of accesses opening steppable step first_cpu made_cpu next fetch_stop instruction_stop instruction_of call_at permits_of alu_of taken_by meaning serve payload_of
writers-free = unshared-free (record { place = 0x100D8; count = 4 }) 40 writers_guest refl

pub writers-by-locks : TakesByLocks writers_guest in_table
writers-by-locks = by-table writers_guest in_table refl

pub writers-range : InRange writers_job.settings
writers-range = range-of writers_guest 2 (inl refl) (lit≤ tt) (lit≤ tt)

writers-pass : test_legal writers_job (opening_core writers_job) writers_journal ≡ true
unfolding in_table opening_core opening_voted after opening_replica first_cpu made_cpu next fetch_stop instruction_stop instruction_of call_at permits_of alu_of taken_by meaning serve payload_of event_of applied cancelled leased
writers-pass = refl

pub writers-legal : Legal writers_job writers_journal
writers-legal = legal-of writers_job (opening_core writers_job) writers_journal writers-pass

abbrev get-of : (rank thread : ℕ) → Get
get-of rank thread = record { mutex = writers_mutex; rank = rank; thread = thread }

writers-got : gets_from writers_job (opening_core writers_job) writers_journal ≡ get-of 0 1 ∷ get-of 0 1 ∷ get-of 1 0 ∷ get-of 1 0 ∷ []
unfolding in_table opening_core opening_voted after opening_replica first_cpu made_cpu next fetch_stop instruction_stop instruction_of call_at permits_of alu_of taken_by meaning serve payload_of event_of applied cancelled leased
writers-got = refl

pub writers-in-rows : InRows (page_of_threads (1 ∷ 0 ∷ [])) (gets_from writers_job (opening_core writers_job) writers_journal)
writers-in-rows = subst (InRows (page_of_threads (1 ∷ 0 ∷ []))) (sym writers-got) (refl, (refl, (refl, (refl, tt))))

same : (m n : ℕ) → Some m ≡ Some n → m ≡ n
same m n e = some-injective e

not-its : (rows : Rows) (gets : List Get) → gets ≡ get-of 0 1 ∷ get-of 0 1 ∷ get-of 1 0 ∷ get-of 1 0 ∷ [] → rows writers_mutex 0 ≡ Some 0 → InRows rows gets → ⊥
not-its rows gets e f h =
    let g = subst (InRows rows) e h in
    let k = same 0 1 (sym f ∙ g.0) in omega arith

pub writers-not-in-rows : InRows (page_of_threads (0 ∷ 1 ∷ [])) (gets_from writers_job (opening_core writers_job) writers_journal) → ⊥
writers-not-in-rows = not-its (page_of_threads (0 ∷ 1 ∷ [])) _ writers-got refl

pub writers-end : contest_shown (replay writers_job writers_journal) ≡ (0x41 ∷ 0x42 ∷ [], Some (ExitHow 0), 35, (1 ∷ 0 ∷ []) ∷ (1 ∷ 0 ∷ []) ∷ [])
unfolding in_table opening_core opening_voted after opening_replica first_cpu made_cpu next fetch_stop instruction_stop instruction_of call_at permits_of alu_of taken_by meaning serve payload_of event_of applied cancelled leased
writers-end = refl

pub writers-first : first_of writers_journal ≡ replicate 19 0 ++ replicate 6 1 ++ replicate 2 0 ++ replicate 6 1 ++ replicate 2 0
writers-first = refl

pub writers-steps : (replay writers_job writers_journal).steps ≡ length (first_of writers_journal)
unfolding in_table opening_core opening_voted after opening_replica first_cpu made_cpu next fetch_stop instruction_stop instruction_of call_at permits_of alu_of taken_by meaning serve payload_of event_of applied cancelled leased
writers-steps = refl

-- ---- who is lent

pub lent-asked : is_lendable (replay writers_job writers_asked) 1 1 ≡ false
unfolding in_table opening_core opening_voted after opening_replica first_cpu made_cpu next fetch_stop instruction_stop instruction_of call_at permits_of alu_of taken_by meaning serve payload_of event_of applied cancelled leased is_awaited
lent-asked = refl

pub lent-got : is_lendable (replay writers_job writers_got) 1 1 ≡ true
unfolding in_table opening_core opening_voted after opening_replica first_cpu made_cpu next fetch_stop instruction_stop instruction_of call_at permits_of alu_of taken_by meaning serve payload_of event_of applied cancelled leased
lent-got = refl

pub lent-owned : is_lendable (replay writers_job writers_parted) 0 0 ≡ false
unfolding in_table opening_core opening_voted after opening_replica first_cpu made_cpu next fetch_stop instruction_stop instruction_of call_at permits_of alu_of taken_by meaning serve payload_of event_of applied cancelled leased
lent-owned = refl

pub lent-row : is_lendable (replay writers_job writers_parted) 1 0 ≡ false
unfolding in_table opening_core opening_voted after opening_replica first_cpu made_cpu next fetch_stop instruction_stop instruction_of call_at permits_of alu_of taken_by meaning serve payload_of event_of applied cancelled leased
lent-row = refl

pub lent-wrote : is_lendable (replay writers_job writers_wrote) 1 0 ≡ false
unfolding in_table opening_core opening_voted after opening_replica first_cpu made_cpu next fetch_stop instruction_stop instruction_of call_at permits_of alu_of taken_by meaning serve payload_of event_of applied cancelled leased
lent-wrote = refl

pub lent-freed : is_lendable (replay writers_job writers_freed) 0 0 ≡ true
unfolding in_table opening_core opening_voted after opening_replica first_cpu made_cpu next fetch_stop instruction_stop instruction_of call_at permits_of alu_of taken_by meaning serve payload_of event_of applied cancelled leased
lent-freed = refl

pub lent-not-yet : is_lendable (replay writers_job writers_freed) 1 0 ≡ false
unfolding in_table opening_core opening_voted after opening_replica first_cpu made_cpu next fetch_stop instruction_stop instruction_of call_at permits_of alu_of taken_by meaning serve payload_of event_of applied cancelled leased
lent-not-yet = refl

pub lent-freed-too : is_lendable (replay writers_job writers_freed_too) 1 0 ≡ true
unfolding in_table opening_core opening_voted after opening_replica first_cpu made_cpu next fetch_stop instruction_stop instruction_of call_at permits_of alu_of taken_by meaning serve payload_of event_of applied cancelled leased
lent-freed-too = refl

-- a lease that comes back otherwise
not-passing : (passes : Peer → Bool) (o : Option Peer) (peer : Peer) → option_map_or passes o false ≡ false → o ≡ Some peer → passes peer ≡ true → ⊥
not-passing passes o peer e f g = false≢true (sym e ∙ (ap (λ (x : Option Peer). option_map_or passes x false) f ∙ g))

pub comes-there : is_some (lease_run crossing_job (replay crossing_job crossing_again) (lease_by 0 0) 2) ≡ true
unfolding in_table opening_core opening_voted after opening_replica first_cpu made_cpu next fetch_stop instruction_stop instruction_of call_at permits_of alu_of taken_by meaning serve payload_of event_of applied cancelled leased
comes-there = refl

not-parked : option_map_or (is_parked_at crossing_job (replay crossing_job crossing_again) (lease_by 0 0)) (lease_run crossing_job (replay crossing_job crossing_again) (lease_by 0 0) 2) false ≡ false
unfolding in_table opening_core opening_voted after opening_replica first_cpu made_cpu next fetch_stop instruction_stop instruction_of call_at permits_of alu_of taken_by meaning serve payload_of event_of applied cancelled leased
not-parked = refl

pub own-lock : MayPart crossing_job (replay crossing_job crossing_again) (lease_by 0 0) 2 0 → ⊥
own-lock may = not-passing (is_parked_at crossing_job (replay crossing_job crossing_again) (lease_by 0 0)) (lease_run crossing_job (replay crossing_job crossing_again) (lease_by 0 0) 2) may.ran.peer not-parked may.ran.runs may.waits

-- ---- a deadlock

pub crossing-free : RaceFree crossing_guest
unfolding sync_of accesses opening steppable step first_cpu made_cpu next fetch_stop instruction_stop instruction_of call_at permits_of alu_of taken_by meaning serve payload_of
crossing-free = explored-free 22 crossing_guest refl

pub crossing-by-locks : TakesByLocks crossing_guest in_table
crossing-by-locks = by-table crossing_guest in_table refl

pub crossing-range : InRange crossing_job.settings
crossing-range = range-of crossing_guest 2 (inl refl) (lit≤ tt) (lit≤ tt)

crossing-pass : test_legal crossing_job (opening_core crossing_job) crossing_journal ≡ true
unfolding in_table opening_core opening_voted after opening_replica first_cpu made_cpu next fetch_stop instruction_stop instruction_of call_at permits_of alu_of taken_by meaning serve payload_of event_of applied cancelled leased
crossing-pass = refl

pub crossing-legal : Legal crossing_job crossing_journal
crossing-legal = legal-of crossing_job (opening_core crossing_job) crossing_journal crossing-pass

crossing-passes : test_legal crossing_job (opening_core crossing_job) crossing_stuck ≡ true
unfolding in_table opening_core opening_voted after opening_replica first_cpu made_cpu next fetch_stop instruction_stop instruction_of call_at permits_of alu_of taken_by meaning serve payload_of event_of applied cancelled leased
crossing-passes = refl

pub crossing-before : Legal crossing_job crossing_stuck
crossing-before = legal-of crossing_job (opening_core crossing_job) crossing_stuck crossing-passes

pub crossing-got : gets_from crossing_job (opening_core crossing_job) crossing_stuck ≡ []
unfolding in_table opening_core opening_voted after opening_replica first_cpu made_cpu next fetch_stop instruction_stop instruction_of call_at permits_of alu_of taken_by meaning serve payload_of event_of applied cancelled leased
crossing-got = refl

pub crossing-is-stuck : is_stuck crossing_job (replay crossing_job crossing_stuck) ≡ true
unfolding in_table opening_core opening_voted after opening_replica first_cpu made_cpu next fetch_stop instruction_stop instruction_of call_at permits_of alu_of taken_by meaning serve payload_of event_of applied cancelled leased
crossing-is-stuck = refl

pub crossing-end : contest_shown (replay crossing_job crossing_journal) ≡ ([], Some Deadlock, 18, [] ∷ [] ∷ [])
unfolding in_table opening_core opening_voted after opening_replica first_cpu made_cpu next fetch_stop instruction_stop instruction_of call_at permits_of alu_of taken_by meaning serve payload_of event_of applied cancelled leased
crossing-end = refl

pub crossing-first : first_of crossing_journal ≡ replicate 12 0 ++ replicate 2 1 ++ replicate 2 0 ++ replicate 2 1
crossing-first = refl

-- ---- no cooperative mutex

pub waiting-free : RaceFree waiting_guest
unfolding sync_of accesses opening steppable step first_cpu made_cpu next fetch_stop instruction_stop instruction_of call_at permits_of alu_of taken_by meaning serve payload_of
waiting-free = explored-free 12 waiting_guest refl

pub waiting-chosen : chosen_of waiting_guest ≡ no_mutex
waiting-chosen = refl

pub waiting-range : InRange waiting_job.settings
waiting-range = range-of waiting_guest 2 (inl refl) (lit≤ tt) (lit≤ tt)

waiting-pass : test_legal waiting_job (opening_core waiting_job) waiting_journal ≡ true
unfolding no_mutex opening_core opening_voted after opening_replica first_cpu made_cpu next fetch_stop instruction_stop instruction_of call_at permits_of alu_of taken_by meaning serve payload_of event_of applied cancelled leased
waiting-pass = refl

pub waiting-legal : Legal waiting_job waiting_journal
waiting-legal = legal-of waiting_job (opening_core waiting_job) waiting_journal waiting-pass

waiting-passes : test_legal waiting_job (opening_core waiting_job) waiting_stuck ≡ true
unfolding no_mutex opening_core opening_voted after opening_replica first_cpu made_cpu next fetch_stop instruction_stop instruction_of call_at permits_of alu_of taken_by meaning serve payload_of event_of applied cancelled leased
waiting-passes = refl

pub waiting-before : Legal waiting_job waiting_stuck
waiting-before = legal-of waiting_job (opening_core waiting_job) waiting_stuck waiting-passes

pub waiting-got : gets_from waiting_job (opening_core waiting_job) waiting_stuck ≡ []
unfolding no_mutex opening_core opening_voted after opening_replica first_cpu made_cpu next fetch_stop instruction_stop instruction_of call_at permits_of alu_of taken_by meaning serve payload_of event_of applied cancelled leased
waiting-got = refl

pub waiting-is-stuck : is_stuck waiting_job (replay waiting_job waiting_stuck) ≡ true
unfolding no_mutex opening_core opening_voted after opening_replica first_cpu made_cpu next fetch_stop instruction_stop instruction_of call_at permits_of alu_of taken_by meaning serve payload_of event_of applied cancelled leased
waiting-is-stuck = refl

pub waiting-end : contest_shown (replay waiting_job waiting_journal) ≡ ([], Some Deadlock, 8, [] ∷ [] ∷ [])
unfolding no_mutex opening_core opening_voted after opening_replica first_cpu made_cpu next fetch_stop instruction_stop instruction_of call_at permits_of alu_of taken_by meaning serve payload_of event_of applied cancelled leased
waiting-end = refl

pub waiting-first : first_of waiting_journal ≡ replicate 8 0
waiting-first = refl

-- ---- a race

pub byte-by-locks : TakesByLocks byte_guest in_table
byte-by-locks = by-table byte_guest in_table refl

pub byte-range : InRange byte_job.settings
byte-range = range-of byte_guest 3 (inr (inl refl)) (lit≤ tt) (lit≤ tt)

byte-pass : test_legal byte_job (opening_core byte_job) byte_front ≡ true
unfolding in_table opening_core opening_voted after opening_replica first_cpu made_cpu next fetch_stop instruction_stop instruction_of call_at permits_of alu_of taken_by meaning serve payload_of event_of applied cancelled leased
byte-pass = refl

pub byte-legal : Legal byte_job byte_front
byte-legal = legal-of byte_job (opening_core byte_job) byte_front byte-pass

pub byte-got : gets_from byte_job (opening_core byte_job) byte_front ≡ []
unfolding in_table opening_core opening_voted after opening_replica first_cpu made_cpu next fetch_stop instruction_stop instruction_of call_at permits_of alu_of taken_by meaning serve payload_of event_of applied cancelled leased
byte-got = refl

pub byte-may : may_vote (replay byte_job byte_front) 0 ≡ true
unfolding in_table opening_core opening_voted after opening_replica first_cpu made_cpu next fetch_stop instruction_stop instruction_of call_at permits_of alu_of taken_by meaning serve payload_of event_of applied cancelled leased
byte-may = refl

byte-goes : (replay byte_job byte_front).ended ≡ None
unfolding in_table opening_core opening_voted after opening_replica first_cpu made_cpu next fetch_stop instruction_stop instruction_of call_at permits_of alu_of taken_by meaning serve payload_of event_of applied cancelled leased
byte-goes = refl

byte-apart : are_apart (views_of byte_job (replay byte_job byte_front) 0) ≡ true
unfolding in_table opening_core opening_voted after opening_replica first_cpu made_cpu next fetch_stop instruction_stop instruction_of call_at permits_of alu_of taken_by meaning serve payload_of event_of applied cancelled leased
byte-apart = refl

pub byte-differs : EndsVote byte_job (replay byte_job byte_front) 0 Differ
byte-differs = λ view agree. apart-of (views_of byte_job (replay byte_job byte_front) 0) byte-apart view agree.0

pub byte-ends : Legal byte_job byte_journal
byte-ends = legal-more byte_job (opening_core byte_job) byte_front (End Differ) byte-legal (byte-goes, for_vote 0 byte-may byte-differs)

pub byte-races : RaceFree byte_guest → ⊥
byte-races free =
    let rows : Rows = λ mutex rank. None in
    let agreed = views-agree byte_job rows free byte-range refl byte_front byte-legal (subst (InRows rows) (sym byte-got) tt) 0 byte-may in
    byte-differs agreed.0 agreed.1

-- ---- which mutexes are chosen

pub by-locks : chosen_of two_locks ≡ in_table
by-locks = refl

pub by-trylock : chosen_of two_trylocks ≡ no_mutex
by-trylock = refl

pub by-wait : chosen_of two_waits ≡ no_mutex
by-wait = refl

-- ---- a reservation

reserving-pass : test_legal reserving_job (opening_core reserving_job) reserving_front ≡ true
unfolding in_table opening_core opening_voted after opening_replica first_cpu made_cpu next fetch_stop instruction_stop instruction_of word_of call_at permits_of alu_of taken_by meaning serve payload_of event_of applied cancelled leased
reserving-pass = refl

pub reserving-legal : Legal reserving_job reserving_front
reserving-legal = legal-of reserving_job (opening_core reserving_job) reserving_front reserving-pass

pub reserving-may : may_vote (replay reserving_job reserving_front) 0 ≡ true
unfolding in_table opening_core opening_voted after opening_replica first_cpu made_cpu next fetch_stop instruction_stop instruction_of word_of call_at permits_of alu_of taken_by meaning serve payload_of event_of applied cancelled leased
reserving-may = refl

reserving-one : are_one (views_of reserving_job (replay reserving_job reserving_front) 0) ≡ true
unfolding in_table opening_core opening_voted after opening_replica first_cpu made_cpu next fetch_stop instruction_stop instruction_of word_of call_at permits_of alu_of taken_by meaning serve payload_of event_of applied cancelled leased
reserving-one = refl

reserving-lapses : lapses_alike (replay reserving_job reserving_front) 0 ≡ true
unfolding in_table opening_core opening_voted after opening_replica first_cpu made_cpu next fetch_stop instruction_stop instruction_of word_of call_at permits_of alu_of taken_by meaning serve payload_of event_of applied cancelled leased
reserving-lapses = refl

pub reserving-agrees : (view : View) × AgreeOn reserving_job (replay reserving_job reserving_front) 0 view
reserving-agrees = let one = one-of (views_of reserving_job (replay reserving_job reserving_front) 0) reserving-one in (one.0, (one.1, reserving-lapses))

pub reserving-fails : store_answers (replay reserving_job reserving_front) ≡ Some 1
unfolding in_table opening_core opening_voted after opening_replica first_cpu made_cpu next fetch_stop instruction_stop instruction_of word_of call_at permits_of alu_of taken_by meaning serve payload_of event_of applied cancelled leased
reserving-fails = refl

pub skipping-may : may_vote (with_none_answered (replay reserving_job reserving_front)) 0 ≡ true
unfolding in_table opening_core opening_voted after opening_replica first_cpu made_cpu next fetch_stop instruction_stop instruction_of word_of call_at permits_of alu_of taken_by meaning serve payload_of event_of applied cancelled leased
skipping-may = refl

pub skipping-views : views_of reserving_job (with_none_answered (replay reserving_job reserving_front)) 0 ≡ views_of reserving_job (replay reserving_job reserving_front) 0
skipping-views = refl

pub skipping-succeeds : store_answers (with_none_answered (replay reserving_job reserving_front)) ≡ Some 0
unfolding in_table opening_core opening_voted after opening_replica first_cpu made_cpu next fetch_stop instruction_stop instruction_of word_of call_at permits_of alu_of taken_by meaning serve payload_of event_of applied cancelled leased
skipping-succeeds = refl

skipping-lapses : lapses_alike (with_none_answered (replay reserving_job reserving_front)) 0 ≡ false
unfolding in_table opening_core opening_voted after opening_replica first_cpu made_cpu next fetch_stop instruction_stop instruction_of word_of call_at permits_of alu_of taken_by meaning serve payload_of event_of applied cancelled leased
skipping-lapses = refl

pub skipping-differs : EndsVote reserving_job (with_none_answered (replay reserving_job reserving_front)) 0 Differ
skipping-differs = λ view agree. false≢true (sym skipping-lapses ∙ agree.1)

pub skipping-not : (count won : ℕ) (lost : Lost) (did : Did) → MayVote reserving_job (with_none_answered (replay reserving_job reserving_front)) 0 count won lost did → ⊥
skipping-not count won lost did m = skipping-differs m.view m.agreed
