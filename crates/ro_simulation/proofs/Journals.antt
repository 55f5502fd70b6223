-- The invariant along a legal journal.
use Rattle.std.specs.Prelude.{true, false, ◌≡◌, ℕ, zero, suc, ◌<◌, List, [], ◌∷◌, ◌++◌, Option, Some, None, slice_get}
use Rattle.std.specs.Option.{option_map}
use Rattle.std.proofs.Common.{refl, sym, ap, ◌∙◌, subst, arith, append_assoc, append-nil}
use Rattle.ro_event.specs.declared.calls.Call.{Call}
use Rattle.ro_journal.specs.declared.Did.{Did}
use Rattle.ro_journal.specs.declared.How.{How}
use Rattle.ro_journal.specs.declared.Lease.{Lease}
use Rattle.ro_journal.specs.declared.Entry.{Entry}
use Rattle.ro_journal.specs.declared.Entry.TheVariants.{Take, Put, Part, Vote, Free, Scrub, End}
use Rattle.ro_journal.specs.declared.losers.Lost.{Lost}
use Rattle.ro_journal.specs.Losers.{numbers}
use Rattle.ro_kernel.specs.Serve.{Served, Done, Parked, Blocked, Ends, serve}
use Rattle.ro_kernel.specs.Kernel.{Kernel}
use Rattle.ro_replica.specs.Replica.{Replica}
use Rattle.ro_plain.specs.Machine.{Machine, setup_of}
use Rattle.ro_plain.specs.Order.{RaceFree}
use Rattle.ro_legal.proofs.Journals.{LegalFrom-parts, replay_from-append}
use Rattle.ro_legal.specs.Core.{Job, Core, opening_core}
use Rattle.ro_legal.specs.Event.{Event, call_event, with_recovered}
use Rattle.ro_legal.specs.Legal.{lease_run, event_in, freed_event, core_after_event, after, MayPut, MayEnd, IsAllowed, LegalFrom, Legal, replay_from, replay}
use Rattle.ro_legal.proofs.Leases.{put-only, part-only}
use Rattle.ro_legal.proofs.Outcomes.{ended-none, over_from}
use Rattle.ro_vote.specs.Numbers.{is_among, AtMostHalf}
use Rattle.ro_simulation.specs.Invariant.{Agrees, TracksIdeal}
use Rattle.ro_simulation.specs.Theorem.{event_payload, payload_by, payloads_from, payloads_of}
use Rattle.ro_simulation.proofs.Votes.{after-vote}
use Rattle.ro_simulation.proofs.Frees.{after-free}
use Rattle.ro_simulation.proofs.Entries.{after-take, after-calm-put, after-struck-put}
use Rattle.ro_simulation.proofs.Parted.{part-calm, after-part}
use Rattle.ro_simulation.proofs.Scrubs.{after-scrub}
use Rattle.ro_simulation.proofs.Opening.{opening-holds}

-- ---- journals in parts

-- the payloads of two parts
pub payloads-append : (job : Job) (core : Core) (xs ys : List Entry) → payloads_from job core (xs ++ ys) ≡ payloads_from job core xs ++ payloads_from job (replay_from job core xs) ys
payloads-append job core [] ys = refl
payloads-append job core (x ∷ xs) ys =
    ap (λ (r : List ℕ). payload_by job core x ++ r) (payloads-append job (after job core x) xs ys)
    ∙ sym (append_assoc (payload_by job core x) (payloads_from job (after job core x) xs) (payloads_from job (replay_from job (after job core x) xs) ys))

-- after an end the core has ended
pub after-end-ended : (job : Job) (core : Core) (how : How) → (after job core (End how)).ended ≡ Some how
unfolding after
after-end-ended job core how = refl

-- ---- what an entry that is no end leaves of the output and the end

-- an entry that is no end
pub data IsStep : Entry → Type 0 where
  takes : {lease : Lease} → IsStep (Take lease)
  puts : {lease : Lease} {count hit : ℕ} → IsStep (Put lease count hit)
  parts : {lease : Lease} {count hit : ℕ} → IsStep (Part lease count hit)
  votes : {thread count won : ℕ} {lost : Lost} {did : Did} → IsStep (Vote thread count won lost did)
  frees : {thread : ℕ} → IsStep (Free thread)
  scrubs : {won : ℕ} {lost : Lost} → IsStep (Scrub won lost)

-- the output with the payload, and the end as it was
pub record Leaves (core other : Core) (payload : List ℕ) : Type 0 where
  pub output : other.output ≡ core.output ++ payload
  pub ended : other.ended ≡ core.ended

-- an event writes its payload
event-leaves : (core : Core) (thread count : ℕ) (replicas : List Replica) (o : Option Event) → Leaves core (core_after_event core thread count replicas o) (event_payload o)
event-leaves core thread count replicas None = record { output = sym (append-nil core.output); ended = refl }
event-leaves core thread count replicas (Some event) = record { output = refl; ended = refl }

-- a freed call writes nothing
call-no-payload : (kernel : Kernel) (thread : ℕ) (call : Call) (served : Served) → (call_event kernel thread call [] served).payload ≡ []
call-no-payload kernel thread call (Done k effect) = refl
call-no-payload kernel thread call (Parked k) = refl
call-no-payload kernel thread call Blocked = refl
call-no-payload kernel thread call (Ends k how) = refl

-- a free writes nothing
free-no-payload : (job : Job) (core : Core) (thread : ℕ) (o : Option Call) → event_payload (option_map (λ call. call_event core.kernel thread call [] (serve (setup_of job.program) core.kernel thread call)) o) ≡ []
free-no-payload job core thread None = refl
free-no-payload job core thread (Some call) = call-no-payload core.kernel thread call _

-- what an entry leaves
pub step-leaves : (job : Job) (core : Core) (entry : Entry) → IsStep entry → Leaves core (after job core entry) (payload_by job core entry)
unfolding after
step-leaves job core (Take lease) takes = record { output = sym (append-nil core.output); ended = refl }
step-leaves job core (Put lease count hit) puts =
    let is = put-only job core lease count (lease_run job core lease count) in
    record { output = ap (λ (c : Core). c.output) is ∙ sym (append-nil core.output); ended = ap (λ (c : Core). c.ended) is }
step-leaves job core (Part lease count hit) parts =
    let is = part-only job core lease (lease_run job core lease count) in
    record { output = ap (λ (c : Core). c.output) is ∙ sym (append-nil core.output); ended = ap (λ (c : Core). c.ended) is }
step-leaves job core (Vote thread count won lost did) votes = event-leaves core thread count (with_recovered won (numbers lost) core.replicas) (event_in job core thread won)
step-leaves job core (Free thread) frees =
    subst (Leaves core (core_after_event core thread 0 core.replicas (freed_event job core thread))) (free-no-payload job core thread (core.blocked thread))
    (event-leaves core thread 0 core.replicas (freed_event job core thread))
step-leaves job core (Scrub won lost) scrubs = record { output = sym (append-nil core.output); ended = refl }
step-leaves job core (End how) kind = elim kind [ ]

-- ---- the invariant along a journal

-- the invariant, in the core of the journal, whose output is that of its payloads
pub record Reached (job : Job) (odds : List ℕ) (journal : List Entry) (core : Core) : Type 0 where
  pub holds : TracksIdeal job odds journal core
  pub is_replay : replay job journal ≡ core
  pub written : core.output ≡ payloads_of job journal

-- the invariant at the opening
pub opening-reached : (job : Job) (odds : List ℕ) → AtMostHalf job.settings.replicas odds → Reached job odds [] (opening_core job)
unfolding opening_core
opening-reached job odds few = record { holds = opening-holds job odds few; is_replay = refl; written = refl }

-- one entry further
reached-next : (job : Job) (odds odds' : List ℕ) (journal : List Entry) (core : Core) (entry : Entry) → IsStep entry → Reached job odds journal core → TracksIdeal job odds' (journal ++ entry ∷ []) (after job core entry) → Reached job odds' (journal ++ entry ∷ []) (after job core entry)
reached-next job odds odds' journal core entry kind r h = record {
  holds = h;
  is_replay = replay_from-append job (opening_core job) journal (entry ∷ []) ∙ ap (λ (c : Core). after job c entry) r.is_replay;
  written = (step-leaves job core entry kind).output
      ∙ (ap (λ (o : List ℕ). o ++ payload_by job core entry) r.written
      ∙ (ap (λ (c : Core). payloads_of job journal ++ payload_by job c entry) (sym r.is_replay)
      ∙ (ap (λ (p : List ℕ). payloads_of job journal ++ p) (sym (append-nil (payload_by job (replay job journal) entry)))
      ∙ sym (payloads-append job (opening_core job) journal (entry ∷ [])))));
}

-- After a strike these replicas, at most half, may be odd, the struck one among them, and the others agree.
pub record Struck (job : Job) (Q : List ℕ → Type 0) (struck : ℕ) (core : Core) (machine : Machine) : Type 0 where
  pub odds : List ℕ
  pub allows : Q odds
  pub few : AtMostHalf job.settings.replicas odds
  pub is_odd : is_among odds struck ≡ true
  pub others : (number : ℕ) (r : Replica) → is_among odds number ≡ false → slice_get core.replicas number ≡ Some r → Agrees job machine r

-- an entry behind which the same replicas may be odd
pub data IsCalm : Entry → Type 0 where
  takes_calm : {lease : Lease} → IsCalm (Take lease)
  puts_calm : {lease : Lease} {count hit : ℕ} → hit ≡ 0 → IsCalm (Put lease count hit)
  parts_calm : {lease : Lease} {count hit : ℕ} → hit ≡ 0 → IsCalm (Part lease count hit)
  votes_calm : {thread count won : ℕ} {lost : Lost} {did : Did} → IsCalm (Vote thread count won lost did)
  frees_calm : {thread : ℕ} → IsCalm (Free thread)

-- Which replicas are allowed to be odd behind a scrub, where none is.
pub record Scrubbed (job : Job) (Q : List ℕ → Type 0) : Type 0 where
  pub odds : List ℕ
  pub allows : Q odds
  pub few : AtMostHalf job.settings.replicas odds

-- Which replicas may be odd behind which journal, and why the others agree where faults are struck.
pub record Policy (job : Job) (Q : List Entry → List ℕ → Type 0) (whole : List Entry) : Type 0 where
  pub strikes : (odds : List ℕ) (before rest : List Entry) → Q before odds → (lease : Lease) (count hit : ℕ) → whole ≡ before ++ Put lease count hit ∷ rest →
      (core : Core) (reached : Reached job odds before core) → MayPut job core lease count hit → 0 < hit →
      Struck job (Q (before ++ Put lease count hit ∷ [])) lease.replica core reached.holds.machine
  pub calm : (odds : List ℕ) (before : List Entry) (entry : Entry) → IsCalm entry → Q before odds → Q (before ++ entry ∷ []) odds
  pub scrubbed : (odds : List ℕ) (before : List Entry) (won : ℕ) (lost : Lost) → Q before odds → AtMostHalf job.settings.replicas odds → Scrubbed job (Q (before ++ Scrub won lost ∷ []))

-- A legal journal goes on, or has ended by its last entry.
pub data Stage (job : Job) (Q : List Entry → List ℕ → Type 0) (journal : List Entry) (core : Core) : Type 0 where
  goes_on : (odds : List ℕ) → Q journal odds → Reached job odds journal core → Stage job Q journal core
  has_ended : (before : List Entry) (how : How) (odds : List ℕ) (last : Core) → Q before odds → journal ≡ before ++ End how ∷ [] → Reached job odds before last → MayEnd job last how → core ≡ after job last (End how) → Stage job Q journal core

-- one entry
pub data AfterEntry (job : Job) (Q : List Entry → List ℕ → Type 0) (journal : List Entry) (core : Core) (entry : Entry) : Type 0 where
  is_step : (odds : List ℕ) → Q (journal ++ entry ∷ []) odds → IsStep entry → TracksIdeal job odds (journal ++ entry ∷ []) (after job core entry) → AfterEntry job Q journal core entry
  is_end : (how : How) → entry ≡ End how → MayEnd job core how → AfterEntry job Q journal core entry

module _ (job : Job) (free : RaceFree job.program) (Q : List Entry → List ℕ → Type 0) (whole : List Entry) (policy : Policy job Q whole) where
  -- the invariant after a put, with or without a strike
  after-put : (odds : List ℕ) (journal rest : List Entry) (q : Q journal odds) (lease : Lease) (count hit : ℕ) → whole ≡ journal ++ Put lease count hit ∷ rest → (core : Core) (reached : Reached job odds journal core) → MayPut job core lease count hit → AfterEntry job Q journal core (Put lease count hit)
  after-put odds journal rest q lease count zero whole_is core reached may =
      is_step odds (policy.calm odds journal (Put lease count 0) (puts_calm refl) q) puts (after-calm-put job odds journal core reached.holds lease count 0 may free refl)
  after-put odds journal rest q lease count (suc hit) whole_is core reached may =
      let s = policy.strikes odds journal rest q lease count (suc hit) whole_is core reached may (omega arith) in
      is_step s.odds s.allows puts (after-struck-put job odds journal core reached.holds lease count (suc hit) may s.odds s.few s.is_odd s.others)

  -- the invariant after an entry
  after-entry : (odds : List ℕ) (journal rest : List Entry) (q : Q journal odds) (entry : Entry) → whole ≡ journal ++ entry ∷ rest → (core : Core) (reached : Reached job odds journal core) → IsAllowed job core entry → AfterEntry job Q journal core entry
  after-entry odds journal rest q (Take lease) whole_is core reached h = is_step odds (policy.calm odds journal (Take lease) takes_calm q) takes (after-take job odds journal core reached.holds lease h)
  after-entry odds journal rest q (Put lease count hit) whole_is core reached h = after-put odds journal rest q lease count hit whole_is core reached h
  after-entry odds journal rest q (Part lease count hit) whole_is core reached h = is_step odds (policy.calm odds journal (Part lease count hit) (parts_calm (part-calm job core lease count hit h)) q) parts (after-part job core lease count hit h odds journal reached.holds free)
  after-entry odds journal rest q (Vote thread count won lost did) whole_is core reached h = is_step odds (policy.calm odds journal (Vote thread count won lost did) votes_calm q) votes (after-vote job free odds journal core reached.holds thread count won did lost h).holds
  after-entry odds journal rest q (Free thread) whole_is core reached h = is_step odds (policy.calm odds journal (Free thread) frees_calm q) frees (after-free job free odds journal core reached.holds thread h)
  after-entry odds journal rest q (Scrub won lost) whole_is core reached h =
      let s = policy.scrubbed odds journal won lost q reached.holds.few in
      is_step s.odds s.allows scrubs ((after-scrub job free odds journal core reached.holds won lost h).holds s.odds s.few)
  after-entry odds journal rest q (End how) whole_is core reached h = is_end how refl h.1

  -- a journal that ends here
  stage-end : (odds : List ℕ) (journal rest : List Entry) (q : Q journal odds) (core : Core) (how : How) → Reached job odds journal core → MayEnd job core how → rest ≡ [] → Stage job Q (journal ++ End how ∷ rest) (replay_from job (after job core (End how)) rest)
  stage-end odds journal rest q core how reached may none =
      has_ended journal how odds core q (ap (λ (r : List Entry). journal ++ End how ∷ r) none) reached may (ap (replay_from job (after job core (End how))) none)

  -- the invariant after any number of entries
  pub reach : (odds : List ℕ) (journal rest tail : List Entry) (q : Q journal odds) (core : Core) → whole ≡ journal ++ (rest ++ tail) → Reached job odds journal core → LegalFrom job core rest → Stage job Q (journal ++ rest) (replay_from job core rest)
  reach odds journal [] tail q core whole_is reached legal =
      goes_on odds (subst (λ (j : List Entry). Q j odds) (sym (append-nil journal)) q) (subst (λ (j : List Entry). Reached job odds j core) (sym (append-nil journal)) reached)
  reach odds journal (entry ∷ rest) tail q core whole_is reached legal =
      after-reach odds journal rest tail q core entry whole_is reached legal.1 (after-entry odds journal (rest ++ tail) q entry whole_is core reached legal.0)
      (λ odds' q' reached'. reach odds' (journal ++ entry ∷ []) rest tail q' (after job core entry) (whole_is ∙ sym (append_assoc journal (entry ∷ []) (rest ++ tail))) reached' legal.1)
    where
      after-reach : (odds : List ℕ) (journal rest tail : List Entry) (q : Q journal odds) (core : Core) (entry : Entry) → whole ≡ journal ++ (entry ∷ (rest ++ tail)) → Reached job odds journal core → LegalFrom job (after job core entry) rest → AfterEntry job Q journal core entry
          → ((odds' : List ℕ) → Q (journal ++ entry ∷ []) odds' → Reached job odds' (journal ++ entry ∷ []) (after job core entry) → Stage job Q ((journal ++ entry ∷ []) ++ rest) (replay_from job (after job core entry) rest))
          → Stage job Q (journal ++ entry ∷ rest) (replay_from job (after job core entry) rest)
      after-reach odds journal rest tail q core entry whole_is reached legal (is_step odds' q' kind h) later =
          subst (λ (j : List Entry). Stage job Q j (replay_from job (after job core entry) rest)) (append_assoc journal (entry ∷ []) rest) (later odds' q' (reached-next job odds odds' journal core entry kind reached h))
      after-reach odds journal rest tail q core entry whole_is reached legal (is_end how same may) later =
          subst (λ (e : Entry). Stage job Q (journal ++ e ∷ rest) (replay_from job (after job core e) rest)) (sym same)
          (stage-end odds journal rest q core how reached may
          (over_from job (after job core (End how)) how rest (after-end-ended job core how) (subst (λ (e : Entry). LegalFrom job (after job core e) rest) same legal)))

  -- before an entry that is allowed the journal goes on
  pub record Before (journal : List Entry) (entry : Entry) : Type 0 where
    pub odds : List ℕ
    pub allows : Q journal odds
    pub reached : Reached job odds journal (replay job journal)
    pub allowed : IsAllowed job (replay job journal) entry

  -- the invariant before an entry
  pub reach-before : (odds : List ℕ) → AtMostHalf job.settings.replicas odds → Q [] odds → Legal job whole → (journal rest : List Entry) (entry : Entry) → whole ≡ journal ++ entry ∷ rest → Before journal entry
  reach-before odds few q legal journal rest entry whole_is =
      let parts = LegalFrom-parts job (opening_core job) journal (entry ∷ rest) (subst (Legal job) whole_is legal) in
      by parts.1.0 (reach odds [] journal (entry ∷ rest) q (opening_core job) whole_is (opening-reached job odds few) parts.0)
    where
      by : IsAllowed job (replay job journal) entry → Stage job Q journal (replay job journal) → Before journal entry
      by allowed (goes_on o q' r) = record { odds = o; allows = q'; reached = r; allowed = allowed }
      by allowed (has_ended before how o last q' same r may e) =
          absurd (let f : None ≡ Some how = sym (ended-none job (replay job journal) entry allowed) ∙ (ap (λ (c : Core). c.ended) e ∙ after-end-ended job last how) in cc)
