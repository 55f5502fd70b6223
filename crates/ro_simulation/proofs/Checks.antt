-- A test of journals by computation: what passes is legal.
use Rattle.std.specs.Prelude.{◌≡◌, ℕ, ◌+◌, ◌≤◌, ◌⊎◌, Bool, true, false, ◌&&◌, ◌||◌, ◌==◌, nat_lt, nat_le, List, [], ◌∷◌, Option, Some, None, is_none, is_some}
use Rattle.std.proofs.Common.{refl, ap, ◌∙◌, inl, inr}
use Rattle.std.proofs.lemmas.Bool.{false≢true, eqb-true, leb-true, ltb-true, and_parts}
use Rattle.ro_journal.specs.declared.Did.{Did}
use Rattle.ro_journal.specs.declared.Did.TheVariants.{Served, Blocked, Parked, PageBacked, Watch, Trapped}
use Rattle.ro_journal.specs.declared.How.{How}
use Rattle.ro_journal.specs.declared.How.TheVariants.{Exit}
use Rattle.ro_journal.specs.declared.Lease.{Lease}
use Rattle.ro_journal.specs.declared.Entry.{Entry}
use Rattle.ro_journal.specs.declared.Entry.TheVariants.{Take, Put, Part, Vote, Free, Scrub, End}
use Rattle.ro_journal.specs.declared.losers.Lost.{Lost}
use Rattle.ro_journal.specs.Losers.{numbers}
use Rattle.ro_journal.specs.Plan.{event_steps}
use Rattle.ro_vote.specs.Verdict.{Verdict, Won, Split, verdict_of}
use Rattle.ro_replica.specs.Runs.{RanTo}
use Rattle.ro_plain.proofs.Ahead.{is-none-from}
use Rattle.ro_simulation.proofs.Entries.{or-cases}
use Rattle.ro_legal.specs.Core.{Job, Core, is_going, is_idle, is_out, is_lendable, may_vote, may_free, views_of}
use Rattle.ro_legal.specs.Event.{Event}
use Rattle.ro_legal.specs.Legal.{wanted_by, arrival, lease_run, since_in, event_in, HasArrived, MayPut, MayPart, MayVote, MayEnd, due, IsAllowed, after, LegalFrom}
use Rattle.ro_legal.specs.Parts.{Lent, Whole, Pages, is_all, wanted}
use Rattle.ro_plain.specs.Machine.{layout_in}
use Rattle.ro_replica.specs.Replica.{Replica}
use Rattle.ro_legal.proofs.FaultStops.{whole-wants-none}

-- whether a take is allowed
abbrev pub test_take : Job → Core → Lease → Bool
test_take job core lease = is_going core && nat_lt lease.driver job.settings.drivers && is_idle core lease.driver && is_lendable core lease.replica lease.thread

-- whether the thread of a lease wants no page, which one of a whole replica never does
abbrev pub test_unwanting : Job → Core → Lease → Replica → Bool
test_unwanting job core lease replica = is_all (core.lent lease.driver) || is_none (wanted_by job core lease replica)

-- whether a run struck so many faults and arrived
abbrev pub test_ran : Job → Core → Lease → (count hit : ℕ) → Option RanTo → Bool
test_ran job core lease count hit None = false
test_ran job core lease count hit (Some ran) =
    (ran.hit == hit) && ((count == job.settings.quantum)
    || (nat_lt count job.settings.quantum && is_some (arrival job core.kernel lease.thread count ran.replica) && test_unwanting job core lease ran.replica))

-- whether a put is allowed
abbrev pub test_put : Job → Core → Lease → (count hit : ℕ) → Bool
test_put job core lease count hit = is_none core.ended && is_out core lease && test_ran job core lease count hit (lease_run job core lease count)

-- whether a run struck so many faults and wants a page
abbrev pub test_wanting : Job → Core → Lease → (count hit : ℕ) → Option RanTo → Bool
test_wanting job core lease count hit None = false
test_wanting job core lease count hit (Some ran) =
    (ran.hit == hit) && (nat_lt count job.settings.quantum && is_some (wanted_by job core lease ran.replica))

-- whether a part is allowed
abbrev pub test_part : Job → Core → Lease → (count hit : ℕ) → Bool
test_part job core lease count hit =
    is_none core.ended && is_out core lease && test_wanting job core lease count hit (lease_run job core lease count)

-- whether two optional numbers are the same
abbrev pub same_number : Option ℕ → Option ℕ → Bool
same_number None None = true
same_number (Some m) (Some n) = m == n
same_number _ _ = false

-- whether two lists of numbers are the same
abbrev pub same_list : List ℕ → List ℕ → Bool
same_list [] [] = true
same_list (m ∷ ms) (n ∷ ns) = (m == n) && same_list ms ns
same_list _ _ = false

-- whether a verdict is this winner and these losers
abbrev pub test_verdict : Verdict → ℕ → List ℕ → Bool
test_verdict Split won lost = false
test_verdict (Won w l) won lost = (w == won) && same_list l lost

-- whether two events did the same
abbrev pub same_did : Did → Did → Bool
same_did Served Served = true
same_did Blocked Blocked = true
same_did Parked Parked = true
same_did PageBacked PageBacked = true
same_did Watch Watch = true
same_did Trapped Trapped = true
same_did _ _ = false

-- whether an event is there and did this
abbrev pub test_event : Did → Option Event → Bool
test_event did None = false
test_event did (Some event) = same_did event.did did

-- whether a vote is allowed
abbrev pub test_vote : Job → Core → (thread count won : ℕ) → Lost → Did → Bool
test_vote job core thread count won lost did =
    may_vote core thread && test_verdict (verdict_of (views_of job core thread)) won (numbers lost) && same_number (since_in core thread won) (Some count)
    && test_event did (event_in job core thread won) && nat_le (core.steps + count + event_steps did) job.settings.limit

-- of the ends only an exit that is due
abbrev pub test_end : Option How → How → Bool
test_end (Some (Exit m)) (Exit n) = m == n
test_end _ _ = false

-- whether an entry is allowed
abbrev pub test_entry : Job → Core → Entry → Bool
test_entry job core (Take lease) = test_take job core lease
test_entry job core (Put lease count hit) = test_put job core lease count hit
test_entry job core (Part lease count hit) = test_part job core lease count hit
test_entry job core (Vote thread count won lost did) = test_vote job core thread count won lost did
test_entry job core (Free thread) = may_free job core thread && nat_le (core.steps + 1) job.settings.limit
test_entry job core (Scrub won lost) = false
test_entry job core (End how) = is_none core.ended && test_end core.due how

-- whether each entry is allowed in its turn
abbrev pub test_legal : Job → Core → List Entry → Bool
test_legal job core [] = true
test_legal job core (entry ∷ journal) = test_entry job core entry && test_legal job (after job core entry) journal

-- ---- what passes is allowed

-- optional numbers that pass are equal
same-number : (a b : Option ℕ) → same_number a b ≡ true → a ≡ b
same-number None None e = refl
same-number (Some m) (Some n) e = ap Some (eqb-true m n e)
same-number None (Some n) e = absurd (false≢true e)
same-number (Some m) None e = absurd (false≢true e)

-- events that pass did the same
same-did : (a b : Did) → same_did a b ≡ true → a ≡ b
same-did Served Served e = refl
same-did Blocked Blocked e = refl
same-did Parked Parked e = refl
same-did PageBacked PageBacked e = refl
same-did Watch Watch e = refl
same-did Trapped Trapped e = refl
same-did a b e = absurd (false≢true e)

-- a verdict that passes is the one
same-list : (xs ys : List ℕ) → same_list xs ys ≡ true → xs ≡ ys
same-list [] [] e = refl
same-list [] (y ∷ ys) e = absurd (false≢true e)
same-list (x ∷ xs) [] e = absurd (false≢true e)
same-list (x ∷ xs) (y ∷ ys) e = let p = and_parts _ _ e in let a = eqb-true x y p.0 in let b = same-list xs ys p.1 in λ i. a i ∷ b i

verdict-is : (v : Verdict) (won : ℕ) (lost : List ℕ) → test_verdict v won lost ≡ true → v ≡ Won won lost
verdict-is Split won lost e = absurd (false≢true e)
verdict-is (Won w l) won lost e = let p = and_parts _ _ e in let a = eqb-true w won p.0 in let b = same-list l lost p.1 in λ i. Won (a i) (b i)

-- what passes wants no page
unwanting : (job : Job) (core : Core) (lease : Lease) (replica : Replica) → test_unwanting job core lease replica ≡ true → wanted_by job core lease replica ≡ None
unwanting job core lease replica e = by (core.lent lease.driver) e
  where
    by : (lent : Lent) → (is_all lent || is_none (wanted (layout_in job.program core.kernel) job.settings.watchdog lent replica lease.thread)) ≡ true → wanted (layout_in job.program core.kernel) job.settings.watchdog lent replica lease.thread ≡ None
    by Whole f = whole-wants-none job core.kernel lease.thread replica
    by (Pages pages) f = is-none-from _ f

-- a put that passes is allowed
put-allowed : (job : Job) (core : Core) (lease : Lease) (count hit : ℕ) → core.ended ≡ None → is_out core lease ≡ true → (o : Option RanTo) → lease_run job core lease count ≡ o → test_ran job core lease count hit o ≡ true → MayPut job core lease count hit
put-allowed job core lease count hit on out None e f = absurd (false≢true f)
put-allowed job core lease count hit on out (Some ran) e f =
    let p = and_parts _ _ f in
    record { returns = record { not_ended = on; out = out; ran = ran; runs = e; struck = eqb-true ran.hit hit p.0 }; arrives = by (or-cases _ _ p.1) }
  where
    by : ((count == job.settings.quantum) ≡ true) ⊎ ((nat_lt count job.settings.quantum && is_some (arrival job core.kernel lease.thread count ran.replica) && test_unwanting job core lease ran.replica) ≡ true) → HasArrived job core lease count ran.replica
    by (inl g) = inl (eqb-true count job.settings.quantum g)
    by (inr g) = let q = and_parts _ _ g in let r = and_parts _ _ q.0 in inr (ltb-true count job.settings.quantum r.0, r.1, unwanting job core lease ran.replica q.1)

-- a part that passes is allowed
part-allowed : (job : Job) (core : Core) (lease : Lease) (count hit : ℕ) → core.ended ≡ None → is_out core lease ≡ true → (o : Option RanTo) → lease_run job core lease count ≡ o → test_wanting job core lease count hit o ≡ true → MayPart job core lease count hit
part-allowed job core lease count hit on out None e f = absurd (false≢true f)
part-allowed job core lease count hit on out (Some ran) e f =
    let p = and_parts _ _ f in let q = and_parts _ _ p.1 in
    record { returns = record { not_ended = on; out = out; ran = ran; runs = e; struck = eqb-true ran.hit hit p.0 }; early = ltb-true count job.settings.quantum q.0; wants = q.1 }

-- a vote that passes is allowed
vote-allowed : (job : Job) (core : Core) (thread count won : ℕ) (lost : Lost) (did : Did) → may_vote core thread ≡ true → verdict_of (views_of job core thread) ≡ Won won (numbers lost) → since_in core thread won ≡ Some count → (o : Option Event) → event_in job core thread won ≡ o → test_event did o ≡ true → core.steps + count + event_steps did ≤ job.settings.limit → MayVote job core thread count won lost did
vote-allowed job core thread count won lost did may verdict since None e f fits = absurd (false≢true f)
vote-allowed job core thread count won lost did may verdict since (Some event) e f fits =
    record { may = may; verdict = verdict; count_is = since; event = event; comes = e; did_is = same-did event.did did f; fits = fits }

-- an end that passes is allowed
end-allowed : (job : Job) (core : Core) (o : Option How) (how : How) → core.due ≡ o → test_end o how ≡ true → MayEnd job core how
end-allowed job core (Some (Exit m)) (Exit n) e f = due (e ∙ ap (λ (k : ℕ). Some (Exit k)) (eqb-true m n f))
end-allowed job core o how e f = absurd (false≢true f)

-- an entry that passes is allowed
pub entry-allowed : (job : Job) (core : Core) (entry : Entry) → test_entry job core entry ≡ true → IsAllowed job core entry
entry-allowed job core (Take lease) e =
    let a = and_parts _ _ e in let b = and_parts _ _ a.0 in let c = and_parts _ _ b.0 in
    record { going = c.0; driver_exists = ltb-true lease.driver job.settings.drivers c.1; driver_is_idle = b.1; lendable = a.1 }
entry-allowed job core (Put lease count hit) e =
    let a = and_parts _ _ e in let b = and_parts _ _ a.0 in
    put-allowed job core lease count hit (is-none-from core.ended b.0) b.1 _ refl a.1
entry-allowed job core (Part lease count hit) e =
    let a = and_parts _ _ e in let b = and_parts _ _ a.0 in
    part-allowed job core lease count hit (is-none-from core.ended b.0) b.1 _ refl a.1
entry-allowed job core (Vote thread count won lost did) e =
    let a = and_parts _ _ e in let b = and_parts _ _ a.0 in let c = and_parts _ _ b.0 in let d = and_parts _ _ c.0 in
    vote-allowed job core thread count won lost did d.0 (verdict-is _ won (numbers lost) d.1) (same-number _ _ c.1) _ refl b.1 (leb-true _ _ a.1)
entry-allowed job core (Free thread) e = let a = and_parts _ _ e in record { may = a.0; fits = leb-true _ _ a.1 }
entry-allowed job core (Scrub won lost) e = absurd (false≢true e)
entry-allowed job core (End how) e = let a = and_parts _ _ e in (is-none-from core.ended a.0, end-allowed job core core.due how refl a.1)

-- a journal that passes is legal
pub legal-by-test : (job : Job) (core : Core) (journal : List Entry) → test_legal job core journal ≡ true → LegalFrom job core journal
legal-by-test job core [] e = tt
legal-by-test job core (entry ∷ journal) e =
    let a = and_parts _ _ e in (entry-allowed job core entry a.0, legal-by-test job (after job core entry) journal a.1)
