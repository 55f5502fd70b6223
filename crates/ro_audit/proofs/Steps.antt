-- The follower behind an entry, by the rules of the job's mode.
use Rattle.std.proofs.Common.{◌≡◌, inl, inr, ℕ, ◌+◌, ◌-◌, ◌<◌, true, List, [], ◌∷◌, ◌++◌, length, Option, Some, None, Result, Ok, Err, take, refl, sym, ap, ◌∙◌, subst}
use Rattle.std.specs.Prelude.{IfOk, MatchResult, OnOk, slice_index_or, slice_set}
use Rattle.std.proofs.lemmas.List.{length-set, length-take, take_min}
use Rattle.std.proofs.Math.Seq.{take-length}
use Rattle.ro_journal.specs.declared.How.{How}
use Rattle.ro_journal.specs.declared.How.TheVariants.{Sink}
use Rattle.ro_journal.specs.declared.Entry.{Entry}
use Rattle.ro_journal.specs.declared.Entry.TheVariants.{Take, End}
use Rattle.ro_journal.specs.declared.Lease.{Lease}
use Rattle.ro_orders.specs.Copies.{Rows}
use Rattle.ro_legal.specs.Core.{Job, Core, may_vote, may_free}
use Rattle.ro_legal.specs.Jobs.{CanRun}
use Rattle.ro_legal.specs.Legal.{MayTake, cut_output}
use Rattle.ro_legal.specs.Rules.{IsFit, Legal, IsAllowed, DecidesVote, DecidesFree, DecidesScrub, after, replay, output_of}
use Rattle.ro_legal.proofs.Modes.{IsDecision}
use Rattle.ro_legal.proofs.Ordered.{vote-parts, free-parts}
use Rattle.ro_legal.proofs.Rules.{replay-more, legal-more, none-legal, none-written, opening-idle, take-allowed, end-leases, end-output, vote-decision, free-decision, scrub-decision, decision-leases}
use Rattle.ro_core.specs.Seen.{CoreOf, Appends}
use Rattle.ro_cores.specs.Cores.{left_by}
use Rattle.ro_cores.specs.History.{BringsNone}
use Rattle.ro_cores.specs.Loans.{LentOf, BackOf, IsLent, MayReturn, Returns, entry_of, lease_in}
use Rattle.ro_cores.proofs.Lending.{loan-allowed}
use Rattle.ro_audit.specs.declared.follower.Why.{Why}
use Rattle.ro_audit.specs.Audits.{Compete, IsReason, IsRefused, got_in, scrubs}
use Rattle.ro_audit.specs.Following.{Slot, KnowsGot, Follows, Followed, IsUnless, Same}
use Rattle.ro_audit.proofs.Single.{decides-one, frees-one, scrubs-one}
use Rattle.ro_audit.proofs.Slots.{AreSlots, slots-take, slots-return, slots-alone}
use Rattle.ro_audit.proofs.Got.{decision-brings, knows-more}
use Rattle.ro_audit.proofs.Ends.{ends-alone}
use Rattle.ro_audit.proofs.Refused.{scrubs-alone}

-- ---- one entry more

module _ (old new : CoreOf) (entry : Entry) (lent : List (Option LentOf)) (rows : Rows) (output : List ℕ) (f : Follows old lent rows output) (allowed : IsAllowed old.job (left_by old) entry) (a : Appends old new entry) where
  -- what holds behind the entry holds of the new core
  at-new : (P : Job → List Entry → Type 0) → P old.job (old.journal ++ entry ∷ []) → P new.job new.journal
  at-new P p = subst (λ (j : Job). P j new.journal) (sym a.job) (subst (P old.job) (sym a.journal) p)

  -- the journal is legal with it
  pub legal-then : Legal old.job (old.journal ++ entry ∷ [])
  legal-then = legal-more old.job old.journal entry f.legal allowed

  pub follows-more : (lent' : List (Option LentOf)) (rows' : Rows) (output' : List ℕ) → output' ≡ output_of new.job new.journal → length lent' ≡ length lent → AreSlots old.job (replay old.job (old.journal ++ entry ∷ [])) lent' → KnowsGot old.job (old.journal ++ entry ∷ []) rows' → Follows new lent' rows' output'
  follows-more lent' rows' output' output_is count slots knows = record {
    can_run = at-new (λ j js. CanRun j) f.can_run;
    fit = at-new (λ j js. IsFit j) f.fit;
    legal = at-new Legal legal-then;
    output_is = output_is;
    drivers = count ∙ f.drivers ∙ ap (λ (j : Job). j.settings.drivers) (sym a.job);
    slots = λ driver. at-new (λ j js. Slot j (replay j js) driver (slice_index_or lent' driver None)) (slots driver);
    got = at-new (λ j js. KnowsGot j js rows') knows;
  }

  -- an entry that comes where nothing is lent, and leaves that so
  follows-alone : (left_by old).leases ≡ [] → (after old.job (left_by old) entry).leases ≡ (left_by old).leases → BringsNone entry → (output' : List ℕ) → output' ≡ output_of new.job new.journal → Follows new lent rows output'
  follows-alone alone same none output' output_is =
      follows-more lent rows output' output_is refl
      (slots-alone old.job (left_by old) (replay old.job (old.journal ++ entry ∷ [])) lent alone (ap (λ (c : Core). c.leases) (replay-more old.job old.journal entry) ∙ same) f.slots)
      (knows-more old.job old.journal entry rows none f.got)

  -- a vote, a free or a scrub, or an end in its place
  decision-follows : (left_by old).leases ≡ [] → IsDecision entry → (output' : List ℕ) → output' ≡ output_of new.job new.journal → Follows new lent rows output'
  decision-follows alone is = follows-alone alone (decision-leases old.job (left_by old) entry is) (decision-brings entry is)

-- ---- a take

take-of : (old new : CoreOf) (loan : LentOf) (lent lent' : List (Option LentOf)) (rows : Rows) (output : List ℕ) → Follows old lent rows output → MayTake old.job (left_by old) (lease_in loan) → Appends old new (Take (lease_in loan)) → output_of new.job new.journal ≡ output_of old.job old.journal
    → IsLent old.job old.journal loan → lent' ≡ slice_set lent (lease_in loan).driver (Some loan) → Followed old (Take (lease_in loan)) None new lent' rows output
take-of old new loan lent lent' rows output f may a same its is =
    let allowed = take-allowed old.job (left_by old) (lease_in loan) may in
    let legal = legal-then old new (Take (lease_in loan)) lent rows output f allowed a in
    let slots = slots-take old.job old.journal loan lent f.fit legal may its f.drivers f.slots in (
      allowed,
      a,
      follows-more old new (Take (lease_in loan)) lent rows output f allowed a lent' rows output (f.output_is ∙ sym same) (ap length is ∙ length-set lent (lease_in loan).driver (Some loan))
          (subst (AreSlots old.job (replay old.job (old.journal ++ Take (lease_in loan) ∷ []))) (sym is) slots)
          (knows-more old.job old.journal (Take (lease_in loan)) rows tt f.got),
    )

pub take-followed : (old new : CoreOf) (lease : Lease) (loan : LentOf) (lent lent' : List (Option LentOf)) (rows : Rows) (output : List ℕ) → lease_in loan ≡ lease → Follows old lent rows output → MayTake old.job (left_by old) lease → Appends old new (Take lease) → output_of new.job new.journal ≡ output_of old.job old.journal
    → IsLent old.job old.journal loan → lent' ≡ slice_set lent lease.driver (Some loan) → Followed old (Take lease) None new lent' rows output
take-followed old new lease loan lent lent' rows output same_lease f may a same its is =
    subst (λ (l : Lease). Followed old (Take l) None new lent' rows output) same_lease
    (take-of old new loan lent lent' rows output f (subst (MayTake old.job (left_by old)) (sym same_lease) may) (subst (λ (l : Lease). Appends old new (Take l)) (sym same_lease) a) same its
    (is ∙ ap (λ (l : Lease). slice_set lent l.driver (Some loan)) (sym same_lease)))

-- ---- a return

pub return-followed : (old new : CoreOf) (lease : Lease) (entry : Entry) (back : BackOf) (lent lent' : List (Option LentOf)) (rows rows' : Rows) (output : List ℕ) → Follows old lent rows output → Returns lease entry → MayReturn old.job old.journal back → entry_of (left_by old) back ≡ entry
    → Appends old new (entry_of (left_by old) back) → output_of new.job new.journal ≡ output_of old.job old.journal → lease.driver < length lent → lent' ≡ slice_set lent lease.driver None → KnowsGot old.job (old.journal ++ entry ∷ []) rows' → Followed old entry None new lent' rows' output
return-followed old new lease entry back lent lent' rows rows' output f returns may its appends same within is knows =
    let allowed = subst (IsAllowed old.job (left_by old)) its (loan-allowed old.job old.journal back may) in
    let a = subst (Appends old new) its appends in
    let legal = legal-then old new entry lent rows output f allowed a in
    let slots = slots-return old.job old.journal lease entry lent f.fit legal returns within f.slots in (
      allowed,
      a,
      follows-more old new entry lent rows output f allowed a lent' rows' output (f.output_is ∙ sym same) (ap length is ∙ length-set lent lease.driver None)
          (subst (AreSlots old.job (replay old.job (old.journal ++ entry ∷ []))) (sym is) slots) knows,
    )

-- what came back, where something did, and that all it got is known
pub came-back : {B : Type 0} (back_of : B → BackOf) (job : Job) (journal : List Entry) (entry : Entry) (result : Result B Why) (back : B) → result ≡ Ok back → MatchResult result (λ b. MayReturn job journal (back_of b) × (entry_of (replay job journal) (back_of b) ≡ entry)) (λ why. IsRefused job journal entry why)
    → MayReturn job journal (back_of back) × (entry_of (replay job journal) (back_of back) ≡ entry)
came-back {B = B} back_of job journal entry result back is w =
    subst (λ (r : Result B Why). MatchResult r (λ b. MayReturn job journal (back_of b) × (entry_of (replay job journal) (back_of b) ≡ entry)) (λ why. IsRefused job journal entry why)) is w

pub came-known : {B : Type 0} (P : Type 0) (result : Result B Why) (back : B) → result ≡ Ok back → OnOk result P → P
came-known {B = B} P result back is w = subst (λ (r : Result B Why). OnOk r P) is w

-- ---- an end

-- a front of what was written is left
cut-front : (core : Core) (how : How) → take (length (cut_output core how)) core.output ≡ cut_output core how
cut-front core (Sink bytes) =
    let left = length core.output - core.wrote + bytes in
    ap (λ (n : ℕ). take n core.output) (length-take left core.output) ∙ take_min left core.output
cut-front core how = take-length core.output

pub end-follows : (old new : CoreOf) (how : How) (lent : List (Option LentOf)) (rows : Rows) (output : List ℕ) (bytes : ℕ) → Follows old lent rows output → IsAllowed old.job (left_by old) (End how) → Appends old new (End how) → bytes ≡ length (output_of new.job new.journal) → Follows new lent rows (take bytes output)
end-follows old new how lent rows output bytes f allowed a is =
    let at : left_by new ≡ after old.job (left_by old) (End how) = ap (λ (j : Job). replay j new.journal) a.job ∙ ap (replay old.job) a.journal ∙ replay-more old.job old.journal (End how) in
    let new_is : output_of new.job new.journal ≡ cut_output (left_by old) how = ap (λ (c : Core). c.output) at ∙ end-output old.job (left_by old) how in
    follows-alone old new (End how) lent rows output f allowed a (ends-alone old.job old.journal how f.fit f.legal allowed) (end-leases old.job (left_by old) how) tt (take bytes output)
    (ap (λ (n : ℕ). take n output) (is ∙ ap length new_is) ∙ ap (take (length (cut_output (left_by old) how))) f.output_is ∙ cut-front (left_by old) how ∙ sym new_is)

-- ---- the opening

-- a core that was just opened, and nothing is lent
pub opened : (job : Job) (core : CoreOf) (lent : List (Option LentOf)) (rows : Rows) → CanRun job → IsFit job → core.job ≡ job → core.journal ≡ [] → length lent ≡ job.settings.drivers → ((driver : ℕ) → slice_index_or lent driver None ≡ None) → KnowsGot job [] rows → Follows core lent rows []
opened job core lent rows can fit job_is journal_is count vacant knows = record {
  can_run = at (λ j js. CanRun j) can;
  fit = at (λ j js. IsFit j) fit;
  legal = at Legal (none-legal job);
  output_is = at (λ j js. [] ≡ output_of j js) (sym (none-written job));
  drivers = count ∙ ap (λ (j : Job). j.settings.drivers) (sym job_is);
  slots = λ driver. subst (Slot core.job (left_by core) driver) (sym (vacant driver)) (at (λ j js. Slot j (replay j js) driver None) (opening-idle job driver));
  got = at (λ j js. KnowsGot j js rows) knows;
}
  where
    at : (P : Job → List Entry → Type 0) → P job [] → P core.job core.journal
    at P p = subst (λ (j : Job). P j core.journal) (sym job_is) (subst (P job) (sym journal_is) p)

-- ---- a core that stays, but for room and views

module _ (old new : CoreOf) (job : new.job ≡ old.job) (journal : new.journal ≡ old.journal) where
  -- what holds of the one holds of the other
  pub to-new : (P : Job → List Entry → Type 0) → P old.job old.journal → P new.job new.journal
  to-new P p = subst (λ (j : Job). P j new.journal) (sym job) (subst (P old.job) (sym journal) p)

  pub to-old : (P : Job → List Entry → Type 0) → P new.job new.journal → P old.job old.journal
  to-old P p = subst (P old.job) journal (subst (λ (j : Job). P j new.journal) job p)

  pub same-follows : (lent : List (Option LentOf)) (rows : Rows) (output : List ℕ) → Follows old lent rows output → Follows new lent rows output
  same-follows lent rows output f = record {
    can_run = to-new (λ j js. CanRun j) f.can_run;
    fit = to-new (λ j js. IsFit j) f.fit;
    legal = to-new Legal f.legal;
    output_is = to-new (λ j js. output ≡ output_of j js) f.output_is;
    drivers = f.drivers ∙ ap (λ (j : Job). j.settings.drivers) (sym job);
    slots = λ driver. to-new (λ j js. Slot j (replay j js) driver (slice_index_or lent driver None)) (f.slots driver);
    got = to-new (λ j js. KnowsGot j js rows) f.got;
  }

  -- what was followed from the one was followed from the other
  pub same-followed : (entry : Entry) (answer : Option Why) (core : CoreOf) (lent : List (Option LentOf)) (rows : Rows) (output : List ℕ) → Followed new entry answer core lent rows output → Followed old entry answer core lent rows output
  same-followed entry None core lent rows output w = (
    to-old (λ j js. IsAllowed j (replay j js) entry) w.0,
    record { job = w.1.job ∙ job; journal = w.1.journal ∙ ap (λ (js : List Entry). js ++ entry ∷ []) journal },
    w.2,
  )
  same-followed entry (Some why) core lent rows output w = to-old (λ j js. IsRefused j js entry why) w

  -- whatever the answer was, where there was memory for one
  pub same-answers : {E : Type 0} (entry : Entry) (result : Result (Option Why) E) (core : CoreOf) (lent : List (Option LentOf)) (rows : Rows) (output : List ℕ) → IfOk result (λ answer. Followed new entry answer core lent rows output) → IfOk result (λ answer. Followed old entry answer core lent rows output)
  same-answers entry (Ok answer) core lent rows output w = same-followed entry answer core lent rows output w
  same-answers entry (Err e) core lent rows output w = tt

-- what holds of a journal holds of the same one
pub same-old : (P : Job → Core → Type 0) (old new : CoreOf) → Same old new → P new.job (left_by new) → P old.job (left_by old)
same-old P old new same = to-old old new same.job same.journal (λ j js. P j (replay j js))

pub same-new : (P : Job → Core → Type 0) (old new : CoreOf) → Same old new → P old.job (left_by old) → P new.job (left_by new)
same-new P old new same = to-new old new same.job same.journal (λ j js. P j (replay j js))

pub same-both : (one two three : CoreOf) → Same one two → Same two three → Same one three
same-both one two three s t = record { job = t.job ∙ s.job; journal = t.journal ∙ s.journal }

-- ---- what a vote, a free or a scrub came to, and the entry

module _ (old new : CoreOf) (entry came : Entry) (answer : Option Why) (lent : List (Option LentOf)) (rows : Rows) (output : List ℕ) (f : Follows old lent rows output) (same : IsUnless came entry answer)
    (allowed : IsAllowed old.job (left_by old) came) (a : Appends old new came) where
  by-answer : (output' : List ℕ) → (IsAllowed old.job (left_by old) entry → came ≡ entry) → Compete old.job (left_by old) entry came → Follows new lent rows output' → Followed old entry answer new lent rows output'
  by-answer output' one compete follows = by answer same
    where
      by : (o : Option Why) → IsUnless came entry o → Followed old entry o new lent rows output'
      by None s = (subst (IsAllowed old.job (left_by old)) s allowed, subst (Appends old new) s a, follows)
      by (Some why) s = (λ m j. s.1 (one m), subst (IsReason old.job (left_by old) (got_in old.job old.journal) entry) (sym s.0) (allowed, s.1, compete))

  pub vote-followed : (thread : ℕ) (bytes : List ℕ) → may_vote (left_by old) thread ≡ true → DecidesVote old.job (left_by old) thread entry → DecidesVote old.job (left_by old) thread came → output_of new.job new.journal ≡ output_of old.job old.journal ++ bytes
      → Followed old entry answer new lent rows (output ++ bytes)
  vote-followed thread bytes may decides came_decides wrote =
      by-answer (output ++ bytes) (λ m. decides-one old.job.settings.mode old.job (left_by old) thread came entry allowed came_decides m decides) (inl (thread, may, decides, came_decides))
      (decision-follows old new came lent rows output f allowed a (vote-parts (left_by old) thread may).alone (vote-decision old.job (left_by old) thread came came_decides) (output ++ bytes) (ap (λ (xs : List ℕ). xs ++ bytes) f.output_is ∙ sym wrote))

  pub free-followed : (thread : ℕ) → may_free old.job (left_by old) thread ≡ true → DecidesFree old.job (left_by old) thread entry → DecidesFree old.job (left_by old) thread came → output_of new.job new.journal ≡ output_of old.job old.journal → Followed old entry answer new lent rows output
  free-followed thread may decides came_decides quiet =
      by-answer output (λ m. frees-one old.job.settings.mode old.job (left_by old) thread came entry allowed came_decides m decides) (inr (inl (thread, may, decides, came_decides)))
      (decision-follows old new came lent rows output f allowed a (free-parts old.job (left_by old) thread may).alone (free-decision old.job (left_by old) thread came came_decides) output (f.output_is ∙ sym quiet))

  pub scrub-followed : scrubs old.job (left_by old) ≡ true → DecidesScrub old.job (left_by old) entry → DecidesScrub old.job (left_by old) came → output_of new.job new.journal ≡ output_of old.job old.journal → Followed old entry answer new lent rows output
  scrub-followed may decides came_decides quiet =
      by-answer output (λ m. scrubs-one old.job.settings.mode old.job (left_by old) came entry allowed came_decides m decides) (inr (inr (may, decides, came_decides)))
      (decision-follows old new came lent rows output f allowed a (scrubs-alone old.job (left_by old) may) (scrub-decision old.job (left_by old) came came_decides) output (f.output_is ∙ sym quiet))
