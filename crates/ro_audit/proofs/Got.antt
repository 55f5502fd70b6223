-- What was got by the entries of a journal, in rows by the mutexes' numbers, behind an entry by which no lease came back.
use Rattle.std.proofs.Common.{◌≡◌, inl, inr, ℕ, List, [], ◌∷◌, ◌++◌, sym, ap, subst}
use Rattle.std.specs.Prelude.{⊤}
use Rattle.ro_journal.specs.declared.Entry.{Entry}
use Rattle.ro_journal.specs.declared.Entry.TheVariants.{Take, Put, Part, Vote, Free, Scrub, End}
use Rattle.ro_settings.specs.declared.Mode.TheVariants.{Voted, Cooperative}
use Rattle.ro_orders.specs.Copies.{Rows}
use Rattle.ro_peer.specs.declared.mutexes.Mutex.{Mutex}
use Rattle.ro_peer.specs.Gets.{Get, InRows}
use Rattle.ro_peer.specs.Seen.{by_address}
use Rattle.ro_peer.specs.Leases.{IsAmong}
use Rattle.ro_peer.proofs.Joining.{in_more_rows}
use Rattle.ro_locking.specs.Got.{KeepsNumbers}
use Rattle.ro_locking.proofs.Adding.{rows_later}
use Rattle.ro_legal.specs.Core.{Job, Core}
use Rattle.ro_legal.specs.Modes.{Mode, InMode, in_mode}
use Rattle.ro_legal.specs.Cooperative.{opening_core, replay, after, gets_of, gets_from}
use Rattle.ro_legal.proofs.Modes.{IsDecision}
use Rattle.ro_cores.specs.History.{BringsNone}
use Rattle.ro_cores.specs.Loans.{mutexes_in, IsJoined}
use Rattle.ro_cores.proofs.Getting.{brings-none, replay-append}
use Rattle.ro_cores.proofs.Numbers.{first_of, numbers-along}
use Rattle.ro_audit.specs.Following.{AreGot, KnowsGot}

-- ---- which entries bring nothing

-- a vote, a free or a scrub, or an end in its place
pub decision-brings : (entry : Entry) → IsDecision entry → BringsNone entry
decision-brings (Take lease) is = tt
decision-brings (Put lease count hit) is = absurd is
decision-brings (Part lease count hit) is = absurd is
decision-brings (Vote thread count won lost did) is = tt
decision-brings (Free thread) is = tt
decision-brings (Scrub won lost) is = tt
decision-brings (End how) is = tt

-- behind one all that was got is what was got before
gets-more : (job : Job) (core : Core) (journal : List Entry) (entry : Entry) → BringsNone entry → gets_from job core (journal ++ entry ∷ []) ≡ gets_from job core journal
gets-more job core [] entry none = ap (λ (gets : List Get). gets ++ []) (brings-none job core entry none)
gets-more job core (e ∷ journal) entry none = ap (λ (gets : List Get). gets_of job core e ++ gets) (gets-more job (after job core e) journal entry none)

-- ---- where more mutexes have numbers

among-later : (old new : List Mutex) (gets : List Get) (number rank thread : ℕ) → KeepsNumbers old new → IsAmong old gets number rank thread → IsAmong new gets number rank thread
among-later old new [] number rank thread numbers is = absurd is
among-later old new (get ∷ gets) number rank thread numbers (inl here) = inl (numbers get.mutex number here.0, here.1, here.2)
among-later old new (get ∷ gets) number rank thread numbers (inr later) = inr (among-later old new gets number rank thread numbers later)

-- the rows are still what was got
pub got-later : (old new : List Mutex) (gets : List Get) (rows : Rows) → KeepsNumbers old new → AreGot old gets rows → AreGot new gets rows
got-later old new gets rows numbers got = record {
  in_rows = in_more_rows (by_address old rows) (by_address new rows) gets (rows_later old new rows rows numbers (λ number rank thread is. is)) got.in_rows;
  among = λ number rank thread is. among-later old new gets number rank thread numbers (got.among number rank thread is);
}

-- the mutexes keep their numbers along a journal
pub mutexes-more : (job : Job) (journal rest : List Entry) → KeepsNumbers (mutexes_in job journal) (mutexes_in job (journal ++ rest))
mutexes-more job journal rest =
    subst (λ (core : Core). KeepsNumbers (mutexes_in job journal) (first_of core.sides)) (sym (replay-append job (opening_core job) journal rest))
    (numbers-along job (replay job journal) rest)

-- ---- in a mode

abbrev KnowsIn : Mode → Job → List Entry → Rows → Type 0
KnowsIn mode job journal rows = InMode mode ⊤ (AreGot (mutexes_in job journal) (in_mode mode [] (gets_from job (opening_core job) journal)) rows)

none-more : (mode : Mode) (job : Job) (journal : List Entry) (entry : Entry) (rows : Rows) → BringsNone entry → KnowsIn mode job journal rows → KnowsIn mode job (journal ++ entry ∷ []) rows
none-more Voted job journal entry rows none knows = tt
none-more Cooperative job journal entry rows none knows =
    subst (λ (gets : List Get). AreGot (mutexes_in job (journal ++ entry ∷ [])) gets rows) (sym (gets-more job (opening_core job) journal entry none))
    (got-later (mutexes_in job journal) (mutexes_in job (journal ++ entry ∷ [])) (gets_from job (opening_core job) journal) rows (mutexes-more job journal (entry ∷ [])) knows)

joined-in : (mode : Mode) (job : Job) (journal : List Entry) (rows : Rows) → KnowsIn mode job journal rows → InMode mode ⊤ ((all : Rows) × InRows all (gets_from job (opening_core job) journal))
joined-in Voted job journal rows knows = tt
joined-in Cooperative job journal rows knows = (by_address (mutexes_in job journal) rows, knows.in_rows)

-- ---- by the mode of the job

-- the rows are what was got behind an entry that brings nothing
pub knows-more : (job : Job) (journal : List Entry) (entry : Entry) (rows : Rows) → BringsNone entry → KnowsGot job journal rows → KnowsGot job (journal ++ entry ∷ []) rows
knows-more job = none-more job.settings.mode job

-- all that was got stands in rows
pub knows-joined : (job : Job) (journal : List Entry) (rows : Rows) → KnowsGot job journal rows → IsJoined job journal
knows-joined job = joined-in job.settings.mode job
