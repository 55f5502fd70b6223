-- A lease stays out, and what is lent and the kernel as they were, while others take their turns.
use Rattle.std.proofs.Common.{◌≡◌, ℕ, List, [], ◌∷◌, ◌++◌, sym, ap, ◌∙◌, subst, append_assoc, append-nil}
use Rattle.ro_journal.specs.declared.Entry.{Entry}
use Rattle.ro_journal.specs.declared.Lease.{Lease}
use Rattle.ro_kernel.specs.Kernel.{Kernel}
use Rattle.ro_replica.specs.Replica.{Replica}
use Rattle.ro_legal.specs.Parts.{Lent}
use Rattle.ro_peer.specs.Peers.{Peer}
use Rattle.ro_legal.specs.Core.{Job}
use Rattle.ro_legal.specs.Core as voted_core
use Rattle.ro_legal.specs.Laws.{HasLease}
use Rattle.ro_legal.specs.Legal as votes
use Rattle.ro_legal.specs.Cooperative as together
use Rattle.ro_legal.specs.Kept.{HasPeer, NoFurtherAhead}
use Rattle.ro_legal.proofs.Journals as voted_journals
use Rattle.ro_legal.proofs.TogetherJournals as together_journals
use Rattle.ro_legal.proofs.Lasting.{lease-stays, kernel_lasts}
use Rattle.ro_legal.proofs.TogetherLeases.{lease-lasts}
use Rattle.ro_legal.proofs.TogetherRanks.{ranks-grow}
use Rattle.ro_cores.specs.History.{Turned, Owned, NoneBy, journal_of}

-- the journal with one entry moved over
move_over : (before : List Entry) (entry : Entry) (rest : List Entry) → before ++ (entry ∷ rest) ≡ (before ++ entry ∷ []) ++ rest
move_over before entry rest = sym (append_assoc before (entry ∷ []) rest)

-- ---- by votes

-- the journal with one entry moved over is legal, up to that entry too
voted_over : (job : Job) (before : List Entry) (entry : Entry) (rest : List Entry) → votes.Legal job (before ++ (entry ∷ rest)) → votes.Legal job ((before ++ entry ∷ []) ++ rest)
voted_over job before entry rest legal = subst (λ (js : List Entry). votes.Legal job js) (move_over before entry rest) legal

voted_first : (job : Job) (before : List Entry) (entry : Entry) (rest : List Entry) → votes.Legal job (before ++ (entry ∷ rest)) → votes.Legal job (before ++ entry ∷ [])
voted_first job before entry rest legal = (voted_journals.LegalFrom-parts job (voted_core.opening_core job) (before ++ entry ∷ []) rest (voted_over job before entry rest legal)).0

pub out_along : (job : Job) (driver : ℕ) (lease : Lease) (lent : Lent) (value : Replica) (before : List Entry) (rest : List Turned) → votes.Legal job (before ++ journal_of rest) → Owned rest → NoneBy driver rest → HasLease (votes.replay job before) driver lease lent value → HasLease (votes.replay job (before ++ journal_of rest)) driver lease lent value
out_along job driver lease lent value before [] legal own none out = subst (λ (js : List Entry). HasLease (votes.replay job js) driver lease lent value) (sym (append-nil before)) out
out_along job driver lease lent value before (t ∷ ts) legal own none out =
    let first = voted_first job before t.entry (journal_of ts) legal in
    subst (λ (js : List Entry). HasLease (votes.replay job js) driver lease lent value) (sym (move_over before t.entry (journal_of ts)))
    (out_along job driver lease lent value (before ++ t.entry ∷ []) ts (voted_over job before t.entry (journal_of ts) legal) own.1 none.1 (lease-stays job before t.entry first driver t.by own.0 none.0 lease lent value out))

pub kernel_along : (job : Job) (driver : ℕ) (lease : Lease) (lent : Lent) (value : Replica) (before : List Entry) (rest : List Turned) → votes.Legal job (before ++ journal_of rest) → Owned rest → NoneBy driver rest → HasLease (votes.replay job before) driver lease lent value → (votes.replay job (before ++ journal_of rest)).kernel ≡ (votes.replay job before).kernel
kernel_along job driver lease lent value before [] legal own none out = ap (λ (js : List Entry). (votes.replay job js).kernel) (append-nil before)
kernel_along job driver lease lent value before (t ∷ ts) legal own none out =
    let first = voted_first job before t.entry (journal_of ts) legal in
    ap (λ (js : List Entry). (votes.replay job js).kernel) (move_over before t.entry (journal_of ts))
    ∙ kernel_along job driver lease lent value (before ++ t.entry ∷ []) ts (voted_over job before t.entry (journal_of ts) legal) own.1 none.1 (lease-stays job before t.entry first driver t.by own.0 none.0 lease lent value out)
    ∙ kernel_lasts job before t.entry first driver lease out.held

-- ---- in a cooperative run

shared_over : (job : Job) (before : List Entry) (entry : Entry) (rest : List Entry) → together.Legal job (before ++ (entry ∷ rest)) → together.Legal job ((before ++ entry ∷ []) ++ rest)
shared_over job before entry rest legal = subst (λ (js : List Entry). together.Legal job js) (move_over before entry rest) legal

shared_first : (job : Job) (before : List Entry) (entry : Entry) (rest : List Entry) → together.Legal job (before ++ (entry ∷ rest)) → together.Legal job (before ++ entry ∷ [])
shared_first job before entry rest legal = (together_journals.LegalFrom-parts job (together.opening_core job) (before ++ entry ∷ []) rest (shared_over job before entry rest legal)).0

pub peer_along : (job : Job) (driver : ℕ) (lease : Lease) (kernel : Kernel) (peer : Peer) (before : List Entry) (rest : List Turned) → job.faults ≡ [] → together.Legal job (before ++ journal_of rest) → Owned rest → NoneBy driver rest → HasPeer (together.replay job before) driver lease kernel peer → HasPeer (together.replay job (before ++ journal_of rest)) driver lease kernel peer
peer_along job driver lease kernel peer before [] unstruck legal own none out = subst (λ (js : List Entry). HasPeer (together.replay job js) driver lease kernel peer) (sym (append-nil before)) out
peer_along job driver lease kernel peer before (t ∷ ts) unstruck legal own none out =
    let first = shared_first job before t.entry (journal_of ts) legal in
    subst (λ (js : List Entry). HasPeer (together.replay job js) driver lease kernel peer) (sym (move_over before t.entry (journal_of ts)))
    (peer_along job driver lease kernel peer (before ++ t.entry ∷ []) ts unstruck (shared_over job before t.entry (journal_of ts) legal) own.1 none.1 (lease-lasts job before t.entry unstruck first driver t.by own.0 none.0 lease kernel peer out))

pub ranks_along : (job : Job) (before : List Entry) (rest : List Turned) → together.Legal job (before ++ journal_of rest) → NoFurtherAhead (together.replay job before).sides (together.replay job (before ++ journal_of rest)).sides
ranks_along job before [] legal = subst (λ (js : List Entry). NoFurtherAhead (together.replay job before).sides (together.replay job js).sides) (sym (append-nil before)) (λ address rank low. low)
ranks_along job before (t ∷ ts) legal =
    let first = shared_first job before t.entry (journal_of ts) legal in
    let later = ranks_along job (before ++ t.entry ∷ []) ts (shared_over job before t.entry (journal_of ts) legal) in
    subst (λ (js : List Entry). NoFurtherAhead (together.replay job before).sides (together.replay job js).sides) (sym (move_over before t.entry (journal_of ts)))
    (λ address rank low. later address rank (ranks-grow job before t.entry first address rank low))
