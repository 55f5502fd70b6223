-- Cooperative journals that grow at their end.
use Rattle.std.proofs.Common.{◌≡◌, List, [], ◌∷◌, ◌++◌, refl}
use Rattle.ro_journal.specs.declared.Entry.{Entry}
use Rattle.ro_legal.specs.Core.{Job, Core}
use Rattle.ro_legal.specs.Cooperative.{opening_core, after, IsAllowed, LegalFrom, Legal, replay_from, replay}
use Rattle.ro_legal.specs.Choices.{EachIsNext}

replay_from-append : (job : Job) (core : Core) (xs ys : List Entry) → replay_from job core (xs ++ ys) ≡ replay_from job (replay_from job core xs) ys
replay_from-append job core [] ys = refl
replay_from-append job core (x ∷ xs) ys = replay_from-append job (after job core x) xs ys

LegalFrom-append : (job : Job) (core : Core) (xs ys : List Entry) → LegalFrom job core xs → LegalFrom job (replay_from job core xs) ys → LegalFrom job core (xs ++ ys)
LegalFrom-append job core [] ys l m = m
LegalFrom-append job core (x ∷ xs) ys l m = (l.0, LegalFrom-append job (after job core x) xs ys l.1 m)

pub EachIsNext-append : (job : Job) (core : Core) (xs ys : List Entry) → EachIsNext job core xs → EachIsNext job (replay_from job core xs) ys → EachIsNext job core (xs ++ ys)
EachIsNext-append job core [] ys l m = m
EachIsNext-append job core (x ∷ xs) ys l m = (l.0, EachIsNext-append job (after job core x) xs ys l.1 m)

pub LegalFrom-parts : (job : Job) (core : Core) (xs ys : List Entry) → LegalFrom job core (xs ++ ys) → LegalFrom job core xs × LegalFrom job (replay_from job core xs) ys
LegalFrom-parts job core [] ys l = (tt, l)
LegalFrom-parts job core (x ∷ xs) ys l = let p = LegalFrom-parts job (after job core x) xs ys l.1 in ((l.0, p.0), p.1)

-- what each entry that is allowed keeps, a legal journal keeps
pub legal-keeps : (job : Job) (P : Core → Type 0) → ((core : Core) (entry : Entry) → IsAllowed job core entry → P core → P (after job core entry)) → (core : Core) (journal : List Entry) → LegalFrom job core journal → P core → P (replay_from job core journal)
legal-keeps job P keeps core [] legal h = h
legal-keeps job P keeps core (entry ∷ journal) legal h = legal-keeps job P keeps (after job core entry) journal legal.1 (keeps core entry legal.0 h)

pub replay_more : (job : Job) (journal : List Entry) (entry : Entry) → replay job (journal ++ entry ∷ []) ≡ after job (replay job journal) entry
replay_more job journal entry = replay_from-append job (opening_core job) journal (entry ∷ [])

pub legal_more : (job : Job) (journal : List Entry) (entry : Entry) → Legal job journal → IsAllowed job (replay job journal) entry → Legal job (journal ++ entry ∷ [])
legal_more job journal entry legal allowed = LegalFrom-append job (opening_core job) journal (entry ∷ []) legal (allowed, tt)
