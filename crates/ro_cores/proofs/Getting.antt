-- What a driver's own entries got, along a history that grows at its end, and all that was got.
use Rattle.std.specs.Prelude.{◌≡◌, ℕ, ◌<◌, ◌==◌, Bool, if◌then◌else◌, List, [], ◌∷◌, ◌++◌}
use Rattle.std.proofs.Common.{refl, sym, ap, ◌∙◌, subst, append_assoc, append-nil, eq-eqb, ne_eqb}
use Rattle.std.proofs.lemmas.List.{map-append}
use Rattle.ro_journal.specs.declared.Entry.{Entry}
use Rattle.ro_journal.specs.declared.Entry.TheVariants.{Take, Put, Part, Vote, Free, Scrub, End}
use Rattle.ro_orders.specs.Copies.{Rows}
use Rattle.ro_peer.specs.Gets.{Get, InRows}
use Rattle.ro_peer.proofs.Joining.{in_rows_both}
use Rattle.ro_legal.specs.Core.{Job, Core}
use Rattle.ro_legal.specs.Cooperative.{after, replay_from, gets_of, gets_from}
use Rattle.ro_cores.specs.History.{Turned, turned, journal_of, NoneBy, AreWithin, BringsNone}
use Rattle.ro_cores.specs.Loans.{gets_along}

-- ---- histories

pub journal-append : (history rest : List Turned) → journal_of (history ++ rest) ≡ journal_of history ++ journal_of rest
journal-append history rest = map-append (λ t. t.entry) history rest

pub replay-append : (job : Job) (core : Core) (journal rest : List Entry) → replay_from job core (journal ++ rest) ≡ replay_from job (replay_from job core journal) rest
replay-append job core [] rest = refl
replay-append job core (entry ∷ journal) rest = replay-append job (after job core entry) journal rest

-- ---- what one driver's entries got

abbrev own_gets : Bool → List Get → List Get
own_gets own gets = if own then gets else []

pub gets-append : (job : Job) (core : Core) (number : ℕ) (history rest : List Turned) → gets_along job core number (history ++ rest) ≡ gets_along job core number history ++ gets_along job (replay_from job core (journal_of history)) number rest
gets-append job core number [] rest = refl
gets-append job core number (t ∷ history) rest =
    let mine : List Get = own_gets (t.by == number) (gets_of job core t.entry) in
    ap (λ (gets : List Get). mine ++ gets) (gets-append job (after job core t.entry) number history rest)
    ∙ sym (append_assoc mine (gets_along job (after job core t.entry) number history) (gets_along job (replay_from job (after job core t.entry) (journal_of history)) number rest))

-- those that bear another number got nothing for it
pub gets-none : (job : Job) (core : Core) (number : ℕ) (rest : List Turned) → NoneBy number rest → gets_along job core number rest ≡ []
gets-none job core number [] none = refl
gets-none job core number (t ∷ rest) none =
    ap (λ (b : Bool). own_gets b (gets_of job core t.entry) ++ gets_along job (after job core t.entry) number rest) (ne_eqb t.by number none.0)
    ∙ gets-none job (after job core t.entry) number rest none.1

pub gets-own : (job : Job) (core : Core) (number : ℕ) (entry : Entry) → gets_along job core number (turned number entry ∷ []) ≡ gets_of job core entry
gets-own job core number entry =
    ap (λ (b : Bool). own_gets b (gets_of job core entry) ++ []) (eq-eqb number number refl)
    ∙ append-nil (gets_of job core entry)

-- an entry that brings no lease back got nothing
pub brings-none : (job : Job) (core : Core) (entry : Entry) → BringsNone entry → gets_of job core entry ≡ []
brings-none job core (Take lease) none = refl
brings-none job core (Put lease count hit) none = absurd none
brings-none job core (Part lease count hit) none = absurd none
brings-none job core (Vote thread count won lost did) none = refl
brings-none job core (Free thread) none = refl
brings-none job core (Scrub won lost) none = refl
brings-none job core (End how) none = refl

-- ---- all that was got

rows-parts : (rows : Rows) (one two : List Get) → InRows rows (one ++ two) → InRows rows one × InRows rows two
rows-parts rows [] two in_rows = (tt, in_rows)
rows-parts rows (get ∷ one) two in_rows = let rest = rows-parts rows one two in_rows.1 in ((in_rows.0, rest.0), rest.1)

-- where what each driver's entries got stands in the rows, all does
pub all-in-rows : (job : Job) (core : Core) (rows : Rows) (given : ℕ) (history : List Turned) → AreWithin given history → ((number : ℕ) → number < given → InRows rows (gets_along job core number history))
    → InRows rows (gets_from job core (journal_of history))
all-in-rows job core rows given [] within each = tt
all-in-rows job core rows given (t ∷ history) within each =
    in_rows_both rows (gets_of job core t.entry) (gets_from job (after job core t.entry) (journal_of history))
    (subst (λ (b : Bool). InRows rows (own_gets b (gets_of job core t.entry))) (eq-eqb t.by t.by refl)
    (rows-parts rows (own_gets (t.by == t.by) (gets_of job core t.entry)) (gets_along job (after job core t.entry) t.by history) (each t.by within.0)).0)
    (all-in-rows job (after job core t.entry) rows given history within.1
    (λ number less. (rows-parts rows (own_gets (t.by == number) (gets_of job core t.entry)) (gets_along job (after job core t.entry) number history) (each number less)).1))
