-- The puts of a journal in which faults are struck, one after another.
use Rattle.std.specs.Prelude.{◌≡◌, ℕ, zero, suc, ◌<◌, List, [], ◌∷◌, ◌++◌}
use Rattle.std.proofs.Common.{refl, sym, subst, arith, append_assoc, append-nil}
use Rattle.ro_journal.specs.declared.Lease.{Lease}
use Rattle.ro_journal.specs.declared.Entry.{Entry}
use Rattle.ro_journal.specs.declared.Entry.TheVariants.{Take, Put, Part, Vote, Free, Scrub, End}

-- the property holds of what comes before each such put, and of its replica
abbrev pub EachStrike : (List Entry → ℕ → Type 0) → List Entry → List Entry → Type 0
EachStrike P past [] = Unit {0}
EachStrike P past (Put lease count (suc hit) ∷ rest) = P past lease.replica × EachStrike P (past ++ Put lease count (suc hit) ∷ []) rest
EachStrike P past (entry ∷ rest) = EachStrike P (past ++ entry ∷ []) rest

-- behind an entry
later : (P : List Entry → ℕ → Type 0) (past : List Entry) (entry : Entry) (rest : List Entry) → EachStrike P past (entry ∷ rest) → EachStrike P (past ++ entry ∷ []) rest
later P past (Put lease count (suc hit)) rest h = h.1
later P past (Put lease count zero) rest h = h
later P past (Part lease count hit) rest h = h
later P past (Take lease) rest h = h
later P past (Vote thread count won lost did) rest h = h
later P past (Free thread) rest h = h
later P past (Scrub won lost) rest h = h
later P past (End how) rest h = h

-- at a put that strikes
strike-here : (P : List Entry → ℕ → Type 0) (past : List Entry) (lease : Lease) (count hit : ℕ) (rest : List Entry) → 0 < hit → EachStrike P past (Put lease count hit ∷ rest) → P past lease.replica
strike-here P past lease count zero rest some h = absurd (omega arith)
strike-here P past lease count (suc hit) rest some h = h.0

-- at each put that strikes
pub strike-at : (P : List Entry → ℕ → Type 0) (past rest before after : List Entry) (lease : Lease) (count hit : ℕ) → EachStrike P past rest → rest ≡ before ++ Put lease count hit ∷ after → 0 < hit → P (past ++ before) lease.replica
strike-at P past rest [] after lease count hit h e some =
    subst (λ (j : List Entry). P j lease.replica) (sym (append-nil past)) (strike-here P past lease count hit after some (subst (EachStrike P past) e h))
strike-at P past rest (entry ∷ before) after lease count hit h e some =
    subst (λ (j : List Entry). P j lease.replica) (append_assoc past (entry ∷ []) before)
    (strike-at P (past ++ entry ∷ []) (before ++ Put lease count hit ∷ after) before after lease count hit
    (later P past entry (before ++ Put lease count hit ∷ after) (subst (EachStrike P past) e h)) refl some)
