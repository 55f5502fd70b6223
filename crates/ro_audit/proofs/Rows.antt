-- Who got which rank of a mutex, in a map from ranks to threads.
use Rattle.std.specs.Prelude.{◌≡◌, ◌⊎◌, ℕ, Bool, true, false, cond, ◌&&◌, ◌==◌, ◌<◌, nat_lt, List, [], ◌∷◌, ◌++◌, Option, Some, None, OnOk, OnErr, Result, Ok, Err, is_ok}
use Rattle.std.specs.Map.{lookup}
use Rattle.indexmap.specs.IndexMap.{insert_entry}
use Rattle.std.proofs.Common.{refl, sym, ap, ◌∙◌, inl, inr, ⊎_elim, eq-eqb}
use Rattle.std.proofs.lemmas.Bool.{eqb-true, and_parts, lt-ltb}
use Rattle.ro_audit.specs.declared.ranks.Rank.{Rank}
use Rattle.ro_peer.specs.Leases.{KeepsRows}
use Rattle.ro_locking.specs.Asking.{ceiling_of, below}
use Rattle.ro_audit.specs.Ranks.{rows_in, won_in, with_taker}

-- two ranks are the same
abbrev pub same_rank : Rank → Rank → Bool
same_rank one other = (one.number == other.number) && (one.rank == other.rank)

abbrev is-at : Rank → (number rank : ℕ) → Bool
is-at at number rank = (at.number == number) && (at.rank == rank)

-- numbers are compared either way round
eqb-flip : (a b : ℕ) → (a == b) ≡ (b == a)
eqb-flip a b = by (a == b) (b == a) refl refl
  where
    by : (x y : Bool) → (a == b) ≡ x → (b == a) ≡ y → x ≡ y
    by true true p q = refl
    by false false p q = refl
    by true false p q = sym (eq-eqb b a (sym (eqb-true a b p))) ∙ q
    by false true p q = sym p ∙ eq-eqb a b (sym (eqb-true b a q))

-- a rank is looked up in the map as in the rows
pub lookup-rows : (entries : List (Rank × ℕ)) (at : Rank) → lookup (same_rank at) entries ≡ rows_in entries at.number at.rank
lookup-rows [] at = refl
lookup-rows (entry ∷ entries) at =
    ap (λ (b : Bool). cond (b && (at.rank == entry.0.rank)) (Some entry.1) (lookup (same_rank at) entries)) (eqb-flip at.number entry.0.number)
    ∙ (ap (λ (b : Bool). cond ((entry.0.number == at.number) && b) (Some entry.1) (lookup (same_rank at) entries)) (eqb-flip at.rank entry.0.rank)
    ∙ ap (λ (o : Option ℕ). cond (is-at entry.0 at.number at.rank) (Some entry.1) o) (lookup-rows entries at))

-- what is known stays known where an entry comes behind all others
pub rows-keep : (entries : List (Rank × ℕ)) (at : Rank) (thread number rank other : ℕ) → rows_in entries number rank ≡ Some other → rows_in (entries ++ (at, thread) ∷ []) number rank ≡ Some other
rows-keep [] at thread number rank other is = absurd (let f : None ≡ Some other = is in cc)
rows-keep (entry ∷ entries) at thread number rank other is = by (is-at entry.0 number rank) (rows-keep entries at thread number rank other) is
  where
    by : (b : Bool) → (rows_in entries number rank ≡ Some other → rows_in (entries ++ (at, thread) ∷ []) number rank ≡ Some other)
        → cond b (Some entry.1) (rows_in entries number rank) ≡ Some other → cond b (Some entry.1) (rows_in (entries ++ (at, thread) ∷ []) number rank) ≡ Some other
    by true rest e = e
    by false rest e = rest e

-- its own rank is found where no other entry has it
pub row-added : (entries : List (Rank × ℕ)) (at : Rank) (thread : ℕ) → rows_in entries at.number at.rank ≡ None → rows_in (entries ++ (at, thread) ∷ []) at.number at.rank ≡ Some thread
row-added [] at thread none =
    ap (λ (b : Bool). cond (b && (at.rank == at.rank)) (Some thread) None) (eq-eqb at.number at.number refl)
    ∙ ap (λ (b : Bool). cond b (Some thread) None) (eq-eqb at.rank at.rank refl)
row-added (entry ∷ entries) at thread none = by (is-at entry.0 at.number at.rank) (row-added entries at thread) none
  where
    by : (b : Bool) → (rows_in entries at.number at.rank ≡ None → rows_in (entries ++ (at, thread) ∷ []) at.number at.rank ≡ Some thread)
        → cond b (Some entry.1) (rows_in entries at.number at.rank) ≡ None → cond b (Some entry.1) (rows_in (entries ++ (at, thread) ∷ []) at.number at.rank) ≡ Some thread
    by true rest e = absurd (let f : Some entry.1 ≡ None = e in cc)
    by false rest e = rest e

-- and what is known then was known, or is its rank
pub rows-either : (entries : List (Rank × ℕ)) (at : Rank) (thread number rank other : ℕ) → rows_in (entries ++ (at, thread) ∷ []) number rank ≡ Some other
    → (rows_in entries number rank ≡ Some other) ⊎ ((number ≡ at.number) × (rank ≡ at.rank) × (other ≡ thread))
rows-either [] at thread number rank other is = by (is-at at number rank) refl is
  where
    by : (b : Bool) → is-at at number rank ≡ b → cond b (Some thread) None ≡ Some other → (rows_in [] number rank ≡ Some other) ⊎ ((number ≡ at.number) × (rank ≡ at.rank) × (other ≡ thread))
    by true here e =
        let both = and_parts (at.number == number) (at.rank == rank) here in
        let same : thread ≡ other = cc in
        inr (sym (eqb-true at.number number both.0), sym (eqb-true at.rank rank both.1), sym same)
    by false here e = absurd (let f : None ≡ Some other = e in cc)
rows-either (entry ∷ entries) at thread number rank other is = by (is-at entry.0 number rank) (rows-either entries at thread number rank other) is
  where
    by : (b : Bool) → (rows_in (entries ++ (at, thread) ∷ []) number rank ≡ Some other → (rows_in entries number rank ≡ Some other) ⊎ ((number ≡ at.number) × (rank ≡ at.rank) × (other ≡ thread)))
        → cond b (Some entry.1) (rows_in (entries ++ (at, thread) ∷ []) number rank) ≡ Some other → (cond b (Some entry.1) (rows_in entries number rank) ≡ Some other) ⊎ ((number ≡ at.number) × (rank ≡ at.rank) × (other ≡ thread))
    by true rest e = inl e
    by false rest e = rest e

-- ---- a rank that is given, or not

-- in the map a rank that nobody has comes behind all others
inserted : (entries : List (Rank × ℕ)) (at : Rank) (thread : ℕ) → rows_in entries at.number at.rank ≡ None → insert_entry same_rank entries at thread ≡ entries ++ (at, thread) ∷ []
inserted [] at thread none = refl
inserted (entry ∷ entries) at thread none = by (same_rank at entry.0) (lookup-rows (entry ∷ entries) at ∙ none) (λ later. inserted entries at thread (sym (lookup-rows entries at) ∙ later))
  where
    by : (b : Bool) → cond b (Some entry.1) (lookup (same_rank at) entries) ≡ None → (lookup (same_rank at) entries ≡ None → insert_entry same_rank entries at thread ≡ entries ++ (at, thread) ∷ [])
        → cond b ((entry.0, thread) ∷ entries) (entry ∷ insert_entry same_rank entries at thread) ≡ entry ∷ entries ++ (at, thread) ∷ []
    by true e rest = absurd (let f : Some entry.1 ≡ None = e in cc)
    by false e rest = ap {B = List _} (λ es. entry ∷ es) (rest e)

-- so the map behind an insert is that with the taker, if there was memory for it
pub given-entries : {E : Type 0} (entries new : List (Rank × ℕ)) (at : Rank) (thread : ℕ) (result : Result (Option ℕ) E) (given : Bool) → given ≡ is_ok result → rows_in entries at.number at.rank ≡ None
    → OnOk result (new ≡ insert_entry same_rank entries at thread) → OnErr result (new ≡ entries) → new ≡ with_taker entries at thread given
given-entries entries new at thread (Ok before) given is none ok err = ok ∙ inserted entries at thread none ∙ ap (with_taker entries at thread) (sym is)
given-entries entries new at thread (Err failed) given is none ok err = err ∙ ap (with_taker entries at thread) (sym is)

-- what is known stays known
pub keeps-given : (entries : List (Rank × ℕ)) (at : Rank) (thread : ℕ) (given : Bool) → KeepsRows (rows_in entries) (rows_in (with_taker entries at thread given))
keeps-given entries at thread true number rank other is = rows-keep entries at thread number rank other is
keeps-given entries at thread false number rank other is = is

-- so below the same ceilings
pub keeps-below : (ceilings : List ℕ) (old new : List (Rank × ℕ)) → KeepsRows (rows_in old) (rows_in new) → KeepsRows (below ceilings (rows_in old)) (below ceilings (rows_in new))
keeps-below ceilings old new keeps number rank thread is = by (nat_lt rank (ceiling_of ceilings number)) is
  where
    by : (b : Bool) → cond b (rows_in old number rank) None ≡ Some thread → cond b (rows_in new number rank) None ≡ Some thread
    by true e = keeps number rank thread e
    by false e = absurd (let f : None ≡ Some thread = e in cc)

-- the rank is its thread's then, below the ceilings too
pub given-below : (ceilings : List ℕ) (entries : List (Rank × ℕ)) (at : Rank) (thread : ℕ) (given : Bool) → given ≡ true → at.rank < ceiling_of ceilings at.number → rows_in entries at.number at.rank ≡ None
    → below ceilings (rows_in (with_taker entries at thread given)) at.number at.rank ≡ Some thread
given-below ceilings entries at thread given is less none =
    ap (λ (b : Bool). below ceilings (rows_in (with_taker entries at thread b)) at.number at.rank) is
    ∙ (ap (λ (b : Bool). cond b (rows_in (entries ++ (at, thread) ∷ []) at.number at.rank) None) (lt-ltb at.rank (ceiling_of ceilings at.number) less)
    ∙ row-added entries at thread none)

-- and nothing else is won
pub given-wins : (entries : List (Rank × ℕ)) (at : Rank) (thread : ℕ) (given : Bool) (number rank other : ℕ) → won_in (with_taker entries at thread given) number rank other
    → won_in entries number rank other ⊎ ((given ≡ true) × (number ≡ at.number) × (rank ≡ at.rank) × (other ≡ thread))
given-wins entries at thread true number rank other is =
    ⊎_elim
    (λ (was : rows_in entries number rank ≡ Some other). inl was)
    (λ (its : (number ≡ at.number) × (rank ≡ at.rank) × (other ≡ thread)). inr (refl, its.0, its.1, its.2))
    (rows-either entries at thread number rank other is)
given-wins entries at thread false number rank other is = inl is
