-- Moments before which no fault of a thread comes.
use Rattle.std.specs.Prelude.{◌≡◌, ◌<◌, ◌≤◌, ℕ, Bool, true, false, ◌==◌, List, [], ◌∷◌, slice_index_or}
use Rattle.std.specs.List.{filter}
use Rattle.std.proofs.Common.{refl, arith, subst}
use Rattle.std.proofs.lemmas.Bool.{and_parts, eqb-true}
use Rattle.std.proofs.lemmas.List.Elements.{All-head, All-tail}
use Rattle.ro_faults.specs.declared.Fault.{Fault}
use Rattle.ro_replica.specs.Runs.{is_due}
use Rattle.ro_replica.specs.Seen.{AreLater}

-- none is due before its thread's moment
pub none_before : (moments : List ℕ) (faults : List Fault) (thread done moment : ℕ) → AreLater moments faults → moment ≡ slice_index_or moments thread 0 → done < moment → filter (is_due thread done) faults ≡ []
none_before moments [] thread done moment later is before = refl
none_before moments (fault ∷ faults) thread done moment later is before = by (is_due thread done fault) refl (none_before moments faults thread done moment (All-tail (λ (f : Fault). slice_index_or moments f.thread 0 ≤ f.at) fault faults later) is before)
  where
    by : (b : Bool) → is_due thread done fault ≡ b → filter (is_due thread done) faults ≡ [] → filter (is_due thread done) (fault ∷ faults) ≡ []
    by false e none = rw e none
    by true e none = absurd (
        let parts = and_parts (fault.thread == thread) (fault.at == done) e in
        let same : fault.thread ≡ thread = eqb-true fault.thread thread parts.0 in
        let at : fault.at ≡ done = eqb-true fault.at done parts.1 in
        let first : slice_index_or moments fault.thread 0 ≤ fault.at = All-head (λ (f : Fault). slice_index_or moments f.thread 0 ≤ f.at) fault faults later in
        let here : slice_index_or moments thread 0 ≤ fault.at = subst (λ (t : ℕ). slice_index_or moments t 0 ≤ fault.at) same first in
        omega (arith, is, at, here))
