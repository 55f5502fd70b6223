-- A run by its parts, from its begin to its end.
use Rattle.std.specs.Prelude.{◌≡◌, ◌⊎◌, ℕ, ◌+◌, ◌-◌, ◌<◌, ◌≤◌, Bool, true, false, Option, Some, None, IsSome, is_some, is_none, if◌then◌else◌}
use Rattle.std.specs.Option.{option_map}
use Rattle.std.proofs.Common.{refl, sym, ap, ◌∙◌, subst, arith, inl, inr, eq-eqb}
use Rattle.std.proofs.lemmas.Bool.{ne_eqb}
use Rattle.ro_event.specs.declared.stops.Stop.{Stop}
use Rattle.ro_exec.specs.Next.{Layout}
use Rattle.ro_replica.specs.Replica.{Replica, changed_at}
use Rattle.ro_replica.specs.Runs.{RanTo, struck, plus_hit, run_of, standing_at, with_stop}
use Rattle.ro_replica.specs.Rounds.{IsStruck, Leads}
use Rattle.ro_replica.specs.Seen.{Runs, stop_after}
use Rattle.ro_replica.proofs.Segments.{plus_both, run_of_struck}

-- a run that has come so far
pub record UnderWay (layout : Layout) (watchdog quantum thread : ℕ) (old now : Replica) (count hit : ℕ) (stop : Option Stop) : Type 0 where
  pub leads : (rest : ℕ) → run_of layout watchdog (count + rest) old thread ≡ option_map (plus_hit hit) (run_of layout watchdog rest now thread)
  pub arrives : ((stop ≡ None) × (count ≤ quantum)) ⊎ ((count < quantum) × IsSome stop × (stop ≡ standing_at layout watchdog now thread))

pub begins : (layout : Layout) (watchdog quantum thread : ℕ) (old now : Replica) (hit : ℕ) → struck layout.ranges old thread ≡ record { replica = now; hit = hit } → UnderWay layout watchdog quantum thread old now 0 hit None
begins layout watchdog quantum thread old now hit is = record {
  leads = λ rest. ap (λ (n : ℕ). run_of layout watchdog n old thread) (let z : 0 + rest ≡ rest = omega arith in z)
      ∙ run_of_struck layout watchdog rest old thread
      ∙ ap (λ (ran : RanTo). option_map (plus_hit ran.hit) (run_of layout watchdog rest ran.replica thread)) is;
  arrives = inl (refl, omega arith);
}

pub goes : (layout : Layout) (watchdog quantum thread : ℕ) (old now after : Replica) (count hit more more_hit : ℕ) (before stop : Option Stop) → UnderWay layout watchdog quantum thread old now count hit before → count < quantum
    → Leads layout watchdog thread (quantum - count) now after more more_hit stop → UnderWay layout watchdog quantum thread old after (count + more) (hit + more_hit) stop
goes layout watchdog quantum thread old now after count hit more more_hit before stop so early leads = record {
  leads = λ rest. ap (λ (n : ℕ). run_of layout watchdog n old thread) (let z : (count + more) + rest ≡ count + (more + rest) = omega arith in z)
      ∙ so.leads (more + rest) ∙ ap (option_map (plus_hit hit)) (leads.leads rest) ∙ plus_both hit more_hit (run_of layout watchdog rest after thread);
  arrives = by leads.arrives;
}
  where
    by : ((stop ≡ None) × (0 < more) × (more ≤ quantum - count)) ⊎ ((more < quantum - count) × IsSome stop × (stop ≡ standing_at layout watchdog after thread) × IsStruck layout after thread)
        → ((stop ≡ None) × (count + more ≤ quantum)) ⊎ ((count + more < quantum) × IsSome stop × (stop ≡ standing_at layout watchdog after thread))
    by (inl (none, _, most)) = inl (none, omega arith)
    by (inr (less, is_some, at, _)) = inr (omega arith, is_some, at)

pub ends : (layout : Layout) (watchdog quantum thread : ℕ) (old now new : Replica) (count hit : ℕ) (stop : Option Stop) → UnderWay layout watchdog quantum thread old now count hit stop → IsStruck layout now thread
    → (count < quantum → stop ≡ None → ⊥) → new ≡ record now { threads = changed_at (with_stop stop) now.threads thread }
    → Runs layout watchdog quantum thread old new count hit stop
ends layout watchdog quantum thread old now new count hit stop so is over new_is = record {
  end = record { replica = now; hit = hit };
  runs = ap (λ (n : ℕ). run_of layout watchdog n old thread) (let z : count ≡ count + 0 = omega arith in z) ∙ so.leads 0
      ∙ ap (λ (ran : RanTo). Some (plus_hit hit ran)) is
      ∙ ap (λ (n : ℕ). Some (record { replica = now; hit = n })) (let z : hit + 0 ≡ hit = omega arith in z);
  hit_is = refl;
  stop_is = (by so.arrives).0;
  new_is = new_is;
  arrives = (by so.arrives).1;
}
  where
    by : ((stop ≡ None) × (count ≤ quantum)) ⊎ ((count < quantum) × IsSome stop × (stop ≡ standing_at layout watchdog now thread))
        → (stop ≡ stop_after layout watchdog quantum thread count now) × ((count ≡ quantum) ⊎ ((count < quantum) × IsSome stop))
    by (inl (none, within)) =
        let not_before : count < quantum → ⊥ = λ early. over early none in
        let all : count ≡ quantum = omega arith in
        (none ∙ sym (ap (λ (b : Bool). if b then None else standing_at layout watchdog now thread) (eq-eqb count quantum all)), inl all)
    by (inr (early, is_some, at)) =
        let apart : count ≡ quantum → ⊥ = λ e. omega arith in
        (at ∙ sym (ap (λ (b : Bool). if b then None else standing_at layout watchdog now thread) (ne_eqb count quantum apart)), inr (early, is_some))

-- a round makes what is left smaller, or ends the run
pub smaller : (layout : Layout) (watchdog thread quantum count more hit : ℕ) (old new : Replica) (before stop : Option Stop) → is_some before ≡ false → count < quantum → Leads layout watchdog thread (quantum - count) old new more hit stop
    → (quantum - (count + more)) + (if is_none stop then 1 else 0) < (quantum - count) + (if is_none before then 1 else 0)
smaller layout watchdog thread quantum count more hit old new (Some s) stop none early leads = absurd (cc)
smaller layout watchdog thread quantum count more hit old new None stop none early leads = by leads.arrives
  where
    by-stop : (o : Option Stop) → more < quantum - count → IsSome o → (quantum - (count + more)) + (if is_none o then 1 else 0) < (quantum - count) + 1
    by-stop None less is = let e : false ≡ true = is in absurd (cc)
    by-stop (Some s) less is = omega arith

    by : ((stop ≡ None) × (0 < more) × (more ≤ quantum - count)) ⊎ ((more < quantum - count) × IsSome stop × (stop ≡ standing_at layout watchdog new thread) × IsStruck layout new thread)
        → (quantum - (count + more)) + (if is_none stop then 1 else 0) < (quantum - count) + 1
    by (inl (is, some, most)) =
        subst (λ (o : Option Stop). (quantum - (count + more)) + (if is_none o then 1 else 0) < (quantum - count) + 1) (sym is)
        (let less : (quantum - (count + more)) + 1 < (quantum - count) + 1 = omega arith in less)
    by (inr (less, is, _, _)) = by-stop stop less is

pub some_not_none : (stop : Option Stop) → is_some stop ≡ true → stop ≡ None → ⊥
some_not_none None is none = let e : false ≡ true = is in cc
some_not_none (Some s) is none = cc
