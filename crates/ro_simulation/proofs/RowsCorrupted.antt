-- A replica that does what no run of it could.
use Rattle.std.specs.Prelude.{◌≡◌, ℕ, zero, suc, ◌≤◌, true, List, [], ◌∷◌, ◌++◌, length, Some, None, slice_get}
use Rattle.std.proofs.Common.{refl, sym, ap, ◌∙◌, subst, arith, inl, inr, lit<, lit≤}
use Rattle.ro_journal.specs.declared.How.TheVariants.{Exit}
use Rattle.ro_exec.specs.Threads.{first_cpu}
use Rattle.ro_thread.specs.declared.Thread.{Thread}
use Rattle.ro_plain.proofs.Calls.{some-injective}
use Rattle.ro_vote.specs.Numbers.{is_among}
use Rattle.ro_legal.specs.Core.{Job}
use Rattle.ro_legal.specs.Legal.{due}
use Rattle.ro_simulation.specs.Guests.{exit_guest, usual_job}
use Rattle.ro_legal.specs.Upsets.{Moment, Possible, core_of, corrupted_in, CorruptsOnly}
use Rattle.ro_simulation.specs.Corruptions.{WritesStill}
use Rattle.ro_simulation.specs.Corrupted.{corrupted_thread, corrupted_run}
use Rattle.ro_simulation.proofs.Laws.{alone-race-free}
use Rattle.ro_simulation.proofs.RowsStruck.{exit-alone}
use Rattle.ro_simulation.proofs.Corruptions.{writes-named}
use Rattle.ro_decode.specs.Table.{instruction_of}
use Rattle.ro_event.specs.Table.{call_at}
use Rattle.ro_region.specs.Permission.{permits_of}
use Rattle.ro_alu.specs.Results.{alu_of}
use Rattle.ro_exec.specs.Meaning.{meaning}
use Rattle.ro_exec.specs.Next.{fetch_stop, instruction_stop, next}
use Rattle.ro_exec.specs.Threads.{made_cpu}
use Rattle.ro_kernel.specs.Serve.{serve, payload_of}
use Rattle.ro_vote.specs.Verdict.{verdict_of}
use Rattle.ro_replica.specs.Replica.{opening_replica, applied, cancelled, recovered}
use Rattle.ro_replica.specs.Runs.{struck, execute}
use Rattle.ro_plain.specs.Machine.{opening, steppable, step}
use Rattle.ro_legal.specs.Core.{sharing_of, opening_core}
use Rattle.ro_legal.specs.Event.{event_of}
use Rattle.ro_legal.specs.Legal.{after}

abbrev pub unstruck : Job
unstruck = usual_job exit_guest []

pub watched : (place : ℕ) (thread : Thread) → slice_get (corrupted_thread ∷ []) place ≡ Some thread → thread.since ≤ 10000
watched zero thread e = subst (λ (x : Thread). x.since ≤ 10000) (some-injective e) (lit≤ tt)
watched (suc place) thread e = absurd (let f : None ≡ Some thread = e in cc)

pub possible : Possible unstruck corrupted_run
unfolding opening opening_core sharing_of opening_replica struck execute applied cancelled recovered verdict_of event_of after first_cpu made_cpu steppable step next fetch_stop instruction_stop instruction_of call_at permits_of alu_of meaning serve payload_of
possible = (
  record { not_ended = refl; old = _; there = refl; shape = record { backed = refl; made = refl; watched = watched; waiting = λ fault e. e } },
  (
    record { going = refl; driver_exists = lit< tt; driver_is_idle = refl; lendable = refl },
    (
      record { returns = record { not_ended = refl; out = refl; ran = _; runs = refl; struck = refl }; arrives = inr (lit< tt, refl, refl) },
      (
        record { going = refl; driver_exists = lit< tt; driver_is_idle = refl; lendable = refl },
        (
          record { upsets = record { not_ended = refl; old = _; there = refl; shape = record { backed = refl; made = refl; watched = watched; waiting = λ fault e. e } }; out = refl; so = inl (record { whole = refl; faults_at = refl; arrives = inr (lit< tt, refl) }) },
          (
            record { going = refl; driver_exists = lit< tt; driver_is_idle = refl; lendable = refl },
            (
              record { returns = record { not_ended = refl; out = refl; ran = _; runs = refl; struck = refl }; arrives = inr (lit< tt, refl, refl) },
              (
                record { may = refl; verdict = refl; count_is = refl; event = _; comes = refl; did_is = refl; fits = lit≤ tt },
                (
                  (refl, due refl),
                  tt,
                ),
              ),
            ),
          ),
        ),
      ),
    ),
  ),
)

-- ---- replica 1 alone is corrupted

first-is : (m x : Moment) (ms rest : List Moment) → m ∷ ms ≡ x ∷ rest → m ≡ x
first-is m x ms rest e = ap (first m) e
  where
    first : Moment → List Moment → Moment
    first y [] = y
    first y (z ∷ zs) = z

-- what is left behind the first
tail-is : (m x : Moment) (ms rest : List Moment) → m ∷ ms ≡ x ∷ rest → ms ≡ rest
tail-is m x ms rest e = ap tail e
  where
    tail : List Moment → List Moment
    tail [] = []
    tail (z ∷ zs) = zs

-- each of the moments names no other replica
abbrev pub EachNames : List ℕ → List Moment → Type 0
EachNames named [] = Unit {0}
EachNames named (m ∷ ms) = ((wrong : ℕ) → corrupted_in m ≡ Some wrong → is_among named wrong ≡ true) × EachNames named ms

pub only-named : (named : List ℕ) (ms : List Moment) → EachNames named ms → CorruptsOnly named ms
only-named named [] each [] rest moment wrong is at = absurd (let f : 0 ≡ suc (length rest) = ap length is in omega arith)
only-named named [] each (x ∷ before) rest moment wrong is at = absurd (let f : 0 ≡ suc (length (before ++ moment ∷ rest)) = ap length is in omega arith)
only-named named (m ∷ ms) each [] rest moment wrong is at = each.0 wrong (ap corrupted_in (first-is m moment ms rest is) ∙ at)
only-named named (m ∷ ms) each (x ∷ before) rest moment wrong is at = only-named named ms each.1 before rest moment wrong (tail-is m x ms (before ++ moment ∷ rest) is) at

pub none-is : (named : List ℕ) (wrong : ℕ) → None ≡ Some wrong → is_among named wrong ≡ true
none-is named wrong e = absurd (let f : None ≡ Some wrong = e in cc)

pub one-is : (named : List ℕ) (number : ℕ) → is_among named number ≡ true → (wrong : ℕ) → Some number ≡ Some wrong → is_among named wrong ≡ true
one-is named number there wrong e = ap (is_among named) (sym (some-injective e)) ∙ there

only-one : EachNames (1 ∷ []) corrupted_run
only-one = (one-is (1 ∷ []) 1 refl, (none-is (1 ∷ []), (none-is (1 ∷ []), (none-is (1 ∷ []), (one-is (1 ∷ []) 1 refl, (none-is (1 ∷ []), (none-is (1 ∷ []), (none-is (1 ∷ []), (none-is (1 ∷ []), tt)))))))))

-- replica 1 alone is corrupted
pub only-replica-one : CorruptsOnly (1 ∷ []) corrupted_run
only-replica-one = only-named (1 ∷ []) corrupted_run only-one

-- it exits with 7 all the same
pub corrupted-still : WritesStill unstruck corrupted_run
corrupted-still = writes-named unstruck (alone-race-free exit_guest exit-alone) (inr (inl refl)) corrupted_run (1 ∷ []) (lit≤ tt) only-replica-one possible

pub corrupted-exits : (core_of unstruck corrupted_run).ended ≡ Some (Exit 7)
unfolding opening opening_core sharing_of opening_replica struck execute applied cancelled recovered verdict_of event_of after first_cpu made_cpu steppable step next fetch_stop instruction_stop instruction_of call_at permits_of alu_of meaning serve payload_of
corrupted-exits = refl
