-- What is lent stays as it was lent while other threads' leases of the replica come back.
use Rattle.std.specs.Prelude.{◌≡◌, ◌≢◌, ℕ, Bool, true, false, List, Option, Some}
use Rattle.std.proofs.Common.{refl, ◌∙◌}
use Rattle.ro_event.specs.declared.stops.Stop.{Stop}
use Rattle.ro_region.specs.declared.Range.{Range}
use Rattle.ro_region.specs.declared.Kind.TheVariants.{Write}
use Rattle.ro_region.specs.Permission.{permits_byte}
use Rattle.ro_pages.specs.Bytes.{Memory, page_of}
use Rattle.ro_exec.specs.Next.{Layout, Backed}
use Rattle.ro_exec.specs.Parts.{with_part}
use Rattle.ro_thread.specs.declared.Thread.{Thread}
use Rattle.ro_thread.specs.Runs.{instructions}
use Rattle.ro_thread.proofs.Parts.{running, Keeps, run-keeps}
use Rattle.ro_replica.specs.Replica.{Replica}
use Rattle.ro_replica.specs.Runs.{with_stop}
use Rattle.ro_replica.specs.Lent.{LentIn, put_back}
use Rattle.ro_replica.proofs.Elements.{get_set_other}

-- no byte of a page that both were lent may be written
pub record AreApart (ranges : List Range) (one other : Backed) : Type 0 where
  pub none : (a : ℕ) → one (page_of a) ≡ true → other (page_of a) ≡ true → permits_byte ranges Write a ≡ false

-- Another thread's lease comes back, which ran over pages of its own. What this one was lent is as it was.
pub lent-lasts : (layout : Layout) (watchdog : ℕ) (lent other : Backed) (thread another count n : ℕ) (part after : Memory) (begun began end : Thread) (stop : Option Stop) (replica : Replica)
    → another ≢ thread → AreApart layout.ranges lent other → LentIn lent thread count part begun replica
    → instructions layout watchdog other n (running began replica.memory) ≡ Some (running end (with_part other after replica.memory))
    → LentIn lent thread count part begun (put_back another other after end stop replica)
lent-lasts layout watchdog lent other thread another count n part after begun began end stop replica apart pages is ran =
    let keeps = run-keeps layout watchdog other n (running began replica.memory) (running end (with_part other after replica.memory)) ran in
    record {
      there = get_set_other replica.threads another thread (with_stop stop end) apart ∙ is.there;
      backed = record { keeps = is.backed.keeps };
      same = record { same = λ a there. is.same.same a there ∙ by keeps a there (other (page_of a)) refl };
      calm = is.calm;
    }
  where
    by : Keeps layout other replica.memory (with_part other after replica.memory) → (a : ℕ) → lent (page_of a) ≡ true → (b : Bool) → other (page_of a) ≡ b → replica.memory a ≡ with_part other after replica.memory a
    by keeps a there true e = keeps.unwritable.same a (pages.none a there e)
    by keeps a there false e = keeps.beside.same a e
