-- An effect in a replica that agrees with the machine: it still agrees, with the machine that the effect leaves.
use Rattle.std.specs.Prelude.{◌≡◌, ◌≢◌, ℕ, ◌⊎◌, Bool, true, false, IsTrue, cond, ◌||◌, ◌==◌, List, [], ◌∷◌, ◌++◌, length, map, Option, Some, None, slice_get, slice_index_or}
use Rattle.std.proofs.Common.{refl, sym, ap, ◌∙◌, subst, inl, inr}
use Rattle.std.proofs.lemmas.Bool.{true≢false}
use Rattle.std.proofs.lemmas.Option.{get_or_from_slice_get}
use Rattle.ro_event.specs.declared.effects.Made.{Made}
use Rattle.ro_event.specs.declared.stops.Stop.{Stop}
use Rattle.ro_event.specs.declared.stops.Stop.TheVariants.{Calls, Trap, PageFault, Watchdog}
use Rattle.ro_event.specs.Effects.{Effect}
use Rattle.ro_pages.specs.Bytes.{Memory, stored, covers_page}
use Rattle.ro_kernel.specs.Kernel.{lives_on}
use Rattle.ro_exec.specs.declared.Cpu.{Cpu}
use Rattle.ro_exec.specs.Next.{Layout, Backed, Next, Stands, Executes, next, stop_in}
use Rattle.ro_exec.specs.Threads.{made_cpu}
use Rattle.ro_thread.specs.declared.Thread.{Thread}
use Rattle.ro_thread.specs.Stops.{standing}
use Rattle.ro_replica.specs.Replica.{Replica, unstopped, changed_at, thread_after, with_made, is_page, applied, is_cancelled, without_cancelled, cancelled}
use Rattle.ro_plain.specs.Machine.{Machine, BackedRun, layout_in}
use Rattle.ro_plain.specs.Order.{RaceFree}
use Rattle.ro_plain.proofs.Calls.{some-injective}
use Rattle.ro_legal.specs.Core.{Job}
use Rattle.ro_legal.specs.Ideal.{ahead_from}
use Rattle.ro_simulation.specs.Invariant.{Agrees}
use Rattle.ro_exec.specs.Parts.{IsMore}
use Rattle.ro_exec.proofs.MorePages.{stands-more}
use Rattle.ro_plain.proofs.StaysAfter.{stays}
use Rattle.ro_simulation.proofs.Ahead.{BackedRun-more}
use Rattle.ro_legal.proofs.Lists.{get-set-same, ChangedFrom, unchanged, changed_here, get-changed, changed-is-set, length-changed, get-map, get-append-cases}
use Rattle.ro_simulation.proofs.Around.{Around}
use Rattle.ro_simulation.proofs.Counts.{same-counts-ahead, counts-mapped, ahead-new}
use Rattle.ro_simulation.proofs.Views.{Comes}
use Rattle.ro_legal.proofs.Effects.{backed_after, threads_after}

-- ---- the parts of a replica after an effect

-- one test of three passed
or-first : (b c d : Bool) → b ≡ true → (b || c || d) ≡ true
or-first true c d h = refl
or-first false c d h = absurd (true≢false (sym h))

-- an effect takes no page away
pub more-after : (effect : Effect) (backed : Backed) → IsMore backed (backed_after effect backed)
more-after effect backed = record { keeps = λ page h. or-first (backed page) (is_page effect.page page) (covers_page (record { place = effect.place; count = length effect.bytes }) page) h }

-- a stop that is not cancelled
pub record KeptStop (backed : Backed) (o : Option Stop) (stop : Stop) : Type 0 where
  pub was : o ≡ Some stop
  pub unbacked : (page : ℕ) → stop ≡ PageFault page → backed page ≡ false

-- a page fault that is kept is on an unbacked page
kept-fault : (backed : Backed) (page : ℕ) (stop : Stop) (b : Bool) → backed page ≡ b → cond b None (Some (PageFault page)) ≡ Some stop → KeptStop backed (Some (PageFault page)) stop
kept-fault backed page stop true e h = absurd (let f : None ≡ Some stop = h in cc)
kept-fault backed page stop false e h = record {
  was = h;
  unbacked = λ other f. let same : page ≡ other = (let g : PageFault page ≡ PageFault other = some-injective h ∙ f in cc) in subst (λ (p : ℕ). backed p ≡ false) same e;
}

-- a stop that is kept was there, and is no fault on a backed page
kept-stop : (backed : Backed) (o : Option Stop) (stop : Stop) → cond (is_cancelled backed o) None o ≡ Some stop → KeptStop backed o stop
kept-stop backed None stop h = absurd (let f : None ≡ Some stop = h in cc)
kept-stop backed (Some (PageFault page)) stop h = kept-fault backed page stop (backed page) refl h
kept-stop backed (Some (Calls call)) stop h = record { was = h; unbacked = λ page e. absurd (let f : Calls call ≡ PageFault page = some-injective h ∙ e in cc) }
kept-stop backed (Some (Trap code)) stop h = record { was = h; unbacked = λ page e. absurd (let f : Trap code ≡ PageFault page = some-injective h ∙ e in cc) }
kept-stop backed (Some Watchdog) stop h = record { was = h; unbacked = λ page e. absurd (let f : Watchdog ≡ PageFault page = some-injective h ∙ e in cc) }

-- ---- the threads after an effect

-- the thread that an effect makes, where its creator stands at this place
pub made-is : (made : Made) (threads : List Thread) (t : ℕ) (x : Thread) → slice_get threads t ≡ Some x → made.creator ≡ t → with_made (Some made) threads ≡ threads ++ unstopped (made_cpu made x.cpu (length threads)) ∷ []
made-is made [] t x there e = absurd (let f : None ≡ Some x = there in cc)
made-is made (y ∷ threads) t x there e =
    ap (λ (c : Thread). (y ∷ threads) ++ unstopped (made_cpu made c.cpu (length (y ∷ threads))) ∷ [])
    (ap (λ (n : ℕ). slice_index_or (y ∷ threads) n y) e ∙ get_or_from_slice_get (y ∷ threads) t x y there)

-- what the effect of a thread's own call is about
pub record IsOf (effect : Effect) (t : ℕ) : Type 0 where
  pub thread_is : effect.thread ≡ t
  pub creator_is : (made : Made) → effect.made ≡ Some made → made.creator ≡ t

-- the effect's thread as it is now
changed-there : (effect : Effect) (threads : List Thread) (t : ℕ) (x : Thread) → slice_get threads t ≡ Some x → slice_get (changed_at (thread_after effect) threads t) t ≡ Some (thread_after effect x)
changed-there effect threads t x there =
    ap (λ (xs : List Thread). slice_get xs t) (changed-is-set (thread_after effect) threads t x there) ∙ get-set-same threads t x _ there

-- a made thread has run nothing ahead
ahead-made : (made : Option Made) (threads : List Thread) (t : ℕ) (x : Thread) → slice_get threads t ≡ Some x → ((m : Made) → made ≡ Some m → m.creator ≡ t) → ahead_from 0 (with_made made threads) ≡ ahead_from 0 threads
ahead-made None threads t x there own = refl
ahead-made (Some made) threads t x there own = ap (ahead_from 0) (made-is made threads t x there (own made refl)) ∙ ahead-new 0 threads (unstopped (made_cpu made x.cpu (length threads))) refl

-- what was run ahead, without the thread's own steps
ahead-after : (effect : Effect) (threads : List Thread) (t : ℕ) (x : Thread) (among : Around 0 threads t t) → IsOf effect t → slice_get threads t ≡ Some x → ahead_from 0 (threads_after effect threads) ≡ among.front ++ among.back
ahead-after effect threads t x among own there =
    ap (λ (n : ℕ). ahead_from 0 (with_made effect.made (changed_at (thread_after effect) threads n))) own.thread_is
    ∙ (ahead-made effect.made _ t (thread_after effect x) (changed-there effect threads t x there) own.creator_is
    ∙ (ap (ahead_from 0) (changed-is-set (thread_after effect) threads t x there) ∙ among.with_set (thread_after effect x)))

-- a thread after the effect: another one, the effect's own, or the one that is made
pub data ThreadAfter (effect : Effect) (threads : List Thread) (t : ℕ) (x : Thread) (number : ℕ) (other : Thread) : Type 0 where
  as_before : number ≢ t → slice_get threads number ≡ Some other → ThreadAfter effect threads t x number other
  its_own : number ≡ t → thread_after effect x ≡ other → ThreadAfter effect threads t x number other
  newly_made : (made : Made) → effect.made ≡ Some made → number ≡ length threads → unstopped (made_cpu made (thread_after effect x).cpu (length threads)) ≡ other → ThreadAfter effect threads t x number other

-- a thread of the changed list
changed-cases : (effect : Effect) (threads : List Thread) (t : ℕ) (x : Thread) (number : ℕ) (other : Thread) → slice_get threads t ≡ Some x → ChangedFrom (thread_after effect) threads t number other → ThreadAfter effect threads t x number other
changed-cases effect threads t x number other there (unchanged d e) = as_before d e
changed-cases effect threads t x number other there (changed_here y d e g) =
    let same : x ≡ y = some-injective (sym there ∙ (ap (slice_get threads) (sym d) ∙ e)) in its_own d (ap (thread_after effect) same ∙ g)

-- a thread of the list with the made one
made-cases : (effect : Effect) (threads : List Thread) (t : ℕ) (x : Thread) (number : ℕ) (other : Thread) (made : Option Made) → effect.made ≡ made → ((m : Made) → made ≡ Some m → m.creator ≡ t) → slice_get threads t ≡ Some x → slice_get (with_made made (changed_at (thread_after effect) threads t)) number ≡ Some other → ThreadAfter effect threads t x number other
made-cases effect threads t x number other None is own there e = changed-cases effect threads t x number other there (get-changed (thread_after effect) threads t number other e)
made-cases effect threads t x number other (Some made) is own there e =
    by (get-append-cases (changed_at (thread_after effect) threads t) _ number other
    (sym (ap (λ (xs : List Thread). slice_get xs number) (made-is made _ t (thread_after effect x) (changed-there effect threads t x there) (own made refl))) ∙ e))
  where
    by : (slice_get (changed_at (thread_after effect) threads t) number ≡ Some other) ⊎ ((number ≡ length (changed_at (thread_after effect) threads t)) × (unstopped (made_cpu made (thread_after effect x).cpu (length (changed_at (thread_after effect) threads t))) ≡ other)) → ThreadAfter effect threads t x number other
    by (inl f) = changed-cases effect threads t x number other there (get-changed (thread_after effect) threads t number other f)
    by (inr f) =
        let same : length (changed_at (thread_after effect) threads t) ≡ length threads = length-changed (thread_after effect) threads t in
        newly_made made is (f.0 ∙ same) (ap (λ (n : ℕ). unstopped (made_cpu made (thread_after effect x).cpu n)) (sym same) ∙ f.1)

-- a thread after the effect is one of three kinds
pub thread-cases : (effect : Effect) (threads : List Thread) (t : ℕ) (x : Thread) (number : ℕ) (other : Thread) → IsOf effect t → slice_get threads t ≡ Some x → slice_get (threads_after effect threads) number ≡ Some other → ThreadAfter effect threads t x number other
thread-cases effect threads t x number other own there e =
    made-cases effect threads t x number other effect.made refl own.creator_is there
    (ap (λ (n : ℕ). slice_get (with_made effect.made (changed_at (thread_after effect) threads n)) number) (sym own.thread_is) ∙ e)

-- ---- what holds of every replica

-- ---- a replica that agrees

module _ (job : Job) (free : RaceFree job.program) (backed : Backed) (machine middle : Machine) (replica : Replica) (same : replica.backed ≡ backed) (t : ℕ) (thread : Thread) (there : slice_get replica.threads t ≡ Some thread) (comes : Comes job backed machine middle replica t thread) (effect : Effect) (own : IsOf effect t) where
  -- The replica agrees with the machine after the effect, where the steps ahead, the memory, the registers and the stops do.
  pub agrees-applied : (after last : Machine) → BackedRun job.program backed after (comes.among.front ++ comes.among.back) last
      → stored replica.memory effect.place effect.bytes ≡ last.memory
      → ((number : ℕ) (other : Thread) → IsTrue (lives_on after.kernel number) → ThreadAfter effect replica.threads t thread number other → slice_get last.cpus number ≡ Some other.cpu)
      → ((number : ℕ) (other : Thread) (stop : Stop) → IsTrue (lives_on after.kernel number) → ThreadAfter effect replica.threads t thread number other → KeptStop (backed_after effect replica.backed) other.stop stop → standing (layout_in job.program after.kernel) job.settings.watchdog (backed_after effect replica.backed) last.memory other.cpu other.since ≡ Some stop)
      → Agrees job after (cancelled (applied effect replica))
  unfolding applied cancelled
  agrees-applied after last runs memory cpus stops = record {
    runs_ahead = record {
      end = last;
      runs = subst (λ (xs : List ℕ). BackedRun job.program (backed_after effect replica.backed) after xs last) (sym ahead_is)
          (BackedRun-more job.program replica.backed (backed_after effect replica.backed) (more-after effect replica.backed) (subst (λ (b : Backed). BackedRun job.program b after (comes.among.front ++ comes.among.back) last) (sym same) runs));
      same_memory = memory;
      same_cpus = λ number other alive e. let m = get-map (without_cancelled (backed_after effect replica.backed)) (threads_after effect replica.threads) number other e in
          cpus number m.from alive (thread-cases effect replica.threads t thread number m.from own there m.there) ∙ ap (λ (y : Thread). Some y.cpu) m.gives;
    };
    stops = λ number. record {
      stands = λ other stop alive e stopped. let m = get-map (without_cancelled (backed_after effect replica.backed)) (threads_after effect replica.threads) number other e in
          ap (λ (y : Memory). standing (layout_in job.program after.kernel) job.settings.watchdog (backed_after effect replica.backed) y other.cpu other.since) memory
          ∙ (ap (λ (y : Thread). standing (layout_in job.program after.kernel) job.settings.watchdog (backed_after effect replica.backed) last.memory y.cpu y.since) (sym m.gives)
          ∙ stops number m.from stop alive (thread-cases effect replica.threads t thread number m.from own there m.there) (kept-stop (backed_after effect replica.backed) m.from.stop stop (ap (λ (y : Thread). y.stop) m.gives ∙ stopped)));
    };
  }
    where
      ahead_is : ahead_from 0 (map (without_cancelled (backed_after effect replica.backed)) (threads_after effect replica.threads)) ≡ comes.among.front ++ comes.among.back
      ahead_is = same-counts-ahead _ _ (counts-mapped (without_cancelled (backed_after effect replica.backed)) (λ x. refl) (threads_after effect replica.threads)) ∙ ahead-after effect replica.threads t thread comes.among own there

-- a stop stands with more pages and other bytes, and a range more, where the thread does next what it did
pub stands-later : (layout wider : Layout) (watchdog : ℕ) (backed more : Backed) (m n : Memory) (cpu : Cpu) (since : ℕ) (stop : Stop) → IsMore backed more → next layout backed m cpu ≡ next wider backed n cpu → ((page : ℕ) → stop ≡ PageFault page → more page ≡ false) → standing layout watchdog backed m cpu since ≡ Some stop → standing wider watchdog more n cpu since ≡ Some stop
stands-later layout wider watchdog backed more m n cpu since stop h stays none e = by (since == watchdog) e
  where
    by : (b : Bool) → cond b (Some Watchdog) (stop_in (next layout backed m cpu)) ≡ Some stop → cond b (Some Watchdog) (stop_in (next wider more n cpu)) ≡ Some stop
    by true f = f
    by false f = ap stop_in (stands-more backed more h wider n cpu stop (sym stays ∙ (at (next layout backed m cpu) refl f)) none)
      where
        at : (o : Next) → next layout backed m cpu ≡ o → stop_in o ≡ Some stop → next layout backed m cpu ≡ Stands stop
        at (Stands other) g k = g ∙ ap Stands (some-injective k)
        at (Executes instr) g k = absurd (let l : None ≡ Some stop = k in cc)
