-- What a lease of some pages leaves, in its replica as that is when the lease comes back.
use Rattle.std.specs.Prelude.{◌≡◌, ℕ, ◌+◌, Bool, true, cond, List, Option, Some, None, slice_get}
use Rattle.std.specs.Option.{option_map, option_and_then}
use Rattle.std.proofs.Common.{refl, sym, ap, ◌∙◌, subst, arith, inl, inr, eq-eqb}
use Rattle.std.proofs.lemmas.Bool.{ne_eqb}
use Rattle.ro_event.specs.declared.stops.Stop.{Stop}
use Rattle.ro_event.specs.declared.stops.Stop.TheVariants.{PageFault}
use Rattle.ro_pages.specs.Bytes.{Memory}
use Rattle.ro_exec.specs.Next.{Layout, Backed}
use Rattle.ro_exec.specs.Parts.{with_part}
use Rattle.ro_thread.specs.declared.Thread.{Thread}
use Rattle.ro_thread.specs.Stops.{standing}
use Rattle.ro_thread.specs.Runs.{IsRun}
use Rattle.ro_thread.specs.Parts.{missed, ComesBack, having_done_all, at_stop, wanting, IsLentRun}
use Rattle.ro_thread.proofs.Parts.{running, lent-run}
use Rattle.ro_replica.specs.Replica.{Replica, changed_at}
use Rattle.ro_replica.specs.Runs.{run_of, standing_in, standing_at, with_stop}
use Rattle.ro_replica.specs.Seen.{Runs}
use Rattle.ro_pages.specs.Held.{Held, memory_of, has_page}
use Rattle.ro_replica.specs.Lent.{LentIn, put_back, RunsOut, LaneOf, LaneRuns, ComesHome}
use Rattle.ro_replica.proofs.Elements.{get_set, changed_of_set}
use Rattle.ro_replica.proofs.Strikes.{NoneDue, struck_none}
use Rattle.ro_replica.proofs.Segments.{placed, run_of_instructions, instructions_keep_stop}
use Rattle.ro_replica.proofs.Counted.{instructions_done}

module _ (layout : Layout) (watchdog quantum thread count : ℕ) (lent : Backed) (part : Memory) (begun : Thread) (replica : Replica) (is : LentIn lent thread count part begun replica) (stop : Option Stop) (end : Thread) (after : Memory) (run : IsRun layout watchdog lent quantum count stop (running begun part) (running end after)) where
  -- the run in the whole replica
  whole : IsLentRun layout watchdog lent replica.backed quantum count stop (running begun replica.memory) (running end (with_part lent after replica.memory))
  whole = lent-run layout watchdog lent replica.backed quantum count stop begun end part after replica.memory is.backed is.same run

  -- the replica with what came back
  abbrev pub back : Replica
  back = placed replica thread (running end (with_part lent after replica.memory))

  there : slice_get back.threads thread ≡ Some end
  there = get_set replica.threads thread begun end is.there

  -- no fault was due, so it is the run of a lease
  pub ran : run_of layout watchdog count replica thread ≡ Some (record { replica = back; hit = 0 })
  ran =
      let done : end.done ≡ begun.done + count = instructions_done layout watchdog replica.backed count (running begun replica.memory) (running end (with_part lent after replica.memory)) whole.runs in
      let none : NoneDue thread end.done replica = subst (λ (n : ℕ). NoneDue thread n replica) (sym done) (is.calm count (omega arith)) in
      ap (λ (n : ℕ). run_of layout watchdog n replica thread) (let e : count ≡ count + 0 = omega arith in e)
      ∙ run_of_instructions layout watchdog count 0 replica thread begun (running end (with_part lent after replica.memory)) is.there (λ k early. is.calm k (omega arith)) whole.runs
      ∙ ap Some (struck_none layout.ranges back thread end.done (ap (option_map (λ (t : Thread). t.done)) there) none)

  -- the stop at which it stands
  stands : standing_at layout watchdog back thread ≡ standing layout watchdog replica.backed back.memory end.cpu end.since
  stands = ap (option_and_then (standing_in layout watchdog back)) there

  -- the replica with it, and a stop
  new : (o : Option Stop) → put_back thread lent after end o replica ≡ record back { threads = changed_at (with_stop o) back.threads thread }
  new o = ap (λ (threads : List Thread). record back { threads = threads }) (sym (changed_of_set (with_stop o) replica.threads thread end))

  -- after a whole quantum, or at a stop that stands, it is a put
  pub is-put : (o : Option Stop) → ComesBack layout watchdog lent replica.backed quantum count (running end (with_part lent after replica.memory)) o → missed replica.backed o ≡ None → Runs layout watchdog quantum thread replica (put_back thread lent after end o replica) count 0 o
  is-put None (having_done_all all) none = record {
    end = record { replica = back; hit = 0 };
    runs = ran;
    hit_is = refl;
    stop_is = sym (ap (λ (b : Bool). cond b None (standing_at layout watchdog back thread)) (eq-eqb count quantum all));
    new_is = new None;
    arrives = inl all;
  }
  is-put o (at_stop early some unmissed at) none = record {
    end = record { replica = back; hit = 0 };
    runs = ran;
    hit_is = refl;
    stop_is = at ∙ sym stands ∙ sym (ap (λ (b : Bool). cond b None (standing_at layout watchdog back thread)) (ne_eqb count quantum (λ e. omega arith)));
    new_is = new o;
    arrives = inr (early, some);
  }
  is-put (Some (PageFault page)) (wanting early backed at) none =
      absurd (let f : Some page ≡ None = sym (ap (λ (b : Bool). cond b (Some page) None) backed) ∙ none in cc)

  -- and for the want of a page it is a part
  pub is-part : (o : Option Stop) (page : ℕ) → ComesBack layout watchdog lent replica.backed quantum count (running end (with_part lent after replica.memory)) o → missed replica.backed o ≡ Some page → RunsOut layout watchdog quantum thread lent replica (put_back thread lent after end None replica) count 0 page
  is-part None page (having_done_all all) some = absurd (let f : None ≡ Some page = some in cc)
  is-part o page (at_stop early s unmissed at) some = absurd (let f : None ≡ Some page = sym unmissed ∙ some in cc)
  is-part (Some (PageFault other)) page (wanting early backed at) some =
      let same : other ≡ page = let f : Some other ≡ Some page = sym (ap (λ (b : Bool). cond b (Some other) None) backed) ∙ some in cc in
      record {
        end = record { replica = back; hit = 0 };
        runs = ran;
        hit_is = refl;
        new_is = new None;
        early = early;
        backed = subst (λ (p : ℕ). replica.backed p ≡ true) same backed;
        wants = ap (option_and_then (λ (t : Thread). standing layout watchdog lent back.memory t.cpu t.since)) there ∙ sym at ∙ ap (λ (p : ℕ). Some (PageFault p)) same;
      }

-- The frame of a lease. What comes back is a put of the replica as it is by now, or a part of it.
pub lent-comes-back : (layout : Layout) (watchdog quantum thread count : ℕ) (lent : Backed) (part : Memory) (begun : Thread) (replica : Replica) (is : LentIn lent thread count part begun replica) (stop : Option Stop) (end : Thread) (after : Memory)
    → IsRun layout watchdog lent quantum count stop (running begun part) (running end after)
    → (missed replica.backed stop ≡ None → Runs layout watchdog quantum thread replica (put_back thread lent after end stop replica) count 0 stop)
    × ((page : ℕ) → missed replica.backed stop ≡ Some page → RunsOut layout watchdog quantum thread lent replica (put_back thread lent after end None replica) count 0 page)
lent-comes-back layout watchdog quantum thread count lent part begun replica is stop end after run = (
  is-put layout watchdog quantum thread count lent part begun replica is stop end after run stop (whole layout watchdog quantum thread count lent part begun replica is stop end after run).comes,
  λ page. is-part layout watchdog quantum thread count lent part begun replica is stop end after run stop page (whole layout watchdog quantum thread count lent part begun replica is stop end after run).comes,
)

-- a thread that is put at the stop at which it is
without-it : (stop : Option Stop) (end : Thread) → end.stop ≡ stop → with_stop stop end ≡ end
without-it stop end h = ap (λ (s : Option Stop). record { cpu = end.cpu; since = end.since; done = end.done; stop = s }) (sym h)

-- A lane behind a run of its thread, which stands at its stop: seen by another name, what it was before.
module _ (quantum count : ℕ) (stop : Option Stop) (view lane : LaneOf) (held : Held) (moved : List ℕ) (end : Thread) (same : view ≡ lane)
    (run : IsRun view.layout view.watchdog (has_page view.held.pages) quantum count stop (running view.thread (memory_of view.held.pages)) (running end (memory_of held.pages)))
    (pages : has_page held.pages ≡ has_page view.held.pages) where
  abbrev after : LaneOf
  after = record view { held = held; moved = moved; thread = with_stop stop end }

  kept : with_stop view.thread.stop (with_stop stop end) ≡ end
  kept = without-it view.thread.stop end (instructions_keep_stop view.layout view.watchdog (has_page view.held.pages) count (running view.thread (memory_of view.held.pages)) (running end (memory_of held.pages)) run.runs)

  pub lane-runs : LaneRuns quantum count lane after
  lane-runs = subst (λ (v : LaneOf). LaneRuns quantum count v after) same
      (record {
        pages = pages;
        runs = subst (λ (t : Thread). IsRun view.layout view.watchdog (has_page view.held.pages) quantum count stop (running view.thread (memory_of view.held.pages)) (running t (memory_of held.pages))) (sym kept) run;
      })

  pub lane-home : (thread : ℕ) (replica : Replica) → LentIn (has_page lane.held.pages) thread count (memory_of lane.held.pages) lane.thread replica → ComesHome quantum thread count stop lane after replica
  lane-home thread replica is =
      subst (λ (v : LaneOf). ComesHome quantum thread count stop v after replica) same
      (let both = lent-comes-back view.layout view.watchdog quantum thread count (has_page view.held.pages) (memory_of view.held.pages) view.thread replica
      (subst (λ (v : LaneOf). LentIn (has_page v.held.pages) thread count (memory_of v.held.pages) v.thread replica) (sym same) is) stop end (memory_of held.pages) run in
      record { put = both.0; part = both.1 })
