-- A run of a thread over some pages is its run over the whole memory, as that is by then.
use Rattle.std.specs.Prelude.{◌≡◌, ◌⊎◌, ◌<◌, ℕ, zero, suc, ◌+◌, IsSome, Bool, true, false, cond, ◌==◌, Option, Some, None}
use Rattle.std.specs.Option.{option_and_then}
use Rattle.std.proofs.Common.{refl, sym, ap, ◌∙◌, subst, inl, inr}
use Rattle.ro_decode.specs.declared.Instr.{Instr}
use Rattle.ro_event.specs.declared.stops.Stop.{Stop}
use Rattle.ro_event.specs.declared.stops.Stop.TheVariants.{Calls, Trap, PageFault, Watchdog}
use Rattle.ro_pages.specs.Bytes.{Memory, stored}
use Rattle.ro_exec.specs.Meaning.{Change}
use Rattle.ro_exec.specs.Next.{Layout, Backed, Next, Stands, Executes, next, stop_in, change_of}
use Rattle.ro_exec.specs.Parts.{SameIn, SameBeside, SameUnwritable, with_part, IsMore}
use Rattle.ro_exec.proofs.Parts.{next-in, change-in, changed-lies, changed-may, stored-in, stored-unwritable, stored-beside, parts-whole, same-beside-both}
use Rattle.ro_exec.proofs.MorePages.{executes-more, stands-more}
use Rattle.ro_thread.specs.declared.Thread.{Thread}
use Rattle.ro_thread.specs.Stops.{standing}
use Rattle.ro_thread.specs.Runs.{Running, after_instruction, after_next, one_instruction, instructions, IsRun}
use Rattle.ro_thread.specs.Parts.{ComesBack, having_done_all, at_stop, wanting, IsLentRun}

abbrev pub running : Thread → Memory → Running
running thread memory = record { thread = thread; memory = memory }

-- ---- one instruction

-- an instruction that is done, and which one it is
pub record Did (layout : Layout) (watchdog : ℕ) (pages : Backed) (now after : Running) : Type 0 where
  pub instr : Instr
  pub executes : next layout pages now.memory now.thread.cpu ≡ Executes instr
  pub unwatched : (now.thread.since == watchdog) ≡ false
  pub is : after_instruction now instr ≡ after

did : (layout : Layout) (watchdog : ℕ) (pages : Backed) (now after : Running) → one_instruction layout watchdog pages now ≡ Some after → Did layout watchdog pages now after
did layout watchdog pages now after e = by (now.thread.since == watchdog) refl (next layout pages now.memory now.thread.cpu) refl e
  where
    by : (b : Bool) → (now.thread.since == watchdog) ≡ b → (n : Next) → next layout pages now.memory now.thread.cpu ≡ n → cond b None (after_next now n) ≡ Some after → Did layout watchdog pages now after
    by true is n f g = absurd (let h : None ≡ Some after = g in cc)
    by false is (Stands stop) f g = absurd (let h : None ≡ Some after = g in cc)
    by false is (Executes instr) f g = record { instr = instr; executes = f; unwatched = is; is = let h : Some (after_instruction now instr) ≡ Some after = g in cc }

-- and the other way round
does : (layout : Layout) (watchdog : ℕ) (pages : Backed) (now : Running) (instr : Instr) → next layout pages now.memory now.thread.cpu ≡ Executes instr → (now.thread.since == watchdog) ≡ false → one_instruction layout watchdog pages now ≡ Some (after_instruction now instr)
does layout watchdog pages now instr e unwatched =
    ap (λ (b : Bool). cond b None (after_next now (next layout pages now.memory now.thread.cpu))) unwatched ∙ ap (after_next now) e

-- ---- instructions over some pages

-- a run in another memory, which has the same bytes in these pages and keeps all its others
pub record RunsIn (layout : Layout) (watchdog : ℕ) (pages : Backed) (count : ℕ) (thread : Thread) (whole : Memory) (end : Running) : Type 0 where
  pub after : Memory
  pub runs : instructions layout watchdog pages count (running thread whole) ≡ Some (running end.thread after)
  pub inside : SameIn pages end.memory after
  pub beside : SameBeside pages whole after

module _ (layout : Layout) (watchdog : ℕ) (pages : Backed) where
  -- one instruction and those behind it
  step-in : (n : ℕ) → ((thread : Thread) (part whole : Memory) (end : Running) → SameIn pages part whole → instructions layout watchdog pages n (running thread part) ≡ Some end → RunsIn layout watchdog pages n thread whole end)
      → (thread : Thread) (part whole : Memory) (end : Running) → SameIn pages part whole → (o : Option Running) → one_instruction layout watchdog pages (running thread part) ≡ o → option_and_then (instructions layout watchdog pages n) o ≡ Some end → RunsIn layout watchdog pages (suc n) thread whole end
  step-in n more thread part whole end h None is e = absurd (let f : None ≡ Some end = e in cc)
  step-in n more thread part whole end h (Some after) is e =
      let d = did layout watchdog pages (running thread part) after is in
      let here : Running = after_instruction (running thread whole) d.instr in
      let same_change : change_of part thread.cpu d.instr ≡ change_of whole thread.cpu d.instr = change-in layout pages part whole thread.cpu d.instr h d.executes in
      let same_thread : after.thread ≡ here.thread =
      ap (λ (r : Running). r.thread) (sym d.is) ∙ ap (λ (c : Change). record thread { cpu = c.cpu; since = thread.since + 1; done = thread.done + 1 }) same_change in
      let same_bytes : after.memory ≡ stored part (change_of whole thread.cpu d.instr).place (change_of whole thread.cpu d.instr).bytes =
      ap (λ (r : Running). r.memory) (sym d.is) ∙ ap (λ (c : Change). stored part c.place c.bytes) same_change in
      let inside : SameIn pages after.memory here.memory =
      subst (λ (m : Memory). SameIn pages m here.memory) (sym same_bytes) (stored-in pages part whole (change_of whole thread.cpu d.instr).place (change_of whole thread.cpu d.instr).bytes h) in
      let rest = more after.thread after.memory here.memory end inside e in
      record {
        after = rest.after;
        runs = ap (option_and_then (instructions layout watchdog pages n)) (does layout watchdog pages (running thread whole) d.instr (sym (next-in layout pages part whole thread.cpu h) ∙ d.executes) d.unwatched)
            ∙ (ap (λ (x : Thread). instructions layout watchdog pages n (running x here.memory)) (sym same_thread) ∙ rest.runs);
        inside = rest.inside;
        beside = same-beside-both pages whole here.memory rest.after (stored-beside pages whole (change_of whole thread.cpu d.instr) (changed-lies layout pages part whole thread.cpu d.instr d.executes)) rest.beside;
      }

  -- any number of them
  pub run-in : (count : ℕ) (thread : Thread) (part whole : Memory) (end : Running) → SameIn pages part whole → instructions layout watchdog pages count (running thread part) ≡ Some end → RunsIn layout watchdog pages count thread whole end
  run-in zero thread part whole end h e =
      let same : running thread part ≡ end = cc in
      record {
        after = whole;
        runs = ap (λ (r : Running). Some (running r.thread whole)) same;
        inside = subst (λ (r : Running). SameIn pages r.memory whole) same h;
        beside = record { same = λ a apart. refl };
      }
  run-in (suc n) thread part whole end h e = step-in n (run-in n) thread part whole end h (one_instruction layout watchdog pages (running thread part)) refl e

-- ---- what a run over some pages leaves alone

-- the bytes of all other pages, and all bytes that may not be written
pub record Keeps (layout : Layout) (pages : Backed) (old new : Memory) : Type 0 where
  pub beside : SameBeside pages old new
  pub unwritable : SameUnwritable layout.ranges old new

module _ (layout : Layout) (watchdog : ℕ) (pages : Backed) where
  keeps-one : (now after : Running) → one_instruction layout watchdog pages now ≡ Some after → Keeps layout pages now.memory after.memory
  keeps-one now after e =
      let d = did layout watchdog pages now after e in
      let change = change_of now.memory now.thread.cpu d.instr in
      subst (λ (r : Running). Keeps layout pages now.memory r.memory) d.is (record {
        beside = stored-beside pages now.memory change (changed-lies layout pages now.memory now.memory now.thread.cpu d.instr d.executes);
        unwritable = stored-unwritable layout.ranges now.memory change (changed-may layout pages now.memory now.memory now.thread.cpu d.instr d.executes);
      })

  keeps-both : (m n k : Memory) → Keeps layout pages m n → Keeps layout pages n k → Keeps layout pages m k
  keeps-both m n k h g = record {
    beside = record { same = λ a apart. h.beside.same a apart ∙ g.beside.same a apart };
    unwritable = record { same = λ a not_so. h.unwritable.same a not_so ∙ g.unwritable.same a not_so };
  }

  keeps-some : (n : ℕ) → ((now end : Running) → instructions layout watchdog pages n now ≡ Some end → Keeps layout pages now.memory end.memory)
      → (now end : Running) (o : Option Running) → one_instruction layout watchdog pages now ≡ o → option_and_then (instructions layout watchdog pages n) o ≡ Some end → Keeps layout pages now.memory end.memory
  keeps-some n rest now end None is e = absurd (let f : None ≡ Some end = e in cc)
  keeps-some n rest now end (Some after) is e = keeps-both now.memory after.memory end.memory (keeps-one now after is) (rest after end e)

  pub run-keeps : (count : ℕ) (now end : Running) → instructions layout watchdog pages count now ≡ Some end → Keeps layout pages now.memory end.memory
  run-keeps zero now end e =
      let same : now ≡ end = cc in
      subst (λ (r : Running). Keeps layout pages now.memory r.memory) same (record { beside = record { same = λ a apart. refl }; unwritable = record { same = λ a not_so. refl } })
  run-keeps (suc n) now end e = keeps-some n (run-keeps n) now end (one_instruction layout watchdog pages now) refl e

-- ---- with more pages

module _ (layout : Layout) (watchdog : ℕ) (pages more : Backed) (h : IsMore pages more) where
  one-more : (now after : Running) → one_instruction layout watchdog pages now ≡ Some after → one_instruction layout watchdog more now ≡ Some after
  one-more now after e =
      let d = did layout watchdog pages now after e in
      does layout watchdog more now d.instr (executes-more pages more h layout now.memory now.thread.cpu d.instr d.executes) d.unwatched ∙ ap Some d.is

  some-more : (n : ℕ) → ((now end : Running) → instructions layout watchdog pages n now ≡ Some end → instructions layout watchdog more n now ≡ Some end)
      → (now end : Running) (o : Option Running) → one_instruction layout watchdog pages now ≡ o → option_and_then (instructions layout watchdog pages n) o ≡ Some end → instructions layout watchdog more (suc n) now ≡ Some end
  some-more n rest now end None is e = absurd (let f : None ≡ Some end = e in cc)
  some-more n rest now end (Some after) is e = ap (option_and_then (instructions layout watchdog more n)) (one-more now after is) ∙ rest after end e

  -- a run over some pages is one over more of them
  pub run-more : (count : ℕ) (now end : Running) → instructions layout watchdog pages count now ≡ Some end → instructions layout watchdog more count now ≡ Some end
  run-more zero now end e = e
  run-more (suc n) now end e = some-more n (run-more n) now end (one_instruction layout watchdog pages now) refl e

-- ---- a lease's run in the memory as it is when it comes back

-- what stands where some pages were lent, in a memory with the same bytes in them
pub standing-in : (layout : Layout) (watchdog : ℕ) (pages : Backed) (m n : Memory) (thread : Thread) → SameIn pages m n → standing layout watchdog pages m thread.cpu thread.since ≡ standing layout watchdog pages n thread.cpu thread.since
standing-in layout watchdog pages m n thread h =
    ap (λ (x : Next). cond (thread.since == watchdog) (Some Watchdog) (stop_in x)) (next-in layout pages m n thread.cpu h)

module _ (layout : Layout) (watchdog : ℕ) (lent backed : Backed) (more : IsMore lent backed) (most count : ℕ) (new : Running) (early : count < most) where
  -- a stop that is no fault of a page
  stands-too : (stop : Stop) → ((page : ℕ) → stop ≡ PageFault page → backed page ≡ false) → next layout lent new.memory new.thread.cpu ≡ Stands stop → (new.thread.since == watchdog) ≡ false → Some stop ≡ standing layout watchdog backed new.memory new.thread.cpu new.thread.since
  stands-too stop none e unwatched =
      sym (ap (λ (b : Bool). cond b (Some Watchdog) (stop_in (next layout backed new.memory new.thread.cpu))) unwatched
      ∙ ap stop_in (stands-more lent backed more layout new.memory new.thread.cpu stop e none))

  -- the fault of a page, by whether it is backed
  by-page : (page : ℕ) → next layout lent new.memory new.thread.cpu ≡ Stands (PageFault page) → (new.thread.since == watchdog) ≡ false → (b : Bool) → backed page ≡ b → ComesBack layout watchdog lent backed most count new (Some (PageFault page))
  by-page page e unwatched true is =
      wanting early is (sym (ap (λ (b : Bool). cond b (Some Watchdog) (stop_in (next layout lent new.memory new.thread.cpu))) unwatched ∙ ap stop_in e))
  by-page page e unwatched false is =
      at_stop early refl (ap (λ (b : Bool). cond b (Some page) None) is)
      (stands-too (PageFault page) (λ other f. let same : page ≡ other = cc in subst (λ (p : ℕ). backed p ≡ false) same is) e unwatched)

  by-next : (n : Next) → next layout lent new.memory new.thread.cpu ≡ n → (new.thread.since == watchdog) ≡ false → IsSome (stop_in n) → ComesBack layout watchdog lent backed most count new (stop_in n)
  by-next (Executes instr) e unwatched some = absurd (let f : false ≡ true = some in cc)
  by-next (Stands (PageFault page)) e unwatched some = by-page page e unwatched (backed page) refl
  by-next (Stands (Calls call)) e unwatched some = at_stop early refl refl (stands-too (Calls call) (λ page f. absurd (let g : Calls call ≡ PageFault page = f in cc)) e unwatched)
  by-next (Stands (Trap code)) e unwatched some = at_stop early refl refl (stands-too (Trap code) (λ page f. absurd (let g : Trap code ≡ PageFault page = f in cc)) e unwatched)
  by-next (Stands Watchdog) e unwatched some = at_stop early refl refl (stands-too Watchdog (λ page f. absurd (let g : Watchdog ≡ PageFault page = f in cc)) e unwatched)

  -- the stop at which it stands with the pages that it was lent
  comes-at : (b : Bool) → (new.thread.since == watchdog) ≡ b → (stop : Option Stop) → IsSome stop → stop ≡ cond b (Some Watchdog) (stop_in (next layout lent new.memory new.thread.cpu)) → ComesBack layout watchdog lent backed most count new stop
  comes-at true is stop some e =
      subst (ComesBack layout watchdog lent backed most count new) (sym e)
      (at_stop early refl refl (sym (ap (λ (b : Bool). cond b (Some Watchdog) (stop_in (next layout backed new.memory new.thread.cpu))) is)))
  comes-at false is stop some e =
      subst (ComesBack layout watchdog lent backed most count new) (sym e)
      (by-next (next layout lent new.memory new.thread.cpu) refl is (subst IsSome e some))

-- The frame of a lease: what it did to the pages that it was lent is its run over the whole memory, as that is when it comes
-- back, if that has the same bytes in these pages as they had when they were lent.
pub lent-run : (layout : Layout) (watchdog : ℕ) (lent backed : Backed) (most count : ℕ) (stop : Option Stop) (thread end : Thread) (part after whole : Memory)
    → IsMore lent backed → SameIn lent part whole → IsRun layout watchdog lent most count stop (running thread part) (running end after)
    → IsLentRun layout watchdog lent backed most count stop (running thread whole) (running end (with_part lent after whole))
lent-run layout watchdog lent backed most count stop thread end part after whole more same run =
    let r = run-in layout watchdog lent count thread part whole (running end after) same run.runs in
    let is : r.after ≡ with_part lent after whole = parts-whole lent after whole r.after r.inside r.beside in
    let inside : SameIn lent after (with_part lent after whole) = subst (SameIn lent after) is r.inside in
    record {
      within = r.runs ∙ ap (λ (m : Memory). Some (running end m)) is;
      runs = run-more layout watchdog lent backed more count (running thread whole) (running end r.after) r.runs ∙ ap (λ (m : Memory). Some (running end m)) is;
      comes = by inside run.arrives;
    }
  where
    by : SameIn lent after (with_part lent after whole) → ((count ≡ most) × (stop ≡ None)) ⊎ ((count < most) × IsSome stop × (stop ≡ standing layout watchdog lent after end.cpu end.since)) → ComesBack layout watchdog lent backed most count (running end (with_part lent after whole)) stop
    by inside (inl (all, none)) = subst (ComesBack layout watchdog lent backed most count (running end (with_part lent after whole))) (sym none) (having_done_all all)
    by inside (inr (early, some, at)) =
        comes-at layout watchdog lent backed more most count (running end (with_part lent after whole)) early (end.since == watchdog) refl stop some
        (at ∙ standing-in layout watchdog lent after (with_part lent after whole) end inside)
