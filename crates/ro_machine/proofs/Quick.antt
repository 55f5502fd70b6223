-- A plain step of a thread whose registers are taken out of the machine.
use Rattle.std.specs.Prelude.{◌≡◌, ℕ, ◌+◌, ◌*◌, ◌%◌, ◌^◌, ◌≤◌, Bool, true, false, List, Option, Some, is_none, slice_get, slice_set, get_or}
use Rattle.std.proofs.Common.{refl, sym, ap, subst}
use Rattle.std.proofs.lemmas.Option.{slice_get-get_or}
use Rattle.ro_region.specs.declared.Kind.{Kind}
use Rattle.ro_region.specs.declared.Kind.TheVariants.{Read, Write}
use Rattle.ro_pages.specs.Bytes.{Memory}
use Rattle.ro_pages.specs.Held.{Held, memory_of, has_page}
use Rattle.ro_exec.specs.declared.Cpu.{Cpu}
use Rattle.ro_exec.specs.declared.outcome.Step.TheVariants.{Did, Stopped}
use Rattle.ro_exec.specs.declared.stretch.Stretch.{Stretch as Code}
use Rattle.ro_exec.specs.Next.{Layout, Backed, all_backed, Next, Stands, Executes, next}
use Rattle.ro_exec.specs.Steps.{IsStep, IsQuick}
use Rattle.ro_exec.specs.declared.data.Open.{Open}
use Rattle.ro_exec.specs.Stretches.{IsClear, IsKept, AreOpenTo}
use Rattle.ro_exec.proofs.Backing.{executes-backed}
use Rattle.ro_plain.specs.Machine.{steppable, setup_of, layout_in}
use Rattle.ro_replica.proofs.Elements.{get_set, set_twice}
use Rattle.ro_machine.specs.declared.lane.Lane.{Lane}
use Rattle.ro_machine.specs.declared.looking.Look.{Look}
use Rattle.ro_machine.specs.declared.watching.Went.TheVariants.{Executed}
use Rattle.ro_machine.specs.declared.watching.Relation.TheVariants.{Nothing as IsNothing}
use Rattle.ro_machine.specs.Seen.{PlainOf, machine_of, Steps}
use Rattle.ro_machine.specs.Watched.{Sees, TellsNext}
use Rattle.ro_machine.specs.Lanes.{cpu_of, closed, IsOpen, Spells}
use Rattle.ro_machine.proofs.Stepping.{may, go-did}
use Rattle.ro_machine.proofs.Noted.{no_bytes, was-read, look-read, sees-executed}
use Rattle.ro_kernel.specs.Kernel.{ranges_in}

-- what is done with some pages backed is done with all
with-all : (layout : Layout) (backed : Backed) (m after : Memory) (cpu new : Cpu) → IsStep (next layout backed m cpu) Did cpu new m after → IsStep (next layout all_backed m cpu) Did cpu new m after
with-all layout backed m after cpu new h = by (next layout backed m cpu) refl h
  where
    by : (n : Next) → next layout backed m cpu ≡ n → IsStep n Did cpu new m after → IsStep (next layout all_backed m cpu) Did cpu new m after
    by (Executes instr) e h = subst (λ (n : Next). IsStep n Did cpu new m after) (sym (executes-backed layout backed m cpu instr e)) h
    by (Stands stop) e h = absurd (let f : Did ≡ Stopped stop = h.0 in cc)

pub done-quickly : (layout layout_too : Layout) (backed : Backed) (m after : Memory) (cpu new : Cpu) (b : Bool) → layout ≡ layout_too → b ≡ true → IsQuick b (next layout backed m cpu) cpu new m after → IsStep (next layout_too all_backed m cpu) Did cpu new m after
done-quickly layout layout_too backed m after cpu new b same e h =
    subst (λ (l : Layout). IsStep (next l all_backed m cpu) Did cpu new m after) same (with-all layout backed m after cpu new (subst (λ (d : Bool). IsQuick d (next layout backed m cpu) cpu new m after) e h))

pub left-alone : (n : Next) (m after : Memory) (cpu new : Cpu) (b : Bool) → b ≡ false → IsQuick b n cpu new m after → (new ≡ cpu) × (after ≡ m)
left-alone n m after cpu new b e h = subst (λ (d : Bool). IsQuick d n cpu new m after) e h

module _ (plain : PlainOf) (lane : Lane) (opened : IsOpen plain lane) where
  there : slice_get (slice_set plain.cpus lane.thread (cpu_of lane)) lane.thread ≡ Some (cpu_of lane)
  there = get_set plain.cpus lane.thread (get_or plain.cpus lane.thread (cpu_of lane)) (cpu_of lane) (slice_get-get_or plain.cpus lane.thread (cpu_of lane) opened.there)

  steppable-is : (output : List ℕ) → steppable (machine_of (closed plain lane) output) lane.thread ≡ Some (cpu_of lane)
  steppable-is output = may (machine_of (closed plain lane) output) lane.thread (cpu_of lane) opened.going opened.live there

  module _ (held : Held) (cpu : Cpu) (did : IsStep (next (layout_in plain.program plain.kernel) all_backed (memory_of plain.held.pages) (cpu_of lane)) Did (cpu_of lane) cpu (memory_of plain.held.pages) (memory_of held.pages)) where
    pub lane-steps : Steps (closed plain lane) lane.thread (record plain { held = held; cpus = slice_set plain.cpus lane.thread cpu })
    lane-steps =
        subst (λ (xs : List Cpu). Steps (closed plain lane) lane.thread (record plain { held = held; cpus = xs })) (set_twice plain.cpus lane.thread (cpu_of lane) cpu)
        (go-did plain.program plain.held held (slice_set plain.cpus lane.thread (cpu_of lane)) plain.kernel plain.written (ranges_in (setup_of plain.program) plain.kernel) plain.program.image.calls plain.ended lane.thread (cpu_of lane) cpu Did refl opened.going opened.live there opened.empty refl refl did)

    pub lane-sees : (look : Look) → Spells (memory_of plain.held.pages) (cpu_of lane) look → (output : List ℕ) → Sees plain.program (machine_of (closed plain lane) output) lane.thread (record { loaded = look.loads; code = look.code; stored = look.stores; atomic = no_bytes; relation = IsNothing })
    lane-sees look spells output = by (next (layout_in plain.program plain.kernel) all_backed (memory_of plain.held.pages) (cpu_of lane)) refl did
      where
        by : (n : Next) → next (layout_in plain.program plain.kernel) all_backed (memory_of plain.held.pages) (cpu_of lane) ≡ n → IsStep n Did (cpu_of lane) cpu (memory_of plain.held.pages) (memory_of held.pages) → Sees plain.program (machine_of (closed plain lane) output) lane.thread (record { loaded = look.loads; code = look.code; stored = look.stores; atomic = no_bytes; relation = IsNothing })
        by (Stands stop) e h = absurd (let f : Did ≡ Stopped stop = h.0 in cc)
        by (Executes instr) e h =
            let read = was-read (layout_in plain.program plain.kernel) (memory_of plain.held.pages) (cpu_of lane) instr e in
            let looks = look-read (layout_in plain.program plain.kernel) (memory_of plain.held.pages) (cpu_of lane) look spells.pc (sym (ap is_none read.fetched)) spells.code spells.loads_are spells.stores_are spells.loads_few spells.stores_few spells.stores_at in
            let told : TellsNext plain.program (machine_of (closed plain lane) output) lane.thread (next (layout_in plain.program plain.kernel) all_backed (memory_of plain.held.pages) (cpu_of lane)) Executed = subst (λ (n : Next). TellsNext plain.program (machine_of (closed plain lane) output) lane.thread n Executed) (sym e) refl in
            sees-executed plain.program (machine_of (closed plain lane) output) lane.thread (cpu_of lane) (steppable-is output) look looks opened.few told

  pub stays-opened : (held : Held) (registers : List ℕ) (pc : ℕ) (code : Code) (reads writes : Open) (layout : Layout) → layout ≡ layout_in plain.program plain.kernel → has_page held.pages ≡ has_page plain.held.pages → slice_get held.numbers ≡ slice_get plain.held.numbers →
      code.from % 4 ≡ 0 → code.from + 4 * code.words ≤ 2 ^ 32 → IsClear layout (has_page plain.held.pages) code → IsKept (slice_get plain.held.numbers) code →
      AreOpenTo layout.ranges (has_page plain.held.pages) (slice_get plain.held.numbers) Read reads.stretches → AreOpenTo layout.ranges (has_page plain.held.pages) (slice_get plain.held.numbers) Write writes.stretches →
      IsOpen (record plain { held = held }) (record { thread = lane.thread; registers = registers; pc = pc; code = code; reads = reads; writes = writes })
  stays-opened held registers pc code reads writes layout same pages numbers aligned bounded clear kept may-load may-store = record {
    going = opened.going;
    live = opened.live;
    empty = opened.empty;
    few = opened.few;
    there = opened.there;
    aligned = aligned;
    bounded = bounded;
    clear = subst (λ (b : Backed). IsClear (layout_in plain.program plain.kernel) b code) (sym pages) (subst (λ (l : Layout). IsClear l (has_page plain.held.pages) code) same clear);
    kept = subst (λ (k : ℕ → Option ℕ). IsKept k code) (sym numbers) kept;
    reads = still-open Read reads.stretches may-load;
    writes = still-open Write writes.stretches may-store;
  }
    where
      still-open : (kind : Kind) (stretches : List Code) → AreOpenTo layout.ranges (has_page plain.held.pages) (slice_get plain.held.numbers) kind stretches → AreOpenTo (ranges_in (setup_of plain.program) plain.kernel) (has_page held.pages) (slice_get held.numbers) kind stretches
      still-open kind stretches shown =
          subst (λ (b : Backed). AreOpenTo (ranges_in (setup_of plain.program) plain.kernel) b (slice_get held.numbers) kind stretches) (sym pages)
          (subst (λ (k : ℕ → Option ℕ). AreOpenTo (ranges_in (setup_of plain.program) plain.kernel) (has_page plain.held.pages) k kind stretches) (sym numbers)
          (subst (λ (l : Layout). AreOpenTo l.ranges (has_page plain.held.pages) (slice_get plain.held.numbers) kind stretches) same shown))
