-- What was learnt of a memory stays true where more of its pages are backed and none moves, and where a range more is permitted.
use Rattle.std.specs.Prelude.{◌≡◌, ℕ, ◌%◌, Bool, true, false, not, ◌==◌, List, [], ◌∷◌, Option, Some, None}
use Rattle.std.specs.Option.{option_map}
use Rattle.std.proofs.Common.{refl, sym, ap, ◌∙◌}
use Rattle.ro_event.specs.declared.stops.Stop.{Stop}
use Rattle.ro_event.specs.declared.stops.Stop.TheVariants.{Trap, PageFault}
use Rattle.ro_event.specs.declared.traps.TrapCause.TheVariants.{ForbiddenFetch, MisalignedPc}
use Rattle.ro_event.specs.declared.calls.Which.TheVariants.{Function}
use Rattle.ro_event.specs.declared.functions.Function.TheVariants.{Exit}
use Rattle.ro_event.specs.Table.{call_at}
use Rattle.ro_region.specs.declared.Range.{Range}
use Rattle.ro_region.specs.declared.Kind.{Kind}
use Rattle.ro_region.specs.declared.Kind.TheVariants.{Execute}
use Rattle.ro_region.specs.Permission.{permits_of, with_range}
use Rattle.ro_region.proofs.Wider.{permits-wider}
use Rattle.ro_pages.specs.Bytes.{page_of}
use Rattle.ro_exec.specs.declared.Cpu.{Cpu}
use Rattle.ro_exec.specs.declared.learnt.Learnt.{Learnt}
use Rattle.ro_exec.specs.declared.stretch.Stretch.{Stretch}
use Rattle.ro_exec.specs.Next.{Layout, Backed, exit_place, call_of, first, stop_if, fetch_stop}
use Rattle.ro_exec.specs.Stretches.{IsClear, AreOpenTo, IsLearnt}

-- before an instruction is read, a thread meets the same where the page of its code is backed
fetch-same : (layout : Layout) (backed more : Backed) (cpu : Cpu) → backed (page_of cpu.pc) ≡ more (page_of cpu.pc) → fetch_stop layout backed cpu ≡ fetch_stop layout more cpu
unfolding fetch_stop
fetch-same layout backed more cpu same = ap (λ (b : Bool). first
    (stop_if (not (cpu.pc % 4 == 0)) (Trap MisalignedPc)
    ∷ stop_if (cpu.pc == exit_place) (call_of cpu (Function Exit))
    ∷ option_map (call_of cpu) (call_at layout.calls cpu.pc)
    ∷ stop_if (not (permits_of layout.ranges Execute cpu.pc 4)) (Trap ForbiddenFetch)
    ∷ stop_if (not b) (PageFault (page_of cpu.pc))
    ∷ [])) same

clear-stays : (layout : Layout) (backed more : Backed) (stretch : Stretch) → ((page : ℕ) → backed page ≡ true → more page ≡ true) → IsClear layout backed stretch → IsClear layout more stretch
clear-stays layout backed more stretch grows clear cpu is_in =
    let before = clear cpu is_in in
    let now : more (page_of cpu.pc) ≡ true = grows (page_of cpu.pc) before.1 in
    (fetch-same layout more backed cpu (now ∙ sym before.1) ∙ before.0, now)

accesses-stay : (ranges : List Range) (backed more : Backed) (places at : ℕ → Option ℕ) (kind : Kind) (stretches : List Stretch) → ((page : ℕ) → backed page ≡ true → more page ≡ true) → ((place page : ℕ) → places place ≡ Some page → at place ≡ Some page) → AreOpenTo ranges backed places kind stretches → AreOpenTo ranges more at kind stretches
accesses-stay ranges backed more places at kind stretches grows stay are i stretch found =
    let here = are i stretch found in
    record {
      aligned = here.aligned;
      bounded = here.bounded;
      permitted = here.permitted;
      backed = λ p low high. grows (page_of p) (here.backed p low high);
      kept = λ p low high. stay stretch.place (page_of p) (here.kept p low high);
    }

pub learnt-stays : (layout : Layout) (backed more : Backed) (places at : ℕ → Option ℕ) (learnt : Learnt) → ((page : ℕ) → backed page ≡ true → more page ≡ true) → ((place page : ℕ) → places place ≡ Some page → at place ≡ Some page) → IsLearnt layout backed places learnt → IsLearnt layout more at learnt
learnt-stays layout backed more places at learnt grows stay is = record {
  aligned = is.aligned;
  bounded = is.bounded;
  clear = clear-stays layout backed more learnt.code grows is.clear;
  page = λ pc is_in. stay learnt.code.place (page_of pc) (is.page pc is_in);
  reads = accesses-stay layout.ranges backed more places at _ learnt.reads.stretches grows stay is.reads;
  writes = accesses-stay layout.ranges backed more places at _ learnt.writes.stretches grows stay is.writes;
}

-- a list of stops that comes to none still does where one of them goes
first-none : (a b c d other e : Option Stop) → (d ≡ None → other ≡ None) → first (a ∷ b ∷ c ∷ d ∷ e ∷ []) ≡ None → first (a ∷ b ∷ c ∷ other ∷ e ∷ []) ≡ None
first-none (Some stop) b c d other e h none = absurd (let f : Some stop ≡ None = none in cc)
first-none None (Some stop) c d other e h none = absurd (let f : Some stop ≡ None = none in cc)
first-none None None (Some stop) d other e h none = absurd (let f : Some stop ≡ None = none in cc)
first-none None None None (Some stop) other e h none = absurd (let f : Some stop ≡ None = none in cc)
first-none None None None None other e h none = ap (λ (o : Option Stop). first (None ∷ None ∷ None ∷ o ∷ e ∷ [])) (h refl) ∙ none

no-stop : (may can : Bool) (stop : Stop) → (may ≡ true → can ≡ true) → stop_if (not may) stop ≡ None → stop_if (not can) stop ≡ None
no-stop true can stop h none = ap (λ (b : Bool). stop_if (not b) stop) (h refl)
no-stop false can stop h none = absurd (let f : Some stop ≡ None = none in cc)

module _ (range : Range) where
  -- the same addresses with a range more
  abbrev wider : Layout → Layout
  wider layout = record { ranges = range ∷ layout.ranges; calls = layout.calls }

  fetch-wider : (layout : Layout) (backed : Backed) (cpu : Cpu) → fetch_stop layout backed cpu ≡ None → fetch_stop (wider layout) backed cpu ≡ None
  unfolding fetch_stop
  fetch-wider layout backed cpu none =
      first-none (stop_if (not (cpu.pc % 4 == 0)) (Trap MisalignedPc)) (stop_if (cpu.pc == exit_place) (call_of cpu (Function Exit))) (option_map (call_of cpu) (call_at layout.calls cpu.pc))
      (stop_if (not (permits_of layout.ranges Execute cpu.pc 4)) (Trap ForbiddenFetch)) (stop_if (not (permits_of (range ∷ layout.ranges) Execute cpu.pc 4)) (Trap ForbiddenFetch)) (stop_if (not (backed (page_of cpu.pc))) (PageFault (page_of cpu.pc)))
      (no-stop (permits_of layout.ranges Execute cpu.pc 4) (permits_of (range ∷ layout.ranges) Execute cpu.pc 4) (Trap ForbiddenFetch) (permits-wider range layout.ranges Execute cpu.pc 4)) none

  accesses-wider : (ranges : List Range) (backed : Backed) (places : ℕ → Option ℕ) (kind : Kind) (stretches : List Stretch) → AreOpenTo ranges backed places kind stretches → AreOpenTo (range ∷ ranges) backed places kind stretches
  accesses-wider ranges backed places kind stretches are i stretch found =
      let here = are i stretch found in
      record {
        aligned = here.aligned;
        bounded = here.bounded;
        permitted = λ p n low high. permits-wider range ranges kind p n (here.permitted p n low high);
        backed = here.backed;
        kept = here.kept;
      }

  learnt-wider-by : (layout : Layout) (backed : Backed) (places : ℕ → Option ℕ) (learnt : Learnt) → IsLearnt layout backed places learnt → IsLearnt (wider layout) backed places learnt
  learnt-wider-by layout backed places learnt is = record {
    aligned = is.aligned;
    bounded = is.bounded;
    clear = λ cpu is_in. let before = is.clear cpu is_in in (fetch-wider layout backed cpu before.0, before.1);
    page = is.page;
    reads = accesses-wider layout.ranges backed places _ learnt.reads.stretches is.reads;
    writes = accesses-wider layout.ranges backed places _ learnt.writes.stretches is.writes;
  }

-- with a range more, where there is one
pub learnt-wider : (range : Option Range) (layout : Layout) (backed : Backed) (places : ℕ → Option ℕ) (learnt : Learnt) → IsLearnt layout backed places learnt → IsLearnt (record { ranges = with_range range layout.ranges; calls = layout.calls }) backed places learnt
learnt-wider None layout backed places learnt is = is
learnt-wider (Some range) layout backed places learnt is = learnt-wider-by range layout backed places learnt is
