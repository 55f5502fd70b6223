-- Code in which no stop stands before an instruction is read, and data that may be accessed.
use Rattle.std.specs.Prelude.{◌≡◌, ◌≢◌, ℕ, ◌+◌, ◌*◌, ◌%◌, ◌^◌, ◌<◌, ◌≤◌, true, List, Option, Some, None}
use Rattle.std.specs.List.{slice_get}
use Rattle.ro_region.specs.declared.Range.{Range}
use Rattle.ro_region.specs.declared.Kind.{Kind}
use Rattle.ro_region.specs.Permission.{permits_of}
use Rattle.ro_pages.specs.Bytes.{page_of}
use Rattle.ro_exec.specs.declared.Cpu.{Cpu}
use Rattle.ro_region.specs.declared.Kind.TheVariants.{Read, Write}
use Rattle.ro_exec.specs.declared.stretch.Stretch.{Stretch}
use Rattle.ro_exec.specs.declared.learnt.Learnt.{Learnt}
use Rattle.ro_alu.specs.Results.{low_word}
use Rattle.ro_exec.specs.Next.{Layout, Backed, fetch_stop, jump_stop}

-- the place of an instruction in it
abbrev pub IsIn : Stretch → ℕ → Type 0
IsIn stretch pc = (stretch.from ≤ pc) × (pc < stretch.from + 4 * stretch.words) × (pc % 4 ≡ 0)

-- no thread that stands in it has a stop before its instruction is read, and the page is backed
abbrev pub IsClear : Layout → Backed → Stretch → Type 0
IsClear layout backed stretch = (cpu : Cpu) → IsIn stretch cpu.pc → (fetch_stop layout backed cpu ≡ None) × (backed (page_of cpu.pc) ≡ true)

-- where the code behind it begins, modulo 2 ^ 32
abbrev pub end_of : Stretch → ℕ
end_of stretch = (stretch.from + 4 * stretch.words) % 2 ^ 32

-- a thread stands in the stretch, which ends at the place where code is looked up again, or it is at that place
abbrev pub IsAlong : Stretch → (until pc : ℕ) → Type 0
IsAlong stretch until pc = pc ≢ until → IsIn stretch pc × (until ≡ end_of stretch)

-- A thread stands in the stretch, whose end is where code is looked up again, and this is the place of its next instruction.
pub record IsOn (stretch : Stretch) (until pc next : ℕ) : Type 0 where
  pub aligned : stretch.from % 4 ≡ 0
  pub bounded : stretch.from + 4 * stretch.words ≤ 2 ^ 32
  pub until_end : until ≡ end_of stretch
  pub here : IsAlong stretch until pc
  pub next_is : next ≡ low_word (pc + 4)
  pub next_along : IsAlong stretch until next
  pub next_whole : jump_stop next ≡ None

-- the page of each of its instructions is kept at its place
abbrev pub IsKept : (ℕ → Option ℕ) → Stretch → Type 0
IsKept kept stretch = (pc : ℕ) → IsIn stretch pc → kept stretch.place ≡ Some (page_of pc)

-- each part of it may be accessed so, and the page of each of its bytes is backed, and kept at its place
pub record IsOpenTo (ranges : List Range) (pages : Backed) (places : ℕ → Option ℕ) (kind : Kind) (stretch : Stretch) : Type 0 where
  pub aligned : stretch.from % 4 ≡ 0
  pub bounded : stretch.from + 4 * stretch.words ≤ 2 ^ 32
  pub permitted : (p n : ℕ) → stretch.from ≤ p → p + n ≤ stretch.from + 4 * stretch.words → permits_of ranges kind p n ≡ true
  pub backed : (p : ℕ) → stretch.from ≤ p → p < stretch.from + 4 * stretch.words → pages (page_of p) ≡ true
  pub kept : (p : ℕ) → stretch.from ≤ p → p < stretch.from + 4 * stretch.words → places stretch.place ≡ Some (page_of p)

-- each of them is so
abbrev pub AreOpenTo : List Range → Backed → (ℕ → Option ℕ) → Kind → List Stretch → Type 0
AreOpenTo ranges pages places kind stretches = (i : ℕ) (stretch : Stretch) → slice_get stretches i ≡ Some stretch → IsOpenTo ranges pages places kind stretch

-- what was learnt of a memory is true of it
pub record IsLearnt (layout : Layout) (pages : Backed) (places : ℕ → Option ℕ) (learnt : Learnt) : Type 0 where
  pub aligned : learnt.code.from % 4 ≡ 0
  pub bounded : learnt.code.from + 4 * learnt.code.words ≤ 2 ^ 32
  pub clear : IsClear layout pages learnt.code
  pub page : IsKept places learnt.code
  pub reads : AreOpenTo layout.ranges pages places Read learnt.reads.stretches
  pub writes : AreOpenTo layout.ranges pages places Write learnt.writes.stretches
