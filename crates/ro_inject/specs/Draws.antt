-- Faults drawn from the words of a generator.
use Rattle.std.specs.Prelude.{ℕ, zero, suc, ◌+◌, ◌%◌, List, [], ◌∷◌, Option, unwrap_or, length, slice_index}
use Rattle.rand_pcg.specs.Lcg.{Lcg, advance, started, increment_of}
use Rattle.rand_pcg.specs.Pcg.{multiplier_64, pcg32}
use Rattle.ro_region.specs.declared.Range.{Range}
use Rattle.ro_image.specs.Image.{addresses_in}
use Rattle.ro_faults.specs.declared.Fault.{Fault}
use Rattle.ro_faults.specs.declared.Target.{Target}
use Rattle.ro_faults.specs.declared.Target.TheVariants.{Register, Pc, Byte}

-- the generator of a seed, of the stream 54
abbrev pub generator_of : (seed : ℕ) → Lcg
generator_of seed = started 64 multiplier_64 seed (increment_of 64 54)

-- the generator so many words later
abbrev pub after : (count : ℕ) → Lcg → Lcg
after count g = advance 64 multiplier_64 count g

-- the word that it gives then
abbrev pub word : (count : ℕ) → Lcg → ℕ
word count g = (pcg32 (after count g)).0

-- the target of a kind: 0 a register, 1 the pc, 2 a byte of the ranges
abbrev pub target_from : List Range → (kind : ℕ) → Lcg → Target
target_from ranges zero g = Register (1 + word 0 g % 31) (word 1 g % 32)
target_from ranges (suc zero) g = Pc (word 0 g % 32)
target_from ranges (suc (suc kind)) g =
    Byte (slice_index (addresses_in ranges) (word 0 g % length (addresses_in ranges))) (word 1 g % 8)

-- how many words the target of a kind takes
abbrev pub target_words : (kind : ℕ) → ℕ
target_words zero = 2
target_words (suc zero) = 1
target_words (suc (suc kind)) = 2

-- the kind of the next fault
abbrev pub kind_from : Lcg → ℕ
kind_from g = word 3 g % 3

-- the next fault: its replica, unless one is given, its thread, the number of instructions, and its target
abbrev pub fault_from : List Range → (only : Option ℕ) → Lcg → Fault
fault_from ranges only g = record {
  replica = unwrap_or only (word 0 g % 3);
  thread = word 1 g % 4;
  at = word 2 g % 10000;
  target = target_from ranges (kind_from g) (after 4 g);
}

-- the next faults
abbrev pub faults_from : List Range → (only : Option ℕ) → (count : ℕ) → Lcg → List Fault
faults_from ranges only zero g = []
faults_from ranges only (suc count) g =
    fault_from ranges only g ∷ faults_from ranges only count (after (4 + target_words (kind_from g)) g)

-- So many faults by a seed, in a replica if one is given, in bytes of these ranges.
abbrev pub faults_drawn : List Range → (only : Option ℕ) → (seed count : ℕ) → List Fault
faults_drawn ranges only seed count = faults_from ranges only count (generator_of seed)
