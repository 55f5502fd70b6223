-- The first path: a file of 96 bytes whose program exits with 7, and the journal of its default job.
use Rattle.std.specs.Prelude.{ℕ, true, false, List, [], ◌∷◌, ◌++◌, None, map}
use Rattle.ro_event.specs.Functions.{functions}
use Rattle.ro_journal.specs.Leases.{lease_to}
use Rattle.ro_journal.specs.declared.losers.Lost.TheVariants.{Nobody}
use Rattle.ro_image.specs.Image.{Image, ranges_with}
use Rattle.ro_journal.specs.declared.Did.TheVariants.{Served}
use Rattle.ro_journal.specs.declared.How.TheVariants.{Exit}
use Rattle.ro_journal.specs.declared.Entry.{Entry}
use Rattle.ro_journal.specs.declared.Entry.TheVariants.{Take, Put, Vote, End}
use Rattle.ro_legal.specs.Core.{Job}
use Rattle.ro_legal.specs.Jobs.{default_job}

-- the header of an executable that begins at 10054, without sections; the header of its only segment, the whole file from
-- 10000 on, to be read and executed; ADDI a0, zero, 7; ADDI a7, zero, 93; ECALL
abbrev pub exit_file : List ℕ
exit_file =
    (0x7F ∷ 0x45 ∷ 0x4C ∷ 0x46 ∷ 1 ∷ 1 ∷ 1 ∷ 0 ∷ 0 ∷ 0 ∷ 0 ∷ 0 ∷ 0 ∷ 0 ∷ 0 ∷ 0 ∷ 2 ∷ 0 ∷ 0xF3 ∷ 0 ∷ 1 ∷ 0 ∷ 0 ∷ 0 ∷ 0x54 ∷ 0
    ∷ 1 ∷ 0 ∷ 0x34 ∷ 0 ∷ 0 ∷ 0 ∷ 0 ∷ 0 ∷ 0 ∷ 0 ∷ 0 ∷ 0 ∷ 0 ∷ 0 ∷ 0x34 ∷ 0 ∷ 0x20 ∷ 0 ∷ 1 ∷ 0 ∷ 0 ∷ 0 ∷ 0 ∷ 0 ∷ 0 ∷ 0 ∷ [])
    ++ (1 ∷ 0 ∷ 0 ∷ 0 ∷ 0 ∷ 0 ∷ 0 ∷ 0 ∷ 0 ∷ 0 ∷ 1 ∷ 0 ∷ 0 ∷ 0 ∷ 1 ∷ 0 ∷ 0x60 ∷ 0 ∷ 0 ∷ 0 ∷ 0x60 ∷ 0 ∷ 0 ∷ 0 ∷ 5 ∷ 0 ∷ 0 ∷ 0 ∷ 0 ∷ 0x10 ∷ 0 ∷ 0 ∷ [])
    ++ (0x13 ∷ 5 ∷ 0x70 ∷ 0 ∷ 0x93 ∷ 8 ∷ 0xD0 ∷ 5 ∷ 0x73 ∷ 0 ∷ 0 ∷ 0 ∷ [])

-- what the file says of the machine
abbrev pub exit_image : Image
exit_image = record {
  pieces = record { place = 0x10000; bytes = exit_file } ∷ [];
  ranges = ranges_with (record { start = 0x10000; length = 96; read = true; write = false; execute = true } ∷ []) 0x11000;
  calls = record { addresses = map (λ function. None) functions };
  entry = 0x10054;
  heap = 0x11000;
}

abbrev pub exit_job : Job
exit_job = default_job exit_image

-- each replica runs two instructions up to the call, and the vote serves it
abbrev pub exit_journal : List Entry
exit_journal = Take (lease_to 0 0 0) ∷ Put (lease_to 0 0 0) 2 0 ∷ Take (lease_to 0 1 0) ∷ Put (lease_to 0 1 0) 2 0 ∷ Take (lease_to 0 2 0) ∷ Put (lease_to 0 2 0) 2 0 ∷ Vote 0 2 0 Nobody Served ∷ End (Exit 7) ∷ []
