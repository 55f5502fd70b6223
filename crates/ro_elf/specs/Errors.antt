-- The numbers of the checks that a file can fail.
use Rattle.std.specs.Prelude.{ℕ}
use Rattle.ro_elf.specs.declared.errors.ExeError.{ExeError}
use Rattle.ro_elf.specs.declared.errors.ExeError.TheVariants.{Short, Magic, Class, Encoding, Version, FileType, Machine, Flags, ProgramHeaders, HeadersCut, Dynamic, SegmentCut, Addresses, Entry, Memory, Symbols, Functions}

abbrev pub number_of : ExeError → ℕ
number_of Short = 1
number_of Magic = 2
number_of Class = 3
number_of Encoding = 4
number_of Version = 5
number_of FileType = 6
number_of Machine = 7
number_of Flags = 8
number_of ProgramHeaders = 9
number_of HeadersCut = 10
number_of Dynamic = 11
number_of SegmentCut = 12
number_of Addresses = 13
number_of Entry = 14
number_of Memory = 15
number_of Symbols = 16
number_of Functions = 17
