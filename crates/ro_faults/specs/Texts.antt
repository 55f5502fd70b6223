-- The texts of faults: a line for each, of words between single spaces.
use Rattle.std.specs.Prelude.{◌≡◌, ⊤, ℕ, ◌+◌, ◌-◌, ◌^◌, Bool, ◌&&◌, List, [], ◌∷◌, ◌++◌, Option, Some, None, Result, Ok, Err, nat_le, nat_lt, if◌then◌else◌, codes, decimal}
use Rattle.std.specs.Option.{option_map}
use Rattle.std.specs.Str.{bytes_eq}
use Rattle.ro_text.specs.Numbers.{is_number, value_of, within}
use Rattle.ro_text.specs.Lines.{line_text, words_of, parts_of}
use Rattle.ro_faults.specs.declared.Fault.{Fault}
use Rattle.ro_faults.specs.declared.Target.{Target}
use Rattle.ro_faults.specs.declared.Target.TheVariants.{Register, Pc, Byte}
use Rattle.ro_faults.specs.declared.errors.FaultsCode.{FaultsCode}
use Rattle.ro_faults.specs.declared.errors.FaultsCode.TheVariants.{Form, Range, Count}
use Rattle.ro_faults.specs.declared.errors.FaultsError.{FaultsError}
use Rattle.ro_faults.specs.declared.errors.FaultsError.TheVariants.{Bad, NoMemory}

abbrev pub target_words : Target → List (List ℕ)
target_words (Register number bit) = codes "reg" ∷ decimal number ∷ decimal bit ∷ []
target_words (Pc bit) = codes "pc" ∷ decimal bit ∷ []
target_words (Byte address bit) = codes "mem" ∷ decimal address ∷ decimal bit ∷ []

abbrev pub fault_words : Fault → List (List ℕ)
fault_words fault = decimal fault.replica ∷ decimal fault.thread ∷ decimal fault.at ∷ target_words fault.target

-- the line of a fault
abbrev pub fault_text : Fault → List ℕ
fault_text fault = line_text (fault_words fault)

abbrev pub faults_text : List Fault → List ℕ
faults_text [] = []
faults_text (fault ∷ faults) = fault_text fault ++ faults_text faults

-- the target that words give, whatever their numbers
abbrev pub target_of : List (List ℕ) → Option Target
target_of (kind ∷ bit ∷ []) = if bytes_eq kind (codes "pc") && is_number bit then Some (Pc (value_of bit)) else None
target_of (kind ∷ number ∷ bit ∷ []) =
    if is_number number && is_number bit
    then (if bytes_eq kind (codes "reg") then Some (Register (value_of number) (value_of bit))
    else (if bytes_eq kind (codes "mem") then Some (Byte (value_of number) (value_of bit)) else None))
    else None
target_of _ = None

-- the fault that words give, whatever their numbers
abbrev pub fault_of : List (List ℕ) → Option Fault
fault_of (replica ∷ thread ∷ at ∷ target) =
    if is_number replica && is_number thread && is_number at
    then option_map (λ t. record { replica = value_of replica; thread = value_of thread; at = value_of at; target = t }) (target_of target)
    else None
fault_of _ = None

abbrev pub is_target : Target → Bool
is_target (Register number bit) = within 1 31 number && within 0 31 bit
is_target (Pc bit) = within 0 31 bit
is_target (Byte address bit) = within 0 (2 ^ 32 - 1) address && within 0 7 bit

-- the numbers of the fault are those of a run of so many replicas
abbrev pub is_fault : (replicas : ℕ) → Fault → Bool
is_fault replicas fault =
    is_target fault.target && nat_lt fault.replica replicas && within 0 15 fault.thread && within 0 (10 ^ 12) fault.at

-- what has the right form, and whose numbers are in their ranges
abbrev pub ranged : {A : Type 0} → (A → Bool) → Option A → Result A FaultsCode
ranged test None = Err Form
ranged test (Some x) = if test x then Ok x else Err Range

-- the fault of a line without its line feed, or the code by which it is refused
abbrev pub line_fault : (replicas : ℕ) → List ℕ → Result Fault FaultsCode
line_fault replicas line = ranged (is_fault replicas) (fault_of (words_of line))

-- what a line gives: behind the last that may be there, its number alone is bad
abbrev pub counted : {A : Type 0} → (line : ℕ) → Result A FaultsCode → Result A FaultsCode
counted line read = if nat_le line 256 then read else Err Count

-- what the line of this number gives, or its number and the code
abbrev pub in_line : {A : Type 0} → (line : ℕ) → Result A FaultsCode → Result A FaultsError
in_line line (Ok x) = Ok x
in_line line (Err code) = Err (Bad line code)

-- what is read before others, unless it is bad
abbrev pub before : {A E : Type 0} → Result A E → Result (List A) E → Result (List A) E
before (Err error) rest = Err error
before (Ok x) (Err error) = Err error
before (Ok x) (Ok xs) = Ok (x ∷ xs)

-- what stands behind the last line feed is to be empty
abbrev pub end_faults : (line : ℕ) → List ℕ → Result (List Fault) FaultsError
end_faults line [] = Ok []
end_faults line (byte ∷ bytes) = in_line line (counted line (Err Form))

-- the faults of lines from a number on
abbrev pub lines_faults : (replicas line : ℕ) → List (List ℕ) → Result (List Fault) FaultsError
lines_faults replicas line [] = Ok []
lines_faults replicas line (part ∷ []) = end_faults line part
lines_faults replicas line (part ∷ next ∷ parts) =
    before (in_line line (counted line (line_fault replicas part))) (lines_faults replicas (line + 1) (next ∷ parts))

-- the faults of a file, or its first bad line
abbrev pub file_faults : (replicas : ℕ) → List ℕ → Result (List Fault) FaultsError
file_faults replicas bytes = lines_faults replicas 1 (parts_of bytes)

abbrev pub code_of : FaultsCode → ℕ
code_of Form = 1
code_of Range = 2
code_of Count = 3

-- what is read behind what was read before
abbrev pub behind : {A E : Type 0} → List A → Result (List A) E → Result (List A) E
behind xs (Ok ys) = Ok (xs ++ ys)
behind xs (Err error) = Err error

-- an error that the reading gives, or one of memory
abbrev pub refuses : {A : Type 0} → FaultsError → Result A FaultsError → Type 0
refuses NoMemory read = ⊤
refuses error read = read ≡ Err error
