-- A file that is read is the text of the faults that are read.
use Rattle.std.proofs.Common.{ℕ, Bool, true, false, ◌≡◌, ◌+◌, ◌-◌, ◌^◌, ◌<◌, ◌≤◌, ◌&&◌, ◌==◌, nat_le, nat_lt, List, [], ◌∷◌, ◌++◌, Option, Some, None, Result, Ok, Err, length, decimal, codes, cond, arith, refl, sym, ap, ◌∙◌, subst, append_assoc}
use Rattle.std.specs.List.{list_all, join_with_byte}
use Rattle.std.specs.Option.{option_map}
use Rattle.std.specs.Str.{bytes_eq}
use Rattle.std.proofs.lemmas.Bool.{and_parts, and_from, leb-true, ltb-true}
use Rattle.std.proofs.lemmas.Slice.Eq.{bytes_eq-Decides}
use Rattle.std.proofs.lemmas.List.Splits.{join_with_byte-slice_split, length-slice_split}
use Rattle.ro_text.specs.Numbers.{is_number, value_of, within}
use Rattle.ro_text.specs.Lines.{spaced, words_of, parts_of}
use Rattle.ro_text.proofs.Spellings.{number_once}
use Rattle.ro_faults.specs.declared.Fault.{Fault}
use Rattle.ro_faults.specs.declared.Target.{Target}
use Rattle.ro_faults.specs.declared.Target.TheVariants.{Register, Pc, Byte}
use Rattle.ro_faults.specs.declared.errors.FaultsCode.{FaultsCode}
use Rattle.ro_faults.specs.declared.errors.FaultsCode.TheVariants.{Form, Range, Count}
use Rattle.ro_faults.specs.declared.errors.FaultsError.{FaultsError}
use Rattle.ro_faults.specs.Texts.{target_words, fault_words, faults_text, target_of, fault_of, is_target, is_fault, ranged, line_fault, counted, in_line, before, end_faults, lines_faults, file_faults}
use Rattle.ro_faults.proofs.Back.{inside}

same : (word text : List ℕ) → bytes_eq word text ≡ true → word ≡ text
same word text e = (bytes_eq-Decides word text).0 e

pc_once : (kind bit : List ℕ) (target : Target) (b : Bool) → (bytes_eq kind (codes "pc") && is_number bit) ≡ b → cond b (Some (Pc (value_of bit))) None ≡ Some target → is_target target ≡ true → target_words target ≡ kind ∷ bit ∷ []
pc_once kind bit target false t h is = absurd (cc)
pc_once kind bit target true t h is =
    let parts = and_parts (bytes_eq kind (codes "pc")) (is_number bit) t in
    let e : Pc (value_of bit) ≡ target = cc in
    let fits : is_target (Pc (value_of bit)) ≡ true = ap is_target e ∙ is in
    ap target_words (sym e)
    ∙ ap (λ k. k ∷ decimal (value_of bit) ∷ []) (sym (same kind (codes "pc") parts.0))
    ∙ ap (λ w. kind ∷ w ∷ []) (number_once bit parts.1 (omega (arith, inside 0 31 (value_of bit) fits)))

pub target_once : (words : List (List ℕ)) (target : Target) → target_of words ≡ Some target → is_target target ≡ true → target_words target ≡ words
target_once [] target h is = absurd (cc)
target_once (kind ∷ []) target h is = absurd (cc)
target_once (kind ∷ bit ∷ []) target h is = pc_once kind bit target (bytes_eq kind (codes "pc") && is_number bit) refl h is
target_once (kind ∷ number ∷ bit ∷ []) target h is = place_once kind number bit target (is_number number && is_number bit) refl (bytes_eq kind (codes "reg")) refl (bytes_eq kind (codes "mem")) refl h is
  where
    place_once :
        (kind number bit : List ℕ) (target : Target)
        (n : Bool) → (is_number number && is_number bit) ≡ n
        → (r : Bool) → bytes_eq kind (codes "reg") ≡ r
        → (m : Bool) → bytes_eq kind (codes "mem") ≡ m
        → cond n (cond r (Some (Register (value_of number) (value_of bit))) (cond m (Some (Byte (value_of number) (value_of bit))) None)) None ≡ Some target
        → is_target target ≡ true → target_words target ≡ kind ∷ number ∷ bit ∷ []
    place_once kind number bit target false n r rt m mt h is = absurd (cc)
    place_once kind number bit target true n true r m mt h is =
        let both = and_parts (is_number number) (is_number bit) n in
        let e : Register (value_of number) (value_of bit) ≡ target = cc in
        let fits = and_parts (within 1 31 (value_of number)) (within 0 31 (value_of bit)) (ap is_target e ∙ is) in
        ap target_words (sym e)
        ∙ ap (λ k. k ∷ decimal (value_of number) ∷ decimal (value_of bit) ∷ []) (sym (same kind (codes "reg") r))
        ∙ ap (λ w. kind ∷ w ∷ decimal (value_of bit) ∷ []) (number_once number both.0 (omega (arith, inside 1 31 (value_of number) fits.0)))
        ∙ ap (λ w. kind ∷ number ∷ w ∷ []) (number_once bit both.1 (omega (arith, inside 0 31 (value_of bit) fits.1)))
    place_once kind number bit target true n false r true m h is =
        let both = and_parts (is_number number) (is_number bit) n in
        let e : Byte (value_of number) (value_of bit) ≡ target = cc in
        let fits = and_parts (within 0 (2 ^ 32 - 1) (value_of number)) (within 0 7 (value_of bit)) (ap is_target e ∙ is) in
        ap target_words (sym e)
        ∙ ap (λ k. k ∷ decimal (value_of number) ∷ decimal (value_of bit) ∷ []) (sym (same kind (codes "mem") m))
        ∙ ap (λ w. kind ∷ w ∷ decimal (value_of bit) ∷ []) (number_once number both.0 (omega (arith, inside 0 (2 ^ 32 - 1) (value_of number) fits.0)))
        ∙ ap (λ w. kind ∷ number ∷ w ∷ []) (number_once bit both.1 (omega (arith, inside 0 7 (value_of bit) fits.1)))
    place_once kind number bit target true n false r false m h is = absurd (cc)
target_once (a ∷ b ∷ c ∷ d ∷ words) target h is = absurd (cc)

abbrev made : (replica thread at : List ℕ) → Target → Fault
made replica thread at target = record { replica = value_of replica; thread = value_of thread; at = value_of at; target = target }

fields_once : (replicas : ℕ) (replica thread at : List ℕ) (target : List (List ℕ)) (fault : Fault) → replicas < 2 ^ 32
    → (n : Bool) → (is_number replica && is_number thread && is_number at) ≡ n
    → (t : Option Target) → target_of target ≡ t
    → cond n (option_map (λ x. record { replica = value_of replica; thread = value_of thread; at = value_of at; target = x }) t) None ≡ Some fault
    → is_fault replicas fault ≡ true → fault_words fault ≡ replica ∷ thread ∷ at ∷ target
fields_once replicas replica thread at target fault most false n t e h is = absurd (cc)
fields_once replicas replica thread at target fault most true n None e h is = absurd (cc)
fields_once replicas replica thread at target fault most true n (Some x) e h is =
    let f = made replica thread at x in
    let e' : f ≡ fault = cc in
    let fits : is_fault replicas f ≡ true = ap (is_fault replicas) e' ∙ is in
    let a = and_parts (is_target x && nat_lt (value_of replica) replicas && within 0 15 (value_of thread)) (within 0 (10 ^ 12) (value_of at)) fits in
    let b = and_parts (is_target x && nat_lt (value_of replica) replicas) (within 0 15 (value_of thread)) a.0 in
    let d = and_parts (is_target x) (nat_lt (value_of replica) replicas) b.0 in
    let numbers = and_parts (is_number replica && is_number thread) (is_number at) n in
    let two = and_parts (is_number replica) (is_number thread) numbers.0 in
    ap fault_words (sym e')
    ∙ ap (λ w. w ∷ decimal (value_of thread) ∷ decimal (value_of at) ∷ target_words x) (number_once replica two.0 (omega (arith, ltb-true (value_of replica) replicas d.1)))
    ∙ ap (λ w. replica ∷ w ∷ decimal (value_of at) ∷ target_words x) (number_once thread two.1 (omega (arith, inside 0 15 (value_of thread) b.1)))
    ∙ ap (λ w. replica ∷ thread ∷ w ∷ target_words x) (number_once at numbers.1 (omega (arith, inside 0 (10 ^ 12) (value_of at) a.1)))
    ∙ ap (λ ws. replica ∷ thread ∷ at ∷ ws) (target_once target x e d.0)

pub words_once : (replicas : ℕ) (words : List (List ℕ)) (fault : Fault) → replicas < 2 ^ 32 → fault_of words ≡ Some fault → is_fault replicas fault ≡ true → fault_words fault ≡ words
words_once replicas [] fault most h is = absurd (cc)
words_once replicas (a ∷ []) fault most h is = absurd (cc)
words_once replicas (a ∷ b ∷ []) fault most h is = absurd (cc)
words_once replicas (a ∷ b ∷ c ∷ target) fault most h is = fields_once replicas a b c target fault most (is_number a && is_number b && is_number c) refl (target_of target) refl h is

-- what has its form and its ranges
ranged_is : (replicas : ℕ) (read : Option Fault) (fault : Fault) → ranged (is_fault replicas) read ≡ Ok fault → (read ≡ Some fault) × (is_fault replicas fault ≡ true)
ranged_is replicas None fault h = absurd (cc)
ranged_is replicas (Some x) fault h = by (is_fault replicas x) refl h
  where
    by : (b : Bool) → is_fault replicas x ≡ b → cond b (Ok x) (Err Range) ≡ Ok fault → (Some x ≡ Some fault) × (is_fault replicas fault ≡ true)
    by true t h = let e : x ≡ fault = cc in (ap Some e, ap (is_fault replicas) (sym e) ∙ t)
    by false t h = absurd (cc)

-- the line of a fault that is read from it
line_once : (replicas : ℕ) (line : List ℕ) (fault : Fault) → replicas < 2 ^ 32 → line_fault replicas line ≡ Ok fault → (spaced (fault_words fault) ≡ line) × (is_fault replicas fault ≡ true)
line_once replicas line fault most h =
    let read = ranged_is replicas (fault_of (words_of line)) fault h in
    (ap spaced (words_once replicas (words_of line) fault most read.0 read.1) ∙ join_with_byte-slice_split 32 line, read.1)

counted_is : (line : ℕ) (read : Result Fault FaultsCode) (fault : Fault) → counted line read ≡ Ok fault → (line ≤ 256) × (read ≡ Ok fault)
counted_is line read fault h = by (nat_le line 256) refl h
  where
    by : (b : Bool) → nat_le line 256 ≡ b → cond b read (Err Count) ≡ Ok fault → (line ≤ 256) × (read ≡ Ok fault)
    by true t h = (leb-true line 256 t, h)
    by false t h = absurd (cc)

-- the faults are those of these parts of a text, from a line on
record Once (replicas line : ℕ) (parts : List (List ℕ)) (faults : List Fault) : Type 0 where
  text : faults_text faults ≡ join_with_byte 10 parts
  few : line + length faults ≤ 257
  fits : list_all (is_fault replicas) faults ≡ true

more_once : (replicas line : ℕ) (part next : List ℕ) (parts : List (List ℕ)) (faults : List Fault) → replicas < 2 ^ 32
    → (read : Result Fault FaultsCode) → counted line (line_fault replicas part) ≡ read
    → (rest : Result (List Fault) FaultsError)
    → ((others : List Fault) → rest ≡ Ok others → line + 1 ≤ 257 → Once replicas (line + 1) (next ∷ parts) others)
    → before (in_line line read) rest ≡ Ok faults → Once replicas line (part ∷ next ∷ parts) faults
more_once replicas line part next parts faults most (Err code) r rest once h = absurd (cc)
more_once replicas line part next parts faults most (Ok fault) r (Err error) once h = absurd (cc)
more_once replicas line part next parts faults most (Ok fault) r (Ok others) once h =
    let all : fault ∷ others ≡ faults = cc in
    let counts = counted_is line (line_fault replicas part) fault r in
    let here = line_once replicas part fault most counts.1 in
    let rest = once others refl (omega (arith, counts.0)) in
    subst (Once replicas line (part ∷ next ∷ parts)) all (record {
      text = ap (λ l. (l ++ codes "\n") ++ faults_text others) here.0 ∙ append_assoc part (codes "\n") (faults_text others) ∙ ap (λ l. part ++ 10 ∷ l) rest.text;
      few = omega (arith, rest.few);
      fits = and_from (is_fault replicas fault) (list_all (is_fault replicas) others) here.1 rest.fits;
    })

end_once : (replicas line : ℕ) (part : List ℕ) (faults : List Fault) → line ≤ 257 → end_faults line part ≡ Ok faults → Once replicas line (part ∷ []) faults
end_once replicas line [] faults low h = let none : [] ≡ faults = cc in subst (Once replicas line ([] ∷ [])) none (record { text = refl; few = omega arith; fits = refl })
end_once replicas line (byte ∷ bytes) faults low h = by (nat_le line 256) h
  where
    by : (b : Bool) → in_line line (cond b (Err Form) (Err Count)) ≡ Ok faults → Once replicas line ((byte ∷ bytes) ∷ []) faults
    by true h = absurd (cc)
    by false h = absurd (cc)

lines_once : (replicas line : ℕ) (parts : List (List ℕ)) (faults : List Fault) → replicas < 2 ^ 32 → 0 < length parts → line ≤ 257 → lines_faults replicas line parts ≡ Ok faults → Once replicas line parts faults
lines_once replicas line [] faults most some low h = absurd (omega (arith, some))
lines_once replicas line (part ∷ []) faults most some low h = end_once replicas line part faults low h
lines_once replicas line (part ∷ next ∷ parts) faults most some low h =
    more_once replicas line part next parts faults most (counted line (line_fault replicas part)) refl (lines_faults replicas (line + 1) (next ∷ parts))
    (λ others e early. lines_once replicas (line + 1) (next ∷ parts) others most (omega arith) early e) h

pub file_once : (replicas : ℕ) (bytes : List ℕ) (faults : List Fault) → replicas < 2 ^ 32 → file_faults replicas bytes ≡ Ok faults → (faults_text faults ≡ bytes) × (length faults ≤ 256) × (list_all (is_fault replicas) faults ≡ true)
file_once replicas bytes faults most h =
    let once = lines_once replicas 1 (parts_of bytes) faults most (omega (arith, length-slice_split (λ b. b == 10) bytes)) (omega arith) h in
    (once.text ∙ join_with_byte-slice_split 10 bytes, omega (arith, once.few), once.fits)
