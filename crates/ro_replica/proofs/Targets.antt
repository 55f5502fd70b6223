-- A strike at each kind of target.
use Rattle.std.specs.Prelude.{◌≡◌, ℕ, ◌+◌, ◌<◌, ◌≤◌, ◌^◌, ◌%◌, ◌-◌, ◌/◌, Bool, true, ◌&&◌, List, [], ◌∷◌, length, nat_le, if◌then◌else◌, slice_set, slice_index_or, Option, bit_xor}
use Rattle.ro_event.specs.declared.stops.Stop.{Stop}
use Rattle.std.proofs.Common.{refl, sym, ap, ◌∙◌, subst, arith}
use Rattle.std.proofs.lemmas.Bool.{and_parts, and_from, leb-true}
use Rattle.std.proofs.lemmas.Nat.{xor_of_8, pow_below}
use Rattle.std.proofs.lemmas.Option.{slice_get_read}
use Rattle.ro_region.specs.Permission.{lies_in_range}
use Rattle.ro_pages.specs.Bytes.{Memory, stored, page_of}
use Rattle.ro_pages.specs.Held.{memory_of, has_page}
use Rattle.ro_exec.specs.declared.Cpu.{Cpu}
use Rattle.ro_exec.specs.Registers.{register, with_register}
use Rattle.ro_exec.specs.Next.{Backed}
use Rattle.ro_thread.specs.declared.Thread.{Thread}
use Rattle.ro_faults.specs.declared.Target.{Target}
use Rattle.ro_faults.specs.declared.Target.TheVariants.{Register, Pc, Byte}
use Rattle.ro_text.specs.Numbers.{within}
use Rattle.ro_faults.specs.Flips.{flipped}
use Rattle.ro_faults.specs.Texts.{is_target}
use Rattle.ro_replica.specs.Replica.{changed_at}
use Rattle.ro_replica.specs.Runs.{with_cpu, with_stop, struck_by}
use Rattle.ro_replica.specs.Seen.{ReplicaOf, replica_of}
use Rattle.ro_replica.proofs.Elements.{changed_is_set}

-- the thread with other registers, in its place
cpu_set : (f : Cpu → Cpu) (threads : List Thread) (number : ℕ) (x : Thread) (cpu : Cpu) → number < length threads → x ≡ slice_index_or threads number x → cpu ≡ f x.cpu → slice_set threads number (record x { cpu = cpu }) ≡ changed_at (with_cpu f) threads number
cpu_set f threads number x cpu within read is =
    ap (λ (c : Cpu). slice_set threads number (record x { cpu = c })) is
    ∙ sym (changed_is_set (with_cpu f) threads number x (slice_get_read threads (length threads) number x refl within read))

pub register_struck : (value old : ReplicaOf) (thread number bit : ℕ) (x : Thread) (cpu : Cpu) (target : Target) → value ≡ old → thread < length old.threads → x ≡ slice_index_or value.threads thread x
    → cpu ≡ record x.cpu { registers = with_register x.cpu.registers number (flipped (register x.cpu number) bit) } → target ≡ Register number bit
    → record (replica_of value) { threads = slice_set value.threads thread (record x { cpu = cpu }) } ≡ struck_by old.layout.ranges thread (replica_of old) target
register_struck value old thread number bit x cpu target same within read is at =
    let inside : thread < length value.threads = subst (λ (v : ReplicaOf). thread < length v.threads) (sym same) within in
    ap (λ (threads : List Thread). record (replica_of value) { threads = threads }) (cpu_set (λ cpu. record cpu { registers = with_register cpu.registers number (flipped (register cpu number) bit) }) value.threads thread x cpu inside read is)
    ∙ ap (λ (v : ReplicaOf). struck_by v.layout.ranges thread (replica_of v) (Register number bit)) same
    ∙ ap (struck_by old.layout.ranges thread (replica_of old)) (sym at)

pub pc_struck : (value old : ReplicaOf) (thread bit : ℕ) (x : Thread) (cpu : Cpu) (target : Target) → value ≡ old → thread < length old.threads → x ≡ slice_index_or value.threads thread x
    → cpu ≡ record x.cpu { pc = flipped x.cpu.pc bit } → target ≡ Pc bit
    → record (replica_of value) { threads = slice_set value.threads thread (record x { cpu = cpu }) } ≡ struck_by old.layout.ranges thread (replica_of old) target
pc_struck value old thread bit x cpu target same within read is at =
    let inside : thread < length value.threads = subst (λ (v : ReplicaOf). thread < length v.threads) (sym same) within in
    ap (λ (threads : List Thread). record (replica_of value) { threads = threads }) (cpu_set (λ cpu. record cpu { pc = flipped cpu.pc bit }) value.threads thread x cpu inside read is)
    ∙ ap (λ (v : ReplicaOf). struck_by v.layout.ranges thread (replica_of v) (Pc bit)) same
    ∙ ap (struck_by old.layout.ranges thread (replica_of old)) (sym at)

-- a bit of a byte
byte_flips : (byte bit : ℕ) → byte < 256 → bit ≤ 7 → flipped byte bit % 256 ≡ flipped byte bit
byte_flips byte bit small few =
    let power : 2 ^ bit < 2 ^ 8 = pow_below bit 8 (omega arith) in
    let below : bit_xor byte (2 ^ bit) < 2 ^ 8 = xor_of_8 byte (2 ^ bit) small power in
    omega arith

pub byte_struck : (value old : ReplicaOf) (thread address bit byte flip : ℕ) (memory : Memory) (backed : Backed) (target : Target) → value ≡ old → is_target target ≡ true → target ≡ Byte address bit
    → has_page value.held.pages (address / 4096) ≡ true → lies_in_range value.layout.ranges address ≡ true → byte ≡ memory_of value.held.pages address + 0 → byte < 256 → flip ≡ flipped byte bit
    → memory ≡ stored (memory_of value.held.pages) address (flip % 256 ∷ []) → backed ≡ has_page value.held.pages
    → record (replica_of value) { memory = memory; backed = backed } ≡ struck_by old.layout.ranges thread (replica_of old) target
byte_struck value old thread address bit byte flip memory backed target same good at has maps read small flips stores pages =
    let bytes : Memory = memory_of value.held.pages in
    let here : byte ≡ bytes address = omega arith in
    let tests : is_target (Byte address bit) ≡ true = subst (λ (t : Target). is_target t ≡ true) at good in
    let seven : bit ≤ 7 = leb-true bit 7 (and_parts (nat_le 0 bit) (nat_le bit 7) (and_parts (within 0 (2 ^ 32 - 1) address) (within 0 7 bit) tests).1).1 in
    let value_is : flip % 256 ≡ flipped (bytes address) bit =
    ap (λ (n : ℕ). n % 256) flips ∙ byte_flips byte bit small seven ∙ ap (λ (n : ℕ). flipped n bit) here in
    let stored_is : memory ≡ stored bytes address (flipped (bytes address) bit ∷ []) = stores ∙ ap (λ (n : ℕ). stored bytes address (n ∷ [])) value_is in
    let test : (has_page value.held.pages (page_of address) && lies_in_range value.layout.ranges address) ≡ true = and_from (has_page value.held.pages (page_of address)) (lies_in_range value.layout.ranges address) has maps in
    ap (λ (m : Memory). record (replica_of value) { memory = m; backed = backed }) stored_is
    ∙ ap (λ (b : Backed). record (replica_of value) { memory = stored bytes address (flipped (bytes address) bit ∷ []); backed = b }) pages
    ∙ ap (λ (t : Bool). record (replica_of value) { memory = if t then stored bytes address (flipped (bytes address) bit ∷ []) else bytes }) (sym test)
    ∙ ap (λ (v : ReplicaOf). struck_by v.layout.ranges thread (replica_of v) (Byte address bit)) same
    ∙ ap (struck_by old.layout.ranges thread (replica_of old)) (sym at)

-- a stop is written
pub stop_set : (value old : ReplicaOf) (thread : ℕ) (x : Thread) (stop : Option Stop) → value ≡ old → thread < length old.threads → x ≡ slice_index_or value.threads thread x
    → record (replica_of value) { threads = slice_set value.threads thread (record x { stop = stop }) } ≡ record (replica_of old) { threads = changed_at (with_stop stop) old.threads thread }
stop_set value old thread x stop same within read =
    let inside : thread < length value.threads = subst (λ (v : ReplicaOf). thread < length v.threads) (sym same) within in
    ap (λ (threads : List Thread). record (replica_of value) { threads = threads }) (sym (changed_is_set (with_stop stop) value.threads thread x (slice_get_read value.threads (length value.threads) thread x refl inside read)))
    ∙ ap (λ (v : ReplicaOf). record (replica_of v) { threads = changed_at (with_stop stop) v.threads thread }) same
