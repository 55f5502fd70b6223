-- A replica with the pages of a lease back in their places.
use Rattle.std.specs.Prelude.{◌≡◌, ℕ, ◌%◌, Bool, true, false, cond, List, Option, slice_set}
use Rattle.std.proofs.Common.{refl, sym, ap, ap₂, ◌∙◌}
use mathlib.Core.Path.{fun_ext}
use Rattle.std.specs.Ordering.{nat_cmp}
use Rattle.std.specs.FinMap.{FinMap}
use Rattle.ro_event.specs.declared.stops.Stop.{Stop}
use Rattle.ro_faults.specs.declared.Fault.{Fault}
use Rattle.ro_pages.specs.Bytes.{Memory, page_of}
use Rattle.ro_pages.specs.Held.{byte_in, memory_of, has_page, AllBack}
use Rattle.ro_exec.specs.Next.{Backed}
use Rattle.ro_exec.specs.Parts.{with_part}
use Rattle.ro_thread.specs.declared.Thread.{Thread}
use Rattle.ro_replica.specs.Runs.{with_stop}
use Rattle.ro_replica.specs.Seen.{ReplicaOf, replica_of}
use Rattle.ro_replica.specs.Lent.{LaneOf, put_back}

-- the bytes of these pages are the lease's, and all others stay
pub memory-back : (few home after : FinMap nat_cmp (List ℕ)) → AllBack few home after → memory_of after ≡ with_part (has_page few) (memory_of few) (memory_of home)
memory-back few home after h = fun_ext (λ a. by a (has_page few (page_of a)) refl)
  where
    by : (a : ℕ) (b : Bool) → has_page few (page_of a) ≡ b → memory_of after a ≡ cond (has_page few (page_of a)) (memory_of few a) (memory_of home a)
    by a true e = ap (λ (o : Option (List ℕ)). byte_in o (a % 4096)) (h.back (page_of a) e) ∙ sym (ap (λ (b : Bool). cond b (memory_of few a) (memory_of home a)) e)
    by a false e = ap (λ (o : Option (List ℕ)). byte_in o (a % 4096)) (h.kept (page_of a) e) ∙ sym (ap (λ (b : Bool). cond b (memory_of few a) (memory_of home a)) e)

-- the whole replica
pub replica-back : (thread : ℕ) (few home after : FinMap nat_cmp (List ℕ)) (end : Thread) (stop : Option Stop) (threads : List Thread) (waiting : List Fault) → AllBack few home after → has_page after ≡ has_page home
    → record { memory = memory_of after; backed = has_page after; threads = slice_set threads thread (with_stop stop end); waiting = waiting }
    ≡ put_back thread (has_page few) (memory_of few) end stop (record { memory = memory_of home; backed = has_page home; threads = threads; waiting = waiting })
replica-back thread few home after end stop threads waiting h same =
    ap₂ (λ (m : Memory) (b : Backed). record { memory = m; backed = b; threads = slice_set threads thread (with_stop stop end); waiting = waiting }) (memory-back few home after h) same

-- the same of a replica and a lane that are seen by other names
pub comes-back : (value old : ReplicaOf) (view lane : LaneOf) (thread : ℕ) (pages : FinMap nat_cmp (List ℕ)) (stop : Option Stop) → value ≡ old → view ≡ lane → AllBack view.held.pages value.held.pages pages → has_page pages ≡ has_page value.held.pages
    → record { memory = memory_of pages; backed = has_page pages; threads = slice_set value.threads thread (with_stop stop view.thread); waiting = value.waiting }
    ≡ put_back thread (has_page lane.held.pages) (memory_of lane.held.pages) lane.thread stop (replica_of old)
comes-back value old view lane thread pages stop same same_lane h backed =
    replica-back thread view.held.pages value.held.pages pages view.thread stop value.threads value.waiting h backed
    ∙ ap₂ (λ (v : ReplicaOf) (l : LaneOf). put_back thread (has_page l.held.pages) (memory_of l.held.pages) l.thread stop (replica_of v)) same same_lane
