-- What is lent of a replica is of the replica as it was, and no matter what stands in the places of what has left.
use Rattle.std.specs.Prelude.{◌≡◌, ℕ, ◌+◌, ◌<◌, ◌≤◌, ◌%◌, Bool, true, false, ◌&&◌, cond, List, [], ◌++◌, length, Option, Some, None, is_none, slice_get, slice_set}
use Rattle.std.specs.List.{filter}
use Rattle.std.specs.Option.{option_map_or}
use Rattle.std.proofs.Common.{refl, sym, ap, ap₂, ◌∙◌, subst}
use Rattle.std.proofs.lemmas.Bool.{true≢false}
use Rattle.std.proofs.lemmas.List.{append_cancel_left}
use Rattle.std.proofs.lemmas.Option.{slice_get_within}
use mathlib.Core.Path.{fun_ext}
use Rattle.std.specs.Ordering.{nat_cmp}
use Rattle.std.specs.FinMap.{FinMap}
use Rattle.ro_event.specs.declared.stops.Stop.{Stop}
use Rattle.ro_faults.specs.declared.Fault.{Fault}
use Rattle.ro_region.specs.declared.Range.{Range}
use Rattle.ro_region.specs.Permission.{is_writable}
use Rattle.ro_pages.specs.Bytes.{Memory, page_of}
use Rattle.ro_pages.specs.Directories.{is_listed}
use Rattle.ro_pages.specs.Held.{byte_in, memory_of, has_page}
use Rattle.ro_exec.specs.Next.{Backed}
use Rattle.ro_exec.specs.Parts.{SameIn, SameBeside, IsMore, with_part}
use Rattle.ro_thread.specs.declared.Thread.{Thread}
use Rattle.ro_replica.specs.Replica.{Replica}
use Rattle.ro_replica.specs.Runs.{is_due, with_stop}
use Rattle.ro_replica.specs.Lent.{AreLent, LentIn, put_back}
use Rattle.ro_replica.proofs.Elements.{set_itself}

-- both have the same ranges from the opening on
pub same-first : (given first has : List Range) (whole own : List Range) → given ++ first ≡ whole → given ≡ own → whole ≡ own ++ has → first ≡ has
same-first given first has whole own is mine theirs = append_cancel_left given first has (is ∙ theirs ∙ ap (λ (g : List Range). g ++ has) (sym mine))

module _ (ranges : List Range) (wished : ℕ → Bool) (home now few : FinMap nat_cmp (List ℕ)) (moved : List ℕ) (so : AreLent ranges wished home now few moved) where
  pub their-pages : IsMore (has_page few) (has_page home)
  their-pages = record { keeps = λ page has. second (wished page) (has_page home page) (sym (so.just page) ∙ has) }
    where
      second : (a b : Bool) → (a && b) ≡ true → b ≡ true
      second true b h = h
      second false b h = absurd (true≢false (sym h))

  pub their-bytes : SameIn (has_page few) (memory_of few) (memory_of home)
  their-bytes = record { same = λ a has. ap (λ (o : Option (List ℕ)). byte_in o (a % 4096)) (so.bytes (page_of a) has) }

  pub beside-moved : SameBeside (is_listed moved) (memory_of now) (memory_of home)
  beside-moved = record { same = λ a none. ap (λ (o : Option (List ℕ)). byte_in o (a % 4096)) (so.stay (page_of a) none) }

  -- the bytes that come back lie over all that has left
  pub part-over : (after : Memory) → with_part (has_page few) after (memory_of now) ≡ with_part (has_page few) after (memory_of home)
  part-over after = fun_ext (λ a. by a (has_page few (page_of a)) refl)
    where
      by : (a : ℕ) (b : Bool) → has_page few (page_of a) ≡ b → cond (has_page few (page_of a)) (after a) (memory_of now a) ≡ cond (has_page few (page_of a)) (after a) (memory_of home a)
      by a true e = ap (λ (b : Bool). cond b (after a) (memory_of now a)) e ∙ sym (ap (λ (b : Bool). cond b (after a) (memory_of home a)) e)
      by a false e =
          let stays : memory_of now a ≡ memory_of home a = beside-moved.same a (so.left (page_of a) ∙ ap (λ (b : Bool). b && is_writable ranges (page_of a)) e) in
          ap (λ (n : ℕ). cond (has_page few (page_of a)) (after a) n) stays

  -- and where they are as they were lent they change nothing
  pub part-same : with_part (has_page few) (memory_of few) (memory_of home) ≡ memory_of home
  part-same = fun_ext (λ a. by a (has_page few (page_of a)) refl)
    where
      by : (a : ℕ) (b : Bool) → has_page few (page_of a) ≡ b → cond (has_page few (page_of a)) (memory_of few a) (memory_of home a) ≡ memory_of home a
      by a true e = ap (λ (b : Bool). cond b (memory_of few a) (memory_of home a)) e ∙ their-bytes.same a e
      by a false e = ap (λ (b : Bool). cond b (memory_of few a) (memory_of home a)) e

  module _ (thread : ℕ) (backed : Backed) (threads : List Thread) (waiting : List Fault) where
    abbrev pub with_memory : Memory → Replica
    with_memory memory = record { memory = memory; backed = backed; threads = threads; waiting = waiting }

    pub back-over : (after : Memory) (end : Thread) (stop : Option Stop) → put_back thread (has_page few) after end stop (with_memory (memory_of now)) ≡ put_back thread (has_page few) after end stop (with_memory (memory_of home))
    back-over after end stop = ap (λ (m : Memory). record { memory = m; backed = backed; threads = slice_set threads thread (with_stop stop end); waiting = waiting }) (part-over after)

    pub back-at-once : (begun : Thread) → slice_get threads thread ≡ Some begun → begun.stop ≡ None → put_back thread (has_page few) (memory_of few) begun None (with_memory (memory_of now)) ≡ with_memory (memory_of home)
    back-at-once begun there going =
        back-over (memory_of few) begun None
        ∙ ap₂ (λ (m : Memory) (ts : List Thread). record { memory = m; backed = backed; threads = ts; waiting = waiting }) part-same
        (ap (slice_set threads thread) (still begun going) ∙ set_itself threads thread begun there)
      where
        still : (t : Thread) → t.stop ≡ None → with_stop None t ≡ t
        still t h = ap (λ (s : Option Stop). record { cpu = t.cpu; since = t.since; done = t.done; stop = s }) (sym h)

    pub lent-in : (count : ℕ) (begun : Thread) → slice_get threads thread ≡ Some begun → has_page home ≡ backed → ((k : ℕ) → k ≤ count → filter (is_due thread (begun.done + k)) waiting ≡ [])
        → LentIn (has_page few) thread count (memory_of few) begun (with_memory (memory_of home))
    lent-in count begun there same calm = record {
      there = there;
      backed = subst (λ (b : Backed). IsMore (has_page few) b) same their-pages;
      same = their-bytes;
      calm = calm;
    }

-- a thread that is not stopped
pub no-stop : (threads : List Thread) (thread : ℕ) (begun : Thread) → option_map_or (λ t. is_none t.stop) (slice_get threads thread) false ≡ true → slice_get threads thread ≡ Some begun → begun.stop ≡ None
no-stop threads thread begun going there = none begun.stop (sym (ap (λ (o : Option Thread). option_map_or (λ t. is_none t.stop) o false) there) ∙ going)
  where
    none : (o : Option Stop) → is_none o ≡ true → o ≡ None
    none None h = refl
    none (Some x) h = absurd (true≢false (sym h))

pub unstopped-there : (threads : List Thread) (thread : ℕ) → option_map_or (λ t. is_none t.stop) (slice_get threads thread) false ≡ true → thread < length threads
unstopped-there threads thread going = by (slice_get threads thread) refl going
  where
    by : (o : Option Thread) → slice_get threads thread ≡ o → option_map_or (λ t. is_none t.stop) o false ≡ true → thread < length threads
    by None e h = absurd (true≢false (sym h))
    by (Some t) e h = slice_get_within threads thread t e
