-- What a verdict says of the views, and of the replicas that showed them.
use Rattle.std.proofs.Common.{◌≡◌, ◌≢◌, ℕ, zero, suc, ◌+◌, ◌<◌, ◌≤◌, Bool, true, false, true≢false, cond, ◌&&◌, List, [], ◌∷◌, length, Option, Some, None, refl, sym, ap, ◌∙◌, subst, arith}
use Rattle.std.specs.Prelude.{is_some, slice_get, ◌%◌, ◌==◌}
use Rattle.std.specs.List.{list_all}
use Rattle.std.specs.Option.{option_map, option_and_then}
use Rattle.std.proofs.lemmas.Bool.{and_parts, and_from}
use Rattle.std.proofs.lemmas.Option.{slice_get_within}
use Rattle.ro_event.specs.declared.calls.Call.{Call}
use Rattle.ro_event.specs.declared.stops.Stop.{Stop}
use Rattle.ro_event.specs.declared.stops.Stop.TheVariants.{Calls, Trap, PageFault, Watchdog}
use Rattle.ro_event.specs.Views.{View, same_view}
use Rattle.ro_event.proofs.Same.{view-true}
use Rattle.ro_region.specs.declared.Range.{Range}
use Rattle.ro_pages.specs.Bytes.{Memory, bytes_at, Span}
use Rattle.ro_kernel.specs.Serve.{capped, is_write, is_good_write, payload_of, payload_span, is_atomic}
use Rattle.ro_kernel.specs.Kernel.{ranges_in}
use Rattle.ro_thread.specs.declared.Thread.{Thread}
use Rattle.ro_vote.specs.Verdict.{verdict_of, Won, differing_from}
use Rattle.ro_vote.specs.Numbers.{is_among}
use Rattle.ro_vote.proofs.Verdicts.{WonBy, won-by, loses-at, loser-within, winner-stays}
use Rattle.ro_replica.specs.Replica.{Replica, stop_of}
use Rattle.ro_replica.specs.Views.{payload_at, view_with, view_of}
use Rattle.ro_plain.specs.Machine.{setup_of}
use Rattle.ro_plain.proofs.Calls.{some-injective}
use Rattle.ro_legal.specs.Core.{Job, Core, views_of}
use Rattle.ro_legal.specs.Event.{event_of}
use Rattle.ro_legal.specs.Legal.{event_with, event_in, since_in}
use Rattle.ro_legal.proofs.Lists.{get-within, get-filter-map, length-filter-map}

-- ---- the verdict

-- the winner and the losers are among the views
pub record WonIn (views : List View) (won : ℕ) (lost : List ℕ) : Type 0 where
  pub within : won < length views
  pub lost_within : (l : ℕ) → is_among lost l ≡ true → (l < length views) × (won ≢ l)

pub won-in : (views : List View) (won : ℕ) (lost : List ℕ) → verdict_of views ≡ Won won lost → WonIn views won lost
won-in views won lost e = record {
  within = let w = won-by views won lost e in slice_get_within views won w.view w.there;
  lost_within = λ l among. (loser-within views won lost e l among, λ (same : won ≡ l). true≢false (sym among ∙ (ap (is_among lost) (sym same) ∙ winner-stays views won lost e)));
}

-- the winner's view is that of the majority
pub won-view : (views : List View) (won : ℕ) (lost : List ℕ) (view : View) (w : WonBy views won lost) → slice_get views won ≡ Some view → w.view ≡ view
won-view views won lost view w e = some-injective (sym w.there ∙ e)

-- a view that didn't lose is the winner's
pub same-as-won : (views : List View) (won : ℕ) (lost : List ℕ) (w : WonBy views won lost) (number : ℕ) (view : View) → is_among lost number ≡ false → slice_get views number ≡ Some view → w.view ≡ view
same-as-won views won lost w number view stays there = by (same_view w.view view) refl
  where
    by : (b : Bool) → same_view w.view view ≡ b → w.view ≡ view
    by true same = view-true w.view view same
    by false other =
        let loses : is_among (differing_from w.view 0 views) (0 + number) ≡ true = loses-at w.view 0 views number view there other in
        absurd (true≢false (sym loses ∙ ap (is_among (differing_from w.view 0 views)) (let z : 0 + number ≡ number = omega arith in z) ∙ ap (λ (l : List ℕ). is_among l number) w.losers ∙ stays))

-- ---- views and replicas

-- a replica whose thread stands still, and its view
pub record ShownBy (ranges : List Range) (thread : ℕ) (replica : Replica) (view : View) : Type 0 where
  pub its : Thread
  pub at : slice_get replica.threads thread ≡ Some its
  pub stop_is : its.stop ≡ Some view.stop
  pub since_is : its.since ≡ view.since
  pub payload_is : payload_at ranges replica.memory view.stop ≡ view.payload

shown-by : (ranges : List Range) (thread : ℕ) (replica : Replica) (view : View) → view_of ranges thread replica ≡ Some view → ShownBy ranges thread replica view
shown-by ranges thread replica view e = by (slice_get replica.threads thread) refl e
  where
    stopped : (its : Thread) → slice_get replica.threads thread ≡ Some its → (o : Option Stop) → its.stop ≡ o → option_map (view_with ranges replica its) o ≡ Some view → ShownBy ranges thread replica view
    stopped its f None g k = absurd (let x : None ≡ Some view = k in cc)
    stopped its f (Some stop) g k =
        let same : view_with ranges replica its stop ≡ view = some-injective k in
        record {
          its = its;
          at = f;
          stop_is = g ∙ ap (λ (v : View). Some v.stop) same;
          since_is = ap (λ (v : View). v.since) same;
          payload_is = ap (payload_at ranges replica.memory) (sym (ap (λ (v : View). v.stop) same)) ∙ ap (λ (v : View). v.payload) same;
        }

    by : (o : Option Thread) → slice_get replica.threads thread ≡ o → option_and_then (λ t. option_map (view_with ranges replica t) t.stop) o ≡ Some view → ShownBy ranges thread replica view
    by None f g = absurd (let x : None ≡ Some view = g in cc)
    by (Some its) f g = stopped its f its.stop refl g

-- a view is there where a stop is
same-some : (ranges : List Range) (thread : ℕ) (replica : Replica) → is_some (stop_of replica thread) ≡ is_some (view_of ranges thread replica)
same-some ranges thread replica = by (slice_get replica.threads thread)
  where
    stopped : (its : Thread) (o : Option Stop) → is_some o ≡ is_some (option_map (view_with ranges replica its) o)
    stopped its None = refl
    stopped its (Some stop) = refl

    by : (o : Option Thread) → is_some (option_and_then (λ (t : Thread). t.stop) o) ≡ is_some (option_and_then (λ (t : Thread). option_map (view_with ranges replica t) t.stop) o)
    by None = refl
    by (Some its) = stopped its its.stop

all-viewed : (ranges : List Range) (thread : ℕ) (replicas : List Replica) → list_all (λ replica. is_some (stop_of replica thread)) replicas ≡ true → list_all (λ replica. is_some (view_of ranges thread replica)) replicas ≡ true
all-viewed ranges thread [] e = refl
all-viewed ranges thread (r ∷ replicas) e =
    let p = and_parts _ _ e in and_from _ _ (sym (same-some ranges thread r) ∙ p.0) (all-viewed ranges thread replicas p.1)

-- the views of all, one for each replica
pub views-count : (job : Job) (core : Core) (thread : ℕ) → list_all (λ replica. is_some (stop_of replica thread)) core.replicas ≡ true → length (views_of job core thread) ≡ length core.replicas
views-count job core thread all = length-filter-map (view_of (ranges_in (setup_of job.program) core.kernel) thread) core.replicas (all-viewed (ranges_in (setup_of job.program) core.kernel) thread core.replicas all)

-- the replica of a view
pub record Showing (job : Job) (core : Core) (thread number : ℕ) (view : View) : Type 0 where
  pub replica : Replica
  pub there : slice_get core.replicas number ≡ Some replica
  pub shown : ShownBy (ranges_in (setup_of job.program) core.kernel) thread replica view

pub showing : (job : Job) (core : Core) (thread number : ℕ) (view : View) → list_all (λ replica. is_some (stop_of replica thread)) core.replicas ≡ true → number < length core.replicas → slice_get (views_of job core thread) number ≡ Some view → Showing job core thread number view
showing job core thread number view all less e =
    let r = get-within core.replicas number less in
    let v = get-filter-map (view_of (ranges_in (setup_of job.program) core.kernel) thread) core.replicas (all-viewed (ranges_in (setup_of job.program) core.kernel) thread core.replicas all) number r.0 r.1 in
    record { replica = r.0; there = r.1; shown = shown-by (ranges_in (setup_of job.program) core.kernel) thread r.0 view (sym v ∙ e) }

-- the event that it comes to, and its count
pub showing-event : (job : Job) (core : Core) (thread won : ℕ) (view : View) → Showing job core thread won view → event_in job core thread won ≡ Some (event_of (setup_of job.program) core.kernel thread view.stop view.payload)
showing-event job core thread won view s =
    ap (option_and_then (λ winner. option_map (event_with job core thread winner) (stop_of winner thread))) s.there
    ∙ ap (option_map (event_with job core thread s.replica)) (ap (option_and_then (λ (t : Thread). t.stop)) s.shown.at ∙ s.shown.stop_is)
    ∙ ap (λ (payload : List ℕ). Some (event_of (setup_of job.program) core.kernel thread view.stop payload)) s.shown.payload_is

pub showing-since : (job : Job) (core : Core) (thread won : ℕ) (view : View) → Showing job core thread won view → since_in core thread won ≡ Some view.since
showing-since job core thread won view s =
    ap (option_and_then (λ (replica : Replica). option_map (λ (t : Thread). t.since) (slice_get replica.threads thread))) s.there
    ∙ ap (option_map (λ (t : Thread). t.since)) s.shown.at ∙ ap (λ (n : ℕ). Some n) s.shown.since_is

-- ---- payloads are short

length-bytes : (memory : Memory) (place count : ℕ) → length (bytes_at memory place count) ≡ count
length-bytes memory place zero = refl
length-bytes memory place (suc n) = ap suc (length-bytes memory (place + 1) n)

-- a stretch of at most 4,096 bytes
abbrev IsShort : Span → Type 0
IsShort span = span.count ≤ 4096

span-few : (w a : Bool) (call : Call) → IsShort (cond w (record { place = call.a1; count = capped call.a2 }) (cond a (record { place = call.a0; count = 4 }) (record { place = 0; count = 0 })))
span-few true a call = omega arith
span-few false true call = omega arith
span-few false false call = omega arith

short-payload : (ranges : List Range) (memory : Memory) (call : Call) → length (payload_of ranges memory call) ≤ 4096
unfolding payload_of
short-payload ranges memory call =
    let e = length-bytes memory (payload_span ranges call).place (payload_span ranges call).count in
    let few = span-few (is_write call.which && is_good_write ranges call) (is_atomic call.which && (call.a0 % 4 == 0)) call in
    omega arith

short-at : (ranges : List Range) (memory : Memory) (stop : Stop) → length (payload_at ranges memory stop) ≤ 4096
short-at ranges memory (Calls call) = short-payload ranges memory call
short-at ranges memory (Trap code) = omega arith
short-at ranges memory (PageFault page) = omega arith
short-at ranges memory Watchdog = omega arith

pub showing-short : (job : Job) (core : Core) (thread won : ℕ) (view : View) → Showing job core thread won view → length view.payload ≤ 4096
showing-short job core thread won view s = subst (λ (xs : List ℕ). length xs ≤ 4096) s.shown.payload_is (short-at (ranges_in (setup_of job.program) core.kernel) s.replica.memory view.stop)
