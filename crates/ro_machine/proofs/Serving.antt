-- A call that was served, by the kernel's effect.
use Rattle.std.specs.Prelude.{◌≡◌, ℕ, zero, suc, ◌+◌, ◌<◌, ◌≤◌, ◌^◌, ◌++◌, true, List, [], ◌∷◌, length, Option, Some, None, IfSome, Ok, slice_get, slice_set}
use Rattle.std.proofs.Common.{refl, sym, ap, ◌∙◌, subst, arith, length-append}
use Rattle.std.proofs.lemmas.Bool.{false≢true}
use Rattle.std.proofs.lemmas.List.{length-set}
use Rattle.ro_event.specs.declared.calls.Call.{Call}
use Rattle.ro_event.specs.declared.effects.Made.{Made}
use Rattle.ro_event.specs.Effects.{Effect}
use Rattle.ro_journal.specs.declared.How.{How}
use Rattle.ro_region.specs.declared.Kind.TheVariants.{Write}
use Rattle.ro_pages.specs.Bytes.{stored}
use Rattle.ro_pages.specs.Held.{Held, memory_of}
use Rattle.ro_exec.specs.declared.Cpu.{Cpu}
use Rattle.ro_exec.specs.Threads.{cpu_after}
use Rattle.ro_kernel.specs.declared.Life.{Life}
use Rattle.ro_kernel.specs.Kernel.{Kernel, lives_on, live_option, ranges_in}
use Rattle.ro_kernel.specs.State.{State}
use Rattle.ro_kernel.specs.Serve.{Done as DoneWith, serve}
use Rattle.ro_kernel.specs.Served.{IsServe}
use Rattle.ro_kernel.specs.declared.outcome.Served.{Served}
use Rattle.ro_kernel.specs.declared.outcome.Served.TheVariants.{Done, Parked, Ends}
use Rattle.ro_kernel.proofs.Kept.{IsOwn, Own, done as own_done, serve-own}
use Rattle.ro_kernel.proofs.Stores.{stores-permitted}
use Rattle.ro_kernel.proofs.Payloads.{permitted_ends}
use Rattle.ro_plain.specs.Machine.{with_made, called}
use Rattle.ro_machine.specs.Seen.{machine_with}
use Rattle.ro_kernel.proofs.Fits.{made_count, fit-effect, fit-ended, fit-parked}

-- a thread that lives was made
pub lives-made : (lives : List Life) (t : ℕ) → live_option (slice_get lives t) ≡ true → t < length lives
lives-made [] t h = absurd (false≢true h)
lives-made (x ∷ lives) zero h = omega arith
lives-made (x ∷ lives) (suc t) h = let l : t < length lives = lives-made lives t h in omega arith

-- what is known of an effect that was served, where so many threads were made
pub record IsKnown (state after : State) (thread n : ℕ) (call : Call) (effect : Effect) : Type 0 where
  pub outcome : serve state.setup state.kernel thread call ≡ DoneWith after.kernel effect
  pub setup : after.setup ≡ state.setup
  pub thread_is : effect.thread ≡ thread
  pub made : effect.thread < n
  pub creator : IfSome effect.made (λ made. (made.creator < n) × (n < 16))
  pub few : length effect.bytes ≤ 4096
  pub within : effect.place + length effect.bytes ≤ 2 ^ 32
  pub page : IfSome effect.page (λ page. page < 2 ^ 20)
  pub lives : length after.kernel.lives ≡ n + made_count effect.made

own : (before : Kernel) (u : ℕ) (after : Kernel) (effect : Effect) → Own before u (DoneWith after effect) → IsOwn before u after effect
own before u after effect (own_done h) = h

creator-by : (o : Option Made) (n k u : ℕ) → k ≡ n → u < n → ((made : Made) → o ≡ Some made → made.creator ≡ u) → IfSome o (λ made. k < 16) → IfSome o (λ made. (made.creator < n) × (n < 16))
creator-by None n k u same less is few = tt
creator-by (Some made) n k u same less is few = let e : made.creator ≡ u = is made refl in (omega arith, omega arith)

pub known : (state after : State) (thread n : ℕ) (call : Call) (served : Served) (effect : Effect) → lives_on state.kernel thread ≡ true → n ≡ length state.kernel.lives → served ≡ Done effect → IsServe (serve state.setup state.kernel thread call) state after (Ok served) → IsKnown state after thread n call effect
known state after thread n call served effect live count is h =
    let brings : IsServe (serve state.setup state.kernel thread call) state after (Ok (Done effect)) = subst (λ (s : Served). IsServe (serve state.setup state.kernel thread call) state after (Ok s)) is h in
    let e : serve state.setup state.kernel thread call ≡ DoneWith after.kernel effect = brings.0 in
    let fit = fit-effect state.setup state.kernel thread call after.kernel effect e in
    let its = own state.kernel thread after.kernel effect (subst (Own state.kernel thread) e (serve-own state.setup state.kernel thread call)) in
    let made : thread < length state.kernel.lives = lives-made state.kernel.lives thread live in
    let owner : effect.thread ≡ thread = its.thread_is in
    record {
      outcome = e;
      setup = brings.1;
      thread_is = owner;
      made = omega arith;
      creator = creator-by effect.made n (length state.kernel.lives) thread (sym count) (omega arith) its.creator_is fit.place_left;
      few = fit.few;
      within = permitted_ends (ranges_in state.setup state.kernel) Write effect.place (length effect.bytes) (stores-permitted state.setup state.kernel thread call after.kernel effect e);
      page = fit.backs_low;
      lives = omega (arith, fit.one_life_each);
    }

-- a call that ends the program leaves one life for each thread
pub ended-lives : (state after : State) (thread : ℕ) (call : Call) (served : Served) (how : How) → served ≡ Ends how → IsServe (serve state.setup state.kernel thread call) state after (Ok served) → length after.kernel.lives ≡ length state.kernel.lives
ended-lives state after thread call served how is h =
    let brings : IsServe (serve state.setup state.kernel thread call) state after (Ok (Ends how)) = subst (λ (s : Served). IsServe (serve state.setup state.kernel thread call) state after (Ok s)) is h in
    fit-ended state.setup state.kernel thread call after.kernel how brings.0

-- and so does one that did its first step
pub parked-lives : (state after : State) (thread : ℕ) (call : Call) (served : Served) → served ≡ Parked → IsServe (serve state.setup state.kernel thread call) state after (Ok served) → length after.kernel.lives ≡ length state.kernel.lives
parked-lives state after thread call served is h =
    let brings : IsServe (serve state.setup state.kernel thread call) state after (Ok Parked) = subst (λ (s : Served). IsServe (serve state.setup state.kernel thread call) state after (Ok s)) is h in
    fit-parked state.setup state.kernel thread call after.kernel brings.0

length-with_made : (made : Option Made) (cpu : Cpu) (cpus : List Cpu) → length (with_made made cpu cpus) ≡ length cpus + made_count made
length-with_made None cpu cpus = omega arith
length-with_made (Some made) cpu cpus = length-append cpus _

-- an element that is there
pub here : (cpus : List Cpu) (i : ℕ) → i < length cpus → (cpu : Cpu) × (slice_get cpus i ≡ Some cpu)
here [] i h = absurd (omega arith)
here (x ∷ cpus) zero h = (x, refl)
here (x ∷ cpus) (suc i) h = here cpus i (omega arith)

-- how many threads there are after an effect
pub threads-after : (effect : Effect) (old new : List Cpu) → effect.thread < length old → ((cpu : Cpu) → slice_get old effect.thread ≡ Some cpu → new ≡ with_made effect.made cpu (slice_set old effect.thread (cpu_after effect cpu))) → length new ≡ length old + made_count effect.made
threads-after effect old new h all =
    let at = here old effect.thread h in
    ap length (all at.0 at.1) ∙ length-with_made effect.made at.0 _ ∙ ap (λ (n : ℕ). n + made_count effect.made) (length-set old effect.thread (cpu_after effect at.0))

-- the machine after a call that was served
pub served-so : (old new : Held) (before after : List Cpu) (state done : State) (output written payload : List ℕ) (thread : ℕ) (call : Call) (effect : Effect) (cpu : Cpu) → IsKnown state done thread (length before) call effect → slice_get before thread ≡ Some cpu → memory_of new.pages ≡ stored (memory_of old.pages) effect.place effect.bytes
    → ((x : Cpu) → slice_get before effect.thread ≡ Some x → after ≡ with_made effect.made x (slice_set before effect.thread (cpu_after effect x))) → written ≡ payload
    → called (machine_with old before state.kernel output None) cpu payload (serve state.setup state.kernel thread call) ≡ Some (machine_with new after done.kernel (output ++ written) None)
served-so old new before after state done output written payload thread call effect cpu facts there memory cpus writes =
    let threads = cpus cpu (ap (slice_get before) facts.thread_is ∙ there) in
    ap (called (machine_with old before state.kernel output None) cpu payload) facts.outcome
    ∙ (λ i. Some (record { memory = sym memory i; cpus = sym threads i; kernel = done.kernel; output = output ++ sym writes i; ended = None }))
