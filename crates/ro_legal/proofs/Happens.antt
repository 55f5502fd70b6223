-- What an event keeps of the kernel.
use Rattle.std.specs.Prelude.{◌≡◌, ◌≢◌, ℕ, ◌+◌, ◌≤◌, ◌^◌, ◌<◌, true, List, [], length, Option, Some, None, IfSome, nat_le}
use Rattle.std.proofs.Common.{refl, sym, ap, ◌∙◌, subst, arith}
use Rattle.std.proofs.lemmas.Bool.{and_parts, leb-true}
use Rattle.ro_event.specs.declared.calls.Call.{Call}
use Rattle.ro_event.specs.declared.calls.Which.TheVariants.{Function}
use Rattle.ro_event.specs.declared.functions.Function.TheVariants.{Wait}
use Rattle.ro_event.specs.declared.effects.Made.{Made}
use Rattle.ro_event.specs.declared.stops.Stop.{Stop}
use Rattle.ro_event.specs.declared.stops.Stop.TheVariants.{Calls, Trap, PageFault, Watchdog}
use Rattle.ro_event.specs.Effects.{Effect}
use Rattle.ro_region.specs.declared.Kind.TheVariants.{Write}
use Rattle.ro_region.specs.Permission.{permits_each, permits_of, with_range}
use Rattle.ro_region.specs.declared.Range.{Range}
use Rattle.ro_journal.specs.declared.How.{How}
use Rattle.ro_journal.specs.declared.How.TheVariants.{Trap as TrapHow}
use Rattle.ro_kernel.specs.Kernel.{Setup, Kernel, lives_on, ranges_in}
use Rattle.ro_kernel.specs.Serve.{Served, Done, Parked, Blocked, Ends, serve, put_out, asked}
use Rattle.ro_kernel.proofs.Kept.{IsOwn, Own, done, serve-own}
use Rattle.ro_kernel.proofs.Stores.{stores-permitted}
use Rattle.ro_condition.proofs.Whose.{is_waiting}
use Rattle.ro_kernel.proofs.Given.{given-done, given-parked, given-ended}
use Rattle.ro_kernel.proofs.Fits.{fit-effect, fit-parked}
use Rattle.ro_kernel.proofs.Outcomes.{parked-live}
use Rattle.ro_kernel.proofs.Waiting.{served-others, begun-others, begun-now, blocked-waits}
use Rattle.ro_legal.specs.Event.{Event, call_event, event_of}
use Rattle.ro_legal.specs.Sound.{IsOver, traps}
use Rattle.ro_legal.proofs.Served.{made_count, IsTidy, Tidy, tidy_done, tidy_end, serve-tidy}

-- an event of a live thread
pub record Happens (kernel : Kernel) (thread : ℕ) (event : Event) : Type 0 where
  pub given_are : event.kernel.given ≡ with_range event.effect.range kernel.given
  pub lives_are : length event.kernel.lives ≡ length kernel.lives + made_count event.effect.made
  pub others_live : event.due ≡ None → (other : ℕ) → other ≢ thread → lives_on kernel other ≡ true → lives_on event.kernel other ≡ true
  pub blocks_live : (call : Call) → event.blocked ≡ Some call → lives_on event.kernel thread ≡ lives_on kernel thread
  pub others_wait : event.due ≡ None → (other : ℕ) → other ≢ thread → is_waiting event.kernel.waiters other ≡ is_waiting kernel.waiters other
  pub waits_begun : (call : Call) → event.blocked ≡ Some call → call.which ≡ Function Wait → is_waiting event.kernel.waiters thread ≡ true
  pub thread_is : event.effect.thread ≡ thread
  pub creator_is : (made : Made) → event.effect.made ≡ Some made → made.creator ≡ thread
  pub few : length event.effect.bytes ≤ 4096
  pub within : event.effect.place + length event.effect.bytes ≤ 2 ^ 32
  pub place_left : IfSome event.effect.made (λ made. length kernel.lives < 16)
  pub ends_well : (how : How) → event.due ≡ Some how → IsOver how

add-none : (n : ℕ) → n ≡ n + 0
add-none n = omega arith

-- an event that changes nothing in the kernel
quiet : (kernel : Kernel) (thread : ℕ) (event : Event) → event.kernel ≡ kernel → event.effect.range ≡ None → event.effect.made ≡ None → event.effect.thread ≡ thread → event.effect.bytes ≡ [] → event.effect.place ≡ 0
    → ((how : How) → event.due ≡ Some how → IsOver how) → ((call : Call) → event.blocked ≡ Some call → call.which ≡ Function Wait → is_waiting kernel.waiters thread ≡ true) → Happens kernel thread event
quiet kernel thread event same unranged none own nothing at well waits_on = record {
  given_are = ap (λ (k : Kernel). k.given) same ∙ ap (λ (r : Option Range). with_range r kernel.given) (sym unranged);
  lives_are = ap (λ (k : Kernel). length k.lives) same ∙ add-none (length kernel.lives) ∙ ap (λ (m : Option Made). length kernel.lives + made_count m) (sym none);
  others_live = λ e other differs h. ap (λ (k : Kernel). lives_on k other) same ∙ h;
  blocks_live = λ call e. ap (λ (k : Kernel). lives_on k thread) same;
  others_wait = λ e other differs. ap (λ (k : Kernel). is_waiting k.waiters other) same;
  waits_begun = λ call e w. ap (λ (k : Kernel). is_waiting k.waiters thread) same ∙ waits_on call e w;
  thread_is = own;
  creator_is = λ made e. absurd (let f : None ≡ Some made = sym none ∙ e in cc);
  few = let e : length event.effect.bytes ≡ 0 = ap length nothing in omega arith;
  within = let e : length event.effect.bytes ≡ 0 = ap length nothing in omega arith;
  place_left = subst (λ (m : Option Made). IfSome m (λ made. length kernel.lives < 16)) (sym none) tt;
  ends_well = well;
}

no-end : (how : How) → None ≡ Some how → IsOver how
no-end how e = absurd cc

-- bytes that may be written lie below the end of the addresses
within-permits : (ranges : List Range) (place count : ℕ) → permits_of ranges Write place count ≡ true → place + count ≤ 2 ^ 32
unfolding permits_of
within-permits ranges place count e =
    let parts = and_parts (nat_le (place + count) (2 ^ 32)) (permits_each ranges Write place count) e in leb-true _ _ parts.0

-- a call, which may be served with what a vote found
module _ (setup : Setup) (kernel : Kernel) (thread : ℕ) (call put : Call) (same_which : put.which ≡ call.which) (payload : List ℕ) where
  tidy-of : (after : Kernel) (effect : Effect) → Tidy kernel thread (Done after effect) → IsTidy kernel thread after effect
  tidy-of after effect (tidy_done h) = h

  own-of : (after : Kernel) (effect : Effect) → Own kernel thread (Done after effect) → IsOwn kernel thread after effect
  own-of after effect (done h) = h

  end-lives : (after : Kernel) (how : How) → Tidy kernel thread (Ends after how) → length after.lives ≡ length kernel.lives
  end-lives after how (tidy_end same over) = same

  end-over : (after : Kernel) (how : How) → Tidy kernel thread (Ends after how) → IsOver how
  end-over after how (tidy_end same over) = over

  -- a call, by what comes of it
  by-served : (served : Served) → serve setup kernel thread put ≡ served → Happens kernel thread (call_event kernel thread call payload served)
  by-served (Done after effect) e =
      let tidy = tidy-of after effect (subst (Tidy kernel thread) e (serve-tidy setup kernel thread put)) in
      let own = own-of after effect (subst (Own kernel thread) e (serve-own setup kernel thread put)) in
      let fit = fit-effect setup kernel thread put after effect e in
      record {
        given_are = given-done setup kernel thread put after effect e;
        lives_are = tidy.one_life_each;
        others_live = λ d other differs h. own.keeps_live other differs h;
        blocks_live = λ c f. absurd (let g : None ≡ Some c = f in cc);
        others_wait = λ d other differs. served-others setup kernel thread put after effect e other differs;
        waits_begun = λ c f. absurd (let g : None ≡ Some c = f in cc);
        thread_is = own.thread_is;
        creator_is = own.creator_is;
        few = fit.few;
        within = within-permits (ranges_in setup kernel) effect.place (length effect.bytes) (stores-permitted setup kernel thread put after effect e);
        place_left = fit.place_left;
        ends_well = no-end;
      }
  by-served (Parked after) e = record {
    given_are = given-parked setup kernel thread put after e;
    lives_are = fit-parked setup kernel thread put after e ∙ add-none (length kernel.lives);
    others_live = λ d other differs h. parked-live setup kernel thread put after other e ∙ h;
    blocks_live = λ c f. parked-live setup kernel thread put after thread e;
    others_wait = λ d other differs. begun-others setup kernel thread put after e other differs;
    waits_begun = λ c f w. begun-now setup kernel thread put after e;
    thread_is = refl;
    creator_is = λ made f. absurd (let g : None ≡ Some made = f in cc);
    few = omega arith;
    within = omega arith;
    place_left = tt;
    ends_well = no-end;
  }
  by-served Blocked e =
      quiet kernel thread _ refl refl refl refl refl refl no-end
      (λ c f w. blocked-waits setup kernel thread put e (same_which ∙ (let g : Some call ≡ Some c = f in let same : call ≡ c = cc in ap (λ (d : Call). d.which) same ∙ w)))
  by-served (Ends after how) e =
      let tidy = subst (Tidy kernel thread) e (serve-tidy setup kernel thread put) in
      record {
        given_are = given-ended setup kernel thread put after how e;
        lives_are = end-lives after how tidy ∙ add-none (length kernel.lives);
        others_live = λ f other differs h. absurd (let g : None ≡ Some how = sym f in cc);
        blocks_live = λ c f. absurd (let g : None ≡ Some c = f in cc);
        others_wait = λ f other differs. absurd (let g : None ≡ Some how = sym f in cc);
        waits_begun = λ c f. absurd (let g : None ≡ Some c = f in cc);
        thread_is = refl;
        creator_is = λ made f. absurd (let g : None ≡ Some made = f in cc);
        few = omega arith;
        within = omega arith;
        place_left = tt;
        ends_well = λ other f. subst IsOver (let g : Some how ≡ Some other = f in cc) (end-over after how tidy);
      }

  pub put-happens : Happens kernel thread (call_event kernel thread call payload (serve setup kernel thread put))
  put-happens = by-served (serve setup kernel thread put) refl

pub call-happens : (setup : Setup) (kernel : Kernel) (thread : ℕ) (call : Call) (payload : List ℕ) → Happens kernel thread (call_event kernel thread call payload (serve setup kernel thread call))
call-happens setup kernel thread call payload = put-happens setup kernel thread call call refl payload

pub event-happens : (setup : Setup) (kernel : Kernel) (thread : ℕ) (stop : Stop) (payload : List ℕ) → Happens kernel thread (event_of setup kernel thread stop payload)
unfolding event_of
event-happens setup kernel thread (Calls call) payload = put-happens setup kernel thread call (asked call payload) refl (put_out call.which payload)
event-happens setup kernel thread (PageFault page) payload = quiet kernel thread _ refl refl refl refl refl refl no-end (λ c f. absurd (let g : None ≡ Some c = f in cc))
event-happens setup kernel thread Watchdog payload = quiet kernel thread _ refl refl refl refl refl refl no-end (λ c f. absurd (let g : None ≡ Some c = f in cc))
event-happens setup kernel thread (Trap code) payload = quiet kernel thread _ refl refl refl refl refl refl (λ how e. subst IsOver (let g : Some (TrapHow code) ≡ Some how = e in cc) (traps {cause = code})) (λ c f. absurd (let g : None ≡ Some c = f in cc))
