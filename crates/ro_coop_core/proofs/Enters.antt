-- The mutex that an event makes cooperative, as the code finds it.
use Rattle.std.proofs.Common.{◌≡◌, ℕ, Bool, true, false, not, ◌&&◌, [], ◌∷◌, Option, Some, None, refl, sym, ap, ◌∙◌}
use Rattle.std.specs.Prelude.{if◌then◌else◌, is_none, is_some}
use Rattle.std.specs.Option.{option_map, option_map_or}
use Rattle.ro_event.specs.Functions.{functions}
use Rattle.ro_event.specs.declared.calls.Call.{Call}
use Rattle.ro_event.specs.declared.stops.Stop.{Stop}
use Rattle.ro_event.specs.declared.stops.Stop.TheVariants.{Calls, Trap, PageFault, Watchdog}
use Rattle.ro_mutex.specs.Owners.{Owners, owner_of}
use Rattle.ro_kernel.specs.Kernel.{Kernel}
use Rattle.ro_orders.specs.Choices.{in_table, no_mutex, has_otherwise, chosen_of}
use Rattle.ro_plain.specs.Machine.{Program}
use Rattle.ro_legal.specs.Cooperative.{entered_by}
use Rattle.ro_coop_core.specs.Seats.{entered_of}
use Rattle.ro_coop_core.specs.Amid.{newcomer_at, newcomer_of, entering_of}

-- it did not stand in the table
pub newcomer-absent : (cooperates : Bool) (owners : Owners) (a address : ℕ) → newcomer_at cooperates owners a ≡ Some address → owner_of owners address ≡ None
newcomer-absent false owners a address e = absurd (let f : None ≡ Some address = e in cc)
newcomer-absent true owners a address e = by (owner_of owners a) refl e
  where
    by : (o : Option (Option ℕ)) → owner_of owners a ≡ o → (if is_none o then Some a else None) ≡ Some address → owner_of owners address ≡ None
    by None f g = let k : a ≡ address = cc in ap (owner_of owners) (sym k) ∙ f
    by (Some owner) f g = absurd (let k : None ≡ Some address = g in cc)

pub stop-absent : (cooperates : Bool) (owners : Owners) (stop : Stop) (address : ℕ) → newcomer_of cooperates owners stop ≡ Some address → owner_of owners address ≡ None
stop-absent cooperates owners (Calls call) address e = newcomer-absent cooperates owners call.a0 address e
stop-absent cooperates owners (Trap code) address e = absurd (let f : None ≡ Some address = e in cc)
stop-absent cooperates owners (PageFault page) address e = absurd (let f : None ≡ Some address = e in cc)
stop-absent cooperates owners Watchdog address e = absurd (let f : None ≡ Some address = e in cc)

-- of a call, where what stands in the table before and after is known
found : (a : ℕ) (before after : Option (Option ℕ)) (owners : Owners) → owner_of owners a ≡ after → entered_of (entering_of owners (if is_none before then Some a else None)) ≡ (if is_some after && not (is_some before) then record { address = a; owner = option_map_or (λ (owner : Option ℕ). owner) after None; rank = 0 } ∷ [] else [])
found a None None owners e = ap (λ (o : Option (Option ℕ)). entered_of (option_map (λ (owner : Option ℕ). record { address = a; owner = owner }) o)) e
found a None (Some owner) owners e = ap (λ (o : Option (Option ℕ)). entered_of (option_map (λ (owner : Option ℕ). record { address = a; owner = owner }) o)) e
found a (Some was) None owners e = refl
found a (Some was) (Some owner) owners e = refl

pub call-enters : (program : Program) (cooperates : Bool) (owners : Owners) (before after : Kernel) (call : Call) → cooperates ≡ not (has_otherwise program.image.calls.addresses functions) → before.owners ≡ owners → entered_of (entering_of after.owners (newcomer_at cooperates owners call.a0)) ≡ entered_by (chosen_of program) before after (Some (Calls call))
unfolding in_table no_mutex
call-enters program cooperates owners before after call is same = by (has_otherwise program.image.calls.addresses functions) cooperates is
  where
    by : (b c : Bool) → c ≡ not b → entered_of (entering_of after.owners (newcomer_at c owners call.a0)) ≡ entered_by (if b then no_mutex else in_table) before after (Some (Calls call))
    by true c e = ap (λ (x : Bool). entered_of (entering_of after.owners (newcomer_at x owners call.a0))) e
    by false c e =
        ap (λ (x : Bool). entered_of (entering_of after.owners (newcomer_at x owners call.a0))) e
        ∙ ap (λ (os : Owners). entered_of (entering_of after.owners (newcomer_at true os call.a0))) (sym same)
        ∙ found call.a0 (owner_of before.owners call.a0) (owner_of after.owners call.a0) after.owners refl

pub stop-enters : (program : Program) (cooperates : Bool) (owners : Owners) (before after : Kernel) (stop : Stop) → cooperates ≡ not (has_otherwise program.image.calls.addresses functions) → before.owners ≡ owners → entered_of (entering_of after.owners (newcomer_of cooperates owners stop)) ≡ entered_by (chosen_of program) before after (Some stop)
stop-enters program cooperates owners before after (Calls call) is same = call-enters program cooperates owners before after call is same
stop-enters program cooperates owners before after (Trap code) is same = refl
stop-enters program cooperates owners before after (PageFault page) is same = refl
stop-enters program cooperates owners before after Watchdog is same = refl
