-- The table of functions by the two tests.
use Rattle.std.specs.Prelude.{◌≡◌, ℕ, Bool, true, false, cond, List, Result, Ok, Err}
use Rattle.std.proofs.Common.{sym, ap, ◌∙◌}
use Rattle.ro_event.specs.declared.table.CallTable.{CallTable}
use Rattle.ro_sym.specs.Symbols.{are_ended}
use Rattle.ro_sym.specs.declared.symbols.Symbol.{Symbol}
use Rattle.ro_sym.specs.declared.symbols.Place.{Place}
use Rattle.ro_sym.specs.Calls.{places_of, are_clear, table_of, table_with}

-- the table or the code, by the places of the names
abbrev by_places : Bool → List Place → Result CallTable ℕ
by_places ended places = cond ended (cond (are_clear places) (Ok (table_of places)) (Err 17)) (Err 16)

module _ (strings : List ℕ) (symbols : List Symbol) where
  pub not-ended : (ended : Bool) → ended ≡ are_ended strings symbols → ended ≡ false → table_with strings symbols ≡ Err 16
  not-ended ended e f = ap (λ b. by_places b (places_of strings symbols)) (sym e ∙ f)

  pub not-clear : (ended clear : Bool) (places : List Place) → ended ≡ are_ended strings symbols → ended ≡ true → places ≡ places_of strings symbols → clear ≡ are_clear places → clear ≡ false → table_with strings symbols ≡ Err 17
  not-clear ended clear places e t p c f =
      ap (by_places (are_ended strings symbols)) (sym p) ∙ (ap (λ b. by_places b places) (sym e ∙ t) ∙ ap (λ b. cond b (Ok (table_of places)) (Err 17)) (sym c ∙ f))

  pub is-table : (ended clear : Bool) (places : List Place) (table : CallTable) → ended ≡ are_ended strings symbols → ended ≡ true → places ≡ places_of strings symbols → clear ≡ are_clear places → clear ≡ true → table ≡ table_of places → table_with strings symbols ≡ Ok table
  is-table ended clear places table e t p c f m =
      ap (by_places (are_ended strings symbols)) (sym p) ∙ (ap (λ b. by_places b places) (sym e ∙ t) ∙ (ap (λ b. cond b (Ok (table_of places)) (Err 17)) (sym c ∙ f) ∙ ap Ok (sym m)))
