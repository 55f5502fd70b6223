-- What the last state says of all passes.
use Rattle.std.proofs.Common.{◌≡◌, ◌≢◌, ℕ, zero, suc, ◌+◌, ◌<◌, ◌≤◌, Bool, if◌then◌else◌, List, [], ◌∷◌, ◌++◌, length, map, slice_index, refl, sym, ap, ◌∙◌, subst, arith, eq-eqb, ne_eqb, Option, Some, None, append_assoc, option_to_list, slice_index_or}
use Rattle.std.proofs.lemmas.List.{append-nil}
use Rattle.std.proofs.lemmas.List.Elements.{filter-append}
use mathlib.Core.Option.{some, some-injective, some-ne-none}
use lib.ListN.{get_elem?}
use native.Mathlib.Decide.{ℕ_discrete}
use mathlib.Core.Logic.{dite}
use Rattle.atomic_table.specs.Seated.{TableId}
use Rattle.atomic_table.specs.Table.{Final, Seen}
use Rattle.ro_lockpage.specs.Ranks.{Ranks, Decided, decided, is_at, map_of, word_at, row_in, of_rank, once, Tells, Since}
use Rattle.ro_lockpage.specs.Hands.{Hand}
use Rattle.ro_lockpage.specs.Seats.{Fits, Each, Rule}
use Rattle.ro_lockpage.specs.Pages.{PassOf, ClosedOf, seen_of, AreFrom, AllAgree, AllSince, all_won, history}
use Rattle.ro_lockpage.specs.declared.seats.View.{View}
use Rattle.ro_lockpage.specs.declared.seats.Shape.{Shape}
use Rattle.ro_lockpage.proofs.Notes.{decide, noted_at, noted_else, tells}

module _ (ranks : Ranks) (word : ℕ → ℕ → ℕ) (winner : ℕ → ℕ → ℕ) (owner : ℕ → ℕ) (id : ℕ) (name : TableId) where
  agree : (hs : List Hand) → Each (Fits ranks word winner owner id) hs → AllAgree ranks (map (seen_of name) hs)
  agree [] f = tt
  agree (h ∷ hs) f = (f.0.known, agree hs f.1)

  split : (m r : ℕ) (h : Hand) (hs : List Hand) → of_rank m r (all_won (map (seen_of name) (h ∷ hs))) ≡ of_rank m r h.won ++ of_rank m r (all_won (map (seen_of name) hs))
  split m r h hs = filter-append (λ (d : Decided). is_at d.mutex d.rank m r) h.won (all_won (map (seen_of name) hs))

  -- the winner of a rank has a number below all of these
  won_before : (m r n : ℕ) (hs : List Hand) → winner m r < n → AreFrom name n (map (seen_of name) hs) → Each (Fits ranks word winner owner id) hs → of_rank m r (all_won (map (seen_of name) hs)) ≡ []
  won_before m r n [] less are f = refl
  won_before m r n (h ∷ hs) less are f =
      let other : winner m r ≢ h.number = λ e. omega (arith, are.1) in
      split m r h hs
      ∙ (λ i. (f.0.won m r ∙ ap (λ (b : Bool). if b then once m r (ranks m r) else []) (ne_eqb (winner m r) h.number other)) i ++ won_before m r (n + 1) hs (omega arith) are.2 f.1 i)

  -- the winner of a rank is one of these
  won_here : (m r n : ℕ) (hs : List Hand) → n ≤ winner m r → winner m r < n + length hs → AreFrom name n (map (seen_of name) hs) → Each (Fits ranks word winner owner id) hs → of_rank m r (all_won (map (seen_of name) hs)) ≡ once m r (ranks m r)
  won_here m r n [] least most are f = absurd (omega arith)
  won_here m r n (h ∷ hs) least most are f =
      dite (ℕ_discrete (winner m r) n)
      (λ e.
      split m r h hs
      ∙ (λ i. (f.0.won m r ∙ ap (λ (b : Bool). if b then once m r (ranks m r) else []) (eq-eqb (winner m r) h.number (e ∙ sym are.1))) i ++ won_before m r (n + 1) hs (omega (arith, e)) are.2 f.1 i)
      ∙ append-nil (once m r (ranks m r)))
      (λ e.
      split m r h hs
      ∙ (λ i. (f.0.won m r ∙ ap (λ (b : Bool). if b then once m r (ranks m r) else []) (ne_eqb (winner m r) h.number (λ same. e (same ∙ are.1)))) i ++ won_here m r (n + 1) hs (omega arith) (omega arith) are.2 f.1 i))

-- what was won says what was decided, where each rank stands there once
abbrev first_thread : List Decided → Option ℕ
first_thread [] = None
first_thread (d ∷ ds) = Some d.thread

map_first : (ds : List Decided) (m r : ℕ) → map_of ds m r ≡ first_thread (of_rank m r ds)
map_first [] m r = refl
map_first (d ∷ ds) m r =
    decide (is_at d.mutex d.rank m r) (map_of (d ∷ ds) m r ≡ first_thread (of_rank m r (d ∷ ds)))
    (λ b. noted_at (map_of ds) d.mutex d.rank d.thread m r b ∙ sym (rw b refl))
    (λ b. noted_else (map_of ds) d.mutex d.rank d.thread m r b ∙ map_first ds m r ∙ sym (rw b refl))

won_map : (ds : List Decided) (m r : ℕ) (o : Option ℕ) → of_rank m r ds ≡ once m r o → o ≡ map_of ds m r
won_map ds m r None e = sym (map_first ds m r ∙ ap first_thread e)
won_map ds m r (Some t) e = sym (map_first ds m r ∙ ap first_thread e)

-- what is said of the passes and words in the end
pub record Ended (rows : ℕ) (words : List ℕ) (ps : List PassOf) : Type 0 where
  pub known : AllAgree (history ps) ps
  pub won : (m r : ℕ) → of_rank m r (all_won ps) ≡ once m r (history ps m r)
  pub told : (m r : ℕ) → Tells rows (history ps) m r (row_in r (word_at rows words m r))

pub ended : (c : Shape) (id : ℕ) (v : View) (words : List ℕ) (xs : List (Unit {0})) (name : TableId) → Final (Seen (Rule c) id v) words xs
    → (ps : List PassOf) → ps ≡ map (seen_of name) v.hands → AreFrom name 0 ps → length ps ≡ 8 → Ended c.rows words ps
ended c id v words xs name final ps is are eight =
    let s = final.0 in
    let k = final.1.0 in
    let fits = k.fits id v final.1.1 in
    let word : ℕ → ℕ → ℕ = word_at c.rows s.words in
    let qs : List PassOf = map (seen_of name) v.hands in
    let won : (m r : ℕ) → of_rank m r (all_won qs) ≡ once m r (k.ranks m r) =
    λ m r. won_here k.ranks word k.winner k.owner id name m r 0 v.hands (omega arith) (let b = k.below m r in let e = length_map v.hands in let e' = ap (λ (l : List PassOf). length l) is in omega (arith, eight, e, e', b)) (subst (AreFrom name 0) is are) fits in
    let same : k.ranks ≡ history qs = λ i m r. won_map (all_won qs) m r (k.ranks m r) (won m r) i in
    subst (Ended c.rows words) (sym is)
    (subst (λ (ws : List ℕ). Ended c.rows ws qs) final.2
    (record {
      known = subst (λ (ranks : Ranks). AllAgree ranks qs) same (agree k.ranks word k.winner k.owner id name v.hands fits);
      won = subst (λ (ranks : Ranks). (m r : ℕ) → of_rank m r (all_won qs) ≡ once m r (ranks m r)) same won;
      told = subst (λ (ranks : Ranks). (m r : ℕ) → Tells c.rows ranks m r (row_in r (word m r))) same (tells c.rows k.ranks s.words k.newest);
    }))
  where
    length_map : (hs : List Hand) → length (map (seen_of name) hs) ≡ length hs
    length_map [] = refl
    length_map (h ∷ hs) = ap suc (length_map hs)

-- no word grew less
pub all_since : (c : Shape) (id : ℕ) (v : View) (words : List ℕ) (xs : List (Unit {0})) (name : TableId) (o : ClosedOf) → o.rows ≡ c.rows → o.words ≡ words → Final (Seen (Rule c) id v) words xs → AllSince o (map (seen_of name) v.hands)
all_since c id v words xs name o rows is final =
    let s = final.0 in
    let k = final.1.0 in
    by (word_at c.rows s.words) (λ i. word_at (sym rows i) ((final.2 ∙ sym is) i)) k.ranks k.winner k.owner v.hands (k.fits id v final.1.1)
  where
    by : (word : ℕ → ℕ → ℕ) → word ≡ word_at o.rows o.words → (ranks : Ranks) (winner : ℕ → ℕ → ℕ) (owner : ℕ → ℕ) (hs : List Hand) → Each (Fits ranks word winner owner id) hs → AllSince o (map (seen_of name) hs)
    by word e ranks winner owner [] f = tt
    by word e ranks winner owner (h ∷ hs) f = (subst (λ (w : ℕ → ℕ → ℕ). Since w h.asked) e f.0.since, by word e ranks winner owner hs f.1)

-- a word at its place
pub word_there : (words : List ℕ) (p n : ℕ) → get_elem? words p ≡ some n → slice_index words p ≡ n
word_there [] p n e = absurd (some-ne-none n (sym e))
word_there (x ∷ xs) zero n e = some-injective x n e
word_there (x ∷ xs) (suc p) n e = word_there xs p n e

-- the pass at a place is of the page
pub page_at : (name : TableId) (n : ℕ) (ps qs : List PassOf) (p : PassOf) → AreFrom name n ((ps ++ p ∷ []) ++ qs) → p.page ≡ name
page_at name n [] qs p are = are.0
page_at name n (x ∷ xs) qs p are = page_at name (n + 1) xs qs p are.2

-- a pass that was taken from the end goes in front of those that were taken before
pub taken_more : (name : TableId) (all before after : List PassOf) (o : Option PassOf) (p : PassOf) (hs hs' : List Hand) (h : Hand)
    → all ≡ before ++ map (seen_of name) hs → before ≡ after ++ option_to_list o → o ≡ Some p → p ≡ seen_of name h → hs' ≡ h ∷ hs → all ≡ after ++ map (seen_of name) hs'
taken_more name all before after o p hs hs' h whole popped is same new =
    whole
    ∙ ap (λ (l : List PassOf). l ++ map (seen_of name) hs) (popped ∙ ap (λ (x : Option PassOf). after ++ option_to_list x) (is ∙ ap (λ (q : PassOf). Some q) same))
    ∙ append_assoc after (seen_of name h ∷ []) (map (seen_of name) hs)
    ∙ sym (ap (λ (l : List Hand). after ++ map (seen_of name) l) new)

pub page_of_taken : (name : TableId) (all before after : List PassOf) (o : Option PassOf) (p : PassOf) (rest : List PassOf)
    → all ≡ before ++ rest → before ≡ after ++ option_to_list o → o ≡ Some p → AreFrom name 0 all → p.page ≡ name
page_of_taken name all before after o p rest whole popped is are =
    page_at name 0 after rest p (subst (AreFrom name 0) (whole ∙ ap (λ (l : List PassOf). l ++ rest) (popped ∙ ap (λ (x : Option PassOf). after ++ option_to_list x) is)) are)

-- the pass at a place, by its index
pub from_at : (name : TableId) (n : ℕ) (ps : List PassOf) → AreFrom name n ps → (i : ℕ) (d : PassOf) → i < length ps → ((slice_index_or ps i d).page ≡ name) × ((slice_index_or ps i d).number ≡ n + i)
from_at name n [] are i d less = absurd (omega arith)
from_at name n (p ∷ ps) are zero d less = (are.0, are.1 ∙ omega arith)
from_at name n (p ∷ ps) are (suc i) d less = let f = from_at name (n + 1) ps are.2 i d (omega arith) in (f.0, f.1 ∙ omega arith)
