-- Words of a generator, one after the other.
use Rattle.std.proofs.Common.{◌≡◌, ℕ, zero, suc, ◌+◌, ◌-◌, ◌%◌, ◌<◌, List, [], ◌∷◌, ◌++◌, length, Option, unwrap_or, sym, ap, ◌∙◌, arith, append_assoc}
use Rattle.std.specs.Prelude.{slice_index}
use Rattle.rand_pcg.specs.Lcg.{Lcg, state_after, next_state}
use Rattle.rand_pcg.specs.Pcg.{multiplier_64}
use Rattle.ro_region.specs.declared.Range.{Range}
use Rattle.ro_faults.specs.declared.Fault.{Fault}
use Rattle.ro_faults.specs.declared.Target.{Target}
use Rattle.ro_faults.specs.declared.Target.TheVariants.{Register, Pc, Byte}
use Rattle.ro_image.specs.Image.{addresses_in}
use Rattle.ro_inject.specs.Draws.{after, word, target_from, target_words, kind_from, fault_from, faults_from}

states : (increment m n state : ℕ) → state_after 64 multiplier_64 increment n (state_after 64 multiplier_64 increment m state) ≡ state_after 64 multiplier_64 increment (m + n) state
unfolding state_after
states increment zero n state = ap (λ (k : ℕ). state_after 64 multiplier_64 increment k state) (let e : n ≡ 0 + n = omega arith in e)
states increment (suc m) n state =
    states increment m n (next_state 64 multiplier_64 increment state)
    ∙ ap (λ (k : ℕ). state_after 64 multiplier_64 increment k state) (let e : suc (m + n) ≡ suc m + n = omega arith in e)

-- later by some words, and by some more
pub after-plus : (m n : ℕ) (g : Lcg) → after n (after m g) ≡ after (m + n) g
after-plus m n g = ap (λ (s : ℕ). let r : Lcg = record { state = s; increment = g.increment } in r) (states g.increment m n g.state)

-- one more
pub after-one : (m : ℕ) (g at new : Lcg) → at ≡ after m g → new ≡ after 1 at → new ≡ after (m + 1) g
after-one m g at new at_is new_is = new_is ∙ ap (λ (h : Lcg). after 1 h) at_is ∙ after-plus m 1 g

-- a word that is taken later
pub word-later : (m : ℕ) (g at : Lcg) → at ≡ after m g → word 0 at ≡ word m g
unfolding state_after
word-later m g at at_is = ap (λ (h : Lcg). word 0 h) at_is

module _ (ranges : List Range) (g one : Lcg) (one_is : one ≡ after 1 g) where
  register-drawn : (number bit : ℕ) → number ≡ word 0 g % 31 → bit ≡ word 0 one % 32 → Register (1 + number) bit ≡ target_from ranges 0 g
  register-drawn number bit number_is bit_is =
      let later : bit ≡ word 1 g % 32 = bit_is ∙ ap (λ (w : ℕ). w % 32) (word-later 1 g one one_is) in
      ap (λ (n : ℕ). Register (1 + n) bit) number_is ∙ ap (λ (b : ℕ). Register (1 + word 0 g % 31) b) later

  pc-drawn : (bit : ℕ) → bit ≡ word 0 g % 32 → Pc bit ≡ target_from ranges 1 g
  pc-drawn bit bit_is = ap Pc bit_is

  byte-drawn : (size number address bit : ℕ) → size ≡ length (addresses_in ranges) → number ≡ word 0 g % size → address ≡ slice_index (addresses_in ranges) number → bit ≡ word 0 one % 8
      → Byte address bit ≡ target_from ranges 2 g
  byte-drawn size number address bit size_is number_is address_is bit_is =
      let later : bit ≡ word 1 g % 8 = bit_is ∙ ap (λ (w : ℕ). w % 8) (word-later 1 g one one_is) in
      let place : number ≡ word 0 g % length (addresses_in ranges) = number_is ∙ ap (λ (m : ℕ). word 0 g % m) size_is in
      let at : address ≡ slice_index (addresses_in ranges) (word 0 g % length (addresses_in ranges)) = address_is ∙ ap (λ (n : ℕ). slice_index (addresses_in ranges) n) place in
      ap (λ (a : ℕ). Byte a bit) at ∙ ap (λ (b : ℕ). Byte (slice_index (addresses_in ranges) (word 0 g % length (addresses_in ranges))) b) later

  -- the target of each kind, and the generator behind its words
  pub register-target : (kind number bit : ℕ) → kind ≡ 0 → number ≡ word 0 g % 31 → bit ≡ word 0 one % 32 → Register (1 + number) bit ≡ target_from ranges kind g
  register-target kind number bit kind_is number_is bit_is = register-drawn number bit number_is bit_is ∙ ap (λ (k : ℕ). target_from ranges k g) (sym kind_is)

  pub pc-target : (kind bit : ℕ) → kind ≡ 1 → bit ≡ word 0 g % 32 → Pc bit ≡ target_from ranges kind g
  pc-target kind bit kind_is bit_is = pc-drawn bit bit_is ∙ ap (λ (k : ℕ). target_from ranges k g) (sym kind_is)

  pub byte-target : (kind size number address bit : ℕ) → kind ≡ 2 → size ≡ length (addresses_in ranges) → number ≡ word 0 g % size → address ≡ slice_index (addresses_in ranges) number → bit ≡ word 0 one % 8
      → Byte address bit ≡ target_from ranges kind g
  byte-target kind size number address bit kind_is size_is number_is address_is bit_is =
      byte-drawn size number address bit size_is number_is address_is bit_is ∙ ap (λ (k : ℕ). target_from ranges k g) (sym kind_is)

  pub two-words : (kind : ℕ) (two : Lcg) → target_words kind ≡ 2 → two ≡ after 1 one → two ≡ after (target_words kind) g
  two-words kind two count two_is = after-one 1 g one two one_is two_is ∙ ap (λ (n : ℕ). after n g) (sym count)

  pub one-word : (kind : ℕ) → target_words kind ≡ 1 → one ≡ after (target_words kind) g
  one-word kind count = one_is ∙ ap (λ (n : ℕ). after n g) (sym count)

-- the words of a fault, in their order
module _ (ranges : List Range) (only : Option ℕ) (g one two three four : Lcg) (one_is : one ≡ after 1 g) (two_is : two ≡ after 1 one) (three_is : three ≡ after 1 two) (four_is : four ≡ after 1 three) where
  one_at : one ≡ after 1 g
  one_at = one_is

  two_at : two ≡ after 2 g
  two_at = after-one 1 g one two one_is two_is

  three_at : three ≡ after 3 g
  three_at = after-one 2 g two three two_at three_is

  four_at : four ≡ after 4 g
  four_at = after-one 3 g three four three_at four_is

  pub kind-is : (kind : ℕ) → kind ≡ word 0 three % 3 → kind ≡ kind_from g
  kind-is kind is = is ∙ ap (λ (w : ℕ). w % 3) (word-later 3 g three three_at)

  pub fault-drawn : (replica thread at kind : ℕ) (target : Target) → replica ≡ unwrap_or only (word 0 g % 3) → thread ≡ word 0 one % 4 → at ≡ word 0 two % 10000 → kind ≡ word 0 three % 3
      → target ≡ target_from ranges kind four → ◌≡◌ {A = Fault} (record { replica = replica; thread = thread; at = at; target = target }) (fault_from ranges only g)
  fault-drawn replica thread at kind target r t a k target_is =
      let t' : thread ≡ word 1 g % 4 = t ∙ ap (λ (w : ℕ). w % 4) (word-later 1 g one one_at) in
      let a' : at ≡ word 2 g % 10000 = a ∙ ap (λ (w : ℕ). w % 10000) (word-later 2 g two two_at) in
      let x : target ≡ target_from ranges (kind_from g) (after 4 g) = target_is ∙ ap (λ (k : ℕ). target_from ranges k four) (kind-is kind k) ∙ ap (λ (h : Lcg). target_from ranges (kind_from g) h) four_at in
      let f1 = ap (λ (n : ℕ). let f : Fault = record { replica = n; thread = thread; at = at; target = target } in f) r in
      let f2 = ap (λ (n : ℕ). let f : Fault = record { replica = unwrap_or only (word 0 g % 3); thread = n; at = at; target = target } in f) t' in
      let f3 = ap (λ (n : ℕ). let f : Fault = record { replica = unwrap_or only (word 0 g % 3); thread = word 1 g % 4; at = n; target = target } in f) a' in
      let f4 = ap (λ (y : Target). let f : Fault = record { replica = unwrap_or only (word 0 g % 3); thread = word 1 g % 4; at = word 2 g % 10000; target = y } in f) x in
      f1 ∙ f2 ∙ f3 ∙ f4

  pub words-drawn : (kind : ℕ) (new : Lcg) → kind ≡ word 0 three % 3 → new ≡ after (target_words kind) four → new ≡ after (4 + target_words (kind_from g)) g
  words-drawn kind new k new_is =
      new_is ∙ ap (λ (h : Lcg). after (target_words kind) h) four_at ∙ after-plus 4 (target_words kind) g ∙ ap (λ (m : ℕ). after (4 + target_words m) g) (kind-is kind k)

-- one fault more is drawn
pub faults-more : (ranges : List Range) (only : Option ℕ) (count i : ℕ) (g new : Lcg) (faults news all : List Fault) (fault : Fault) → i < count
    → faults ++ faults_from ranges only (count - i) g ≡ all → fault ≡ fault_from ranges only g → new ≡ after (4 + target_words (kind_from g)) g → news ≡ faults ++ fault ∷ []
    → news ++ faults_from ranges only (count - (i + 1)) new ≡ all
faults-more ranges only count i g new faults news all fault h so_far fault_is new_is more =
    let left : count - i ≡ suc (count - (i + 1)) = omega arith in
    let rest : List Fault = faults_from ranges only (count - (i + 1)) new in
    ap (λ (xs : List Fault). xs ++ rest) more
    ∙ append_assoc faults (fault ∷ []) rest
    ∙ ap (λ (f : Fault). faults ++ f ∷ rest) fault_is
    ∙ ap (λ (h : Lcg). faults ++ fault_from ranges only g ∷ faults_from ranges only (count - (i + 1)) h) new_is
    ∙ ap (λ (n : ℕ). faults ++ faults_from ranges only n g) (sym left)
    ∙ so_far
