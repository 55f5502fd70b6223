-- Words that are read are the words of what is read.
use Rattle.std.proofs.Common.{ℕ, Bool, true, false, ◌≡◌, ◌^◌, ◌<◌, ◌&&◌, ◌⊎◌, inl, inr, nat_le, nat_lt, List, [], ◌∷◌, ◌++◌, Option, Some, None, decimal, codes, cond, arith, refl, sym, ap, ◌∙◌}
use Rattle.std.specs.List.{list_all, join_with_byte}
use Rattle.std.specs.Str.{bytes_eq}
use Rattle.std.proofs.lemmas.Bool.{and_parts, false≢true, leb-true, ltb-true}
use Rattle.std.proofs.lemmas.List.Splits.{join_with_byte-slice_split}
use Rattle.std.proofs.lemmas.Slice.Eq.{bytes_eq-Decides}
use Rattle.ro_text.specs.Numbers.{is_number, value_of, within}
use Rattle.ro_text.proofs.Spellings.{number_once}
use Rattle.ro_event.specs.Traps.{trap_of}
use Rattle.ro_event.specs.declared.traps.TrapCause.{TrapCause}
use Rattle.ro_event.proofs.Numbered.{trap-once, number-within}
use Rattle.ro_journal.specs.declared.Did.{Did}
use Rattle.ro_journal.specs.declared.Did.TheVariants.{Served, Blocked, Parked, PageBacked, Watch, Trapped}
use Rattle.ro_journal.specs.declared.How.{How}
use Rattle.ro_journal.specs.declared.How.TheVariants.{Exit, Deadlock, Limit, Differ, NoMajority, Sink}
use Rattle.ro_journal.specs.declared.losers.Lost.{Lost}
use Rattle.ro_journal.specs.declared.losers.Lost.TheVariants.{Nobody, One, Two}
use Rattle.ro_journal_text.specs.declared.versions.Version.{Version}
use Rattle.ro_journal_text.specs.declared.versions.Version.TheVariants.{First, Second}
use Rattle.ro_journal_text.specs.Texts.{did_word, lost_word, how_words}
use Rattle.ro_journal_text.specs.Reading.{parked_in, did_of, listed, several_of, several_in, lost_of, how_of, trapped_by, most_replica, is_lost, is_how}

pub same : (word text : List ℕ) → bytes_eq word text ≡ true → word ≡ text
same word text e = (bytes_eq-Decides word text).0 e

-- which side of a choice gave a value
pub pick : {A : Type 0} (b : Bool) (first other : Option A) (x : A) → cond b first other ≡ Some x → ((b ≡ true) × (first ≡ Some x)) ⊎ ((b ≡ false) × (other ≡ Some x))
pick true first other x h = inl (refl, h)
pick false first other x h = inr (refl, h)

pub chosen : {A : Type 0} (b : Bool) (first : Option A) (x : A) → cond b first None ≡ Some x → (b ≡ true) × (first ≡ Some x)
chosen true first x h = (refl, h)
chosen false first x h = absurd (cc)

pub inner : {A : Type 0} (x y : A) → Some x ≡ Some y → x ≡ y
inner x y h = cc

pub once : (least most : ℕ) (word : List ℕ) → most < 2 ^ 64 → is_number word ≡ true → within least most (value_of word) ≡ true → decimal (value_of word) ≡ word
once least most word fits n h = number_once word n (omega (arith, leb-true (value_of word) most (and_parts (nat_le least (value_of word)) (nat_le (value_of word) most) h).1))

parked-is : (version : Version) (did : Did) → parked_in version ≡ Some did → Parked ≡ did
parked-is First did h = absurd (let f : None ≡ Some did = h in cc)
parked-is Second did h = inner Parked did h

pub did_once : (version : Version) (word : List ℕ) (did : Did) → did_of version word ≡ Some did → did_word did ≡ word
did_once version word did h = elim (pick (bytes_eq word (codes "served")) (Some Served) _ did h) [
  | inl p ↦ ap did_word (sym (inner Served did p.1)) ∙ sym (same word (codes "served") p.0)
  | inr q ↦ elim (pick (bytes_eq word (codes "blocked")) (Some Blocked) _ did q.1) [
    | inl p ↦ ap did_word (sym (inner Blocked did p.1)) ∙ sym (same word (codes "blocked") p.0)
    | inr q ↦ elim (pick (bytes_eq word (codes "parked")) (parked_in version) _ did q.1) [
      | inl p ↦ ap did_word (sym (parked-is version did p.1)) ∙ sym (same word (codes "parked") p.0)
      | inr q ↦ elim (pick (bytes_eq word (codes "mapped")) (Some PageBacked) _ did q.1) [
        | inl p ↦ ap did_word (sym (inner PageBacked did p.1)) ∙ sym (same word (codes "mapped") p.0)
        | inr q ↦ elim (pick (bytes_eq word (codes "watch")) (Some Watch) _ did q.1) [
          | inl p ↦ ap did_word (sym (inner Watch did p.1)) ∙ sym (same word (codes "watch") p.0)
          | inr q ↦ let p = chosen (bytes_eq word (codes "trapped")) (Some Trapped) did q.1 in
              ap did_word (sym (inner Trapped did p.1)) ∙ sym (same word (codes "trapped") p.0)
        ]
      ]
    ]
  ]
]

-- the highest replica fits into a number
most_fits : (version : Version) → most_replica version < 2 ^ 64
most_fits First = omega arith
most_fits Second = omega arith

-- a replica's number
pub replica_once : (version : Version) (word : List ℕ) → is_number word ≡ true → within 0 (most_replica version) (value_of word) ≡ true → decimal (value_of word) ≡ word
replica_once version word n h = once 0 (most_replica version) word (most_fits version) n h

-- two losers
two_once : (word lower higher : List ℕ) (lost : Lost) → word ≡ lower ++ 44 ∷ higher → cond (is_number lower && is_number higher) (Some (Two (value_of lower) (value_of higher))) None ≡ Some lost → is_lost Second lost ≡ true → lost_word lost ≡ word
two_once word lower higher lost whole h fits =
    let p = chosen (is_number lower && is_number higher) (Some (Two (value_of lower) (value_of higher))) lost h in
    let e = inner (Two (value_of lower) (value_of higher)) lost p.1 in
    let both = and_parts (is_number lower) (is_number higher) p.0 in
    let f = and_parts (nat_lt (value_of lower) (value_of higher)) (within 0 4 (value_of higher)) (ap (is_lost Second) e ∙ fits) in
    let rise = ltb-true (value_of lower) (value_of higher) f.0 in
    let high = leb-true (value_of higher) 4 (and_parts (nat_le 0 (value_of higher)) (nat_le (value_of higher) 4) f.1).1 in
    ap lost_word (sym e)
    ∙ ap (λ w. w ++ 44 ∷ decimal (value_of higher)) (number_once lower both.0 (omega (arith, rise, high)))
    ∙ ap (λ w. lower ++ 44 ∷ w) (number_once higher both.1 (omega (arith, high)))
    ∙ sym whole

several_once : (word : List ℕ) (parts : List (List ℕ)) (lost : Lost) → join_with_byte 44 parts ≡ word → several_of parts ≡ Some lost → is_lost Second lost ≡ true → lost_word lost ≡ word
several_once word [] lost whole h fits = absurd (cc)
several_once word (one ∷ []) lost whole h fits = absurd (cc)
several_once word (lower ∷ higher ∷ []) lost whole h fits = two_once word lower higher lost (sym whole) h fits
several_once word (lower ∷ higher ∷ next ∷ parts) lost whole h fits =
    let p = chosen (list_all is_number (lower ∷ higher ∷ next ∷ parts)) (Some (Two 0 0)) lost h in
    absurd (false≢true (ap (is_lost Second) (inner (Two 0 0) lost p.1) ∙ fits))

in_once : (version : Version) (word : List ℕ) (lost : Lost) → several_in version word ≡ Some lost → is_lost version lost ≡ true → lost_word lost ≡ word
in_once First word lost h fits = absurd (cc)
in_once Second word lost h fits = several_once word (listed word) lost (join_with_byte-slice_split 44 word) h fits

pub lost_once : (version : Version) (word : List ℕ) (lost : Lost) → lost_of version word ≡ Some lost → is_lost version lost ≡ true → lost_word lost ≡ word
lost_once version word lost h fits = elim (pick (is_number word) (Some (One (value_of word))) _ lost h) [
  | inl p ↦ let e = inner (One (value_of word)) lost p.1 in ap lost_word (sym e) ∙ replica_once version word p.0 (ap (is_lost version) e ∙ fits)
  | inr q ↦ elim (pick (bytes_eq word (codes "-")) (Some Nobody) _ lost q.1) [
    | inl p ↦ ap lost_word (sym (inner Nobody lost p.1)) ∙ sym (same word (codes "-") p.0)
    | inr r ↦ in_once version word lost r.1 fits
  ]
]

bare_once : (kind : List ℕ) (how : How) → how_of (kind ∷ []) ≡ Some how → how_words how ≡ kind ∷ []
bare_once kind how h = elim (pick (bytes_eq kind (codes "deadlock")) (Some Deadlock) _ how h) [
  | inl p ↦ ap how_words (sym (inner Deadlock how p.1)) ∙ ap (λ k. k ∷ []) (sym (same kind (codes "deadlock") p.0))
  | inr q ↦ elim (pick (bytes_eq kind (codes "differ")) (Some Differ) _ how q.1) [
    | inl p ↦ ap how_words (sym (inner Differ how p.1)) ∙ ap (λ k. k ∷ []) (sym (same kind (codes "differ") p.0))
    | inr q ↦ let p = chosen (bytes_eq kind (codes "no-majority")) (Some NoMajority) how q.1 in
        ap how_words (sym (inner NoMajority how p.1)) ∙ ap (λ k. k ∷ []) (sym (same kind (codes "no-majority") p.0))
  ]
]

trap_once : (number : List ℕ) (how : How) → is_number number ≡ true → (found : Option TrapCause) → trap_of (value_of number) ≡ found → trapped_by found ≡ how → is_how how ≡ true → how_words how ≡ codes "trap" ∷ number ∷ []
trap_once number how plain (Some cause) found e fits =
    let s = trap-once (value_of number) cause found in
    ap how_words (sym e) ∙ (ap (λ n. codes "trap" ∷ decimal n ∷ []) s ∙ ap (λ w. codes "trap" ∷ w ∷ []) (once 1 9 number (omega arith) plain (ap (within 1 9) (sym s) ∙ number-within cause)))
trap_once number how plain None found e fits = absurd (false≢true (ap is_how e ∙ fits))

numbered_once : (kind number : List ℕ) (how : How) → how_of (kind ∷ number ∷ []) ≡ Some how → is_how how ≡ true → how_words how ≡ kind ∷ number ∷ []
numbered_once kind number how h fits =
    let n = chosen (is_number number) _ how h in
    elim (pick (bytes_eq kind (codes "exit")) (Some (Exit (value_of number))) _ how n.1) [
      | inl p ↦ let e = inner (Exit (value_of number)) how p.1 in
          ap how_words (sym e) ∙ rw (same kind (codes "exit") p.0, once 0 255 number (omega arith) n.0 (ap is_how e ∙ fits)) refl
      | inr q ↦ elim (pick (bytes_eq kind (codes "trap")) (Some (trapped_by (trap_of (value_of number)))) _ how q.1) [
        | inl p ↦ let e = inner (trapped_by (trap_of (value_of number))) how p.1 in
            trap_once number how n.0 (trap_of (value_of number)) refl e fits ∙ ap (λ k. k ∷ number ∷ []) (sym (same kind (codes "trap") p.0))
        | inr q ↦ let p = chosen (bytes_eq kind (codes "sink")) (Some (Sink (value_of number))) how q.1 in
            let e = inner (Sink (value_of number)) how p.1 in
            ap how_words (sym e) ∙ rw (same kind (codes "sink") p.0, once 0 4095 number (omega arith) n.0 (ap is_how e ∙ fits)) refl
      ]
    ]

limit_once : (kind steps next : List ℕ) (how : How) → how_of (kind ∷ steps ∷ next ∷ []) ≡ Some how → is_how how ≡ true → how_words how ≡ kind ∷ steps ∷ next ∷ []
limit_once kind steps next how h fits =
    let p = chosen (bytes_eq kind (codes "limit") && is_number steps && is_number next) (Some (Limit (value_of steps) (value_of next))) how h in
    let two = and_parts (bytes_eq kind (codes "limit") && is_number steps) (is_number next) p.0 in
    let one = and_parts (bytes_eq kind (codes "limit")) (is_number steps) two.0 in
    let e = inner (Limit (value_of steps) (value_of next)) how p.1 in
    let f = and_parts (within 0 (10 ^ 12) (value_of steps)) (within 0 (10 ^ 12) (value_of next)) (ap is_how e ∙ fits) in
    ap how_words (sym e) ∙ rw (same kind (codes "limit") one.0, once 0 (10 ^ 12) steps (omega arith) one.1 f.0, once 0 (10 ^ 12) next (omega arith) two.1 f.1) refl

pub how_once : (words : List (List ℕ)) (how : How) → how_of words ≡ Some how → is_how how ≡ true → how_words how ≡ words
how_once [] how h fits = absurd (cc)
how_once (kind ∷ []) how h fits = bare_once kind how h
how_once (kind ∷ number ∷ []) how h fits = numbered_once kind number how h fits
how_once (kind ∷ steps ∷ next ∷ []) how h fits = limit_once kind steps next how h fits
how_once (a ∷ b ∷ c ∷ d ∷ words) how h fits = absurd (cc)
