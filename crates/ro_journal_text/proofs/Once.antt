-- A line that is read is the line of the entry that is read.
use Rattle.std.proofs.Common.{ℕ, Bool, true, false, ◌≡◌, ◌&&◌, inl, inr, List, [], ◌∷◌, Option, Some, None, Ok, Err, codes, cond, arith, refl, sym, ap, ◌∙◌}
use Rattle.std.specs.Option.{option_map}
use Rattle.std.specs.Str.{bytes_eq}
use Rattle.std.proofs.lemmas.Bool.{and_parts}
use Rattle.std.proofs.lemmas.List.Splits.{join_with_byte-slice_split}
use Rattle.ro_text.specs.Numbers.{is_number, value_of, within}
use Rattle.ro_text.specs.Lines.{spaced, words_of}
use Rattle.ro_journal.specs.declared.Did.{Did}
use Rattle.ro_journal.specs.declared.How.{How}
use Rattle.ro_journal.specs.Leases.{lease_to}
use Rattle.ro_journal.specs.declared.Entry.{Entry}
use Rattle.ro_journal.specs.declared.Entry.TheVariants.{Take, Put, Part, Vote, Free, Scrub, End}
use Rattle.ro_journal.specs.declared.losers.Lost.{Lost}
use Rattle.ro_journal_text.specs.declared.entries.Run.{Run}
use Rattle.ro_journal_text.specs.declared.versions.Version.{Version}
use Rattle.ro_journal_text.specs.declared.versions.Version.TheVariants.{First, Second}
use Rattle.ro_journal_text.specs.declared.errors.JournalCode.TheVariants.{Range}
use Rattle.ro_journal_text.specs.Texts.{run_words, entry_words}
use Rattle.ro_journal_text.specs.Reading.{did_of, has_did, lost_of, how_of, take_of, run_of, put_of, part_of, vote_with, vote_of, free_of, scrub_in, scrub_of, end_of, entry_of, most_replica, is_lost, is_run, is_entry, ranged, line_entry}
use Rattle.ro_journal_text.proofs.Wording.{same, pick, chosen, inner, once, replica_once, did_once, lost_once, how_once}

take_once : (version : Version) (fields : List (List ℕ)) (entry : Entry) → take_of fields ≡ Some entry → is_entry version entry ≡ true → entry_words entry ≡ codes "take" ∷ fields
take_once version [] entry h fits = absurd (cc)
take_once version (a ∷ []) entry h fits = absurd (cc)
take_once version (a ∷ b ∷ []) entry h fits = absurd (cc)
take_once version (driver ∷ replica ∷ thread ∷ []) entry h fits =
    let p = chosen (is_number driver && is_number replica && is_number thread) (Some (Take (lease_to (value_of driver) (value_of replica) (value_of thread)))) entry h in
    let e = inner (Take (lease_to (value_of driver) (value_of replica) (value_of thread))) entry p.1 in
    let two = and_parts (is_number driver && is_number replica) (is_number thread) p.0 in
    let one = and_parts (is_number driver) (is_number replica) two.0 in
    let g = and_parts (within 0 7 (value_of driver) && within 0 (most_replica version) (value_of replica)) (within 0 15 (value_of thread)) (ap (is_entry version) e ∙ fits) in
    let f = and_parts (within 0 7 (value_of driver)) (within 0 (most_replica version) (value_of replica)) g.0 in
    ap entry_words (sym e) ∙ rw (once 0 7 driver (omega arith) one.0 f.0, replica_once version replica one.1 f.1, once 0 15 thread (omega arith) two.1 g.1) refl
take_once version (a ∷ b ∷ c ∷ d ∷ fields) entry h fits = absurd (cc)

run_once : (version : Version) (fields : List (List ℕ)) (run : Run) → run_of fields ≡ Some run → is_run version run ≡ true → run_words run.lease run.count run.hit ≡ fields
run_once version [] run h fits = absurd (cc)
run_once version (a ∷ []) run h fits = absurd (cc)
run_once version (a ∷ b ∷ []) run h fits = absurd (cc)
run_once version (a ∷ b ∷ c ∷ []) run h fits = absurd (cc)
run_once version (a ∷ b ∷ c ∷ d ∷ []) run h fits = absurd (cc)
run_once version (driver ∷ replica ∷ thread ∷ count ∷ hit ∷ []) run h fits =
    let made : Run = record { lease = lease_to (value_of driver) (value_of replica) (value_of thread); count = value_of count; hit = value_of hit } in
    let p = chosen (is_number driver && is_number replica && is_number thread && is_number count && is_number hit) (Some made) run h in
    let e = inner made run p.1 in
    let four = and_parts (is_number driver && is_number replica && is_number thread && is_number count) (is_number hit) p.0 in
    let three = and_parts (is_number driver && is_number replica && is_number thread) (is_number count) four.0 in
    let two = and_parts (is_number driver && is_number replica) (is_number thread) three.0 in
    let one = and_parts (is_number driver) (is_number replica) two.0 in
    let j = and_parts (within 0 7 (value_of driver) && within 0 (most_replica version) (value_of replica) && within 0 15 (value_of thread) && within 0 65536 (value_of count)) (within 0 256 (value_of hit)) (ap (is_run version) e ∙ fits) in
    let i = and_parts (within 0 7 (value_of driver) && within 0 (most_replica version) (value_of replica) && within 0 15 (value_of thread)) (within 0 65536 (value_of count)) j.0 in
    let g = and_parts (within 0 7 (value_of driver) && within 0 (most_replica version) (value_of replica)) (within 0 15 (value_of thread)) i.0 in
    let f = and_parts (within 0 7 (value_of driver)) (within 0 (most_replica version) (value_of replica)) g.0 in
    ap (λ (r : Run). run_words r.lease r.count r.hit) (sym e) ∙ rw (once 0 7 driver (omega arith) one.0 f.0, replica_once version replica one.1 f.1, once 0 15 thread (omega arith) two.1 g.1, once 0 65536 count (omega arith) three.1 i.1, once 0 256 hit (omega arith) four.1 j.1) refl
run_once version (a ∷ b ∷ c ∷ d ∷ e ∷ f ∷ fields) run h fits = absurd (cc)

put_once : (version : Version) (fields : List (List ℕ)) (entry : Entry) → put_of fields ≡ Some entry → is_entry version entry ≡ true → entry_words entry ≡ codes "put" ∷ fields
put_once version fields entry h fits = by (run_of fields) refl h
  where
    by : (read : Option Run) → run_of fields ≡ read → option_map (λ run. Put run.lease run.count run.hit) read ≡ Some entry → entry_words entry ≡ codes "put" ∷ fields
    by None r q = absurd (cc)
    by (Some run) r q =
        let e = inner (Put run.lease run.count run.hit) entry q in
        ap entry_words (sym e) ∙ ap (λ ws. codes "put" ∷ ws) (run_once version fields run r (ap (is_entry version) e ∙ fits))

part_once : (version : Version) (fields : List (List ℕ)) (entry : Entry) → part_of version fields ≡ Some entry → is_entry version entry ≡ true → entry_words entry ≡ codes "part" ∷ fields
part_once First fields entry h fits = absurd (cc)
part_once Second fields entry h fits = by (run_of fields) refl h
  where
    by : (read : Option Run) → run_of fields ≡ read → option_map (λ run. Part run.lease run.count run.hit) read ≡ Some entry → entry_words entry ≡ codes "part" ∷ fields
    by None r q = absurd (cc)
    by (Some run) r q =
        let e = inner (Part run.lease run.count run.hit) entry q in
        ap entry_words (sym e) ∙ ap (λ ws. codes "part" ∷ ws) (run_once Second fields run r (ap (is_entry Second) e ∙ fits))

voted : (t n w : ℕ) (lost : Option Lost) (did : Option Did) (entry : Entry) → vote_with t n w lost did ≡ Some entry → (l : Lost) × ((d : Did) × (lost ≡ Some l) × (did ≡ Some d) × (Vote t n w l d ≡ entry))
voted t n w None did entry h = absurd (cc)
voted t n w (Some l) None entry h = absurd (cc)
voted t n w (Some l) (Some d) entry h = (l, (d, refl, refl, inner (Vote t n w l d) entry h))

vote_once : (version : Version) (fields : List (List ℕ)) (entry : Entry) → vote_of version fields ≡ Some entry → is_entry version entry ≡ true → entry_words entry ≡ codes "vote" ∷ fields
vote_once version [] entry h fits = absurd (cc)
vote_once version (a ∷ []) entry h fits = absurd (cc)
vote_once version (a ∷ b ∷ []) entry h fits = absurd (cc)
vote_once version (a ∷ b ∷ c ∷ []) entry h fits = absurd (cc)
vote_once version (a ∷ b ∷ c ∷ d ∷ []) entry h fits = absurd (cc)
vote_once version (thread ∷ count ∷ won ∷ lost ∷ did ∷ []) entry h fits =
    let p = chosen (is_number thread && is_number count && is_number won) (vote_with (value_of thread) (value_of count) (value_of won) (lost_of version lost) (did_of version did)) entry h in
    let two = and_parts (is_number thread && is_number count) (is_number won) p.0 in
    let one = and_parts (is_number thread) (is_number count) two.0 in
    let v = voted (value_of thread) (value_of count) (value_of won) (lost_of version lost) (did_of version did) entry p.1 in
    let l = v.0 in
    let d = v.1.0 in
    let e = v.1.3 in
    let j = and_parts (within 0 15 (value_of thread) && within 0 1000000 (value_of count) && within 0 (most_replica version) (value_of won) && is_lost version l) (has_did version d) (ap (is_entry version) e ∙ fits) in
    let i = and_parts (within 0 15 (value_of thread) && within 0 1000000 (value_of count) && within 0 (most_replica version) (value_of won)) (is_lost version l) j.0 in
    let g = and_parts (within 0 15 (value_of thread) && within 0 1000000 (value_of count)) (within 0 (most_replica version) (value_of won)) i.0 in
    let f = and_parts (within 0 15 (value_of thread)) (within 0 1000000 (value_of count)) g.0 in
    ap entry_words (sym e) ∙ rw (once 0 15 thread (omega arith) one.0 f.0, once 0 1000000 count (omega arith) one.1 f.1, replica_once version won two.1 g.1, lost_once version lost l v.1.1 i.1, did_once version did d v.1.2) refl
vote_once version (a ∷ b ∷ c ∷ d ∷ e ∷ f ∷ fields) entry h fits = absurd (cc)

free_once : (version : Version) (fields : List (List ℕ)) (entry : Entry) → free_of fields ≡ Some entry → is_entry version entry ≡ true → entry_words entry ≡ codes "free" ∷ fields
free_once version [] entry h fits = absurd (cc)
free_once version (thread ∷ []) entry h fits =
    let p = chosen (is_number thread) (Some (Free (value_of thread))) entry h in
    let e = inner (Free (value_of thread)) entry p.1 in
    ap entry_words (sym e) ∙ rw (once 0 15 thread (omega arith) p.0 (ap (is_entry version) e ∙ fits)) refl
free_once version (a ∷ b ∷ fields) entry h fits = absurd (cc)

scrub_in_once : (version : Version) (won lost : List ℕ) (entry : Entry) → scrub_in version won lost ≡ Some entry → is_entry version entry ≡ true → entry_words entry ≡ codes "scrub" ∷ won ∷ lost ∷ []
scrub_in_once First won lost entry h fits = absurd (cc)
scrub_in_once Second won lost entry h fits =
    let p = chosen (is_number won) (option_map (λ l. Scrub (value_of won) l) (lost_of Second lost)) entry h in
    by p.0 (lost_of Second lost) refl p.1
  where
    by : is_number won ≡ true → (read : Option Lost) → lost_of Second lost ≡ read → option_map (λ l. Scrub (value_of won) l) read ≡ Some entry → entry_words entry ≡ codes "scrub" ∷ won ∷ lost ∷ []
    by n None r q = absurd (cc)
    by n (Some l) r q =
        let e = inner (Scrub (value_of won) l) entry q in
        let f = and_parts (within 0 4 (value_of won)) (is_lost Second l) (ap (is_entry Second) e ∙ fits) in
        ap entry_words (sym e) ∙ rw (replica_once Second won n f.0, lost_once Second lost l r f.1) refl

scrub_once : (version : Version) (fields : List (List ℕ)) (entry : Entry) → scrub_of version fields ≡ Some entry → is_entry version entry ≡ true → entry_words entry ≡ codes "scrub" ∷ fields
scrub_once version [] entry h fits = absurd (cc)
scrub_once version (a ∷ []) entry h fits = absurd (cc)
scrub_once version (won ∷ lost ∷ []) entry h fits = scrub_in_once version won lost entry h fits
scrub_once version (a ∷ b ∷ c ∷ fields) entry h fits = absurd (cc)

end_once : (version : Version) (fields : List (List ℕ)) (entry : Entry) → end_of fields ≡ Some entry → is_entry version entry ≡ true → entry_words entry ≡ codes "end" ∷ fields
end_once version fields entry h fits = by (how_of fields) refl h
  where
    by : (read : Option How) → how_of fields ≡ read → option_map (λ how. End how) read ≡ Some entry → entry_words entry ≡ codes "end" ∷ fields
    by None r q = absurd (cc)
    by (Some how) r q =
        let e = inner (End how) entry q in
        ap entry_words (sym e) ∙ ap (λ ws. codes "end" ∷ ws) (how_once fields how r (ap (is_entry version) e ∙ fits))

entry_once : (version : Version) (words : List (List ℕ)) (entry : Entry) → entry_of version words ≡ Some entry → is_entry version entry ≡ true → entry_words entry ≡ words
entry_once version [] entry h fits = absurd (cc)
entry_once version (kind ∷ fields) entry h fits = elim (pick (bytes_eq kind (codes "take")) (take_of fields) _ entry h) [
  | inl p ↦ take_once version fields entry p.1 fits ∙ ap (λ k. k ∷ fields) (sym (same kind (codes "take") p.0))
  | inr q ↦ elim (pick (bytes_eq kind (codes "put")) (put_of fields) _ entry q.1) [
    | inl p ↦ put_once version fields entry p.1 fits ∙ ap (λ k. k ∷ fields) (sym (same kind (codes "put") p.0))
    | inr q ↦ elim (pick (bytes_eq kind (codes "part")) (part_of version fields) _ entry q.1) [
      | inl p ↦ part_once version fields entry p.1 fits ∙ ap (λ k. k ∷ fields) (sym (same kind (codes "part") p.0))
      | inr q ↦ elim (pick (bytes_eq kind (codes "vote")) (vote_of version fields) _ entry q.1) [
        | inl p ↦ vote_once version fields entry p.1 fits ∙ ap (λ k. k ∷ fields) (sym (same kind (codes "vote") p.0))
        | inr q ↦ elim (pick (bytes_eq kind (codes "free")) (free_of fields) _ entry q.1) [
          | inl p ↦ free_once version fields entry p.1 fits ∙ ap (λ k. k ∷ fields) (sym (same kind (codes "free") p.0))
          | inr q ↦ elim (pick (bytes_eq kind (codes "scrub")) (scrub_of version fields) _ entry q.1) [
            | inl p ↦ scrub_once version fields entry p.1 fits ∙ ap (λ k. k ∷ fields) (sym (same kind (codes "scrub") p.0))
            | inr q ↦ let p = chosen (bytes_eq kind (codes "end")) (end_of fields) entry q.1 in
                end_once version fields entry p.1 fits ∙ ap (λ k. k ∷ fields) (sym (same kind (codes "end") p.0))
          ]
        ]
      ]
    ]
  ]
]

ranged_is : (version : Version) (read : Option Entry) (entry : Entry) → ranged (is_entry version) read ≡ Ok entry → (read ≡ Some entry) × (is_entry version entry ≡ true)
ranged_is version None entry h = absurd (cc)
ranged_is version (Some x) entry h = by (is_entry version x) refl h
  where
    by : (b : Bool) → is_entry version x ≡ b → cond b (Ok x) (Err Range) ≡ Ok entry → (Some x ≡ Some entry) × (is_entry version entry ≡ true)
    by true t h = let e : x ≡ entry = cc in (ap Some e, ap (is_entry version) (sym e) ∙ t)
    by false t h = absurd (cc)

-- the line of the entry that is read from it
pub line_once : (version : Version) (line : List ℕ) (entry : Entry) → line_entry version line ≡ Ok entry → (spaced (entry_words entry) ≡ line) × (is_entry version entry ≡ true)
line_once version line entry h =
    let read = ranged_is version (entry_of version (words_of line)) entry h in
    (ap spaced (entry_once version (words_of line) entry read.0 read.1) ∙ join_with_byte-slice_split 32 line, read.1)
