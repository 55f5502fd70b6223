-- Lines of too few or too many words.
use Rattle.std.proofs.Common.{ℕ, Bool, true, false, Bor, map, ◌≡◌, ◌≢◌, ◌<◌, List, [], ◌∷◌, None, Err, codes, length, cond, arith, refl, sym, ap}
use Rattle.std.specs.Str.{bytes_eq}
use Rattle.ro_journal_text.specs.declared.errors.JournalCode.TheVariants.{Form}
use Rattle.ro_journal_text.specs.declared.versions.Version.{Version}
use Rattle.ro_journal_text.specs.declared.versions.Version.TheVariants.{First, Second}
use Rattle.ro_journal_text.specs.Reading.{run_of, vote_of, scrub_of, entry_of, is_run, is_entry, ranged}

none_of : {A : Type 0} (a b c d e f g : Bool) (x : A) → cond a x (cond b x (cond c x (cond d x (cond e x (cond f x (cond g x x)))))) ≡ x
none_of true b c d e f g x = refl
none_of false true c d e f g x = refl
none_of false false true d e f g x = refl
none_of false false false true e f g x = refl
none_of false false false false true f g x = refl
none_of false false false false false true g x = refl
none_of false false false false false false true x = refl
none_of false false false false false false false x = refl

pub many_words : (version : Version) (words : List (List ℕ)) → 6 < length words → Err Form ≡ ranged (is_entry version) (entry_of version words)
many_words version [] h = absurd (omega (arith, h))
many_words version (a ∷ []) h = absurd (omega (arith, h))
many_words version (a ∷ b ∷ []) h = absurd (omega (arith, h))
many_words version (a ∷ b ∷ c ∷ []) h = absurd (omega (arith, h))
many_words version (a ∷ b ∷ c ∷ d ∷ []) h = absurd (omega (arith, h))
many_words version (a ∷ b ∷ c ∷ d ∷ e ∷ []) h = absurd (omega (arith, h))
many_words version (a ∷ b ∷ c ∷ d ∷ e ∷ f ∷ []) h = absurd (omega (arith, h))
many_words First (a ∷ b ∷ c ∷ d ∷ e ∷ f ∷ g ∷ words) h =
    sym (ap (ranged (is_entry First)) (none_of (bytes_eq a (codes "take")) (bytes_eq a (codes "put")) (bytes_eq a (codes "part")) (bytes_eq a (codes "vote")) (bytes_eq a (codes "free")) (bytes_eq a (codes "scrub")) (bytes_eq a (codes "end")) None))
many_words Second (a ∷ b ∷ c ∷ d ∷ e ∷ f ∷ g ∷ words) h =
    sym (ap (ranged (is_entry Second)) (none_of (bytes_eq a (codes "take")) (bytes_eq a (codes "put")) (bytes_eq a (codes "part")) (bytes_eq a (codes "vote")) (bytes_eq a (codes "free")) (bytes_eq a (codes "scrub")) (bytes_eq a (codes "end")) None))

pub run_fields : (version : Version) (fields : List (Bor (List ℕ))) → length fields ≢ 5 → Err Form ≡ ranged (is_run version) (run_of (map (λ word. word.now) fields))
run_fields version [] h = refl
run_fields version (a ∷ []) h = refl
run_fields version (a ∷ b ∷ []) h = refl
run_fields version (a ∷ b ∷ c ∷ []) h = refl
run_fields version (a ∷ b ∷ c ∷ d ∷ []) h = refl
run_fields version (a ∷ b ∷ c ∷ d ∷ e ∷ []) h = absurd (h refl)
run_fields version (a ∷ b ∷ c ∷ d ∷ e ∷ f ∷ fields) h = refl

pub vote_fields : (version : Version) (fields : List (Bor (List ℕ))) → length fields ≢ 5 → Err Form ≡ ranged (is_entry version) (vote_of version (map (λ word. word.now) fields))
vote_fields version [] h = refl
vote_fields version (a ∷ []) h = refl
vote_fields version (a ∷ b ∷ []) h = refl
vote_fields version (a ∷ b ∷ c ∷ []) h = refl
vote_fields version (a ∷ b ∷ c ∷ d ∷ []) h = refl
vote_fields version (a ∷ b ∷ c ∷ d ∷ e ∷ []) h = absurd (h refl)
vote_fields version (a ∷ b ∷ c ∷ d ∷ e ∷ f ∷ fields) h = refl

pub scrub_fields : (version : Version) (fields : List (Bor (List ℕ))) → length fields ≢ 2 → Err Form ≡ ranged (is_entry version) (scrub_of version (map (λ word. word.now) fields))
scrub_fields version [] h = refl
scrub_fields version (a ∷ []) h = refl
scrub_fields version (a ∷ b ∷ []) h = absurd (h refl)
scrub_fields version (a ∷ b ∷ c ∷ fields) h = refl
