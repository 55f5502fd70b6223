-- What a sink took of a text.
use Rattle.std.proofs.Common.{◌≡◌, ℕ, List, [], ◌∷◌, ◌++◌, ◌-◌, length, take, drop, Option, Some, None, Result, Ok, Err, OnOk, OnErr, arith, refl, sym, ap, ◌∙◌, subst, append_assoc}
use Rattle.std.proofs.lemmas.List.{append-nil, take-append-drop, take_all, length-drop}
use Rattle.ro_io.specs.Outside.{more}
use Rattle.ro_journal.specs.declared.Entry.{Entry}
use Rattle.ro_settings.specs.declared.Mode.{Mode}
use Rattle.ro_journal_text.specs.Texts.{entry_text, entries_text}
use Rattle.ro_report.specs.Report.{journal_part, report_text, answer_text}
use Rattle.ro_report.specs.declared.answers.Answer.{Answer}
use Rattle.ro_top.specs.Top.{TakesFront, summary_part}

pub more_more : (held : Option (List ℕ)) (a b : List ℕ) → more (more held a) b ≡ more held (a ++ b)
more_more None a b = refl
more_more (Some bytes) a b = ap (λ (x : List ℕ). Some x) (append_assoc bytes a b)

pub more_none : (held : Option (List ℕ)) → more held [] ≡ held
more_none None = refl
more_none (Some bytes) = ap (λ (x : List ℕ). Some x) (append-nil bytes)

-- a front of a text is one of a longer text
pub front_longer : (old new : Option (List ℕ)) (text more_text : List ℕ) → TakesFront old new text → TakesFront old new (text ++ more_text)
front_longer old new text more_text t = record {
  front = t.front;
  rest = t.rest ++ more_text;
  text_is = ap (λ (x : List ℕ). x ++ more_text) t.text_is ∙ append_assoc t.front t.rest more_text;
  took = t.took;
}

-- a text and a front of another
pub front_behind : (old mid new : Option (List ℕ)) (text other : List ℕ) → mid ≡ more old text → TakesFront mid new other → TakesFront old new (text ++ other)
front_behind old mid new text other whole t = record {
  front = text ++ t.front;
  rest = t.rest;
  text_is = ap (λ (x : List ℕ). text ++ x) t.text_is ∙ sym (append_assoc text t.front t.rest);
  took = t.took ∙ ap (λ (h : Option (List ℕ)). more h t.front) whole ∙ more_more old text t.front;
}

pub report_parts : (mode : Mode) (journal : List Entry) (bytes : ℕ) (answer : Answer) → summary_part mode journal bytes ++ answer_text answer ≡ report_text mode journal bytes answer
report_parts mode [] bytes answer = refl
report_parts mode (entry ∷ journal) bytes answer = refl

-- what follows of a success, or of a failure
pub on_ok : {T E P Q : Type 0} (r : Result T E) → (P → Q) → OnOk r P → OnOk r Q
on_ok (Ok x) f p = f p
on_ok (Err e) f p = tt

pub on_err : {T E P Q : Type 0} (r : Result T E) → (P → Q) → OnErr r P → OnErr r Q
on_err (Ok x) f p = tt
on_err (Err e) f p = f p

pub always_on_err : {T E P : Type 0} (r : Result T E) → P → OnErr r P
always_on_err (Ok x) p = tt
always_on_err (Err e) p = p

-- some of the rest was given
pub given_more : (bytes given rest : List ℕ) (n m : ℕ) → bytes ≡ given ++ rest → m ≡ length rest - n → bytes ≡ (given ++ take n rest) ++ take m (drop n rest)
given_more bytes given rest n m e is =
    e ∙ ap (λ (x : List ℕ). given ++ x) (sym (take-append-drop n rest)) ∙ sym (append_assoc given (take n rest) (drop n rest))
    ∙ ap (λ (x : List ℕ). (given ++ take n rest) ++ x) (sym (take_all m (drop n rest) (let l = length-drop n rest in omega (arith, l, is))))

pub told_more : (old held new : Option (List ℕ)) (given piece : List ℕ) → held ≡ more old given → new ≡ more held piece → new ≡ more old (given ++ piece)
told_more old held new given piece e f = f ∙ ap (λ (h : Option (List ℕ)). more h piece) e ∙ more_more old given piece

-- one entry more of a journal was told
pub entry_more : (journal rest behind : List Entry) (given : List ℕ) (entry : Entry) → rest ≡ entry ∷ behind → entries_text journal ≡ given ++ entries_text rest → entries_text journal ≡ (given ++ entry_text entry) ++ entries_text behind
entry_more journal rest behind given entry is e = e ∙ ap (λ (es : List Entry). given ++ entries_text es) is ∙ sym (append_assoc given (entry_text entry) (entries_text behind))

-- a front of an entry's line is one of the journal's lines
pub entry_front : (old held new : Option (List ℕ)) (journal rest behind : List Entry) (given : List ℕ) (entry : Entry) → rest ≡ entry ∷ behind → entries_text journal ≡ given ++ entries_text rest → held ≡ more old given → TakesFront held new (entry_text entry) → TakesFront old new (entries_text journal)
entry_front old held new journal rest behind given entry is e told t =
    subst (TakesFront old new) (sym (entry_more journal rest behind given entry is e)) (front_longer old new (given ++ entry_text entry) (entries_text behind) (front_behind old held new given (entry_text entry) told t))

-- a journal that is shown behind a head
pub shown_journal : (head : List ℕ) (journal : List Entry) → (journal ≡ [] → ⊥) → head ++ entries_text journal ≡ journal_part journal (Some head)
shown_journal head [] some = absurd (some refl)
shown_journal head (entry ∷ journal) some = refl

-- one that is not
pub no_journal : (journal : List Entry) → journal_part journal None ≡ []
no_journal [] = refl
no_journal (entry ∷ journal) = refl
