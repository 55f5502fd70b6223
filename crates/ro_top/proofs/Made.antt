-- What comes of a draw, and of a made executable.
use Rattle.std.proofs.Common.{◌≡◌, ◌⊎◌, inl, inr, ℕ, List, [], Option, Some, None, refl, sym, ap, ◌∙◌, subst}
use Rattle.ro_io.specs.Outside.{Files, more}
use Rattle.ro_image.specs.Image.{Image, segments_in}
use Rattle.ro_image.specs.Executable.{bad_code, image_of}
use Rattle.ro_faults.specs.Texts.{faults_text}
use Rattle.ro_inject.specs.Draws.{faults_drawn}
use Rattle.ro_journal.specs.Plan.{outcome_of}
use Rattle.ro_legal.specs.Core.{Job}
use Rattle.ro_legal.specs.Rules.{output_of}
use Rattle.ro_report.specs.declared.answers.FileKind.TheVariants.{Exe}
use Rattle.ro_report.specs.declared.answers.Answer.{Answer}
use Rattle.ro_report.specs.declared.answers.Answer.TheVariants.{NoMemory}
use Rattle.ro_words.specs.Commands.{AskedBench, AskedInject}
use Rattle.ro_files.specs.Files.{IsContent, bench_job}
use Rattle.ro_top.specs.Ends.{IsOutcome, WritesText}
use Rattle.ro_top.specs.Top.{Came, EndsBench, IsBench, IsRunOf, OfItsDraw}

-- the faults of an image
abbrev drawn_in : AskedInject → Image → List ℕ
drawn_in asked image = faults_text (faults_drawn (segments_in image.ranges) asked.replica asked.seed asked.count)

pub is_draw : (files : Option Files) (asked : AskedInject) (image : Image) (file : List ℕ) → IsContent files Exe (Some asked.executable) file → bad_code file ≡ None
    → image ≡ image_of file → (old new : Option (List ℕ)) (before after : ℕ) (answer : Answer)
    → ((answer ≡ NoMemory) × (new ≡ old) × (after ≡ before)) ⊎ WritesText (drawn_in asked image) old new before after answer
    → OfItsDraw files asked old new before after answer
is_draw files asked image file content accepted is old new before after answer (inl none) = inl (inr none.0, none.1, none.2)
is_draw files asked image file content accepted is old new before after answer (inr writes) = inr (
  faults_drawn (segments_in image.ranges) asked.replica asked.seed asked.count,
  record {
    executable = file;
    executable_is = content;
    accepted = accepted;
    faults_are = ap (λ (i : Image). faults_drawn (segments_in i.ranges) asked.replica asked.seed asked.count) is;
  },
  writes,
)

some_text : (one other : List ℕ) → ◌≡◌ {A = Option (List ℕ)} (Some one) (Some other) → one ≡ other
some_text one other e = cc

module _ (asked : AskedBench) (job : Job) (came : Came) (same : job ≡ bench_job asked) (outcome : IsOutcome came.answer (outcome_of came.journal)) (ran : IsRunOf came job) where
  module _ (start last : List ℕ) (empty : start ≡ []) (sure : came.sure ≡ 64) (held_before : came.held_before ≡ Some start) (held_after : came.held_after ≡ Some last) where
    none_held : came.held_before ≡ Some []
    none_held = held_before ∙ ap (λ (bytes : List ℕ). Some bytes) empty

    its_output : last ≡ output_of (bench_job asked) came.journal
    its_output = some_text last (output_of (bench_job asked) came.journal)
        (sym held_after ∙ ran.output ∙ ap (λ (h : Option (List ℕ)). more h (output_of job came.journal)) none_held
        ∙ ap (λ (j : Job). Some (output_of j came.journal)) same)

    pub is_bench : (old new : Option (List ℕ)) (before after : ℕ) (answer : Answer) → EndsBench asked came.answer last old new before after answer
        → IsBench asked came.journal came.views old new before after answer
    is_bench old new before after answer ends = record {
      inner = came;
      run = subst (IsRunOf came) same ran;
      empty = none_held;
      sure = sure;
      journal_is = refl;
      views_are = refl;
      outcome = outcome;
      ends = subst (λ (bytes : List ℕ). EndsBench asked came.answer bytes old new before after answer) its_output ends;
    }
