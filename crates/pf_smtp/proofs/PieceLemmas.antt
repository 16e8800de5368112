-- A piece of the input is answered line by line.
use Rattle.std.proofs.Common.{◌≡◌, ℕ, ◌+◌, ◌-◌, ◌≤◌, false, true, List, [], ◌∷◌, ◌++◌, length, take, min, refl, sym, ap, subst, ◌∙◌, arith, append_assoc, append-nil}
use Rattle.std.proofs.lemmas.List.{take_min}
use Rattle.std.proofs.lemmas.List.Concat.{flat_map-append}
use Rattle.std.specs.List.{flat_map}
use Rattle.std.proofs.Math.Seq.{take-append-add}
use Rattle.pf_base.specs.Text.Lines.{lines, rest}
use Rattle.pf_base.specs.Clauses.Pieces.{onto_line, unless_line}
use Rattle.pf_base.proofs.LineEnds.{rest_of_none}
use Rattle.pf_base.specs.Outside.Objects.{joined}
use Rattle.pf_base.specs.declared.outside.texts.Texts.{Texts}
use Rattle.pf_smtp.specs.Clauses.Gathering.{AnswersLine, AnswersPiece, ComesDownTo, line_given}
use Rattle.pf_smtp.specs.Clauses.Feeding.{given, partial_after}
use Rattle.pf_smtp.specs.Session.{before, log_text, records_text, replies_text, stays, steps, texts_of}
use Rattle.pf_smtp.specs.Step.{Step}
use Rattle.pf_smtp.specs.Text.{text_of, record_text, log_line}
use Rattle.pf_smtp.specs.declared.record_line.RecordLine.{RecordLine}
use Rattle.pf_smtp.specs.declared.progress.Progress.{Progress}
use Rattle.pf_smtp.specs.declared.state.Setup.{Setup}
use Rattle.pf_smtp.specs.declared.state.State.{State}
use Rattle.pf_smtp.proofs.StepLemmas.{steps_ended, onto_line_nothing}

-- what a buffer keeps of more bytes
pub kept_prefix : (old bytes : List ℕ) → length old ≤ 2050 → old ++ take (min (2050 - length old) (length bytes)) bytes ≡ take 2050 (old ++ bytes)
kept_prefix old bytes h =
    let n : length old + (2050 - length old) ≡ 2050 = omega arith in
    ap (λ l. old ++ l) (take_min (2050 - length old) bytes) ∙ sym (take-append-add old bytes (2050 - length old)) ∙ ap (λ k. take k (old ++ bytes)) n

pub given_none : (s : Progress) (left : List ℕ) → lines left ≡ [] → given s left ≡ stays s.state
unfolding steps
given_none s left e = rw e

pub partial_none : (s : Progress) (left : List ℕ) → lines left ≡ [] → partial_after s left ≡ take 2050 (s.partial ++ left)
partial_none s left e = rw e

pub given_ended : (s : Progress) (left : List ℕ) → s.state.ended ≡ true → given s left ≡ stays s.state
given_ended s left e = steps_ended s.setup s.state (onto_line s.partial (lines left)) e

pub replies_text-before : (setup : Setup) (a b : Step) → replies_text setup (before a b) ≡ replies_text setup a ++ replies_text setup b
replies_text-before setup a b = flat_map-append (text_of setup.host) a.replies b.replies

pub records_text-before : (a b : Step) → records_text (before a b) ≡ records_text a ++ records_text b
records_text-before a b = flat_map-append record_text a.records b.records

pub log_text-before : (a b : Step) → log_text (before a b) ≡ log_text a ++ log_text b
log_text-before a b = flat_map-append log_line a.entries b.entries

-- no verb of today gives a record line
pub no_records : (records : List RecordLine) → flat_map record_text records ≡ []
no_records [] = refl
no_records (line ∷ records) = elim line [ ]

pub no_record : {before now : Texts} {old new : Progress} {piece : List ℕ} → before.mail ≡ [] → AnswersPiece before now old new piece → now.mail ≡ []
no_record {old = old} {piece = piece} none answers =
    ap (λ t. t.mail) answers.texts ∙ ap (λ m. m ++ records_text (given old piece)) none ∙ no_records (given old piece).records

-- what two steps in turn have it write
pub texts-before : (setup : Setup) (a b : Step) → texts_of setup (before a b) ≡ joined (texts_of setup a) (texts_of setup b)
texts-before setup a b = rw (replies_text-before setup a b, records_text-before a b, log_text-before a b) refl

joined_none : (t : Texts) (setup : Setup) (state : State) → joined t (texts_of setup (stays state)) ≡ t
joined_none t setup state = rw (append-nil t.out, append-nil t.mail, append-nil t.log) refl

pub joined_assoc : (a b c : Texts) → joined (joined a b) c ≡ joined a (joined b c)
joined_assoc a b c = rw (append_assoc a.out b.out c.out, append_assoc a.mail b.mail c.mail, append_assoc a.log b.log c.log) refl

pub same_texts : {a b : Texts} → a.out ≡ b.out → a.mail ≡ b.mail → a.log ≡ b.log → a ≡ b
same_texts {a} {b} out mail log =
    ap (λ x. record a { out = x }) out ∙ ap (λ x. record { out = b.out; mail = x; log = a.log }) mail ∙ ap (λ x. record b { log = x }) log

-- the progress of a session after a line
abbrev pub after_line : Progress → List ℕ → Progress
after_line s line = record { setup = s.setup; state = (line_given s line).next; partial = [] }

given_line : (s : Progress) (left line after : List ℕ) → lines left ≡ line ∷ lines after → s.state.ended ≡ false
    → given s left ≡ before (line_given s line) (given (after_line s line) after)
unfolding steps
given_line s left line after e going = rw (e, going, onto_line_nothing (lines after))

partial_line : (s : Progress) (left line after : List ℕ) → lines left ≡ line ∷ lines after → rest left ≡ rest after → partial_after s left ≡ partial_after (after_line s line) after
partial_line s left line after e r = rw (e, r) (ap (take 2050) (none (lines after) (rest_of_none after))) where
  none : (L : List (List ℕ)) → (L ≡ [] → rest after ≡ after) → rest after ≡ unless_line L after (rest after)
  none [] h = h refl
  none (l ∷ ls) h = refl

-- nothing is left to answer
pub answers_at_end : {b n : Texts} {old new : Progress} {piece left : List ℕ} → ComesDownTo b n old new piece left → given new left ≡ stays new.state
    → (partial : List ℕ) → (new.state.ended ≡ false → partial ≡ partial_after new left) → AnswersPiece b n old (record { setup = new.setup; state = new.state; partial = partial }) piece
answers_at_end {b} {n} {old} {new} {piece} {left} c e partial h = record {
  texts = sym (c.texts ∙ ap (λ g. joined n (texts_of new.setup g)) e ∙ joined_none n new.setup new.state);
  setup = c.setup;
  state = sym (c.state ∙ ap (λ g. g.next) e);
  partial = λ going. h going ∙ sym c.partial;
}

-- one more line was answered
pub comes_down_line : {b n m : Texts} {old s t : Progress} {piece left line : List ℕ} (after : List ℕ) → ComesDownTo b n old s piece left → AnswersLine n m s t line
    → lines left ≡ line ∷ lines after → rest left ≡ rest after → s.state.ended ≡ false → ComesDownTo b m old t piece after
comes_down_line {b} {n} {m} {old} {s} {t} {piece} {left} {line} after c a e r going =
    let first = line_given s line in
    let next = given (after_line s line) after in
    let g = given_line s left line after e going in
    subst (λ u. ComesDownTo b m old u piece after) (sym a.progress) (record {
      texts = c.texts ∙ ap (λ x. joined n (texts_of s.setup x)) g ∙ ap (joined n) (texts-before s.setup first next)
          ∙ sym (joined_assoc n (texts_of s.setup first) (texts_of s.setup next)) ∙ ap (λ x. joined x (texts_of s.setup next)) (sym a.texts);
      setup = c.setup;
      state = c.state ∙ ap (λ x. x.next) g;
      partial = c.partial ∙ partial_line s left line after e r;
    })
