-- Lines of bytes, and the answers to them, one line more at a time.
use Rattle.std.proofs.Common.{◌≡◌, ◌≢◌, ℕ, List, [], ◌∷◌, ◌++◌, Option, Result, Ok, Err, OnOk, OnErr, IfErr, refl, sym, ap, subst, ◌∙◌, inl, inr, append-nil, append_assoc}
use Rattle.std.specs.List.{flat_map}
use Rattle.std.proofs.KnownBytes.{Appends-trans}
use Rattle.std.proofs.lemmas.Bool.Decides.{eqb_tells}
use Rattle.std.proofs.lemmas.Grind.{flat_map-append}
use Rattle.std.proofs.lemmas.List.Elements.{All-nil, All-cons, All-head, All-tail, All-append, All-push}
use Rattle.cs_judge.specs.declared.answers.LinesOutcome.{LinesOutcome}
use Rattle.cs_judge.specs.declared.answers.LinesOutcome.TheVariants.{AllValid, SomeInvalid, SomeRefused}
use Rattle.cs_tool.specs.declared.rules.Rules.{Rules}
use Rattle.cs_judge.specs.Answering.{BeginsWith}
use Rattle.cs_judge.specs.Lines.{Answer, IsLine, Splits, last_line, AreFirstLines, IsLineAnswer, AreAnswers, answer_line, answers_text, worse, outcome_of_answer, outcome_of, Hands}
use Rattle.cs_tool.specs.Runs.{line_of}

-- ---- answers

pub answers_push : (rules : Rules) (lines : List (List ℕ)) (answers : List Answer) (line : List ℕ) (a : Answer) → AreAnswers rules lines answers → IsLineAnswer rules line a → AreAnswers rules (lines ++ line ∷ []) (answers ++ a ∷ [])
answers_push rules [] [] line a h is = (is, tt)
answers_push rules [] (b ∷ answers) line a h is = absurd h
answers_push rules (l ∷ lines) [] line a h is = absurd h
answers_push rules (l ∷ lines) (b ∷ answers) line a h is = (h.0, answers_push rules lines answers line a h.1 is)

worse-assoc : (a b c : LinesOutcome) → worse (worse a b) c ≡ worse a (worse b c)
worse-assoc AllValid b c = refl
worse-assoc SomeRefused b c = refl
worse-assoc SomeInvalid AllValid c = refl
worse-assoc SomeInvalid SomeInvalid AllValid = refl
worse-assoc SomeInvalid SomeInvalid SomeInvalid = refl
worse-assoc SomeInvalid SomeInvalid SomeRefused = refl
worse-assoc SomeInvalid SomeRefused c = refl

worse-valid : (a : LinesOutcome) → worse a AllValid ≡ a
worse-valid AllValid = refl
worse-valid SomeInvalid = refl
worse-valid SomeRefused = refl

pub outcome_push : (answers : List Answer) (a : Answer) → outcome_of (answers ++ a ∷ []) ≡ worse (outcome_of answers) (outcome_of_answer a)
outcome_push [] a = worse-valid (outcome_of_answer a)
outcome_push (b ∷ answers) a = ap (worse (outcome_of_answer b)) (outcome_push answers a) ∙ sym (worse-assoc (outcome_of_answer b) (outcome_of answers) (outcome_of_answer a))

pub text_push : (answers : List Answer) (a : Answer) → answers_text (answers ++ a ∷ []) ≡ answers_text answers ++ answer_line a
text_push answers a = flat_map-append answer_line answers (a ∷ []) ∙ ap (λ t. answers_text answers ++ t) (append-nil (answer_line a))

-- ---- what a writer took and what is held

pub hands_more : (a b c : Option (List ℕ)) (text held more kept : List ℕ) → Hands a b text held → Hands b c (held ++ more) kept → Hands a c (text ++ more) kept
hands_more a b c text held more kept first second =
    let regrouped = ap (λ t. t ++ more) first.2 ∙ append_assoc first.0 held more ∙ ap (λ t. first.0 ++ t) second.2 ∙ sym (append_assoc first.0 second.0 kept) in
    (first.0 ++ second.0, Appends-trans a b c first.0 second.0 first.1 second.1, regrouped)

-- more is held
pub hands_both : (a b : Option (List ℕ)) (text held more : List ℕ) → Hands a b text held → Hands a b (text ++ more) (held ++ more)
hands_both a b text held more h = (h.0, h.1, ap (λ t. t ++ more) h.2 ∙ append_assoc h.0 held more)

-- ---- lines of bytes

pub no_bytes : Splits [] [] []
no_bytes = record { whole = refl; each = All-nil IsLine; open_end = All-nil (λ b. b ≢ 10) }

module _ (bytes : List ℕ) (lines : List (List ℕ)) (rest : List ℕ) (split : Splits bytes lines rest) (piece : List ℕ) (clean : IsLine piece) where
  pub piece_more : Splits (bytes ++ piece) lines (rest ++ piece)
  piece_more = record {
    whole = ap (λ b. b ++ piece) split.whole ∙ append_assoc (flat_map line_of lines) rest piece;
    each = split.each;
    open_end = All-append (λ b. b ≢ 10) rest piece split.open_end clean;
  }

  pub line_more : Splits (bytes ++ piece ++ 10 ∷ []) (lines ++ (rest ++ piece) ∷ []) []
  line_more =
      let line = rest ++ piece in
      let before = flat_map line_of lines in
      let pushed : flat_map line_of (lines ++ line ∷ []) ++ [] ≡ before ++ line_of line =
      append-nil (flat_map line_of (lines ++ line ∷ [])) ∙ flat_map-append line_of lines (line ∷ []) ∙ ap (λ t. before ++ t) (append-nil (line_of line)) in
      record {
        whole = ap (λ b. b ++ 10 ∷ []) piece_more.whole ∙ append_assoc before line (10 ∷ []) ∙ sym pushed;
        each = All-push IsLine lines line split.each piece_more.open_end;
        open_end = All-nil (λ b. b ≢ 10);
      }

pub split_begins : (bytes : List ℕ) (lines : List (List ℕ)) (rest : List ℕ) → Splits bytes lines rest → BeginsWith bytes lines
split_begins bytes lines rest split = (rest, split.whole, split.each)

pub begins_more : (bytes more : List ℕ) (lines : List (List ℕ)) → BeginsWith bytes lines → BeginsWith (bytes ++ more) lines
begins_more bytes more lines h = (h.0 ++ more, ap (λ b. b ++ more) h.1 ∙ append_assoc (flat_map line_of lines) h.0 more, h.2)

-- a byte before bytes: a newline ends an empty line, another one begins the first line
other_byte : (b : ℕ) (bytes : List ℕ) → b ≢ 10 → (lines : List (List ℕ)) (rest : List ℕ) → Splits bytes lines rest → (ls : List (List ℕ)) × (r : List ℕ) × Splits (b ∷ bytes) ls r
other_byte b bytes other [] rest split = ([], b ∷ rest, record { whole = ap (λ t. b ∷ t) split.whole; each = split.each; open_end = All-cons (λ b. b ≢ 10) b rest other split.open_end })
other_byte b bytes other (l ∷ lines) rest split =
    let each = All-cons IsLine (b ∷ l) lines (All-cons (λ b. b ≢ 10) b l other (All-head IsLine l lines split.each)) (All-tail IsLine l lines split.each) in
    ((b ∷ l) ∷ lines, rest, record { whole = ap (λ t. b ∷ t) split.whole; each = each; open_end = split.open_end })

newline : (bytes : List ℕ) (lines : List (List ℕ)) (rest : List ℕ) → Splits bytes lines rest → Splits (10 ∷ bytes) ([] ∷ lines) rest
newline bytes lines rest split = record { whole = ap (λ t. 10 ∷ t) split.whole; each = All-cons IsLine [] lines (All-nil (λ b. b ≢ 10)) split.each; open_end = split.open_end }

-- all bytes are lines and a rest
pub split_of : (bytes : List ℕ) → (lines : List (List ℕ)) × (rest : List ℕ) × Splits bytes lines rest
split_of [] = ([], [], no_bytes)
split_of (b ∷ bytes) =
    let s = split_of bytes in
    elim (eqb_tells b 10) [
      | inl is ↦ ([] ∷ s.0, s.1, subst (λ c. Splits (c ∷ bytes) ([] ∷ s.0) s.1) (sym is.1) (newline bytes s.0 s.1 s.2))
      | inr other ↦ other_byte b bytes other.1 s.0 s.1 s.2
    ]

pub first_lines : (bytes : List ℕ) (lines : List (List ℕ)) → BeginsWith bytes lines → AreFirstLines bytes lines
first_lines bytes lines h =
    let s = split_of h.0 in
    let regrouped : bytes ≡ flat_map line_of (lines ++ s.0) ++ s.1 =
    h.1 ∙ ap (λ t. flat_map line_of lines ++ t) s.2.whole ∙ sym (append_assoc (flat_map line_of lines) (flat_map line_of s.0) s.1) ∙ ap (λ t. t ++ s.1) (sym (flat_map-append line_of lines s.0)) in
    (s.0 ++ last_line s.1, (lines ++ s.0, s.1, record { whole = regrouped; each = All-append IsLine lines s.0 h.2 s.2.each; open_end = s.2.open_end }, sym (append_assoc lines s.0 (last_line s.1))))

-- ---- results

pub on_ok : {T E P Q : Type 0} (r : Result T E) → (P → Q) → OnOk r P → OnOk r Q
on_ok (Ok v) f h = f h
on_ok (Err e) f h = tt

pub on_err : {T E P Q : Type 0} (r : Result T E) → (P → Q) → OnErr r P → OnErr r Q
on_err (Ok v) f h = tt
on_err (Err e) f h = f h

pub if_err : {T E : Type 0} {P Q : E → Type 0} (r : Result T E) → ((e : E) → P e → Q e) → IfErr r P → IfErr r Q
if_err (Ok v) f h = tt
if_err (Err e) f h = f e h

pub on_error : {T E Q : Type 0} (r : Result T E) → Q → OnErr r Q
on_error (Ok v) h = tt
on_error (Err e) h = h
