-- The steps of a run over lines, and how it ends: at the input's end, where a read fails, and where a write fails.
use Rattle.std.proofs.Common.{◌≡◌, ◌≢◌, ℕ, ◌+◌, ◌-◌, ◌^◌, ◌≤◌, min, List, [], ◌∷◌, ◌++◌, length, take, drop, Option, None, Some, Result, Err, IfErr, refl, sym, ap, subst, ◌∙◌, arith, append-nil, append_assoc, length-append}
use Rattle.std.specs.Option.{IfSome}
use Rattle.std.specs.Io.KnownBytes.{Appends, Consumes, IsAtEnd}
use Rattle.std.proofs.KnownBytes.{Appends-nil, Appends-trans, Consumes-trans}
use Rattle.std.proofs.Math.Seq.{take-append-add}
use Rattle.std.proofs.lemmas.List.{take-append-drop, take-append-le}
use Rattle.cs_judge.specs.declared.answers.LinesOutcome.TheVariants.{AllValid}
use Rattle.cs_format.specs.declared.Form.{Form}
use Rattle.cs_tool.specs.declared.fault.Fault.{Fault}
use Rattle.cs_tool.specs.declared.fault.Fault.TheVariants.{WriteFailed}
use Rattle.cs_judge.specs.declared.lines.LineRun.{LineRun}
use Rattle.cs_tool.specs.declared.rules.Rules.{Rules}
use Rattle.cs_judge.specs.Answering.{AreAnswered, IsAnswered, AreCutOff, IsCutOffIn, BeginsWith}
use Rattle.cs_judge.specs.Begun.{HoldsFront}
use Rattle.cs_judge.specs.Explained.{IsWritten}
use Rattle.cs_judge.specs.Lines.{Answer, IsLine, Splits, last_line, AreLines, AreFirstLines, IsLineAnswer, worse, outcome_of_answer, Hands}
use Rattle.cs_judge.specs.Runs.{Answered, IsDone, IsCutOff, IsStopped, LeavesLines}
use Rattle.cs_tool.specs.Streams.{AppendsFront}
use Rattle.cs_judge.proofs.ExplainedRuns.{told_none, told_more, next_number}
use Rattle.cs_judge.proofs.LineLists.{answers_push, outcome_push, hands_both, hands_more, no_bytes, piece_more, line_more, split_begins, begins_more, first_lines}

-- ---- what was written

module _ (start mid now : Option (List ℕ)) (text held : List ℕ) (h : Hands start mid text held) where
  -- what was held is written
  pub held_written : Appends mid now held → Appends start now text
  held_written w = subst (Appends start now) (sym h.2) (Appends-trans start mid now h.0 held h.1 w)

  -- a front of it is written
  pub front_written : AppendsFront mid now held → AppendsFront start now text
  front_written w =
      let n = length h.0 + w.0 in
      let short : n ≤ length text = omega (arith, w.1, ap length h.2, length-append h.0 held) in
      let same : h.0 ++ take w.0 held ≡ take n text = sym (take-append-add h.0 held w.0) ∙ ap (take n) (sym h.2) in
      (n, short, subst (Appends start now) same (Appends-trans start mid now h.0 (take w.0 held) h.1 w.2))

-- a front of the texts before is a front of all
pub front_more : (old new : Option (List ℕ)) (text more : List ℕ) → AppendsFront old new text → AppendsFront old new (text ++ more)
front_more old new text more w =
    let short : w.0 ≤ length (text ++ more) = omega (arith, w.1, length-append text more) in
    (w.0, short, subst (Appends old new) (sym (take-append-le w.0 text more w.1)) w.2)

module _ {form : Option Form} (rules : Rules) (start mid now : Option (List ℕ)) (lines : List (List ℕ)) (run : LineRun) (a : AreAnswered form rules start mid lines run) where
  pub lines_cut_off : AppendsFront mid now run.held → AreCutOff form rules lines start now
  lines_cut_off w = record { said = a.said; written = front_written start mid now a.said.text run.held a.handed w }

-- nothing more is written
pub none_written : (now : Option (List ℕ)) (text : List ℕ) → AppendsFront now now text
none_written now text = (0, omega arith, Appends-nil now)

-- ---- what was read

pub of_whole : (P : List ℕ → Type 0) (remaining left : Option (List ℕ)) (bytes : List ℕ) → Consumes remaining left bytes → IsAtEnd left → P bytes → IfSome remaining P
of_whole P None left bytes given end h = tt
of_whole P (Some xs) None bytes given end h = absurd given
of_whole P (Some xs) (Some ys) bytes given end h = subst P (sym (given ∙ ap (λ t. bytes ++ t) end ∙ append-nil bytes)) h

pub first_of_input : (remaining left : Option (List ℕ)) (bytes : List ℕ) (lines : List (List ℕ)) → Consumes remaining left bytes → BeginsWith bytes lines → IfSome remaining (λ xs. AreFirstLines xs lines)
first_of_input None left bytes lines given h = tt
first_of_input (Some xs) None bytes lines given h = absurd given
first_of_input (Some xs) (Some ys) bytes lines given h = subst (λ b. AreFirstLines b lines) (sym given) (first_lines (bytes ++ ys) lines (begins_more bytes ys lines h))

-- ---- how a run ends

module _ {form : Option Form} (rules : Rules) (remaining left start now : Option (List ℕ)) (bytes : List ℕ) (given : Consumes remaining left bytes) where
  pub cut_off : IsCutOffIn form rules bytes start now → IsCutOff form rules remaining start now
  cut_off h = record { lines = h.0; read = first_of_input remaining left bytes h.0 given h.1; said = h.2.said; written = h.2.written }

  pub cut_off_at_end : IsAtEnd left → IsCutOff form rules (Some bytes) start now → IsCutOff form rules remaining start now
  cut_off_at_end end h = record { lines = h.lines; read = of_whole (λ b. AreFirstLines b h.lines) remaining left bytes given end h.read; said = h.said; written = h.written }

  pub done : IsAtEnd left → {outcome : _} → IsDone form rules (Some bytes) start now outcome → IsDone form rules remaining start now outcome
  done end h = record { lines = h.lines; read = of_whole (λ b. AreLines b h.lines) remaining left bytes given end h.read; said = h.said; written = h.written; outcome_is = h.outcome_is }

-- ---- the steps of a run

-- before the first read
pub nothing_read : {form : Option Form} (rules : Rules) (now : Option (List ℕ)) (run : LineRun) → HoldsFront run.begun [] → run.held ≡ [] → run.outcome ≡ AllValid → run.line.line ≡ 1 → IsAnswered form rules now now [] run
nothing_read {form} rules now run begun none outcome first = record {
  lines = [];
  rest = [];
  split = no_bytes;
  begun = begun;
  answered = record { said = record { answers = []; answered = tt; text = []; told = told_none form }; handed = ([], Appends-nil now, sym none); outcome_is = outcome; number_is = first };
}

-- nothing of the answers changes
pub same_answers : {form : Option Form} (rules : Rules) (start now : Option (List ℕ)) (lines : List (List ℕ)) (run after : LineRun) → AreAnswered form rules start now lines run → after.held ≡ run.held → after.outcome ≡ run.outcome → after.line.line ≡ run.line.line → AreAnswered form rules start now lines after
same_answers rules start now lines run after a held outcome number = record { said = a.said; handed = subst (Hands start now a.said.text) (sym held) a.handed; outcome_is = outcome ∙ a.outcome_is; number_is = number ∙ a.number_is }

-- what was held is written
pub written_out : {form : Option Form} (rules : Rules) (start mid now : Option (List ℕ)) (bytes : List ℕ) (run after : LineRun) → IsAnswered form rules start mid bytes run → Appends mid now run.held
    → after.begun ≡ run.begun → after.held ≡ [] → after.outcome ≡ run.outcome → after.line.line ≡ run.line.line → IsAnswered form rules start now bytes after
written_out rules start mid now bytes run after a w begun none outcome number =
    let b = a.answered in
    let handed = subst (Hands start now b.said.text) (sym none) (b.said.text, held_written start mid now b.said.text run.held b.handed w, sym (append-nil b.said.text)) in
    let front = subst (λ l. HoldsFront l a.rest) (sym begun) a.begun in
    record { lines = a.lines; rest = a.rest; split = a.split; begun = front; answered = record { said = b.said; handed = handed; outcome_is = outcome ∙ b.outcome_is; number_is = number ∙ b.number_is } }

module _ {form : Option Form} (rules : Rules) (start mid now : Option (List ℕ)) (bytes piece : List ℕ) (run after : LineRun) (a : IsAnswered form rules start mid bytes run) (clean : IsLine piece) where
  -- the piece ends a line, which is answered
  pub line_answered : AreAnswered form rules start now (a.lines ++ (a.rest ++ piece) ∷ []) after → HoldsFront after.begun [] → IsAnswered form rules start now (bytes ++ piece ++ 10 ∷ []) after
  line_answered answered begun = record { lines = a.lines ++ (a.rest ++ piece) ∷ []; rest = []; split = line_more bytes a.lines a.rest a.split piece clean; begun = begun; answered = answered }

  -- the piece is kept
  pub piece_kept : AreAnswered form rules start now a.lines after → HoldsFront after.begun (a.rest ++ piece) → IsAnswered form rules start now (bytes ++ piece) after
  piece_kept answered begun = record { lines = a.lines; rest = a.rest ++ piece; split = piece_more bytes a.lines a.rest a.split piece clean; begun = begun; answered = answered }

module _ {form : Option Form} (rules : Rules) (start mid now : Option (List ℕ)) (bytes : List ℕ) (run : LineRun) (a : IsAnswered form rules start mid bytes run) where
  -- a write fails while lines of these bytes are answered
  pub answers_cut_off : AreCutOff form rules a.lines start now → IsCutOffIn form rules bytes start now
  answers_cut_off cut = (a.lines, split_begins bytes a.lines a.rest a.split, cut)

  -- a write fails while the line is answered that a piece ends
  pub line_cut_off : (piece : List ℕ) → IsLine piece → AreCutOff form rules (a.lines ++ (a.rest ++ piece) ∷ []) start now → IsCutOffIn form rules (bytes ++ piece ++ 10 ∷ []) start now
  line_cut_off piece clean cut = (a.lines ++ (a.rest ++ piece) ∷ [], split_begins (bytes ++ piece ++ 10 ∷ []) (a.lines ++ (a.rest ++ piece) ∷ []) [] (line_more bytes a.lines a.rest a.split piece clean), cut)

last_is_one : (rest : List ℕ) → rest ≢ [] → last_line rest ≡ (rest ++ []) ∷ []
last_is_one [] some = absurd (some refl)
last_is_one (b ∷ bytes) some = ap (λ r. r ∷ []) (sym (append-nil (b ∷ bytes)))

-- the lines of the input, where one is begun
last_lines : (bytes : List ℕ) (lines : List (List ℕ)) (rest : List ℕ) → Splits bytes lines rest → rest ≢ [] → AreLines bytes (lines ++ (rest ++ []) ∷ [])
last_lines bytes lines rest split some = (lines, rest, split, ap (λ l. lines ++ l) (sym (last_is_one rest some)))

-- the lines of the whole input are answered
abbrev pub AreAllAnswered : Option Form → Rules → Option (List ℕ) → Option (List ℕ) → List ℕ → LineRun → Type 0
AreAllAnswered form rules start now bytes run = (lines : List (List ℕ)) × AreLines bytes lines × AreAnswered form rules start now lines run

module _ {form : Option Form} (rules : Rules) (start now : Option (List ℕ)) (bytes : List ℕ) (run : LineRun) (a : IsAnswered form rules start now bytes run) where
  -- no line is begun
  pub none_begun : a.rest ≡ [] → AreAllAnswered form rules start now bytes run
  none_begun none = (a.lines, (a.lines, a.rest, a.split, sym (ap (λ r. a.lines ++ last_line r) none ∙ append-nil a.lines)), a.answered)

  -- the line that is begun is answered
  pub last_answered : (later : Option (List ℕ)) (after : LineRun) → a.rest ≢ [] → AreAnswered form rules start later (a.lines ++ (a.rest ++ []) ∷ []) after → AreAllAnswered form rules start later bytes after
  last_answered later after some answered = (a.lines ++ (a.rest ++ []) ∷ [], last_lines bytes a.lines a.rest a.split some, answered)

  -- a write fails while the last line is answered
  pub last_cut_off : (later : Option (List ℕ)) → AreCutOff form rules a.lines start later → IsCutOff form rules (Some bytes) start later
  last_cut_off later cut = record { lines = a.lines; read = first_lines bytes a.lines (split_begins bytes a.lines a.rest a.split); said = cut.said; written = cut.written }

  -- the same, where a part of it may be written
  pub last_broken_off : (later : Option (List ℕ)) → a.rest ≢ [] → AreCutOff form rules (a.lines ++ (a.rest ++ []) ∷ []) start later → IsCutOff form rules (Some bytes) start later
  last_broken_off later some cut =
      let lines = a.lines ++ (a.rest ++ []) ∷ [] in
      record { lines = lines; read = ([], subst (AreLines bytes) (sym (append-nil lines)) (last_lines bytes a.lines a.rest a.split some)); said = cut.said; written = cut.written }

module _ {form : Option Form} (rules : Rules) (start mid now : Option (List ℕ)) (bytes : List ℕ) (run : LineRun) (a : AreAllAnswered form rules start mid bytes run) where
  pub all_done : Appends mid now run.held → IsDone form rules (Some bytes) start now run.outcome
  all_done w = record { lines = a.0; read = a.1; said = a.2.said; written = held_written start mid now a.2.said.text run.held a.2.handed w; outcome_is = a.2.outcome_is }

  pub all_cut_off : AppendsFront mid now run.held → IsCutOff form rules (Some bytes) start now
  all_cut_off w = record { lines = a.0; read = ([], subst (AreLines bytes) (sym (append-nil a.0)) a.1); said = a.2.said; written = front_written start mid now a.2.said.text run.held a.2.handed w }

pub cut_off_more : {form : Option Form} (rules : Rules) (bytes more : List ℕ) (start now : Option (List ℕ)) → IsCutOffIn form rules bytes start now → IsCutOffIn form rules (bytes ++ more) start now
cut_off_more rules bytes more start now h = (h.0, begins_more bytes more h.0 h.1, h.2)

-- one more line is answered, and what is written of it stands behind the texts before
module _ {form : Option Form} (rules : Rules) (start mid now : Option (List ℕ)) (lines : List (List ℕ)) (line : List ℕ) (answer : Answer) (more : List ℕ) (run : LineRun) (a : AreAnswered form rules start mid lines run) (is : IsLineAnswer rules line answer) (w : IsWritten form run.line.line answer more) where
  abbrev all_said : Answered form rules (lines ++ line ∷ [])
  all_said = record {
    answers = a.said.answers ++ answer ∷ [];
    answered = answers_push rules lines a.said.answers line answer a.said.answered is;
    text = a.said.text ++ more;
    told = told_more form a.said.answers a.said.text answer more a.said.told (subst (λ n. IsWritten form n answer more) a.number_is w);
  }

  pub one_more : (after : LineRun) → Hands mid now (run.held ++ more) after.held → after.outcome ≡ worse run.outcome (outcome_of_answer answer)
      → after.line.line ≡ min (run.line.line + 1) (2 ^ 64 - 1) → AreAnswered form rules start now (lines ++ line ∷ []) after
  one_more after handed outcome next = record {
    said = all_said;
    handed = hands_more start mid now a.said.text run.held more after.held a.handed handed;
    outcome_is = outcome ∙ ap (λ o. worse o (outcome_of_answer answer)) a.outcome_is ∙ sym (outcome_push a.said.answers answer);
    number_is = next ∙ next_number a.said.answers answer run.line.line a.number_is;
  }

  -- a write fails before all of it is written
  pub more_cut_off : AppendsFront mid now (run.held ++ more) → AreCutOff form rules (lines ++ line ∷ []) start now
  more_cut_off w = record { said = all_said; written = front_written start mid now (a.said.text ++ more) (run.held ++ more) (hands_both start mid a.said.text run.held more a.handed) w }

pub regrouped : (bytes front piece more : List ℕ) → bytes ++ front ++ piece ++ more ≡ bytes ++ (front ++ piece ++ more)
regrouped bytes front piece more = ap (λ t. t ++ more) (append_assoc bytes front piece) ∙ append_assoc bytes (front ++ piece) more

-- a write fails within a chunk
pub chunk_cut_off : {form : Option Form} (rules : Rules) (bytes chunk : List ℕ) (at : ℕ) (start now : Option (List ℕ)) → IsCutOffIn form rules (bytes ++ take at chunk) start now → IsCutOffIn form rules (bytes ++ chunk) start now
chunk_cut_off {form} rules bytes chunk at start now h =
    let whole = append_assoc bytes (take at chunk) (drop at chunk) ∙ ap (λ t. bytes ++ t) (take-append-drop at chunk) in
    subst (λ b. IsCutOffIn form rules b start now) whole (cut_off_more rules (bytes ++ take at chunk) (drop at chunk) start now h)

-- a read that gave nothing
pub read_nothing : (a b c : Option (List ℕ)) (bytes chunk : List ℕ) (count : ℕ) → Consumes a b bytes → Consumes b c (take count chunk) → count ≡ 0 → Consumes a c bytes
read_nothing a b c bytes chunk count before now none =
    let same : bytes ++ take count chunk ≡ bytes = ap (λ n. bytes ++ take n chunk) none ∙ append-nil bytes in
    subst (Consumes a c) same (Consumes-trans a b c bytes (take count chunk) before now)

-- a read failed, where nothing is held
pub stopped : {form : Option Form} (rules : Rules) (remaining left start now : Option (List ℕ)) (bytes : List ℕ) (run : LineRun) → Consumes remaining left bytes → IsAnswered form rules start now bytes run → run.held ≡ [] → IsStopped form rules remaining left start now
stopped rules remaining left start now bytes run given a none =
    let handed = a.answered.handed in
    let whole = handed.2 ∙ ap (λ t. handed.0 ++ t) none ∙ append-nil handed.0 in
    record { bytes = bytes; given = given; lines = a.lines; rest = a.rest; split = a.split; said = a.answered.said; written = subst (Appends start now) (sym whole) handed.1 }

-- a write failed
pub write_failed : {T : Type 0} {form : Option Form} (r : Result T Fault) (e : Fault) (rules : Rules) (remaining left old new : Option (List ℕ)) → r ≡ Err e → e ≡ WriteFailed → IsCutOff form rules remaining old new → IfErr r (λ f. LeavesLines form rules f remaining left old new)
write_failed {T} {form} r e rules remaining left old new is kind cut =
    subst (λ q. IfErr q (λ f. LeavesLines form rules f remaining left old new)) (sym is) (subst (λ f. LeavesLines form rules f remaining left old new) (sym kind) cut)

-- ---- two writes, one after the other

pub front_of_both : (old mid new : Option (List ℕ)) (first second : List ℕ) → Appends old mid first → AppendsFront mid new second → AppendsFront old new (first ++ second)
front_of_both old mid new first second a w = front_written old mid new (first ++ second) second (first, a, refl) w
