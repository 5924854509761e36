use Rattle.std.proofs.Common.{◌≡◌, ℕ, zero, suc, ◌+◌, ◌<◌, List, [], ◌∷◌, ◌++◌, Err, Bor, length, get_or, map, take, refl, sym, ap, subst, ◌∙◌, arith}
use Rattle.std.proofs.lemmas.List.{map-append}
use Rattle.cs_grammar.specs.Tree.{FileTree}
use Rattle.cs_grammar.specs.View.{file_view}
use Rattle.cs_lexer.specs.Lexed.{Answers}
use Rattle.cs_syntax.specs.AnswerIn.{IsSpelledIn}
use Rattle.cs_syntax.specs.Refusal.{IsFileRefusalIn}
use Rattle.cs_grammar.specs.declared.fault.SyntaxFault.{SyntaxFault}
use Rattle.cs_grammar.specs.declared.fault.SyntaxFault.TheVariants as syntax
use Rattle.cs_grammar.specs.declared.profile.Profile.{Profile}
use Rattle.cs_tool.specs.FilesIn.{AreFilesIn}
use Rattle.cs_tool.specs.First.{IsFirstMisspelledIn, FilesRefusalIn}
use Rattle.cs_tool.specs.Conversions.{of_syntax}
use Rattle.cs_tool.specs.declared.fault.Fault.{Fault}
use Rattle.cs_tool.specs.declared.fault.Fault.TheVariants.{OutOfMemory}
use Rattle.cs_tool.proofs.Places.{inside, at_place, there, one_more}
use Rattle.cs_tool.proofs.packages.files_of.Goals as goal

files_push : (p : Profile) (ss : List (List ℕ)) (fs : List FileTree) (s : List ℕ) (f : FileTree) → AreFilesIn p ss fs → IsSpelledIn p s f → AreFilesIn p (ss ++ s ∷ []) (fs ++ f ∷ [])
files_push p [] [] s f before here = (here, tt)
files_push p [] (g ∷ fs) s f before here = absurd before
files_push p (t ∷ ss) [] s f before here = absurd before
files_push p (t ∷ ss) (g ∷ fs) s f before here = (before.0, files_push p ss fs s f before.1 here)

-- where all spell files, each one does
spells : (p : Profile) (ss : List (List ℕ)) (fs : List FileTree) (i : ℕ) (d : List ℕ) → i < length ss → AreFilesIn p ss fs → (f : FileTree) × IsSpelledIn p (get_or ss i d) f
spells p [] fs i d lt h = absurd (omega arith)
spells p (s ∷ ss) [] i d lt h = absurd h
spells p (s ∷ ss) (f ∷ fs) zero d lt h = (f, h.0)
spells p (s ∷ ss) (f ∷ fs) (suc i) d lt h = spells p ss fs i d (omega arith) h.1

only_memory : (fault : SyntaxFault) (number : ℕ) (f : FileTree) → Answers file_view (Err fault) f → of_syntax number fault ≡ OutOfMemory
only_memory syntax.OutOfMemory number f h = refl
only_memory _ number f h = absurd h

first_refusal : (p : Profile) (ss : List (List ℕ)) (e : Fault) → IsFirstMisspelledIn p ss e → FilesRefusalIn p ss e
first_refusal p ss OutOfMemory h = tt
first_refusal p ss _ h = h

module _ {X : Type 0} (p : Profile) (now : X → List ℕ) (xs : List X) (i : ℕ) (d : X) (lt : i < length xs) where
  first_misspelled : (fs : List FileTree) → AreFilesIn p (take i (map now xs)) fs → (fault : SyntaxFault) → IsFileRefusalIn p (now (get_or xs i d)) fault → FilesRefusalIn p (map now xs) (of_syntax i fault)
  first_misspelled fs before fault refused =
      first_refusal p (map now xs) (of_syntax i fault) (record { number = i; source = now (get_or xs i d); there = there now xs i d lt; files = fs; before = before; fault = fault; refused = refused; told = refl })

  memory_alone : (fault : SyntaxFault) → ((f : FileTree) → IsSpelledIn p (now (get_or xs i d)) f → Answers file_view (Err fault) f) → (fs : List FileTree) → AreFilesIn p (map now xs) fs → of_syntax i fault ≡ OutOfMemory
  memory_alone fault only fs all =
      let here = spells p (map now xs) fs i (now d) (inside now xs i d lt) all in
      only_memory fault i here.0 (only here.0 (subst (λ s. IsSpelledIn p s here.0) (at_place now xs i d lt) here.1))

  files_more : (fs : List FileTree) (f : FileTree) → AreFilesIn p (take i (map now xs)) fs → IsSpelledIn p (now (get_or xs i d)) f → AreFilesIn p (take (i + 1) (map now xs)) (fs ++ f ∷ [])
  files_more fs f before here = subst (λ ss. AreFilesIn p ss (fs ++ f ∷ [])) (sym (one_more now xs i d lt)) (files_push p (take i (map now xs)) fs (now (get_or xs i d)) f before here)

pub returns-in-Err-clause-refused : goal.returns-in-Err-clause-refused
returns-in-Err-clause-refused c =
    let now : Bor (List ℕ) → List ℕ = λ t. t.now in
    let none : Bor (List ℕ) = record { ref_ptr = (0, 0); now = [] } in
    subst (FilesRefusalIn c.args.profile (map now c.args.texts.now)) (sym c.of_syntax.ensures) (first_misspelled c.args.profile now c.args.texts.now c.loop-number.number none c.loop-number-test.true _ c.loop-number.invariant c.in-Err.fault c.in-Err.ensures.refused)

pub returns-in-Err-clause-only : goal.returns-in-Err-clause-only
returns-in-Err-clause-only c = λ fs all.
    let now : Bor (List ℕ) → List ℕ = λ t. t.now in
    let none : Bor (List ℕ) = record { ref_ptr = (0, 0); now = [] } in
    c.of_syntax.ensures ∙ memory_alone c.args.profile now c.args.texts.now c.loop-number.number none c.loop-number-test.true c.in-Err.fault c.in-Err.ensures.only fs all

pub loop-number-preserved : goal.loop-number-preserved
loop-number-preserved c =
    let now : Bor (List ℕ) → List ℕ = λ t. t.now in
    let none : Bor (List ℕ) = record { ref_ptr = (0, 0); now = [] } in
    let files = c.loop-number.files.items in
    let f = file_view c.in-Ok.file in
    let pushed = ap (map file_view) c.in_ok-push-in-Ok.ensures.items ∙ map-append file_view files (c.in-Ok.file ∷ []) in
    subst (AreFilesIn c.args.profile _) (sym pushed) (files_more c.args.profile now c.args.texts.now c.loop-number.number none c.loop-number-test.true (map file_view files) f c.loop-number.invariant c.in-Ok.ensures.found)
