-- What a comparison of two editions answers: the documents of the old root, and those of the new one.
use Rattle.std.specs.Prelude.{◌≡◌, ℕ, List, Bool, true, false}
use Rattle.cs_document.specs.Document.{Document, IsDocument}
use Rattle.cs_grammar.specs.declared.profile.Profile.{Profile}
use Rattle.cs_package.specs.Environment.{Environment}
use Rattle.cs_instance.specs.Instance.{Rule, definition, IsInstance, OneMeaning}
use Rattle.cs_json.specs.Shown.{IsShown}
use Rattle.cs_question.specs.ReadAgain.{IsReadAgain}
use Rattle.cs_tool.specs.Accepted.{DeclaresRoot}
use Rattle.cs_compare.specs.declared.comparison.Comparison.{Comparison}
use Rattle.cs_compare.specs.declared.comparison.Comparison.TheVariants.{Compatible, Breaking}

-- what the sources of an edition declare as its root in the profile, with one meaning
pub record Edition (p : Profile) (sources : List (List ℕ)) (root : List ℕ) : Type 0 where
  pub environment : Environment
  pub name : List ℕ
  pub declares : DeclaresRoot p sources root environment name
  pub one_meaning : OneMeaning environment

-- each document of the old edition is one of the new edition
abbrev pub Keeps : {p : Profile} → {old : List (List ℕ)} → {old_root : List ℕ} → {new : List (List ℕ)} → {new_root : List ℕ} → Edition p old old_root → Edition p new new_root → Type 0
Keeps before after = (I J : Rule → Document → Bool) → IsInstance before.environment I → IsInstance after.environment J
    → (x : Document) → IsDocument x → I (definition before.name) x ≡ true → J (definition after.name) x ≡ true

-- the document, which its text is read as, is one of the old edition, and none of the new edition
abbrev pub Breaks : {p : Profile} → {old : List (List ℕ)} → {old_root : List ℕ} → {new : List (List ℕ)} → {new_root : List ℕ} → Edition p old old_root → Edition p new new_root → Document → Type 0
Breaks before after x = IsReadAgain x × ((I J : Rule → Document → Bool) → IsInstance before.environment I → IsInstance after.environment J
    → (I (definition before.name) x ≡ true) × (J (definition after.name) x ≡ false))

-- the answer has the text of the document, as it is shown, which is read as the document
abbrev pub ShowsDocument : Document → Comparison → Type 0
ShowsDocument x Compatible = ⊥
ShowsDocument x (Breaking t) = IsShown x t.items

abbrev pub IsAnswer : {p : Profile} → {old : List (List ℕ)} → {old_root : List ℕ} → {new : List (List ℕ)} → {new_root : List ℕ} → Edition p old old_root → Edition p new new_root → Comparison → Type 0
IsAnswer before after Compatible = Keeps before after
IsAnswer before after (Breaking t) = (x : Document) × IsShown x t.items × Breaks before after x

-- both editions are accepted in the profile, and that is what the comparison says of them
pub record IsComparison (p : Profile) (old : List (List ℕ)) (old_root : List ℕ) (new : List (List ℕ)) (new_root : List ℕ) (answer : Comparison) : Type 0 where
  pub before : Edition p old old_root
  pub after : Edition p new new_root
  pub answers : IsAnswer before after answer
