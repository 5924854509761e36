-- What the profile's first edition accepted is accepted, with the same environment and the same instances.
use Rattle.std.proofs.Common.{◌≡◌, ℕ, Bool, List, [], ◌∷◌, refl, sym, subst}
use Rattle.std.specs.List.{AllByRecursion}
use Rattle.cs_grammar.specs.declared.profile.Profile.TheVariants as profiles
use Rattle.cs_document.specs.Document.{Document}
use Rattle.cs_grammar.specs.Labels.{IsLabelledFile}
use Rattle.cs_grammar.specs.Tree.{FileTree}
use Rattle.cs_guard.specs.Guarded.{IsGuarded}
use Rattle.cs_guard.proofs.Ways.{mixedly-guarded}
use Rattle.cs_instance.specs.Earlier.{IsInstanceEarlier}
use Rattle.cs_instance.specs.Instance.{Rule, definition, IsInstance}
use Rattle.cs_instance.proofs.Labels.{still_instance, same_instances}
use Rattle.cs_package.specs.Environment.{Environment}
use Rattle.cs_package.specs.Labels.{IsLabelledEnvironment}
use Rattle.cs_resolve.specs.Earlier.{no_refinements}
use Rattle.cs_resolve.proofs.LabelledBodies.{environment_labelled}
use Rattle.cs_resolve.proofs.OlderRule.{still_package}
use Rattle.cs_syntax.proofs.EarlierNesting.{still_spelled}
use Rattle.cs_tool.specs.Accepted.{IsAccepted}
use Rattle.cs_tool.specs.Earlier.{AreFilesEarlier, IsAcceptedEarlier}
use Rattle.cs_tool.specs.FilesIn.{AreFiles}

still_files : (sources : List (List ℕ)) (fs : List FileTree) → AreFilesEarlier sources fs → AreFiles sources fs
still_files [] [] h = tt
still_files [] (f ∷ fs) h = h
still_files (s ∷ ss) [] h = h
still_files (s ∷ ss) (f ∷ fs) h = (still_spelled s f h.0, still_files ss fs h.1)

files_labelled : (sources : List (List ℕ)) (fs : List FileTree) → AreFilesEarlier sources fs → AllByRecursion IsLabelledFile fs
files_labelled [] [] h = tt
files_labelled [] (f ∷ fs) h = absurd h
files_labelled (s ∷ ss) [] h = absurd h
files_labelled (s ∷ ss) (f ∷ fs) h = (h.0.labelled, files_labelled ss fs h.1)

module _ (sources : List (List ℕ)) (E : Environment) (h : IsAcceptedEarlier sources E) where
  labelled : IsLabelledEnvironment E
  labelled = subst IsLabelledEnvironment (sym h.one_package.declares) (environment_labelled no_refinements h.files (files_labelled sources h.files h.spelled))

  guarded : IsGuarded E
  guarded = mixedly-guarded E h.guarded

  pub still_accepted : IsAccepted profiles.Default sources E
  still_accepted = record {
    texts = h.texts;
    files = h.files;
    spelled = still_files sources h.files h.spelled;
    meant = h.files;
    stand_for = refl;
    one_package = still_package h.files E h.one_package;
    guarded = guarded;
  }

  pub still_instances : (I : Rule → Document → Bool) → IsInstance E I → IsInstanceEarlier E I
  still_instances = still_instance E labelled

  pub same_definitions : (I J : Rule → Document → Bool) → IsInstance E I → IsInstanceEarlier E J → (n : List ℕ) (x : Document) → I (definition n) x ≡ J (definition n) x
  same_definitions I J is was n x = same_instances E labelled guarded I J is was (definition n) x tt
