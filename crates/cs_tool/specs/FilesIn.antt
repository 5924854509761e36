-- The files that sources spell in a profile (the CUE language specification, "Source file organization").
use Rattle.std.specs.Prelude.{ℕ, List, [], ◌∷◌}
use Rattle.cs_grammar.specs.Tree.{FileTree}
use Rattle.cs_grammar.specs.declared.profile.Profile.{Profile}
use Rattle.cs_syntax.specs.Answer.{IsSpelled}
use Rattle.cs_syntax.specs.AnswerIn.{IsSpelledIn}

-- each source spells the file at its place, where R says which file a source spells
abbrev pub AreFilesBy : (List ℕ → FileTree → Type 0) → List (List ℕ) → List FileTree → Type 0
AreFilesBy R [] [] = Unit {0}
AreFilesBy R [] (f ∷ fs) = ⊥
AreFilesBy R (s ∷ ss) [] = ⊥
AreFilesBy R (s ∷ ss) (f ∷ fs) = R s f × AreFilesBy R ss fs

-- each source is spelled in the profile by the file at its place
abbrev pub AreFilesIn : Profile → List (List ℕ) → List FileTree → Type 0
AreFilesIn p = AreFilesBy (IsSpelledIn p)

-- the same in the default profile; for private contracts alone
abbrev pub AreFiles : List (List ℕ) → List FileTree → Type 0
AreFiles = AreFilesBy IsSpelled
