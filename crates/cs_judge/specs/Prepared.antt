-- What was read of rules, and what was numbered.
use Rattle.std.specs.Prelude.{◌≡◌, ℕ, List, map, string_bytes}
use Rattle.cs_profile.specs.SchemaDocument.{document_of}
use Rattle.cs_tool.specs.Accepted.{DeclaresRoot}
use Rattle.cs_tool.specs.Sides.{IsSchemaOf, AreSidesOf}
use Rattle.cs_tool.specs.declared.rules.Rules.{Rules}
use Rattle.cs_tool.specs.declared.rules.Rules.TheVariants as rules
use Rattle.cs_judge.specs.declared.text_judge.ReadRules.{ReadRules}
use Rattle.cs_judge.specs.declared.text_judge.ReadRules.TheVariants as read
use Rattle.cs_judge.specs.declared.verdict.NumberedRules.{NumberedRules}
use Rattle.cs_judge.specs.declared.verdict.NumberedRules.TheVariants as numbered

abbrev pub IsReadOf : Rules → ReadRules → Type 0
IsReadOf (rules.Root p sources root) (read.Root g r) = (r.now ≡ string_bytes root) × ((n : List ℕ) × DeclaresRoot p (map (λ s. s.items) sources.items) (string_bytes root) g n)
IsReadOf (rules.Schema taken schema) (read.Schema s) = IsSchemaOf taken schema.items (document_of s)
IsReadOf (rules.Both p sources root) (read.Both g r s) = (r.now ≡ string_bytes root) × ((n : List ℕ) × AreSidesOf p (map (λ s. s.items) sources.items) (string_bytes root) g n (document_of s))
IsReadOf _ _ = ⊥

abbrev pub AreNumbersOf : Rules → NumberedRules → Type 0
AreNumbersOf (rules.Root p sources root) (numbered.Root r) = DeclaresRoot p (map (λ s. s.items) sources.items) (string_bytes root) r.0 r.1
AreNumbersOf (rules.Schema taken schema) (numbered.Schema s) = IsSchemaOf taken schema.items s
AreNumbersOf (rules.Both p sources root) (numbered.Both r s) = AreSidesOf p (map (λ s. s.items) sources.items) (string_bytes root) r.0 r.1 s
AreNumbersOf _ _ = ⊥
