-- What is read, numbered and judged of rules is what the calls say of their bytes.
use Rattle.std.proofs.Common.{◌≡◌, ℕ, Bool, List, Bor, Option, Result, Err, map, string_bytes, refl, sym, subst}
use Rattle.cs_document.specs.Document.{Document}
use Rattle.cs_document.specs.declared.fault.DocFault.{DocFault}
use Rattle.cs_format.specs.declared.Form.{Form}
use Rattle.cs_grammar.specs.declared.profile.Profile.{Profile}
use Rattle.cs_json.specs.Refusal as unread
use Rattle.cs_package.specs.Environment.{Environment}
use Rattle.cs_profile.specs.SchemaDocument.{document_of}
use Rattle.cs_profile.specs.declared.schema_doc.SchemaDoc.{SchemaDoc}
use Rattle.cs_tool.specs.Accepted.{DeclaresRoot}
use Rattle.cs_tool.specs.Conversions.{of_document}
use Rattle.cs_judge.specs.Judged.{call_on, IsOf}
use Rattle.cs_judge.specs.Prepared.{IsReadOf, AreNumbersOf}
use Rattle.cs_judge.specs.Verdicts.{IsVerdict, IsReadAs, IsCallVerdict}
use Rattle.cs_tool.specs.Runs.{agree}
use Rattle.cs_tool.specs.Sides.{IsSchemaOf, AreSidesOf}
use Rattle.cs_tool.specs.declared.fault.Fault.{Fault}
use Rattle.cs_tool.specs.declared.fault.Fault.TheVariants.{OutOfMemory}
use Rattle.cs_tool.specs.declared.rules.Rules.{Rules}
use Rattle.cs_tool.specs.declared.rules.Rules.TheVariants as rules
use Rattle.cs_judge.specs.declared.text_judge.ReadRules.TheVariants as read
use Rattle.cs_judge.specs.declared.verdict.NumberedRules.{NumberedRules}
use Rattle.cs_judge.specs.declared.verdict.NumberedRules.TheVariants as numbered
use Rattle.cs_judge.specs.declared.verdict.Side.TheVariants as side
use Rattle.cs_judge.proofs.BySides.{vetted, validates, vet_unread, validate_unread, agree_unread}
use Rattle.cs_judge.proofs.RulesRefused.{memory_refuses}
use Rattle.cs_tool.proofs.Numbered.{numbered_sides}

module _ (text : List ℕ) (d : Document) (is_read : IsReadAs text d) (result : Result Bool Fault) where
  pub by_root : (R : Rules) (r : Bor (Environment × List ℕ)) → AreNumbersOf R (numbered.Root r.now) → IsVerdict (side.Root r) d result (λ b. b) → IsOf (call_on R text) result
  by_root (rules.Root p sources root) r is of = vetted p _ _ text r is d is_read result of
  by_root (rules.Schema taken schema) r is of = absurd is
  by_root (rules.Both p sources root) r is of = absurd is

  pub by_schema : (R : Rules) (s : Bor Document) → AreNumbersOf R (numbered.Schema s.now) → IsVerdict (side.Schema s) d result (λ b. b) → IsOf (call_on R text) result
  by_schema (rules.Schema taken schema) s is of = validates taken _ text s is d is_read result of
  by_schema (rules.Root p sources root) s is of = absurd is
  by_schema (rules.Both p sources root) s is of = absurd is

  pub by_both : (form : Option Form) (old new : List ℕ) (R : Rules) (r : Environment × List ℕ) (s : Document) → AreNumbersOf R (numbered.Both r s)
      → ((p : Profile) (ss : List (List ℕ)) (root t : List ℕ) → AreSidesOf p ss root r.0 r.1 s → IsReadAs t d → IsCallVerdict (agree p ss root t) form old new result) → IsCallVerdict (call_on R text) form old new result
  by_both form old new (rules.Both p sources root) r s is of = of p _ _ text is is_read
  by_both form old new (rules.Root p sources root) r s is of = absurd is
  by_both form old new (rules.Schema taken schema) r s is of = absurd is

-- a text that isn't read is refused
pub not_read : (text : List ℕ) (R : Rules) (numbers : NumberedRules) → AreNumbersOf R numbers → (e : DocFault) → unread.IsRefusal e text → IsOf (call_on R text) (Err (of_document e))
not_read text (rules.Root p sources root) (numbered.Root r) is e h = vet_unread p _ _ text _ _ is e h
not_read text (rules.Schema taken schema) (numbered.Schema s) is e h = validate_unread _ _ text _ is e h
not_read text (rules.Both p sources root) (numbered.Both r s) is e h = agree_unread p _ _ text _ _ is.declares e h
not_read text _ _ is e h = absurd is

-- memory may run out
pub no_memory : (text : List ℕ) (R : Rules) → IsOf (call_on R text) (Err OutOfMemory)
no_memory text R = record { found = tt; refused = memory_refuses R text; only = λ ready. refl }

-- what was read of a root is declared by some sources, and so is that of both sides
pub root_read : (R : Rules) (E : Environment) (r : Bor (List ℕ)) → IsReadOf R (read.Root E r) → (p : Profile) × (ss : List (List ℕ)) × (n : List ℕ) × DeclaresRoot p ss r.now E n
root_read (rules.Root p sources root) E r is = let same : r.now ≡ string_bytes root = is.0 in rw same (p, _, is.1.0, is.1.1)
root_read (rules.Schema taken schema) E r is = absurd is
root_read (rules.Both p sources root) E r is = absurd is

pub both_read : (R : Rules) (E : Environment) (r : Bor (List ℕ)) (s : SchemaDoc) → IsReadOf R (read.Both E r s) → (p : Profile) × (ss : List (List ℕ)) × (n : List ℕ) × DeclaresRoot p ss r.now E n
both_read (rules.Both p sources root) E r s is = let same : r.now ≡ string_bytes root = is.0 in rw same (p, _, is.1.0, is.1.1.declares)
both_read (rules.Root p sources root) E r s is = absurd is
both_read (rules.Schema taken schema) E r s is = absurd is

pub root_numbered : (R : Rules) (E : Environment) (r : Bor (List ℕ)) (root_side : Environment × List ℕ) → IsReadOf R (read.Root E r)
    → ((p : Profile) (ss : List (List ℕ)) (n : List ℕ) → DeclaresRoot p ss r.now E n → DeclaresRoot p ss r.now root_side.0 root_side.1) → AreNumbersOf R (numbered.Root root_side)
root_numbered (rules.Root p sources root) E r root_side is found =
    let named : r.now ≡ string_bytes root = is.0 in
    let ss = map (λ f. f.items) sources.items in
    let declares = found p ss is.1.0 (subst (λ n. DeclaresRoot p ss n E is.1.0) (sym named) is.1.1) in
    subst (λ n. DeclaresRoot p ss n root_side.0 root_side.1) named declares
root_numbered (rules.Schema taken schema) E r root_side is found = absurd is
root_numbered (rules.Both p sources root) E r root_side is found = absurd is

pub schema_numbered : (R : Rules) (s : SchemaDoc) (schema_side : Document) → IsReadOf R (read.Schema s) → schema_side ≡ document_of s → AreNumbersOf R (numbered.Schema schema_side)
schema_numbered (rules.Schema taken schema) s schema_side is same = subst (IsSchemaOf taken schema.items) (sym same) is
schema_numbered (rules.Root p sources root) s schema_side is same = absurd is
schema_numbered (rules.Both p sources root) s schema_side is same = absurd is

pub both_numbered : (R : Rules) (E : Environment) (r : Bor (List ℕ)) (s : SchemaDoc) (root_side : Environment × List ℕ) (schema_side : Document) → IsReadOf R (read.Both E r s)
    → ((p : Profile) (ss : List (List ℕ)) (n : List ℕ) → DeclaresRoot p ss r.now E n → DeclaresRoot p ss r.now root_side.0 root_side.1) → schema_side ≡ document_of s
    → AreNumbersOf R (numbered.Both root_side schema_side)
both_numbered (rules.Both p sources root) E r s root_side schema_side is found same =
    let named : r.now ≡ string_bytes root = is.0 in
    let ss = map (λ f. f.items) sources.items in
    let declares = found p ss is.1.0 (subst (λ n. DeclaresRoot p ss n E is.1.0) (sym named) is.1.1.declares) in
    numbered_sides is.1.1 (subst (λ n. DeclaresRoot p ss n root_side.0 root_side.1) named declares) same
both_numbered (rules.Root p sources root) E r s root_side schema_side is found same = absurd is
both_numbered (rules.Schema taken schema) E r s root_side schema_side is found same = absurd is
