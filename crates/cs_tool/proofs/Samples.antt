-- Samples, worked by the definitions: the table of refusals, the line of one, what each crate's refusals become, and
-- what stands at the ends of each limit. A wrong expectation stops the check here.
use Rattle.std.proofs.Common.{◌≡◌, ℕ, ◌+◌, ◌≤◌, true, false, List, [], ◌∷◌, ◌++◌, map, length, Option, Some, None, Vec, Global, String, codes, refl, arith}
use Rattle.std.specs.Fmt.{digits}
use Rattle.cs_grammar.specs.declared.fault.SyntaxFault.TheVariants as syntax
use Rattle.cs_resolve.specs.declared.fault.ResolveFault.TheVariants as resolve
use Rattle.cs_guard.specs.declared.fault.GuardFault.TheVariants as guard
use Rattle.cs_instance.specs.declared.fault.InstanceFault.TheVariants as instance
use Rattle.cs_compile.specs.declared.fault.CompileFault.TheVariants as compile
use Rattle.cs_profile.specs.declared.fault.SchemaFault.TheVariants as schema
use Rattle.cs_table.specs.declared.fault.TableFault.TheVariants as validate
use Rattle.cs_document.specs.declared.fault.DocFault.TheVariants as doc
use Rattle.cs_tool.specs.Conversions.{of_syntax, of_resolve, of_guard, of_instance, of_compile, of_schema, of_validate, of_document, of_schema_text}
use Rattle.cs_tool.specs.Refusals.{number_of, offset_of, file_of, status_of, fault_line}
use Rattle.cs_tool.specs.Runs.{line_of}
use Rattle.cs_tool.specs.Streams.{IsLonger, LosesAtMost, chunk_bytes}
use Rattle.cs_tool.specs.Texts.{most_bytes, bytes_of}
use Rattle.cs_tool.specs.declared.fault.Fault.{Fault}
use Rattle.cs_tool.specs.declared.fault.Fault.TheVariants.{SourcesTooLong, NotUtf8, NoToken, Syntax, LeftOut, IntegerRange, TooHigh, PackageName, UnknownName, FieldReference, NotOpened, Cycle, UnknownRoot, TooLarge, OutOfMemory, ChainTooLong, TooManyCases, SchemaNotJson, Keyword, Shape, Reference, Loop, NotJson, NotInteger, TooManyPairs, InputTooLong, ReadFailed, WriteFailed}

-- ---- refusals

-- what is told of a refusal: its number, the byte at fault, the file at fault, and the exit status
abbrev Told : Type 0
Told = ℕ × Option ℕ × Option ℕ × ℕ

abbrev told : Fault → Told
told f = (number_of f, offset_of f, file_of f, status_of (number_of f))

module _ (names : Vec (String Global) Global) (place name : String Global) where
  -- each refusal, at the byte 21 of the source 3 where it carries these
  abbrev refusals : List (Fault × Told)
  refusals =
      (SourcesTooLong, (1, None, None, 2))
      ∷ (NotUtf8 3, (2, None, Some 3, 2))
      ∷ (NoToken 3 21, (3, Some 21, Some 3, 2))
      ∷ (Syntax 3 21, (4, Some 21, Some 3, 2))
      ∷ (LeftOut 3 21, (5, Some 21, Some 3, 2))
      ∷ (IntegerRange 3 21, (6, Some 21, Some 3, 2))
      ∷ (TooHigh 3, (7, None, Some 3, 2))
      ∷ (PackageName 3, (8, None, Some 3, 2))
      ∷ (UnknownName 3 21, (9, Some 21, Some 3, 2))
      ∷ (FieldReference 3 21, (10, Some 21, Some 3, 2))
      ∷ (NotOpened 3 21, (11, Some 21, Some 3, 2))
      ∷ (Cycle names, (12, None, None, 2))
      ∷ (UnknownRoot, (13, None, None, 2))
      ∷ (TooLarge 1001, (14, None, None, 2))
      ∷ (OutOfMemory, (15, None, None, 5))
      ∷ (ChainTooLong names, (16, None, None, 2))
      ∷ (TooManyCases, (17, None, None, 2))
      ∷ (SchemaNotJson 21 true, (20, None, None, 2))
      ∷ (Keyword place name, (21, None, None, 2))
      ∷ (Shape place name, (22, None, None, 2))
      ∷ (Reference place name, (23, None, None, 2))
      ∷ (Loop names, (24, None, None, 2))
      ∷ (NotJson 21 false, (25, None, None, 2))
      ∷ (NotInteger 21 true, (26, None, None, 2))
      ∷ (NotInteger 21 false, (26, None, None, 2))
      ∷ (TooManyPairs 8192 8193 true, (27, None, None, 2))
      ∷ (TooManyPairs 8192 8193 false, (27, None, None, 2))
      ∷ (InputTooLong, (28, None, None, 2))
      ∷ (ReadFailed, (30, None, None, 4))
      ∷ (WriteFailed, (31, None, None, 4))
      ∷ []

  each_refusal : map (λ r. told r.0) refusals ≡ map (λ r. r.1) refusals
  each_refusal = refl

  -- what the refusals of each crate are: those of a source get its place
  by_syntax : map (of_syntax 3) (syntax.OutOfMemory ∷ syntax.NoToken 21 ∷ syntax.Syntax 21 ∷ syntax.LeftOut 21 ∷ syntax.IntegerRange 21 ∷ syntax.TooHigh ∷ [])
      ≡ OutOfMemory ∷ NoToken 3 21 ∷ Syntax 3 21 ∷ LeftOut 3 21 ∷ IntegerRange 3 21 ∷ TooHigh 3 ∷ []
  by_syntax = refl

  by_package : map of_resolve (resolve.OutOfMemory ∷ resolve.PackageName 3 ∷ resolve.UnknownName 3 21 ∷ resolve.FieldReference 3 21 ∷ resolve.NotOpened 3 21 ∷ resolve.TooLarge 1001 ∷ [])
      ≡ OutOfMemory ∷ PackageName 3 ∷ UnknownName 3 21 ∷ FieldReference 3 21 ∷ NotOpened 3 21 ∷ TooLarge 1001 ∷ []
  by_package = refl

  by_recursion : map of_guard (guard.OutOfMemory ∷ guard.Cycle names ∷ guard.ChainTooLong names ∷ []) ≡ OutOfMemory ∷ Cycle names ∷ ChainTooLong names ∷ []
  by_recursion = refl

  by_root : (map of_instance (instance.OutOfMemory ∷ instance.UnknownRoot ∷ instance.TooManyPairs 8192 8193 ∷ []) ≡ OutOfMemory ∷ UnknownRoot ∷ TooManyPairs 8192 8193 false ∷ []) × (map of_compile (compile.OutOfMemory ∷ compile.UnknownRoot ∷ []) ≡ OutOfMemory ∷ UnknownRoot ∷ [])
  by_root = (refl, refl)

  by_schema : map of_schema (schema.OutOfMemory ∷ schema.Keyword place name ∷ schema.Shape place name ∷ schema.Reference place name ∷ schema.Loop names ∷ [])
      ≡ OutOfMemory ∷ Keyword place name ∷ Shape place name ∷ Reference place name ∷ Loop names ∷ []
  by_schema = refl

  by_document : (map of_document (doc.OutOfMemory ∷ doc.NotJson 21 true ∷ doc.NotInteger 21 ∷ []) ≡ OutOfMemory ∷ NotJson 21 true ∷ NotInteger 21 false ∷ []) × (map of_validate (validate.OutOfMemory ∷ validate.TooManyPairs 8192 8193 ∷ []) ≡ OutOfMemory ∷ TooManyPairs 8192 8193 true ∷ [])
  by_document = (refl, refl)

  by_schema_text : map of_schema_text (doc.OutOfMemory ∷ doc.NotJson 21 true ∷ doc.NotInteger 21 ∷ []) ≡ OutOfMemory ∷ SchemaNotJson 21 true ∷ NotInteger 21 true ∷ []
  by_schema_text = refl

-- ---- lines

-- with an offset, and without one
lines : map fault_line (FieldReference 0 21 ∷ UnknownRoot ∷ []) ≡ (codes "error 10 at 21" ++ 10 ∷ []) ∷ (codes "error 13" ++ 10 ∷ []) ∷ []
unfolding digits
lines = refl

answer_line : line_of (codes "{}") ≡ 123 ∷ 125 ∷ 10 ∷ []
answer_line = refl

-- ---- limits

-- two sources of 1,048,576 bytes together, and of one more
sources_within : (s t : List ℕ) → length s + length t ≡ 1048576 → bytes_of (s ∷ t ∷ []) ≤ most_bytes
sources_within s t e = omega arith

sources_above : (s t : List ℕ) → length s + length t ≡ 1048577 → ¬ (bytes_of (s ∷ t ∷ []) ≤ most_bytes)
sources_above s t e = λ h. omega arith

-- three bytes come, where the limit is two, and where it is three
longer : IsLonger 2 (Some (1 ∷ 2 ∷ 3 ∷ []))
longer = omega arith

not_longer : ¬ (IsLonger 3 (Some (1 ∷ 2 ∷ 3 ∷ [])))
not_longer h = omega arith

-- a reader of three bytes that gave one of them, where it may give one, and where it may give none
gave_one : LosesAtMost 1 (Some (1 ∷ 2 ∷ 3 ∷ [])) (Some (2 ∷ 3 ∷ []))
gave_one = (1 ∷ [], omega arith, refl)

gave_too_many : ¬ (LosesAtMost 0 (Some (1 ∷ 2 ∷ 3 ∷ [])) (Some (2 ∷ 3 ∷ [])))
gave_too_many ([], small, is) = cc
gave_too_many (x ∷ xs, small, is) = omega arith

-- what `run` takes from a reader at the most
most_taken : most_bytes + chunk_bytes ≡ 1052672
most_taken = refl
