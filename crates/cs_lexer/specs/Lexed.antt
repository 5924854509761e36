-- What the calls of the lexer answer.
use Rattle.std.specs.Prelude.{◌≡◌, ℕ, ◌+◌, ◌≤◌, List, [], ◌∷◌, ◌++◌, length, take, drop, Result, Ok, Err, String, string_bytes}
use Rattle.std.specs.declared.alloc.Global.{Global}
use Rattle.cs_grammar.specs.declared.fault.SyntaxFault.{SyntaxFault}
use Rattle.cs_grammar.specs.declared.fault.SyntaxFault.TheVariants as faults
use Rattle.cs_grammar.specs.declared.token.Token.{Token}
use Rattle.cs_grammar.specs.declared.profile.Profile.{Profile}
use Rattle.cs_grammar.specs.declared.profile.Profile.TheVariants as profiles
use Rattle.cs_grammar.specs.Cut.{Lexeme, lexeme}
use Rattle.cs_grammar.specs.CutIn.{IsCutIn}
use Rattle.cs_grammar.specs.Stuck.{IsStuckIn}
use Rattle.cs_grammar.specs.View.{lexemes_view}

-- the answer is y, seen by view, unless memory ran out
abbrev pub Answers : {X Y : Type 0} → (X → Y) → Result X SyntaxFault → Y → Type 0
Answers view (Ok x) y = view x ≡ y
Answers view (Err faults.OutOfMemory) y = Unit {0}
Answers view (Err _) y = ⊥

-- the answer is that fault, unless memory ran out
abbrev pub Refuses : {X : Type 0} → Result X SyntaxFault → SyntaxFault → Type 0
Refuses (Ok x) f = ⊥
Refuses (Err faults.OutOfMemory) f = Unit {0}
Refuses (Err e) f = e ≡ f

-- From the offset o on the tokens are in the source in order, none over another: the text of each is what is at its start.
abbrev pub AreSlices : List ℕ → ℕ → List Lexeme → Type 0
AreSlices source o [] = Unit {0}
AreSlices source o (lexeme s t p ∷ ks) = (o ≤ p) × (p + length t ≤ length source) × (t ≡ take (length t) (drop p source)) × AreSlices source (p + length t) ks

-- a source is refused so in a profile: it is stuck there, unless memory ran out
abbrev pub IsRefusalIn : Profile → List ℕ → SyntaxFault → Type 0
IsRefusalIn p source faults.OutOfMemory = Unit {0}
IsRefusalIn p source f = IsStuckIn p source f

-- in the default profile
abbrev pub IsRefusal : List ℕ → SyntaxFault → Type 0
IsRefusal = IsRefusalIn profiles.Default

-- these characters are answered, unless memory ran out
abbrev pub IsOf : Result (String Global) SyntaxFault → List ℕ → Type 0
IsOf (Ok s) xs = string_bytes s ≡ xs
IsOf (Err e) xs = e ≡ faults.OutOfMemory

-- on success these were put at the end, and an error is want of memory; for private contracts alone
abbrev pub Puts : {X : Type 0} → Result X SyntaxFault → List Token → List Token → List Lexeme → Type 0
Puts (Ok x) old new ks = lexemes_view new ≡ lexemes_view old ++ ks
Puts (Err e) old new ks = e ≡ faults.OutOfMemory

-- these are the tokens of a source in a profile, or it is refused; for private contracts alone
abbrev pub Cuts : {X : Type 0} → Result X SyntaxFault → Profile → List ℕ → List Token → Type 0
Cuts (Ok x) p source new = IsCutIn p source (lexemes_view new)
Cuts (Err e) p source new = IsRefusalIn p source e
