-- Samples of attributes, with the values that CUE's language specification gives them.
use Rattle.std.proofs.Common.{◌≡◌, ℕ, List, [], ◌∷◌, map, replicate, Option, Some, None, codes, refl}
use Rattle.cs_grammar.specs.declared.profile.Profile.TheVariants as profiles
use Rattle.cs_grammar.specs.declared.token.Sort.TheVariants as sorts
use Rattle.cs_grammar.specs.declared.line.LineState.TheVariants.{Plain, WantsComma}
use Rattle.cs_grammar.specs.declared.fault.SyntaxFault.TheVariants.{NoToken}
use Rattle.cs_grammar.specs.Attribute.{open_len, attribute_len, attribute_in}
use Rattle.cs_grammar.specs.Cut.{lexeme, blank, new_line, attribute, token, finish}
use Rattle.cs_grammar.specs.CutIn.{IsCutIn}
use Rattle.cs_grammar.specs.Stuck.{nothing, IsStuck, IsStuckIn, no_token, past_blank, past_token}
use Rattle.cs_grammar.proofs.CutSamples.{begins, begins_none}
use Prim.Native.String.{String}

abbrev lengths_of : List String → List (Option ℕ)
lengths_of ts = map (λ t. attribute_len (codes t)) ts

-- each up to its last parenthesis
lengths : lengths_of ("@a()b" ∷ "@_1$({[]}())" ∷ "@a(\n)" ∷ "@a(// )\n) )" ∷ "@a(/ /)" ∷ "@a(@b())" ∷ []) ≡ Some 4 ∷ Some 12 ∷ Some 5 ∷ Some 9 ∷ Some 7 ∷ Some 8 ∷ []
unfolding open_len
lengths = refl

-- what is in a text opens and closes nothing
texts : lengths_of ("@a(\")\")" ∷ "@a(\"[\")" ∷ "@a(\"\\\")\\\\\")" ∷ "@a(\"\\u0029\", \"//\")" ∷ "@a(\"\")" ∷ []) ≡ Some 7 ∷ Some 7 ∷ Some 11 ∷ Some 18 ∷ Some 6 ∷ []
unfolding open_len
texts = refl

-- it begins with `@` and an identifier, right before its parenthesis
no_heads : lengths_of ("" ∷ "a()" ∷ "@" ∷ "@a" ∷ "@()" ∷ "@1()" ∷ "@#a()" ∷ "@a ()" ∷ "@a[]" ∷ []) ≡ replicate 9 None
no_heads = refl

-- brackets that aren't balanced
unbalanced : lengths_of ("@a(" ∷ "@a(()" ∷ "@a(])" ∷ "@a(}" ∷ "@a([)])" ∷ "@a({]})" ∷ "@a(// )" ∷ []) ≡ replicate 7 None
unfolding open_len
unbalanced = refl

-- texts without an end on their line, with another escape, and of another form
other_texts : lengths_of ("@a(\")" ∷ "@a(\"\n\")" ∷ "@a(\"\\(x)\")" ∷ "@a(\"\\x\")" ∷ "@a(')')" ∷ "@a(#\")\"#)" ∷ "@a(\"\"\"\"\"\")" ∷ []) ≡ replicate 7 None
unfolding open_len
other_texts = refl

by_default : attribute_in profiles.Default (codes "@a()") ≡ None
by_default = refl

-- ---- sources

-- no token is made of it, and the end of its line inserts the comma of what is before it
passed : IsCutIn profiles.Wide (codes "a @b(\")\")\n") (lexeme sorts.Name (codes "a") 0 ∷ lexeme sorts.Inserted [] 9 ∷ lexeme sorts.End [] 10 ∷ [])
unfolding open_len
passed =
    token {n = 1} (begins Plain (codes "a @b(\")\")\n") 1 sorts.Name refl refl refl refl refl refl refl) (
    blank refl (
    attribute {n = 7} refl (
    new_line {l = WantsComma} {ks = lexeme sorts.End [] 10 ∷ []} refl (
    finish {l = Plain}))))

left_out : IsStuck (codes "a @b()") (NoToken 2)
left_out = past_token {n = 1} (begins Plain (codes "a @b()") 1 sorts.Name refl refl refl refl refl refl refl) (past_blank refl (no_token (nothing refl refl refl (begins_none (codes "@b()") refl)) refl))

no_whole : IsStuckIn profiles.Wide (codes "@a([)])") (NoToken 0)
unfolding open_len
no_whole = no_token (nothing refl refl refl (begins_none (codes "@a([)])") refl)) refl
