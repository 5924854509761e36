-- One schema more waits.
use Rattle.std.proofs.Common.{◌≡◌, List, [], ◌∷◌, ◌++◌, Bor, ap, ◌∙◌, append_assoc}
use Rattle.std.proofs.lemmas.List.{map-append}
use Rattle.cs_document.specs.Document.{Document}
use Rattle.cs_profile.specs.SchemaDocument.{schema_view}
use Rattle.cs_profile.specs.declared.schema.Schema.{Schema}
use Rattle.cs_validate.specs.Placing.{waiting}

pub waits_push : (first ss : List Document) (old new : List (Bor Schema)) (b : Bor Schema) → new ≡ old ++ b ∷ [] → waiting old ≡ first ++ ss → waiting new ≡ first ++ (ss ++ schema_view b.now ∷ [])
waits_push first ss old new b grown h =
    ap waiting grown ∙ map-append (λ (b : Bor Schema). schema_view b.now) old (b ∷ []) ∙ ap (λ xs. xs ++ schema_view b.now ∷ []) h ∙ append_assoc first ss (schema_view b.now ∷ [])

-- four lists wait one after another
pub four_wait : (a b c d e : List Document) (one two three four : List Document) → b ≡ a ++ one → c ≡ b ++ two → d ≡ c ++ three → e ≡ d ++ four → e ≡ a ++ (one ++ (two ++ (three ++ four)))
four_wait a b c d e one two three four p q r s =
    s ∙ ap (λ l. l ++ four) r ∙ append_assoc c three four ∙ ap (λ l. l ++ (three ++ four)) q ∙ append_assoc b two (three ++ four)
    ∙ ap (λ l. l ++ (two ++ (three ++ four))) p ∙ append_assoc a one (two ++ (three ++ four))
