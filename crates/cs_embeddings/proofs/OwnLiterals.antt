-- A struct literal without embeddings, as an alternative.
use Rattle.std.proofs.Common.{◌≡◌, ℕ, Bool, true, ◌||◌, [], ◌∷◌, Option, refl, sym, ap, ◌∙◌}
use Rattle.std.proofs.lemmas.Bool.{and_parts}
use Rattle.std.specs.List.{AllByRecursion}
use Rattle.cs_grammar.specs.Tree.{Tree, Fields, no_field, field}
use Rattle.cs_embeddings.proofs.WellAlternatives.{all-append}
use Rattle.cs_embeddings.specs.Alternatives.{Origin, Alternative, nothing, itself, with_declaration, with_fields}
use Rattle.cs_embeddings.specs.Embedded.{embeds_well, fields_embed_well}
use Rattle.cs_embeddings.specs.Joined.{own}

module _ (inner : Tree → Bool) where
  abbrev HasWell : Alternative → Type 0
  HasWell a = AllByRecursion (λ d. embeds_well inner d.value ≡ true) a.declarations

  fields_well : (p : Origin) (fs : Fields) → fields_embed_well inner fs ≡ true → (a : Alternative) → HasWell a → HasWell (with_fields p fs a)
  fields_well p no_field h a k = k
  fields_well p (field l m e fs) h a k =
      let w = and_parts (embeds_well inner e) (fields_embed_well inner fs) h in
      fields_well p fs w.1 (with_declaration p l m e a)
      (all-append (λ d. embeds_well inner d.value ≡ true) a.declarations
      (record { label = l; mark = m; value = e; place = p.place; embedding = p.embedding } ∷ []) k (w.0, tt))

  -- each value of its fields embeds well
  pub own_well : (p : Option ℕ) (fs : Fields) (b : Bool) → fields_embed_well inner fs ≡ true
      → AllByRecursion (λ d. embeds_well inner d.value ≡ true) (own p fs b).declarations
  own_well p fs b h = fields_well (itself p) fs h nothing tt

still_opened : (p : Origin) (fs : Fields) (a : Alternative) → (with_fields p fs a).opened ≡ a.opened
still_opened p no_field a = refl
still_opened p (field l m e fs) a = still_opened p fs (with_declaration p l m e a)

-- what has its fields, and is opened as it is
abbrev pub opened_as : Bool → Alternative → Alternative
opened_as b a = record { declarations = a.declarations; opened = b; met = a.met }

pub is_own : (p : Option ℕ) (fs : Fields) (b : Bool) (a : Alternative) → a ≡ with_fields (itself p) fs nothing → opened_as b a ≡ own p fs b
is_own p fs b a is =
    let w = with_fields (itself p) fs nothing in
    ap (opened_as b) is ∙ ap (λ (o : Bool). opened_as (o || b) w) (sym (still_opened (itself p) fs nothing))
