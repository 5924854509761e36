-- The schema of a list validates exactly the instances of the list.
use Rattle.std.proofs.Common.{◌≡◌, ℕ, suc, max, List, [], ◌∷◌, Bool, true, false, ◌&&◌, Option, Some, None, codes, nat_le, length, drop, pos, refl, ap, ◌∙◌, arith}
use Rattle.std.specs.Option.{option_map_or}
use Rattle.std.specs.List.{list_all}
use Rattle.std.proofs.Math.Bool.{and-true}
use Rattle.std.proofs.Math.Dec.{leb-zero, leb-suc-zero, leb-suc-suc}
use Rattle.cs_document.specs.Document.{Document, null, boolean, integer, text, list, object, Documents, no_documents, document, elements, Members, entries}
use Rattle.cs_document.specs.Opened.{opened}
use Rattle.cs_instance.specs.Constraint.{Rest, nothing, anything, each, is_list, rest_holds, elements_hold}
use Rattle.cs_profile.specs.Trim.{with_member}
use Rattle.cs_profile.specs.Validity.{IsValidity, front_holds}
use Rattle.cs_compile.specs.Translation.{list_schema, fixed, of_type}
use Rattle.cs_compile.proofs.Asserted.{asserted, all_with, valid_object, valid_false}

-- what the schema of the rest says of it
abbrev pub rest_by : Option Document → Rest Document
rest_by None = anything
rest_by (Some s) = each s

abbrev list_keywords : Documents → Option Document → Members
list_keywords front rest = with_member rest (codes "items") (fixed front (of_type (codes "array")))

and_then : {b c : Bool} (a : Bool) → b ≡ c → (a && b) ≡ (a && c)
and_then a e = ap (λ b. a && b) e

false_last : (a b c : Bool) → (a && (b && (c && (false && true)))) ≡ false
false_last true true true = refl
false_last true true false = refl
false_last true false c = refl
false_last false b c = refl

false_behind : (a : Bool) → (a && (false && true)) ≡ false
false_behind true = refl
false_behind false = refl

moved : (a l f r : Bool) → (r && (l && ((a && f) && (true && true)))) ≡ (a && (r && (l && (f && (true && true)))))
moved true l f r = refl
moved false l f true = go l
  where
    go : (l : Bool) → (l && false) ≡ false
    go true = refl
    go false = refl
moved false l f false = refl

module _ (V : Document → Document → Bool) where
  rest_alike : (rest : Option Document) (ys : List Document) → option_map_or (λ s. list_all (λ y. V s y) ys) rest true ≡ rest_holds (λ y s. V s y) (rest_by rest) ys
  rest_alike None ys = refl
  rest_alike (Some s) ys = refl

  -- long enough, the front by its places, and the rest behind it
  elements_alike : (ss : List Document) (rest : Option Document) (ys : List Document)
      → (option_map_or (λ s. list_all (λ y. V s y) (drop (length ss) ys)) rest true && (nat_le (length ss) (length ys) && (front_holds {H = Document} (λ s. false) (λ y s. V s y) ss ys && (true && true))))
      ≡ elements_hold (λ y s. V s y) ss (rest_by rest) ys
  elements_alike [] rest ys =
      ap (λ b. option_map_or (λ s. list_all (λ y. V s y) ys) rest true && (b && true)) (leb-zero (length ys))
      ∙ and-true _ ∙ rest_alike rest ys
  elements_alike (s ∷ ss) rest [] =
      ap (λ b. option_map_or (λ t. list_all (λ y. V t y) []) rest true && (b && true)) (leb-suc-zero (length ss)) ∙ go (option_map_or (λ t. list_all (λ y. V t y) []) rest true)
    where
      go : (a : Bool) → (a && false) ≡ false
      go true = refl
      go false = refl
  elements_alike (s ∷ ss) rest (y ∷ ys) =
      ap (λ b. option_map_or (λ t. list_all (λ z. V t z) (drop (length ss) ys)) rest true && (b && ((V s y && front_holds {H = Document} (λ s. false) (λ y s. V s y) ss ys) && (true && true)))) (leb-suc-suc (length ss) (length ys))
      ∙ moved (V s y) (nat_le (length ss) (length ys)) (front_holds {H = Document} (λ s. false) (λ y s. V s y) ss ys) (option_map_or (λ s. list_all (λ y. V s y) (drop (length ss) ys)) rest true)
      ∙ and_then (V s y) (elements_alike ss rest ys)

max_zero : (n : ℕ) → max n 0 ≡ n
max_zero n = omega arith

module _ (R : Document) (V : Document → Document → Bool) (g : IsValidity R V) where
  -- the keywords of the schema, one by one
  abbrev rest_part : Documents → Option Document → Document → Bool
  rest_part front rest x = option_map_or (λ v. asserted R V g (entries (list_keywords front rest)) x (codes "items", v)) rest true

  by_keywords : (front : Documents) (rest : Option Document) (x : Document)
      → V (list_schema front rest) x ≡ (rest_part front rest x && list_all (asserted R V g (entries (list_keywords front rest)) x) (entries (fixed front (of_type (codes "array")))))
  by_keywords front rest x = valid_object R V g _ x ∙ all_with (asserted R V g (entries (list_keywords front rest)) x) rest (codes "items") (fixed front (of_type (codes "array")))

  other_kind : (front : Documents) (rest : Option Document) (x : Document) → asserted R V g [] x (codes "type", text (codes "array")) ≡ false → V (list_schema front rest) x ≡ false
  other_kind no_documents rest x e = by_keywords no_documents rest x ∙ ap (λ b. rest_part no_documents rest x && (b && true)) e ∙ false_behind (rest_part no_documents rest x)
  other_kind (document d ds) rest x e =
      by_keywords (document d ds) rest x
      ∙ ap (λ b. rest_part (document d ds) rest x && (asserted R V g [] x (codes "minItems", integer (pos (suc (length (elements ds))))) && (asserted R V g [] x (codes "prefixItems", list (document d ds)) && (b && true)))) e
      ∙ false_last (rest_part (document d ds) rest x) (asserted R V g [] x (codes "minItems", integer (pos (suc (length (elements ds)))))) (asserted R V g [] x (codes "prefixItems", list (document d ds)))

  rest_asserted : (front : Documents) (rest : Option Document) (es : Documents)
      → rest_part front rest (list es) ≡ option_map_or (λ s. list_all (λ y. V s y) (drop (length (elements front)) (elements es))) rest true
  rest_asserted front None es = refl
  rest_asserted no_documents (Some s) es = refl
  rest_asserted (document d ds) (Some s) es = ap (λ n. list_all (λ y. V s y) (drop n (elements es))) (max_zero (suc (length (elements ds))))

  pub list_holds : (front : Documents) (rest : Option Document) (x : Document) → V (list_schema front rest) x ≡ is_list (λ y s. V s y) (elements front) (rest_by rest) (opened x)
  list_holds no_documents rest (list es) =
      by_keywords no_documents rest (list es) ∙ and-true _ ∙ rest_asserted no_documents rest es ∙ rest_alike V rest (elements es)
  list_holds (document d ds) rest (list es) =
      by_keywords (document d ds) rest (list es)
      ∙ ap (λ b. b && list_all (asserted R V g (entries (list_keywords (document d ds) rest)) (list es)) (entries (fixed (document d ds) (of_type (codes "array"))))) (rest_asserted (document d ds) rest es)
      ∙ elements_alike V (elements (document d ds)) rest (elements es)
  list_holds front rest null = other_kind front rest null refl
  list_holds front rest (boolean b) = other_kind front rest (boolean b) refl
  list_holds front rest (integer z) = other_kind front rest (integer z) refl
  list_holds front rest (text s) = other_kind front rest (text s) refl
  list_holds front rest (object ms) = other_kind front rest (object ms) refl

  -- a closed list has nothing behind its front
  pub nothing_behind : (ss : List Document) (ys : List Document) → elements_hold (λ y s. V s y) ss (each (boolean false)) ys ≡ elements_hold (λ y s. V s y) ss nothing ys
  nothing_behind [] [] = refl
  nothing_behind [] (y ∷ ys) = ap (λ b. b && list_all (λ z. V (boolean false) z) ys) (valid_false R V g y)
  nothing_behind (s ∷ ss) [] = refl
  nothing_behind (s ∷ ss) (y ∷ ys) = and_then (V s y) (nothing_behind ss ys)
