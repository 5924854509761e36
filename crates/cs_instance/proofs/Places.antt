-- Expressions that wait, each at a place of its own.
use Rattle.std.proofs.Common.{◌≡◌, ℕ, ◌+◌, ◌<◌, ◌≤◌, List, [], ◌∷◌, ◌++◌, map, length, take, get_or, Bor, refl, sym, ap, ap₂, ◌∙◌, subst, append_assoc, length-append, arith}
use Rattle.std.specs.List.{AllByRecursion as Each}
use Rattle.std.proofs.lemmas.List.{map-append, take_more, get_or_push, length-map}
use Rattle.cs_document.proofs.Each.{each_map}
use Rattle.cs_package.specs.Expression as cue
use Rattle.cs_package.specs.Expression.{Expression, Declaration, DeclarationMark}
use Rattle.cs_package.specs.View.{expression_of}
use Rattle.cs_package.specs.declared.shape.Shape.{Shape}
use Rattle.cs_rules.specs.declared.numberer.Numberer.{Numberer}
use Rattle.cs_instance.specs.Numbering.{map_declaration}
use Rattle.cs_instance.specs.declared.rules.Rule.{Rule as Coded}
use Rattle.cs_instance.specs.Placing.{waiting, expression_at}
use Rattle.cs_rules.proofs.Lists.{each_push, numbers_same}
use Rattle.cs_instance.proofs.Placed.{expression_front}

pub take_at : {X : Type 0} (xs : List X) (i : ℕ) (x : X) → i < length xs → x ≡ get_or xs i x → take (i + 1) xs ≡ take i xs ++ x ∷ []
take_at xs i x l e = take_more xs i x l ∙ ap (λ y. take i xs ++ y ∷ []) (sym e)

-- one more
module _ (names : List (List ℕ)) (old new : Numberer Shape Coded) (b : Bor Shape) (grown : new.pending.items ≡ old.pending.items ++ b ∷ []) where
  pub waits_one : waiting names new ≡ waiting names old ++ expression_of names b.now ∷ []
  waits_one = let f : Bor Shape → Expression = λ x. expression_of names x.now in ap (map f) grown ∙ map-append f old.pending.items (b ∷ [])

  pub waits_push : (first : List Expression) (es : List Expression) → waiting names old ≡ first ++ es → waiting names new ≡ first ++ (es ++ expression_of names b.now ∷ [])
  waits_push first es h = waits_one ∙ ap (λ xs. xs ++ expression_of names b.now ∷ []) h ∙ append_assoc first es (expression_of names b.now ∷ [])

  width : length (waiting names old) ≡ length old.pending.items
  width = length-map old.pending.items (λ (b : Bor Shape). expression_of names b.now)

  here : expression_at (waiting names new) (length old.pending.items) ≡ expression_of names b.now
  here = ap (λ xs. expression_at xs (length old.pending.items)) waits_one ∙ get_or_push (waiting names old) (expression_of names b.now) (cue.atom cue.top) (length old.pending.items) width

  front : (p : ℕ) → p < length old.pending.items → expression_at (waiting names old) p ≡ expression_at (waiting names new) p
  front p l = expression_front (waiting names old) (expression_of names b.now ∷ []) p (subst (λ n. p < n) (sym width) l) ∙ ap (λ xs. expression_at xs p) (sym waits_one)

  numbers_kept : (ps : List ℕ) → Each (λ p. p < length old.pending.items) ps → map (expression_at (waiting names old)) ps ≡ map (expression_at (waiting names new)) ps
  numbers_kept ps h = numbers_same (length old.pending.items) (expression_at (waiting names old)) (expression_at (waiting names new)) front ps h

  pub places_push : (ps : List ℕ) (es : List Expression) → Each (λ p. p < length old.pending.items) ps → map (expression_at (waiting names old)) ps ≡ es → map (expression_at (waiting names new)) (ps ++ length old.pending.items ∷ []) ≡ es ++ expression_of names b.now ∷ []
  places_push ps es h e = map-append (expression_at (waiting names new)) ps (length old.pending.items ∷ []) ∙ ap₂ (λ xs x. xs ++ x ∷ []) (sym (numbers_kept ps h) ∙ e) here

  abbrev at_place : List Expression → Declaration ℕ → Declaration Expression
  at_place w = map_declaration (expression_at w)

  fields_kept : (ps : List (Declaration ℕ)) → Each (λ (p : Declaration ℕ). p.value < length old.pending.items) ps → map (at_place (waiting names old)) ps ≡ map (at_place (waiting names new)) ps
  fields_kept [] h = refl
  fields_kept (p ∷ ps) h = ap₂ ◌∷◌ (ap (λ v. record { label = p.label; mark = p.mark; value = v }) (front p.value h.0)) (fields_kept ps h.1)

  pub fields_push : (ps : List (Declaration ℕ)) (qs : List (Declaration Expression)) (d : Declaration ℕ) (q : Declaration Expression) → Each (λ (p : Declaration ℕ). p.value < length old.pending.items) ps → map (at_place (waiting names old)) ps ≡ qs → d.value ≡ length old.pending.items → record { label = d.label; mark = d.mark; value = expression_of names b.now } ≡ q
      → map (at_place (waiting names new)) (ps ++ d ∷ []) ≡ qs ++ q ∷ []
  fields_push ps qs d q h e v is = map-append (at_place (waiting names new)) ps (d ∷ []) ∙ ap₂ (λ xs x. xs ++ x ∷ []) (sym (fields_kept ps h) ∙ e) (ap (λ x. record { label = d.label; mark = d.mark; value = x }) (ap (expression_at (waiting names new)) v ∙ here) ∙ is)

pub below_push : {X : Type 0} (f : X → ℕ) (n m : ℕ) (xs : List X) (x : X) → n < m → Each (λ y. f y < n) xs → f x ≡ n → Each (λ y. f y < m) (xs ++ x ∷ [])
below_push f n m xs x l h e = each_push (λ y. f y < m) xs x (each_map (λ y. f y < n) (λ y. f y < m) (λ y a. let b : f y < n = a in omega arith) xs h) (subst (λ k. k < m) (sym e) l)

pub longer : (names : List (List ℕ)) (mid after : Numberer Shape Coded) (es : List Expression) → waiting names after ≡ waiting names mid ++ es → length mid.pending.items ≤ length after.pending.items
longer names mid after es h = let f : Bor Shape → Expression = λ b. expression_of names b.now in omega (arith, ap length h, length-append (waiting names mid) es, length-map mid.pending.items f, length-map after.pending.items f)

pub longer_one : {X : Type 0} (old new : List X) (b : X) → new ≡ old ++ b ∷ [] → length old < length new
longer_one old new b e = omega (arith, ap length e, length-append old (b ∷ []))

pub declaration_is : (l l' : List ℕ) (m m' : DeclarationMark) (v v' : Expression) → l ≡ l' → m ≡ m' → v ≡ v' → (let d : Declaration Expression = record { label = l; mark = m; value = v } in d) ≡ (let d : Declaration Expression = record { label = l'; mark = m'; value = v' } in d)
declaration_is l l' m m' v v' p q r = ap (λ x. record { label = x; mark = m; value = v }) p ∙ ap (λ x. record { label = l'; mark = x; value = v }) q ∙ ap (λ x. record { label = l'; mark = m'; value = x }) r
