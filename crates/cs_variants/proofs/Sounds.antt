-- Each form of expression is as a package wants it where its parts are.
use Rattle.std.proofs.Common.{◌≡◌, ℕ, ◌+◌, ◌<◌, ◌≤◌, Bool, true, List, [], ◌∷◌, ◌++◌, map, length, take, get_or, Vec, Box, Global, rules, refl, sym, ap, ◌∙◌, subst, arith}
use Rattle.std.specs.List.{list_all, AllByRecursion as Each}
use Rattle.std.proofs.lemmas.Bool.{and_from}
use Rattle.std.proofs.lemmas.List.{take_more}
use Rattle.cs_document.proofs.Each.{each_append}
use Rattle.cs_package.specs.Expression as cue
use Rattle.cs_package.specs.Inside.{IsSimple, is_simple}
use Rattle.cs_package.specs.Joined.{HasTwo, IsJoined, AreJoined, AreJoinedFields, IsJoinedRest}
use Rattle.cs_package.specs.View.{expression_of, part_of, rest_of, expressions_of, declarations_of, is_known, is_known_end, is_known_part}
use Rattle.cs_package.proofs.Simples.{simple_is}
use Rattle.cs_package.proofs.Views.{of-And, of-Or, of-Struct, of-List, of-Each, known-And, known-Or, known-Struct, known-List, known-Each}
use Rattle.cs_package.specs.declared.inside.Simple.{Simple}
use Rattle.cs_package.specs.declared.shape.Shape as Shapes
use Rattle.cs_package.specs.declared.shape.Shape.{Shape}
use Rattle.cs_package.specs.declared.shape.ShapeEnd as Ends
use Rattle.cs_package.specs.declared.shape.ShapeEnd.{ShapeEnd}
use Rattle.cs_package.specs.declared.shape.Part.{Part}
use Rattle.cs_variants.specs.Sound.{IsSound, IsSoundPart, IsSoundEnd}

-- one more
pub each_more : {X : Type 0} (P : X → Type 0) (xs : List X) (i : ℕ) (x : X) → i < length xs → x ≡ get_or xs i x → Each P (take i xs) → P x → Each P (take (i + 1) xs)
each_more P xs i x l is h p =
    subst (Each P) (sym (take_more xs i x l ∙ ap (λ y. take i xs ++ y ∷ []) (sym is))) (each_append P (take i xs) (x ∷ []) h (p, tt))

-- what has no parts has no operands
simple_joined : (e : cue.Expression) → is_simple e ≡ true → IsJoined e
simple_joined (cue.atom a) h = tt
simple_joined (cue.kind k) h = tt
simple_joined (cue.range least greatest) h = tt
simple_joined _ h = cc

module _ (n : ℕ) where
  all_known : (xs : List Shape) → Each (IsSound n) xs → list_all (is_known n) xs ≡ true
  all_known [] h = refl
  all_known (x ∷ xs) h = and_from (is_known n x) (list_all (is_known n) xs) h.0.known (all_known xs h.1)

  all_known_parts : (ps : List Part) → Each (IsSoundPart n) ps → list_all (is_known_part n) ps ≡ true
  all_known_parts [] h = refl
  all_known_parts (p ∷ ps) h = and_from (is_known_part n p) (list_all (is_known_part n) ps) h.0.known (all_known_parts ps h.1)

  module _ (ns : List (List ℕ)) where
    are_joined : (xs : List Shape) → Each (IsSound n) xs → AreJoined (expressions_of (map (expression_of ns) xs))
    are_joined [] h = tt
    are_joined (x ∷ xs) h = (h.0.joined ns, are_joined xs h.1)

    are_joined_fields : (ps : List Part) → Each (IsSoundPart n) ps → AreJoinedFields (declarations_of (map (part_of ns) ps))
    are_joined_fields [] h = tt
    are_joined_fields (p ∷ ps) h = (h.0.joined ns, are_joined_fields ps h.1)

    have_two : (xs : List Shape) → 2 ≤ length xs → HasTwo (expressions_of (map (expression_of ns) xs))
    have_two [] l = absurd (omega (arith, l))
    have_two (x ∷ []) l = absurd (omega (arith, l))
    have_two (x ∷ y ∷ xs) l = tt

  part_known : (p : Part) → is_known_part n p ≡ is_known n p.value
  part_known p = search (rules, Shapes.the_lemmas)

  part_value : (ns : List (List ℕ)) (p : Part) → (part_of ns p).value ≡ expression_of ns p.value
  part_value ns p = search (rules, Shapes.the_lemmas)

  pub sound_Part : (p : Part) → IsSound n p.value → IsSoundPart n p
  sound_Part p h = record {
    known = part_known p ∙ h.known;
    joined = λ ns. subst IsJoined (sym (part_value ns p)) (h.joined ns);
  }

  pub sound_Simple : (x : Simple) (s : Shape) → is_known n s ≡ true → ((ns : List (List ℕ)) → IsSimple x (expression_of ns s)) → IsSound n s
  sound_Simple x s known means = record {
    known = known;
    joined = λ ns. simple_joined (expression_of ns s) (simple_is x (expression_of ns s) (means ns));
  }

  pub sound_And : (s : Shape) (v : Vec Shape Global) → s ≡ Shapes.And v → 2 ≤ length v.items → Each (IsSound n) v.items → IsSound n s
  sound_And s v is l h = record {
    known = ap (is_known n) is ∙ known-And n v ∙ all_known v.items h;
    joined = λ ns. subst IsJoined (sym (ap (expression_of ns) is ∙ of-And ns v)) (have_two ns v.items l, are_joined ns v.items h);
  }

  pub sound_Or : (s : Shape) (v : Vec Shape Global) → s ≡ Shapes.Or v → 2 ≤ length v.items → Each (IsSound n) v.items → IsSound n s
  sound_Or s v is l h = record {
    known = ap (is_known n) is ∙ known-Or n v ∙ all_known v.items h;
    joined = λ ns. subst IsJoined (sym (ap (expression_of ns) is ∙ of-Or ns v)) (have_two ns v.items l, are_joined ns v.items h);
  }

  pub sound_Struct : (s : Shape) (v : Vec Part Global) (o : Bool) → s ≡ Shapes.Struct v o → Each (IsSoundPart n) v.items → IsSound n s
  sound_Struct s v o is h = record {
    known = ap (is_known n) is ∙ known-Struct n v o ∙ all_known_parts v.items h;
    joined = λ ns. subst IsJoined (sym (ap (expression_of ns) is ∙ of-Struct ns v o)) (are_joined_fields ns v.items h);
  }

  pub sound_List : (s : Shape) (v : Vec Shape Global) (e : ShapeEnd) → s ≡ Shapes.List v e → Each (IsSound n) v.items → IsSoundEnd n e → IsSound n s
  sound_List s v e is h k = record {
    known = ap (is_known n) is ∙ known-List n v e ∙ and_from (list_all (is_known n) v.items) (is_known_end n e) (all_known v.items h) k.known;
    joined = λ ns. subst IsJoined (sym (ap (expression_of ns) is ∙ of-List ns v e)) (are_joined ns v.items h, k.joined ns);
  }

  pub sound_Each : (e : ShapeEnd) (b : Box Shape Global) → e ≡ Ends.Each b → IsSound n b.value → IsSoundEnd n e
  sound_Each e b is h = record {
    known = ap (is_known_end n) is ∙ known-Each n b ∙ h.known;
    joined = λ ns. subst IsJoinedRest (sym (ap (rest_of ns) is ∙ of-Each ns b)) (h.joined ns);
  }

  -- ---- packages

  pub bodies_known : (vs : List (Vec Shape Global)) → Each (λ v. Each (IsSound n) v.items) vs → Each (λ v. list_all (is_known n) v.items ≡ true) vs
  bodies_known [] h = tt
  bodies_known (v ∷ vs) h = (all_known v.items h.0, bodies_known vs h.1)

  module _ (ns : List (List ℕ)) where
    each_joined : (xs : List Shape) → Each (IsSound n) xs → Each IsJoined (map (expression_of ns) xs)
    each_joined [] h = tt
    each_joined (x ∷ xs) h = (h.0.joined ns, each_joined xs h.1)

    pub bodies_joined : (vs : List (Vec Shape Global)) → Each (λ v. Each (IsSound n) v.items) vs → Each (Each IsJoined) (map (λ v. map (expression_of ns) v.items) vs)
    bodies_joined [] h = tt
    bodies_joined (v ∷ vs) h = (each_joined v.items h.0, bodies_joined vs h.1)
