-- Schemas numbered one after another, and the object that asks them.
use Rattle.std.proofs.Common.{◌≡◌, ℕ, ◌<◌, ◌≤◌, List, [], ◌∷◌, ◌++◌, Option, Some, None, option_map, option_and_then, Result, map, length, Bor, String, Global, string_bytes, refl, sym, ap, ap₂, ◌∙◌, subst, append_assoc, append-nil, length-append, lt_of_lt_of_le, arith}
use Rattle.std.specs.Prelude.{option_to_list, IfOk}
use Rattle.std.specs.List.{AllByRecursion as Each, flat_map}
use Rattle.std.specs.declared.alloc.AllocError.{AllocError}
use Rattle.std.proofs.lemmas.List.{map-append, length-map}
use Rattle.std.proofs.lemmas.Grind.{flat_map-append}
use Rattle.cs_document.specs.Document.{Document, object}
use Rattle.cs_document.specs.View.{doc_view}
use Rattle.cs_document.proofs.Each.{each_map, each_append, each_front, each_back}
use Rattle.cs_profile.specs.Keywords.{defined}
use Rattle.cs_profile.specs.Constraint.{constraint_of}
use Rattle.cs_profile.specs.Loops.{direct_names}
use Rattle.cs_profile.specs.Numbered.{reference_names, names_of_each}
use Rattle.cs_profile.specs.SchemaDocument.{schema_view, schemas_view, slots_of, present}
use Rattle.cs_profile.specs.declared.schema.Schema.{Schema}
use Rattle.cs_validate.specs.Numbering.{map_constraint, said, PartsBelow, schema_at}
use Rattle.cs_validate.specs.declared.rules.Rule.TheVariants as coded
use Rattle.cs_validate.specs.declared.rules.Conjunction.{Conjunction}
use Rattle.cs_validate.specs.Steps.{asked_of}
use Rattle.cs_validate.specs.Placing.{waiting, AreNumbered, State, AreNumberedBy, AreAt, placed_by, left_by, inside_members, Numbers, number_in, IsKnown, Places, PlacesAll}
use Rattle.cs_validate.proofs.Placed.{schemas_kept, known_more, wait, IsReady, IsPut, finish}
use Rattle.cs_validate.proofs.Waits.{four_wait}
use Rattle.cs_validate.proofs.Slots.{placed_members_are, left_members_are, names_are}
use Rattle.cs_validate.proofs.Claims.{claims_are, parts_below}

-- the numbers stay where more is placed
pub at_more : (s t : List Document) (ks : List ℕ) (es : List Document) → AreAt s ks es → AreAt (s ++ t) ks es
at_more s t ks es a =
    let longer : length s ≤ length (s ++ t) = omega (arith, length-append s t) in
    (schemas_kept s t ks a.1 ∙ a.0, each_map (λ k. k < length s) (λ k. k < length (s ++ t)) (λ k l. lt_of_lt_of_le l longer) ks a.1)

pub at_append : (s t : List Document) (ks js : List ℕ) (es fs : List Document) → AreAt s ks es → AreAt (s ++ t) js fs → AreAt (s ++ t) (ks ++ js) (es ++ fs)
at_append s t ks js es fs a b =
    let u = at_more s t ks es a in
    (map-append (schema_at (s ++ t)) ks js ∙ ap₂ ◌++◌ u.0 b.0, each_append (λ k. k < length (s ++ t)) ks js u.1 b.1)

pub all_known : (R : Document) (numbers : Numbers) (placed more : List Document) (ns : List (List ℕ)) → Each (IsKnown R numbers placed) ns → Each (IsKnown R numbers (placed ++ more)) ns
all_known R numbers placed more ns h = each_map (IsKnown R numbers placed) (IsKnown R numbers (placed ++ more)) (known_more R numbers placed more) ns h

module _ (numbers : Numbers) where
  pub places_one : (n0 n1 : State) (s : Document) (k : ℕ) → Places numbers n0 n1 s k → PlacesAll numbers n0 n1 (s ∷ []) (k ∷ [])
  places_one n0 n1 s k p = (
    p.0 ∙ ap (λ l. waiting n0.pending.items ++ l) (sym (append-nil (left_by s))),
    λ R placed n refs.
        subst (λ l. AreNumberedBy R (placed ++ l) n1 × AreAt (placed ++ l) (k ∷ []) (s ∷ [])) (sym (append-nil (placed_by s)))
        (p.1 R placed n (each_front (IsKnown R numbers placed) (direct_names s) [] refs)),
  )

  pub places_then : (n0 n1 n2 : State) (ss ts : List Document) (ks js : List ℕ)
      → PlacesAll numbers n0 n1 ss ks → PlacesAll numbers n1 n2 ts js → PlacesAll numbers n0 n2 (ss ++ ts) (ks ++ js)
  places_then n0 n1 n2 ss ts ks js p q = (
    q.0 ∙ ap (λ l. l ++ flat_map left_by ts) p.0 ∙ append_assoc (waiting n0.pending.items) (flat_map left_by ss) (flat_map left_by ts)
        ∙ ap (λ l. waiting n0.pending.items ++ l) (sym (flat_map-append left_by ss ts)),
    λ R placed n refs.
        let Q = IsKnown R numbers placed in
        let ms = flat_map direct_names ss in
        let ns = flat_map direct_names ts in
        let split : Each Q (ms ++ ns) = subst (Each Q) (flat_map-append direct_names ss ts) refs in
        let s = placed ++ flat_map placed_by ss in
        let t = flat_map placed_by ts in
        let so_far = p.1 R placed n (each_front Q ms ns split) in
        let next = q.1 R s so_far.0 (all_known R numbers placed (flat_map placed_by ss) ns (each_back Q ms ns split)) in
        let whole : s ++ t ≡ placed ++ flat_map placed_by (ss ++ ts) = append_assoc placed (flat_map placed_by ss) t ∙ ap (λ l. placed ++ l) (sym (flat_map-append placed_by ss ts)) in (
          subst (λ l. AreNumberedBy R l n2) whole next.0,
          subst (λ l. AreAt l (ks ++ js) (ss ++ ts)) whole (at_append s t ks js ss ts so_far.1 next.1),
        ),
  )

-- ---- what an object refers to

each_names : (ss : List Schema) → names_of_each ss ≡ flat_map direct_names (schemas_view ss)
each_names [] = refl
each_names (s ∷ ss) = ap (λ ns. direct_names (schema_view s) ++ ns) (each_names ss)

one_at : {X Y : Type 0} (f : X → Y) (o : Option X) (p : Option Y) → map f (option_to_list o) ≡ option_to_list p → option_map f o ≡ p
one_at f None None h = refl
one_at f None (Some y) h = cc
one_at f (Some x) None h = cc
one_at f (Some x) (Some y) h = cc

module _ (R : Document) (numbers : Numbers) (placed : List Document) where
  abbrev number_of : Option (String Global) → Option ℕ
  number_of o = option_and_then (λ s. number_in numbers (string_bytes s)) o

  reference_below : (o : Option (String Global)) (r : Option ℕ) → r ≡ number_of o → Each (IsKnown R numbers placed) (reference_names o) → Each (λ k. k < length placed) (option_to_list r)
  reference_below None r e h = subst (λ x. Each (λ k. k < length placed) (option_to_list x)) (sym e) tt
  reference_below (Some s) r e h = subst (λ x. Each (λ k. k < length placed) (option_to_list x)) (sym e) h.0.1

  reference_at : (o : Option (String Global)) (r : Option ℕ) → r ≡ number_of o → Each (IsKnown R numbers placed) (reference_names o) → (s : String Global) → o ≡ Some s → option_map (schema_at placed) r ≡ defined R (string_bytes s)
  reference_at o r e h s is =
      ap (option_map (schema_at placed)) (e ∙ ap number_of is) ∙ (subst (λ x. Each (IsKnown R numbers placed) (reference_names x)) is h).0.0

-- the schemas of an object are numbered, and those that it asks of documents inside wait
pub object_ready : (R : Document) (numbers : Numbers) (n0 n1 n2 n3 n4 : State) (c : Conjunction) (placed : List Document)
    → PlacesAll numbers n0 n1 (schemas_view c.keywords.now.all_of.items) c.all_of.items
    → PlacesAll numbers n1 n2 (schemas_view c.keywords.now.any_of.items) c.any_of.items
    → PlacesAll numbers n2 n3 (option_to_list (option_map schema_view c.keywords.now.negated)) (option_to_list c.negated)
    → n4.rules.items ≡ n3.rules.items → waiting n4.pending.items ≡ waiting n3.pending.items ++ inside_members (present (slots_of c.keywords.now)) → c.first ≡ length n3.pending.items
    → c.required ≡ map string_bytes c.keywords.now.required.items → c.one_of ≡ option_map (λ v. map doc_view v.items) c.keywords.now.one_of
    → c.reference ≡ option_and_then (λ s. number_in numbers (string_bytes s)) c.keywords.now.reference
    → AreNumberedBy R placed n0 → Each (IsKnown R numbers placed) (direct_names (object (present (slots_of c.keywords.now))))
    → IsReady R placed (object (present (slots_of c.keywords.now))) (waiting n4.pending.items) n4.rules.items (asked_of (coded.Object c))
object_ready R numbers n0 n1 n2 n3 n4 c placed alls anys nots kept waits first required one_of reference n refs =
    let k = c.keywords.now in
    let ms = present (slots_of k) in
    let A = schemas_view k.all_of.items in
    let B = schemas_view k.any_of.items in
    let C = option_to_list (option_map schema_view k.negated) in
    let Q = IsKnown R numbers placed in
    let named = reference_names k.reference in
    let split : Each Q (named ++ (flat_map direct_names A ++ (flat_map direct_names B ++ flat_map direct_names C))) =
    subst (Each Q) (names_are k ∙ ap₂ (λ xs ys. named ++ (xs ++ (ys ++ flat_map direct_names C))) (each_names k.all_of.items) (each_names k.any_of.items)) refs in
    let rest = each_back Q named (flat_map direct_names A ++ (flat_map direct_names B ++ flat_map direct_names C)) split in
    let rest' = each_back Q (flat_map direct_names A) (flat_map direct_names B ++ flat_map direct_names C) rest in
    let FA = flat_map placed_by A in
    let FB = flat_map placed_by B in
    let FC = flat_map placed_by C in
    let s1 = placed ++ FA in
    let s2 = s1 ++ FB in
    let s3 = s2 ++ FC in
    let lift = λ (ns : List (List ℕ)) (h : Each Q ns). all_known R numbers placed FA ns h in
    let one = alls.1 R placed n (each_front Q (flat_map direct_names A) (flat_map direct_names B ++ flat_map direct_names C) rest) in
    let two = anys.1 R s1 one.0 (lift (flat_map direct_names B) (each_front Q (flat_map direct_names B) (flat_map direct_names C) rest')) in
    let three = nots.1 R s2 two.0 (all_known R numbers s1 FB (flat_map direct_names C) (lift (flat_map direct_names C) (each_back Q (flat_map direct_names B) (flat_map direct_names C) rest'))) in
    let known = all_known R numbers s2 FC named (all_known R numbers s1 FB named (lift named (each_front Q named (flat_map direct_names A ++ (flat_map direct_names B ++ flat_map direct_names C)) split))) in
    let all_at = at_more s2 FC c.all_of.items A (at_more s1 FB c.all_of.items A one.1) in
    let any_at = at_more s2 FC c.any_of.items B two.1 in
    let W = waiting n4.pending.items in
    let at = first ∙ sym (length-map n3.pending.items (λ (b : Bor Schema). schema_view b.now)) in
    let whole : s3 ≡ placed ++ (FA ++ (FB ++ FC)) = append_assoc s1 FB FC ∙ append_assoc placed FA (FB ++ FC) in
    let numbered : AreNumberedBy R s3 n4 = subst (AreNumbered R s3 W) (sym kept) (subst (λ ws. AreNumbered R s3 ws n3.rules.items) (sym waits) (wait R s3 (waiting n3.pending.items) n3.rules.items three.0 (inside_members ms))) in
    let asks : said (constraint_of R (object ms)) ≡ said (map_constraint (schema_at s3) (schema_at W) (asked_of (coded.Object c))) =
    claims_are R s3 (waiting n3.pending.items) c required one_of all_at.0 any_at.0 (one_at (schema_at s3) c.negated (option_map schema_view k.negated) three.1.0) (reference_at R numbers s3 k.reference c.reference reference known) at
    ∙ ap (λ ws. said (map_constraint (schema_at s3) (schema_at ws) (asked_of (coded.Object c)))) (sym waits) in
    let parts : PartsBelow (length s3) (length W) (asked_of (coded.Object c)) =
    subst (λ ws. PartsBelow (length s3) (length ws) (asked_of (coded.Object c))) (sym waits) (parts_below (length s3) (waiting n3.pending.items) c all_at.1 any_at.1 three.1.1 (reference_below R numbers s3 k.reference c.reference reference known) at) in
    record {
      more = FA ++ (FB ++ FC);
      rules = ap (λ l. l ++ object ms ∷ []) (placed_members_are k);
      numbered = subst (λ ss. AreNumberedBy R ss n4) whole numbered;
      asks = subst (λ ss. said (constraint_of R (object ms)) ≡ said (map_constraint (schema_at ss) (schema_at W) (asked_of (coded.Object c)))) whole asks;
      parts = subst (λ ss. PartsBelow (length ss) (length W) (asked_of (coded.Object c))) whole parts;
    }

pub object_placed : (result : Result ℕ AllocError) (numbers : Numbers) (n0 n1 n2 n3 n4 n5 : State) (c : Conjunction)
    → IfOk result (IsPut n4 n5 (coded.Object c)) → n5.pending ≡ n4.pending
    → PlacesAll numbers n0 n1 (schemas_view c.keywords.now.all_of.items) c.all_of.items
    → PlacesAll numbers n1 n2 (schemas_view c.keywords.now.any_of.items) c.any_of.items
    → PlacesAll numbers n2 n3 (option_to_list (option_map schema_view c.keywords.now.negated)) (option_to_list c.negated)
    → n4.rules.items ≡ n3.rules.items → waiting n4.pending.items ≡ waiting n3.pending.items ++ inside_members (present (slots_of c.keywords.now)) → c.first ≡ length n3.pending.items
    → c.required ≡ map string_bytes c.keywords.now.required.items → c.one_of ≡ option_map (λ v. map doc_view v.items) c.keywords.now.one_of
    → c.reference ≡ option_and_then (λ s. number_in numbers (string_bytes s)) c.keywords.now.reference
    → IfOk result (Places numbers n0 n5 (object (present (slots_of c.keywords.now))))
object_placed result numbers n0 n1 n2 n3 n4 n5 c done still alls anys nots kept waits first required one_of reference =
    let k = c.keywords.now in
    let I = inside_members (present (slots_of k)) in
    let LA = flat_map left_by (schemas_view k.all_of.items) in
    let LB = flat_map left_by (schemas_view k.any_of.items) in
    let LC = flat_map left_by (option_to_list (option_map schema_view k.negated)) in
    let left = four_wait (waiting n0.pending.items) (waiting n1.pending.items) (waiting n2.pending.items) (waiting n3.pending.items) (waiting n4.pending.items) LA LB LC I alls.0 anys.0 nots.0 waits in
    let grouped : LA ++ (LB ++ (LC ++ I)) ≡ (LA ++ (LB ++ LC)) ++ I = ap (λ l. LA ++ l) (sym (append_assoc LB LC I)) ∙ sym (append_assoc LA (LB ++ LC) I) in
    finish result numbers n0 n4 n5 (coded.Object c) (object (present (slots_of k))) done still
    (left ∙ ap (λ l. waiting n0.pending.items ++ l) (grouped ∙ ap (λ l. l ++ I) (sym (left_members_are k))))
    (λ R placed n refs. object_ready R numbers n0 n1 n2 n3 n4 c placed alls anys nots kept waits first required one_of reference n refs)
