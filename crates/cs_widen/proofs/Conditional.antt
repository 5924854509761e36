-- A literal under conditions, read as it is written, is what it stands for: an alternative in which they hold reads a map where the declarations by which
-- they hold are met and one of what the literal embeds there does; and one in which a condition fails, where the declarations by which it does are met
-- and one of the literal without it does.
use Rattle.std.proofs.Common.{◌≡◌, ℕ, suc, Bool, true, false, not, cond, List, [], ◌∷◌, ◌++◌, map, Option, Some, None, append_assoc, append-nil, refl, sym, ap, ap₂, subst, ◌∙◌, arith}
use Rattle.std.proofs.Math.Path.{fun_ext}
use Rattle.std.proofs.lemmas.Bool.{and_parts, and_from, or_left, or_right}
use Rattle.std.proofs.lemmas.Grind.{flat_map-append}
use Rattle.std.proofs.lemmas.List.{map-append}
use Rattle.std.proofs.lemmas.List.Folds.{list_any-append, list_all-append}
use Rattle.std.proofs.lemmas.Slice.Eq.{bytes_eq-Decides}
use Rattle.std.specs.Prelude.{◌&&◌, ◌||◌}
use Rattle.std.specs.Bool.{beq}
use Rattle.std.specs.List.{AllByRecursion, flat_map, list_all, list_any}
use Rattle.std.specs.Str.{bytes_eq}
use Rattle.cs_document.specs.Document.{Document, object, Entry, Members, entries, under}
use Rattle.cs_grammar.specs.declared.ast.FieldMark.{FieldMark}
use Rattle.cs_grammar.specs.Tree.{Label, Test, present, truth, equals, compares, Condition, Tree, disjunction, struct, wide, merged, Declarations, no_declaration, declared, embedded, conditional, DefinitionTree}
use Rattle.cs_grammar.specs.View.{Seen, field_seen, embedding_seen, trees_of, fields_of, declarations_of}
use Rattle.cs_instance.specs.Instance.{Rule, node, IsInstance}
use Rattle.cs_package.specs.Environment.{Environment}
use Rattle.cs_resolve.specs.Refinement.{Refinements}
use Rattle.cs_resolve.specs.Resolved.{resolved}
use Rattle.cs_conditions.specs.Asked as labels
use Rattle.cs_conditions.specs.Asked.{Asked, asked, said, unsaid, with_value, with_declared, own_default, first_default, or_else}
use Rattle.cs_conditions.specs.Choice.{passes, literal_of, optional_or_required, mark_without, mark_where, made, made_in, taken, choices, choice, one_of}
use Rattle.cs_conditions.specs.Chosen.{chosen, chosen_declarations}
use Rattle.cs_conditions.specs.Known.{Knowledge}
use Rattle.cs_conditions.specs.declared.asked.Said.{Said}
use Rattle.cs_defaults.specs.Unmarked.{unmarked}
use Rattle.cs_embeddings.specs.Alternatives.{Origin, Brought, Alternative, nothing, with_declaration, with_fields, opened_if, meet, itself, embedded_at, join_declarations, join_operands, alternatives, most_steps}
use Rattle.cs_embeddings.specs.Embedded.{has_operand, all_embedded, embeds_well, declarations_embed_well, can_be_embedded}
use Rattle.cs_embeddings.specs.Gathered.{is_every}
use Rattle.cs_embeddings.specs.Joined.{joined_with, joined_value}
use Rattle.cs_embeddings.proofs.Monotone.{step_more, steps_more}
use Rattle.cs_embeddings.proofs.WellAlternatives.{all-append, all-map, all-flat_map}
use Rattle.cs_widen.specs.Asked.{has_kinds, is_spelled}
use Rattle.cs_widen.specs.Conditional.{followed, condition_meets, can_be_asked, under_conditions, AreConditionsReadDirectly}
use Rattle.cs_widen.specs.Embedding.{is_declared}
use Rattle.cs_widen.proofs.AlternativeSteps.{alternatives_same}
use Rattle.cs_widen.proofs.Alongside.{AreAlongside, declarations_alongside, alternatives_alongside, holds_of_each}
use Rattle.cs_widen.proofs.Asked.{asked_read_directly}
use Rattle.cs_widen.proofs.Embedding.{embeddings_read_directly}
use Rattle.cs_widen.proofs.OneMore.{IsWith, brought_by, just_brought, stays_with, asks, reads, HasLabel, all_with_read}

-- ---- truth values

nothing_under : (t f : Bool) → ((t && false) || (f && false)) ≡ false
nothing_under true true = refl
nothing_under true false = refl
nothing_under false true = refl
nothing_under false false = refl

four_ways : (u v y w : Bool) → ((u || y) || (v || w)) ≡ ((u || v) || (y || w))
four_ways true v y w = refl
four_ways false true true w = refl
four_ways false true false w = refl
four_ways false false y w = refl

or_none : (b : Bool) → (b || false) ≡ b
or_none true = refl
or_none false = refl

either_way : (t f u v y w : Bool) → (((t && u) || (f && y)) || ((t && v) || (f && w))) ≡ ((t && (u || v)) || (f && (y || w)))
either_way true true u v y w = four_ways u v y w
either_way true false u v y w = ap₂ (λ a b. a || b) (or_none u) (or_none v) ∙ sym (or_none (u || v))
either_way false true u v y w = refl
either_way false false u v y w = refl

one_behind : (b r x : Bool) → (b && (r && x)) ≡ ((r && b) && x)
one_behind true true x = refl
one_behind true false x = refl
one_behind false true x = refl
one_behind false false x = refl

both_behind : (b t f u y : Bool) → (((b && (t && true)) && u) || ((b && (f && true)) && y)) ≡ (b && ((t && u) || (f && y)))
both_behind true true true u y = refl
both_behind true true false u y = refl
both_behind true false true u y = refl
both_behind true false false u y = refl
both_behind false t f u y = refl

module _ (meets : Condition → Bool → Bool) where
  under_neither : (cs : List Condition) → under_conditions meets false false cs ≡ false
  under_neither [] = refl
  under_neither (c ∷ cs) = ap (λ b. (meets c true && b) || (meets c false && false)) (under_neither cs) ∙ nothing_under (meets c true) (meets c false)

  under_either : (cs : List Condition) (x y z w : Bool)
      → (under_conditions meets x y cs || under_conditions meets z w cs) ≡ under_conditions meets (x || z) (y || w) cs
  under_either [] x y z w = refl
  under_either (c ∷ cs) x y z w =
      either_way (meets c true) (meets c false) (under_conditions meets x y cs) (under_conditions meets z w cs) y w
      ∙ ap (λ b. (meets c true && b) || (meets c false && (y || w))) (under_either cs x y z w)

-- ---- declarations one behind the other

module _ (inner : Origin → Tree → Alternative → List Alternative) (p : Origin) where
  joined-append : (cs : Declarations) (xs ys : List Alternative)
      → join_declarations inner p cs (xs ++ ys) ≡ join_declarations inner p cs xs ++ join_declarations inner p cs ys
  joined-append no_declaration xs ys = refl
  joined-append (declared l m e cs) xs ys =
      let f = with_declaration p l m e in
      ap (join_declarations inner p cs) (map-append f xs ys) ∙ joined-append cs (map f xs) (map f ys)
  joined-append (embedded o e cs) xs ys =
      let f = inner (embedded_at p o) e in
      ap (join_declarations inner p cs) (flat_map-append f xs ys) ∙ joined-append cs (flat_map f xs) (flat_map f ys)
  joined-append (conditional o qs e cs) xs ys = joined-append cs xs ys

  joined-none : (cs : Declarations) → join_declarations inner p cs [] ≡ []
  joined-none no_declaration = refl
  joined-none (declared l m e cs) = joined-none cs
  joined-none (embedded o e cs) = joined-none cs
  joined-none (conditional o qs e cs) = joined-none cs

  joined-followed : (cs others : Declarations) (xs : List Alternative)
      → join_declarations inner p (followed cs others) xs ≡ join_declarations inner p others (join_declarations inner p cs xs)
  joined-followed no_declaration others xs = refl
  joined-followed (declared l m e cs) others xs = joined-followed cs others (map (with_declaration p l m e) xs)
  joined-followed (embedded o e cs) others xs = joined-followed cs others (flat_map (inner (embedded_at p o) e) xs)
  joined-followed (conditional o qs e cs) others xs = joined-followed cs others xs

  operands-append : (es fs : List Tree) (a : Alternative)
      → join_operands inner p (trees_of (es ++ fs)) a ≡ join_operands inner p (trees_of es) a ++ join_operands inner p (trees_of fs) a
  operands-append [] fs a = refl
  operands-append (e ∷ es) fs a =
      ap (λ xs. inner p e a ++ xs) (operands-append es fs a)
      ∙ sym (append_assoc (inner p e a) (join_operands inner p (trees_of es) a) (join_operands inner p (trees_of fs) a))

-- ---- alternatives, and the declarations behind them

module _ (inner : Origin → Tree → Alternative → List Alternative) (p : Origin) (read : Alternative → Bool) (after : Declarations) where
  -- one of what they become by these reads the map
  abbrev answer : List Alternative → Bool
  answer xs = list_any read (join_declarations inner p after xs)

  answer-append : (xs ys : List Alternative) → answer (xs ++ ys) ≡ (answer xs || answer ys)
  answer-append xs ys =
      ap (list_any read) (joined-append inner p after xs ys)
      ∙ list_any-append read (join_declarations inner p after xs) (join_declarations inner p after ys)

  answer-none : answer [] ≡ false
  answer-none = ap (list_any read) (joined-none inner p after)

  -- what is so of what each becomes is so of all
  spread : (meets : Condition → Bool → Bool) (cs : List Condition) (P : Alternative → Type 0) (f g : Alternative → List Alternative)
      → ((a : Alternative) → P a → answer (f a) ≡ under_conditions meets (answer (g a)) (answer (a ∷ [])) cs) → (xs : List Alternative)
      → AllByRecursion P xs → answer (flat_map f xs) ≡ under_conditions meets (answer (flat_map g xs)) (answer xs) cs
  spread meets cs P f g each [] h =
      answer-none ∙ sym (under_neither meets cs) ∙ sym (ap (λ b. under_conditions meets b b cs) answer-none)
  spread meets cs P f g each (a ∷ xs) h =
      answer-append (f a) (flat_map f xs)
      ∙ ap₂ (λ x y. x || y) (each a h.0) (spread meets cs P f g each xs h.1)
      ∙ under_either meets cs (answer (g a)) (answer (a ∷ [])) (answer (flat_map g xs)) (answer xs)
      ∙ ap₂ (λ x y. under_conditions meets x y cs) (sym (answer-append (g a) (flat_map g xs))) (sym (answer-append (a ∷ []) xs))

-- ---- which fields are declared

every : {X : Type 0} (P Q : X → Type 0) → ((x : X) → P x → Q x) → (xs : List X) → AllByRecursion P xs → AllByRecursion Q xs
every P Q keeps [] h = tt
every P Q keeps (x ∷ xs) h = (keeps x h.0, every P Q keeps xs h.1)

-- each field that has a name by what is said so far is declared
abbrev Knows : (List ℕ → Said) → Alternative → Type 0
Knows says a = (f : List ℕ) → (says f).is_named ≡ true → is_declared f a.declarations ≡ true

one_declared : (f : List ℕ) (a : Alternative) (d : Brought) → is_declared f (a.declarations ++ d ∷ []) ≡ (is_declared f a.declarations || is_declared f (d ∷ []))
one_declared f a d = list_any-append (λ (c : Brought). is_every c.mark || bytes_eq f c.label.text) a.declarations (d ∷ [])

module _ (says : List ℕ → Said) where
  knows_declaration : (p : Origin) (l : Label) (m : FieldMark) (e : Tree) (a : Alternative) → Knows says a → Knows says (with_declaration p l m e a)
  knows_declaration p l m e a h f named =
      let d = brought_by p l m e in
      one_declared f a d ∙ or_left (is_declared f a.declarations) (is_declared f (d ∷ [])) (h f named)

  knows_opened : (c : Bool) (a : Alternative) → Knows says a → Knows says (opened_if c a)
  knows_opened c a h = h

  knows_met : (s : List ℕ) (a : Alternative) → Knows says a → Knows says (meet s a)
  knows_met s a h = h

  knows_each : (ds : List DefinitionTree) (n : ℕ) (p : Origin) (e : Tree) (a : Alternative) → Knows says a → AllByRecursion (Knows says) (alternatives ds n p e a)
  knows_each ds n p e a h = holds_of_each (Knows says) knows_declaration knows_opened knows_met ds n p e a h

module _ (known : Knowledge) where
  declared_known : (says : List ℕ → Said) (p : Origin) (l : Label) (m : FieldMark) (e g : Tree) (a : Alternative) → Knows says a
      → Knows (λ f. with_declared known f (says f) l m e) (with_declaration p l m g a)
  declared_known says p l m e g a h f named = one_declared f a (brought_by p l m g) ∙ by (labels.is_of f l m) refl named
    where
      by : (b : Bool) → labels.is_of f l m ≡ b → (cond b (with_value known (says f) l m e) (says f)).is_named ≡ true
          → (is_declared f a.declarations || is_declared f (brought_by p l m g ∷ [])) ≡ true
      by true is k =
          let text = (and_parts (not (labels.is_every m)) (bytes_eq l.text f) is).1 in
          let same : f ≡ l.text = sym ((bytes_eq-Decides l.text f).0 text) in
          or_right (is_declared f a.declarations) (is_declared f (brought_by p l m g ∷ []))
          (or_left (is_every m || bytes_eq f l.text) false (or_right (is_every m) (bytes_eq f l.text) ((bytes_eq-Decides f l.text).1 same)))
      by false is k = or_left (is_declared f a.declarations) (is_declared f (brought_by p l m g ∷ [])) (h f k)

  module _ (ds : List DefinitionTree) (n : ℕ) (p : Origin) (all : Declarations) where
    all_known : (cs : Declarations) (says : List ℕ → Said) (xs : List Alternative) → AllByRecursion (Knows says) xs
        → AllByRecursion (Knows (λ f. said known f (says f) cs)) (join_declarations (alternatives ds n) p (chosen_declarations known all cs) xs)
    all_known no_declaration says xs h = h
    all_known (declared l m e cs) says xs h =
        let more : List ℕ → Said = λ f. with_declared known f (says f) l m e in
        let g = with_declaration p l m (chosen known e) in
        all_known cs more (map g xs) (all-map (Knows says) (Knows more) g (declared_known says p l m e (chosen known e)) xs h)
    all_known (embedded o e cs) says xs h =
        let q = embedded_at p o in
        let g = alternatives ds n q (chosen known e) in
        all_known cs says (flat_map g xs) (all-flat_map (Knows says) (Knows says) g (knows_each says ds n q (chosen known e)) xs h)
    all_known (conditional o qs e cs) says xs h =
        let q = embedded_at p o in
        let c = choice known all o qs (chosen known e) in
        let g = alternatives ds n q c in
        all_known cs says (flat_map g xs) (all-flat_map (Knows says) (Knows says) g (knows_each says ds n q c) xs h)

-- ---- the alternatives of a literal under conditions

-- `steps` is how many embeddings may take
module _ {A : Type 0} (has : List ℕ → Bool) (inside : Option ℕ → A → Tree → Bool) (ds : List DefinitionTree) (ms : List (Entry A)) (steps : ℕ)
    (known : Knowledge) (all before after : Declarations) (p : Option ℕ) (o : ℕ) (e : Tree) where
  abbrev origin : Origin
  origin = embedded_at (itself p) o

  abbrev answers : List Alternative → Bool
  answers xs = answer (alternatives ds steps) (itself p) (reads has inside ds ms) (chosen_declarations known all after) xs

  -- what the declarations before say of a field
  abbrev says : List ℕ → Said
  says f = said known f unsaid before

  -- a declaration that a condition makes, of a field that the literal has
  record IsAsked (f : Seen) : Type 0 where
    by_condition : f.label.asked ≡ true
    regular : is_every f.mark ≡ false
    named : (said known f.label.text (says f.label.text) after).is_named ≡ true

  abbrev brought : Seen → Brought
  brought f = brought_by origin f.label f.mark f.value

  abbrev is_met : Seen → Bool
  is_met f = asks has inside ds ms (brought f)

  one_more : (f : Seen) → IsAsked f → (xs ys : List Alternative) → AreAlongside (IsWith (brought f)) xs ys → AllByRecursion (Knows says) xs
      → answers ys ≡ (is_met f && answers xs)
  one_more f q xs ys h ready =
      let d = brought f in
      let cs = chosen_declarations known all after in
      let inner = alternatives ds steps in
      let become = join_declarations inner (itself p) cs in
      all_with_read has inside ds ms d q.by_condition q.regular (become xs) (become ys)
      (declarations_alongside (IsWith d) (stays_with d) inner (alternatives_alongside (IsWith d) (stays_with d) ds steps) (itself p) cs xs ys h)
      (every (Knows (λ g. said known g (says g) after)) (HasLabel has inside ds ms d q.by_condition q.regular) (λ a k. k f.label.text q.named) (become xs)
      (all_known known ds steps (itself p) all after says xs ready))

  -- the expression is embedded behind these declarations
  taken_reads : (m : ℕ) (fs : List Seen) → AllByRecursion IsAsked fs → (a : Alternative) → Knows says a
      → answers (join_declarations (alternatives ds m) origin (declarations_of (map field_seen fs ++ embedding_seen o e ∷ [])) (a ∷ []))
      ≡ (list_all is_met fs && answers (alternatives ds m origin e a))
  taken_reads m [] h a ready = ap answers (append-nil (alternatives ds m origin e a))
  taken_reads m (f ∷ fs) h a ready =
      let d = brought f in
      let b = with_declaration origin f.label f.mark f.value a in
      taken_reads m fs h.1 b (knows_declaration says origin f.label f.mark f.value a ready)
      ∙ ap (λ x. list_all is_met fs && x)
      (one_more f h.0 (alternatives ds m origin e a) (alternatives ds m origin e b)
      (alternatives_alongside (IsWith d) (stays_with d) ds m origin e a b (just_brought origin f.label f.mark f.value a))
      (knows_each says ds m origin e a ready))
      ∙ one_behind (list_all is_met fs) (is_met f) (answers (alternatives ds m origin e a))

  -- there are just these
  failing_reads : (fs : List Seen) → AllByRecursion IsAsked fs → (a : Alternative) → Knows says a
      → answers (with_fields origin (fields_of fs) a ∷ []) ≡ (list_all is_met fs && answers (a ∷ []))
  failing_reads [] h a ready = refl
  failing_reads (f ∷ fs) h a ready =
      let b = with_declaration origin f.label f.mark f.value a in
      failing_reads fs h.1 b (knows_declaration says origin f.label f.mark f.value a ready)
      ∙ ap (λ x. list_all is_met fs && x) (one_more f h.0 (a ∷ []) (b ∷ []) (just_brought origin f.label f.mark f.value a, tt) (ready, tt))
      ∙ one_behind (list_all is_met fs) (is_met f) (answers (a ∷ []))

  unopened : (a : Alternative) → opened_if false a ≡ a
  unopened a =
      let f : Bool → Alternative = λ c. record { declarations = a.declarations; opened = c; met = a.met } in
      ap f (or_none a.opened)

  module _ (by : Condition → Bool → Seen) where
    abbrev meets : Condition → Bool → Bool
    meets c holds = is_met (by c holds)

    abbrev AreAsked : List Condition → Type 0
    AreAsked cs = AllByRecursion (λ c. (holds : Bool) → IsAsked (by c holds)) cs

    abbrev inside_or_not : List Condition → List Alternative → Alternative → Bool
    inside_or_not cs xs a = under_conditions meets (answers xs) (answers (a ∷ [])) cs

    of_choices : (m : ℕ) (fs : List Seen) → AllByRecursion IsAsked fs → (cs : List Condition) → AreAsked cs → (a : Alternative) → Knows says a
        → answers (join_operands (alternatives ds (suc m)) origin (trees_of (choices by o e fs cs)) a)
        ≡ (list_all is_met fs && inside_or_not cs (alternatives ds m origin e a) a)
    unfolding alternatives
    of_choices m fs h [] k a ready =
        ap answers (append-nil (alternatives ds (suc m) origin (taken o e fs) a))
        ∙ ap (λ b. answers (join_declarations (alternatives ds m) origin (declarations_of (map field_seen fs ++ embedding_seen o e ∷ [])) (b ∷ []))) (unopened a)
        ∙ taken_reads m fs h a ready
    of_choices m fs h (c ∷ cs) k a ready =
        let inner = alternatives ds (suc m) in
        let held = fs ++ by c true ∷ [] in
        let failing = fs ++ by c false ∷ [] in
        let last = struct o (fields_of failing) false in
        let rest = inside_or_not cs (alternatives ds m origin e a) a in
        ap answers (operands-append inner origin (choices by o e held cs) (last ∷ []) a)
        ∙ answer-append (alternatives ds steps) (itself p) (reads has inside ds ms) (chosen_declarations known all after)
        (join_operands inner origin (trees_of (choices by o e held cs)) a) (join_operands inner origin (trees_of (last ∷ [])) a)
        ∙ ap₂ (λ x y. x || y)
        (of_choices m held (all-append IsAsked fs (by c true ∷ []) h (k.0 true, tt)) cs k.1 a ready)
        (ap (λ b. answers (b ∷ [])) (unopened (with_fields origin (fields_of failing) a))
        ∙ failing_reads failing (all-append IsAsked fs (by c false ∷ []) h (k.0 false, tt)) a ready)
        ∙ ap₂ (λ x y. (x && rest) || (y && answers (a ∷ []))) (list_all-append is_met fs (by c true ∷ [])) (list_all-append is_met fs (by c false ∷ []))
        ∙ both_behind (list_all is_met fs) (meets c true) (meets c false) rest (answers (a ∷ []))

    -- ---- where the choice can be embedded, the expression can be in fewer steps

    taken_embeds : (m : ℕ) (fs : List Seen) → declarations_embed_well (can_be_embedded ds m) (declarations_of (map field_seen fs ++ embedding_seen o e ∷ [])) ≡ true
        → can_be_embedded ds m e ≡ true
    taken_embeds m [] h = (and_parts (can_be_embedded ds m e) true h).0
    taken_embeds m (f ∷ fs) h =
        let others = declarations_of (map field_seen fs ++ embedding_seen o e ∷ []) in
        taken_embeds m fs (and_parts (embeds_well (can_be_embedded ds m) f.value) (declarations_embed_well (can_be_embedded ds m) others) h).1

    first_embedded : (can : Tree → Bool) (es fs : List Tree) → all_embedded can (trees_of (es ++ fs)) ≡ true → all_embedded can (trees_of es) ≡ true
    first_embedded can [] fs h = refl
    first_embedded can (t ∷ es) fs h =
        let u = and_parts (can t) (all_embedded can (trees_of (es ++ fs))) h in
        and_from (can t) (all_embedded can (trees_of es)) u.0 (first_embedded can es fs u.1)

    choices_embed : (m : ℕ) (fs : List Seen) (cs : List Condition) → all_embedded (can_be_embedded ds (suc m)) (trees_of (choices by o e fs cs)) ≡ true
        → can_be_embedded ds m e ≡ true
    unfolding can_be_embedded
    choices_embed m fs [] h = taken_embeds m fs (and_parts (can_be_embedded ds (suc m) (taken o e fs)) true h).0
    choices_embed m fs (c ∷ cs) h =
        choices_embed m (fs ++ by c true ∷ []) cs
        (first_embedded (can_be_embedded ds (suc m)) (choices by o e (fs ++ by c true ∷ []) cs) (struct o (fields_of (fs ++ by c false ∷ [])) false ∷ []) h)

    -- ---- there are several choices where there is a condition

    not_none : (es : List Tree) (f : Tree) → es ++ f ∷ [] ≡ [] → ⊥
    not_none [] f h = cc
    not_none (x ∷ es) f h = cc

    some_choice : (fs : List Seen) (cs : List Condition) → choices by o e fs cs ≡ [] → ⊥
    some_choice fs [] h = cc
    some_choice fs (c ∷ cs) h = not_none (choices by o e (fs ++ by c true ∷ []) cs) (struct o (fields_of (fs ++ by c false ∷ [])) false) h

    several : (es : List Tree) (f : Tree) → (es ≡ [] → ⊥) → one_of (es ++ f ∷ []) ≡ disjunction (trees_of (es ++ f ∷ []))
    several [] f h = absurd (h refl)
    several (x ∷ []) f h = refl
    several (x ∷ y ∷ es) f h = refl

    -- ---- the choice

    of_choice : (m : ℕ) (cs : List Condition) → AreAsked cs → can_be_embedded ds (suc (suc m)) (one_of (choices by o e [] cs)) ≡ true
        → (a : Alternative) → Knows says a
        → answers (alternatives ds (suc (suc m)) origin (one_of (choices by o e [] cs)) a)
        ≡ inside_or_not cs (alternatives ds (suc (suc m)) origin e a) a
    unfolding can_be_embedded alternatives
    of_choice m [] k h a ready =
        let can = taken_embeds (suc m) [] h in
        ap (λ b. answers (join_declarations (alternatives ds (suc m)) origin (embedded o e no_declaration) (b ∷ []))) (unopened a)
        ∙ taken_reads (suc m) [] tt a ready
        ∙ ap answers (alternatives_same ds (suc m) (suc (suc m)) origin e can (step_more ds (suc m) e can) a)
    of_choice m (c ∷ cs) k h a ready =
        let last = struct o (fields_of (by c false ∷ [])) false in
        let whole = choices by o e (by c true ∷ []) cs ++ last ∷ [] in
        let is = several (choices by o e (by c true ∷ []) cs) last (some_choice (by c true ∷ []) cs) in
        let taken_up : can_be_embedded ds (suc (suc m)) (disjunction (trees_of whole)) ≡ true =
        subst (λ t. can_be_embedded ds (suc (suc m)) t ≡ true) is h in
        let can =
        choices_embed m [] (c ∷ cs)
        (and_parts (has_operand (trees_of whole)) (all_embedded (can_be_embedded ds (suc m)) (trees_of whole)) taken_up).1 in
        ap (λ t. answers (alternatives ds (suc (suc m)) origin t a)) is
        ∙ of_choices m [] tt (c ∷ cs) k a ready
        ∙ ap (λ xs. inside_or_not (c ∷ cs) xs a) (alternatives_same ds m (suc (suc m)) origin e can (steps_more ds m (suc (suc m)) e (omega arith) can) a)

-- ---- what a literal says of its fields, whatever it embeds or has under conditions

module _ (known : Knowledge) where
  said-followed : (f : List ℕ) (a : Said) (xs ys : Declarations) → said known f a (followed xs ys) ≡ said known f (said known f a xs) ys
  said-followed f a no_declaration ys = refl
  said-followed f a (declared l m e xs) ys = said-followed f (with_declared known f a l m e) xs ys
  said-followed f a (embedded o e xs) ys = said-followed f a xs ys
  said-followed f a (conditional o cs e xs) ys = said-followed f a xs ys

  default_alike : (f : List ℕ) (xs ys zs : Declarations) → first_default known f ys ≡ first_default known f zs
      → first_default known f (followed xs ys) ≡ first_default known f (followed xs zs)
  default_alike f no_declaration ys zs h = h
  default_alike f (declared l m e xs) ys zs h = ap (or_else (own_default known f l m e)) (default_alike f xs ys zs h)
  default_alike f (embedded o e xs) ys zs h = default_alike f xs ys zs h
  default_alike f (conditional o cs e xs) ys zs h = default_alike f xs ys zs h

  asked_alike : (xs ys zs : Declarations) → ((f : List ℕ) (a : Said) → said known f a ys ≡ said known f a zs)
      → ((f : List ℕ) → first_default known f ys ≡ first_default known f zs) → (f : List ℕ)
      → asked known f (followed xs ys) ≡ asked known f (followed xs zs)
  asked_alike xs ys zs same_said same_default f =
      let both : Said → Option Tree → Asked = λ a d. record { said = a; default = d } in
      ap₂ both (said-followed f unsaid xs ys ∙ same_said f (said known f unsaid xs) ∙ sym (said-followed f unsaid xs zs))
      (default_alike f xs ys zs (same_default f))

  -- the choice of each literal under conditions is by what is said of fields
  module _ (one other : Declarations) (same : (f : List ℕ) → asked known f one ≡ asked known f other) where
    chosen_alike : (cs : Declarations) → chosen_declarations known one cs ≡ chosen_declarations known other cs
    chosen_alike no_declaration = refl
    chosen_alike (declared l m e cs) = ap (declared l m (chosen known e)) (chosen_alike cs)
    chosen_alike (embedded o e cs) = ap (embedded o (chosen known e)) (chosen_alike cs)
    chosen_alike (conditional o qs e cs) =
        let by : (λ (f : List ℕ). asked known f one) ≡ (λ f. asked known f other) = fun_ext same in
        ap₂ (λ (g : List ℕ → Asked) (xs : Declarations). embedded o (one_of (choices (λ (c : Condition) (holds : Bool). made (g c.label) c holds) o (chosen known e) [] qs)) xs) by (chosen_alike cs)

  chosen-followed : (all xs ys : Declarations)
      → chosen_declarations known all (followed xs ys) ≡ followed (chosen_declarations known all xs) (chosen_declarations known all ys)
  chosen-followed all no_declaration ys = refl
  chosen-followed all (declared l m e xs) ys = ap (declared l m (chosen known e)) (chosen-followed all xs ys)
  chosen-followed all (embedded o e xs) ys = ap (embedded o (chosen known e)) (chosen-followed all xs ys)
  chosen-followed all (conditional o cs e xs) ys = ap (embedded o (choice known all o cs (chosen known e))) (chosen-followed all xs ys)

-- ---- a declaration that a condition makes is none of `[string]`

absent_or_there : (b : Bool) → is_every (optional_or_required b) ≡ false
absent_or_there true = refl
absent_or_there false = refl

by_test : (t : Test) (met : Bool) → is_every (mark_without t met) ≡ false
by_test present met = absent_or_there (not met)
by_test truth met = refl
by_test (equals a) met = refl
by_test (compares r z) met = refl

not_every : (t : Test) (met : Bool) (d : Option Tree) → is_every (mark_where t met d) ≡ false
not_every t met None = by_test t met
not_every t met (Some d) = absent_or_there (passes t met (literal_of d))

-- ---- the law

module _ (E : Environment) (I : Rule → Document → Bool) (is : IsInstance E I) (rs : Refinements) (has : List ℕ → Bool) (ds : List DefinitionTree) (n : ℕ)
    (whole : Bool) (p : Option ℕ) (known : Knowledge) (o : ℕ) (before : Declarations) (place : ℕ) (cs : List Condition) (e : Tree) (after : Declarations)
    (opened : Bool) (ms : Members) where
  abbrev literal : Declarations
  literal = followed before (conditional place cs e after)

  abbrev inside : Option ℕ → Document → Tree → Bool
  inside q y t = I (node (resolved rs (unmarked has (joined_value ds (suc n) q t)))) y

  abbrev inner : Origin → Tree → Alternative → List Alternative
  inner = alternatives ds most_steps

  abbrev start : List Alternative
  start = opened_if opened nothing ∷ []

  -- the alternatives of what is before
  abbrev so_far : List Alternative
  so_far = join_declarations inner (itself p) (chosen_declarations known literal before) start

  abbrev literal_reads : Declarations → Bool
  literal_reads bs = I (node (resolved rs (unmarked has (joined_with ds (joined_value ds (suc n)) whole p (wide (merged o bs opened)))))) (object ms)

  abbrev some_reads : List Alternative → Bool
  some_reads xs = list_any (reads has inside ds (entries ms)) xs

  of_literal : (others : Declarations) → ((f : List ℕ) → asked known f (followed before others) ≡ asked known f literal)
      → literal_reads (chosen_declarations known (followed before others) (followed before others))
      ≡ some_reads (join_declarations inner (itself p) (chosen_declarations known literal others) so_far)
  of_literal others same =
      let all = followed before others in
      let first = chosen_declarations known literal before in
      let rest = chosen_declarations known literal others in
      ap literal_reads (chosen_alike known all literal same all ∙ chosen-followed known literal before others)
      ∙ embeddings_read_directly E I is rs has ds n whole p o (followed first rest) opened ms
      ∙ ap some_reads (joined-followed inner (itself p) first rest start)

  abbrev said_of : Condition → Asked
  said_of c = asked known c.label literal

  abbrev IsAskedHere : Seen → Type 0
  IsAskedHere f = IsAsked has inside ds (entries ms) most_steps known literal before after p place (chosen known e) f

  asked_here : (c : Condition) → can_be_asked (said_of c) ms c ≡ true → (holds : Bool) → IsAskedHere (made_in known literal c holds)
  asked_here c h holds =
      let parts = and_parts (is_spelled c.test && (said_of c).said.is_named) (has_kinds (said_of c).said.kinds (under c.label (entries ms))) h in
      let named = (and_parts (is_spelled c.test) (said_of c).said.is_named parts.0).1 in
      record {
        by_condition = refl;
        regular = not_every c.test (beq holds c.is_met) (said_of c).default;
        named = ap (λ (a : Said). a.is_named) (sym (said-followed known c.label unsaid before (conditional place cs e after))) ∙ named;
      }

  all_asked : (qs : List Condition) → list_all (λ c. can_be_asked (said_of c) ms c) qs ≡ true
      → AllByRecursion (λ c. (holds : Bool) → IsAskedHere (made_in known literal c holds)) qs
  all_asked [] h = tt
  all_asked (c ∷ qs) h =
      let parts = and_parts (can_be_asked (said_of c) ms c) (list_all (λ q. can_be_asked (said_of q) ms q) qs) h in
      (asked_here c parts.0, all_asked qs parts.1)

  -- the declaration by which a condition holds, or doesn't, is met where it does
  abbrev meets_here : Condition → Bool → Bool
  meets_here c holds =
      meets has inside ds (entries ms) most_steps known literal before after p place (chosen known e) (made_in known literal) c holds

  meets_as_asked : (c : Condition) → can_be_asked (said_of c) ms c ≡ true → (holds : Bool) → meets_here c holds ≡ condition_meets (said_of c) ms c holds
  meets_as_asked c h holds =
      let parts = and_parts (is_spelled c.test && (said_of c).said.is_named) (has_kinds (said_of c).said.kinds (under c.label (entries ms))) h in
      let spelled = (and_parts (is_spelled c.test) (said_of c).said.is_named parts.0).0 in
      asked_read_directly E I is rs has ds n p (said_of c) c holds ms spelled parts.1

  under_alike : (qs : List Condition) (x y : Bool) → list_all (λ c. can_be_asked (said_of c) ms c) qs ≡ true
      → under_conditions meets_here x y qs ≡ under_conditions (λ c holds. condition_meets (said_of c) ms c holds) x y qs
  under_alike [] x y h = refl
  under_alike (c ∷ qs) x y h =
      let parts = and_parts (can_be_asked (said_of c) ms c) (list_all (λ q. can_be_asked (said_of q) ms q) qs) h in
      ap₂ (λ u v. u || v) (ap₂ (λ u v. u && v) (meets_as_asked c parts.0 true) (under_alike qs x y parts.1))
      (ap (λ u. u && y) (meets_as_asked c parts.0 false))

  abbrev says_before : List ℕ → Said
  says_before f = said known f unsaid before

  unsaid_known : (a : Alternative) → Knows (λ f. unsaid) a
  unsaid_known a f named = cc

  known_so_far : AllByRecursion (Knows says_before) so_far
  known_so_far = all_known known ds most_steps (itself p) literal before (λ f. unsaid) start (unsaid_known (opened_if opened nothing), tt)

  read_directly : list_all (λ c. can_be_asked (said_of c) ms c) cs ≡ true → can_be_embedded ds most_steps (choice known literal place cs (chosen known e)) ≡ true
      → literal_reads (chosen_declarations known literal literal)
      ≡ under_conditions (λ c holds. condition_meets (said_of c) ms c holds)
      (literal_reads (chosen_declarations known (followed before (embedded place e after)) (followed before (embedded place e after))))
      (literal_reads (chosen_declarations known (followed before after) (followed before after))) cs
  read_directly askable embeds =
      let origin = embedded_at (itself p) place in
      let embeds_it = inner origin (chosen known e) in
      let rest = chosen_declarations known literal after in
      let here = of_literal (embedded place e after) (asked_alike known before (embedded place e after) (conditional place cs e after) (λ f a. refl) (λ f. refl)) in
      let without = of_literal after (asked_alike known before after (conditional place cs e after) (λ f a. refl) (λ f. refl)) in
      of_literal (conditional place cs e after) (λ f. refl)
      ∙ spread inner (itself p) (reads has inside ds (entries ms)) rest meets_here cs (Knows says_before)
      (inner origin (choice known literal place cs (chosen known e))) embeds_it
      (λ a ready. of_choice has inside ds (entries ms) most_steps known literal before after p place (chosen known e) (made_in known literal) 126 cs
      (all_asked cs askable) embeds a ready) so_far known_so_far
      ∙ under_alike cs (some_reads (join_declarations inner (itself p) rest (flat_map embeds_it so_far))) (some_reads (join_declarations inner (itself p) rest so_far)) askable
      ∙ ap₂ (λ x y. under_conditions (λ c holds. condition_meets (said_of c) ms c holds) x y cs) (sym here) (sym without)

pub conditions_read_directly : (E : Environment) (I : Rule → Document → Bool) → IsInstance E I → AreConditionsReadDirectly I
conditions_read_directly E I is rs has ds n whole p known o before place cs e after opened ms askable embeds =
    read_directly E I is rs has ds n whole p known o before place cs e after opened ms askable embeds
