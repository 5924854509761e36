-- Which literals the recursion with a flag tells: those that a conjunction asks to end with `...` and that don't.
use Rattle.std.proofs.Common.{◌≡◌, ℕ, Bool, true, false, ◌&&◌, ◌||◌, not, ◌⊎◌, ◌↔◌, List, [], ◌∷◌, ◌++◌, map, filter, cond, Contains, inl, inr, refl, sym, ap, ◌∙◌, subst}
use Rattle.std.specs.List.{flat_map, list_any}
use Rattle.std.proofs.lemmas.Bool.{false≢true, or_cases, or_left, or_right}
use Rattle.std.proofs.lemmas.Slice.Eq.{bytes_eq-Decides}
use Rattle.cs_grammar.specs.Tree.{Tree, conjunction, disjunction, paren, struct, list, Trees, none, more, Fields, no_field, field, End, closed, any, each, DefinitionTree, defined_name, body}
use Rattle.cs_package.proofs.Environments.{bytes_eq-refl}
use Rattle.cs_resolve.specs.Opening.{Literal, literals, literals_all, literals_fields, literals_end, operands, Declared, one, every_key, Named, declared_for, joined, covers, named_fields, named_bodies, values, values_of_each, conjunctions, conjunctions_all, conjunctions_fields, conjunctions_end, all_conjunctions}
use Rattle.cs_resolve.specs.Unopened.{joined_demand_open, demands_open, demands_open_of, at_fault, unopened, unopened_all, unopened_fields, unopened_end, unopened_definitions}
use Rattle.cs_resolve.specs.Refinement.{Refinements}
use Rattle.cs_resolve.proofs.Elements.{or_map, Has, has_left, has_right, has_cases, has_element, element_of}

operands-literals : (es : Trees) → flat_map literals (operands es) ≡ literals_all es
operands-literals none = refl
operands-literals (more e es) = ap (λ ls. literals e ++ ls) (operands-literals es)

-- ---- truth values

and-true : (b : Bool) → (b && true) ≡ b
and-true true = refl
and-true false = refl

and-false : (b : Bool) → (b && false) ≡ false
and-false true = refl
and-false false = refl

-- ---- lists

-- a test that some element passes
any_has : {X : Type 0} (p : X → Bool) (xs : List X) → list_any p xs ≡ true → Has (λ x. p x ≡ true) xs
any_has p [] h = absurd (false≢true h)
any_has p (x ∷ xs) h = or_map (or_cases (p x) (list_any p xs) h) (λ k. k) (any_has p xs)

has_any : {X : Type 0} (p : X → Bool) (xs : List X) → Has (λ x. p x ≡ true) xs → list_any p xs ≡ true
has_any p [] h = absurd h
has_any p (x ∷ xs) (inl h) = or_left (p x) (list_any p xs) h
has_any p (x ∷ xs) (inr h) = or_right (p x) (list_any p xs) (has_any p xs h)

has_map : {X Y : Type 0} (P : Y → Type 0) (f : X → Y) (xs : List X) → Has (λ x. P (f x)) xs ↔ Has P (map f xs)
has_map {X = X} P f xs = (to xs, from xs)
  where
    to : (ys : List X) → Has (λ x. P (f x)) ys → Has P (map f ys)
    to [] h = absurd h
    to (y ∷ ys) (inl h) = inl h
    to (y ∷ ys) (inr h) = inr (to ys h)

    from : (ys : List X) → Has P (map f ys) → Has (λ x. P (f x)) ys
    from [] h = absurd h
    from (y ∷ ys) (inl h) = inl h
    from (y ∷ ys) (inr h) = inr (from ys h)

-- ---- names

-- whether the values of n ask
abbrev asks : List Named → Named → Bool
asks all n = demands_open (values n.name all)

-- where a conjunction that holds a value of d asks, one of a name that d covers does
asking : (all : List Named) (n : Named) → Contains all n → (d : Declared) → n.name ≡ d → demands_open_of d all ≡ true → (m : Named) × Contains all m × (asks all m ≡ true) × (covers d m.name ≡ true)
asking all n c (one t) is h = (n, c, ap (λ e. demands_open (values e all)) is ∙ h, ap (covers (one t)) is ∙ bytes_eq-refl t)
asking all n c every_key is h = let r = element_of (λ m. asks all m ≡ true) all (any_has (asks all) all h) in (r.0, r.1, r.2, refl)

-- and where one of e asks, each that holds a value of a name that covers e does
asked : (all : List Named) (n : Named) → Contains all n → (d e : Declared) → n.name ≡ e → covers d e ≡ true → demands_open (values e all) ≡ true → demands_open_of d all ≡ true
asked all n c (one s) (one t) is covered h = ap (λ u. demands_open (values (one u) all)) ((bytes_eq-Decides s t).0 covered) ∙ h
asked all n c (one s) every_key is covered h = absurd (false≢true covered)
asked all n c every_key e is covered h = has_any (asks all) all (has_element (λ m. asks all m ≡ true) all n c (ap (λ f. demands_open (values f all)) is ∙ h))

-- of the literals at an offset o
module _ (o : ℕ) where
  abbrev pub IsAt : ℕ → Type 0
  IsAt p = p ≡ o

  -- a literal at o doesn't end with `...`
  abbrev pub Lacks : Literal → Type 0
  Lacks l = (l.at ≡ o) × (l.opened ≡ false)

  -- a conjunction asks, and such a literal is in it
  abbrev pub DemandsOf : List Tree → Type 0
  DemandsOf es = (demands_open es ≡ true) × Has Lacks (flat_map literals es)

  -- a conjunction around asks, and such a literal is among ls, or a conjunction of cs asks for one
  abbrev pub DemandedIn : Bool → List Literal → List (List Tree) → Type 0
  DemandedIn demanded ls cs = ((demanded ≡ true) × Has Lacks ls) ⊎ Has DemandsOf cs

  -- o is told exactly where such a literal is asked for
  abbrev Tells : Bool → List ℕ → List Literal → List (List Tree) → Type 0
  Tells demanded os ls cs = Has IsAt os ↔ DemandedIn demanded ls cs

  no_part : (demanded : Bool) → Tells demanded [] [] []
  no_part demanded = (λ t. absurd t, λ a. elim a [ inl l ↦ absurd l.1 | inr c ↦ absurd c ])

  two_parts : (demanded : Bool) (os ps : List ℕ) (ls ms : List Literal) (cs ds : List (List Tree)) → Tells demanded os ls cs → Tells demanded ps ms ds → Tells demanded (os ++ ps) (ls ++ ms) (cs ++ ds)
  two_parts demanded os ps ls ms cs ds h k = (to, from)
    where
      to : Has IsAt (os ++ ps) → DemandedIn demanded (ls ++ ms) (cs ++ ds)
      to t =
          elim (has_cases IsAt os ps t) [
            | inl a ↦ or_map (h.0 a) (λ l. (l.0, has_left Lacks ls ms l.1)) (λ c. has_left DemandsOf cs ds c)
            | inr b ↦ or_map (k.0 b) (λ l. (l.0, has_right Lacks ls ms l.1)) (λ c. has_right DemandsOf cs ds c)
          ]

      from : DemandedIn demanded (ls ++ ms) (cs ++ ds) → Has IsAt (os ++ ps)
      from (inl l) =
          elim (has_cases Lacks ls ms l.1) [
            | inl a ↦ has_left IsAt os ps (h.1 (inl (l.0, a)))
            | inr b ↦ has_right IsAt os ps (k.1 (inl (l.0, b)))
          ]
      from (inr c) =
          elim (has_cases DemandsOf cs ds c) [
            | inl a ↦ has_left IsAt os ps (h.1 (inr a))
            | inr b ↦ has_right IsAt os ps (k.1 (inr b))
          ]

  -- where `&` joins es: the literals in its operands, where these are a conjunction that asks
  joined_demands : (rs : Refinements) (es : Trees) → ((joined_demand_open rs es ≡ true) × Has Lacks (literals_all es)) ↔ Has DemandsOf (joined rs es)
  joined_demands rs es = by (rs es)
    where
      by : (b : Bool) → (((demands_open (operands es) && not b) ≡ true) × Has Lacks (literals_all es)) ↔ Has DemandsOf (cond b [] (operands es ∷ []))
      by true = (λ l. absurd (false≢true (sym (and-false (demands_open (operands es))) ∙ l.0)), λ c. absurd c)
      by false = (
        λ l. inl (sym (and-true (demands_open (operands es))) ∙ l.0, subst (Has Lacks) (sym (operands-literals es)) l.1),
        λ c. elim c [ inl k ↦ (and-true (demands_open (operands es)) ∙ k.0, subst (Has Lacks) (operands-literals es) k.1) | inr n ↦ absurd n ],
      )

  -- inside them, where own says whether they ask too
  inside : (demanded own : Bool) (os : List ℕ) (ls : List Literal) (ds cs : List (List Tree)) → ((own ≡ true) × Has Lacks ls) ↔ Has DemandsOf ds → Tells (demanded || own) os ls cs → Tells demanded os ls (ds ++ cs)
  inside demanded own os ls ds cs same h = (λ t. to (h.0 t), from)
    where
      to : DemandedIn (demanded || own) ls cs → DemandedIn demanded ls (ds ++ cs)
      to (inl l) =
          elim (or_cases demanded own l.0) [
            | inl e ↦ inl (e, l.1)
            | inr e ↦ inr (has_left DemandsOf ds cs (same.0 (e, l.1)))
          ]
      to (inr c) = inr (has_right DemandsOf ds cs c)

      from : DemandedIn demanded ls (ds ++ cs) → Has IsAt os
      from (inl l) = h.1 (inl (or_left demanded own l.0, l.1))
      from (inr c) =
          elim (has_cases DemandsOf ds cs c) [
            | inl a ↦ let k = same.1 a in h.1 (inl (or_right demanded own k.0, k.1))
            | inr b ↦ h.1 (inr b)
          ]

  told_at : (demanded opened : Bool) (p : ℕ) → Tells demanded (at_fault demanded opened p) (record { at = p; opened = opened } ∷ []) []
  told_at demanded opened p = (to demanded opened, from demanded opened)
    where
      to : (demanded opened : Bool) → Has IsAt (at_fault demanded opened p) → DemandedIn demanded (record { at = p; opened = opened } ∷ []) []
      to true false (inl e) = inl (refl, inl (e, refl))
      to true false (inr t) = absurd t
      to true true t = absurd t
      to false opened t = absurd t

      from : (demanded opened : Bool) → DemandedIn demanded (record { at = p; opened = opened } ∷ []) [] → Has IsAt (at_fault demanded opened p)
      from true false (inl l) = elim l.1 [ inl k ↦ inl k.0 | inr n ↦ absurd n ]
      from true true (inl l) = elim l.1 [ inl k ↦ absurd (false≢true (sym k.1)) | inr n ↦ absurd n ]
      from false opened (inl l) = absurd (false≢true l.0)
      from demanded opened (inr c) = absurd c

  -- ---- the values of each name

  -- a conjunction that holds the value of n asks, and such a literal is in that value
  abbrev DemandsNamed : List Named → Named → Type 0
  DemandsNamed all n = (demands_open_of n.name all ≡ true) × Has Lacks (literals n.value)

  abbrev IsFor : Declared → Named → Type 0
  IsFor d n = (covers n.name d ≡ true) × Has Lacks (literals n.value)

  values-to : (d : Declared) (ns : List Named) → Has Lacks (flat_map literals (values d ns)) → Has (IsFor d) ns
  values-to d [] h = absurd h
  values-to d (n ∷ ns) h = by (covers n.name d) refl (values-to d ns) h
    where
      by : (b : Bool) → covers n.name d ≡ b → (Has Lacks (flat_map literals (values d ns)) → Has (IsFor d) ns)
          → Has Lacks (flat_map literals (map (λ (m : Named). m.value) (cond b (n ∷ filter (λ (m : Named). covers m.name d) ns) (filter (λ (m : Named). covers m.name d) ns)))) → Has (IsFor d) (n ∷ ns)
      by true same rest h = or_map (has_cases Lacks (literals n.value) (flat_map literals (values d ns)) h) (λ l. (same, l)) rest
      by false other rest h = inr (rest h)

  values-from : (d : Declared) (ns : List Named) → Has (IsFor d) ns → Has Lacks (flat_map literals (values d ns))
  values-from d [] h = absurd h
  values-from d (n ∷ ns) (inl h) = by (covers n.name d) h.0
    where
      by : (b : Bool) → b ≡ true → Has Lacks (flat_map literals (map (λ (m : Named). m.value) (cond b (n ∷ filter (λ (m : Named). covers m.name d) ns) (filter (λ (m : Named). covers m.name d) ns))))
      by true e = has_left Lacks (literals n.value) (flat_map literals (values d ns)) h.1
      by false e = absurd (false≢true e)
  values-from d (n ∷ ns) (inr h) = by (covers n.name d) (values-from d ns h)
    where
      by : (b : Bool) → Has Lacks (flat_map literals (values d ns)) → Has Lacks (flat_map literals (map (λ (m : Named). m.value) (cond b (n ∷ filter (λ (m : Named). covers m.name d) ns) (filter (λ (m : Named). covers m.name d) ns))))
      by true rest = has_right Lacks (literals n.value) (flat_map literals (values d ns)) rest
      by false rest = rest

  -- a value that is asked, in the conjunction that asks
  name-to : (all : List Named) → Has (DemandsNamed all) all → Has DemandsOf (values_of_each all)
  name-to all h =
      let n = element_of (DemandsNamed all) all h in
      let m = asking all n.0 n.1 n.0.name refl n.2.0 in
      let lacks = values-from m.0.name all (has_element (IsFor m.0.name) all n.0 n.1 (m.3, n.2.1)) in
      (has_map DemandsOf (λ (k : Named). values k.name all) all).0 (has_element (λ (k : Named). DemandsOf (values k.name all)) all m.0 m.1 (m.2, lacks))

  name-from : (all : List Named) → Has DemandsOf (values_of_each all) → Has (DemandsNamed all) all
  name-from all h =
      let n = element_of (λ (k : Named). DemandsOf (values k.name all)) all ((has_map DemandsOf (λ (k : Named). values k.name all) all).1 h) in
      let m = element_of (IsFor n.0.name) all (values-to n.0.name all n.2.1) in
      has_element (DemandsNamed all) all m.0 m.1 (asked all n.0 n.1 m.0.name n.0.name refl m.2.0 n.2.0, m.2.1)

  by_name : (all : List Named) → Has (DemandsNamed all) all ↔ Has DemandsOf (values_of_each all)
  by_name all = (name-to all, name-from all)

  -- ---- parts under names

  -- o is told exactly where such a literal is asked for, by the flag, inside, or by the values of a name
  abbrev TellsNamed : Bool → List Named → List ℕ → List Literal → List (List Tree) → List Named → Type 0
  TellsNamed demanded all os ls cs ns = Has IsAt os ↔ (DemandedIn demanded ls cs ⊎ Has (DemandsNamed all) ns)

  no_name : (demanded : Bool) (all : List Named) → TellsNamed demanded all [] [] [] []
  no_name demanded all = (λ t. absurd t, λ a. elim a [ inl p ↦ (no_part demanded).1 p | inr n ↦ absurd n ])

  -- a part that the values of its name ask too, and the others
  named_part : (demanded own : Bool) (Others : Type 0) (os ps : List ℕ) (ls ms : List Literal) (cs ds : List (List Tree))
      → Tells (demanded || own) os ls cs → Has IsAt ps ↔ (DemandedIn demanded ms ds ⊎ Others)
      → Has IsAt (os ++ ps) ↔ (DemandedIn demanded (ls ++ ms) (cs ++ ds) ⊎ (((own ≡ true) × Has Lacks ls) ⊎ Others))
  named_part demanded own Others os ps ls ms cs ds h k = (λ t. elim (has_cases IsAt os ps t) [ inl a ↦ here (h.0 a) | inr b ↦ there (k.0 b) ], from)
    where
      here : DemandedIn (demanded || own) ls cs → DemandedIn demanded (ls ++ ms) (cs ++ ds) ⊎ (((own ≡ true) × Has Lacks ls) ⊎ Others)
      here (inl l) =
          elim (or_cases demanded own l.0) [
            | inl e ↦ inl (inl (e, has_left Lacks ls ms l.1))
            | inr e ↦ inr (inl (e, l.1))
          ]
      here (inr c) = inl (inr (has_left DemandsOf cs ds c))

      there : DemandedIn demanded ms ds ⊎ Others → DemandedIn demanded (ls ++ ms) (cs ++ ds) ⊎ (((own ≡ true) × Has Lacks ls) ⊎ Others)
      there (inl (inl l)) = inl (inl (l.0, has_right Lacks ls ms l.1))
      there (inl (inr c)) = inl (inr (has_right DemandsOf cs ds c))
      there (inr m) = inr (inr m)

      from : DemandedIn demanded (ls ++ ms) (cs ++ ds) ⊎ (((own ≡ true) × Has Lacks ls) ⊎ Others) → Has IsAt (os ++ ps)
      from (inl (inl l)) =
          elim (has_cases Lacks ls ms l.1) [
            | inl a ↦ has_left IsAt os ps (h.1 (inl (or_left demanded own l.0, a)))
            | inr b ↦ has_right IsAt os ps (k.1 (inl (inl (l.0, b))))
          ]
      from (inl (inr c)) =
          elim (has_cases DemandsOf cs ds c) [
            | inl a ↦ has_left IsAt os ps (h.1 (inr a))
            | inr b ↦ has_right IsAt os ps (k.1 (inl (inr b)))
          ]
      from (inr (inl m)) = has_left IsAt os ps (h.1 (inl (or_right demanded own m.0, m.1)))
      from (inr (inr m)) = has_right IsAt os ps (k.1 (inr m))

  -- all parts: the values of each name are conjunctions
  with_values : (demanded : Bool) (all : List Named) (os : List ℕ) (ls : List Literal) (cs : List (List Tree)) → TellsNamed demanded all os ls cs all → Tells demanded os ls (values_of_each all ++ cs)
  with_values demanded all os ls cs h = (λ t. to (h.0 t), from)
    where
      to : DemandedIn demanded ls cs ⊎ Has (DemandsNamed all) all → DemandedIn demanded ls (values_of_each all ++ cs)
      to (inl (inl l)) = inl l
      to (inl (inr c)) = inr (has_right DemandsOf (values_of_each all) cs c)
      to (inr m) = inr (has_left DemandsOf (values_of_each all) cs ((by_name all).0 m))

      from : DemandedIn demanded ls (values_of_each all ++ cs) → Has IsAt os
      from (inl l) = h.1 (inl (inl l))
      from (inr c) =
          elim (has_cases DemandsOf (values_of_each all) cs c) [
            | inl a ↦ h.1 (inr ((by_name all).1 a))
            | inr b ↦ h.1 (inl (inr b))
          ]

  -- ---- expressions

  mutual
    pub told : (rs : Refinements) (demanded : Bool) (t : Tree) → Tells demanded (unopened rs demanded t) (literals t) (conjunctions rs t)
    told rs demanded (conjunction es) =
        let own = joined_demand_open rs es in
        inside demanded own (unopened_all rs (demanded || own) es) (literals_all es) (joined rs es) (conjunctions_all rs es) (joined_demands rs es) (told_all rs (demanded || own) es)
    told rs demanded (disjunction es) = told_all rs demanded es
    told rs demanded (paren e) = told rs demanded e
    told rs demanded (struct p fs opened) =
        let ns = named_fields fs in
        two_parts demanded (at_fault demanded opened p) (unopened_fields rs demanded ns fs) (record { at = p; opened = opened } ∷ []) (literals_fields fs) [] (values_of_each ns ++ conjunctions_fields rs fs)
        (told_at demanded opened p)
        (with_values demanded ns (unopened_fields rs demanded ns fs) (literals_fields fs) (conjunctions_fields rs fs) (told_in rs demanded ns fs))
    told rs demanded (list es end) = two_parts demanded (unopened_all rs demanded es) (unopened_end rs demanded end) (literals_all es) (literals_end end) (conjunctions_all rs es) (conjunctions_end rs end) (told_all rs demanded es) (told_end rs demanded end)
    told rs demanded _ = no_part demanded

    told_all : (rs : Refinements) (demanded : Bool) (es : Trees) → Tells demanded (unopened_all rs demanded es) (literals_all es) (conjunctions_all rs es)
    told_all rs demanded none = no_part demanded
    told_all rs demanded (more e es) = two_parts demanded (unopened rs demanded e) (unopened_all rs demanded es) (literals e) (literals_all es) (conjunctions rs e) (conjunctions_all rs es) (told rs demanded e) (told_all rs demanded es)

    told_in : (rs : Refinements) (demanded : Bool) (all : List Named) (fs : Fields) → TellsNamed demanded all (unopened_fields rs demanded all fs) (literals_fields fs) (conjunctions_fields rs fs) (named_fields fs)
    told_in rs demanded all no_field = no_name demanded all
    told_in rs demanded all (field l m e fs) =
        let own = demands_open_of (declared_for l m) all in
        named_part demanded own (Has (DemandsNamed all) (named_fields fs)) (unopened rs (demanded || own) e) (unopened_fields rs demanded all fs) (literals e) (literals_fields fs) (conjunctions rs e) (conjunctions_fields rs fs) (told rs (demanded || own) e) (told_in rs demanded all fs)

    told_end : (rs : Refinements) (demanded : Bool) (end : End) → Tells demanded (unopened_end rs demanded end) (literals_end end) (conjunctions_end rs end)
    told_end rs demanded closed = no_part demanded
    told_end rs demanded any = no_part demanded
    told_end rs demanded (each e) = told rs demanded e

  -- ---- definitions

  -- the literals of definitions, and their conjunctions
  abbrev inner_literals : List DefinitionTree → List Literal
  inner_literals ds = flat_map (λ d. literals (body d)) ds

  abbrev inner : Refinements → List DefinitionTree → List (List Tree)
  inner rs ds = flat_map (λ d. conjunctions rs (body d)) ds

  told_definitions : (rs : Refinements) (all : List Named) (ds : List DefinitionTree) → TellsNamed false all (unopened_definitions rs all ds) (inner_literals ds) (inner rs ds) (named_bodies ds)
  told_definitions rs all [] = no_name false all
  told_definitions rs all (d ∷ ds) =
      let own = demands_open (values (one (defined_name d)) all) in
      named_part false own (Has (DemandsNamed all) (named_bodies ds)) (unopened rs own (body d)) (unopened_definitions rs all ds) (literals (body d)) (inner_literals ds) (conjunctions rs (body d)) (inner rs ds) (told rs own (body d)) (told_definitions rs all ds)

  -- o is told of all definitions exactly where one of their conjunctions asks for such a literal
  pub told_of_all : (rs : Refinements) (ds : List DefinitionTree) → Has IsAt (unopened_definitions rs (named_bodies ds) ds) ↔ Has DemandsOf (all_conjunctions rs ds)
  told_of_all rs ds = (λ t. elim (both.0 t) [ inl l ↦ absurd (false≢true l.0) | inr c ↦ c ], λ c. both.1 (inr c))
    where
      both : Tells false (unopened_definitions rs (named_bodies ds) ds) (inner_literals ds) (all_conjunctions rs ds)
      both = with_values false (named_bodies ds) (unopened_definitions rs (named_bodies ds) ds) (inner_literals ds) (inner rs ds) (told_definitions rs (named_bodies ds) ds)

  -- the definition d asks for such a literal of its body, where all are the bodies of the package
  abbrev pub DemandedOf : Refinements → List Named → DefinitionTree → Type 0
  DemandedOf rs all d = DemandedIn (demands_open (values (one (defined_name d)) all)) (literals (body d)) (conjunctions rs (body d))

  -- o is told of some definitions exactly where one of them asks for such a literal
  pub told_of_some : (rs : Refinements) (all : List Named) (ds : List DefinitionTree) → Has IsAt (unopened_definitions rs all ds) ↔ Has (DemandedOf rs all) ds
  told_of_some rs all ds = (to ds, from ds)
    where
      to : (ds : List DefinitionTree) → Has IsAt (unopened_definitions rs all ds) → Has (DemandedOf rs all) ds
      to [] t = absurd t
      to (d ∷ ds) t = or_map (has_cases IsAt (unopened rs (demands_open (values (one (defined_name d)) all)) (body d)) (unopened_definitions rs all ds) t) (told rs (demands_open (values (one (defined_name d)) all)) (body d)).0 (to ds)

      from : (ds : List DefinitionTree) → Has (DemandedOf rs all) ds → Has IsAt (unopened_definitions rs all ds)
      from [] a = absurd a
      from (d ∷ ds) (inl a) = has_left IsAt (unopened rs (demands_open (values (one (defined_name d)) all)) (body d)) (unopened_definitions rs all ds) ((told rs (demands_open (values (one (defined_name d)) all)) (body d)).1 a)
      from (d ∷ ds) (inr a) = has_right IsAt (unopened rs (demands_open (values (one (defined_name d)) all)) (body d)) (unopened_definitions rs all ds) (from ds a)
