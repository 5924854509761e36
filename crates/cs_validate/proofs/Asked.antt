-- What the keywords of an object ask, put together.
use Rattle.std.proofs.Common.{rules, ◌≡◌, ℕ, zero, suc, ◌+◌, ◌<◌, ◌≤◌, ℤ, pos, negsuc, Bool, true, false, ◌&&◌, List, [], ◌∷◌, ◌++◌, Option, Some, None, length, drop, option_map, refl, sym, ap, ap₂, ◌∙◌, arith}
use Rattle.std.specs.Prelude.{IfSome, option_to_list, slice_get}
use Rattle.std.specs.List.{list_all, flat_map, AllByRecursion as Each}
use Rattle.std.proofs.Math.Bool.{and-true, and_assoc}
use Rattle.std.proofs.lemmas.List.Folds.{list_all-append}
use Rattle.cs_document.specs.Document.{Document, Entry}
use Rattle.cs_document.specs.Opened.{Opened, an_integer, a_text, a_list, an_object}
use Rattle.cs_document.proofs.Each.{each_of, each_under, all_same as each_same, all_true}
use Rattle.cs_profile.specs.Keywords.{name_of, all_keywords}
use Rattle.cs_profile.specs.declared.keyword.Keyword.{Keyword}
use Rattle.cs_profile.specs.declared.keyword.Keyword.TheVariants as keyword
use Rattle.cs_profile.proofs.Names.{by_name, each_named, every_keyword}
use Rattle.cs_profile.specs.Constraint.{Assertion, valid_by, at_keys, at_other_keys, in_front, behind, valid_by_all, valid_by_any, not_valid_by}
use Rattle.cs_profile.specs.Validity.{if_number, if_array, if_object, if_there, front_holds, holds}
use Rattle.cs_profile.specs.Numbered.{numbered as numbers_from, names_in}
use Rattle.cs_rules.specs.Lengths.{AreLengths, tells}
use Rattle.cs_rules.specs.declared.known.Known.{Known}
use Rattle.cs_validate.specs.declared.rules.Conjunction.{Conjunction}
use Rattle.cs_validate.specs.Numbering.{ClaimBelow}
use Rattle.cs_validate.specs.Steps.{claim_of, claims_of, places_from, unless_empty, of_count, items_place, prefix_place, properties_place}
use Rattle.cs_validate.specs.Asked.{asks_any, asks_integer, asks_text, asks_here, if_count, asks_list, asks_map, asks_kind, TellsOf, AreBelowHere, AreBelowInside}

-- ---- places one after another

pub places_end : {X : Type 0} (m p : ℕ) (xs : List X) → Each (λ q. q < m) (places_from p xs) → p ≤ m → p + length xs ≤ m
places_end m p [] h l = omega (arith, l)
places_end m p (x ∷ xs) h l =
    let first = h.0 in
    let next = places_end m (suc p) xs h.1 (omega (arith, first)) in
    omega (arith, next)

pub places_fit : {X : Type 0} (m n p : ℕ) (xs : List X) → Each (λ q. q < m) (places_from p xs) → m < n → p < n → p + length xs < n
places_fit m n p [] h l k = omega (arith, k)
places_fit m n p (x ∷ xs) h l k =
    let first = h.0 in
    let end = places_end m p (x ∷ xs) h (omega (arith, first)) in
    omega (arith, end, l)

module _ {X : Type 0} where
  pub front_next : (inside : ℕ → ℕ → Bool) (xs : List X) (i p y : ℕ) (ys : List ℕ) → i < length xs
      → front_holds (λ (h : ℕ). true) inside (places_from p (drop i xs)) (y ∷ ys) ≡ (inside y p && front_holds (λ (h : ℕ). true) inside (places_from (suc p) (drop (suc i) xs)) ys)
  front_next inside [] i p y ys l = absurd (omega (arith, l))
  front_next inside (x ∷ xs) zero p y ys l = refl
  front_next inside (x ∷ xs) (suc i) p y ys l = front_next inside xs i p y ys (omega (arith, l))

  pub places_next : (m : ℕ) (xs : List X) (i p : ℕ) → i < length xs → Each (λ q. q < m) (places_from p (drop i xs)) → Each (λ q. q < m) (places_from (suc p) (drop (suc i) xs))
  places_next m [] i p l h = absurd (omega (arith, l))
  places_next m (x ∷ xs) zero p l h = h.1
  places_next m (x ∷ xs) (suc i) p l h = places_next m xs i p (omega (arith, l)) h

-- ---- how long a value is

pub tells_of : (items : List (Opened ℕ)) (k : Known) (x : Opened ℕ) → AreLengths items k.lengths.now → slice_get items k.item ≡ Some x → TellsOf k x
tells_of items k (a_text s) h e = tells items k.lengths.now k.item s h e
tells_of items k _ h e = tt

-- ---- claims that stand

module _ {X : Type 0} (p : X → Bool) where
  standing : (os : List (Option X)) → list_all p (flat_map option_to_list os) ≡ list_all (if_there p) os
  standing [] = refl
  standing (None ∷ os) = standing os
  standing (Some x ∷ os) = ap (λ b. p x && b) (standing os)

standing_each : {X : Type 0} (P : X → Type 0) (os : List (Option X)) → Each P (flat_map option_to_list os) → Each (λ o. Each P (option_to_list o)) os
standing_each P [] h = tt
standing_each P (None ∷ os) h = (tt, standing_each P os h)
standing_each P (Some x ∷ os) h = ((h.0, tt), standing_each P os h.1)

module _ {X Y : Type 0} (p : Y → Bool) where
  there_same : (f : X → Y) (g : X → Bool) → ((x : X) → p (f x) ≡ g x) → (o : Option X) → if_there p (option_map f o) ≡ if_there g o
  there_same f g h None = refl
  there_same f g h (Some x) = h x

  not_asked : (f : X → Y) → ((x : X) → p (f x) ≡ true) → (o : Option X) → if_there p (option_map f o) ≡ true
  not_asked f h None = refl
  not_asked f h (Some x) = h x

  all_same : (f : List X → Y) (g : List X → Bool) → g [] ≡ true → ((x : X) (xs : List X) → p (f (x ∷ xs)) ≡ g (x ∷ xs)) → (xs : List X) → if_there p (unless_empty f xs) ≡ g xs
  all_same f g e h [] = sym e
  all_same f g e h (x ∷ xs) = h x xs

-- ---- the order in which they are asked

same_truth : (a b : Bool) → (a ≡ true → b ≡ true) → (b ≡ true → a ≡ true) → a ≡ b
same_truth true b f g = sym (f refl)
same_truth false true f g = g refl
same_truth false false f g = refl

-- the keywords by what they ask
abbrev any_keywords : List Keyword
any_keywords = keyword.Type ∷ keyword.Const ∷ keyword.Enum ∷ []

abbrev here_keywords : List Keyword
here_keywords = keyword.Ref ∷ keyword.AllOf ∷ keyword.AnyOf ∷ keyword.Not ∷ []

abbrev integer_keywords : List Keyword
integer_keywords = keyword.ExclusiveMaximum ∷ keyword.Maximum ∷ keyword.ExclusiveMinimum ∷ keyword.Minimum ∷ []

abbrev text_keywords : List Keyword
text_keywords = keyword.MaxLength ∷ keyword.MinLength ∷ []

abbrev list_keywords : List Keyword
list_keywords = keyword.MaxItems ∷ keyword.MinItems ∷ keyword.PrefixItems ∷ keyword.Items ∷ []

abbrev map_keywords : List Keyword
map_keywords = keyword.MaxProperties ∷ keyword.MinProperties ∷ keyword.Required ∷ keyword.Properties ∷ keyword.AdditionalProperties ∷ []

abbrev kind_keywords : List Keyword
kind_keywords = integer_keywords ++ (text_keywords ++ (list_keywords ++ map_keywords))

abbrev silent_keywords : List Keyword
silent_keywords = keyword.Comment ∷ keyword.Defs ∷ keyword.Description ∷ keyword.Schema ∷ keyword.Title ∷ []

abbrev groups : List Keyword
groups = silent_keywords ++ (any_keywords ++ (here_keywords ++ kind_keywords))

in_groups : (w : Keyword) → by_name (name_of w) groups ≡ Some w
in_groups keyword.Comment = refl
in_groups _ = refl

module _ (p : Keyword → Bool) where
  abbrev Holds : Keyword → Type 0
  Holds w = p w ≡ true

  grouped : list_all p all_keywords ≡ list_all p groups
  grouped =
      same_truth (list_all p all_keywords) (list_all p groups) (λ e. each_same p (λ w. true) groups (each_of Holds (every_keyword Holds (all_true p all_keywords e)) groups))
      (λ e. each_same p (λ w. true) all_keywords (each_of Holds (λ w. each_named Holds groups w (in_groups w) (all_true p groups e)) all_keywords))

-- ---- what each group asks

-- an element with a place looks at that place alone
front_any : {H K : Type 0} (here : H → Bool) (here' : K → Bool) (inside : ℕ → ℕ → Bool) (ps ys : List ℕ) → front_holds here inside ps ys ≡ front_holds here' inside ps ys
front_any here here' inside [] ys = refl
front_any here here' inside (p ∷ ps) [] = refl
front_any here here' inside (p ∷ ps) (y ∷ ys) = ap (λ b. inside y p && b) (front_any here here' inside ps ys)

abbrev if_text : (List ℕ → Bool) → Opened ℕ → Bool
if_text p (a_text s) = p s
if_text p _ = true

both : {a a' b b' : Bool} → a ≡ a' → b ≡ b' → (a && b) ≡ (a' && b')
both e f = ap₂ ◌&&◌ e f

module _ (here : ℕ → Bool) (inside : ℕ → ℕ → Bool) (d : Document) (c : Conjunction) where
  abbrev passes : Opened ℕ → Assertion ℕ ℕ → Bool
  passes x a = holds here inside a d x

  abbrev asked : Opened ℕ → Option (Assertion ℕ ℕ) → Bool
  asked x o = if_there (passes x) o

  abbrev claimed : Opened ℕ → Keyword → Bool
  claimed x w = asked x (claim_of c w)

  abbrev claimed_all : Opened ℕ → List Keyword → Bool
  claimed_all x = list_all (claimed x)

  count_same : (x : Opened ℕ) (f : ℕ → Assertion ℕ ℕ) (q : ℕ → Bool) → ((n : ℕ) → passes x (f n) ≡ q n) → (z : ℤ) → passes x (of_count f z) ≡ if_count q z
  count_same x f q h (pos n) = h n
  count_same x f q h (negsuc n) = refl

  no_count : (x : Opened ℕ) (f : ℕ → Assertion ℕ ℕ) → ((n : ℕ) → passes x (f n) ≡ true) → (z : ℤ) → passes x (of_count f z) ≡ true
  no_count x f h (pos n) = h n
  no_count x f h (negsuc n) = refl

  ruleset same = (rules, both, there_same, all_same, count_same, front_any)

  ruleset none = (rules, both, not_asked, all_same, no_count)

  any_same : (x : Opened ℕ) → claimed_all x any_keywords ≡ asks_any c d x
  any_same x = simp (and_assoc, and-true) (search same)

  here_same : (x : Opened ℕ) → claimed_all x here_keywords ≡ asks_here here c
  here_same x = simp (and_assoc, and-true) (search same)

  -- ---- by the kind of the value

  integer_same : (x : Opened ℕ) → claimed_all x integer_keywords ≡ if_number (asks_integer c.keywords.now) x
  integer_same (an_integer z) = simp (and_assoc, and-true) (search same)
  integer_same _ = search none

  text_same : (x : Opened ℕ) → claimed_all x text_keywords ≡ if_text (asks_text c.keywords.now) x
  text_same (a_text s) = simp and-true (search same)
  text_same _ = search none

  list_same : (x : Opened ℕ) → claimed_all x list_keywords ≡ if_array (asks_list inside c) x
  list_same (a_list ys) = simp (and_assoc, and-true) (search same)
  list_same _ = search none

  map_same : (x : Opened ℕ) → claimed_all x map_keywords ≡ if_object (asks_map inside c) x
  map_same (an_object ms) = simp (and_assoc, and-true) (search same)
  map_same _ = search none

  one_kind : (x : Opened ℕ)
      → (if_number (asks_integer c.keywords.now) x && (if_text (asks_text c.keywords.now) x && (if_array (asks_list inside c) x && if_object (asks_map inside c) x))) ≡ asks_kind inside c x
  one_kind (an_integer z) = and-true (asks_integer c.keywords.now z)
  one_kind (a_text s) = and-true (asks_text c.keywords.now s)
  one_kind (a_list ys) = and-true (asks_list inside c ys)
  one_kind _ = refl

  kind_same : (x : Opened ℕ) → claimed_all x kind_keywords ≡ asks_kind inside c x
  kind_same x =
      list_all-append (claimed x) integer_keywords (text_keywords ++ (list_keywords ++ map_keywords))
      ∙ both (integer_same x)
      (list_all-append (claimed x) text_keywords (list_keywords ++ map_keywords)
      ∙ both (text_same x) (list_all-append (claimed x) list_keywords map_keywords ∙ both (list_same x) (map_same x)))
      ∙ one_kind x

  pub claims_hold : (x : Opened ℕ) → list_all (passes x) (flat_map option_to_list (claims_of c)) ≡ (asks_any c d x && (asks_here here c && asks_kind inside c x))
  claims_hold x =
      standing (passes x) (claims_of c) ∙ grouped (claimed x)
      ∙ list_all-append (claimed x) any_keywords (here_keywords ++ kind_keywords)
      ∙ both (any_same x) (list_all-append (claimed x) here_keywords kind_keywords ∙ both (here_same x) (kind_same x))

-- ---- numbers and places of parts

claim_if : {X Y : Type 0} (P : Y → Type 0) (f : X → Y) (o : Option X) → Each P (option_to_list (option_map f o)) → IfSome o (λ x. P (f x))
claim_if P f None h = tt
claim_if P f (Some x) h = h.0

claim_unless : {X Y : Type 0} (P : Y → Type 0) (f : List X → Y) (Q : List X → Type 0) → Q [] → ((xs : List X) → P (f xs) → Q xs) → (xs : List X) → Each P (option_to_list (unless_empty f xs)) → Q xs
claim_unless P f Q e g [] h = e
claim_unless P f Q e g (x ∷ xs) h = g (x ∷ xs) h.0

one_below : (n m : ℕ) (o : Option ℕ) → Each (ClaimBelow n m) (option_to_list (option_map not_valid_by o)) → Each (λ r. r < n) (option_to_list o)
one_below n m None h = tt
one_below n m (Some r) h = (h.0, tt)

module _ (n m : ℕ) (c : Conjunction) (h : Each (ClaimBelow n m) (flat_map option_to_list (claims_of c))) where
  at_keyword : (w : Keyword) → Each (ClaimBelow n m) (option_to_list (claim_of c w))
  at_keyword =
      every_keyword (λ w. Each (ClaimBelow n m) (option_to_list (claim_of c w))) (each_under (claim_of c) (λ o. Each (ClaimBelow n m) (option_to_list o)) all_keywords (standing_each (ClaimBelow n m) (claims_of c) h))

  pub below_here : AreBelowHere n c
  below_here = record {
    reference = claim_if (ClaimBelow n m) (λ name. valid_by c.reference) c.keywords.now.reference (at_keyword keyword.Ref);
    all_of = claim_unless (ClaimBelow n m) valid_by_all (Each (λ r. r < n)) tt (λ xs k. k) c.all_of.items (at_keyword keyword.AllOf);
    any_of = claim_unless (ClaimBelow n m) valid_by_any (Each (λ r. r < n)) tt (λ xs k. k) c.any_of.items (at_keyword keyword.AnyOf);
    negated = one_below n m c.negated (at_keyword keyword.Not);
  }

  pub below_inside : AreBelowInside m c
  below_inside = record {
    additional = claim_if (ClaimBelow n m) (λ s. at_other_keys (names_in c.keywords.now.properties.entries) c.first) c.keywords.now.additional (at_keyword keyword.AdditionalProperties);
    rest = claim_if (ClaimBelow n m) (λ s. behind (length c.keywords.now.prefix.items) (items_place c)) c.keywords.now.rest (at_keyword keyword.Items);
    prefix = claim_unless (ClaimBelow n m) in_front (Each (λ p. p < m)) tt (λ xs k. k) (places_from (prefix_place c) c.keywords.now.prefix.items) (at_keyword keyword.PrefixItems);
    properties = claim_unless (ClaimBelow n m) at_keys (Each (λ (e : Entry ℕ). e.1 < m)) tt (λ xs k. k) (numbers_from (properties_place c) (names_in c.keywords.now.properties.entries)) (at_keyword keyword.Properties);
  }
