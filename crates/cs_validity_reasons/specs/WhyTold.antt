-- What is told of why a document isn't valid against a schema document.
use Rattle.std.specs.Prelude.{◌≡◌, ◌<◌, ℕ, Bool, true, false, not, ◌||◌, List, [], ◌++◌, Some, Contains, length, take, map, slice_get}
use Rattle.std.specs.Borrow.{Bor}
use Rattle.std.specs.List.{flat_map, list_any}
use Rattle.cs_document.specs.Document.{Document}
use Rattle.cs_document.specs.Opened.{Opened}
use Rattle.cs_flat.specs.Nodes.{node_at}
use Rattle.cs_flat.specs.Listed.{values, document_in}
use Rattle.cs_table.specs.Judged.{AllVerdicts, IsEarlier}
use Rattle.cs_reasons.specs.Told.{pair_at, chain_to}
use Rattle.cs_reasons.specs.declared.reasons.Reason.{Reason}
use Rattle.cs_reasons.specs.declared.reasons.Reasons.{Reasons}
use Rattle.cs_reasons.specs.declared.telling.Telling.{Telling}
use Rattle.cs_rules.specs.Pointers.{At}
use Rattle.cs_profile.specs.Constraint.{Constraint}
use Rattle.cs_validate.specs.Numbering.{schema_at, IsNumbering}
use Rattle.cs_validate.specs.Rules.{AreRules}
use Rattle.cs_validity_reasons.specs.Required.{HasManyNames}
use Rattle.cs_validity_reasons.specs.Closest.{AreOfChosen}
use Rattle.cs_validity_reasons.specs.Causes as cause
use Rattle.cs_validity_reasons.specs.Causes.{Cause}
use Rattle.cs_validity_reasons.specs.NumberedCauses.{NumberedCause, IsNumberedCause}
use Rattle.cs_validity_reasons.specs.Why.{Way, way_of, led, steps_of, is_by_alternative, map_cause, IsWhy, IsTold}
use Rattle.cs_validity_reasons.specs.declared.cause.KeyedCause.{KeyedCause}
use Rattle.cs_validity_reasons.specs.declared.cause.KeyedCause.TheVariants.{Reference, Part, Alternative, Property, Additional, Prefix, Items, Never, Missing, Keyword, NoAlternative}
use Rattle.cs_validity_reasons.specs.declared.explaining.Explanation.{Explanation}
use Rattle.cs_validity_reasons.specs.declared.explaining.Explanation.TheVariants.{Valid, Invalid, Untold}

-- a cause with its keys
abbrev pub ValidCause : Type 0
ValidCause = KeyedCause (Bor (List ℕ))

-- the cause by the numbers of schemas and of values inside
abbrev pub cause_of : ValidCause → NumberedCause
cause_of (Reference item rule) = cause.reference rule
cause_of (Part item rule place) = cause.part place rule
cause_of (Alternative item rule place) = cause.alternative place rule
cause_of (Property key item rule) = cause.property key.now item rule
cause_of (Additional key item rule) = cause.additional key.now item rule
cause_of (Prefix place item rule) = cause.prefix place item rule
cause_of (Items place item rule) = cause.items place item rule
cause_of Never = cause.never_valid
cause_of (Missing key) = cause.missing key.now
cause_of (Keyword w) = cause.by_keyword w
cause_of NoAlternative = cause.no_alternative

-- the ways of the causes on a chain
abbrev pub ways_of : List NumberedCause → List Way
ways_of ns = flat_map way_of ns

abbrev pub ways_to : Reasons ValidCause → ℕ → List Way
ways_to rs link = ways_of (map cause_of (chain_to rs.links.items link))

-- the pair and the cause of a reason
abbrev pub numbered_entry : Reasons ValidCause → Reason ValidCause → (ℕ × ℕ) × NumberedCause
numbered_entry rs t = (pair_at rs.links.items t.link, cause_of t.cause)

-- the values of a document are numbered by their places in xs, and the schemas of a schema document by those in `rules`
module _ (rules : List Document) (xs : List (Opened ℕ)) where
  -- the value and the schema of a pair of numbers
  abbrev pub value_of : ℕ × ℕ → Document
  value_of p = node_at (values xs) p.0

  abbrev pub schema_of : ℕ × ℕ → Document
  schema_of p = schema_at rules p.1

  -- a cause that names them
  abbrev pub meant : NumberedCause → Cause Document Document Document
  meant c = map_cause (node_at (values xs)) (schema_at rules) c

  -- the verdicts of a validity
  abbrev pub verdicts_of : (Document → Document → Bool) → AllVerdicts
  verdicts_of V i r = V (schema_at rules r) (node_at (values xs) i)

  -- these ways lead from the pair i, r to this one, where `asked` has what the schemas ask
  pub data LeadTo (V : Document → Document → Bool) (asked : List (Constraint ℕ ℕ)) (i r : ℕ) : List Way → ℕ × ℕ → Type 0 where
    stay : LeadTo V asked i r [] (i, r)
    go : {ways : List Way} {p q : ℕ × ℕ} {n : NumberedCause} → LeadTo V asked i r ways p → IsNumberedCause (verdicts_of V) xs asked p.0 p.1 n → led p.0 n ≡ Some q → LeadTo V asked i r (ways ++ way_of n) q

-- why the document of the values xs isn't valid against the schema document R, as it was asked to be told; V is the validity
pub record IsToldWhy (R : Document) (V : Document → Document → Bool) (xs : List (Opened ℕ)) (telling : Telling) (rs : Reasons ValidCause) : Type 0 where
  -- the rules of R with what they ask, and the numbers of R and of the document
  pub rules : List Document
  pub are : AreRules R rules
  pub asked : List (Constraint ℕ ℕ)
  pub numbering : IsNumbering R rules asked
  pub root : ℕ
  pub found : slice_get rules root ≡ Some R
  pub whole : ℕ
  pub last : slice_get (values xs) whole ≡ Some (document_in xs)
  -- each reason that is told is one: the ways of its chain lead to its schema and its value, and its cause is why this value
  -- fails this schema
  pub true_of : (k : ℕ) (t : Reason ValidCause) → slice_get rs.told.items k ≡ Some t
      → IsTold R V R (document_in xs) telling.all (ways_to rs t.link) (schema_of rules xs (pair_at rs.links.items t.link)) (value_of rules xs (pair_at rs.links.items t.link)) (meant rules xs (cause_of t.cause))
  pub leads : (k : ℕ) (t : Reason ValidCause) → slice_get rs.told.items k ≡ Some t → LeadTo rules xs V asked whole root (ways_to rs t.link) (pair_at rs.links.items t.link)
  -- its value is in the document where these ways lead
  pub there : (k : ℕ) (t : Reason ValidCause) → slice_get rs.told.items k ≡ Some t → At (steps_of (ways_to rs t.link)) (document_in xs) (value_of rules xs (pair_at rs.links.items t.link))
  -- of all reasons the first are told, and all are counted; there is one
  pub all : List ((ℕ × ℕ) × NumberedCause)
  pub sound : (k : ℕ) (e : (ℕ × ℕ) × NumberedCause) → slice_get all k ≡ Some e
      → (ways : List Way) × LeadTo rules xs V asked whole root ways e.0 × IsTold R V R (document_in xs) telling.all ways (schema_of rules xs e.0) (value_of rules xs e.0) (meant rules xs e.1)
  pub told : map (numbered_entry rs) rs.told.items ≡ take telling.most all
  pub count : rs.count ≡ length all
  pub some : 0 < length all
  -- each is counted once, in the order of their pairs
  pub once : (j k : ℕ) (e : (ℕ × ℕ) × NumberedCause) → slice_get all j ≡ Some e → slice_get all k ≡ Some e → j ≡ k
  pub in_order : (j k : ℕ) (e g : (ℕ × ℕ) × NumberedCause) → j < k → slice_get all j ≡ Some e → slice_get all k ≡ Some g → ¬ (IsEarlier g.0.0 g.0.1 e.0.0 e.0.1)
  -- no reason is left out, but by schemas of `anyOf` where these aren't told of one by one
  pub complete : (ways : List Way) (s x : Document) (c : Cause Document Document Document) → IsWhy R V R (document_in xs) ways s x c → (telling.all || not (list_any is_by_alternative ways)) ≡ true
      → (e : (ℕ × ℕ) × NumberedCause) × Contains all e × LeadTo rules xs V asked whole root ways e.0 × (schema_of rules xs e.0 ≡ s) × (value_of rules xs e.0 ≡ x) × (meant rules xs e.1 ≡ c)
  -- of schemas of `anyOf` some are chosen, and of everything that is reached by them no reason is left out
  pub closest : AreOfChosen V rules xs asked whole root all

-- it says that the document is valid
abbrev pub says_valid : Explanation → Bool
says_valid Valid = true
says_valid (Invalid rs) = false
says_valid Untold = false

-- what is told of the document of the values xs, V as above: no reason where it is valid; where it isn't, why, unless values and
-- required names are too many
abbrev pub IsExplained : Document → (Document → Document → Bool) → List (Opened ℕ) → Telling → Explanation → Type 0
IsExplained R V xs telling Valid = V R (document_in xs) ≡ true
IsExplained R V xs telling (Invalid rs) = (V R (document_in xs) ≡ false) × (¬ (HasManyNames R (document_in xs))) × IsToldWhy R V xs telling rs
IsExplained R V xs telling Untold = (V R (document_in xs) ≡ false) × HasManyNames R (document_in xs)
