-- Why a value doesn't satisfy the constraint of a schema: the schemas that it fails, and the keywords that it fails by itself
-- (JSON Schema Core 2020-12, sections 4.3.2, 8.2.3.1 and 10; Validation 2020-12, section 6). As for constraints, H is in place
-- of each schema that is asked of the same value, I in place of each that is asked of a value inside, and A in place of each
-- such value.
use Rattle.std.specs.Prelude.{◌≡◌, ℕ, ◌≤◌, Bool, false, List, [], Option, Some, None, Contains, slice_get}
use Rattle.std.specs.List.{list_any}
use Rattle.std.specs.Str.{bytes_eq}
use Rattle.cs_document.specs.Document.{Document, Entry, under}
use Rattle.cs_document.specs.Opened.{Opened, a_list, an_object}
use Rattle.cs_document.specs.Sizes.{Counted, Characters, Elements, Keys}
use Rattle.cs_profile.specs.Constraint.{Assertion, valid_by, has_kind, equals, is_among, at_least, at_most, above, below, has_keys, at_keys, at_other_keys, in_front, behind, at_least_long, at_most_long, valid_by_all, valid_by_any, not_valid_by, Constraint, never, conjunction}
use Rattle.cs_profile.specs.Validity.{holds}
use Rattle.cs_profile.specs.declared.keyword.Keyword.{Keyword}
use Rattle.cs_profile.specs.declared.keyword.Keyword.TheVariants as keyword

pub data Cause (A H I : Type 0) : Type 0 where
  -- the schema that `$ref` names
  reference : H → Cause A H I
  -- the schema at a place of `allOf`, or of `anyOf`
  part alternative : ℕ → H → Cause A H I
  -- by `properties` or by `additionalProperties`: that of the value under a key
  property additional : List ℕ → A → I → Cause A H I
  -- by `prefixItems` or by `items`: that of the element at a place
  prefix items : ℕ → A → I → Cause A H I
  -- the schema `false`; no schema of `anyOf`
  never_valid no_alternative : Cause A H I
  -- by `required`: a key that is missing
  missing : List ℕ → Cause A H I
  -- a keyword that the value fails by itself
  by_keyword : Keyword → Cause A H I

-- the keyword that says how long a document may be at most, and at least, by what is counted (Validation, sections 6.3.1, 6.3.2, 6.4.1,
-- 6.4.2, 6.5.1 and 6.5.2)
abbrev pub most_keyword : Counted → Keyword
most_keyword Characters = keyword.MaxLength
most_keyword Elements = keyword.MaxItems
most_keyword Keys = keyword.MaxProperties

abbrev pub least_keyword : Counted → Keyword
least_keyword Characters = keyword.MinLength
least_keyword Elements = keyword.MinItems
least_keyword Keys = keyword.MinProperties

-- the keyword of an assertion that looks at no part, or that a part doesn't hold
abbrev pub keyword_of : {H I : Type 0} → Assertion H I → Option Keyword
keyword_of (has_kind k) = Some keyword.Type
keyword_of (equals v) = Some keyword.Const
keyword_of (is_among vs) = Some keyword.Enum
keyword_of (at_least z) = Some keyword.Minimum
keyword_of (at_most z) = Some keyword.Maximum
keyword_of (above z) = Some keyword.ExclusiveMinimum
keyword_of (below z) = Some keyword.ExclusiveMaximum
keyword_of (at_most_long c n) = Some (most_keyword c)
keyword_of (at_least_long c n) = Some (least_keyword c)
keyword_of (not_valid_by s) = Some keyword.Not
keyword_of _ = None

-- `here s` says whether the schema s validates the value, and `inside y s` whether it validates y, which is directly inside it
module _ {A H I : Type 0} (here : H → Bool) (inside : A → I → Bool) (d : Document) where
  -- why an assertion doesn't hold of the document d, which opened once is x
  pub data IsDenied (x : Opened A) : Assertion H I → Cause A H I → Type 0 where
    of_keyword : {a : Assertion H I} {w : Keyword} → keyword_of a ≡ Some w → holds here inside a d x ≡ false → IsDenied x a (by_keyword w)
    of_reference : {s : H} → here s ≡ false → IsDenied x (valid_by (Some s)) (reference s)
    of_undefined : IsDenied x (valid_by None) (by_keyword keyword.Ref)
    of_part : {ss : List H} {k : ℕ} {s : H} → slice_get ss k ≡ Some s → here s ≡ false → IsDenied x (valid_by_all ss) (part k s)
    of_alternative : {ss : List H} {k : ℕ} {s : H} → list_any here ss ≡ false → slice_get ss k ≡ Some s → IsDenied x (valid_by_any ss) (alternative k s)
    of_none : IsDenied x (valid_by_any []) no_alternative
    of_missing : {ks : List (List ℕ)} {k : List ℕ} {ms : List (Entry A)} → x ≡ an_object ms → Contains ks k → under k ms ≡ None → IsDenied x (has_keys ks) (missing k)
    of_property : {ps : List (Entry I)} {k : List ℕ} {s : I} {y : A} {ms : List (Entry A)}
        → x ≡ an_object ms → Contains ps (k, s) → under k ms ≡ Some y → inside y s ≡ false → IsDenied x (at_keys ps) (property k y s)
    of_additional : {ks : List (List ℕ)} {k : List ℕ} {s : I} {y : A} {ms : List (Entry A)}
        → x ≡ an_object ms → Contains ms (k, y) → list_any (bytes_eq k) ks ≡ false → inside y s ≡ false → IsDenied x (at_other_keys ks s) (additional k y s)
    of_prefix : {ss : List I} {k : ℕ} {s : I} {y : A} {ys : List A}
        → x ≡ a_list ys → slice_get ss k ≡ Some s → slice_get ys k ≡ Some y → inside y s ≡ false → IsDenied x (in_front ss) (prefix k y s)
    of_items : {n k : ℕ} {s : I} {y : A} {ys : List A}
        → x ≡ a_list ys → n ≤ k → slice_get ys k ≡ Some y → inside y s ≡ false → IsDenied x (behind n s) (items k y s)

  -- why a value that doesn't satisfy the constraint doesn't
  pub data IsCause (x : Opened A) : Constraint H I → Cause A H I → Type 0 where
    of_never : IsCause x never never_valid
    of_claim : {claims : List (Assertion H I)} {a : Assertion H I} {c : Cause A H I} → Contains claims a → IsDenied x a c → IsCause x (conjunction claims) c
