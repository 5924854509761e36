-- The trimmed root: what it has in its `$defs`, and that the walk meets no fault in it.
use Rattle.std.proofs.Common.{◌≡◌, ℕ, Bool, true, false, List, [], ◌∷◌, ◌++◌, map, Option, Some, None, option_map, is_some, Ordering, Less, Equal, Greater, nat_cmp, bytes_eq, is_eq, codes, refl, sym, ap, ap₂, ◌∙◌, subst, if◌then◌else◌}
use Rattle.std.proofs.lemmas.List.{map-append}
use Rattle.std.proofs.lemmas.Map.Text.{is_eq-slice_cmp}
use Rattle.std.proofs.lemmas.Slice.Eq.{bytes_eq-Decides}
use Rattle.std.specs.Cmp.Lexicographic.{slice_cmp}
use Rattle.std.specs.Ordering.{match_ordering}
use Rattle.cs_document.specs.Document.{Document, null, boolean, integer, text, list, object, no_documents, document, Members, no_members, member, Entry, entries, under, put}
use Rattle.cs_profile.specs.Keywords.{listed_under, entries_of, defined}
use Rattle.cs_profile.specs.Shapes.{form_at, dialect}
use Rattle.cs_profile.specs.declared.keyword.Form.TheVariants as form
use Rattle.cs_profile.specs.declared.keyword.Vocabulary.{Vocabulary}
use Rattle.cs_profile.specs.Profile.{fault_of, member_visits}
use Rattle.cs_profile.specs.Values.{keyword_visits, trimmed_value, value_trims}
use Rattle.cs_profile.specs.Trim.{trim, trimmed, trimmed_members, trimmed_named, trimmed_as, with_member}
use Rattle.cs_profile.proofs.Definitions.{not_put}
use Rattle.cs_profile.proofs.Faultless.{Faultless, parted, joined}

-- ---- the definitions of a trimmed root

abbrev pub below : Entry Document → Entry Document
below e = (e.0, trimmed false e.1)

pub entries_trimmed : (ms : Members) → entries (trimmed_named ms) ≡ map below (entries ms)
entries_trimmed no_members = refl
entries_trimmed (member k v ms) = ap (λ (es : List (Entry Document)). (k, trimmed false v) ∷ es) (entries_trimmed ms)

-- a keyword whose value is an object of schemas
module _ (root : Bool) (key : List ℕ) (named : form_at root key ≡ Some form.NamedSchemas) where
  at_key_first : (v : Document) (ns : Members) → listed_under key (entries (member key v ns)) ≡ entries_of v ++ listed_under key (entries ns)
  at_key_first v ns = ap (λ t. (if t then entries_of v else []) ++ listed_under key (entries ns)) ((bytes_eq-Decides key key).1 refl)

  there : (v : Document) (ns : Members) (es : List (Entry Document)) → listed_under key (entries ns) ≡ map below es
      → listed_under key (entries (with_member (trimmed_as (Some form.NamedSchemas) v (value_trims v)) key ns)) ≡ map below (entries_of v ++ es)
  there null ns es h = at_key_first null ns ∙ h
  there (boolean b) ns es h = at_key_first (boolean b) ns ∙ h
  there (integer z) ns es h = at_key_first (integer z) ns ∙ h
  there (text s) ns es h = at_key_first (text s) ns ∙ h
  there (list no_documents) ns es h = h
  there (list (document d ds)) ns es h = at_key_first (list (document d ds)) ns ∙ h
  there (object no_members) ns es h = h
  there (object (member k v ms)) ns es h =
      at_key_first (object (trimmed_named (member k v ms))) ns ∙ ap₂ (λ xs ys. xs ++ ys) (entries_trimmed (member k v ms)) h ∙ sym (map-append below (entries (member k v ms)) es)

  elsewhere : (k : List ℕ) (o : Option Document) (ns : Members) → bytes_eq key k ≡ false → listed_under key (entries (with_member o k ns)) ≡ listed_under key (entries ns)
  elsewhere k None ns e = refl
  elsewhere k (Some v) ns e = rw e refl

  one_listed : (k : List ℕ) (v : Document) (ns : Members) (es : List (Entry Document)) → listed_under key (entries ns) ≡ map below es → (t : Bool) → bytes_eq key k ≡ t
      → listed_under key (entries (with_member (trimmed_value root k v) k ns)) ≡ map below ((if t then entries_of v else []) ++ es)
  one_listed k v ns es h true e =
      subst (λ n. listed_under key (entries (with_member (trimmed_value root n v) n ns)) ≡ map below (entries_of v ++ es)) ((bytes_eq-Decides key k).0 e)
      (ap (λ f. listed_under key (entries (with_member (trimmed_as f v (value_trims v)) key ns))) named ∙ there v ns es h)
  one_listed k v ns es h false e = elsewhere k (trimmed_value root k v) ns e ∙ h

  pub listed_trimmed : (ms : Members) → listed_under key (entries (trimmed_members root ms)) ≡ map below (listed_under key (entries ms))
  listed_trimmed no_members = refl
  listed_trimmed (member k v ms) = one_listed k v (trimmed_members root ms) (listed_under key (entries ms)) (listed_trimmed ms) (bytes_eq key k) refl

under_below : (n : List ℕ) (es : List (Entry Document)) → under n (map below es) ≡ option_map (trimmed false) (under n es)
under_below n [] = refl
under_below n (e ∷ es) = by_test (bytes_eq n e.0) (under_below n es)
  where
    by_test : (t : Bool) → under n (map below es) ≡ option_map (trimmed false) (under n es) → (if t then Some (trimmed false e.1) else under n (map below es)) ≡ option_map (trimmed false) (if t then Some e.1 else under n es)
    by_test true r = refl
    by_test false r = r

pub defined_in_trimmed : (ms : Members) (n : List ℕ) → under n (listed_under (codes "$defs") (entries (trimmed_members true ms))) ≡ option_map (trimmed false) (defined (object ms) n)
defined_in_trimmed ms n = ap (under n) (listed_trimmed true (codes "$defs") refl ms) ∙ under_below n (listed_under (codes "$defs") (entries ms))

pub defined_trimmed : (R : Document) (n : List ℕ) → defined (trim R) n ≡ option_map (trimmed false) (defined R n)
defined_trimmed null n = refl
defined_trimmed (boolean b) n = refl
defined_trimmed (integer z) n = refl
defined_trimmed (text s) n = refl
defined_trimmed (list ds) n = refl
defined_trimmed (object ms) n = ap (under n) (not_put (codes "$defs") (codes "$schema") (text dialect) (trimmed_members true ms) refl) ∙ defined_in_trimmed ms n

pub is_some-map : {A B : Type 0} (f : A → B) (o : Option A) → is_some (option_map f o) ≡ is_some o
is_some-map f None = refl
is_some-map f (Some x) = refl

-- ---- the trimmed root

module _ (taken : Vocabulary) where
  faultless_by_order : (k m : List ℕ) (d e : Document) (ms : Members) → Faultless taken (keyword_visits true [] k d) → Faultless taken (member_visits true [] (member m e ms)) → Faultless taken (member_visits true [] (put k d ms))
      → (o : Ordering) → slice_cmp nat_cmp k m ≡ o → Faultless taken (member_visits true [] (match_ordering o (member k d (member m e ms)) (member m d ms) (member m e (put k d ms))))
  faultless_by_order k m d e ms one all rest Less c = joined (fault_of taken) (keyword_visits true [] k d) (member_visits true [] (member m e ms)) one all
  faultless_by_order k m d e ms one all rest Equal c =
      let same : k ≡ m = (bytes_eq-Decides k m).0 (sym (is_eq-slice_cmp k m) ∙ ap is_eq c) in
      let parts = parted (fault_of taken) (keyword_visits true [] m e) (member_visits true [] ms) all in
      joined (fault_of taken) (keyword_visits true [] m d) (member_visits true [] ms) (subst (λ n. Faultless taken (keyword_visits true [] n d)) same one) parts.1
  faultless_by_order k m d e ms one all rest Greater c =
      let parts = parted (fault_of taken) (keyword_visits true [] m e) (member_visits true [] ms) all in
      joined (fault_of taken) (keyword_visits true [] m e) (member_visits true [] (put k d ms)) parts.0 rest

  pub faultless_put : (k : List ℕ) (d : Document) (ms : Members) → Faultless taken (keyword_visits true [] k d) → Faultless taken (member_visits true [] ms) → Faultless taken (member_visits true [] (put k d ms))
  faultless_put k d no_members one all = joined (fault_of taken) (keyword_visits true [] k d) [] one refl
  faultless_put k d (member m e ms) one all =
      faultless_by_order k m d e ms one all (faultless_put k d ms one (parted (fault_of taken) (keyword_visits true [] m e) (member_visits true [] ms) all).1) (slice_cmp nat_cmp k m) refl
