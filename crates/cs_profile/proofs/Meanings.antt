-- A schema document in which no definition reaches itself directly has one validity: by induction on the
-- document, then on chains of direct references, then on the schema.
use Rattle.std.proofs.Common.{◌≡◌, ℕ, zero, suc, Bool, true, false, List, Option, Some, None, pos, refl, map}
use Rattle.std.specs.Prelude.{option_to_list, option_and_then}
use Rattle.std.specs.Option.{option_map_or}
use Rattle.std.specs.List.{flat_map, AllByRecursion as Each}
use Rattle.cs_document.specs.Document.{Document, null, boolean, integer, text, list, object, Documents, no_documents, document, Members, no_members, member, elements, entries, Entry, under}
use Rattle.cs_document.specs.Opened.{opened}
use Rattle.cs_document.proofs.Each.{each_of, each_append, each_front, each_back}
use Rattle.cs_document.proofs.Children.{children, each_within, by_children}
use Rattle.cs_document.proofs.OneMeaning.{some, only}
use Rattle.cs_profile.specs.Keywords.{keywords, Kind, kinds, reference_start, text_after, elements_of, defined}
use Rattle.cs_profile.specs.declared.keyword.Keyword.{Keyword}
use Rattle.cs_profile.specs.declared.keyword.Keyword.TheVariants as keyword
use Rattle.cs_profile.specs.Constraint.{nothing, has_kind, assertion, assertion_at, constraint_of}
use Rattle.cs_profile.specs.Validity.{is_satisfied, OneMeaning}
use Rattle.cs_profile.specs.Loops.{by_keyword, direct_names, keyword_names, list_names, each_names, NoLoop}
use Rattle.cs_profile.specs.ValueNames.{value_names}
use Rattle.cs_profile.proofs.Locality.{here_of, here_parts, inside_parts, satisfied_same}
use Rattle.cs_profile.proofs.Chains.{Short, most_steps, all_short}

module _ (R : Document) (P : Document → Document → Type 0) (step : (s x : Document) → Each (λ p. P p x) (here_parts (constraint_of R s)) → Each (λ y. (p : Document) → P p y) (children x) → P s x) where
  module _ (x : Document) (kids : Each (λ y. (p : Document) → P p y) (children x)) where
    module _ (Q : List ℕ → Type 0) (by_name : (n : List ℕ) (s : Document) → defined R n ≡ Some s → Q n → P s x) where
      through_name : (o : Option (List ℕ)) → Each Q (option_to_list o) → Each (λ p. P p x) (option_to_list (option_and_then (defined R) o))
      through_name None d = tt
      through_name (Some n) d = go (defined R n) refl
        where
          go : (o : Option Document) → defined R n ≡ o → Each (λ p. P p x) (option_to_list o)
          go None e = tt
          go (Some s) e = (by_name n s e d.0, tt)

      through_keyword : (beside : List (Entry Document)) (k : Option Keyword) (v : Document) → (Each Q (direct_names v) → P v x) → (Each Q (list_names v) → Each (λ p. P p x) (elements_of v))
          → Each Q (by_keyword k (value_names v))
          → Each (λ p. P p x) (here_of (option_map_or (λ k. assertion R beside k v) k nothing))
      through_keyword beside (Some keyword.Ref) (text t) itself listed d = through_name (text_after reference_start t) d
      through_keyword beside (Some keyword.Not) v itself listed d = (itself d, tt)
      through_keyword beside (Some keyword.AllOf) (list ss) itself listed d = listed d
      through_keyword beside (Some keyword.AnyOf) (list ss) itself listed d = listed d
      through_keyword beside (Some keyword.Type) (text t) itself listed d = no_part (under t kinds)
        where
          no_part : (o : Option Kind) → Each (λ p. P p x) (here_of {I = Document} (option_map_or has_kind o nothing))
          no_part None = tt
          no_part (Some k) = tt
      through_keyword beside _ (integer (pos n)) itself listed d = tt
      through_keyword beside _ _ itself listed d = tt

      mutual
        through : (s : Document) → Each Q (direct_names s) → P s x
        through (object ks) d = step (object ks) x (through_members (entries ks) ks d) kids
        through null d = step null x tt kids
        through (boolean true) d = step (boolean true) x tt kids
        through (boolean false) d = step (boolean false) x tt kids
        through (integer n) d = step (integer n) x tt kids
        through (text t) d = step (text t) x tt kids
        through (list ds) d = step (list ds) x tt kids

        through_list : (s : Document) → Each Q (list_names s) → Each (λ p. P p x) (elements_of s)
        through_list (list ss) d = through_each ss d
        through_list null d = tt
        through_list (boolean b) d = tt
        through_list (integer n) d = tt
        through_list (text t) d = tt
        through_list (object ks) d = tt

        through_each : (ss : Documents) → Each Q (each_names ss) → Each (λ p. P p x) (elements ss)
        through_each no_documents d = tt
        through_each (document s ss) d = (through s (each_front Q (direct_names s) (each_names ss) d), through_each ss (each_back Q (direct_names s) (each_names ss) d))

        through_members : (beside : List (Entry Document)) (ks : Members) → Each Q (keyword_names ks) → Each (λ p. P p x) (flat_map here_of (map (assertion_at R beside) (entries ks)))
        through_members beside no_members d = tt
        through_members beside (member k v ks) d =
            each_append (λ p. P p x) (here_of (assertion_at R beside (k, v))) (flat_map here_of (map (assertion_at R beside) (entries ks)))
            (through_keyword beside (under k keywords) v (λ e. through v e) (λ e. through_list v e) (each_front Q (by_keyword (under k keywords) (value_names v)) (keyword_names ks) d))
            (through_members beside ks (each_back Q (by_keyword (under k keywords) (value_names v)) (keyword_names ks) d))

    module _ (k : ℕ) (short : (n : List ℕ) → Short R k n) where
      by_short : (k : ℕ) (n : List ℕ) (s : Document) → defined R n ≡ Some s → Short R k n → P s x
      by_short zero n s e h = absurd h
      by_short (suc k) n s e h = through (Short R k) (by_short k) s (h s e)

      any : (s : Document) → P s x
      any s = through (λ n. Unit {0}) (λ n t f q. by_short k n t f (short n)) s (each_of _ (λ n. tt) (direct_names s))

module _ (R : Document) where
  abbrev ask : (Document → Document → Bool) → Document → Document → Bool
  ask V s x = is_satisfied (λ p. V p x) (λ y p. V p y) (constraint_of R s) x (opened x)

  ask_local : (f g : Document → Document → Bool) (s x : Document) → Each (λ p. f p x ≡ g p x) (here_parts (constraint_of R s)) → Each (λ y. Each (λ p. f p y ≡ g p y) (inside_parts (constraint_of R s))) (children x) → ask f s x ≡ ask g s x
  ask_local f g s x h c = satisfied_same (λ p. f p x) (λ p. g p x) (λ y p. f p y) (λ y p. g p y) (constraint_of R s) x (opened x) h (each_within _ x c)

  pub one_meaning : NoLoop R → OneMeaning R
  one_meaning h = record {
    some = some Document ask (λ s. here_parts (constraint_of R s)) (λ s. inside_parts (constraint_of R s)) ask_local induct;
    only = only Document ask (λ s. here_parts (constraint_of R s)) (λ s. inside_parts (constraint_of R s)) ask_local induct;
  }
    where
      induct : (P : Document → Document → Type 0) → ((s x : Document) → Each (λ p. P p x) (here_parts (constraint_of R s)) → Each (λ y. (p : Document) → P p y) (children x) → P s x) → (s x : Document) → P s x
      induct P step s x = by_children (λ y. (p : Document) → P p y) (λ y kids. any R P step y kids (most_steps R) (all_short R h)) x s
