-- Rules one after another: each new one is that of one more schema.
use Rattle.std.proofs.Common.{◌≡◌, ℕ, ◌+◌, ◌<◌, ◌≤◌, ◌⊎◌, inl, inr, List, [], ◌∷◌, ◌++◌, Bool, true, false, Option, Some, None, option_map, Result, map, length, refl, sym, ap, ap₂, ◌∙◌, subst, append_assoc, append-nil, length-append, lt_of_lt_of_le, arith}
use Rattle.std.specs.Prelude.{slice_get, option_to_list, IfOk}
use Rattle.std.specs.List.{AllByRecursion as Each}
use Rattle.std.specs.declared.alloc.AllocError.{AllocError}
use Rattle.std.proofs.lemmas.List.{get_or_push, get_or_append_left}
use Rattle.std.proofs.lemmas.Result.{IfOk-weaker}
use Rattle.cs_document.specs.Document.{Document, boolean, Entry}
use Rattle.cs_document.specs.Inside.{map_entry}
use Rattle.cs_document.proofs.Each.{each_map}
use Rattle.cs_rules.proofs.Lists.{got_push, numbers_same}
use Rattle.cs_profile.specs.Loops.{direct_names}
use Rattle.cs_profile.specs.Constraint.{Assertion, valid_by, at_keys, at_other_keys, in_front, behind, valid_by_all, valid_by_any, not_valid_by, Constraint, always, never, conjunction, constraint_of}
use Rattle.cs_validate.specs.Numbering.{map_assertion, map_constraint, said, ClaimBelow, PartsBelow, schema_at}
use Rattle.cs_validate.specs.declared.rules.Rule.{Rule as Coded}
use Rattle.cs_validate.specs.declared.rules.Rule.TheVariants as coded
use Rattle.cs_validate.specs.Props.{parts_weaker}
use Rattle.cs_validate.specs.Steps.{asked_of}
use Rattle.cs_validate.specs.Placing.{waiting, AreNumbered, State, AreNumberedBy, AreAt, placed_by, left_by, Numbers, number_in, IsKnown, Places}

-- names that agree below a number
pub number_same : {X : Type 0} (n : ℕ) (f f' : ℕ → X) → ((d : ℕ) → d < n → f d ≡ f' d) → (o : Option ℕ) → Each (λ d. d < n) (option_to_list o) → option_map f o ≡ option_map f' o
number_same n f f' h None b = refl
number_same n f f' h (Some d) b = ap Some (h d b.0)

-- other names that agree below n and m
module _ {D N : Type 0} (n m : ℕ) (f f' : ℕ → D) (g g' : ℕ → N) (h : (d : ℕ) → d < n → f d ≡ f' d) (k : (p : ℕ) → p < m → g p ≡ g' p) where
  entries_same : (ps : List (Entry ℕ)) → Each (λ (e : Entry ℕ). e.1 < m) ps → map (map_entry g) ps ≡ map (map_entry g') ps
  entries_same [] b = refl
  entries_same (e ∷ es) b = ap₂ ◌∷◌ (ap (λ v. (e.0, v)) (k e.1 b.0)) (entries_same es b.1)

  claim_same : (a : Assertion ℕ ℕ) → ClaimBelow n m a → map_assertion f g a ≡ map_assertion f' g' a
  claim_same (valid_by o) b = ap valid_by (number_same n f f' h o b)
  claim_same (at_keys ps) b = ap at_keys (entries_same ps b)
  claim_same (at_other_keys ks p) b = ap (at_other_keys ks) (k p b)
  claim_same (in_front ps) b = ap in_front (numbers_same m g g' k ps b)
  claim_same (behind j p) b = ap (behind j) (k p b)
  claim_same (valid_by_all rs) b = ap valid_by_all (numbers_same n f f' h rs b)
  claim_same (valid_by_any rs) b = ap valid_by_any (numbers_same n f f' h rs b)
  claim_same (not_valid_by r) b = ap not_valid_by (h r b)
  claim_same _ b = refl

  claims_same : (claims : List (Assertion ℕ ℕ)) → Each (ClaimBelow n m) claims → map (map_assertion f g) claims ≡ map (map_assertion f' g') claims
  claims_same [] b = refl
  claims_same (a ∷ claims) b = ap₂ ◌∷◌ (claim_same a b.0) (claims_same claims b.1)

  pub names_same : (a : Constraint ℕ ℕ) → PartsBelow n m a → map_constraint f g a ≡ map_constraint f' g' a
  names_same always b = refl
  names_same never b = refl
  names_same (conjunction claims) b = ap conjunction (claims_same claims b)

pub at_front : (xs ys : List Document) (d : ℕ) → d < length xs → schema_at xs d ≡ schema_at (xs ++ ys) d
at_front xs ys d l = sym (get_or_append_left xs ys (boolean false) d l)

pub schemas_kept : (xs ys : List Document) (ps : List ℕ) → Each (λ p. p < length xs) ps → map (schema_at (xs ++ ys)) ps ≡ map (schema_at xs) ps
schemas_kept xs ys ps h = sym (numbers_same (length xs) (schema_at xs) (schema_at (xs ++ ys)) (at_front xs ys) ps h)

-- a known definition stays known
pub known_more : (R : Document) (numbers : Numbers) (placed more : List Document) (n : List ℕ) → IsKnown R numbers placed n → IsKnown R numbers (placed ++ more) n
known_more R numbers placed more n h =
    let longer : length placed ≤ length (placed ++ more) = omega (arith, length-append placed more) in (
      sym (number_same (length placed) (schema_at placed) (schema_at (placed ++ more)) (at_front placed more) (number_in numbers n) h.1) ∙ h.0,
      each_map (λ k. k < length placed) (λ k. k < length (placed ++ more)) (λ k l. lt_of_lt_of_le l longer) (option_to_list (number_in numbers n)) h.1,
    )

module _ (R : Document) (placed : List Document) (pending : List Document) (rules : List Coded) (n : AreNumbered R placed pending rules) where
  -- one rule more
  pub push : (s : Document) (rule : Coded) → said (constraint_of R s) ≡ said (map_constraint (schema_at placed) (schema_at pending) (asked_of rule)) → PartsBelow (length placed) (length pending) (asked_of rule)
      → AreNumbered R (placed ++ s ∷ []) pending (rules ++ rule ∷ [])
  push s rule is within = record {
    sizes = length-append rules (rule ∷ []) ∙ ap (λ k. k + 1) n.sizes ∙ sym (length-append placed (s ∷ []));
    asks = λ r x e. asks r x (got_push rules rule x r e);
    parts = λ r x e. parts r x (got_push rules rule x r e);
  }
    where
      asks : (r : ℕ) (x : Coded) → ((r < length rules) × (slice_get rules r ≡ Some x)) ⊎ ((r ≡ length rules) × (rule ≡ x)) → said (constraint_of R (schema_at (placed ++ s ∷ []) r)) ≡ said (map_constraint (schema_at (placed ++ s ∷ [])) (schema_at pending) (asked_of x))
      asks r x (inl l) =
          ap (λ d. said (constraint_of R d)) (sym (at_front placed (s ∷ []) r (subst (λ k. r < k) n.sizes l.0))) ∙ n.asks r x l.1
          ∙ ap said (names_same r (length pending) (schema_at placed) (schema_at (placed ++ s ∷ [])) (schema_at pending) (schema_at pending) (λ d b. at_front placed (s ∷ []) d (let u = l.0 in let v = n.sizes in omega arith)) (λ p b. refl) (asked_of x) (n.parts r x l.1))
      asks r x (inr l) =
          ap (λ d. said (constraint_of R d)) (get_or_push placed s (boolean false) r (sym n.sizes ∙ sym l.0)) ∙ is
          ∙ ap said (names_same (length placed) (length pending) (schema_at placed) (schema_at (placed ++ s ∷ [])) (schema_at pending) (schema_at pending) (λ d b. at_front placed (s ∷ []) d b) (λ p b. refl) (asked_of rule) within)
          ∙ ap (λ y. said (map_constraint (schema_at (placed ++ s ∷ [])) (schema_at pending) (asked_of y))) l.1

      parts : (r : ℕ) (x : Coded) → ((r < length rules) × (slice_get rules r ≡ Some x)) ⊎ ((r ≡ length rules) × (rule ≡ x)) → PartsBelow r (length pending) (asked_of x)
      parts r x (inl l) = n.parts r x l.1
      parts r x (inr l) = subst (λ y. PartsBelow r (length pending) (asked_of y)) l.1 (subst (λ k. PartsBelow k (length pending) (asked_of rule)) (sym n.sizes ∙ sym l.0) within)

  -- more schemas wait
  pub wait : (more : List Document) → AreNumbered R placed (pending ++ more) rules
  wait more =
      let longer : length pending ≤ length (pending ++ more) = omega (arith, length-append pending more) in record {
        sizes = n.sizes;
        asks = λ r x e. n.asks r x e ∙ ap said (names_same r (length pending) (schema_at placed) (schema_at placed) (schema_at pending) (schema_at (pending ++ more)) (λ d b. refl) (λ p b. at_front pending more p b) (asked_of x) (n.parts r x e));
        parts = λ r x e. parts_weaker r (length pending) r (length (pending ++ more)) (omega arith) longer (asked_of x) (n.parts r x e);
      }

-- the rule of a schema that may be pushed now: what it asks of the same document has its rules, and what it asks of
-- documents inside waits
pub record IsReady (R : Document) (placed : List Document) (s : Document) (pending : List Document) (old : List Coded) (asked : Constraint ℕ ℕ) : Type 0 where
  pub more : List Document
  pub rules : placed_by s ≡ more ++ s ∷ []
  pub numbered : AreNumbered R (placed ++ more) pending old
  pub asks : said (constraint_of R s) ≡ said (map_constraint (schema_at (placed ++ more)) (schema_at pending) asked)
  pub parts : PartsBelow (length (placed ++ more)) (length pending) asked

-- what a pushed rule gives
pub ready_placed : (R : Document) (placed : List Document) (s : Document) (pending : List Document) (old new : List Coded) (rule : Coded) (k : ℕ) → k ≡ length old → new ≡ old ++ rule ∷ [] → IsReady R placed s pending old (asked_of rule)
    → AreNumbered R (placed ++ placed_by s) pending new × AreAt (placed ++ placed_by s) (k ∷ []) (s ∷ [])
ready_placed R placed s pending old new rule k is grown r =
    let all : (placed ++ r.more) ++ s ∷ [] ≡ placed ++ placed_by s = append_assoc placed r.more (s ∷ []) ∙ ap (λ ss. placed ++ ss) (sym r.rules) in
    let numbered = push R (placed ++ r.more) pending old r.numbered s rule r.asks r.parts in
    let place : length (placed ++ r.more) ≡ k = sym r.numbered.sizes ∙ sym is in
    let found : schema_at (placed ++ placed_by s) k ≡ s = ap (λ ss. schema_at ss k) (sym all) ∙ get_or_push (placed ++ r.more) s (boolean false) k place in
    let bound : k < length (placed ++ placed_by s) = subst (λ ss. k < length ss) all (omega (arith, length-append (placed ++ r.more) (s ∷ []), place)) in (
      subst (λ ss. AreNumbered R ss pending new) all (subst (λ rs. AreNumbered R ((placed ++ r.more) ++ s ∷ []) pending rs) (sym grown) numbered),
      (ap (λ x. x ∷ []) found, (bound, tt)),
    )

-- what a pushed rule's number is
abbrev pub IsPut : State → State → Coded → ℕ → Type 0
IsPut old new rule k = (k ≡ length old.rules.items) × (new.rules.items ≡ old.rules.items ++ rule ∷ [])

-- what the numbering of a schema ensures, where all but its own rule is ready
pub finish : (result : Result ℕ AllocError) (numbers : Numbers) (first old new : State) (rule : Coded) (s : Document)
    → IfOk result (IsPut old new rule) → new.pending ≡ old.pending → waiting old.pending.items ≡ waiting first.pending.items ++ left_by s
    → ((R : Document) (placed : List Document) → AreNumberedBy R placed first → Each (IsKnown R numbers placed) (direct_names s) → IsReady R placed s (waiting old.pending.items) old.rules.items (asked_of rule))
    → IfOk result (Places numbers first new s)
finish result numbers first old new rule s done same waits ready =
    let kept : waiting old.pending.items ≡ waiting new.pending.items = ap (λ v. waiting v.items) (sym same) in
    IfOk-weaker result (IsPut old new rule) (Places numbers first new s)
    (λ k d. (
      sym kept ∙ waits,
      λ R placed n refs.
          subst (λ ws. AreNumbered R (placed ++ placed_by s) ws new.rules.items × AreAt (placed ++ placed_by s) (k ∷ []) (s ∷ [])) kept
          (ready_placed R placed s (waiting old.pending.items) old.rules.items new.rules.items rule k d.0 d.1 (ready R placed n refs)),
    )) done

-- a truth value
pub truth_placed : (result : Result ℕ AllocError) (numbers : Numbers) (old new : State) (b : Bool) → IfOk result (IsPut old new (coded.Truth b)) → new.pending ≡ old.pending → IfOk result (Places numbers old new (boolean b))
truth_placed result numbers old new b done kept =
    finish result numbers old old new (coded.Truth b) (boolean b) done kept (sym (append-nil (waiting old.pending.items)))
    (λ R placed n refs.
    let same : placed ≡ placed ++ [] = sym (append-nil placed) in record {
      more = [];
      rules = refl;
      numbered = subst (λ ss. AreNumberedBy R ss old) same n;
      asks = asks b R (schema_at (placed ++ [])) (schema_at (waiting old.pending.items));
      parts = parts b (length (placed ++ [])) (length (waiting old.pending.items));
    })
  where
    asks : (b : Bool) (R : Document) (f g : ℕ → Document) → said (constraint_of R (boolean b)) ≡ said (map_constraint f g (asked_of (coded.Truth b)))
    asks true R f g = refl
    asks false R f g = refl

    parts : (b : Bool) (n m : ℕ) → PartsBelow n m (asked_of (coded.Truth b))
    parts true n m = tt
    parts false n m = tt
