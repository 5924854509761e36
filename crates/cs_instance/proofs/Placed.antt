-- Rules one after another: each new one is that of one more rule.
use Rattle.std.proofs.Common.{◌≡◌, ℕ, ◌+◌, ◌<◌, ◌≤◌, ◌⊎◌, inl, inr, List, [], ◌∷◌, ◌++◌, Some, Result, map, length, slice_index, Bor, Vec, Global, refl, sym, ap, ap₂, ◌∙◌, subst, append_assoc, append-nil, length-append, arith}
use Rattle.std.specs.Prelude.{slice_get, IfOk}
use Rattle.std.specs.List.{AllByRecursion as Each}
use Rattle.std.specs.declared.alloc.AllocError.{AllocError}
use Rattle.std.proofs.lemmas.List.{get_or_push, get_or_append_left}
use Rattle.std.proofs.lemmas.Result.{IfOk-weaker}
use Rattle.cs_package.specs.Expression as cue
use Rattle.cs_package.specs.Expression.{Expression, Declaration, operands, declarations}
use Rattle.cs_package.specs.Environment.{Environment}
use Rattle.cs_package.specs.View.{expression_of, expressions_of, declarations_of}
use Rattle.cs_package.specs.declared.shape.Shape.{Shape}
use Rattle.cs_guard.specs.References.{direct}
use Rattle.cs_instance.specs.Constraint.{Rest, nothing, anything, each, Constraint, simple, all_of, any_of, object_of, list_of}
use Rattle.cs_instance.specs.Instance.{Rule, definition, node, constraint_of}
use Rattle.cs_instance.specs.Numbering.{map_declaration, map_rest, map_constraint, PartsBelow, RestBelow, rule_at}
use Rattle.cs_instance.specs.declared.rules.Rule.{Rule as Coded}
use Rattle.cs_instance.specs.declared.rules.Rule.TheVariants as coded
use Rattle.cs_instance.specs.Props.{parts_weaker}
use Rattle.cs_instance.specs.Steps.{test_of, asked_of}
use Rattle.cs_rules.specs.declared.numberer.Numberer.{Numberer}
use Rattle.cs_instance.specs.Placing.{named, waiting, expression_at, AreNumbered, AreNumberedBy, AreAt, placed_by, left_by, IsKnown, Places}
use Rattle.cs_rules.proofs.Lists.{got_push, got_front, numbers_same}
use Rattle.cs_instance.proofs.Views.{IsSimple}

-- other names that agree below n and m
module _ {D N : Type 0} (n m : ℕ) (f f' : ℕ → D) (g g' : ℕ → N) (h : (d : ℕ) → d < n → f d ≡ f' d) (k : (p : ℕ) → p < m → g p ≡ g' p) where
  declarations_same : (ds : List (Declaration ℕ)) → Each (λ (d : Declaration ℕ). d.value < m) ds → map (map_declaration g) ds ≡ map (map_declaration g') ds
  declarations_same [] b = refl
  declarations_same (d ∷ ds) b = ap₂ ◌∷◌ (ap (λ v. record { label = d.label; mark = d.mark; value = v }) (k d.value b.0)) (declarations_same ds b.1)

  rest_same : (r : Rest ℕ) → RestBelow m r → map_rest g r ≡ map_rest g' r
  rest_same nothing b = refl
  rest_same anything b = refl
  rest_same (each p) b = ap each (k p b)

  pub names_same : (a : Constraint ℕ ℕ) → PartsBelow n m a → map_constraint f g a ≡ map_constraint f' g' a
  names_same (simple p) b = refl
  names_same (all_of ds) b = ap all_of (numbers_same n f f' h ds b)
  names_same (any_of ds) b = ap any_of (numbers_same n f f' h ds b)
  names_same (object_of ds o) b = ap (λ fs. object_of fs o) (declarations_same ds b)
  names_same (list_of es rest) b = ap₂ list_of (numbers_same m g g' k es b.0) (rest_same rest b.1)

pub at_front : (xs ys : List Rule) (d : ℕ) → d < length xs → rule_at xs d ≡ rule_at (xs ++ ys) d
at_front xs ys d l = sym (get_or_append_left xs ys (node (cue.atom cue.top)) d l)

pub expression_front : (xs ys : List Expression) (d : ℕ) → d < length xs → expression_at xs d ≡ expression_at (xs ++ ys) d
expression_front xs ys d l = sym (get_or_append_left xs ys (cue.atom cue.top) d l)

module _ (E : Environment) (placed : List Rule) (inner : List Expression) (rules : List Coded) (n : AreNumbered E placed inner rules) where
  -- one rule more
  pub push : (s : Rule) (rule : Coded) → constraint_of E s ≡ map_constraint (rule_at placed) (expression_at inner) (asked_of rule) → PartsBelow (length placed) (length inner) (asked_of rule) → AreNumbered E (placed ++ s ∷ []) inner (rules ++ rule ∷ [])
  push s rule is below = record {
    sizes = length-append rules (rule ∷ []) ∙ ap (λ k. k + 1) n.sizes ∙ sym (length-append placed (s ∷ []));
    asks = λ r x e. asks r x (got_push rules rule x r e);
    parts = λ r x e. parts r x (got_push rules rule x r e);
  }
    where
      asks : (r : ℕ) (x : Coded) → ((r < length rules) × (slice_get rules r ≡ Some x)) ⊎ ((r ≡ length rules) × (rule ≡ x)) → constraint_of E (rule_at (placed ++ s ∷ []) r) ≡ map_constraint (rule_at (placed ++ s ∷ [])) (expression_at inner) (asked_of x)
      asks r x (inl l) =
          ap (constraint_of E) (sym (at_front placed (s ∷ []) r (subst (λ k. r < k) n.sizes l.0))) ∙ n.asks r x l.1
          ∙ names_same r (length inner) (rule_at placed) (rule_at (placed ++ s ∷ [])) (expression_at inner) (expression_at inner) (λ d b. at_front placed (s ∷ []) d (let u = l.0 in let v = n.sizes in omega arith)) (λ p b. refl) (asked_of x) (n.parts r x l.1)
      asks r x (inr l) =
          ap (constraint_of E) (get_or_push placed s (node (cue.atom cue.top)) r (sym n.sizes ∙ sym l.0)) ∙ is
          ∙ names_same (length placed) (length inner) (rule_at placed) (rule_at (placed ++ s ∷ [])) (expression_at inner) (expression_at inner) (λ d b. at_front placed (s ∷ []) d b) (λ p b. refl) (asked_of rule) below
          ∙ ap (λ y. map_constraint (rule_at (placed ++ s ∷ [])) (expression_at inner) (asked_of y)) l.1

      parts : (r : ℕ) (x : Coded) → ((r < length rules) × (slice_get rules r ≡ Some x)) ⊎ ((r ≡ length rules) × (rule ≡ x)) → PartsBelow r (length inner) (asked_of x)
      parts r x (inl l) = n.parts r x l.1
      parts r x (inr l) = subst (λ y. PartsBelow r (length inner) (asked_of y)) l.1 (subst (λ k. PartsBelow k (length inner) (asked_of rule)) (sym n.sizes ∙ sym l.0) below)

  -- more expressions wait
  pub wait : (more : List Expression) → AreNumbered E placed (inner ++ more) rules
  wait more =
      let longer : length inner ≤ length (inner ++ more) = omega (arith, length-append inner more) in record {
        sizes = n.sizes;
        asks = λ r x e. n.asks r x e ∙ names_same r (length inner) (rule_at placed) (rule_at placed) (expression_at inner) (expression_at (inner ++ more)) (λ d b. refl) (λ p b. expression_front inner more p b) (asked_of x) (n.parts r x e);
        parts = λ r x e. parts_weaker r (length inner) r (length (inner ++ more)) (omega arith) longer (asked_of x) (n.parts r x e);
      }

-- the rule of an expression that may be pushed now: what it asks of the same document has its rules, and what it asks of
-- documents inside waits
pub record IsReady (E : Environment) (placed : List Rule) (e : Expression) (pending : List Expression) (old : List Coded) (asked : Constraint ℕ ℕ) : Type 0 where
  pub more : List Rule
  pub rules : placed_by e ≡ more ++ node e ∷ []
  pub numbered : AreNumbered E (placed ++ more) pending old
  pub asks : constraint_of E (node e) ≡ map_constraint (rule_at (placed ++ more)) (expression_at pending) asked
  pub parts : PartsBelow (length (placed ++ more)) (length pending) asked

-- what a pushed rule gives
pub ready_placed : (E : Environment) (placed : List Rule) (e : Expression) (pending : List Expression) (old new : List Coded) (rule : Coded) (k : ℕ) → k ≡ length old → new ≡ old ++ rule ∷ [] → IsReady E placed e pending old (asked_of rule)
    → AreNumbered E (placed ++ placed_by e) pending new × AreAt (placed ++ placed_by e) (k ∷ []) (e ∷ [])
ready_placed E placed e pending old new rule k is grown r =
    let all : (placed ++ r.more) ++ node e ∷ [] ≡ placed ++ placed_by e = append_assoc placed r.more (node e ∷ []) ∙ ap (λ ss. placed ++ ss) (sym r.rules) in
    let numbered = push E (placed ++ r.more) pending old r.numbered (node e) rule r.asks r.parts in
    let place : length (placed ++ r.more) ≡ k = sym r.numbered.sizes ∙ sym is in
    let found : rule_at (placed ++ placed_by e) k ≡ node e = ap (λ ss. rule_at ss k) (sym all) ∙ get_or_push (placed ++ r.more) (node e) (node (cue.atom cue.top)) k place in
    let bound : k < length (placed ++ placed_by e) = subst (λ ss. k < length ss) all (omega (arith, length-append (placed ++ r.more) (node e ∷ []), place)) in (
      subst (λ ss. AreNumbered E ss pending new) all (subst (λ rs. AreNumbered E ((placed ++ r.more) ++ node e ∷ []) pending rs) (sym grown) numbered),
      (ap (λ s. s ∷ []) found, (bound, tt)),
    )

-- a rule is pushed
abbrev pub Pushed : Result ℕ AllocError → Numberer Shape Coded → Numberer Shape Coded → Coded → Type 0
Pushed result old new rule = IfOk result (λ k. (k ≡ length old.rules.items) × (new.rules.items ≡ old.rules.items ++ rule ∷ []))

-- what the numbering of an expression ensures, where all but its own rule is ready
pub finish : (result : Result ℕ AllocError) (numbers : List ℕ) (first old new : Numberer Shape Coded) (rule : Coded) (e : List (List ℕ) → Expression) → Pushed result old new rule → new.pending ≡ old.pending
    → ((names : List (List ℕ)) → waiting names old ≡ waiting names first ++ left_by (e names))
    → ((names : List (List ℕ)) (E : Environment) (placed : List Rule) → AreNumberedBy E names placed first → Each (IsKnown names numbers placed) (direct (e names)) → IsReady E placed (e names) (waiting names old) old.rules.items (asked_of rule))
    → IfOk result (Places numbers first new e)
finish result numbers first old new rule e done kept waits ready =
    IfOk-weaker result (λ k. (k ≡ length old.rules.items) × (new.rules.items ≡ old.rules.items ++ rule ∷ [])) (Places numbers first new e)
    (λ k d names.
    let same : waiting names old ≡ waiting names new = ap (λ (v : Vec (Bor Shape) Global). map (λ b. expression_of names b.now) v.items) (sym kept) in (
      sym same ∙ waits names,
      λ E placed n refs.
          let s = placed ++ placed_by (e names) in
          subst (λ es. AreNumbered E s es new.rules.items × AreAt s (k ∷ []) (e names ∷ [])) same
          (ready_placed E placed (e names) (waiting names old) old.rules.items new.rules.items rule k d.0 d.1 (ready names E placed n refs)),
    )) done

-- an expression that asks nothing of the same document, where more waits
pub alone : (E : Environment) (placed : List Rule) (e : Expression) (before more : List Expression) (after : List Expression) (old : List Coded) (asked : Constraint ℕ ℕ) → AreNumbered E placed before old → after ≡ before ++ more → placed_by e ≡ node e ∷ []
    → constraint_of E (node e) ≡ map_constraint (rule_at placed) (expression_at after) asked → PartsBelow (length placed) (length after) asked → IsReady E placed e after old asked
alone E placed e before more after old asked n w s asks parts =
    let same : placed ≡ placed ++ [] = sym (append-nil placed) in record {
      more = [];
      rules = s;
      numbered = subst (λ ss. AreNumbered E ss after old) same (subst (λ xs. AreNumbered E placed xs old) (sym w) (wait E placed before old n more));
      asks = subst (λ ss. constraint_of E (node e) ≡ map_constraint (rule_at ss) (expression_at after) asked) same asks;
      parts = subst (λ ss. PartsBelow (length ss) (length after) asked) same parts;
    }

-- an expression without parts
pub simply_placed : (result : Result ℕ AllocError) (numbers : List ℕ) (old new : Numberer Shape Coded) (s : Bor Shape) → Pushed result old new (coded.Simple s) → new.pending ≡ old.pending
    → ((names : List (List ℕ)) → IsSimple (test_of (expression_of [] s.now)) (expression_of names s.now)) → IfOk result (Places numbers old new (named s.now))
simply_placed result numbers old new s done kept is =
    let waits = λ (names : List (List ℕ)). sym (append-nil (waiting names old)) ∙ ap (λ xs. waiting names old ++ xs) (sym (is names).1) in
    finish result numbers old old new (coded.Simple s) (named s.now) done kept waits
    (λ names E placed n refs. let e = named s.now names in alone E placed e (waiting names old) (left_by e) (waiting names old) old.rules.items (asked_of (coded.Simple s)) n (waits names) (is names).0 ((is names).2 E) tt)

-- the same, of an equal expression
pub same_places : (result : Result ℕ AllocError) (numbers : List ℕ) (old new : Numberer Shape Coded) (e e' : List (List ℕ) → Expression) → ((names : List (List ℕ)) → e names ≡ e' names) → IfOk result (Places numbers old new e') → IfOk result (Places numbers old new e)
same_places result numbers old new e e' same = subst (λ f. IfOk result (Places numbers old new f)) (λ i names. sym (same names) i)

-- a known definition stays known
pub known_more : (names : List (List ℕ)) (numbers : List ℕ) (placed more : List Rule) (n : List ℕ) → IsKnown names numbers placed n → IsKnown names numbers (placed ++ more) n
known_more names numbers placed more n h i e = let k = h i e in (k.0, got_front placed more (slice_index numbers i) (definition n) k.1)

pub operands_of : (es : List Expression) → operands (expressions_of es) ≡ es
operands_of [] = refl
operands_of (e ∷ es) = ap (λ r. e ∷ r) (operands_of es)

pub declarations_back : (ds : List (Declaration Expression)) → declarations (declarations_of ds) ≡ ds
declarations_back [] = refl
declarations_back (d ∷ ds) = ap (λ r. d ∷ r) (declarations_back ds)

pub rules_kept : (a b : List Rule) (ps : List ℕ) → Each (λ p. p < length a) ps → map (rule_at (a ++ b)) ps ≡ map (rule_at a) ps
rules_kept a b ps h = sym (numbers_same (length a) (rule_at a) (rule_at (a ++ b)) (at_front a b) ps h)

pub expressions_kept : (a b : List Expression) (ps : List ℕ) → Each (λ p. p < length a) ps → map (expression_at (a ++ b)) ps ≡ map (expression_at a) ps
expressions_kept a b ps h = sym (numbers_same (length a) (expression_at a) (expression_at (a ++ b)) (expression_front a b) ps h)
