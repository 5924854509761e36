-- What is decided of each kind of values holds of what rules ask.
use Rattle.std.proofs.Common.{◌≡◌, ℕ, ◌+◌, ◌<◌, ⊎_elim, Bool, false, List, [], ◌∷◌, ◌++◌, Option, Some, None, IsSome, Vec, Global, length, get_or, take, refl, sym, ap, ap₂, subst, ◌∙◌, arith}
use Rattle.std.proofs.lemmas.List.{length_push, get_or_push}
use Rattle.std.proofs.lemmas.Option.{slice_get_within, option_and_then_some, none-some, slice_get-get_or}
use Rattle.std.proofs.Math.ListN.{get_or-append}
use Rattle.std.proofs.Math.Nat.{ℕ_set}
use Rattle.std.proofs.Math.Bool.{Bool-set}
use native.Mathlib.Bridge.{le_prop}
use borrow.Author.Count.{below_more}
use Rattle.std.specs.Prelude.{slice_get, slice_index, option_and_then, unwrap_or}
use Rattle.cs_document.proofs.Maps.{take_at}
use Rattle.cs_document.specs.Document.{Document}
use Rattle.cs_document.specs.Opened.{Opened, a_null, a_boolean, an_integer, a_text, a_list, an_object}
use Rattle.cs_flat.specs.Nodes.{node_at}
use Rattle.cs_flat.specs.Items.{AreItems}
use Rattle.cs_table.specs.Decided.{IsNoneOf, HasDecided, IsDecided}
use Rattle.cs_table.specs.Judged.{AllVerdicts, Judgement, verdicts}
use Rattle.cs_table.specs.declared.judging.Row.{Row}
use Rattle.cs_rules.specs.Steps.{Step}
use Rattle.cs_rules.specs.Answers.{answer}
use Rattle.cs_rules.specs.Kinds.{verdict_of, row_of, kind_place, decided_by, AreDecided, Foretells, AreForetold}
use Rattle.cs_rules.specs.Rows.{kind_count, verdict_at, AreOpen, AreRows}
use Rattle.cs_rules.specs.declared.by_kind.ByKind.{ByKind}
use Rattle.cs_rules.specs.declared.rows.Rows.{Rows}
use Rattle.cs_rules.proofs.Judged.{answer_is, found_within}
use Rattle.cs_rules.proofs.Lists.{got_push, got_front}

-- ---- the rules that are open, one after another

pub one_decided : (n : ℕ) (verdict : ℕ → Option Bool) (rs : List ℕ) → AreOpen n verdict rs → IsSome (verdict n) → AreOpen (n + 1) verdict rs
one_decided n verdict rs h is = record {
  within = λ k l. let w = h.within k l in omega (arith, w);
  ascends = h.ascends;
  undecided = h.undecided;
  decided = below_more (λ r. IsNoneOf rs r → IsSome (verdict r)) n h.decided (λ none. is);
}

-- what holds of each of the rules and of one more
each_more : (P : ℕ → Type 0) (rs : List ℕ) (n : ℕ) → ((k : ℕ) → k < length rs → P (slice_index rs k)) → P n → (k : ℕ) → k < length (rs ++ n ∷ []) → P (slice_index (rs ++ n ∷ []) k)
each_more P rs n h new k l =
    below_more (λ k. P (slice_index (rs ++ n ∷ []) k)) (length rs)
    (λ k m. subst P (sym (get_or-append rs (n ∷ []) 0 k m)) (h k m))
    (subst P (sym (get_or_push rs n 0 (length rs) refl)) new)
    k (omega (arith, l, length_push rs n))

ascends_more : (n : ℕ) (verdict : ℕ → Option Bool) (rs : List ℕ) → AreOpen n verdict rs → (k : ℕ) → k < length rs + 1 → (j : ℕ) → j < k → slice_index (rs ++ n ∷ []) j < slice_index (rs ++ n ∷ []) k
ascends_more n verdict rs h =
    below_more (λ k. (j : ℕ) → j < k → slice_index (rs ++ n ∷ []) j < slice_index (rs ++ n ∷ []) k) (length rs)
    (λ k l j m. let a = h.ascends j k m l in omega (arith, a, get_or-append rs (n ∷ []) 0 j (omega (arith, l, m)), get_or-append rs (n ∷ []) 0 k l))
    (λ j m. let a = h.within j m in omega (arith, a, get_or-append rs (n ∷ []) 0 j m, get_or_push rs n 0 (length rs) refl))

pub one_open : (n : ℕ) (verdict : ℕ → Option Bool) (rs : List ℕ) → AreOpen n verdict rs → verdict n ≡ None → AreOpen (n + 1) verdict (rs ++ n ∷ [])
one_open n verdict rs h is = record {
  within = each_more (λ r. r < n + 1) rs n (λ k l. let w = h.within k l in omega (arith, w)) (omega arith);
  ascends = λ j k m l. ascends_more n verdict rs h k (omega (arith, l, length_push rs n)) j m;
  undecided = each_more (λ r. verdict r ≡ None) rs n h.undecided is;
  decided = below_more (λ r. IsNoneOf (rs ++ n ∷ []) r → IsSome (verdict r)) n
      (λ r l none. h.decided r l (λ k m e. none k (omega (arith, m, length_push rs n)) (get_or-append rs (n ∷ []) 0 k m ∙ e)))
      (λ none. absurd (none (length rs) (omega (arith, length_push rs n)) (get_or_push rs n 0 (length rs) refl)));
}

-- ---- the verdicts by kind, one after another

decided_front : (ks more : List ByKind) (x : Opened ℕ) (q : ℕ) (b : Bool) → decided_by ks x q ≡ Some b → decided_by (ks ++ more) x q ≡ Some b
decided_front ks more x q b e = go (slice_get ks q) refl e
  where
    go : (o : Option ByKind) → slice_get ks q ≡ o → option_and_then (λ k. verdict_of k x) o ≡ Some b → decided_by (ks ++ more) x q ≡ Some b
    go None is d = let f : None ≡ Some b = d in cc
    go (Some k) is d = ap (option_and_then (λ k. verdict_of k x)) (got_front ks more q k is) ∙ d

-- more verdicts decide more
foretells_by_more : (step : Step) (ks more : List ByKind) (k : ByKind) → Foretells step ks k → Foretells step (ks ++ more) k
foretells_by_more step ks more k h d x is here inside all = h d x is here inside (λ q b e. all q b (decided_front ks more x q b e))

one_foretold : {R : Type 0} (step : R → Step) (rules : List R) (ks : List ByKind) (x : R) (k : ByKind) → AreForetold step rules ks → Foretells (step x) ks k → AreForetold step (rules ++ x ∷ []) (ks ++ k ∷ [])
one_foretold step rules ks x k h new = record {
  count = omega (arith, length_push ks k, length_push rules x, h.count);
  each = λ r y j found there.
      ⊎_elim (λ (a : (r < length rules) × (slice_get rules r ≡ Some y)).
      ⊎_elim (λ (b : (r < length ks) × (slice_get ks r ≡ Some j)). foretells_by_more (step y) ks (k ∷ []) j (h.each r y j a.1 b.1))
      (λ (b : (r ≡ length ks) × (k ≡ j)). absurd (let m = a.0 in let n = b.0 in omega (arith, m, n, h.count))) (got_push ks k j r there))
      (λ (a : (r ≡ length rules) × (x ≡ y)).
      ⊎_elim (λ (b : (r < length ks) × (slice_get ks r ≡ Some j)). absurd (let m = a.0 in let n = b.0 in omega (arith, m, n, h.count)))
      (λ (b : (r ≡ length ks) × (k ≡ j)). foretells_by_more (step y) ks (k ∷ []) j (subst (λ z. Foretells (step z) ks j) a.1 (subst (Foretells (step x) ks) b.1 new))) (got_push ks k j r there))
      (got_push rules x y r found);
}

-- the rule at a place is asked with the verdicts of those before it
pub next_foretold : {R : Type 0} (step : R → Step) (rules : List R) (i : ℕ) (ks earlier new : List ByKind) (x : R) (k : ByKind) → i < length rules → x ≡ get_or rules i x → earlier ≡ ks → new ≡ ks ++ k ∷ []
    → AreForetold step (take i rules) ks → Foretells (step x) earlier k → AreForetold step (take (i + 1) rules) new
next_foretold step rules i ks earlier new x k l is same put h told =
    subst (λ xs. AreForetold step xs new) (sym (take_at rules i x l is))
    (subst (AreForetold step (take i rules ++ x ∷ [])) (sym put) (one_foretold step (take i rules) ks x k h (subst (λ es. Foretells (step x) es k) same told)))

-- ---- the verdicts at a place

in_row : (k : ByKind) (x : Opened ℕ) → get_or (row_of k) (kind_place x) None ≡ verdict_of k x
in_row k a_null = refl
in_row k (a_boolean b) = refl
in_row k (an_integer z) = refl
in_row k (a_text s) = refl
in_row k (a_list ys) = refl
in_row k (an_object ms) = refl

at_kind : (ks : List ByKind) (x : Opened ℕ) (r : ℕ) → verdict_at ks (kind_place x) r ≡ decided_by ks x r
at_kind ks x r = go (slice_get ks r)
  where
    go : (o : Option ByKind) → option_and_then (λ k. get_or (row_of k) (kind_place x) None) o ≡ option_and_then (λ k. verdict_of k x) o
    go None = refl
    go (Some k) = in_row k x

pub verdict_there : (ks : List ByKind) (p r : ℕ) (d : ByKind) (row : List (Option Bool)) → r < length ks → row ≡ row_of (get_or ks r d) → get_or row p None ≡ verdict_at ks p r
verdict_there ks p r d row l is = ap (λ w. get_or w p None) is ∙ sym (ap (option_and_then (λ k. get_or (row_of k) p None)) (slice_get-get_or ks r d l))

pub place_below : (x : Opened ℕ) → kind_place x < kind_count
place_below a_null = omega arith
place_below (a_boolean b) = omega arith
place_below (an_integer z) = omega arith
place_below (a_text s) = omega arith
place_below (a_list ys) = omega arith
place_below (an_object ms) = omega arith

-- ---- the row of a value

pub is_decided-prop : (rules : ℕ) (judge : Judgement) (i : ℕ) (row : Row) → IsProp (IsDecided rules judge i row)
is_decided-prop rules judge i row = hlevel (le_prop, ℕ_set, Bool-set)

-- a verdict that is there is one
some_is : (o : Option Bool) → IsSome o → (b : Bool) × (o ≡ Some b)
some_is None h = cc
some_is (Some b) h = (b, refl)

module _ {R : Type 0} (step : R → Step) (rules : List R) (children : List ℕ) (ns : List Document) (items : List (Opened ℕ)) (are : AreItems ns items)
    (ks : List ByKind) (told : AreForetold step rules ks) (rows : Rows) (have : AreRows ks rows)
    (i : ℕ) (x : Opened ℕ) (item : slice_get items i ≡ Some x) (v : Vec ℕ Global) (there : slice_get rows.left.items (kind_place x) ≡ Some v)
    (row : Row) (table : row.table.now ≡ rows.table) (place : row.item ≡ kind_place x) (left : row.left.now ≡ v.items) where
  abbrev verdict : ℕ → Option Bool
  verdict = verdict_at ks (kind_place x)

  are_open : AreOpen (length ks) verdict row.left.now
  are_open = subst (AreOpen (length ks) verdict) (sym left) (have.left.each (kind_place x) v there)

  in_table : (r : ℕ) → r < length ks → verdicts row.table.now row.item r ≡ unwrap_or (verdict r) false
  in_table r l = ap₂ (λ t p. verdicts t p r) table place ∙ have.judged (kind_place x) r (place_below x) l

  -- a table with the row has what the kind decides
  are_decided : (f : AllVerdicts) → HasDecided (length rules) i row f → AreDecided ks x (f i)
  are_decided f has q b e =
      let known : verdict q ≡ Some b = at_kind ks x q ∙ e in
      let l : q < length ks = option_and_then_some (λ k. verdict_of k x) (slice_get ks q) b e (λ k found is. slice_get_within ks q k found) in
      let none : IsNoneOf row.left.now q = λ k m is. none-some b (sym (are_open.undecided k m) ∙ ap verdict is ∙ known) in
      has q (omega (arith, l, told.count)) none ∙ in_table q l ∙ ap (λ o. unwrap_or o false) known

  decided : (f : AllVerdicts) → HasDecided (length rules) i row f → (r : ℕ) → r < length rules → IsNoneOf row.left.now r
      → answer step rules children ns items i r f ≡ verdicts row.table.now row.item r
  decided f has r l none =
      let m : r < length ks = omega (arith, l, told.count) in
      let rule = found_within rules r l in
      let k = found_within ks r m in
      let b = some_is (verdict r) (are_open.decided r m none) in
      let known : verdict_of k.0 x ≡ Some b.0 = ap (option_and_then (λ k. verdict_of k x)) (sym k.1) ∙ sym (at_kind ks x r) ∙ b.1 in
      answer_is step rules children ns items i r f rule.0 x rule.1 item
      ∙ told.each r rule.0 k.0 rule.1 k.1 (node_at ns i) x (node_at ns, are.node i x item) (f i) (λ y p. f y (slice_index children p)) (are_decided f has) b.0 known
      ∙ sym (in_table r m ∙ ap (λ o. unwrap_or o false) b.1)

  pub is_decided : IsDecided (length rules) (answer step rules children ns items) i row
  is_decided = record {
    width = ap (λ t. t.rules) table ∙ have.rules ∙ told.count;
    item = omega (arith, place, place_below x, ap (λ t. t.items) table, have.items);
    within = λ k l. omega (arith, are_open.within k l, told.count);
    ascends = are_open.ascends;
    undecided = λ k l. in_table (slice_index row.left.now k) (are_open.within k l) ∙ ap (λ o. unwrap_or o false) (are_open.undecided k l);
    judged = decided;
  }
