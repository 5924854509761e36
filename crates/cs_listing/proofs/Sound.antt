-- What is decided by kind holds of the instance relation.
use Rattle.std.proofs.Common.{◌≡◌, ℕ, zero, suc, ◌<◌, Bool, true, List, [], ◌∷◌, Option, Some, None, length, map, option_map, take, refl, sym, ap, ◌∙◌, arith}
use Rattle.std.proofs.lemmas.Option.{slice_get-map, slice_get_within, option_and_then_some}
use Rattle.std.specs.Prelude.{slice_get, slice_index, option_and_then, unwrap_or}
use Rattle.cs_document.specs.Document.{Document}
use Rattle.cs_document.specs.Opened.{Opened, a_null, a_boolean, an_integer, a_text, a_list, an_object, opened}
use Rattle.cs_document.specs.Inside.{map_opened}
use Rattle.cs_package.specs.Environment.{Environment, name_at}
use Rattle.cs_rules.specs.Kinds.{verdict_of, decided_by, AreDecided, Decides}
use Rattle.cs_rules.specs.declared.by_kind.ByKind.{ByKind}
use Rattle.cs_rules.proofs.Judged.{found_within}
use Rattle.cs_instance.specs.Constraint.{is_satisfied}
use Rattle.cs_instance.specs.Instance.{Rule, node, definition, constraint_of, IsInstance}
use Rattle.cs_instance.specs.Numbering.{rule_at}
use Rattle.cs_instance.specs.Rooted.{IsNumberedWhole}
use Rattle.cs_instance.specs.Steps.{asked_of, numbered}
use Rattle.cs_instance.specs.declared.rules.Rule.{Rule as Coded}
use Rattle.cs_instance.proofs.Ready.{at_of_some}
use Rattle.cs_instance.proofs.Satisfied.{named, at_documents}
use Rattle.cs_listing.specs.ByKind.{AreByKind, AreLeftOpen}
use Rattle.cs_listing.specs.Kinds.{has_kind, HasKindsAt}
use Rattle.cs_listing.proofs.Items.{item_of}

-- what is among the first n
in_front : {X : Type 0} (xs : List X) (n q : ℕ) (x : X) → slice_get (take n xs) q ≡ Some x → (q < n) × (slice_get xs q ≡ Some x)
in_front xs zero q x e = absurd (cc)
in_front [] (suc n) q x e = absurd (cc)
in_front (y ∷ ys) (suc n) zero x e = (omega arith, e)
in_front (y ∷ ys) (suc n) (suc q) x e = let h = in_front ys n q x e in (omega (arith, h.0), h.1)

-- a verdict among the first n is one of a rule among them
decided_in_front : (ks : List ByKind) (x : Opened ℕ) (n q : ℕ) (b : Bool) → decided_by (take n ks) x q ≡ Some b → (q < n) × (decided_by ks x q ≡ Some b)
decided_in_front ks x n q b e =
    option_and_then_some (λ k. verdict_of k x) (slice_get (take n ks) q) b e
    (λ k found is. let h = in_front ks n q k found in (h.0, ap (option_and_then (λ j. verdict_of j x)) h.1 ∙ is))

same_kind : (k : ByKind) (f : ℕ → Document) (x : Opened ℕ) → has_kind k (map_opened f x) ≡ has_kind k x
same_kind k f a_null = refl
same_kind k f (a_boolean b) = refl
same_kind k f (an_integer z) = refl
same_kind k f (a_text s) = refl
same_kind k f (a_list ys) = refl
same_kind k f (an_object ms) = refl

-- a definition that has a name is there
name_within : (E : Environment) (i : ℕ) (n : List ℕ) → name_at E i ≡ Some n → i < length E
name_within [] i n e = absurd (cc)
name_within (d ∷ E) zero n e = omega arith
name_within (d ∷ E) (suc i) n e = let h = name_within E i n e in omega (arith, h)

-- what is decided to be no isn't so
left_open : (o : Option Bool) (v : Bool) → Decides o v → v ≡ true → unwrap_or o true ≡ true
left_open None v h e = refl
left_open (Some b) v h e = sym (h b refl) ∙ e

module _ (E : Environment) (rules : List Coded) (inner numbers : List ℕ) (whole : IsNumberedWhole E rules inner numbers) (ks : List ByKind) (told : AreByKind rules ks)
    (I : Rule → Document → Bool) (instance : IsInstance E I) (d : Document) (x : Opened ℕ) (f : ℕ → Document) (is : opened d ≡ map_opened f x) where
  abbrev at : ℕ → Rule
  at = rule_at whole.all

  abbrev here : ℕ → Bool
  here q = I (at q) d

  abbrev inside : ℕ → ℕ → Bool
  inside y p = I (at (slice_index inner p)) (f y)

  -- a rule asks what it has to, by the numbers of its parts
  step_is : (r : ℕ) (c : Coded) → slice_get rules r ≡ Some c → here r ≡ is_satisfied here inside (asked_of c) x
  step_is r c got =
      let there : slice_get (map (numbered inner) rules) r ≡ Some (numbered inner c) = slice_get-map (numbered inner) rules r ∙ ap (λ o. option_map (numbered inner) o) got in
      instance (at r) d
      ∙ sym (named (λ s. s) node (λ s. I s d) (λ y s. I s y) (constraint_of E (at r)) (opened d))
      ∙ ap (λ a. is_satisfied (λ s. I s d) (λ y s. I s y) a (opened d)) (whole.numbering.asks r (numbered inner c) there)
      ∙ named at at (λ s. I s d) (λ y s. I s y) (numbered inner c) (opened d)
      ∙ named (λ q. q) (slice_index inner) here (λ y q. I (at q) y) (asked_of c) (opened d)
      ∙ ap (is_satisfied here (λ y p. I (at (slice_index inner p)) y) (asked_of c)) is
      ∙ at_documents f here (λ y p. I (at (slice_index inner p)) y) (asked_of c) x

  decided_below : (n r : ℕ) → r < n → Decides (decided_by ks x r) (here r)
  decided_below zero r l b e = absurd (omega arith)
  decided_below (suc n) r l b e =
      let within : r < length ks = option_and_then_some (λ k. verdict_of k x) (slice_get ks r) b e (λ k found is. slice_get_within ks r k found) in
      let k = found_within ks r within in
      let c = found_within rules r (omega (arith, within, told.count)) in
      let earlier : AreDecided (take r ks) x here = λ q v w. let g = decided_in_front ks x r q v w in decided_below n q (omega (arith, g.0, l)) v g.1 in
      step_is r c.0 c.1 ∙ told.each r c.0 k.0 c.1 k.1 d x (f, is) here inside earlier b (ap (option_and_then (λ k. verdict_of k x)) (sym k.1) ∙ e)

pub kinds_hold : (E : Environment) (rules : List Coded) (inner numbers : List ℕ) → IsNumberedWhole E rules inner numbers → (ks : List ByKind) → AreByKind rules ks
    → (kinds : List ByKind) → AreLeftOpen ks numbers kinds → (i : ℕ) (k : ByKind) → slice_get kinds i ≡ Some k → HasKindsAt E i k
kinds_hold E rules inner numbers whole ks told kinds left i k there n name I instance d holds =
    let v = item_of d in
    let r = slice_index numbers i in
    let below : i < length E = name_within E i n name in
    let root : rule_at whole.all r ≡ definition n = at_of_some whole.all r _ (whole.each i below) ∙ ap (λ o. definition (unwrap_or o [])) name in
    let decided = decided_below E rules inner numbers whole ks told I instance d v.item v.at v.is (suc r) r (omega arith) in
    ap (has_kind k) v.is ∙ same_kind k v.at v.item ∙ left.each i k there v.item ∙ left_open _ _ decided (ap (λ s. I s d) root ∙ holds)
