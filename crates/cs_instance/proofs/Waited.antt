-- What waited gets its numbers.
use Rattle.std.proofs.Common.{◌≡◌, ℕ, suc, ◌<◌, List, [], ◌∷◌, ◌++◌, map, length, take, drop, Bor, refl, sym, ap, ap₂, subst, append_assoc, append-nil, length-append, arith}
use Rattle.std.specs.List.{flat_map, AllByRecursion as Each}
use Rattle.std.proofs.lemmas.List.{length-map}
use Rattle.std.proofs.lemmas.List.Sorted.{length_permutation}
use Rattle.cs_document.proofs.Each.{each_map, each_member, each_append, each_front, each_back, each_drop}
use Rattle.cs_rules.proofs.Waiting.{IsNext, moved, less_inside}
use Rattle.cs_package.specs.Expression as cue
use Rattle.cs_package.specs.Expression.{Expression, Expressions, Declarations, operands, declarations}
use Rattle.cs_package.specs.Environment.{Environment}
use Rattle.cs_package.specs.View.{expression_of}
use Rattle.cs_package.specs.declared.shape.Shape.{Shape}
use Rattle.cs_guard.specs.References.{direct}
use Rattle.cs_guard.specs.Reachable.{referred, referred_all, referred_fields, referred_rest}
use Rattle.cs_guard.proofs.Numbers.{contains_on}
use Rattle.cs_rules.specs.declared.numberer.Numberer.{Numberer}
use Rattle.cs_instance.specs.Instance.{Rule, node}
use Rattle.cs_instance.specs.Rules.{subexpressions}
use Rattle.cs_instance.specs.declared.rules.Rule.{Rule as Coded}
use Rattle.cs_instance.specs.Placing.{named, waiting, AreNumberedBy, AreAt, IsKnown, AreKnownIn, Places, PlacesWaiting, placed_by, placed_by_all, left_by, left_by_all, values_of, each_of, rules_in}
use Rattle.cs_instance.proofs.Placed.{known_more}
use Rattle.cs_instance.proofs.Pushed.{at_push}
use Rattle.cs_rules.proofs.Permutations.{equal, joined}
use Rattle.cs_instance.proofs.Counted.{whole, whole_step}
use Rattle.cs_instance.proofs.Ordered.{direct-referred, each_found}

-- ---- what an expression leaves to wait refers to nothing else

module _ (Q : List ℕ → Type 0) where
  abbrev pub Referred : Expression → Type 0
  Referred e = Each Q (referred e)

  fields_known : (ds : Declarations) → Each Q (referred_fields ds) → Each Referred (values_of (declarations ds))
  fields_known cue.no_declarations h = tt
  fields_known (cue.declaration l m e ds) h = (each_front Q (referred e) (referred_fields ds) h, fields_known ds (each_back Q (referred e) (referred_fields ds) h))

  operands_known : (es : Expressions) → Each Q (referred_all es) → Each Referred (operands es)
  operands_known cue.no_expressions h = tt
  operands_known (cue.expression e es) h = (each_front Q (referred e) (referred_all es) h, operands_known es (each_back Q (referred e) (referred_all es) h))

  rest_known : (r : cue.Rest) → Each Q (referred_rest r) → Each Referred (each_of r)
  rest_known cue.closed h = tt
  rest_known cue.any h = tt
  rest_known (cue.each e) h = (h, tt)

  mutual
    pub left_known : (e : Expression) → Each Q (referred e) → Each Referred (left_by e)
    left_known (cue.atom a) h = tt
    left_known (cue.kind k) h = tt
    left_known (cue.range l g) h = tt
    left_known (cue.reference n) h = tt
    left_known (cue.conjunction es) h = left_known_all es h
    left_known (cue.disjunction es) h = left_known_all es h
    left_known (cue.struct ds o) h = fields_known ds h
    left_known (cue.list es r) h = each_append Referred (operands es) (each_of r) (operands_known es (each_front Q (referred_all es) (referred_rest r) h)) (rest_known r (each_back Q (referred_all es) (referred_rest r) h))

    pub left_known_all : (es : Expressions) → Each Q (referred_all es) → Each Referred (left_by_all es)
    left_known_all cue.no_expressions h = tt
    left_known_all (cue.expression e es) h = each_append Referred (left_by e) (left_by_all es) (left_known e (each_front Q (referred e) (referred_all es) h)) (left_known_all es (each_back Q (referred e) (referred_all es) h))

  direct_known : (e : Expression) → Each Q (referred e) → Each Q (direct e)
  direct_known e h = each_member Q (direct e) (λ m c. each_found Q (referred e) m h (contains_on m (referred e) (direct-referred e m c)))

-- ---- one more

pub nothing_placed : (E : Environment) (names : List (List ℕ)) (numbers : List ℕ) (placed : List Rule) (n : Numberer Shape Coded) → AreNumberedBy E names placed n → AreKnownIn names numbers placed (waiting names n) → PlacesWaiting E names numbers placed n n []
nothing_placed E names numbers placed n a h = record {
  more = [];
  numbered = subst (λ ss. AreNumberedBy E names ss n) (sym (append-nil placed)) a;
  inside = (refl, tt);
  same = equal _ _ (ap (λ ss. ss ++ rules_in (waiting names n)) (sym (append-nil placed)));
  known = h;
}

pub one_waited : (E : Environment) (names : List (List ℕ)) (numbers : List ℕ) (placed : List Rule) (first old new : Numberer Shape Coded) (inner inner' : List ℕ) (b : Bor Shape) (number : ℕ) → IsNext old.pending.items inner inner' b number
    → Places numbers old new (named b.now) number → PlacesWaiting E names numbers placed first old inner → PlacesWaiting E names numbers placed first new inner'
one_waited E names numbers placed first old new inner inner' b number next place p =
    let W = waiting names old in
    let k = length inner in
    let e = expression_of names b.now in
    let L = left_by e in
    let s = placed ++ p.more in
    let t = placed_by e in
    let Q = IsKnown names numbers placed in
    let W' = waiting names new in
    let grown : W' ≡ W ++ L = (place names).0 in
    let m = moved (λ (x : Bor Shape). expression_of names x.now) old.pending.items inner inner' b number next W' L grown in
    let here : Each Q (referred e) = (subst (Each (Referred Q)) m.at (each_drop (Referred Q) k W p.known)).0 in
    let one = (place names).1 E s p.numbered (each_map Q (IsKnown names numbers s) (known_more names numbers placed p.more) (direct e) (direct_known Q e here)) in
    let whole : s ++ t ≡ placed ++ (p.more ++ t) = append_assoc placed p.more t in
    let both : AreAt (s ++ t) inner' (take k W ++ e ∷ []) = subst (λ ks. AreAt (s ++ t) ks (take k W ++ e ∷ [])) (sym next.put) (at_push s t inner number (take k W) e p.inside one.1) in
    record {
      more = p.more ++ t;
      numbered = subst (λ ss. AreNumberedBy E names ss new) whole one.0;
      inside = subst (λ es. AreAt (placed ++ (p.more ++ t)) inner' es) (sym m.taken) (subst (λ ss. AreAt ss inner' (take k W ++ e ∷ [])) whole both);
      same = joined p.same (joined (equal _ _ (ap (λ es. s ++ rules_in es) m.at)) (joined (whole_step s e (drop (suc k) W)) (equal _ _ (ap₂ (λ ss es. ss ++ rules_in es) whole (sym m.left)))));
      known = subst (Each (Referred Q)) (sym grown) (each_append (Referred Q) W L p.known (left_known Q e here));
    }

-- less waits
pub less_waits : (old new : Numberer Shape Coded) (inner inner' : List ℕ) (b : Bor Shape) (number : ℕ) → IsNext old.pending.items inner inner' b number → waiting [] new ≡ waiting [] old ++ left_by (expression_of [] b.now)
    → length (flat_map subexpressions (drop (length inner') (waiting [] new))) < length (flat_map subexpressions (drop (length inner) (waiting [] old)))
less_waits old new inner inner' b number next grown =
    let e = expression_of [] b.now in
    let L = left_by e in
    let all : length (map node (subexpressions e)) ≡ length (placed_by e ++ rules_in L) = length_permutation (placed_by e ++ rules_in L) (map node (subexpressions e)) (whole e) in
    less_inside (λ (x : Bor Shape). expression_of [] x.now) old.pending.items inner inner' b number next (waiting [] new) L grown subexpressions
    (omega (arith, all, length-append (placed_by e) (rules_in L), length-map (subexpressions e) node, length-map (flat_map subexpressions L) node, some_placed e))
  where
    some_placed : (e : Expression) → 0 < length (placed_by e)
    some_placed (cue.atom a) = omega arith
    some_placed (cue.kind a) = omega arith
    some_placed (cue.range a b) = omega arith
    some_placed (cue.reference n) = omega arith
    some_placed (cue.conjunction es) = omega (arith, length-append (placed_by_all es) (node (cue.conjunction es) ∷ []))
    some_placed (cue.disjunction es) = omega (arith, length-append (placed_by_all es) (node (cue.disjunction es) ∷ []))
    some_placed (cue.struct ds o) = omega arith
    some_placed (cue.list es r) = omega arith
