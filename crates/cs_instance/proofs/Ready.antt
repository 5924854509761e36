-- The expressions of each kind with parts, ready for a number.
use Rattle.std.proofs.Common.{◌≡◌, ℕ, ◌<◌, ◌≤◌, Bool, List, [], ◌∷◌, ◌++◌, Result, Vec, Global, map, length, get_or, slice_index, refl, sym, ap, ap₂, ◌∙◌, subst, append_assoc, append-nil, lt_of_lt_of_le, arith}
use Rattle.std.specs.Prelude.{slice_get, IfOk, Some}
use Rattle.std.specs.List.{AllByRecursion as Each}
use Rattle.std.specs.declared.alloc.AllocError.{AllocError}
use Rattle.std.proofs.lemmas.List.{length-map}
use Rattle.std.proofs.lemmas.Option.{slice_get_within, get_or_from_slice_get}
use Rattle.std.proofs.lemmas.Result.{IfOk-weaker}
use Rattle.cs_package.specs.Expression as cue
use Rattle.cs_package.specs.Expression.{Expression, Expressions, Declaration}
use Rattle.cs_package.specs.Environment.{Environment}
use Rattle.cs_package.specs.View.{expression_of, declarations_of, part_of, rest_of as end_of}
use Rattle.cs_package.specs.declared.shape.Shape.{Shape}
use Rattle.cs_package.specs.declared.shape.ShapeEnd.{ShapeEnd}
use Rattle.cs_package.specs.declared.shape.Part.{Part}
use Rattle.cs_guard.specs.References.{direct}
use Rattle.cs_document.proofs.Each.{each_map}
use Rattle.cs_rules.specs.declared.numberer.Numberer.{Numberer}
use Rattle.cs_instance.specs.Constraint.{all_of, any_of, object_of, list_of}
use Rattle.cs_instance.specs.Instance.{Rule, definition, node}
use Rattle.cs_instance.specs.Numbering.{RestBelow, rule_at}
use Rattle.cs_instance.specs.declared.rules.Rule.{Rule as Coded}
use Rattle.cs_instance.specs.declared.rules.Rule.TheVariants as coded
use Rattle.cs_instance.specs.declared.fields.Fields.{Fields}
use Rattle.cs_instance.specs.declared.rules.Ending.{Ending}
use Rattle.cs_instance.specs.Steps.{asked_of, field_of, ending_of}
use Rattle.cs_instance.specs.Placing.{named_all, waiting, expression_at, AreNumbered, AreNumberedBy, placed_by_all, left_by, values_of, each_of, IsKnown, Places, PlacesAll, FieldsWait, ElementsWait, EndWaits}
use Rattle.cs_instance.proofs.Placed.{Pushed, finish, alone, operands_of, declarations_back, expressions_kept}
use Rattle.cs_instance.proofs.Places.{longer}

pub joined_and : (result : Result ℕ AllocError) (numbers : List ℕ) (first old new : Numberer Shape Coded) (v : Vec ℕ Global) (es : List (List ℕ) → Expressions) → Pushed result old new (coded.All v) → new.pending ≡ old.pending
    → PlacesAll numbers first old es v.items → IfOk result (Places numbers first new (λ names. cue.conjunction (es names)))
joined_and result numbers first old new v es done kept all =
    finish result numbers first old new (coded.All v) (λ names. cue.conjunction (es names)) done kept (λ names. (all names).0)
    (λ names E placed n refs.
    let w = (all names).1 E placed n refs in record {
      more = placed_by_all (es names);
      rules = refl;
      numbered = w.0;
      asks = ap all_of (sym w.1.0);
      parts = w.1.1;
    })

pub joined_or : (result : Result ℕ AllocError) (numbers : List ℕ) (first old new : Numberer Shape Coded) (v : Vec ℕ Global) (es : List (List ℕ) → Expressions) → Pushed result old new (coded.Any v) → new.pending ≡ old.pending
    → PlacesAll numbers first old es v.items → IfOk result (Places numbers first new (λ names. cue.disjunction (es names)))
joined_or result numbers first old new v es done kept all =
    finish result numbers first old new (coded.Any v) (λ names. cue.disjunction (es names)) done kept (λ names. (all names).0)
    (λ names E placed n refs.
    let w = (all names).1 E placed n refs in record {
      more = placed_by_all (es names);
      rules = refl;
      numbered = w.0;
      asks = ap any_of (sym w.1.0);
      parts = w.1.1;
    })

pub at_of_some : (rules : List Rule) (k : ℕ) (s : Rule) → slice_get rules k ≡ Some s → rule_at rules k ≡ s
at_of_some rules k s e = get_or_from_slice_get rules k s (node (cue.atom cue.top)) e

pub referring : (result : Result ℕ AllocError) (numbers : List ℕ) (old new : Numberer Shape Coded) (v : Vec ℕ Global) (i number : ℕ) → Pushed result old new (coded.All v) → new.pending ≡ old.pending
    → v.items ≡ number ∷ [] → number ≡ slice_index numbers i → IfOk result (Places numbers old new (λ names. cue.reference (get_or names i [])))
referring result numbers old new v i number done kept vs is =
    finish result numbers old old new (coded.All v) (λ names. cue.reference (get_or names i [])) done kept (λ names. sym (append-nil (waiting names old)))
    (λ names E placed n refs.
    let known = refs.0 i refl in
    let there = ap (slice_get placed) is ∙ known.1 in
    let at : rule_at placed number ≡ definition (get_or names i []) = at_of_some placed number (definition (get_or names i [])) there in
    let below : number < length placed = slice_get_within placed number (definition (get_or names i [])) there in
    alone E placed (cue.reference (get_or names i [])) (waiting names old) [] (waiting names old) old.rules.items (all_of v.items) n (sym (append-nil (waiting names old))) refl
    (ap all_of (ap (λ s. s ∷ []) (sym at) ∙ ap (map (rule_at placed)) (sym vs))) (subst (Each (λ d. d < length placed)) (sym vs) (below, tt)))

-- a definition without a number isn't referred to
pub not_referring : (result : Result ℕ AllocError) (numbers : List ℕ) (old new : Numberer Shape Coded) (rule : Coded) (i : ℕ) → Pushed result old new rule → new.pending ≡ old.pending → length numbers ≤ i
    → IfOk result (Places numbers old new (λ names. cue.reference (get_or names i [])))
not_referring result numbers old new rule i done kept past =
    finish result numbers old old new rule (λ names. cue.reference (get_or names i [])) done kept (λ names. sym (append-nil (waiting names old)))
    (λ names E placed n refs. absurd (let l = (refs.0 i refl).0 in omega (arith, past, l)))

-- the same rules are numbered
same_rules : (E : Environment) (names : List (List ℕ)) (placed : List Rule) (old mid : Numberer Shape Coded) → mid.rules ≡ old.rules → AreNumberedBy E names placed old → AreNumbered E placed (waiting names old) mid.rules.items
same_rules E names placed old mid same = subst (λ (v : Vec Coded Global). AreNumbered E placed (waiting names old) v.items) (sym same)

wide : (names : List (List ℕ)) (n : Numberer Shape Coded) → length n.pending.items ≡ length (waiting names n)
wide names n = sym (length-map n.pending.items _)

pub struct_waits : (result : Result ℕ AllocError) (old mid new : Numberer Shape Coded) (parts : List Part) (v : Fields) (o : Bool) → FieldsWait parts old mid v.all.items → Pushed result mid new (coded.Struct v o) → new.pending ≡ mid.pending
    → IfOk result (Places [] old new (λ names. cue.struct (declarations_of (map (part_of names) parts)) o))
struct_waits result old mid new parts v o w done kept =
    let ds = λ (names : List (List ℕ)). map (part_of names) parts in
    let e = λ (names : List (List ℕ)). cue.struct (declarations_of (ds names)) o in
    let waits = λ (names : List (List ℕ)). w.waits names ∙ ap (λ xs. waiting names old ++ values_of xs) (sym (declarations_back (ds names))) in
    finish result [] old mid new (coded.Struct v o) e done kept waits
    (λ names E placed n refs.
    alone E placed (e names) (waiting names old) (left_by (e names)) (waiting names mid) mid.rules.items (asked_of (coded.Struct v o)) (same_rules E names placed old mid w.rules n) (waits names) refl
    (ap (λ xs. object_of xs o) (declarations_back (ds names) ∙ sym (w.are names))) (subst (λ k. Each (λ (d : Declaration ℕ). d.value < k) (map field_of v.all.items)) (wide names mid) w.below))

pub list_waits : (result : Result ℕ AllocError) (old mid last new : Numberer Shape Coded) (front : List Shape) (end : ShapeEnd) (v : Vec ℕ Global) (t : Ending) → ElementsWait front old mid v.items → EndWaits end mid last t
    → Pushed result last new (coded.List v t) → new.pending ≡ last.pending → IfOk result (Places [] old new (λ names. cue.list (named_all front names) (end_of names end)))
list_waits result old mid last new front end v t w u done kept =
    let es = λ (names : List (List ℕ)). map (expression_of names) front in
    let rest = λ (names : List (List ℕ)). each_of (end_of names end) in
    let e = λ (names : List (List ℕ)). cue.list (named_all front names) (end_of names end) in
    let waits = λ (names : List (List ℕ)).
    u.waits names ∙ ap (λ ys. ys ++ rest names) (w.waits names) ∙ append_assoc (waiting names old) (es names) (rest names) ∙ ap (λ xs. waiting names old ++ (xs ++ rest names)) (sym (operands_of (es names))) in
    let places = λ (names : List (List ℕ)).
    ap (λ ys. map (expression_at ys) v.items) (u.waits names) ∙ expressions_kept (waiting names mid) (rest names) v.items (subst (λ k. Each (λ p. p < k) v.items) (wide names mid) w.below) ∙ w.are names in
    let below = each_map (λ p. p < length mid.pending.items) (λ p. p < length last.pending.items) (λ p a. lt_of_lt_of_le a (longer [] mid last (rest []) (u.waits []))) v.items w.below in
    finish result [] old last new (coded.List v t) e done kept waits
    (λ names E placed n refs.
    alone E placed (e names) (waiting names old) (left_by (e names)) (waiting names last) last.rules.items (asked_of (coded.List v t)) (same_rules E names placed old last (u.rules ∙ w.rules) n) (waits names) refl
    (ap₂ list_of (operands_of (es names) ∙ sym (places names)) (sym (u.is names))) (subst (λ k. Each (λ p. p < k) v.items) (wide names last) below, subst (λ k. RestBelow k (ending_of t)) (wide names last) u.below))

-- what is numbered without looking at the definitions is so with any numbers of theirs
pub any_numbers : (result : Result ℕ AllocError) (numbers : List ℕ) (old new : Numberer Shape Coded) (e : List (List ℕ) → Expression) → ((names : List (List ℕ)) → direct (e names) ≡ []) → IfOk result (Places [] old new e) → IfOk result (Places numbers old new e)
any_numbers result numbers old new e none h =
    IfOk-weaker result (Places [] old new e) (Places numbers old new e) (λ k d names. ((d names).0, λ E placed n refs. (d names).1 E placed n (subst (Each (IsKnown names [] placed)) (sym (none names)) tt))) h
