use Rattle.std.proofs.Common.{◌≡◌, ◌&&◌, ◌<◌, suc, ℕ, List, Option, Some, None, IfSome, map, string_bytes, sym, ap, ◌∙◌, subst, refl, add-one}
use Rattle.std.specs.List.{list_all, AllByRecursion as Each}
use Rattle.std.proofs.lemmas.Simd.{map-map}
use Rattle.cs_document.specs.Document.{Entry, under}
use Rattle.cs_flat.specs.View.{entry_of}
use Rattle.cs_rules.specs.Knowns.{verdict_inside, value_count, place_count}
use Rattle.cs_rules.proofs.Lists.{found_below}
use Rattle.cs_profile.specs.Numbered.{numbered, names_in}
use Rattle.cs_profile.specs.Validity.{if_there}
use Rattle.cs_validate.proofs.steps.properties_hold.Goals as goal

-- a value that is found is one of the values
if_found : (n : ℕ) (k : List ℕ) (ms : List (Entry ℕ)) (o : Option ℕ) → Each (λ (m : Entry ℕ). m.1 < n) ms → o ≡ under k ms → IfSome o (λ y. y < n)
if_found n k ms None below is = tt
if_found n k ms (Some y) below is = found_below n k ms y below (sym is)

pub property_holds-requires-clause-value : goal.property_holds-requires-clause-value
property_holds-requires-clause-value c = if_found (value_count c.args.known.now) _ (map entry_of c.args.members.now) _ c.requires.members c.next_under-value.ensures

pub loop-name-init : goal.loop-name-init
loop-name-init c =
    let es = c.args.properties.now.entries in
    let holds = λ (p : Entry ℕ). if_there (λ y. verdict_inside c.args.known.now y p.1) (under p.0 (map entry_of c.args.members.now)) in
    let same : map string_bytes c.into_iter-name-iterator.result ≡ names_in es =
    ap (map string_bytes) (c.into_iter-name-iterator.ensures.into_iter_gives ∙ c.keys-name-items.ensures.rest) ∙ map-map string_bytes (λ e. e.0) es in record {
      same = ap (λ ns. list_all holds (numbered c.args.first ns)) (sym same);
      below = subst (λ ns. Each (λ (p : Entry ℕ). p.1 < place_count c.args.known.now) (numbered c.args.first ns)) (sym same) c.requires.parts;
    }

pub loop-name-preserved : goal.loop-name-preserved
loop-name-preserved c =
    let l = c.loop-name in
    let holds = λ (p : Entry ℕ). if_there (λ y. verdict_inside c.args.known.now y p.1) (under p.0 (map entry_of c.args.members.now)) in
    let k = c.in-Some.ensures.steps in
    let below = subst (λ ns. Each (λ (p : Entry ℕ). p.1 < place_count c.args.known.now) (numbered l.place (map string_bytes ns))) k l.invariant.below in record {
      same = l.invariant.same ∙ ap (λ ns. list_all holds (numbered l.place (map string_bytes ns))) k
          ∙ ap (λ n. if_there (λ y. verdict_inside c.args.known.now y l.place) (under n (map entry_of c.args.members.now)) && list_all holds (numbered (suc l.place) (map string_bytes c.next.new.self))) (sym c.deref.ensures)
          ∙ ap (λ o. if_there (λ y. verdict_inside c.args.known.now y l.place) o && list_all holds (numbered (suc l.place) (map string_bytes c.next.new.self))) (sym c.next_under-value.ensures)
          ∙ ap (λ b. b && list_all holds (numbered (suc l.place) (map string_bytes c.next.new.self))) (sym c.property_holds.ensures ∙ c.if-not-property_holds.false)
          ∙ rw add-one refl;
      below = rw add-one (below.1);
    }
