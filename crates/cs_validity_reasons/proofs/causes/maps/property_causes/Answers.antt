use Rattle.std.proofs.Common.{◌≡◌, ◌<◌, ◌-◌, suc, ℕ, List, ◌++◌, Option, Some, None, IfSome, map, string_bytes, slice_index, sym, ap, ap₂, ◌∙◌, subst, add-one, arith}
use Rattle.std.specs.List.{AllByRecursion as Each}
use Rattle.std.proofs.lemmas.Simd.{map-map}
use Rattle.cs_document.specs.Document.{Entry, under}
use Rattle.cs_document.specs.Inside.{map_entry}
use Rattle.cs_flat.specs.View.{entry_of}
use Rattle.cs_rules.specs.Knowns.{value_count, place_count}
use Rattle.cs_rules.proofs.Lists.{found_below}
use Rattle.cs_table.specs.Judged.{verdicts}
use Rattle.cs_profile.specs.Numbered.{numbered, names_in}
use Rattle.cs_validity_reasons.specs.CauseLists.{each_from, value_told, named_told}
use Rattle.cs_validity_reasons.proofs.CauseLists.{regrouped}
use Rattle.cs_validity_reasons.proofs.causes.maps.property_causes.Goals as goal

-- a value that is found is one of the values
if_found : (n : ℕ) (k : List ℕ) (ms : List (Entry ℕ)) (o : Option ℕ) → Each (λ (m : Entry ℕ). m.1 < n) ms → o ≡ under k ms → IfSome o (λ y. y < n)
if_found n k ms None below is = tt
if_found n k ms (Some y) below is = found_below n k ms y below (sym is)

pub property_cause-requires-clause-value : goal.property_cause-requires-clause-value
property_cause-requires-clause-value c = if_found (value_count c.args.known.now) _ (map entry_of c.args.members.now) _ c.requires.members c.next_under-value.ensures

pub loop-name-init : goal.loop-name-init
loop-name-init c =
    let es = c.args.properties.now.entries in
    let told = named_told (verdicts c.args.known.now.done.now) (map entry_of c.args.members.now) in
    let rules = map_entry (slice_index c.args.known.now.children.now) in
    let same : map string_bytes c.into_iter-name-iterator.result ≡ names_in es =
    ap (map string_bytes) (c.into_iter-name-iterator.ensures.into_iter_gives ∙ c.keys-name-items.ensures.rest) ∙ map-map string_bytes (λ e. e.0) es in
    let none : 0 ≡ c.args.first - c.args.first = omega arith in record {
      from = omega arith;
      below = subst (λ ns. Each (λ (p : Entry ℕ). p.1 < place_count c.args.known.now) (numbered c.args.first ns)) (sym same) c.requires.parts;
      told = ap₂ (λ j ns. c.args.found.now.items ++ each_from told j (map rules (numbered c.args.first ns))) none (sym same);
    }

pub loop-name-preserved : goal.loop-name-preserved
loop-name-preserved c =
    let l = c.loop-name in
    let first = c.args.first in
    let es = c.args.properties.now.entries in
    let ms = map entry_of c.args.members.now in
    let told = named_told (verdicts c.args.known.now.done.now) ms in
    let rules = map_entry (slice_index c.args.known.now.children.now) in
    let all = c.args.found.now.items ++ each_from told 0 (map rules (numbered first (names_in es))) in
    let below = subst (λ ns. Each (λ (p : Entry ℕ). p.1 < place_count c.args.known.now) (numbered l.part (map string_bytes ns))) c.in-Some.ensures.steps l.invariant.below in
    let left = subst (λ ns. all ≡ l.found.items ++ each_from told (l.part - first) (map rules (numbered l.part (map string_bytes ns)))) c.in-Some.ensures.steps l.invariant.told in
    let from = l.invariant.from in
    let next : suc (l.part - first) ≡ suc l.part - first = omega (arith, from) in record {
      from = omega (arith, from);
      below = rw add-one (below.1);
      told = rw add-one (subst (λ j. all ≡ c.property_cause.new.found.items ++ each_from told j (map rules (numbered (suc l.part) (map string_bytes c.next.new.self)))) next
          (regrouped all l.found.items c.property_cause.new.found.items (told (l.part - first) (string_bytes c.in-Some.name.now, slice_index c.args.known.now.children.now l.part)) _ left
          (c.in_ok-property_cause.ensures ∙ ap (λ o. l.found.items ++ value_told (verdicts c.args.known.now.done.now) (l.part - first) (slice_index c.args.known.now.children.now l.part) o) (c.next_under-value.ensures ∙ ap (λ k. under k ms) c.deref.ensures))));
    }
