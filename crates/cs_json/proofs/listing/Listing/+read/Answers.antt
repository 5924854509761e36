use Rattle.std.proofs.Common.{◌≡◌, ℕ, ◌-◌, ◌<◌, [], ◌∷◌, ◌++◌, map, drop, length, Some, None, IfOk, refl, sym, ap, ◌∙◌, subst, arith}
use Rattle.std.specs.List.{AllByRecursion as Each}
use Rattle.json.specs.Json.{after_end_array, read_key, items, members, value}
use Rattle.json.specs.Reads.{token_of}
use Rattle.json.proofs.Grammar.{value-begin_array, value-begin_object, read_key-shorter}
use Rattle.serde_json.specs.Data.{no_members}
use Rattle.serde_json.specs.Read.{of_json, of_items, of_members, converted}
use Rattle.cs_document.specs.Document.{Entry}
use Rattle.cs_document.specs.Opened.{a_list, an_object}
use Rattle.cs_flat.specs.View.{entry_of}
use Rattle.cs_json.specs.Listings.{AddsRead}
use Rattle.cs_json.proofs.Reading.{converted-array, converted-object}
use Rattle.cs_json.proofs.Turns.{ElementsRead, ElementsRead-none, ElementsRead-more, ElementsRead-end, MembersRead, MembersRead-none, MembersRead-more, MembersRead-below, MembersRead-end, AddsRead-at, whole_tail}
use Rattle.cs_json.proofs.Entries.{Pair}
use Rattle.cs_json.proofs.listing.Listing.+read.Goals as goal

-- ---- lists and maps

pub read-returns-else-depth-eq0-clause-read : goal.read-returns-else-depth-eq0-clause-read
read-returns-else-depth-eq0-clause-read t c =
    let rest = c.next.new.self in
    let first : c.args.self.now.reader ≡ token_of c.in_ok-token.token ∷ rest = grind arith in
    let opened = ap (converted of_json) (ap (value c.args.depth) (first ∙ ap (λ k. token_of k ∷ rest) c.in-BeginArray.is) ∙ value-begin_array c.args.depth rest (omega arith))
    ∙ converted-array (items (value (c.args.depth - 1)) (length rest) rest) in
    subst (λ r. IfOk c.read_list.result (λ n. AddsRead r c.read_list.new.self.reader c.args.self.now.items c.read_list.new.self.items n)) (sym opened) c.read_list.ensures.read

pub read-returns-else-depth-eq0-2-clause-read : goal.read-returns-else-depth-eq0-2-clause-read
read-returns-else-depth-eq0-2-clause-read t c =
    let rest = c.next.new.self in
    let first : c.args.self.now.reader ≡ token_of c.in_ok-token.token ∷ rest = grind arith in
    let opened = ap (converted of_json) (ap (value c.args.depth) (first ∙ ap (λ k. token_of k ∷ rest) c.in-BeginObject.is) ∙ value-begin_object c.args.depth rest (omega arith))
    ∙ converted-object (members (value (c.args.depth - 1)) (length rest) rest) in
    subst (λ r. IfOk c.read_map.result (λ n. AddsRead r c.read_map.new.self.reader c.args.self.now.items c.read_map.new.self.items n)) (sym opened) c.read_map.ensures.read

-- ---- the elements of a list

pub read_list-elements-init : goal.read_list-elements-init
read_list-elements-init t c =
    let self = c.args.self.now in record {
      so_far = ElementsRead-none (value c.args.depth) self.reader self.items self.elements.items;
      shorter = omega arith;
      entries = refl;
    }

pub read_list-elements-preserved : goal.read_list-elements-preserved
read_list-elements-preserved t c =
    let before = c.args.self.now in
    let whole = converted of_items (items (value c.args.depth) (length before.reader) before.reader) in
    let p = value c.args.depth in
    let l = c.elements in
    let done = c.in_ok-number.ensures in
    let n = c.in_ok-number.number in
    let r = c.read.new.self in
    let going : (after_end_array l.self.reader ≡ None) × (c.take_end_array.new.self ≡ l.self.reader) = grind arith in
    let one = subst (λ ts. AddsRead (converted of_json (p ts)) r.reader l.self.items r.items n) going.1 done.read in
    let less : length r.reader < length l.self.reader = subst (λ ts. length r.reader < length ts) going.1 done.shorter in
    let stacked = c.in_ok-push.ensures.items ∙ ap (λ ns. ns ++ n ∷ []) done.elements in record {
      so_far = subst (λ now. ElementsRead whole p r.reader before.items r.items before.elements.items now) (sym stacked)
          (ElementsRead-more whole p l.self.reader r.reader before.items l.self.items before.elements.items l.self.elements.items l.invariant.so_far r.items n going.0 one less);
      shorter = omega (arith, l.invariant.shorter);
      entries = done.entries ∙ l.invariant.entries;
    }

pub read_list-returns-clause-read : goal.read_list-returns-clause-read
read_list-returns-clause-read t c =
    let before = c.args.self.now in
    let whole = converted of_items (items (value c.args.depth) (length before.reader) before.reader) in
    let l = c.elements in
    let rest = c.take_end_array.new.self in
    let start = c.len-start.result in
    let over : after_end_array l.self.reader ≡ Some rest = grind arith in
    let tail = whole_tail c.deref.result.now start ∙ ap (drop start) c.deref.ensures.value in
    let pushed = c.in_ok-number-2.ensures in
    AddsRead-at _ rest before.items (l.self.items ++ a_list (drop start l.self.elements.items) ∷ []) c.list.new.self (length l.self.items) c.in_ok-number-2.number
    (pushed.1 ∙ ap (λ ns. l.self.items ++ a_list ns ∷ []) tail) pushed.0
    (ElementsRead-end whole (value c.args.depth) l.self.reader rest before.items l.self.items before.elements.items l.self.elements.items l.invariant.so_far start (omega (arith, before.elements.ok.0)) over)

-- ---- the members of a map

pub read_map-members-init : goal.read_map-members-init
read_map-members-init t c =
    let self = c.args.self.now in record {
      so_far = MembersRead-none (value c.args.depth) self.reader self.items self.entries.items;
      shorter = omega arith;
      elements = refl;
    }

pub read_map-members-preserved : goal.read_map-members-preserved
read_map-members-preserved t c =
    let before = c.args.self.now in
    let whole = converted (λ ms. of_members ms no_members) (members (value c.args.depth) (length before.reader) before.reader) in
    let p = value c.args.depth in
    let l = c.members in
    let k = c.in-Some.key in
    let behind = c.next_key.new.self in
    let key : read_key l.self.reader ≡ Some (Some k.now, behind) = grind arith in
    let shorter = read_key-shorter l.self.reader (Some k.now) behind key in
    let done = c.in_ok-number.ensures in
    let r = c.read.new.self in
    let e : Pair = (k, c.in_ok-number.number) in
    let stacked = c.in_ok-push.ensures.items ∙ ap (λ es. es ++ e ∷ []) done.entries in record {
      so_far = subst (λ now. MembersRead whole p r.reader before.items r.items before.entries.items now) (sym stacked)
          (MembersRead-more whole p l.self.reader before.items l.self.items before.entries.items l.self.entries.items l.invariant.so_far behind r.reader r.items e key done.read done.shorter);
      shorter = omega (arith, l.invariant.shorter, done.shorter);
      elements = done.elements ∙ l.invariant.elements;
    }

pub read_map-object-requires-clause-below : goal.read_map-object-requires-clause-below
read_map-object-requires-clause-below t c =
    let before = c.args.self.now in
    let whole = converted (λ ms. of_members ms no_members) (members (value c.args.depth) (length before.reader) before.reader) in
    let l = c.members in
    let start = c.len-start.result in
    let sorted = drop start c.sort_from.new.entries.items in
    let tail = whole_tail c.deref.result.now start ∙ ap (drop start) c.deref.ensures.value in
    subst (λ ps. Each (λ (m : Entry ℕ). m.1 < length l.self.items) (map entry_of ps)) (sym tail)
    (MembersRead-below whole (value c.args.depth) l.self.reader before.items l.self.items before.entries.items l.self.entries.items l.invariant.so_far start sorted (omega (arith, before.entries.ok.0))
    c.if-not-sort_from.ensures.moved)

pub read_map-returns-clause-read : goal.read_map-returns-clause-read
read_map-returns-clause-read t c =
    let before = c.args.self.now in
    let whole = converted (λ ms. of_members ms no_members) (members (value c.args.depth) (length before.reader) before.reader) in
    let l = c.members in
    let rest = c.next_key.new.self in
    let start = c.len-start.result in
    let over : read_key l.self.reader ≡ Some (None, rest) = grind arith in
    let sorted = drop start c.sort_from.new.entries.items in
    let tail = whole_tail c.deref.result.now start ∙ ap (drop start) c.deref.ensures.value in
    let pushed = c.in_ok-number-2.ensures in
    AddsRead-at _ rest before.items (l.self.items ++ an_object (map entry_of sorted) ∷ []) c.object.new.self (length l.self.items) c.in_ok-number-2.number
    (pushed.1 ∙ ap (λ ps. l.self.items ++ an_object (map entry_of ps) ∷ []) tail) pushed.0
    (MembersRead-end whole (value c.args.depth) l.self.reader before.items l.self.items before.entries.items l.self.entries.items l.invariant.so_far start rest sorted (omega (arith, before.entries.ok.0)) over
    c.if-not-sort_from.ensures.moved (c.if-not-sort_from.ensures.ascends refl))
