use Rattle.std.proofs.Common.{◌≡◌, ◌+◌, ◌≤◌, length, map, slice_range, Some, w64, to_z, of_z, ap, ◌∙◌, sym, subst, arith, rules}
use Rattle.cs_document.specs.Opened.{an_integer, a_list, an_object}
use Rattle.cs_flat.specs.Packed.{unpacked, IsWithin}
use Rattle.cs_flat.specs.View.{entry_of}
use Rattle.cs_flat.proofs.Ranges.{is_among, item_at, within_at}
use Rattle.cs_flat.proofs.packed.PackedItems.item.Goals as goal

pub index-requires : goal.index-requires
index-requires c =
    let p = c.self.inside in
    let among = is_among p.elements.items p.entries.items p.items.items c.args.self.now c.args.i c.self.view_is c.requires in
    omega (arith, among, p.items.ok)

pub overflow_add-result : goal.overflow_add-result
overflow_add-result c =
    let p = c.self.inside in
    let x = c.index.result.now in
    let within : c.in-List.first + c.in-List.count ≤ length p.elements.items =
    subst (IsWithin (length p.elements.items) (length p.entries.items)) c.in-List.is
    (within_at p.elements.items p.entries.items p.items.items c.args.self.now c.args.i c.self.view_is c.requires x c.index.ensures c.self.invariant) in
    grind (arith, within, p.elements.ok)

pub offset_bounds-deref-first : goal.offset_bounds-deref-first
offset_bounds-deref-first c =
    let p = c.self.inside in
    let x = c.index.result.now in
    let within : c.in-List.first + c.in-List.count ≤ length p.elements.items =
    subst (IsWithin (length p.elements.items) (length p.entries.items)) c.in-List.is
    (within_at p.elements.items p.entries.items p.items.items c.args.self.now c.args.i c.self.view_is c.requires x c.index.ensures c.self.invariant) in
    grind (arith, within, p.elements.ok)

pub slice_bounds-result-end : goal.slice_bounds-result-end
slice_bounds-result-end c =
    let p = c.self.inside in
    let x = c.index.result.now in
    let within : c.in-List.first + c.in-List.count ≤ length p.elements.items =
    subst (IsWithin (length p.elements.items) (length p.entries.items)) c.in-List.is
    (within_at p.elements.items p.entries.items p.items.items c.args.self.now c.args.i c.self.view_is c.requires x c.index.ensures c.self.invariant) in
    grind (arith, within)

pub overflow_add-result-in-Object : goal.overflow_add-result-in-Object
overflow_add-result-in-Object c =
    let p = c.self.inside in
    let x = c.index.result.now in
    let within : c.in-Object.first + c.in-Object.count ≤ length p.entries.items =
    subst (IsWithin (length p.elements.items) (length p.entries.items)) c.in-Object.is
    (within_at p.elements.items p.entries.items p.items.items c.args.self.now c.args.i c.self.view_is c.requires x c.index.ensures c.self.invariant) in
    grind (arith, within, p.entries.ok)

pub offset_bounds-deref-first-in-Object : goal.offset_bounds-deref-first-in-Object
offset_bounds-deref-first-in-Object c =
    let p = c.self.inside in
    let x = c.index.result.now in
    let within : c.in-Object.first + c.in-Object.count ≤ length p.entries.items =
    subst (IsWithin (length p.elements.items) (length p.entries.items)) c.in-Object.is
    (within_at p.elements.items p.entries.items p.items.items c.args.self.now c.args.i c.self.view_is c.requires x c.index.ensures c.self.invariant) in
    grind (arith, within, p.entries.ok)

pub slice_bounds-result-end-in-Object : goal.slice_bounds-result-end-in-Object
slice_bounds-result-end-in-Object c =
    let p = c.self.inside in
    let x = c.index.result.now in
    let within : c.in-Object.first + c.in-Object.count ≤ length p.entries.items =
    subst (IsWithin (length p.elements.items) (length p.entries.items)) c.in-Object.is
    (within_at p.elements.items p.entries.items p.items.items c.args.self.now c.args.i c.self.view_is c.requires x c.index.ensures c.self.invariant) in
    grind (arith, within)

pub returns-in-Null : goal.returns-in-Null
returns-in-Null c =
    let p = c.self.inside in
    item_at p.elements.items p.entries.items p.items.items c.args.self.now c.args.i c.self.view_is c.requires c.index.result.now c.index.ensures ∙ ap (λ x. Some (unpacked p.elements.items p.entries.items x)) c.in-Null.is

pub returns-in-Bool : goal.returns-in-Bool
returns-in-Bool c =
    let p = c.self.inside in
    item_at p.elements.items p.entries.items p.items.items c.args.self.now c.args.i c.self.view_is c.requires c.index.result.now c.index.ensures ∙ ap (λ x. Some (unpacked p.elements.items p.entries.items x)) c.in-Bool.is

pub returns-in-Int : goal.returns-in-Int
returns-in-Int c =
    let p = c.self.inside in
    let back : to_z w64 (of_z w64 c.in-Int.n) ≡ c.in-Int.n = search rules in
    item_at p.elements.items p.entries.items p.items.items c.args.self.now c.args.i c.self.view_is c.requires c.index.result.now c.index.ensures ∙ ap (λ x. Some (unpacked p.elements.items p.entries.items x)) c.in-Int.is
    ∙ ap (λ z. Some (an_integer z)) (sym back)

pub returns-in-Text : goal.returns-in-Text
returns-in-Text c =
    let p = c.self.inside in
    item_at p.elements.items p.entries.items p.items.items c.args.self.now c.args.i c.self.view_is c.requires c.index.result.now c.index.ensures ∙ ap (λ x. Some (unpacked p.elements.items p.entries.items x)) c.in-Text.is

pub returns-in-List : goal.returns-in-List
returns-in-List c =
    let p = c.self.inside in
    item_at p.elements.items p.entries.items p.items.items c.args.self.now c.args.i c.self.view_is c.requires c.index.result.now c.index.ensures ∙ ap (λ x. Some (unpacked p.elements.items p.entries.items x)) c.in-List.is
    ∙ ap (λ xs. Some (a_list (slice_range xs c.in-List.first (c.in-List.first + c.in-List.count)))) (sym c.deref.ensures.value)

pub returns-in-Object : goal.returns-in-Object
returns-in-Object c =
    let p = c.self.inside in
    item_at p.elements.items p.entries.items p.items.items c.args.self.now c.args.i c.self.view_is c.requires c.index.result.now c.index.ensures ∙ ap (λ x. Some (unpacked p.elements.items p.entries.items x)) c.in-Object.is
    ∙ ap (λ xs. Some (an_object (map entry_of (slice_range xs c.in-Object.first (c.in-Object.first + c.in-Object.count))))) (sym c.deref-in-Object.ensures.value)
