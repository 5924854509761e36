use Rattle.std.proofs.Common.{◌≡◌, ◌<◌, ◌+◌, ◌-◌, ◌*◌, ◌++◌, List, ℕ, length, length-append, length-drop, take, drop, sym, ap, ◌∙◌, subst, arith, rules}
use Rattle.std.proofs.lemmas.List.{length-take-le}
use Rattle.std.proofs.lemmas.Slice.{overwrites}
use borrow.Rule.Slice.PartMut.{put_mid, same_len_mid}
use Rattle.cs_table.specs.Judged.{Table, verdicts}
use Rattle.cs_table.specs.Kept.{width_of}
use Rattle.cs_table.proofs.Bits.{table_of, length-kept, ends, copied, as_taken, others_stay}
use Rattle.cs_table.proofs.verdicts.Verdicts.take_row.Goals as goal

pub copy_from_slice-requires : goal.copy_from_slice-requires
copy_from_slice-requires c =
    let t = c.self.inside in
    let u = c.table.inside in
    let to = c.args.item * t.width in
    let from = c.args.place * u.width in
    let alike : u.rules ≡ t.rules = ap (λ (v : Table). v.rules) c.table.view_is ∙ c.requires.rules ∙ sym (ap (λ (v : Table). v.rules) c.self.view_is) in
    let wide : u.width ≡ t.width = c.table.invariant.1 ∙ ap width_of alike ∙ sym c.self.invariant.1 in
    let mine = ends c.args.item t.items t.width (subst (λ (v : Table). c.args.item < v.items) (sym c.self.view_is) c.requires.item) in
    let theirs = ends c.args.place u.items u.width (subst (λ (v : Table). c.args.place < v.items) (sym c.table.view_is) c.requires.place) in
    length-take-le (to + t.width - to) (drop to c.deref_mut.result.now) (omega (arith, mine, c.self.invariant.2, ap length c.deref_mut.ensures.value, length-drop to c.deref_mut.result.now))
    ∙ omega (arith, wide)
    ∙ sym (length-take-le (from + u.width - from) (drop from c.deref.result.now) (omega (arith, theirs, c.table.invariant.2, ap length c.deref.ensures.value, length-drop from c.deref.result.now)))

pub invariant_of-self : goal.invariant_of-self
invariant_of-self c =
    let t = c.self.inside in
    let bytes = c.deref_mut.result.now in
    let row = c.copy_from_slice.new.self in
    let to = c.args.item * t.width in
    let put : List ℕ = put_mid to (to + t.width - to) bytes row in
    let rest = drop (length put) t.bytes.items in
    let full : length put ≡ length t.bytes.items = same_len_mid to (to + t.width - to) bytes row c.copy_from_slice.ensures.len ∙ ap length c.deref_mut.ensures.value in
    let count : t.bytes.len ≡ length t.bytes.items = omega (arith, t.bytes.ok.0) in
    let all : length (take t.bytes.len (put ++ rest)) ≡ t.bytes.len = length-take-le t.bytes.len (put ++ rest) (omega (arith, length-append put rest, full, count)) in
    (c.self.invariant.0, c.self.invariant.1, all ∙ count ∙ c.self.invariant.2)

pub returns-clause-size : goal.returns-clause-size
returns-clause-size c =
    let t = c.self.inside in
    let to = c.args.item * t.width in
    let put : List ℕ = put_mid to (to + t.width - to) c.deref_mut.result.now c.copy_from_slice.new.self in (
      ap (λ (v : Table). v.items) c.self.view_is,
      ap (λ (v : Table). v.rules) c.self.view_is,
      length-kept (take t.bytes.len (put ++ drop (length put) t.bytes.items)) t.width t.items t.rules
          ∙ sym (length-kept t.bytes.items t.width t.items t.rules)
          ∙ ap (λ (v : Table). length v.given) c.self.view_is,
    )

pub returns-clause-taken : goal.returns-clause-taken
returns-clause-taken c = λ r l.
    let t = c.self.inside in
    let u = c.table.inside in
    let i = c.args.item in
    let p = c.args.place in
    let to = i * t.width in
    let put : List ℕ = put_mid to (to + t.width - to) c.deref_mut.result.now c.copy_from_slice.new.self in
    let fits = c.self.invariant in
    let alike : u.rules ≡ t.rules = ap (λ (v : Table). v.rules) c.table.view_is ∙ c.requires.rules ∙ sym (ap (λ (v : Table). v.rules) c.self.view_is) in
    let wide : u.width ≡ t.width = c.table.invariant.1 ∙ ap width_of alike ∙ sym fits.1 in
    let is : take t.bytes.len (put ++ drop (length put) t.bytes.items) ≡ copied t.bytes.items u.bytes.items to (p * t.width) t.width = search (rules, overwrites) in
    ap (λ bytes. verdicts (table_of bytes t.width t.items t.rules) i r) is
    ∙ as_taken t.bytes.items u.bytes.items t.width t.items u.items t.rules i p fits.1 fits.2 (c.table.invariant.2 ∙ ap (λ w. u.items * w) wide) (subst (λ (v : Table). i < v.items) (sym c.self.view_is) c.requires.item) (subst (λ (v : Table). p < v.items) (sym c.table.view_is) c.requires.place) r (subst (λ (v : Table). r < v.rules) (sym c.self.view_is) l)
    ∙ ap (λ w. verdicts (table_of u.bytes.items w u.items t.rules) p r) (sym wide)
    ∙ ap (λ n. verdicts (table_of u.bytes.items u.width u.items n) p r) (sym alike)
    ∙ ap (λ (v : Table). verdicts v p r) c.table.view_is

pub returns-clause-others : goal.returns-clause-others
returns-clause-others c = λ j r l apart.
    let t = c.self.inside in
    let u = c.table.inside in
    let i = c.args.item in
    let p = c.args.place in
    let to = i * t.width in
    let put : List ℕ = put_mid to (to + t.width - to) c.deref_mut.result.now c.copy_from_slice.new.self in
    let fits = c.self.invariant in
    let alike : u.rules ≡ t.rules = ap (λ (v : Table). v.rules) c.table.view_is ∙ c.requires.rules ∙ sym (ap (λ (v : Table). v.rules) c.self.view_is) in
    let wide : u.width ≡ t.width = c.table.invariant.1 ∙ ap width_of alike ∙ sym fits.1 in
    let is : take t.bytes.len (put ++ drop (length put) t.bytes.items) ≡ copied t.bytes.items u.bytes.items to (p * t.width) t.width = search (rules, overwrites) in
    ap (λ bytes. verdicts (table_of bytes t.width t.items t.rules) j r) is
    ∙ others_stay t.bytes.items u.bytes.items t.width t.items u.items t.rules i p fits.1 fits.2 (c.table.invariant.2 ∙ ap (λ w. u.items * w) wide) (subst (λ (v : Table). i < v.items) (sym c.self.view_is) c.requires.item) (subst (λ (v : Table). p < v.items) (sym c.table.view_is) c.requires.place) j r (subst (λ (v : Table). r < v.rules) (sym c.self.view_is) l) apart
    ∙ ap (λ (v : Table). verdicts v j r) c.self.view_is
