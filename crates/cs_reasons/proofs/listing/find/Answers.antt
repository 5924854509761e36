use Rattle.std.proofs.Common.{ap, ◌∙◌, arith, rules}
use Rattle.std.proofs.lemmas.List.Sorted.{IsPartitionPoint-from_clause}
use Rattle.std.proofs.lemmas.Option.{slice_get_within, get_or_from_slice_get}
use Rattle.cs_reasons.specs.Listed.{is_before}
use Rattle.cs_reasons.specs.declared.reasons.Link.{Link}
use Rattle.cs_reasons.proofs.Searched.{parted, missed}
use Rattle.cs_reasons.proofs.listing.find.Goals as goal
use Rattle.cs_reasons.proofs.listing.find.Goals.{else-place-links-via-then-place-links+then-links-place+else-links-place-2, else-place-links-via-then-place-links+else-links-place, else-place-links-via-else-place-links}

pub returns : goal.returns
returns g c = λ order.
    let links = c.args.links.now in
    let i = c.args.item in
    let r = c.args.rule in
    let p = c.partition_point-place.result in
    let parts = IsPartitionPoint-from_clause (λ (l : Link g.row.C.Denot). is_before l.item l.rule i r) links p c.partition_point-place.ensures.partitioned (parted links i r order) (λ a r f called. search rules) in
    missed links i r order p parts (λ is. elim c.else-place-links.branch [
      | else-place-links-via-then-place-links+then-links-place+else-links-place-2 w ↦
          w.if-links-place-2.false (ap (λ (l : Link g.row.C.Denot). l.rule) (get_or_from_slice_get links p is.0 w.index-links-place-then-links-place.result is.1) ∙ is.3)
      | else-place-links-via-then-place-links+else-links-place w ↦
          w.if-links-place.false (ap (λ (l : Link g.row.C.Denot). l.item) (get_or_from_slice_get links p is.0 w.index-links-place.result is.1) ∙ is.2)
      | else-place-links-via-else-place-links w ↦ let h = slice_get_within links p is.0 is.1 in let k = w.if-place-links.false in omega arith
    ])
