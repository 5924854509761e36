use Rattle.std.proofs.Common.{map, string_bytes, ap, subst}
use Rattle.std.specs.List.Sorted.{IsPermutation}
use Rattle.std.proofs.lemmas.List.Sorted.{IsPermutation-map}
use Rattle.cs_rules.proofs.classes.Classes.of.Goals as goal

pub returns-clause-texts : goal.returns-clause-texts
returns-clause-texts c =
    let after = c.sort_unstable.new.self.items in
    subst (λ ts. IsPermutation ts (map string_bytes after)) (ap (λ m. m.texts) c.marks.view_is) (IsPermutation-map string_bytes c.marks.inside.texts.items after c.sort_unstable.ensures.permutation)
