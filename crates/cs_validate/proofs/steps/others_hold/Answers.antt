use Rattle.std.proofs.Common.{◌≡◌, true, map, string_bytes, refl, ap, ◌∙◌, subst}
use Rattle.std.specs.List.{list_any}
use Rattle.std.specs.Str.{bytes_eq}
use Rattle.std.proofs.lemmas.Simd.{map-map}
use Rattle.cs_profile.specs.Numbered.{names_in}
use Rattle.cs_validate.proofs.steps.others_hold.Goals as goal

pub loop-member-init : goal.loop-member-init
loop-member-init c =
    let es = c.args.properties.now.entries in
    let all : map string_bytes c.keys-names.result ≡ names_in es = ap (map string_bytes) c.keys-names.ensures.rest ∙ map-map string_bytes (λ e. e.0) es in record {
      same = refl;
      below = c.requires.members;
      left = λ k h. subst (λ ns. list_any (bytes_eq k) ns ≡ true) all h;
    }
