use Rattle.std.proofs.Common.{refl, map, subst}
use Rattle.cs_grammar.specs.View.{definition_view}
use Rattle.cs_plain.specs.Bodies.{TellsBodies, body_of}
use Rattle.cs_plain.specs.Placed.{value_of}
use Rattle.cs_plain.specs.References.{is_among}
use Rattle.cs_plain.proofs.files.placed_here.Goals as goal

pub returns : goal.returns
returns c ns ks bs named bodied kinded =
    let here = map body_of (map definition_view c.args.file.now.definitions.items) in
    let told = subst (λ ds. TellsBodies c.in_ok-here.here (map body_of (map definition_view ds))) c.deref.ensures.value c.in_ok-here.ensures in
    c.placed_file.ensures (value_of ns bs here) (is_among ks) (record {
      names = ns;
      told_names = named;
      all = bs;
      told_all = bodied;
      here = here;
      told_here = told;
      kinds = ks;
      told_kinds = kinded;
      is_value = refl;
      is_hidden = refl;
    })
