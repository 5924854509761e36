use Rattle.std.proofs.Common.{◌≡◌, add-one, drop-cons, ◌+◌, true, false, ◌∷◌, Some, drop, get_or, bytes_eq, refl, sym, ap, ◌∙◌, if◌then◌else◌}
use Rattle.std.proofs.lemmas.List.{drop_all}
use Rattle.cs_profile.specs.Keywords.{name_of, all_keywords}
use Rattle.cs_profile.specs.declared.keyword.Keyword.TheVariants as keyword
use Rattle.cs_profile.proofs.Names.{by_name}
use Rattle.cs_profile.proofs.keyword.Keyword.named.Goals as goal

pub loop-keyword-init : goal.loop-keyword-init
loop-keyword-init c = refl

pub returns-then-eq : goal.returns-then-eq
returns-then-eq c =
    let i = c.loop-keyword.keyword-index in
    let w = get_or all_keywords i keyword.Comment in
    let k = c.args.name.now in
    let same : bytes_eq k (name_of w) ≡ true = ap (bytes_eq k) (sym c.name.ensures) ∙ sym c.if-eq.ensures in
    let left : drop i all_keywords ≡ w ∷ drop (i + 1) all_keywords = rw (add-one, drop-cons all_keywords i keyword.Comment c.loop-keyword-test.true) refl in
    sym (ap (by_name k) left ∙ ap (λ t. if t then Some w else by_name k (drop (i + 1) all_keywords)) same) ∙ c.loop-keyword.invariant

pub loop-keyword-preserved : goal.loop-keyword-preserved
loop-keyword-preserved c =
    let i = c.loop-keyword.keyword-index in
    let w = get_or all_keywords i keyword.Comment in
    let k = c.args.name.now in
    let other : bytes_eq k (name_of w) ≡ false = ap (bytes_eq k) (sym c.name.ensures) ∙ sym c.if-eq.ensures in
    let left : drop i all_keywords ≡ w ∷ drop (i + 1) all_keywords = rw (add-one, drop-cons all_keywords i keyword.Comment c.loop-keyword-test.true) refl in
    sym (ap (by_name k) left ∙ ap (λ t. if t then Some w else by_name k (drop (i + 1) all_keywords)) other) ∙ c.loop-keyword.invariant

pub returns : goal.returns
returns c = sym (ap (by_name c.args.name.now) (drop_all c.loop-keyword.keyword-index all_keywords c.loop-keyword-test.false)) ∙ c.loop-keyword.invariant
