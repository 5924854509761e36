use Rattle.std.proofs.Common.{◌≡◌, ℕ, true, false, ◌||◌, ◌+◌, List, ◌∷◌, ◌++◌, [], map, take, drop, refl, sym, ap, ◌∙◌, subst}
use Rattle.std.proofs.lemmas.List.{map-append}
use Rattle.std.specs.List.{flat_map}
use Rattle.cs_grammar.specs.Tree.{defined_name, definitions}
use Rattle.cs_grammar.specs.View.{file_view}
use Rattle.cs_grammar.specs.declared.ast.File.{File}
use Rattle.cs_plain.specs.References.{TellsTexts}
use Rattle.cs_names.specs.Joined.{repeats}
use Rattle.cs_plain.proofs.Folds.{gathered_more}
use Rattle.cs_names.proofs.Tables.{repeats-append}
use Rattle.cs_plain.proofs.Walks.{at_place}
use Rattle.cs_names.proofs.joins.have_bodies.Goals as goal

abbrev own_names : File → List (List ℕ)
own_names f = map defined_name (definitions (file_view f))

abbrev names_of : List File → List (List ℕ)
names_of fs = map defined_name (flat_map definitions (map file_view fs))

parts : (f : File) (fs : List File) → names_of (f ∷ fs) ≡ own_names f ++ names_of fs
parts f fs = map-append defined_name (definitions (file_view f)) (flat_map definitions (map file_view fs))

pub returns-then-is_seen : goal.returns-then-is_seen
returns-then-is_seen c =
    let xs = c.args.files.now in
    let i = c.loop-file.file-index in
    let x = c.file-item.result in
    let before = names_of (take i xs) in
    let rest = names_of (drop (i + 1) xs) in
    let cut = ap names_of (at_place xs i x c.loop-file-test.true c.file-item.is) ∙ parts x (drop (i + 1) xs) in
    let again : repeats before (own_names x) ≡ true = sym (c.in_ok-is_seen.ensures.found before c.loop-file.invariant.0) ∙ c.if-is_seen.true in
    sym (c.loop-file.invariant.1 ∙ ap (repeats before) cut ∙ repeats-append before (own_names x) rest ∙ ap (λ b. b || repeats (before ++ own_names x) rest) again)

pub loop-file-preserved : goal.loop-file-preserved
loop-file-preserved c =
    let xs = c.args.files.now in
    let i = c.loop-file.file-index in
    let x = c.file-item.result in
    let before = names_of (take i xs) in
    let rest = names_of (drop (i + 1) xs) in
    let start = repeats [] (names_of xs) in
    let told = c.loop-file.invariant.0 in
    let cut = ap names_of (at_place xs i x c.loop-file-test.true c.file-item.is) ∙ parts x (drop (i + 1) xs) in
    let more = gathered_more names_of own_names refl parts xs i x c.loop-file-test.true c.file-item.is in
    let new : repeats before (own_names x) ≡ false = sym (c.in_ok-is_seen.ensures.found before told) ∙ c.if-is_seen.false in
    let same = c.loop-file.invariant.1 ∙ ap (repeats before) cut ∙ repeats-append before (own_names x) rest ∙ ap (λ b. b || repeats (before ++ own_names x) rest) new in (
      subst (TellsTexts c.add_names.new.seen) (sym more) (c.in_ok-is_seen.ensures.seen before told c.if-is_seen.false),
      subst (λ ls. start ≡ repeats ls rest) (sym more) same,
    )
