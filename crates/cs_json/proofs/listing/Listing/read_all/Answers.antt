use Rattle.std.proofs.Common.{◌≡◌, [], Some, option_and_then, sym, ap, ◌∙◌, subst, rules}
use Rattle.json.specs.Json.{value}
use Rattle.serde_json.specs.Read.{of_json, converted, max_depth}
use Rattle.cs_flat.specs.Listed.{document_in, IsListed}
use Rattle.cs_json.specs.Texts.{document_of}
use Rattle.cs_json.specs.Listings.{Adds}
use Rattle.cs_json.proofs.Additions.{IsListed-all}
use Rattle.cs_json.proofs.Reading.{whole_read}
use Rattle.cs_json.proofs.listing.Listing.read_all.Goals as goal

pub finish-requires : goal.finish-requires
finish-requires c =
    let ys = c.read.new.self.items in
    let one = c.in_ok-read.ensures.read in
    let all = IsListed-all ys c.in_ok-read.field-0 one.document (subst (λ xs. Adds xs ys c.in_ok-read.field-0 one.document) c.requires one.adds) in
    subst (λ d. IsListed d ys) (sym all.1) all.0

pub returns : goal.returns
returns c =
    let ys = c.read.new.self.items in
    let one = c.in_ok-read.ensures.read in
    let all = IsListed-all ys c.in_ok-read.field-0 one.document (subst (λ xs. Adds xs ys c.in_ok-read.field-0 one.document) c.requires one.adds) in
    let none : c.read.new.self.reader ≡ [] = search rules in
    let read = value max_depth c.args.self.reader in
    let last : converted of_json read ≡ Some (one.value, []) = subst (λ ts. converted of_json read ≡ Some (one.value, ts)) none one.is_read in
    ap (option_and_then document_of) (whole_read read one.value last) ∙ one.is_document ∙ ap Some (sym all.1 ∙ ap document_in (sym c.finish.ensures))
