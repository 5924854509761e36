use Rattle.std.proofs.Common.{◌≡◌, ◌++◌, IsUtf8, sym, ap, ◌∙◌, subst}
use Rattle.json.specs.Lex.{tokens}
use Rattle.json.specs.Print.{print}
use Rattle.json.specs.Tree.{json_tokens}
use Rattle.serde_json.specs.Written.{outline}
use Rattle.serde_json.proofs.Texts.{print-outline}
use Rattle.cs_json.specs.Texts.{data_of}
use Rattle.cs_document.specs.View.{doc_view}
use Rattle.cs_json.proofs.Documents.{reads_back}
use Rattle.cs_json.proofs.write.write_doc.Goals as goal

pub returns-clause-text : goal.returns-clause-text
returns-clause-text c =
    let d = doc_view c.args.doc.now in
    let made : c.write.new.out.tokens ≡ json_tokens (outline (data_of d)) = c.in_ok-write.ensures.tokens ∙ ap (λ ts. ts ++ json_tokens (outline (data_of d))) c.new-out.ensures.tokens in
    c.into_inner.ensures.items ∙ ap (λ b. b ++ print c.write.new.out.tokens) (c.write.ensures.before ∙ c.new-out.ensures.before ∙ c.new.ensures.items) ∙ ap print made ∙ print-outline (data_of d)

pub returns-clause-reads : goal.returns-clause-reads
returns-clause-reads c shallow =
    let d = doc_view c.args.doc.now in
    let ts = c.write.new.out.tokens in
    let made : ts ≡ json_tokens (outline (data_of d)) = c.in_ok-write.ensures.tokens ∙ ap (λ us. us ++ json_tokens (outline (data_of d))) c.new-out.ensures.tokens in
    let text : c.into_inner.result.items ≡ print ts = c.into_inner.ensures.items ∙ ap (λ b. b ++ print ts) (c.write.ensures.before ∙ c.new-out.ensures.before ∙ c.new.ensures.items) in
    (subst IsUtf8 (sym text) c.into_inner.ensures.utf8, reads_back d c.into_inner.result.items c.in_ok-write.ensures.document shallow (ap tokens text ∙ c.into_inner.ensures.reads_back ∙ made))
