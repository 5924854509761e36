use Rattle.std.proofs.Common.{◌≡◌, sym, ap, ◌∙◌, subst}
use Rattle.std.specs.Str.{NoCharPasses}
use Rattle.cs_document.specs.View.{doc_view}
use Rattle.cs_json.specs.Texts.{Reads, text_of}
use Rattle.cs_place.specs.Shown.{is_hidden, shown}
use Rattle.cs_place.proofs.ShownTexts.{shown_plain}
use Rattle.cs_json.proofs.shown.shown_text.Goals as goal

pub returns-then-branch : goal.returns-then-branch
returns-then-branch c =
    let text : c.in_ok-shown.shown.items ≡ shown (text_of (doc_view c.args.doc.now)) = c.in_ok-shown.ensures ∙ ap shown (c.in-Ok.ensures.cases.0 ∙ c.deref.ensures.value ∙ c.in_ok-text.ensures.text) in
    record {
      text = text;
      plain = subst (NoCharPasses is_hidden) (sym text) (shown_plain (text_of (doc_view c.args.doc.now)));
      read = subst (λ t. Reads t (doc_view c.args.doc.now)) c.deref-2.ensures.value (c.in_ok-is_read_as.ensures c.if-branch.true);
    }
