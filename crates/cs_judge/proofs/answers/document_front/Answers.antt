use Rattle.std.proofs.Common.{◌≡◌, ℕ, List, [], ◌∷◌, ◌++◌, ap, ap₂, ◌∙◌, append-nil, codes}
use Rattle.json.specs.Print.{print, print_from, escape_byte, quoted}
use Rattle.json.specs.Token.{begin_object, key, string}
use Rattle.cs_judge.specs.Explained.{document_member}
use Rattle.cs_judge.proofs.answers.document_front.Goals as goal

-- three tokens, and a comma
printed : (name : List ℕ) → print (begin_object ∷ key (codes "document") ∷ string name ∷ []) ++ 44 ∷ [] ≡ document_member name
unfolding print_from escape_byte
printed name = ap (λ t. codes "{\"document\":" ++ t ++ codes ",") (append-nil (quoted name))

pub returns : goal.returns
returns c =
    let opened = c.in_ok-begin_object.ensures.ok ∙ ap (λ ts. ts ++ begin_object ∷ []) c.new-out.ensures.tokens in
    let keyed = c.in_ok-key.ensures.ok ∙ ap (λ ts. ts ++ key (codes "document") ∷ []) opened in
    let tokens = c.in_ok-string.ensures.ok ∙ ap (λ ts. ts ++ string c.args.name.now ∷ []) keyed in
    let before = c.string.ensures.room.0 ∙ c.key.ensures.room.0 ∙ c.begin_object.ensures.room.0 ∙ c.new-out.ensures.before ∙ c.new.ensures.items in
    let front = c.into_inner-front.ensures.items ∙ ap₂ (λ b ts. b ++ print ts) before tokens in
    c.in_ok-push.ensures.items ∙ ap (λ t. t ++ 44 ∷ []) front ∙ printed c.args.name.now
