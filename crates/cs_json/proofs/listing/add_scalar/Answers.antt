use Rattle.std.proofs.Common.{◌≡◌, ◌∷◌, [], ◌++◌, FitsSigned, w64, to_z, of_z, refl, ap, ◌∙◌, option_map, rules}
use Rattle.json.specs.Json.{value}
use Rattle.json.specs.Reads.{token_of}
use Rattle.json.proofs.Grammar.{value_is}
use Rattle.serde_json.specs.Data as json_value
use Rattle.serde_json.specs.Read.{number_of, of_json, converted}
use Rattle.cs_document.specs.Document.{null, boolean, integer, text}
use Rattle.cs_document.specs.Opened.{a_null, a_boolean, an_integer, a_text}
use Rattle.cs_json.proofs.Integers.{number_in}
use Rattle.cs_json.proofs.Turns.{AddsRead-one}
use Rattle.cs_json.proofs.listing.add_scalar.Goals as goal

pub returns-in_ok-text-in-String : goal.returns-in_ok-text-in-String
returns-in_ok-text-in-String c = λ depth rest.
    let s = c.in-String.text.now in
    let is = ap (λ k. converted of_json (value depth (token_of k ∷ rest))) c.in-String.is in
    AddsRead-one _ _ c.args.items.now _ _ (a_text s) (json_value.string s) (text s) tt tt tt refl refl refl (is ∙ ap (converted of_json) (value_is depth _)) refl c.in_ok-text-in-String.ensures

pub returns-in_ok-integer-in-Some : goal.returns-in_ok-integer-in-Some
returns-in_ok-integer-in-Some c = λ depth rest.
    let is = ap (λ k. converted of_json (value depth (token_of k ∷ rest))) c.in-Number.is in
    let z = c.in-Some.value in
    let back : to_z w64 (of_z w64 z) ≡ z = search rules in
    let fits : FitsSigned w64 z = search rules in
    let n = number_in (number_of c.in-Number.text.now) z c.in-Some.ensures in
    let pushed = c.in_ok-integer-in-Some.ensures in
    AddsRead-one _ _ c.args.items.now _ _ (an_integer z) (json_value.number n.0) (integer z) tt tt fits refl refl refl
    (is ∙ ap (converted of_json) (value_is depth _) ∙ ap (λ o. option_map (λ d. (d, rest)) (option_map json_value.number o)) n.1)
    (ap (option_map integer) n.2) (pushed.0, pushed.1 ∙ ap (λ i. c.args.items.now ++ an_integer i ∷ []) back)

pub returns-in_ok-boolean-in-Bool : goal.returns-in_ok-boolean-in-Bool
returns-in_ok-boolean-in-Bool c = λ depth rest.
    let b = c.in-Bool.value in
    let is = ap (λ k. converted of_json (value depth (token_of k ∷ rest))) c.in-Bool.is in
    AddsRead-one _ _ c.args.items.now _ _ (a_boolean b) (json_value.boolean b) (boolean b) tt tt tt refl refl refl (is ∙ ap (converted of_json) (value_is depth _)) refl c.in_ok-boolean-in-Bool.ensures

pub returns-in_ok-null-in-Null : goal.returns-in_ok-null-in-Null
returns-in_ok-null-in-Null c = λ depth rest.
    let is = ap (λ k. converted of_json (value depth (token_of k ∷ rest))) c.in-Null.is in
    AddsRead-one _ _ c.args.items.now _ _ a_null json_value.null null tt tt tt refl refl refl (is ∙ ap (converted of_json) (value_is depth _)) refl c.in_ok-null-in-Null.ensures
