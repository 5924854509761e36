use Rattle.std.proofs.Common.{◌≡◌, ◌+◌, Bool, true, false, List, [], ◌∷◌, ◌++◌, Option, Some, None, map, take, refl, sym, ap, ◌∙◌}
use Rattle.std.proofs.lemmas.List.{map-append, take_more, take_all}
use Rattle.cs_embeddings.specs.Sited.{is_optional, first_of, lead_or, lead_over, leading}
use Rattle.cs_embeddings.specs.declared.gathered.Declared.{Declared}
use Rattle.cs_embeddings.proofs.gathered.Together.site.Goals as goal

-- the first that isn't optional, of three
first_assoc : (c d e : Declared) → first_of c (first_of d e) ≡ first_of (first_of c d) e
first_assoc c d e = by (is_optional c.mark) (is_optional d.mark) (is_optional e.mark) refl refl refl
  where
    by : (a b f : Bool) → is_optional c.mark ≡ a → is_optional d.mark ≡ b → is_optional e.mark ≡ f → first_of c (first_of d e) ≡ first_of (first_of c d) e
    by false b f h k l = simp (h, k, l) refl
    by true false f h k l = simp (h, k, l) refl
    by true true false h k l = simp (h, k, l) refl
    by true true true h k l = simp (h, k, l) refl

lead_push : (ds : List Declared) (d : Declared) → leading (ds ++ d ∷ []) ≡ Some (lead_or (leading ds) d)
lead_push [] d = refl
lead_push (c ∷ ds) d = ap (λ o. Some (lead_over c o)) (lead_push ds d) ∙ ap Some (by (leading ds))
  where
    by : (o : Option Declared) → lead_over c (Some (lead_or o d)) ≡ first_of (lead_over c o) d
    by None = refl
    by (Some f) = first_assoc c f d

pub loop-declared-preserved : goal.loop-declared-preserved
loop-declared-preserved c =
    let xs = c.deref-declared-items.result.now in let i = c.loop-declared.declared-index in let x = c.declared-item.result in
    let more : take (i + 1) xs ≡ take i xs ++ x ∷ [] =
    take_more xs i x c.loop-declared-test.true ∙ ap (λ y. take i xs ++ y ∷ []) (sym c.declared-item.is) in (
      ap Some c.lead_or.ensures ∙ ap (λ o. Some (lead_or o x)) c.loop-declared.invariant.0 ∙ sym (ap leading more ∙ lead_push (take i xs) x),
      c.in_ok-push.ensures.items ∙ ap (λ ns. ns ++ x.at ∷ []) c.loop-declared.invariant.1
          ∙ sym (ap (map (λ d. d.at)) more ∙ map-append (λ (d : Declared). d.at) (take i xs) (x ∷ [])),
    )

pub returns-in-Some : goal.returns-in-Some
returns-in-Some c =
    let all = take_all c.loop-declared.declared-index c.deref-declared-items.result.now c.loop-declared-test.false ∙ c.deref-declared-items.ensures.value in
    let is = ap leading (sym all) ∙ sym c.loop-declared.invariant.0 ∙ c.in-Some.is in
    record { first = rw is (refl, refl); all = c.loop-declared.invariant.1 ∙ ap (map (λ d. d.at)) all }

pub returns-in-None : goal.returns-in-None
returns-in-None c =
    let all = take_all c.loop-declared.declared-index c.deref-declared-items.result.now c.loop-declared-test.false ∙ c.deref-declared-items.ensures.value in
    let is = ap leading (sym all) ∙ sym c.loop-declared.invariant.0 ∙ c.in-None.is in
    record { first = rw is tt; all = c.loop-declared.invariant.1 ∙ ap (map (λ d. d.at)) all }
