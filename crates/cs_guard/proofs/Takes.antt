-- What a walk takes is what a definition refers to, strongly or at all.
use Rattle.std.proofs.Common.{◌≡◌, ℕ, List, [], ◌∷◌, ◌++◌, refl, ap, ◌∙◌}
use Rattle.std.specs.List.{flat_map}
use Rattle.std.specs.Option.{unwrap_or}
use Rattle.std.proofs.lemmas.List.{append-nil}
use Rattle.cs_package.specs.Expression as cue
use Rattle.cs_package.specs.Expression.{Expression, Expressions, Declarations, DeclarationMark, Rest}
use Rattle.cs_package.specs.Environment.{Environment, bodies}
use Rattle.cs_package.specs.View.{expressions_of}
use Rattle.cs_guard.specs.References.{direct, direct_all, inside, inside_all, inside_fields, strong, strong_all, strong_of, unless_optional}
use Rattle.cs_guard.specs.Reachable.{referred, referred_all, referred_fields, referred_rest, referred_of}
use Rattle.cs_guard.specs.Taken.{of_field, taken, taken_all, taken_fields, taken_rest, taken_of}
use Rattle.cs_guard.specs.declared.references.Followed.{Followed}
use Rattle.cs_guard.specs.declared.references.Followed.TheVariants.{Strong, Direct, Inside, Every}

joined : (ks ls ms ns : List (List ℕ)) → ks ≡ ls → ms ≡ ns → ks ++ ms ≡ ls ++ ns
joined ks ls ms ns p q = ap (λ xs. xs ++ ms) p ∙ ap (λ xs. ls ++ xs) q

field_inside : (m : DeclarationMark) (ns ms : List (List ℕ)) → ns ≡ ms → of_field m Inside ns ≡ unless_optional m ms
field_inside cue.regular ns ms e = e
field_inside cue.optional ns ms e = refl
field_inside cue.required ns ms e = e
field_inside cue.every ns ms e = refl

field_every : (m : DeclarationMark) (ns ms : List (List ℕ)) → ns ≡ ms → of_field m Every ns ≡ ms
field_every cue.regular ns ms e = e
field_every cue.optional ns ms e = e
field_every cue.required ns ms e = e
field_every cue.every ns ms e = e

mutual
  directly : (e : Expression) → taken Direct e ≡ direct e
  directly (cue.atom a) = refl
  directly (cue.kind k) = refl
  directly (cue.range least greatest) = refl
  directly (cue.reference n) = refl
  directly (cue.conjunction es) = directly_all es
  directly (cue.disjunction es) = directly_all es
  directly (cue.struct ds opened) = refl
  directly (cue.list es rest) = refl

  directly_all : (es : Expressions) → taken_all Direct es ≡ direct_all es
  directly_all cue.no_expressions = refl
  directly_all (cue.expression e es) = joined (taken Direct e) (direct e) (taken_all Direct es) (direct_all es) (directly e) (directly_all es)

mutual
  within : (e : Expression) → taken Inside e ≡ inside e
  within (cue.atom a) = refl
  within (cue.kind k) = refl
  within (cue.range least greatest) = refl
  within (cue.reference n) = refl
  within (cue.conjunction es) = within_all es
  within (cue.disjunction es) = refl
  within (cue.struct ds opened) = within_fields ds
  within (cue.list es rest) = append-nil (taken_all Inside es) ∙ within_all es

  within_all : (es : Expressions) → taken_all Inside es ≡ inside_all es
  within_all cue.no_expressions = refl
  within_all (cue.expression e es) = joined (taken Inside e) (inside e) (taken_all Inside es) (inside_all es) (within e) (within_all es)

  within_fields : (ds : Declarations) → taken_fields Inside ds ≡ inside_fields ds
  within_fields cue.no_declarations = refl
  within_fields (cue.declaration l m e ds) = joined (of_field m Inside (taken Inside e)) (unless_optional m (inside e)) (taken_fields Inside ds) (inside_fields ds) (field_inside m (taken Inside e) (inside e) (within e)) (within_fields ds)

mutual
  strongly : (e : Expression) → taken Strong e ≡ strong e
  strongly (cue.atom a) = refl
  strongly (cue.kind k) = refl
  strongly (cue.range least greatest) = refl
  strongly (cue.reference n) = refl
  strongly (cue.conjunction es) = strongly_all es
  strongly (cue.disjunction es) = directly_all es
  strongly (cue.struct ds opened) = within_fields ds
  strongly (cue.list es rest) = append-nil (taken_all Inside es) ∙ within_all es

  strongly_all : (es : Expressions) → taken_all Strong es ≡ strong_all es
  strongly_all cue.no_expressions = refl
  strongly_all (cue.expression e es) = joined (taken Strong e) (strong e) (taken_all Strong es) (strong_all es) (strongly e) (strongly_all es)

mutual
  every : (e : Expression) → taken Every e ≡ referred e
  every (cue.atom a) = refl
  every (cue.kind k) = refl
  every (cue.range least greatest) = refl
  every (cue.reference n) = refl
  every (cue.conjunction es) = every_of es
  every (cue.disjunction es) = every_of es
  every (cue.struct ds opened) = every_field ds
  every (cue.list es rest) = joined (taken_all Every es) (referred_all es) (taken_rest Every rest) (referred_rest rest) (every_of es) (every_rest rest)

  every_of : (es : Expressions) → taken_all Every es ≡ referred_all es
  every_of cue.no_expressions = refl
  every_of (cue.expression e es) = joined (taken Every e) (referred e) (taken_all Every es) (referred_all es) (every e) (every_of es)

  every_field : (ds : Declarations) → taken_fields Every ds ≡ referred_fields ds
  every_field cue.no_declarations = refl
  every_field (cue.declaration l m e ds) = joined (of_field m Every (taken Every e)) (referred e) (taken_fields Every ds) (referred_fields ds) (field_every m (taken Every e) (referred e) (every e)) (every_field ds)

  every_rest : (rest : Rest) → taken_rest Every rest ≡ referred_rest rest
  every_rest cue.closed = refl
  every_rest cue.any = refl
  every_rest (cue.each e) = every e

same_names : (f g : Expression → List (List ℕ)) → ((e : Expression) → f e ≡ g e) → (es : List Expression) → flat_map f es ≡ flat_map g es
same_names f g same [] = refl
same_names f g same (e ∷ es) = joined (f e) (g e) (flat_map f es) (flat_map g es) (same e) (same_names f g same es)

pub taken_strong : (E : Environment) (n : List ℕ) → taken_of Strong E n ≡ strong_of E n
taken_strong E n = same_names (taken Strong) strong strongly (unwrap_or (bodies E n) [])

pub taken_every : (E : Environment) (n : List ℕ) → taken_of Every E n ≡ referred_of E n
taken_every E n = same_names (taken Every) referred every (unwrap_or (bodies E n) [])

pub all_is : (f : Followed) (es : List Expression) → taken_all f (expressions_of es) ≡ flat_map (taken f) es
all_is f [] = refl
all_is f (e ∷ es) = ap (λ ns. taken f e ++ ns) (all_is f es)
