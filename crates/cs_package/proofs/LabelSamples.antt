-- Expressions with and without `[string]: T`, worked by the definitions of labels. A wrong expectation stops the check here.
use Rattle.std.proofs.Common.{ℕ, pos, true, false, List, [], ◌∷◌, None, codes}
use Rattle.std.specs.List.{AllByRecursion}
use Rattle.cs_package.specs.Expression as cue
use Rattle.cs_package.specs.Expression.{Expression}
use Rattle.cs_package.specs.Labels.{HasLabel, IsLabelled, IsLabelledEnvironment}
use Rattle.cs_package.specs.View.{expressions_of}

abbrev A : List ℕ
A = codes "A"

abbrev B : List ℕ
B = codes "B"

abbrev top : Expression
top = cue.atom cue.top

-- `{a: _}`, and `{[string]: _}`
abbrev one_label : Expression
one_label = cue.struct (cue.declaration (codes "a") cue.regular top cue.no_declarations) false

abbrev every_key : Expression
every_key = cue.struct (cue.declaration [] cue.every top cue.no_declarations) false

-- the forms that have an expression inside: `_ & e`, `_ | e`, `{a: e}`, `{a?: _, b!: e, ...}`, `[_, e]`, `[e, ...]` and `[...e]`
abbrev around : Expression → List Expression
around e =
    cue.conjunction (expressions_of (top ∷ e ∷ [])) ∷ cue.disjunction (expressions_of (top ∷ e ∷ [])) ∷ cue.struct (cue.declaration (codes "a") cue.regular e cue.no_declarations) false
    ∷ cue.struct (cue.declaration (codes "a") cue.optional top (cue.declaration (codes "b") cue.required e cue.no_declarations)) true
    ∷ cue.list (expressions_of (top ∷ e ∷ [])) cue.closed ∷ cue.list (expressions_of (e ∷ [])) cue.any ∷ cue.list cue.no_expressions (cue.each e) ∷ []

-- ---- marks

labels : AllByRecursion HasLabel (cue.regular ∷ cue.optional ∷ cue.required ∷ [])
labels = (tt, (tt, (tt, tt)))

no_label : ¬ HasLabel cue.every
no_label h = h

-- ---- expressions

-- `_`, `int`, `uint`, `#A`, `{...}`, `[...]`, and `{"": _}`, whose label is the empty text
without_parts : AllByRecursion IsLabelled (top ∷ cue.kind cue.int ∷ cue.range (pos 0) None ∷ cue.reference A ∷ cue.struct cue.no_declarations true ∷ cue.list cue.no_expressions cue.any ∷ cue.struct (cue.declaration [] cue.regular top cue.no_declarations) false ∷ [])
without_parts = (tt, (tt, (tt, (tt, (tt, ((tt, tt), ((tt, tt, tt), tt)))))))

-- each form around `{a: _}`
with_labels : AllByRecursion IsLabelled (around one_label)
with_labels =
    let one : IsLabelled one_label = (tt, tt, tt) in
    ((tt, (one, tt)), ((tt, (one, tt)), ((tt, one, tt), ((tt, tt, (tt, one, tt)), (((tt, (one, tt)), tt), (((one, tt), tt), ((tt, one), tt)))))))

-- `{[string]: _}`, and `{a: _, [string]: _, ...}`
every_keys : AllByRecursion (λ e. IsLabelled e → ⊥) (every_key ∷ cue.struct (cue.declaration (codes "a") cue.regular top (cue.declaration [] cue.every top cue.no_declarations)) true ∷ [])
every_keys = (λ h. h.0, (λ h. h.2.0, tt))

-- each form around `{[string]: _}`
every_keys_inside : AllByRecursion (λ e. IsLabelled e → ⊥) (around every_key)
every_keys_inside = (λ h. h.1.0.0, (λ h. h.1.0.0, (λ h. h.1.0, (λ h. h.2.1.0, (λ h. h.0.1.0.0, (λ h. h.0.0.0, (λ h. h.1.0, tt)))))))

-- ---- environments

-- none, and `#A: _` with `#A: {a: _}` and `#B: _`
environments_with_labels : AllByRecursion IsLabelledEnvironment ([] ∷ ((A, top ∷ one_label ∷ []) ∷ (B, top ∷ []) ∷ []) ∷ [])
environments_with_labels = (tt, (((tt, ((tt, tt, tt), tt)), ((tt, tt), tt)), tt))

-- `#A: _` with `#B: _` and `#B: {[string]: _}`
environment_with_every_key : ¬ IsLabelledEnvironment ((A, top ∷ []) ∷ (B, top ∷ every_key ∷ []) ∷ [])
environment_with_every_key h = h.1.0.1.0.0
