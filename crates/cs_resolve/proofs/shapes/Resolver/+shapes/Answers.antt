use Rattle.std.proofs.Common.{◌≡◌, ℕ, List, Result, Ok, Err, Vec, Global, ◌&&◌, [], ◌∷◌, ◌++◌, length, rules, string_bytes, refl, sym, ap, ap₂, ◌∙◌, subst, vec_len, arith}
use Rattle.std.proofs.lemmas.Result.{err_from_is_err_and}
use Rattle.cs_grammar.specs.Tree as T
use Rattle.cs_grammar.specs.View.{expr_view, exprs_view, fields_view, end_view}
use Rattle.cs_grammar.specs.declared.ast.Expr as Exprs
use Rattle.cs_grammar.specs.declared.ast.Expr.{Expr}
use Rattle.cs_grammar.specs.declared.ast.Field.{Field}
use Rattle.cs_grammar.specs.declared.ast.ListEnd.{ListEnd}
use Rattle.cs_resolve.specs.Around.{HoldAround}
use Rattle.cs_package.specs.Expression as cue
use Rattle.cs_resolve.specs.Refinement.{Refinements}
use Rattle.cs_resolve.specs.Resolved.{narrowed_operands, resolved, resolved_end}
use Rattle.cs_resolve.specs.Scopes.{labels, key_places, places, places_all, places_end}
use Rattle.cs_resolve.specs.Steps.{faults_in, known_names, IsNameRefusal, IsShapeOf, Resolves}
use Rattle.cs_package.specs.View.{mark_of, expression_of, expressions_of, declarations_of, is_known}
use Rattle.cs_package.specs.declared.shape.Shape.{Shape}
use Rattle.cs_resolve.specs.declared.fault.ResolveFault.{ResolveFault}
use Rattle.cs_resolve.proofs.LabelSets.{entered, left}
use Rattle.cs_resolve.proofs.Made.{of_exprs, of_fields, none-made, one-made, all-made, refused-at, all_resolved, declared, all_declared, same_declaration}
use Rattle.cs_resolve.proofs.NameFaults.{Found, faults_in-append, refused-same, refused-left, refused-right}
use Rattle.cs_resolve.proofs.Trees.{view-Name, view-Reference, view-And, view-Or, view-Paren, view-Struct, view-List, view-Each, view-value, view-mark, view-text}
use Rattle.cs_package.proofs.Views.{of-And, of-Or, of-Struct, of-List, of-Each, of-Part, known-And, known-Or, known-Struct, known-List, known-Each, known-Part}
use Rattle.cs_resolve.proofs.shapes.Resolver.+shapes.Goals as goal

-- ---- one expression

-- the faults of a list are those of its elements, and of its end
list_cut : (file : ℕ) (ns : List (List ℕ)) (scopes : List (List T.Label)) (e : Expr) (v : Vec Expr Global) (end : ListEnd) → e ≡ Exprs.List v end → faults_in file ns (places scopes (expr_view e)) ≡ faults_in file ns (places_all scopes (exprs_view v.items)) ++ faults_in file ns (places_end scopes (end_view end))
list_cut file ns scopes e v end is =
    ap (λ u. faults_in file ns (places scopes u)) (ap expr_view is ∙ view-List v end)
    ∙ faults_in-append file ns (places_all scopes (exprs_view v.items)) (places_end scopes (end_view end))

pub shape_of-returns-in-Top-atom-clause-shape : goal.shape_of-returns-in-Top-atom-clause-shape
shape_of-returns-in-Top-atom-clause-shape t c scopes around rs told = c.atom_shape.ensures rs c.args.self.now.file (known_names c.args.self.now) scopes

pub shape_of-returns-in-Name-clause-shape : goal.shape_of-returns-in-Name-clause-shape
shape_of-returns-in-Name-clause-shape t c scopes around rs told =
    let ns = known_names c.args.self.now in
    let is = ap expr_view c.in-Name.is ∙ view-Name c.in-Name.text c.in-Name.at ∙ ap (λ s. T.named s c.in-Name.at) (sym c.as_str.ensures.value) in
    subst (λ u. Resolves c.name_shape.result (λ s. IsShapeOf rs ns s u) (faults_in c.args.self.now.file ns (places scopes u))) (sym is) (c.name_shape.ensures rs ns scopes around)

pub shape_of-returns-in-Reference-clause-shape : goal.shape_of-returns-in-Reference-clause-shape
shape_of-returns-in-Reference-clause-shape t c scopes around rs told =
    let ns = known_names c.args.self.now in
    let is = ap expr_view c.in-Reference.is ∙ view-Reference c.in-Reference.text c.in-Reference.at ∙ ap (λ s. T.reference s c.in-Reference.at) (sym c.as_str-in-Reference.ensures.value) in
    subst (λ u. Resolves c.reference_shape.result (λ s. IsShapeOf rs ns s u) (faults_in c.args.self.now.file ns (places scopes u))) (sym is) (c.reference_shape.ensures rs scopes)

pub shape_of-returns-in_err-shapes-in-And-clause-shape :
    goal.shape_of-returns-in_err-shapes-in-And-clause-shape
shape_of-returns-in_err-shapes-in-And-clause-shape t c scopes around rs told =
    let p = err_from_is_err_and c.from_residual.result c.from_residual.ensures.1 in
    let is = ap expr_view c.in-And.is ∙ view-And c.in-And.operands in
    rw (p.1, p.2) (refused-same c.in_err-shapes-in-And.field-0.0 _ _ (ap (λ u. faults_in c.args.self.now.file (known_names c.args.self.now) (places scopes u)) (sym is)) (c.in_err-shapes-in-And.ensures.shapes scopes around rs told))

pub shape_of-returns-in_ok-shapes-in-And-clause-shape :
    goal.shape_of-returns-in_ok-shapes-in-And-clause-shape
shape_of-returns-in_ok-shapes-in-And-clause-shape t c scopes around rs told =
    let ns = known_names c.args.self.now in
    let is = ap expr_view c.in-And.is ∙ view-And c.in-And.operands in
    let got = c.in_ok-shapes-in-And.ensures.shapes scopes around rs told in
    let refines = c.is_refinement.ensures told.labels told.held ∙ ap (λ r. r (exprs_view c.in-And.operands.items)) told.same in (
      record {
        same = of-And ns _ ∙ ap cue.conjunction (c.narrowed.ensures.opened ns ∙ ap₂ narrowed_operands refines got.0.same) ∙ ap (resolved rs) (sym is);
        known = known-And (length ns) _ ∙ c.narrowed.ensures.known (length ns) ∙ got.0.known;
      },
      ap (λ u. faults_in c.args.self.now.file ns (places scopes u)) is ∙ got.1,
    )

pub shape_of-returns-in_err-shapes-in-Or-clause-shape :
    goal.shape_of-returns-in_err-shapes-in-Or-clause-shape
shape_of-returns-in_err-shapes-in-Or-clause-shape t c scopes around rs told =
    let p = err_from_is_err_and c.from_residual-in_err-shapes-in-Or.result c.from_residual-in_err-shapes-in-Or.ensures.1 in
    let is = ap expr_view c.in-Or.is ∙ view-Or c.in-Or.operands in
    rw (p.1, p.2) (refused-same c.in_err-shapes-in-Or.field-0.0 _ _ (ap (λ u. faults_in c.args.self.now.file (known_names c.args.self.now) (places scopes u)) (sym is)) (c.in_err-shapes-in-Or.ensures.shapes scopes around rs told))

pub shape_of-returns-in_ok-shapes-in-Or-clause-shape :
    goal.shape_of-returns-in_ok-shapes-in-Or-clause-shape
shape_of-returns-in_ok-shapes-in-Or-clause-shape t c scopes around rs told =
    let ns = known_names c.args.self.now in
    let v = c.in_ok-shapes-in-Or.shapes in
    let is = ap expr_view c.in-Or.is ∙ view-Or c.in-Or.operands in
    let got = c.in_ok-shapes-in-Or.ensures.shapes scopes around rs told in (
      record { same = of-Or ns v ∙ ap cue.disjunction got.0.same ∙ ap (resolved rs) (sym is); known = known-Or (length ns) v ∙ got.0.known },
      ap (λ u. faults_in c.args.self.now.file ns (places scopes u)) is ∙ got.1,
    )

-- a parenthesis is dropped
parenthesized : (rs : Refinements) (ns : List (List ℕ)) (e : T.Tree) (r : Result Shape ResolveFault) (xs : Found) → Resolves r (λ s. IsShapeOf rs ns s e) xs → Resolves r (λ s. IsShapeOf rs ns s (T.paren e)) xs
parenthesized rs ns e (Ok s) xs h = (record { same = h.0.same; known = h.0.known }, h.1)
parenthesized rs ns e (Err f) xs h = h

pub shape_of-returns-in-Paren-clause-shape : goal.shape_of-returns-in-Paren-clause-shape
shape_of-returns-in-Paren-clause-shape t c scopes around rs told =
    let ns = known_names c.args.self.now in
    let is = ap expr_view c.in-Paren.is ∙ view-Paren c.in-Paren.inner ∙ ap (λ e. T.paren (expr_view e)) (sym c.deref.ensures) in
    let inner = parenthesized rs ns (expr_view c.deref.result.now) c.shape_of.result _ (c.shape_of.ensures.shape scopes around rs told) in
    subst (λ u. Resolves c.shape_of.result (λ s. IsShapeOf rs ns s u) (faults_in c.args.self.now.file ns (places scopes u))) (sym is) inner

pub shape_of-returns-in_err-parts-in-Struct-clause-shape :
    goal.shape_of-returns-in_err-parts-in-Struct-clause-shape
shape_of-returns-in_err-parts-in-Struct-clause-shape t c scopes around rs told =
    let p = err_from_is_err_and c.from_residual-in_err-parts-in-Struct.result c.from_residual-in_err-parts-in-Struct.ensures.1 in
    let is = ap expr_view c.in-Struct.is ∙ view-Struct c.in-Struct.at c.in-Struct.fields c.in-Struct.opened in
    rw (p.1, p.2) (refused-same c.in_err-parts-in-Struct.field-0.0 _ _ (ap (λ u. faults_in c.args.self.now.file (known_names c.args.self.now) (places scopes u)) (sym is)) (c.in_err-parts-in-Struct.ensures.parts scopes around rs told))

pub shape_of-returns-in_ok-parts-in-Struct-clause-shape :
    goal.shape_of-returns-in_ok-parts-in-Struct-clause-shape
shape_of-returns-in_ok-parts-in-Struct-clause-shape t c scopes around rs told =
    let ns = known_names c.args.self.now in
    let v = c.in_ok-parts-in-Struct.parts in
    let opened = c.in-Struct.opened in
    let is = ap expr_view c.in-Struct.is ∙ view-Struct c.in-Struct.at c.in-Struct.fields opened in
    let got = c.in_ok-parts-in-Struct.ensures.parts scopes around rs told in (
      record { same = of-Struct ns v opened ∙ ap (λ ds. cue.struct ds opened) got.0.same ∙ ap (resolved rs) (sym is); known = known-Struct (length ns) v opened ∙ got.0.known },
      ap (λ u. faults_in c.args.self.now.file ns (places scopes u)) is ∙ got.1,
    )

pub shape_of-returns-in_err-front-in-List-clause-shape :
    goal.shape_of-returns-in_err-front-in-List-clause-shape
shape_of-returns-in_err-front-in-List-clause-shape t c scopes around rs told =
    let p = err_from_is_err_and c.from_residual-in_err-front-in-List.result c.from_residual-in_err-front-in-List.ensures.1 in
    let cut = list_cut c.args.self.now.file (known_names c.args.self.now) scopes c.args.expr.now c.in-List.front c.in-List.end c.in-List.is in
    let e = c.in_err-front-in-List.field-0.0 in
    rw (p.1, p.2) (refused-same e _ _ (sym cut) (refused-left e _ _ (c.in_err-front-in-List.ensures.shapes scopes around rs told)))

pub shape_of-returns-in_err-end-in-List-clause-shape :
    goal.shape_of-returns-in_err-end-in-List-clause-shape
shape_of-returns-in_err-end-in-List-clause-shape t c scopes around rs told =
    let p = err_from_is_err_and c.from_residual-in_err-end-in-List.result c.from_residual-in_err-end-in-List.ensures.1 in
    let cut = list_cut c.args.self.now.file (known_names c.args.self.now) scopes c.args.expr.now c.in-List.front c.in-List.end c.in-List.is in
    let e = c.in_err-end-in-List.field-0.0 in
    let still = subst (λ sets. HoldAround sets scopes) (sym c.in_ok-front-in-List.ensures.kept) around in
    rw (p.1, p.2) (refused-same e _ _ (sym cut) (refused-right e _ _ (c.in_ok-front-in-List.ensures.shapes scopes around rs told).1 (c.in_err-end-in-List.ensures.end scopes still rs told)))

pub shape_of-returns-in_ok-end-in-List-clause-shape :
    goal.shape_of-returns-in_ok-end-in-List-clause-shape
shape_of-returns-in_ok-end-in-List-clause-shape t c scopes around rs told =
    let ns = known_names c.args.self.now in
    let v = c.in_ok-front-in-List.front in
    let end = c.in_ok-end-in-List.end in
    let is = ap expr_view c.in-List.is ∙ view-List c.in-List.front c.in-List.end in
    let cut = list_cut c.args.self.now.file ns scopes c.args.expr.now c.in-List.front c.in-List.end c.in-List.is in
    let front = c.in_ok-front-in-List.ensures.shapes scopes around rs told in
    let rest = c.in_ok-end-in-List.ensures.end scopes (subst (λ sets. HoldAround sets scopes) (sym c.in_ok-front-in-List.ensures.kept) around) rs told in (
      record { same = of-List ns v end ∙ ap₂ cue.list front.0.same rest.0.same ∙ ap (resolved rs) (sym is); known = known-List (length ns) v end ∙ ap₂ (λ a b. a && b) front.0.known rest.0.known },
      cut ∙ ap₂ (λ xs ys. xs ++ ys) front.1 rest.1,
    )

pub shape_end-returns-in_err-shape-in-Each-clause-end :
    goal.shape_end-returns-in_err-shape-in-Each-clause-end
shape_end-returns-in_err-shape-in-Each-clause-end t c scopes around rs told =
    let p = err_from_is_err_and c.from_residual.result c.from_residual.ensures.1 in
    let is = ap end_view c.in-Each.is ∙ view-Each c.in-Each.inner ∙ ap (λ e. T.each (expr_view e)) (sym c.deref.ensures) in
    rw (p.1, p.2) (refused-same c.in_err-shape-in-Each.field-0.0 _ _ (ap (λ u. faults_in c.args.self.now.file (known_names c.args.self.now) (places_end scopes u)) (sym is)) (c.in_err-shape-in-Each.ensures.shape scopes around rs told))

pub shape_end-returns-in_ok-new-in-Each-clause-end :
    goal.shape_end-returns-in_ok-new-in-Each-clause-end
shape_end-returns-in_ok-new-in-Each-clause-end t c scopes around rs told =
    let ns = known_names c.args.self.now in
    let is = ap end_view c.in-Each.is ∙ view-Each c.in-Each.inner ∙ ap (λ e. T.each (expr_view e)) (sym c.deref.ensures) in
    let b = c.in_ok-new-in-Each.field-0 in
    let one = c.in_ok-shape-in-Each.ensures.shape scopes around rs told in (
      record { same = of-Each ns b ∙ ap cue.each (ap (expression_of ns) c.in_ok-new-in-Each.ensures.ok ∙ one.0.same) ∙ ap (resolved_end rs) (sym is); known = known-Each (length ns) b ∙ ap (is_known (length ns)) c.in_ok-new-in-Each.ensures.ok ∙ one.0.known },
      ap (λ u. faults_in c.args.self.now.file ns (places_end scopes u)) is ∙ one.1,
    )

-- ---- expressions

pub shapes_of-loop-expr-init : goal.shapes_of-loop-expr-init
shapes_of-loop-expr-init t c = record {
  kept = refl;
  made = λ scopes around rs told. none-made (of_exprs rs c.args.self.now.file (known_names c.args.self.now) scopes) _ _ c.in_ok-shapes.ensures.items;
}

pub shapes_of-returns-in_err-shape-clause-shapes :
    goal.shapes_of-returns-in_err-shape-clause-shapes
shapes_of-returns-in_err-shape-clause-shapes t c scopes around rs told =
    let of = of_exprs rs c.args.self.now.file (known_names c.args.self.now) scopes in
    let l = c.loop-expr in
    let p = err_from_is_err_and c.from_residual-in_err-shape.result c.from_residual-in_err-shape.ensures.1 in
    let still = subst (λ sets. HoldAround sets scopes) (sym l.invariant.kept) around in
    rw (p.1, p.2) (refused-at of c.in_err-shape.field-0.0 l.shapes.items _ _ l.expr-index c.expr-item.result c.loop-expr-test.true c.expr-item.is c.deref-expr-items.ensures.value (l.invariant.made scopes around rs told) (c.in_err-shape.ensures.shape scopes still rs told))

pub shapes_of-loop-expr-preserved : goal.shapes_of-loop-expr-preserved
shapes_of-loop-expr-preserved t c =
    let l = c.loop-expr in record {
      kept = c.in_ok-shape.ensures.kept ∙ l.invariant.kept;
      made = λ scopes around rs told.
          let of = of_exprs rs c.args.self.now.file (known_names c.args.self.now) scopes in
          let one = c.in_ok-shape.ensures.shape scopes (subst (λ sets. HoldAround sets scopes) (sym l.invariant.kept) around) rs told in
          one-made of l.shapes.items _ c.in_ok-shape.shape _ l.expr-index c.expr-item.result c.loop-expr-test.true c.expr-item.is c.in_ok-push.ensures.items (l.invariant.made scopes around rs told) one.0.same one.0.known one.1;
    }

pub shapes_of-returns-clause-kept : goal.shapes_of-returns-clause-kept
shapes_of-returns-clause-kept t c = c.loop-expr.invariant.kept

pub shapes_of-returns-clause-shapes : goal.shapes_of-returns-clause-shapes
shapes_of-returns-clause-shapes t c scopes around rs told =
    let of = of_exprs rs c.args.self.now.file (known_names c.args.self.now) scopes in
    let all = all-made of c.loop-expr.shapes.items _ _ c.loop-expr.expr-index c.loop-expr-test.false c.deref-expr-items.ensures.value (c.loop-expr.invariant.made scopes around rs told) in
    (record { same = ap expressions_of all.0 ∙ all_resolved rs c.args.exprs.now.items; known = all.1 }, all.2)

-- ---- the declarations of a literal

-- the faults of a field: that of its `[string]`, and then those of its value
module _ (rs : Refinements) (file : ℕ) (ns : List (List ℕ)) (scopes : List (List T.Label)) (x : Field) where
  abbrev key_faults : Found
  key_faults = faults_in file ns (key_places scopes x.mark)

  abbrev value_faults : Found
  value_faults = faults_in file ns (places scopes (expr_view x.value))

  field_cut : (of_fields rs file ns scopes).found_at x ≡ key_faults ++ value_faults
  field_cut =
      ap₂ (λ m u. faults_in file ns (key_places scopes m ++ places scopes u)) (view-mark x) (view-value x)
      ∙ faults_in-append file ns (key_places scopes x.mark) (places scopes (expr_view x.value))

  refused-key : (e : ResolveFault) → IsNameRefusal e key_faults → IsNameRefusal e ((of_fields rs file ns scopes).found_at x)
  refused-key e h = refused-same e _ _ (sym field_cut) (refused-left e key_faults value_faults h)

  refused-value : (e : ResolveFault) → key_faults ≡ [] → IsNameRefusal e value_faults → IsNameRefusal e ((of_fields rs file ns scopes).found_at x)
  refused-value e none h = refused-same e _ _ (sym field_cut) (refused-right e key_faults value_faults none h)

  none-field : key_faults ≡ [] → value_faults ≡ [] → (of_fields rs file ns scopes).found_at x ≡ []
  none-field key value = field_cut ∙ ap₂ (λ xs ys. xs ++ ys) key value

pub parts_of-loop-field-init : goal.parts_of-loop-field-init
parts_of-loop-field-init t c = record {
  kept = refl;
  made = λ scopes around rs told. none-made (of_fields rs c.args.self.now.file (known_names c.args.self.now) scopes) _ _ c.in_ok-parts.ensures.items;
}

pub parts_of-returns-in_err-check_key-clause-parts :
    goal.parts_of-returns-in_err-check_key-clause-parts
parts_of-returns-in_err-check_key-clause-parts t c scopes around rs told =
    let ns = known_names c.args.self.now in
    let x = c.field-item.result in
    let l = c.loop-field in
    let own = labels (fields_view c.args.fields.now.items) in
    let inner = own ∷ scopes in
    let within = entered _ _ _ own scopes c.in_ok-push.ensures.items c.in_ok-own.ensures around in
    let p = err_from_is_err_and c.from_residual-in_err-check_key.result c.from_residual-in_err-check_key.ensures.1 in
    let e = c.in_err-check_key.field-0.0 in
    let still = subst (λ sets. HoldAround sets inner) (sym l.invariant.kept) within in
    let here = refused-key rs c.args.self.now.file ns inner x e (c.in_err-check_key.ensures ns inner still) in
    rw (p.1, p.2) (refused-at (of_fields rs c.args.self.now.file ns inner) e l.parts.items _ _ l.field-index x c.loop-field-test.true c.field-item.is c.deref-field-items.ensures.value (l.invariant.made inner within rs told) here)

pub parts_of-returns-in_err-value-clause-parts : goal.parts_of-returns-in_err-value-clause-parts
parts_of-returns-in_err-value-clause-parts t c scopes around rs told =
    let ns = known_names c.args.self.now in
    let x = c.field-item.result in
    let l = c.loop-field in
    let own = labels (fields_view c.args.fields.now.items) in
    let inner = own ∷ scopes in
    let within = entered _ _ _ own scopes c.in_ok-push.ensures.items c.in_ok-own.ensures around in
    let p = err_from_is_err_and c.from_residual-in_err-value.result c.from_residual-in_err-value.ensures.1 in
    let e = c.in_err-value.field-0.0 in
    let still = subst (λ sets. HoldAround sets inner) (sym l.invariant.kept) within in
    let here = refused-value rs c.args.self.now.file ns inner x e (c.in_ok-check_key.ensures ns inner still).1 (c.in_err-value.ensures.shape inner still rs told) in
    rw (p.1, p.2) (refused-at (of_fields rs c.args.self.now.file ns inner) e l.parts.items _ _ l.field-index x c.loop-field-test.true c.field-item.is c.deref-field-items.ensures.value (l.invariant.made inner within rs told) here)

pub parts_of-loop-field-preserved : goal.parts_of-loop-field-preserved
parts_of-loop-field-preserved t c =
    let ns = known_names c.args.self.now in
    let x = c.field-item.result in
    let l = c.loop-field in
    let label : string_bytes c.in_ok-label.label ≡ string_bytes x.label = search rules
    in
    record {
      kept = c.in_ok-value.ensures.kept ∙ l.invariant.kept;
      made = λ scopes around rs told.
          let still = subst (λ sets. HoldAround sets scopes) (sym l.invariant.kept) around in
          let one = c.in_ok-value.ensures.shape scopes still rs told in
          let same = of-Part ns _ ∙ same_declaration _ (declared rs x) (label ∙ sym (view-text x)) (ap mark_of (sym (view-mark x))) (one.0.same ∙ ap (resolved rs) (sym (view-value x))) in
          let none = none-field rs c.args.self.now.file ns scopes x (c.in_ok-check_key.ensures ns scopes still).1 one.1 in
          one-made (of_fields rs c.args.self.now.file ns scopes) l.parts.items _ _ _ l.field-index x c.loop-field-test.true c.field-item.is c.in_ok-push-2.ensures.items (l.invariant.made scopes around rs told) same (known-Part (length ns) _ ∙ one.0.known) none;
    }

pub parts_of-returns-clause-kept : goal.parts_of-returns-clause-kept
parts_of-returns-clause-kept t c = left _ _ _ c.in_ok-own.own (vec_len c.loop-field.around) (c.loop-field.invariant.kept ∙ c.in_ok-push.ensures.items) (omega arith) c.pop.ensures.rest

pub parts_of-returns-clause-parts : goal.parts_of-returns-clause-parts
parts_of-returns-clause-parts t c scopes around rs told =
    let own = labels (fields_view c.args.fields.now.items) in
    let within = entered _ _ _ own scopes c.in_ok-push.ensures.items c.in_ok-own.ensures around in
    let of = of_fields rs c.args.self.now.file (known_names c.args.self.now) (own ∷ scopes) in
    let all = all-made of c.loop-field.parts.items _ _ c.loop-field.field-index c.loop-field-test.false c.deref-field-items.ensures.value (c.loop-field.invariant.made (own ∷ scopes) within rs told) in
    (record { same = ap declarations_of all.0 ∙ all_declared rs c.args.fields.now.items; known = all.1 }, all.2)
