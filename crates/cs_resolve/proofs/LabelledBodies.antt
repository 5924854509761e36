-- Files without `[string]` declare an environment without it.
use Rattle.std.proofs.Common.{ℕ, Bool, true, false, cond, List, [], ◌∷◌, ◌++◌, map, filter, Option, Some, unwrap_or}
use Rattle.std.specs.List.{AllByRecursion, flat_map}
use Rattle.std.specs.Str.{bytes_eq}
use Rattle.cs_grammar.specs.declared.ast.FieldMark.{FieldMark}
use Rattle.cs_grammar.specs.declared.ast.FieldMark.TheVariants.{Regular, Optional, Required, Every}
use Rattle.cs_grammar.specs.Labels as tree
use Rattle.cs_grammar.specs.Tree as T
use Rattle.cs_grammar.specs.Tree.{Tree, Trees, Fields, End, DefinitionTree, defined_name, body, FileTree, definitions}
use Rattle.cs_package.specs.Expression as cue
use Rattle.cs_package.specs.Expression.{Expression, Expressions, mark_of}
use Rattle.cs_package.specs.Labels.{HasLabel, IsLabelled, AreLabelled, AreLabelledFields, IsLabelledRest, IsLabelledEnvironment}
use Rattle.cs_resolve.specs.Declarations.{names, bodies_of}
use Rattle.cs_resolve.specs.Predeclared as Predeclared
use Rattle.cs_resolve.specs.Refinement.{Refinements}
use Rattle.cs_resolve.specs.Resolved.{read_opened, all_opened, narrowed_operands, resolved, resolved_all, resolved_fields, resolved_end, environment_of_files}
use Rattle.cs_resolve.proofs.JoinedTrees.{either}

-- ---- names

-- the expression of a name, with what stands for none
abbrev OrBottom : Option Expression → Type 0
OrBottom o = IsLabelled (unwrap_or o (cue.atom cue.bottom))

among : (t : List ℕ) (ns : List (List ℕ × Expression)) → AllByRecursion (λ n. IsLabelled n.1) ns → OrBottom (Predeclared.among t ns)
among t [] h = tt
among t (n ∷ ns) h = either OrBottom (bytes_eq t n.0) (Some n.1) (Predeclared.among t ns) h.0 (among t ns h.1)

all_names : AllByRecursion (λ n. IsLabelled n.1) Predeclared.names
all_names = (tt, (tt, (tt, (tt, (tt, (tt, (tt, (tt, (tt, (tt, (tt, (tt, tt))))))))))))

-- ---- operands of a plain refinement

opened_labelled : (e : Expression) → IsLabelled e → IsLabelled (read_opened e)
opened_labelled (cue.atom a) h = h
opened_labelled (cue.kind k) h = h
opened_labelled (cue.range least greatest) h = h
opened_labelled (cue.reference n) h = h
opened_labelled (cue.conjunction es) h = h
opened_labelled (cue.disjunction es) h = h
opened_labelled (cue.struct ds opened) h = h
opened_labelled (cue.list es rest) h = h

all_opened_labelled : (es : Expressions) → AreLabelled es → AreLabelled (all_opened es)
all_opened_labelled cue.no_expressions h = h
all_opened_labelled (cue.expression e es) h = (opened_labelled e h.0, all_opened_labelled es h.1)

narrowed_labelled : (b : Bool) (es : Expressions) → AreLabelled es → AreLabelled (narrowed_operands b es)
narrowed_labelled true es h = all_opened_labelled es h
narrowed_labelled false es h = h

-- ---- trees

mark_labelled : (m : FieldMark) → tree.HasLabel m → HasLabel (mark_of m)
mark_labelled Regular h = tt
mark_labelled Optional h = tt
mark_labelled Required h = tt
mark_labelled (Every o) h = h

-- where these are the plain refinements
module _ (rs : Refinements) where
  mutual
    resolved_labelled : (t : Tree) → tree.IsLabelled t → IsLabelled (resolved rs t)
    resolved_labelled (T.atom a) h = tt
    resolved_labelled (T.named t o) h = among t Predeclared.names all_names
    resolved_labelled (T.reference t o) h = tt
    resolved_labelled (T.conjunction ts) h = narrowed_labelled (rs ts) (resolved_all rs ts) (all_labelled ts h)
    resolved_labelled (T.disjunction ts) h = all_labelled ts h
    resolved_labelled (T.paren t) h = resolved_labelled t h
    resolved_labelled (T.struct o fs opened) h = fields_labelled fs h
    resolved_labelled (T.list ts end) h = (all_labelled ts h.0, end_labelled end h.1)
    resolved_labelled (T.wide w) h = tt

    all_labelled : (ts : Trees) → tree.AreLabelled ts → AreLabelled (resolved_all rs ts)
    all_labelled T.none h = tt
    all_labelled (T.more t ts) h = (resolved_labelled t h.0, all_labelled ts h.1)

    fields_labelled : (fs : Fields) → tree.AreLabelledFields fs → AreLabelledFields (resolved_fields rs fs)
    fields_labelled T.no_field h = tt
    fields_labelled (T.field l m t fs) h = (mark_labelled m h.0, resolved_labelled t h.1, fields_labelled fs h.2)

    end_labelled : (end : End) → tree.IsLabelledEnd end → IsLabelledRest (resolved_end rs end)
    end_labelled T.closed h = tt
    end_labelled T.any h = tt
    end_labelled (T.each t) h = resolved_labelled t h

  -- ---- definitions

  bodies_labelled : (p : DefinitionTree → Bool) (ds : List DefinitionTree) → AllByRecursion (λ d. tree.IsLabelled (body d)) ds → AllByRecursion IsLabelled (map (resolved rs) (map body (filter p ds)))
  bodies_labelled p [] h = tt
  bodies_labelled p (d ∷ ds) h = by (p d) (resolved_labelled (body d) h.0) (bodies_labelled p ds h.1)
    where
      by : (b : Bool) → IsLabelled (resolved rs (body d)) → AllByRecursion IsLabelled (map (resolved rs) (map body (filter p ds))) → AllByRecursion IsLabelled (map (resolved rs) (map body (cond b (d ∷ filter p ds) (filter p ds))))
      by true first rest = (first, rest)
      by false first rest = rest

  declared_labelled : (ns : List (List ℕ)) (ds : List DefinitionTree) → AllByRecursion (λ d. tree.IsLabelled (body d)) ds → IsLabelledEnvironment (map (λ (d : List ℕ × List Tree). (d.0, map (resolved rs) d.1)) (map (λ n. (n, bodies_of n ds)) ns))
  declared_labelled [] ds h = tt
  declared_labelled (n ∷ ns) ds h = (bodies_labelled (λ d. bytes_eq (defined_name d) n) ds h, declared_labelled ns ds h)

both : {X : Type 0} (P : X → Type 0) (xs ys : List X) → AllByRecursion P xs → AllByRecursion P ys → AllByRecursion P (xs ++ ys)
both P [] ys h k = k
both P (x ∷ xs) ys h k = (h.0, both P xs ys h.1 k)

definitions_labelled : (fs : List FileTree) → AllByRecursion tree.IsLabelledFile fs → AllByRecursion (λ d. tree.IsLabelled (body d)) (flat_map definitions fs)
definitions_labelled [] h = tt
definitions_labelled (f ∷ fs) h = both (λ d. tree.IsLabelled (body d)) (definitions f) (flat_map definitions fs) h.0 (definitions_labelled fs h.1)

pub environment_labelled : (rs : Refinements) (fs : List FileTree) → AllByRecursion tree.IsLabelledFile fs → IsLabelledEnvironment (environment_of_files rs fs)
environment_labelled rs fs h = let ds = flat_map definitions fs in declared_labelled rs (names ds) ds (definitions_labelled fs h)
