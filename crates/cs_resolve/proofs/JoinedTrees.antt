-- What well-formed files resolve to has two operands or more at each `&` and each `|`.
use Rattle.std.proofs.Common.{ℕ, Bool, true, false, cond, List, [], ◌∷◌, ◌++◌, map, filter, Option, Some, unwrap_or}
use Rattle.std.specs.List.{AllByRecursion, flat_map}
use Rattle.std.specs.Str.{bytes_eq}
use Rattle.cs_grammar.specs.Tree as T
use Rattle.cs_grammar.specs.Tree.{Tree, Trees, Fields, End, DefinitionTree, defined_name, body, FileTree, definitions}
use Rattle.cs_grammar.specs.Written.{AreTwo}
use Rattle.cs_package.specs.Expression as cue
use Rattle.cs_package.specs.Expression.{Expression, Expressions}
use Rattle.cs_package.specs.Joined.{HasTwo, IsJoined, AreJoined, AreJoinedFields, IsJoinedRest}
use Rattle.cs_resolve.specs.Predeclared as Predeclared
use Rattle.cs_resolve.specs.Refinement.{Refinements}
use Rattle.cs_resolve.specs.Resolved.{read_opened, all_opened, narrowed_operands, resolved, resolved_all, resolved_fields, resolved_end}
use Rattle.cs_resolve.specs.Steps.{gathered}
use Rattle.cs_resolve.specs.WellFormed.{IsWellFormed, AreWellFormed, AreWellFormedFields, IsWellFormedEnd, IsWellFormedDefinition, AreWellFormedFiles}

-- ---- names

-- one of two
pub either : {X : Type 0} (P : X → Type 0) (b : Bool) (x y : X) → P x → P y → P (cond b x y)
either P true x y p q = p
either P false x y p q = q

-- the expression of a name, with what stands for none
abbrev OrBottom : Option Expression → Type 0
OrBottom o = IsJoined (unwrap_or o (cue.atom cue.bottom))

among : (t : List ℕ) (ns : List (List ℕ × Expression)) → AllByRecursion (λ n. IsJoined n.1) ns → OrBottom (Predeclared.among t ns)
among t [] h = tt
among t (n ∷ ns) h = either OrBottom (bytes_eq t n.0) (Some n.1) (Predeclared.among t ns) h.0 (among t ns h.1)

all_names : AllByRecursion (λ n. IsJoined n.1) Predeclared.names
all_names = (tt, (tt, (tt, (tt, (tt, (tt, (tt, (tt, (tt, (tt, (tt, (tt, tt))))))))))))

-- ---- operands of a plain refinement

opened_joined : (e : Expression) → IsJoined e → IsJoined (read_opened e)
opened_joined (cue.atom a) h = h
opened_joined (cue.kind k) h = h
opened_joined (cue.range least greatest) h = h
opened_joined (cue.reference n) h = h
opened_joined (cue.conjunction es) h = h
opened_joined (cue.disjunction es) h = h
opened_joined (cue.struct ds opened) h = h
opened_joined (cue.list es rest) h = h

all_opened_joined : (es : Expressions) → AreJoined es → AreJoined (all_opened es)
all_opened_joined cue.no_expressions h = h
all_opened_joined (cue.expression e es) h = (opened_joined e h.0, all_opened_joined es h.1)

two_opened : (es : Expressions) → HasTwo es → HasTwo (all_opened es)
two_opened cue.no_expressions h = h
two_opened (cue.expression e cue.no_expressions) h = h
two_opened (cue.expression e (cue.expression f es)) h = h

-- they are as many as before
narrowed_joined : (b : Bool) (es : Expressions) → HasTwo es × AreJoined es → HasTwo (narrowed_operands b es) × AreJoined (narrowed_operands b es)
narrowed_joined true es h = (two_opened es h.0, all_opened_joined es h.1)
narrowed_joined false es h = h

-- ---- where these are the plain refinements

two_resolved : (rs : Refinements) (es : Trees) → AreTwo es → HasTwo (resolved_all rs es)
two_resolved rs T.none h = h
two_resolved rs (T.more e T.none) h = h
two_resolved rs (T.more e (T.more f es)) h = tt

module _ (rs : Refinements) where
  mutual
    of_tree : (e : Tree) → IsWellFormed e → IsJoined (resolved rs e)
    of_tree (T.atom a) h = tt
    of_tree (T.named n o) h = among n Predeclared.names all_names
    of_tree (T.reference n o) h = tt
    of_tree (T.conjunction es) h = narrowed_joined (rs es) (resolved_all rs es) (two_resolved rs es h.0, of_trees es h.1)
    of_tree (T.disjunction es) h = (two_resolved rs es h.0, of_trees es h.1)
    of_tree (T.paren e) h = of_tree e h
    of_tree (T.struct o fs opened) h = of_fields fs h
    of_tree (T.list es end) h = (of_trees es h.0, of_end end h.1)
    of_tree (T.wide w) h = tt

    of_trees : (es : Trees) → AreWellFormed es → AreJoined (resolved_all rs es)
    of_trees T.none h = tt
    of_trees (T.more e es) h = (of_tree e h.0, of_trees es h.1)

    of_fields : (fs : Fields) → AreWellFormedFields fs → AreJoinedFields (resolved_fields rs fs)
    of_fields T.no_field h = tt
    of_fields (T.field l m e fs) h = (of_tree e h.0, of_fields fs h.1)

    of_end : (end : End) → IsWellFormedEnd end → IsJoinedRest (resolved_end rs end)
    of_end T.closed h = tt
    of_end T.any h = tt
    of_end (T.each e) h = of_tree e h

  -- ---- files

  abbrev AreBodiesJoined : List DefinitionTree → Type 0
  AreBodiesJoined ds = AllByRecursion (λ d. IsJoined (resolved rs (body d))) ds

  of_definitions : (ds es : List DefinitionTree) → AllByRecursion IsWellFormedDefinition ds → AreBodiesJoined es → AreBodiesJoined (ds ++ es)
  of_definitions [] es h k = k
  of_definitions (d ∷ ds) es h k = (of_tree (body d) h.0.1, of_definitions ds es h.1 k)

  of_files : (fs : List FileTree) → AreWellFormedFiles fs → AreBodiesJoined (flat_map definitions fs)
  of_files [] h = tt
  of_files (f ∷ fs) h = of_definitions (definitions f) (flat_map definitions fs) h.0 (of_files fs h.1)

  -- ---- bodies under their names

  abbrev AllJoined : List Expression → Type 0
  AllJoined es = AllByRecursion IsJoined es

  of_bodies : (p : DefinitionTree → Bool) (ds : List DefinitionTree) → AreBodiesJoined ds → AllJoined (map (resolved rs) (map body (filter p ds)))
  of_bodies p [] h = tt
  of_bodies p (d ∷ ds) h = either (λ es. AllJoined (map (resolved rs) (map body es))) (p d) (d ∷ filter p ds) (filter p ds) (h.0, of_bodies p ds h.1) (of_bodies p ds h.1)

  of_names : (ns : List (List ℕ)) (ds : List DefinitionTree) → AreBodiesJoined ds → AllByRecursion AllJoined (gathered rs ns ds)
  of_names [] ds h = tt
  of_names (n ∷ ns) ds h = (of_bodies (λ d. bytes_eq (defined_name d) n) ds h, of_names ns ds h)

  -- the resolved bodies that well-formed files give to names
  pub joined-gathered : (ns : List (List ℕ)) (fs : List FileTree) → AreWellFormedFiles fs → AllByRecursion AllJoined (gathered rs ns (flat_map definitions fs))
  joined-gathered ns fs h = of_names ns (flat_map definitions fs) (of_files fs h)
