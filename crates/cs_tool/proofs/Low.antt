-- What files of low bodies declare is low.
use Rattle.std.proofs.Common.{◌≡◌, ℕ, ◌≤◌, Bool, true, false, cond, List, [], ◌∷◌, map, Some, unwrap_or, max, refl, sym, ap₂, subst, arith}
use Rattle.std.specs.List.{AllByRecursion, flat_map}
use Rattle.std.specs.Prelude.{filter, nat_le}
use Rattle.std.proofs.lemmas.Bool.Decides.{nat_tests}
use Rattle.std.specs.Str.{bytes_eq}
use Rattle.cs_grammar.specs.Height as tree
use Rattle.cs_grammar.specs.Limits.{most_height}
use Rattle.cs_grammar.specs.declared.profile.Profile.{Profile}
use Rattle.cs_syntax.proofs.Heights.{no_height}
use Rattle.cs_grammar.specs.Tree as T
use Rattle.cs_grammar.specs.Tree.{Tree, Trees, Fields, End, DefinitionTree, body, defined_name, FileTree, definitions}
use Rattle.cs_resolve.specs.Declarations as declared
use Rattle.cs_package.specs.Environment.{Environment, bodies}
use Rattle.cs_package.specs.Expression as cue
use Rattle.cs_package.specs.Expression.{Expression, Expressions, atom, bottom}
use Rattle.cs_package.specs.Height.{height, height_all, height_fields, height_rest, heights, IsLow}
use Rattle.cs_resolve.specs.Predeclared.{names, among, predeclared}
use Rattle.cs_resolve.specs.Refinement.{Refinements}
use Rattle.cs_resolve.specs.Resolved.{read_opened, all_opened, narrowed_operands, resolved, resolved_all, resolved_fields, resolved_end, environment_of_files}
use Rattle.cs_tool.specs.Accepted.{IsAccepted}
use Rattle.cs_tool.proofs.Written.{meant_low}

-- ---- what is resolved is no higher than it was

-- what a name names has no parts
flat_among : (t : List ℕ) (ns : List (List ℕ × Expression)) → AllByRecursion (λ (n : List ℕ × Expression). height n.1 ≡ 1) ns → height (unwrap_or (among t ns) (atom bottom)) ≡ 1
flat_among t [] h = refl
flat_among t (n ∷ ns) h = by (bytes_eq t n.0) (flat_among t ns h.1)
  where
    by : (b : Bool) → height (unwrap_or (among t ns) (atom bottom)) ≡ 1 → height (unwrap_or (cond b (Some n.1) (among t ns)) (atom bottom)) ≡ 1
    by true rest = h.0
    by false rest = rest

flat_name : (t : List ℕ) → height (unwrap_or (predeclared t) (atom bottom)) ≡ 1
flat_name t = flat_among t names (refl, (refl, (refl, (refl, (refl, (refl, (refl, (refl, (refl, (refl, (refl, (refl, tt))))))))))))

-- an operand that is read as opened is as high as it was
opened_height : (e : Expression) → height (read_opened e) ≡ height e
opened_height (cue.atom a) = refl
opened_height (cue.kind k) = refl
opened_height (cue.range least greatest) = refl
opened_height (cue.reference n) = refl
opened_height (cue.conjunction es) = refl
opened_height (cue.disjunction es) = refl
opened_height (cue.struct ds opened) = refl
opened_height (cue.list es rest) = refl

all_height : (es : Expressions) → height_all (all_opened es) ≡ height_all es
all_height cue.no_expressions = refl
all_height (cue.expression e es) = ap₂ max (opened_height e) (all_height es)

narrowed_height : (b : Bool) (es : Expressions) → height_all (narrowed_operands b es) ≡ height_all es
narrowed_height true es = all_height es
narrowed_height false es = refl

-- what stands for a form of the wide profile has no parts
at_least_one : (n : ℕ) → nat_le n 0 ≡ false → 1 ≤ n
at_least_one n h = grind (arith, nat_tests)

-- the same of trees, where these are the plain refinements
module _ (rs : Refinements) where
  mutual
    low : (t : Tree) → height (resolved rs t) ≤ tree.height t
    low (T.named t o) = omega (arith, flat_name t)
    low (T.conjunction ts) = omega (arith, narrowed_height (rs ts) (resolved_all rs ts), low_all ts)
    low (T.disjunction ts) = omega (arith, low_all ts)
    low (T.paren t) = omega (arith, low t)
    low (T.struct o fs b) = omega (arith, low_under fs)
    low (T.list ts end) = omega (arith, low_all ts, low_end end)
    low (T.atom a) = omega arith
    low (T.reference t o) = omega arith
    low (T.wide w) = at_least_one (tree.height (T.wide w)) (no_height (T.wide w) 0 refl)

    low_all : (ts : Trees) → height_all (resolved_all rs ts) ≤ tree.height_all ts
    low_all T.none = omega arith
    low_all (T.more t ts) = omega (arith, low t, low_all ts)

    low_under : (fs : Fields) → height_fields (resolved_fields rs fs) ≤ tree.height_fields fs
    low_under T.no_field = omega arith
    low_under (T.field l m t fs) = omega (arith, low t, low_under fs)

    low_end : (end : End) → height_rest (resolved_end rs end) ≤ tree.height_end end
    low_end T.closed = omega arith
    low_end T.any = omega arith
    low_end (T.each t) = low t

  -- the bodies of one name are some of all
  low_bodies : (n : List ℕ) (ds : List DefinitionTree) → heights (map (resolved rs) (declared.bodies_of n ds)) ≤ tree.height_definitions ds
  low_bodies n [] = omega arith
  low_bodies n (d ∷ ds) = by (bytes_eq (defined_name d) n) (low_bodies n ds)
    where
      by : (b : Bool) → heights (map (resolved rs) (declared.bodies_of n ds)) ≤ tree.height_definitions ds
          → heights (map (resolved rs) (map body (cond b (d ∷ filter (λ x. bytes_eq (defined_name x) n) ds) (filter (λ x. bytes_eq (defined_name x) n) ds)))) ≤ tree.height_definitions (d ∷ ds)
      by true h = omega (arith, low (body d), h)
      by false h = omega (arith, h)

  low_named : (ds : List DefinitionTree) (ns : List (List ℕ)) (n : List ℕ) (es : List Expression) → bodies (map (λ (d : List ℕ × List Tree). (d.0, map (resolved rs) d.1)) (map (λ (m : List ℕ). (m, declared.bodies_of m ds)) ns)) n ≡ Some es → heights es ≤ tree.height_definitions ds
  low_named ds [] n es is = cc
  low_named ds (m ∷ ns) n es is = by (bytes_eq n m) (low_named ds ns n es) is
    where
      by : (b : Bool) → (bodies (map (λ (d : List ℕ × List Tree). (d.0, map (resolved rs) d.1)) (map (λ (k : List ℕ). (k, declared.bodies_of k ds)) ns)) n ≡ Some es → heights es ≤ tree.height_definitions ds)
          → cond b (Some (map (resolved rs) (declared.bodies_of m ds))) (bodies (map (λ (d : List ℕ × List Tree). (d.0, map (resolved rs) d.1)) (map (λ (k : List ℕ). (k, declared.bodies_of k ds)) ns)) n) ≡ Some es → heights es ≤ tree.height_definitions ds
      by true rest e = let same : map (resolved rs) (declared.bodies_of m ds) ≡ es = cc in subst (λ fs. heights fs ≤ tree.height_definitions ds) same (low_bodies m ds)
      by false rest e = rest e

-- what low files declare is low
low_files : (rs : Refinements) (fs : List FileTree) → tree.height_definitions (flat_map definitions fs) ≤ most_height → IsLow (environment_of_files rs fs)
low_files rs fs low n es is =
    let ds = flat_map definitions fs in
    let bound = low_named rs ds (declared.names ds) n es is in
    omega (arith, bound, low)

-- what accepted sources declare is low
pub low_accepted : (p : Profile) (ss : List (List ℕ)) (E : Environment) → IsAccepted p ss E → IsLow E
low_accepted p ss E a =
    let low = meant_low p ss a.files a.meant a.spelled a.stand_for in
    subst IsLow (sym a.one_package.declares) (low_files a.one_package.refinements a.meant low)
