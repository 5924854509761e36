use Rattle.std.proofs.Common.{List, ℕ, length, sym, ap, subst, arith}
use Rattle.std.specs.List.{IsDistinct}
use Rattle.std.specs.Str.{bytes_eq}
use Rattle.cs_package.specs.Environment.{Environment, declared_names}
use Rattle.cs_package.specs.View.{names_of}
use Rattle.cs_package.proofs.Environments.{length-is, names-is}
use Rattle.cs_package.proofs.package.Package.count.Goals as goal

pub returns-clause-length : goal.returns-clause-length
returns-clause-length c =
    let inside = c.self.inside in
    let whole = length-is (names_of inside.names.entries) inside.names.entries inside.bodies.items c.self.invariant.long in
    omega (arith, c.len.ensures, inside.bodies.ok.0, whole, ap length c.self.view_is)

pub returns-clause-distinct : goal.returns-clause-distinct
returns-clause-distinct c =
    let inside = c.self.inside in
    let P : Environment → Type 0 = λ E. IsDistinct bytes_eq (declared_names E) in
    let Q : List (List ℕ) → Type 0 = λ ns. IsDistinct bytes_eq ns in
    subst P c.self.view_is (subst Q (sym (names-is (names_of inside.names.entries) inside.names.entries inside.bodies.items c.self.invariant.long)) c.self.invariant.table.distinct)
