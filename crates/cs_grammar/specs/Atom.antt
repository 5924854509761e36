-- Atoms: expressions without parts that name nothing (CUE language specification, "Values", "Literals" and "Bounds").
use Rattle.std.specs.Prelude.{ℕ, ℤ, Bool, List}

-- the relations of `<n`, `<=n`, `>n`, `>=n`
pub data Relation : Type 0 where
  less at_most more at_least : Relation

pub data Atom : Type 0 where
  -- `_` and `_|_`
  top bottom : Atom
  -- a literal
  null : Atom
  boolean : Bool → Atom
  integer : ℤ → Atom
  text : List ℕ → Atom
  -- `<n` and its like, `!=n`, `!="s"` and `!=null`
  bound : Relation → ℤ → Atom
  not_integer : ℤ → Atom
  not_text : List ℕ → Atom
  not_null : Atom
