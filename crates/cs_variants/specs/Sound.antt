-- Expressions as a package wants them: each reference is to a number below the count, and each `&` and `|`, at any depth, has
-- two operands or more. For private contracts and proofs alone.
use Rattle.std.specs.Prelude.{◌≡◌, ℕ, true, List}
use Rattle.cs_package.specs.Joined.{IsJoined, IsJoinedRest}
use Rattle.cs_package.specs.View.{expression_of, part_of, rest_of, is_known, is_known_part, is_known_end}
use Rattle.cs_package.specs.declared.shape.Shape.{Shape}
use Rattle.cs_package.specs.declared.shape.ShapeEnd.{ShapeEnd}
use Rattle.cs_package.specs.declared.shape.Part.{Part}

pub record IsSound (count : ℕ) (s : Shape) : Type 0 where
  pub known : is_known count s ≡ true
  pub joined : (ns : List (List ℕ)) → IsJoined (expression_of ns s)

pub record IsSoundPart (count : ℕ) (p : Part) : Type 0 where
  pub known : is_known_part count p ≡ true
  pub joined : (ns : List (List ℕ)) → IsJoined (part_of ns p).value

pub record IsSoundEnd (count : ℕ) (e : ShapeEnd) : Type 0 where
  pub known : is_known_end count e ≡ true
  pub joined : (ns : List (List ℕ)) → IsJoinedRest (rest_of ns e)
