-- The operands of `&` as the code has them, where some are plain and the others are put together; for private contracts alone.
use Rattle.std.specs.Prelude.{Bool, true, List, [], ◌∷◌, if◌then◌else◌, Option, Some, None}
use Rattle.cs_grammar.specs.Tree.{Tree}
use Rattle.cs_grammar.specs.View.{expr_view}
use Rattle.cs_embeddings.specs.Held.{is_plain}
use Rattle.cs_embeddings.specs.declared.held.Operand.{Operand}
use Rattle.cs_embeddings.specs.declared.held.Operand.TheVariants.{Plain, Together}

-- a plain operand; none stands for all others
abbrev pub operand_view : Operand → Option Tree
operand_view (Plain e) = Some (expr_view e.now)
operand_view Together = None

-- `met` says whether one that isn't plain is before
abbrev pub standing : Bool → List Tree → List (Option Tree)
standing met [] = []
standing met (e ∷ es) = if is_plain e then Some e ∷ standing met es else if met then standing true es else None ∷ standing true es

-- the operand, or t for the others
abbrev pub standing_tree : Tree → Option Tree → Tree
standing_tree t None = t
standing_tree t (Some e) = e
