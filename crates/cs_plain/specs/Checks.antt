-- What declarations have, one after another, and what the tables tell.
use Rattle.std.specs.Prelude.{◌≡◌, ℕ, Bool, false, ◌&&◌, not, List, [], ◌∷◌, Option, Some, None, if◌then◌else◌}
use Rattle.std.specs.Borrow.{Bor}
use Rattle.std.specs.declared.alloc.Global.{Global}
use Rattle.std.specs.declared.vec.Vec.{Vec}
use Rattle.cs_grammar.specs.Tree.{Tree, Trees}
use Rattle.cs_grammar.specs.View.{Seen, SeenDeclaration, field_seen, embedding_seen, conditional_seen, exprs_view}
use Rattle.cs_grammar.specs.declared.ast.Expr.{Expr}
use Rattle.cs_plain.specs.Bodies.{Body, TellsBodies}
use Rattle.cs_plain.specs.Placed.{as_embedded, fits, hides_label, placed, value_of}
use Rattle.cs_plain.specs.Plain.{is_single, are_single, is_alternative, are_alternatives}
use Rattle.cs_plain.specs.References.{is_reference, references, is_among, TellsTexts}
use Rattle.cs_plain.specs.declared.placed.Placing.{Placing}
use Rattle.cs_plain.specs.declared.standing.Standing.{Standing}

abbrev pub references_seen : Bool → SeenDeclaration → List (List ℕ)
references_seen all (field_seen f) = references all f.value
references_seen all (embedding_seen o e) = if is_reference e && not all then [] else references all e
references_seen all (conditional_seen o cs e) = references all e

-- ---- plain values

abbrev pub only_single : Tree → Option Tree
only_single e = if is_single e then Some e else None

abbrev pub only_alternative : Tree → Option Tree
only_alternative e = if is_alternative e then Some e else None

abbrev pub exprs_of : Vec Expr Global → Trees
exprs_of v = exprs_view v.items

abbrev pub only_singles : Trees → Option Trees
only_singles es = if are_single es then Some es else None

abbrev pub only_alternatives : Trees → Option Trees
only_alternatives es = if are_alternatives es then Some es else None

-- no text, or one
abbrev pub texts_of : Option (Bor (List ℕ)) → List (List ℕ)
texts_of None = []
texts_of (Some t) = t.now ∷ []

-- ---- values in their places

-- a value that may stand there
abbrev pub fitting : Standing → Option Tree → Option Tree
fitting p None = None
fitting p (Some e) = if fits p e then Some e else None

-- the tables tell the values of names, and which fields hide a kind
pub record TellsPlacing (p : Placing) (value : List ℕ → Option Tree) (hides : List ℕ → Bool) : Type 0 where
  pub names : List (List ℕ)
  pub told_names : TellsTexts p.names.now names
  pub all : List Body
  pub told_all : TellsBodies p.all.now all
  pub here : List Body
  pub told_here : TellsBodies p.here.now here
  pub kinds : List (List ℕ)
  pub told_kinds : TellsTexts p.kinds.now kinds
  pub is_value : value ≡ value_of names all here
  pub is_hidden : hides ≡ is_among kinds

module _ (value : List ℕ → Option Tree) (hides : List ℕ → Bool) where
  abbrev pub hides_seen : SeenDeclaration → Bool
  hides_seen (field_seen f) = hides_label value hides f.label
  hides_seen (embedding_seen o e) = false
  hides_seen (conditional_seen o cs e) = false

  abbrev pub placed_field_seen : Standing → Seen → Seen
  placed_field_seen p f = record { label = f.label; mark = f.mark; value = placed value hides p f.value }

  abbrev pub placed_embedded : Standing → Tree → Tree
  placed_embedded p e = placed value hides (as_embedded (is_reference e) p) e

  abbrev pub placed_seen : Standing → SeenDeclaration → SeenDeclaration
  placed_seen p (field_seen f) = field_seen (placed_field_seen p f)
  placed_seen p (embedding_seen o e) = embedding_seen o (placed_embedded p e)
  placed_seen p (conditional_seen o cs e) = conditional_seen o cs (placed_embedded p e)
