-- What the code remembers of the declarations so far that aren't plain; for private contracts alone.
use Rattle.std.specs.Prelude.{◌≡◌, ℕ, Bool, true, false, ◌&&◌, ◌||◌, not, if◌then◌else◌, List, [], Option, Some, None}
use Rattle.std.specs.List.{filter, list_any}
use Rattle.std.specs.Str.{bytes_eq}
use Rattle.std.specs.BTreeMap.{get_by}
use Rattle.std.specs.Cmp.Lexicographic.{slice_cmp}
use Rattle.std.specs.Ordering.{nat_cmp}
use Rattle.cs_grammar.specs.Tree.{Tree}
use Rattle.cs_grammar.specs.View.{expr_view}
use Rattle.cs_embeddings.specs.Alternatives.{Brought}
use Rattle.cs_embeddings.specs.Clashes.{is_same_reference, is_same_embedding, are_apart, may_open}
use Rattle.cs_embeddings.specs.Gathered.{is_every}
use Rattle.cs_embeddings.specs.Held.{holds}
use Rattle.cs_embeddings.specs.Views.{brought_view}
use Rattle.cs_embeddings.specs.declared.alternatives.Brought as brought
use Rattle.cs_embeddings.specs.declared.clashes.Seen.{Seen}
use Rattle.cs_embeddings.specs.declared.clashes.Groups.{Groups}
use Rattle.cs_embeddings.specs.declared.clashes.Group.{Group}
use Rattle.cs_embeddings.specs.declared.clashes.Values.{Values}
use Rattle.cs_embeddings.specs.declared.clashes.Values.TheVariants.{Nothing, Alike, Apart}
use Rattle.cs_embeddings.specs.declared.clashes.Embeddings.{Embeddings}
use Rattle.cs_embeddings.specs.declared.clashes.Embeddings.TheVariants.{Nowhere, One, Several}

-- a declaration whose value isn't the same reference as e
abbrev pub is_unlike : Tree → Brought → Bool
is_unlike e d = not (is_same_reference d.value e)

-- a declaration that doesn't come from the embedding
abbrev pub is_elsewhere : Option ℕ → Brought → Bool
is_elsewhere o d = not (is_same_embedding d.embedding o)

-- one that comes from where c comes from
abbrev pub is_beside : Brought → Brought → Bool
is_beside c d = is_same_embedding c.embedding d.embedding

abbrev pub is_not_beside : Brought → Brought → Bool
is_not_beside c d = not (is_beside c d)

-- one that may open what is closed in d, or the other way round
abbrev pub opens : Brought → Brought → Bool
opens d c = (may_open c || may_open d) && are_apart c d

abbrev pub is_of_label : List ℕ → Brought → Bool
is_of_label s d = bytes_eq d.label.text s

abbrev pub is_of_every : Brought → Bool
is_of_every d = is_every d.mark

-- where a declaration holds a struct literal or a reference, unless a condition made it
abbrev pub held_at : Brought → Option ℕ
held_at d = if d.label.asked then None else holds d.value

-- what is remembered of values says which others aren't the same reference as one of them
abbrev pub differ_of : Values → Tree → Bool
differ_of Nothing e = false
differ_of (Alike f) e = not (is_same_reference (expr_view f.now) e)
differ_of Apart e = true

abbrev pub TellsValues : Values → List Brought → Type 0
TellsValues v ds = (e : Tree) → list_any (is_unlike e) ds ≡ differ_of v e

-- and of embeddings, whether there is another one
abbrev pub other_of : Embeddings → Option ℕ → Bool
other_of Nowhere o = false
other_of (One p) o = not (is_same_embedding p o)
other_of Several o = true

abbrev pub TellsEmbeddings : Embeddings → List Brought → Type 0
TellsEmbeddings m ds = (o : Option ℕ) → list_any (is_elsewhere o) ds ≡ other_of m o

-- declarations, of which f is the first one
pub record TellsFrom (g : Group) (f : Brought) (ds : List Brought) : Type 0 where
  pub own : TellsValues g.own (filter (is_beside f) ds)
  pub others : TellsValues g.others (filter (is_not_beside f) ds)
  pub apart : TellsEmbeddings g.apart (filter (are_apart f) ds)

abbrev pub TellsFirst : Option brought.Brought → Group → List Brought → Type 0
TellsFirst None g ds = (ds ≡ []) × ((f : Brought) → TellsFrom g f [])
TellsFirst (Some f) g ds = ((p : Brought → Bool) → p (brought_view f) ≡ true → list_any p ds ≡ true) × TellsFrom g (brought_view f) ds

abbrev pub TellsGroup : Group → List Brought → Type 0
TellsGroup g ds = TellsFirst g.first g ds

-- and those of them that may open
pub record TellsGroups (g : Groups) (ds : List Brought) : Type 0 where
  pub all : TellsGroup g.all ds
  pub opening : TellsGroup g.opening (filter may_open ds)

-- those of a label
abbrev pub TellsLabel : Option Groups → List Brought → Type 0
TellsLabel None ds = ds ≡ []
TellsLabel (Some g) ds = TellsGroups g ds

pub record TellsSeen (seen : Seen) (before : List Brought) : Type 0 where
  pub all : TellsGroups seen.all before
  pub every : TellsGroups seen.every (filter is_of_every before)
  pub labels : (s : List ℕ) → TellsLabel (get_by (λ k. slice_cmp nat_cmp s k.now) seen.by_label) (filter (is_of_label s) before)
