-- What the causes of the code stand for. A member is named by its place in the map.
use Rattle.std.specs.Prelude.{◌≡◌, ℕ, Bool, List, Some, slice_get}
use Rattle.cs_document.specs.Document.{Entry}
use Rattle.cs_document.specs.Opened.{Opened, an_object}
use Rattle.cs_table.specs.Judged.{AllVerdicts}
use Rattle.cs_instance_reasons.specs.Causes.{Cause, part, alternative, member, element, unmet, few, many, no_alternative, missing, extra, IsCause}
use Rattle.cs_instance.specs.Constraint.{Constraint}
use Rattle.cs_instance_reasons.specs.declared.cause.InstanceCause.{InstanceCause}
use Rattle.cs_instance_reasons.specs.declared.cause.InstanceCause.TheVariants.{Part, Alternative, Member, Element, Unmet, Missing, Extra, Few, Many, NoAlternative}

-- as a cause of the item i, opened, and the rule r
pub data IsSeenAs (i r : ℕ) (x : Opened ℕ) : InstanceCause → Cause ℕ ℕ ℕ → Type 0 where
  a_part : {q k : ℕ} → IsSeenAs i r x (Part i q k) (part k q)
  an_alternative : {q k : ℕ} → IsSeenAs i r x (Alternative i q k) (alternative k q)
  a_member : {ms : List (Entry ℕ)} {j m y q : ℕ} {k : List ℕ} → x ≡ an_object ms → slice_get ms m ≡ Some (k, y) → IsSeenAs i r x (Member j m y q) (member j k y q)
  an_element : {k y q : ℕ} → IsSeenAs i r x (Element k y q) (element k y q)
  an_unmet : IsSeenAs i r x Unmet unmet
  too_few : IsSeenAs i r x Few few
  too_many : IsSeenAs i r x Many many
  none : IsSeenAs i r x NoAlternative no_alternative
  a_missing : {j : ℕ} → IsSeenAs i r x (Missing j r) (missing j)
  an_extra : {ms : List (Entry ℕ)} {m y : ℕ} {k : List ℕ} → x ≡ an_object ms → slice_get ms m ≡ Some (k, y) → IsSeenAs i r x (Extra m i) (extra k)

-- why an item doesn't satisfy a constraint
pub record IsCauseOf (here : ℕ → Bool) (inside : ℕ → ℕ → Bool) (i r : ℕ) (a : Constraint ℕ ℕ) (x : Opened ℕ) (c : InstanceCause) : Type 0 where
  pub told : Cause ℕ ℕ ℕ
  pub seen : IsSeenAs i r x c told
  pub cause : IsCause here inside a x told

-- why the pair i, r is refused
pub record IsCauseAt (asked : List (Constraint ℕ ℕ)) (xs : List (Opened ℕ)) (f : AllVerdicts) (i r : ℕ) (c : InstanceCause) : Type 0 where
  pub asks : Constraint ℕ ℕ
  pub value : Opened ℕ
  pub at_rule : slice_get asked r ≡ Some asks
  pub at_item : slice_get xs i ≡ Some value
  pub cause : IsCauseOf (f i) f i r asks value c
