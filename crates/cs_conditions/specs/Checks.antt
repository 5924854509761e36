-- What the checks of conditions answer, and what the tables tell.
use Rattle.std.specs.Prelude.{◌≡◌, ℕ, ◌<◌, Bool, true, false, ◌&&◌, List, [], ◌++◌, map, length, Option, Some, None, Result, Ok, Err, slice_get}
use Rattle.std.specs.Borrow.{Bor}
use Rattle.std.specs.BTreeMap.{BTreeMap, get_by}
use Rattle.std.specs.Cmp.Lexicographic.{slice_cmp}
use Rattle.std.specs.List.{list_any}
use Rattle.std.specs.Ordering.{nat_cmp}
use Rattle.std.specs.Str.{bytes_eq}
use Rattle.cs_grammar.specs.declared.ast.Expr.{Expr}
use Rattle.cs_grammar.specs.Bodies.{bodies}
use Rattle.cs_grammar.specs.Tree.{Tree, Condition, Declarations, DefinitionTree, defined_name}
use Rattle.cs_grammar.specs.View.{expr_view, Seen, SeenDeclaration, field_seen, embedding_seen, conditional_seen}
use Rattle.cs_conditions.specs.Asked.{Asked, asked, unsaid, with_value, with_declared, or_else, default_of, own_default, is_of}
use Rattle.cs_conditions.specs.Choice.{Literal, no_literal, null_literal, truth_literal, integer_literal, text_literal, choice}
use Rattle.cs_conditions.specs.Chosen.{chosen}
use Rattle.cs_conditions.specs.Defaults.{Lead, nowhere, by_mark, to, lead_of}
use Rattle.cs_conditions.specs.Faults.{declares, interferes, flaws, chain_flaws}
use Rattle.cs_conditions.specs.Having.{has_condition}
use Rattle.cs_conditions.specs.Kinds.{all_kinds, kinds_of_bodies}
use Rattle.cs_conditions.specs.Known.{Knowledge}
use Rattle.cs_conditions.specs.declared.asked.Asked as seen
use Rattle.cs_conditions.specs.declared.asked.AskedTable.{AskedTable}
use Rattle.cs_conditions.specs.declared.asked.Said.{Said}
use Rattle.cs_conditions.specs.declared.defaults.Defaults.{Defaults}
use Rattle.cs_conditions.specs.declared.defaults.Lead as rust
use Rattle.cs_conditions.specs.declared.defaults.Lead.TheVariants as leads
use Rattle.cs_conditions.specs.declared.fault.ConditionFault.{ConditionFault}
use Rattle.cs_conditions.specs.declared.fault.ConditionFault.TheVariants as refused
use Rattle.cs_conditions.specs.declared.flaws.Flaw.{Flaw}
use Rattle.cs_conditions.specs.declared.flaws.Flaw.TheVariants.{LeftOut, MayBeAbsent}
use Rattle.cs_conditions.specs.declared.flaws.Stop.{Stop}
use Rattle.cs_conditions.specs.declared.flaws.Stop.TheVariants as stops
use Rattle.cs_conditions.specs.declared.kinds.Kinds.{Kinds}
use Rattle.cs_conditions.specs.declared.kinds.KindTable.{KindTable}
use Rattle.cs_conditions.specs.declared.known.Known.{Known}
use Rattle.cs_conditions.specs.declared.values.Literal as literals
use Rattle.cs_conditions.specs.declared.values.Literal.TheVariants as variants

-- ---- what is found

-- the search ends at the first that is found, if memory doesn't run out
abbrev pub EndsAt : Stop → List Flaw → Type 0
EndsAt stops.OutOfMemory found = Unit {0}
EndsAt (stops.Flawed f) found = slice_get found 0 ≡ Some f

-- Ok where nothing is found
abbrev pub Finds : {Y : Type 0} → Result Y Stop → List Flaw → Type 0
Finds (Ok y) found = found ≡ []
Finds (Err e) found = EndsAt e found

-- the same in several files
abbrev pub FailsAny : ConditionFault → List (ℕ × Flaw) → Type 0
FailsAny refused.OutOfMemory found = Unit {0}
FailsAny (refused.LeftOut i o) found = slice_get found 0 ≡ Some (i, LeftOut o)
FailsAny (refused.MayBeAbsent i o) found = slice_get found 0 ≡ Some (i, MayBeAbsent o)

abbrev pub FindsAny : {Y : Type 0} → Result Y ConditionFault → List (ℕ × Flaw) → Type 0
FindsAny (Ok y) found = found ≡ []
FindsAny (Err e) found = FailsAny e found

-- those of one declaration, in a literal with these
abbrev pub flaws_seen : Knowledge → Declarations → SeenDeclaration → List Flaw
flaws_seen known all (field_seen f) = flaws known f.value
flaws_seen known all (embedding_seen o e) = flaws known e
flaws_seen known all (conditional_seen o cs e) = chain_flaws known all e [] cs ++ flaws known e

-- ---- kinds

-- a name that the table doesn't have may be anything
abbrev pub kinds_by : Option Kinds → Kinds
kinds_by None = all_kinds
kinds_by (Some k) = k

-- the table has the kinds of each definition
abbrev pub TellsKinds : KindTable → (List ℕ → Kinds) → Type 0
TellsKinds t known = (s : List ℕ) → kinds_by (get_by (λ k. slice_cmp nat_cmp s k.now) t.table) ≡ known s

-- it has those that the bodies of a definition have, by what is known of the definitions
abbrev pub kinds_of : (List ℕ → Kinds) → List DefinitionTree → List ℕ → Kinds
kinds_of known ds s = kinds_of_bodies known all_kinds (bodies s ds)

abbrev pub TellsKindsOf : KindTable → (List ℕ → Kinds) → List DefinitionTree → Type 0
TellsKindsOf t known ds = TellsKinds t (kinds_of known ds)

-- ---- defaults

abbrev pub literal_view : Option (Bor Expr) → Option Tree
literal_view None = None
literal_view (Some e) = Some (expr_view e.now)

-- how the code says that a value comes to a default
abbrev pub lead_view : rust.Lead → Lead
lead_view leads.Nowhere = nowhere
lead_view (leads.Marked e) = by_mark (expr_view e.now)
lead_view (leads.To s) = to s.now

-- a definition that has bodies, and how they lead
abbrev pub TellsLead : Option rust.Lead → List Tree → Type 0
TellsLead None bs = bs ≡ []
TellsLead (Some l) bs = (0 < length bs) × (lead_view l ≡ lead_of bs)

-- the table has each definition, and how it leads
abbrev pub TellsLeads : BTreeMap (Bor (List ℕ)) rust.Lead → List DefinitionTree → Type 0
TellsLeads m ds = (s : List ℕ) → TellsLead (get_by (λ k. slice_cmp nat_cmp s k.now) m) (bodies s ds)

abbrev pub is_declared : List DefinitionTree → List ℕ → Bool
is_declared ds s = list_any (λ d. bytes_eq (defined_name d) s) ds

abbrev pub default_if : Bool → Option Tree → Option Tree
default_if true d = d
default_if false d = None

-- the table has just the defaults that those of ds hand on
abbrev pub TellsDefaultsOf : BTreeMap (Bor (List ℕ)) (Bor Expr) → (List ℕ → Option Tree) → List DefinitionTree → Type 0
TellsDefaultsOf m known ds = (s : List ℕ) → literal_view (get_by (λ k. slice_cmp nat_cmp s k.now) m) ≡ default_if (is_declared ds s) (known s)

-- the table has just the defaults that definitions hand on
abbrev pub TellsDefaults : Defaults → (List ℕ → Option Tree) → Type 0
TellsDefaults d known = (s : List ℕ) → literal_view (get_by (λ k. slice_cmp nat_cmp s k.now) d.table) ≡ known s

-- the tables have what is known
pub record TellsKnown (k : Known) (known : Knowledge) : Type 0 where
  pub kinds : TellsKinds k.kinds known.kinds
  pub defaults : TellsDefaults k.defaults known.default

-- ---- fields that are asked for

abbrev pub asked_view : seen.Asked → Asked
asked_view a = record { said = a.said; default = literal_view a.default }

abbrev pub with_field : Knowledge → Said → Seen → Said
with_field known a f = with_value known a f.label f.mark f.value

-- with one declaration
abbrev pub with_seen : Knowledge → List ℕ → Said → SeenDeclaration → Said
with_seen known s a (field_seen f) = with_declared known s a f.label f.mark f.value
with_seen known s a (embedding_seen o e) = a
with_seen known s a (conditional_seen o cs e) = a

-- the default of one declaration, if it is one of the field
abbrev pub default_seen : Knowledge → List ℕ → SeenDeclaration → Option Tree
default_seen known s (field_seen f) = own_default known s f.label f.mark f.value
default_seen known s (embedding_seen o e) = None
default_seen known s (conditional_seen o cs e) = None

-- of a field that isn't declared
abbrev pub unasked : Asked
unasked = record { said = unsaid; default = None }

abbrev pub asked_by : Option seen.Asked → Asked
asked_by None = unasked
asked_by (Some a) = asked_view a

-- what the table has of a field
abbrev pub asked_in : AskedTable → List ℕ → Asked
asked_in t s = asked_by (get_by (λ k. slice_cmp nat_cmp s k.now) t.table)

-- it has what a literal with these declarations says of each field
abbrev pub TellsAsked : AskedTable → Knowledge → Declarations → Type 0
TellsAsked t known ds = (s : List ℕ) → asked_in t s ≡ asked known s ds

-- with a declaration of the field more
abbrev pub asked_field : Knowledge → Asked → Seen → Asked
asked_field known a f = record { said = with_field known a.said f; default = or_else a.default (default_of known f.mark f.value) }

-- with any declaration more
abbrev pub asked_with : Knowledge → List ℕ → Asked → SeenDeclaration → Asked
asked_with known s a d = record { said = with_seen known s a.said d; default = or_else a.default (default_seen known s d) }

-- the second table has what the first one has, and the declaration
abbrev pub IsAskedWith : Knowledge → AskedTable → SeenDeclaration → AskedTable → Type 0
IsAskedWith known t d u = (s : List ℕ) → asked_in u s ≡ asked_with known s (asked_in t s) d

abbrev pub field_declares : Bool → List ℕ → Seen → Bool
field_declares with_default s f = is_of s f.label f.mark && interferes with_default f.value

abbrev pub seen_declares : Bool → List ℕ → SeenDeclaration → Bool
seen_declares with_default s (field_seen f) = field_declares with_default s f
seen_declares with_default s (embedding_seen o e) = declares with_default s e
seen_declares with_default s (conditional_seen o cs e) = declares with_default s e

-- ---- what literals under conditions stand for

abbrev pub literal_seen : literals.Literal → Literal
literal_seen variants.None = no_literal
literal_seen variants.Null = null_literal
literal_seen (variants.Bool b) = truth_literal b
literal_seen (variants.Int z) = integer_literal z
literal_seen (variants.Text s) = text_literal s.now

-- the declarations by which all conditions hold
abbrev pub all_held : (Condition → Bool → Seen) → List Condition → List Seen
all_held by cs = map (λ c. by c true) cs

abbrev pub chosen_field_seen : Knowledge → Seen → Seen
chosen_field_seen known f = record { label = f.label; mark = f.mark; value = chosen known f.value }

abbrev pub chosen_seen : Knowledge → Declarations → SeenDeclaration → SeenDeclaration
chosen_seen known all (field_seen f) = field_seen (chosen_field_seen known f)
chosen_seen known all (embedding_seen o e) = embedding_seen o (chosen known e)
chosen_seen known all (conditional_seen o cs e) = embedding_seen o (choice known all o cs (chosen known e))

-- ---- conditions

abbrev pub seen_has : SeenDeclaration → Bool
seen_has (field_seen f) = has_condition f.value
seen_has (embedding_seen o e) = has_condition e
seen_has (conditional_seen o cs e) = true
