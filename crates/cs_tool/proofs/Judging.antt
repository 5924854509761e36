-- What refuses to judge a text, and the answers of the judges.
use Rattle.std.proofs.Common.{◌≡◌, ℕ, ◌<◌, ◌*◌, Bool, true, false, List, Err, IsErrOf, Result, refl, sym, subst, subst₂, ◌∙◌}
use Rattle.cs_grammar.specs.declared.profile.Profile.{Profile}
use Rattle.cs_json.specs.Refusal as unread
use Rattle.cs_json.specs.Texts.{Reads}
use Rattle.cs_document.specs.Document.{Document, IsDocument}
use Rattle.cs_document.specs.declared.fault.DocFault.{DocFault}
use Rattle.cs_document.specs.declared.fault.DocFault.TheVariants as doc
use Rattle.cs_package.specs.Environment.{Environment, Names}
use Rattle.cs_instance.specs.Instance.{Rule, definition, IsInstance, OneMeaning as OneInstance}
use Rattle.cs_table.specs.Limit.{most_pairs}
use Rattle.cs_instance.specs.Refusal.{AreManyPairs as AreManyByRoot}
use Rattle.cs_instance.specs.Rules.{HasManyPairs as HasManyByRoot}
use Rattle.cs_instance.specs.declared.fault.InstanceFault.{InstanceFault}
use Rattle.cs_instance.specs.declared.fault.InstanceFault.TheVariants as instance
use Rattle.cs_profile.proofs.Meanings.{one_meaning}
use Rattle.cs_profile.proofs.TrimLaw.{keeps_validity}
use Rattle.cs_profile.specs.declared.keyword.Vocabulary.{Vocabulary}
use Rattle.cs_profile.specs.Validity.{IsValidity, OneMeaning as OneValidity}
use Rattle.cs_validate.proofs.Trimmed.{many_trimmed, many_untrimmed}
use Rattle.cs_validate.specs.Refusal.{IsRefusal as IsSchemaRefusal, AreManyPairs as AreManyBySchema}
use Rattle.cs_validate.specs.Rules.{HasManyPairs as HasManyBySchema}
use Rattle.cs_table.specs.declared.fault.TableFault.{TableFault}
use Rattle.cs_table.specs.declared.fault.TableFault.TheVariants as validate
use Rattle.cs_tool.specs.Accepted.{DeclaresRoot}
use Rattle.cs_tool.specs.Conversions.{of_document, of_instance, of_validate}
use Rattle.cs_tool.specs.Headline.{IsVerdict, IsValidated}
use Rattle.cs_tool.specs.Ready.{RootHasManyPairs, SchemaHasManyPairs, ExportHasManyPairs, IsReadyToVet, IsReadyToValidate, IsReadyToAgree}
use Rattle.cs_tool.specs.Sides.{IsSchemaOf}
use Rattle.cs_tool.specs.declared.fault.Fault.{Fault}
use Rattle.cs_tool.specs.declared.fault.Fault.TheVariants.{OutOfMemory, NotJson, NotInteger, TooManyPairs}
use Rattle.cs_tool.proofs.Declared.{one_environment, one_name}
use Rattle.cs_tool.proofs.Texts.{is_json, no_other, one_document}

-- ---- what refuses: the text, or its pairs where they are too many

-- so many values and rules are too many, by the root or by a schema
abbrev pub ManyPairs : Type 1
ManyPairs = ℕ → ℕ → Bool → Type 0

abbrev pub Refuses : List ℕ → ManyPairs → Fault → Type 0
Refuses text many OutOfMemory = Unit {0}
Refuses text many (NotJson offset is_cut) = unread.IsRefusal (doc.NotJson offset is_cut) text
Refuses text many (NotInteger offset false) = unread.IsRefusal (doc.NotInteger offset) text
Refuses text many (TooManyPairs items rules by_schema) = many items rules by_schema
Refuses text many _ = ⊥

-- by the root alone
abbrev pub ManyOfRoot : Profile → List (List ℕ) → List ℕ → List ℕ → ManyPairs
ManyOfRoot p sources root text items rules false = RootHasManyPairs p sources root text items rules
ManyOfRoot p sources root text items rules true = ⊥

-- by a schema alone
abbrev pub ManyOfSchema : Vocabulary → List ℕ → List ℕ → ManyPairs
ManyOfSchema taken schema_text text items rules true = SchemaHasManyPairs taken schema_text text items rules
ManyOfSchema taken schema_text text items rules false = ⊥

-- by the root, and by the exported schema
abbrev pub ManyOfBoth : Profile → List (List ℕ) → List ℕ → List ℕ → ManyPairs
ManyOfBoth p sources root text items rules false = RootHasManyPairs p sources root text items rules
ManyOfBoth p sources root text items rules true = ExportHasManyPairs p sources root text items rules

-- nothing refuses a text that is read as a document and has few pairs
pub memory_alone : (text : List ℕ) (many : ManyPairs) (d : Document) → Reads text d → ((i r : ℕ) (b : Bool) → ¬ (many i r b)) → (e : Fault) → Refuses text many e → e ≡ OutOfMemory
memory_alone text many d read few OutOfMemory h = refl
memory_alone text many d read few (NotJson o c) h = absurd (h.0 (is_json text d read))
memory_alone text many d read few (NotInteger o false) h = absurd (no_other text d read h.0)
memory_alone text many d read few (TooManyPairs i r b) h = absurd (few i r b h)
memory_alone text many d read few _ h = absurd h

abbrev pub unjudged : InstanceFault → Result Bool InstanceFault
unjudged e = Err e

module _ (text : List ℕ) (many : ManyPairs) where
  pub by_text : (e : DocFault) → unread.IsRefusal e text → Refuses text many (of_document e)
  by_text doc.OutOfMemory h = tt
  by_text (doc.NotJson o c) h = h
  by_text (doc.NotInteger o) h = h

  -- a root that is numbered isn't told as unknown
  pub by_root : (p : Profile) (sources : List (List ℕ)) (root : List ℕ) (E : Environment) (n : List ℕ) → DeclaresRoot p sources root E n → (d : Document) → Reads text d
      → ((i r : ℕ) → RootHasManyPairs p sources root text i r → many i r false) → (e : InstanceFault) → (IsErrOf (unjudged e) instance.UnknownRoot → ⊥)
      → ((i r : ℕ) → IsErrOf (unjudged e) (instance.TooManyPairs i r) → AreManyByRoot E n d i r) → Refuses text many (of_instance e)
  by_root p sources root E n declares d read pairs instance.OutOfMemory known pairs_of = tt
  by_root p sources root E n declares d read pairs instance.UnknownRoot known pairs_of = absurd (known refl)
  by_root p sources root E n declares d read pairs (instance.TooManyPairs i r) known pairs_of = pairs i r (record {
    input = record { environment = E; name = n; declares = declares; document = d; read = read };
    many = pairs_of i r refl;
  })

  -- the trimmed schema has as many rules
  pub by_schema : {taken : Vocabulary} (schema_text : List ℕ) (S : Document) → IsSchemaOf taken schema_text S → (d : Document) → Reads text d
      → ((i r : ℕ) → SchemaHasManyPairs taken schema_text text i r → many i r true) → (e : TableFault) → IsSchemaRefusal e S d → Refuses text many (of_validate e)
  by_schema schema_text S is d read pairs validate.OutOfMemory h = tt
  by_schema schema_text S is d read pairs (validate.TooManyPairs i r) h = let schema = is.text in pairs i r (record {
    input = record { schema = schema.document; read_schema = schema.read; profile = schema.profile; document = d; read = read };
    many = many_untrimmed schema.document d i r (subst (λ R. AreManyBySchema R d i r) is.trimmed h);
  })

-- those that are counted are too many
many_by_root : (E : Environment) (n : List ℕ) (d : Document) (i r : ℕ) → AreManyByRoot E n d i r → HasManyByRoot E n d
many_by_root E n d i r h = record { names = h.names; reachable = h.reachable; many = subst₂ (λ a b. most_pairs < a * b) h.items h.rules h.many }

many_by_schema : (S d : Document) (i r : ℕ) → AreManyBySchema S d i r → HasManyBySchema S d
many_by_schema S d i r h = subst₂ (λ a b. most_pairs < a * b) h.items h.rules h.many

-- what is ready has few pairs
pub few_of_root : (p : Profile) (sources : List (List ℕ)) (root text : List ℕ) → IsReadyToVet p sources root text → (i r : ℕ) → ¬ (RootHasManyPairs p sources root text i r)
few_of_root p sources root text ready i r many =
    let x = many.input in
    let y = ready.input in
    let same_environment = one_environment x.declares.accepted y.declares.accepted in
    let named = subst (λ F. Names F root x.name) same_environment x.declares.named in
    let same_name = one_name y.environment root x.name y.name named y.declares.named in
    let same_document = one_document text x.document y.document x.read y.read in
    let there = subst (λ F. HasManyByRoot F x.name x.document) same_environment (many_by_root x.environment x.name x.document i r many.many) in
    ready.within (subst₂ (HasManyByRoot y.environment) same_name same_document there)

pub few_of_schema : {taken : Vocabulary} (schema_text text : List ℕ) → IsReadyToValidate taken schema_text text → (i r : ℕ) → ¬ (SchemaHasManyPairs taken schema_text text i r)
few_of_schema schema_text text ready i r many =
    let x = many.input in
    let y = ready.input in
    let same_schema = one_document schema_text x.schema y.schema x.read_schema y.read_schema in
    let same_document = one_document text x.document y.document x.read y.read in
    ready.within (subst₂ HasManyBySchema same_schema same_document (many_by_schema x.schema x.document i r many.many))

pub few_of_vet : (p : Profile) (sources : List (List ℕ)) (root text : List ℕ) → IsReadyToVet p sources root text → (i r : ℕ) (b : Bool) → ¬ (ManyOfRoot p sources root text i r b)
few_of_vet p sources root text ready i r false = few_of_root p sources root text ready i r
few_of_vet p sources root text ready i r true = λ h. h

pub few_of_validate : {taken : Vocabulary} (schema_text text : List ℕ) → IsReadyToValidate taken schema_text text → (i r : ℕ) (b : Bool) → ¬ (ManyOfSchema taken schema_text text i r b)
few_of_validate schema_text text ready i r true = few_of_schema schema_text text ready i r
few_of_validate schema_text text ready i r false = λ h. h

pub few_of_agree : (p : Profile) (sources : List (List ℕ)) (root text : List ℕ) → IsReadyToAgree p sources root text → (i r : ℕ) (b : Bool) → ¬ (ManyOfBoth p sources root text i r b)
few_of_agree p sources root text ready i r false = few_of_root p sources root text ready.vetted i r
few_of_agree p sources root text ready i r true = ready.within i r

-- ---- what is answered

pub verdict : (p : Profile) (sources : List (List ℕ)) (root text : List ℕ) (E : Environment) (n : List ℕ) (d : Document) (b : Bool) → DeclaresRoot p sources root E n → Reads text d
    → IsDocument d → OneInstance E → ((I : Rule → Document → Bool) → IsInstance E I → b ≡ I (definition n) d) → ¬ (HasManyByRoot E n d) → IsVerdict p sources root text b
verdict p sources root text E n d b declares read proper one answer few = record {
  environment = E;
  name = n;
  declares = declares;
  document = d;
  read = read;
  proper = proper;
  within = few;
  one_instance = one;
  holds = answer;
}

-- what the answer says of the trimmed schema, it says of the schema
pub validated : {taken : Vocabulary} (schema_text text : List ℕ) (S d : Document) (b : Bool) → IsSchemaOf taken schema_text S → Reads text d → IsDocument d
    → OneValidity S → ¬ (HasManyBySchema S d) → ((W : Document → Document → Bool) → IsValidity S W → b ≡ W S d) → IsValidated taken schema_text text b
validated schema_text text S d b is read proper one few answer =
    let s = is.text.document in
    let trimmed = is.trimmed in
    let W = one.some.0 in
    let is_W = one.some.1 in
    let no_loop = is.text.profile.no_loop in record {
      schema = s;
      read_schema = is.text.read;
      profile = is.text.profile;
      document = d;
      read = read;
      proper = proper;
      within = λ many. few (subst (λ R. HasManyBySchema R d) (sym trimmed) (many_trimmed s d many));
      one_validity = one_meaning s no_loop;
      holds = λ V is_V. answer W is_W ∙ sym (keeps_validity s no_loop V W is_V (subst (λ R. IsValidity R W) trimmed is_W) d ∙ subst (λ R. W R d ≡ W S d) trimmed refl);
    }
