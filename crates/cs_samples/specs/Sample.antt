-- Which texts are samples of a root.
use Rattle.std.specs.Prelude.{◌≡◌, ◌++◌, ℕ, Bool, false, List, Vec, length}
use Rattle.std.specs.List.{AllByRecursion, IsDistinct}
use Rattle.std.specs.Str.{bytes_eq}
use Rattle.std.specs.declared.alloc.Global.{Global}
use Rattle.cs_document.specs.Document.{Document, IsDocument}
use Rattle.cs_package.specs.Environment.{Environment, Names}
use Rattle.cs_instance.specs.Instance.{Rule, definition, IsInstance}
use Rattle.cs_json.specs.Shown.{IsShown}
use Rattle.cs_question.specs.ReadAgain.{IsReadAgain}
use Rattle.cs_variants.specs.declared.places.Sampled.{Sampled}
use Rattle.cs_variants.specs.Sampled.{is_valid}

-- a document is an instance of the root, or it is none, as is asked
abbrev pub IsAsAsked : Environment → List ℕ → Sampled → Document → Type 0
IsAsAsked E root which x = (I : Rule → Document → Bool) (n : List ℕ) → IsInstance E I → Names E root n → I (definition n) x ≡ is_valid which

-- a document that its text is read as, and that is as is asked
abbrev pub IsSample : Environment → List ℕ → Sampled → Document → Type 0
IsSample E root which x = IsReadAgain x × IsAsAsked E root which x

-- the text is that of a sample, as it is shown, and is read as the sample
abbrev pub IsSampleText : Environment → List ℕ → Sampled → List ℕ → Type 0
IsSampleText E root which bytes = (x : Document) × IsSample E root which x × IsShown x bytes

abbrev pub AreSamples : Environment → List ℕ → Sampled → List (Vec ℕ Global) → Type 0
AreSamples E root which ts = AllByRecursion (λ t. IsSampleText E root which t.items) ts

-- both texts are the same
abbrev pub same_text : Vec ℕ Global → Vec ℕ Global → Bool
same_text t u = bytes_eq t.items u.items

-- so many samples were found beside these, no two of all of them alike
abbrev pub HasMore : Environment → List ℕ → Sampled → List (Vec ℕ Global) → ℕ → Type 0
HasMore E root which ts count = (rest : List (Vec ℕ Global)) × (length rest ≡ count) × AreSamples E root which rest × IsDistinct same_text (ts ++ rest)

-- no document is an instance of the root
abbrev pub HasNoInstance : Environment → List ℕ → Type 0
HasNoInstance E root = (I : Rule → Document → Bool) (n : List ℕ) (x : Document) → IsInstance E I → Names E root n → IsDocument x → I (definition n) x ≡ false
