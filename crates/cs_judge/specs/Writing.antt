-- What is said of functions that write texts, or hold them: where they fail, a write failed, and the writer took a front.
use Rattle.std.specs.Prelude.{◌≡◌, ℕ, List, ◌++◌, Option, Result, Err, OnOk, OnErr}
use Rattle.std.specs.Io.KnownBytes.{Appends}
use Rattle.cs_judge.specs.Lines.{Hands}
use Rattle.cs_tool.specs.Streams.{AppendsFront}
use Rattle.cs_tool.specs.declared.fault.Fault.{Fault}
use Rattle.cs_tool.specs.declared.fault.Fault.TheVariants.{WriteFailed}

-- the text is written
pub record Writes {T : Type 0} (result : Result T Fault) (old new : Option (List ℕ)) (text : List ℕ) : Type 0 where
  pub all : OnOk result (Appends old new text)
  pub front : OnErr result (AppendsFront old new text)
  pub kind : OnErr result (result ≡ Err WriteFailed)

-- one of these texts is
pub record WritesSome {T : Type 0} (result : Result T Fault) (old new : Option (List ℕ)) (IsText : List ℕ → Type 0) : Type 0 where
  pub all : OnOk result ((text : List ℕ) × IsText text × Appends old new text)
  pub front : OnErr result ((text : List ℕ) × IsText text × AppendsFront old new text)
  pub kind : OnErr result (result ≡ Err WriteFailed)

-- the front of the text is written, and the rest is held
pub record Holds {T : Type 0} (result : Result T Fault) (old new : Option (List ℕ)) (text held : List ℕ) : Type 0 where
  pub all : OnOk result (Hands old new text held)
  pub front : OnErr result (AppendsFront old new text)
  pub kind : OnErr result (result ≡ Err WriteFailed)

-- one of these texts is held behind what was held before
pub record HoldsSome {T : Type 0} (result : Result T Fault) (old new : Option (List ℕ)) (before held : List ℕ) (IsText : List ℕ → Type 0) : Type 0 where
  pub all : OnOk result ((text : List ℕ) × IsText text × Hands old new (before ++ text) held)
  pub front : OnErr result ((text : List ℕ) × IsText text × AppendsFront old new (before ++ text))
  pub kind : OnErr result (result ≡ Err WriteFailed)
