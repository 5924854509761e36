-- Which texts are kept. For private contracts and proofs alone.
use Rattle.std.specs.Prelude.{◌≡◌, ◌++◌, ℕ, List, Vec, true, length}
use Rattle.std.specs.BTreeSet.{contains}
use Rattle.std.specs.Cmp.Lexicographic.{slice_cmp}
use Rattle.std.specs.List.{IsDistinct, list_any}
use Rattle.std.specs.Ordering.{nat_cmp}
use Rattle.std.specs.declared.alloc.Global.{Global}
use Rattle.std.specs.declared.cmp.Ordering.{Ordering}
use Rattle.cs_samples.specs.declared.asking.Asking.{Asking}
use Rattle.cs_samples.specs.declared.asking.Found.{Found}
use Rattle.cs_samples.specs.Sample.{AreSamples, same_text}

-- the order by which the code looks texts up
abbrev pub text_cmp : Vec ℕ Global → Vec ℕ Global → Ordering
text_cmp t u = slice_cmp nat_cmp t.items u.items

-- samples, no two alike, and each in the set of those that were seen
pub record AreFound (a : Asking) (f : Found) : Type 0 where
  pub samples : AreSamples a.package.now a.root.now a.which f.texts.items
  pub distinct : IsDistinct same_text f.texts.items
  pub seen : (q : Vec ℕ Global) → list_any (same_text q) f.texts.items ≡ true → contains text_cmp f.seen q ≡ true

-- these are the first ones, and so many others follow
abbrev pub IsSplit : List (Vec ℕ Global) → List (Vec ℕ Global) → ℕ → Type 0
IsSplit all first count = (rest : List (Vec ℕ Global)) × (length rest ≡ count) × (first ++ rest ≡ all)
