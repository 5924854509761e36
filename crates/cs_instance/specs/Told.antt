-- Tests that give the same for scalars that no mark tells apart.
use Rattle.std.specs.Prelude.{◌≡◌, ℕ, Bool}
use Rattle.cs_document.specs.Opened.{Opened}
use Rattle.cs_rules.specs.Alike.{Compared, AreAlike}
use Rattle.cs_instance.specs.Constraint.{Outline, outline}

abbrev pub IsTold : (Outline → Bool) → Compared → Type 0
IsTold test m = (x x' : Opened ℕ) → AreAlike m x x' → test (outline x) ≡ test (outline x')
