-- The predeclared names (CUE language specification, "Predeclared identifiers"; this profile has these alone).
use Rattle.std.specs.Prelude.{ℕ, pos, neg_ℤ, List, [], ◌∷◌, Option, Some, None, codes, if◌then◌else◌}
use Rattle.std.specs.Str.{bytes_eq}
use Rattle.cs_package.specs.Expression.{Expression, kind, range, int, number, string, bool}

-- the kinds; and the ranges, each from its least to its greatest integer
abbrev pub names : List (List ℕ × Expression)
names =
    (codes "int", kind int)
    ∷ (codes "number", kind number)
    ∷ (codes "string", kind string)
    ∷ (codes "bool", kind bool)
    ∷ (codes "uint", range (pos 0) None)
    ∷ (codes "uint8", range (pos 0) (Some (pos 255)))
    ∷ (codes "int8", range (neg_ℤ (pos 128)) (Some (pos 127)))
    ∷ (codes "uint16", range (pos 0) (Some (pos 65535)))
    ∷ (codes "int16", range (neg_ℤ (pos 32768)) (Some (pos 32767)))
    ∷ (codes "uint32", range (pos 0) (Some (pos 4294967295)))
    ∷ (codes "int32", range (neg_ℤ (pos 2147483648)) (Some (pos 2147483647)))
    ∷ (codes "int64", range (neg_ℤ (pos 9223372036854775808)) (Some (pos 9223372036854775807)))
    ∷ []

abbrev pub among : List ℕ → List (List ℕ × Expression) → Option Expression
among t [] = None
among t (n ∷ ns) = if bytes_eq t n.0 then Some n.1 else among t ns

-- what a predeclared name names
abbrev pub predeclared : List ℕ → Option Expression
predeclared t = among t names
