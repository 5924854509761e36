-- The wide profile cuts what the default one does into the same tokens.
use Rattle.std.proofs.Common.{ℕ, List}
use Rattle.cs_grammar.specs.declared.line.LineState.{LineState}
use Rattle.cs_grammar.specs.declared.profile.Profile.TheVariants as profiles
use Rattle.cs_grammar.specs.Cut.{Lexeme, Cut, blank, new_line, comment, attribute, token, finish}
use Rattle.cs_grammar.specs.CutIn.{CutIn}

pub cut_wide : {bs : List ℕ} {o : ℕ} {l : LineState} {ks : List Lexeme} → Cut bs o l ks → CutIn profiles.Wide bs o l ks
cut_wide (blank h k) = blank h (cut_wide k)
cut_wide (new_line h k) = new_line h (cut_wide k)
cut_wide (comment h k) = comment h (cut_wide k)
cut_wide (attribute h k) = absurd cc
cut_wide (token h k) = token h (cut_wide k)
cut_wide finish = finish
