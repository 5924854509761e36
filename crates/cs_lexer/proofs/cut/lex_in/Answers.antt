use Rattle.std.proofs.Common.{ℕ, List, Vec, Err}
use Rattle.std.specs.declared.alloc.Global.{Global}
use Rattle.std.proofs.lemmas.Result.{err_from_is_err_and}
use Rattle.cs_grammar.specs.Cut.{Lexeme}
use Rattle.cs_grammar.specs.CutIn.{IsCutIn}
use Rattle.cs_grammar.specs.Stuck.{IsStuckIn}
use Rattle.cs_grammar.specs.declared.fault.SyntaxFault.{SyntaxFault}
use Rattle.cs_grammar.specs.declared.fault.SyntaxFault.TheVariants.{OutOfMemory, NoToken, Syntax, LeftOut, IntegerRange, TooHigh}
use Rattle.cs_grammar.specs.declared.profile.Profile.{Profile}
use Rattle.cs_grammar.specs.declared.token.Token.{Token}
use Rattle.cs_grammar.specs.View.{lexemes_view}
use Rattle.cs_lexer.specs.Lexed.{Answers, Refuses, IsRefusalIn}
use Rattle.cs_lexer.proofs.CutUnique.{cut_once, stuck_once, cut_not_stuck}
use Rattle.cs_lexer.proofs.Slices.{slices}
use Rattle.cs_lexer.proofs.cut.lex_in.Goals as goal

module _ (p : Profile) (bs : List ℕ) where
  -- what has a cut isn't refused, but for want of memory
  refused_alone : (e : SyntaxFault) → IsRefusalIn p bs e → (ks : List Lexeme) → IsCutIn p bs ks → Answers {X = Vec Token Global} (λ v. lexemes_view v.items) (Err e) ks
  refused_alone OutOfMemory h ks cut = tt
  refused_alone (NoToken o) h ks cut = cut_not_stuck cut h
  refused_alone (Syntax o) h ks cut = cut_not_stuck cut h
  refused_alone (LeftOut o) h ks cut = cut_not_stuck cut h
  refused_alone (IntegerRange o) h ks cut = cut_not_stuck cut h
  refused_alone TooHigh h ks cut = cut_not_stuck cut h

  -- what is stuck is refused so
  refused_so : (e : SyntaxFault) → IsRefusalIn p bs e → (f : SyntaxFault) → IsStuckIn p bs f → Refuses {X = Vec Token Global} (Err e) f
  refused_so OutOfMemory h f stuck = tt
  refused_so (NoToken o) h f stuck = stuck_once h stuck
  refused_so (Syntax o) h f stuck = stuck_once h stuck
  refused_so (LeftOut o) h f stuck = stuck_once h stuck
  refused_so (IntegerRange o) h f stuck = stuck_once h stuck
  refused_so TooHigh h f stuck = stuck_once h stuck

pub returns : goal.returns
returns c =
    let cut = c.in_ok-put_tokens.ensures in
    record {
      found = cut;
      refused = tt;
      only = λ ks other. cut_once c.args.profile cut other;
      stuck = λ f at. cut_not_stuck cut at;
      slices = slices c.args.source.now c.args.profile _ cut;
    }

pub returns-in_err-put_tokens : goal.returns-in_err-put_tokens
returns-in_err-put_tokens c =
    let p = err_from_is_err_and c.from_residual.result c.from_residual.ensures.1 in
    let refused = c.in_err-put_tokens.ensures in
    rw (p.1, p.2) (record {
      found = tt;
      refused = refused;
      only = refused_alone _ _ _ refused;
      stuck = refused_so _ _ _ refused;
      slices = tt;
    })
