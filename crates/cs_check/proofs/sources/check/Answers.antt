use Rattle.std.proofs.Common.{◌≡◌, ℕ, List, [], ◌∷◌, refl, sym, subst, ◌∙◌}
use Rattle.cs_grammar.specs.declared.profile.Profile.{Profile}
use Rattle.cs_tool.specs.First.{SourcesFault, SourcesRefusal}
use Rattle.cs_tool.specs.Given.{bytes_in}
use Rattle.cs_tool.specs.declared.fault.Fault.{Fault}
use Rattle.cs_tool.specs.declared.fault.Fault.TheVariants.{OutOfMemory}
use Rattle.cs_check.specs.Told.{BeginsWithFirst, BeginsWith}
use Rattle.cs_check.proofs.sources.check.Goals as goal

-- a refusal of the sources for another reason than memory tells what they fail first
fails : (p : Profile) (sources : List (List ℕ)) (first : Fault) → ¬ (first ≡ OutOfMemory) → SourcesRefusal p sources first → SourcesFault p sources first
fails p sources OutOfMemory other h = absurd (other refl)
fails p sources _ other h = h

begins : (p : Profile) (sources : List (List ℕ)) (first : Fault) (faults : List Fault) → SourcesFault p sources first → BeginsWith first faults → BeginsWithFirst p sources faults
begins p sources first faults h b = subst (BeginsWithFirst p sources) (sym b.1) h

some : (first : Fault) (faults : List Fault) → BeginsWith first faults → ¬ (faults ≡ [])
some first faults b none = let e : first ∷ b.0 ≡ [] = sym b.1 ∙ none in absurd (cc e)

pub returns : goal.returns
returns c =
    let profile = c.args.profile in
    let sources = bytes_in c.args.sources.now in
    let first = c.in-Err.first in
    let faults = c.in_ok-faults_from-in-Err.field-0.items in
    let b : BeginsWith first faults = c.in_ok-faults_from-in-Err.ensures.begins.0 in
    let other : ¬ (first ≡ OutOfMemory) = c.in_ok-faults_from-in-Err.ensures.begins.1 in
    record {
      first = begins profile sources first faults (fails profile sources first other c.in-Err.ensures.refused) b;
      none = (λ none. absurd (some first faults b none), λ all. absurd (other (c.in-Err.ensures.only all.0 all.1)));
      most = c.in_ok-faults_from-in-Err.ensures.most;
      memory = tt;
    }
