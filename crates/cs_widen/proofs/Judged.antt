-- The source that sources stand for declares what they declare, where it isn't too long.
use Rattle.std.proofs.Common.{ℕ, List, [], ◌∷◌, refl}
use Rattle.cs_grammar.specs.declared.profile.Profile.{Profile}
use Rattle.cs_grammar.specs.declared.profile.Profile.TheVariants as profiles
use Rattle.cs_tool.specs.Accepted.{IsAccepted}
use Rattle.cs_tool.specs.Texts.{AreTexts}
use Rattle.cs_widen.specs.Meant.{IsMeantIn}
use Rattle.cs_widen.proofs.UnplacedPackages.{printed_package}

pub declares_the_same : (p : Profile) (ss : List (List ℕ)) (s : List ℕ) (h : IsMeantIn p ss s) → AreTexts (s ∷ []) → IsAccepted profiles.Default (s ∷ []) h.environment
declares_the_same p ss s h texts = record {
  texts = texts;
  files = h.read.tree ∷ [];
  spelled = (h.read.spelled, tt);
  meant = h.read.tree ∷ [];
  stand_for = refl;
  one_package = printed_package h.accepted.meant h.read.tree h.environment h.read.same h.accepted.one_package;
  guarded = h.accepted.guarded;
}
