-- Reasons whose causes are put in another form: the pairs, the links and the count stay.
use Rattle.std.specs.Prelude.{◌≡◌, ℕ, List, Option, Some, None}
use Rattle.std.specs.List.{AllZip}
use Rattle.cs_reasons.specs.Told.{pair_at}
use Rattle.cs_reasons.specs.declared.reasons.Link.{Link}
use Rattle.cs_reasons.specs.declared.reasons.Up.{Up}
use Rattle.cs_reasons.specs.declared.reasons.Reason.{Reason}
use Rattle.cs_reasons.specs.declared.reasons.Reasons.{Reasons}

-- `says p c d`: d is another form of the cause c of the pair p
module _ {C D : Type 0} (says : ℕ × ℕ → C → D → Type 0) where
  abbrev pub IsUpRenamed : List (Link C) → Option (Up C) → Option (Up D) → Type 0
  IsUpRenamed links None None = Unit {0}
  IsUpRenamed links (Some u) (Some v) = (v.link ≡ u.link) × says (pair_at links u.link) u.cause v.cause
  IsUpRenamed links _ _ = ⊥

  pub record IsLinkRenamed (links : List (Link C)) (l : Link C) (m : Link D) : Type 0 where
    pub item : m.item ≡ l.item
    pub rule : m.rule ≡ l.rule
    pub up : IsUpRenamed links l.up m.up
    pub as_close : m.as_close ≡ l.as_close

  pub record IsReasonRenamed (links : List (Link C)) (t : Reason C) (u : Reason D) : Type 0 where
    pub link : u.link ≡ t.link
    pub cause : says (pair_at links t.link) t.cause u.cause

  pub record AreRenamed (rs : Reasons C) (ss : Reasons D) : Type 0 where
    pub links : AllZip (IsLinkRenamed rs.links.items) rs.links.items ss.links.items
    pub told : AllZip (IsReasonRenamed rs.links.items) rs.told.items ss.told.items
    pub count : ss.count ≡ rs.count
