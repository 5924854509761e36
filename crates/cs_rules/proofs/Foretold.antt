-- What is decided by a kind holds of what rules ask.
use Rattle.std.proofs.Common.{◌≡◌, ℕ, Bool, List, [], ◌∷◌, true, false, not, ◌&&◌, ◌||◌, Option, Some, None, option_map, refl, ap, ◌∙◌}
use Rattle.std.specs.List.{list_all, list_any}
use Rattle.cs_document.specs.Opened.{Opened, a_null, a_boolean, an_integer, a_text, a_list, an_object}
use Rattle.cs_rules.specs.Kinds.{verdict_of, both, either, decided_by, all_decided, any_decided, AreDecided, Decides}
use Rattle.cs_rules.specs.declared.by_kind.ByKind.{ByKind}

pub both_decides : (o p : Option Bool) (v w : Bool) → Decides o v → Decides p w → Decides (both o p) (v && w)
both_decides (Some false) p v w h k b e = ap (λ t. t && w) (h false refl) ∙ (let f : Some false ≡ Some b = e in cc)
both_decides (Some true) p v w h k b e = ap (λ t. t && w) (h true refl) ∙ k b e
both_decides None (Some false) true w h k b e = k false refl ∙ (let f : Some false ≡ Some b = e in cc)
both_decides None (Some false) false w h k b e = (let f : Some false ≡ Some b = e in cc)
both_decides None (Some true) v w h k b e = cc
both_decides None None v w h k b e = cc

pub either_decides : (o p : Option Bool) (v w : Bool) → Decides o v → Decides p w → Decides (either o p) (v || w)
either_decides (Some true) p v w h k b e = ap (λ t. t || w) (h true refl) ∙ (let f : Some true ≡ Some b = e in cc)
either_decides (Some false) p v w h k b e = ap (λ t. t || w) (h false refl) ∙ k b e
either_decides None (Some true) false w h k b e = k true refl ∙ (let f : Some true ≡ Some b = e in cc)
either_decides None (Some true) true w h k b e = (let f : Some true ≡ Some b = e in cc)
either_decides None (Some false) v w h k b e = cc
either_decides None None v w h k b e = cc

pub negated_decides : (o : Option Bool) (v : Bool) → Decides o v → Decides (option_map not o) (not v)
negated_decides (Some t) v h b e = ap not (h t refl) ∙ (let f : Some (not t) ≡ Some b = e in cc)
negated_decides None v h b e = cc

-- ---- several rules

module _ (ks : List ByKind) (x : Opened ℕ) (here : ℕ → Bool) (h : AreDecided ks x here) where
  pub all_decides : (rs : List ℕ) → Decides (all_decided ks x rs) (list_all here rs)
  all_decides [] b e = cc
  all_decides (r ∷ rs) b e = both_decides (decided_by ks x r) (all_decided ks x rs) (here r) (list_all here rs) (h r) (all_decides rs) b e

  pub any_decides : (rs : List ℕ) → Decides (any_decided ks x rs) (list_any here rs)
  any_decides [] b e = cc
  any_decides (r ∷ rs) b e = either_decides (decided_by ks x r) (any_decided ks x rs) (here r) (list_any here rs) (h r) (any_decides rs) b e

-- the same verdict for every kind
pub verdict_of-same : (o : Option Bool) (x : Opened ℕ) → verdict_of (record { null = o; boolean = o; integer = o; text = o; list = o; object = o }) x ≡ o
verdict_of-same o a_null = refl
verdict_of-same o (a_boolean b) = refl
verdict_of-same o (an_integer z) = refl
verdict_of-same o (a_text s) = refl
verdict_of-same o (a_list ys) = refl
verdict_of-same o (an_object ms) = refl

pub both_assoc : (o p q : Option Bool) → both (both o p) q ≡ both o (both p q)
both_assoc (Some false) p q = refl
both_assoc (Some true) p q = refl
both_assoc None (Some false) q = refl
both_assoc None (Some true) (Some false) = refl
both_assoc None (Some true) (Some true) = refl
both_assoc None (Some true) None = refl
both_assoc None None (Some false) = refl
both_assoc None None (Some true) = refl
both_assoc None None None = refl

pub either_assoc : (o p q : Option Bool) → either (either o p) q ≡ either o (either p q)
either_assoc (Some true) p q = refl
either_assoc (Some false) p q = refl
either_assoc None (Some true) q = refl
either_assoc None (Some false) (Some true) = refl
either_assoc None (Some false) (Some false) = refl
either_assoc None (Some false) None = refl
either_assoc None None (Some true) = refl
either_assoc None None (Some false) = refl
either_assoc None None None = refl

pub both_true : (o : Option Bool) → both o (Some true) ≡ o
both_true (Some false) = refl
both_true (Some true) = refl
both_true None = refl

pub either_false : (o : Option Bool) → either o (Some false) ≡ o
either_false (Some true) = refl
either_false (Some false) = refl
either_false None = refl
