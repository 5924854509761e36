-- What is done with the link of a pair that a cause leads to.
use Rattle.std.proofs.Common.{◌≡◌, ℕ, inl, inr, List, [], ◌∷◌, ◌++◌, get_or, true, false, Option, Some, None, ap, ◌∙◌, sym, subst, refl}
use Rattle.std.specs.Prelude.{slice_get, slice_set}
use Rattle.std.specs.Option.{is_some}
use Rattle.std.proofs.lemmas.Option.{get_or_from_slice_get}
use Rattle.cs_reasons.specs.Listed.{AreInOrder, IsLinkAt, IsFound, IsLast, IsUpFor}
use Rattle.cs_reasons.specs.declared.reasons.Link.{Link}
use Rattle.cs_reasons.specs.declared.reasons.Up.{Up}
use Rattle.cs_reasons.proofs.Lists.{at_front, at_end}

module _ {C : Type 0} where
  -- the links before the last pair's stay
  pub last_keeps : (old links : List (Link C)) (i r a : ℕ) → IsLast old links i r a → (b : ℕ) (l : Link C) → slice_get old b ≡ Some l → slice_get links b ≡ Some l
  last_keeps old links i r a (inl h) b l e = subst (λ xs. slice_get xs b ≡ Some l) (sym h.0) e
  last_keeps old links i r a (inr h) b l e = subst (λ xs. slice_get xs b ≡ Some l) (sym h.0) (at_front old (record { item = i; rule = r; up = None; as_close = 0 } ∷ []) b l e)

  pub last_is : (old links : List (Link C)) (i r a : ℕ) → IsLast old links i r a → IsLinkAt links a i r
  last_is old links i r a (inl h) = subst (λ xs. IsLinkAt xs a i r) (sym h.0) h.2
  last_is old links i r a (inr h) =
      let new : Link C = record { item = i; rule = r; up = None; as_close = 0 } in
      (new, subst (λ xs. slice_get xs a ≡ Some new) (sym h.0) (subst (λ n. slice_get (old ++ new ∷ []) n ≡ Some new) h.1 (at_end old new)), refl, refl)

  some_none : (o : Option (Up C)) → is_some o ≡ true → o ≡ None → ⊥
  some_none None e f = cc
  some_none (Some u) e f = cc

  pub no_some : (o : Option (Up C)) → is_some o ≡ false → o ≡ None
  no_some None e = refl
  no_some (Some u) e = absurd (cc)

  module _ (links : List (Link C)) (i r : ℕ) (c : C) (j q : ℕ) where
    -- there is no link of that pair
    pub no_link : IsFound links j q None → IsUpFor i r c j q links links
    no_link none = inl (refl, λ order a l is item rule _. none order a (l, is, item, rule))

    -- something leads to it already
    pub has_up : (a : ℕ) (m : Link C) → IsLinkAt links a j q → m ≡ get_or links a m → is_some m.up ≡ true → (AreInOrder links → (b : ℕ) → IsLinkAt links b j q → b ≡ a) → IsUpFor i r c j q links links
    has_up a m is read some one = inl (
      refl,
      λ order b l at item rule none.
          let s : b ≡ a = one order b (l, at, item, rule) in
          let t : slice_get links a ≡ Some l = subst (λ x. slice_get links x ≡ Some l) s at in
          let u : m ≡ l = read ∙ get_or_from_slice_get links a l m t in
          some_none m.up some (ap (λ (x : Link C). x.up) u ∙ none),
    )

    pub up_set : (new : List (Link C)) (a b : ℕ) (m n : Link C) → IsLinkAt links a j q → m ≡ get_or links a m → is_some m.up ≡ false → IsLast links new i r b → n ≡ get_or new a n
        → IsUpFor i r c j q links (slice_set new a (record n { up = Some (record { link = b; cause = c }) }))
    up_set new a b m n is read none last at =
        let u : m ≡ is.0 = read ∙ get_or_from_slice_get links a is.0 m is.1 in
        let v : n ≡ is.0 = at ∙ get_or_from_slice_get new a is.0 n (last_keeps links new i r b last a is.0 is.1) in
        inr (a, b, is.0, new, is.1, is.2, is.3, (ap (λ (x : Link C). x.up) (sym u) ∙ no_some m.up none), last, ap (λ (x : Link C). slice_set new a (record x { up = Some (record { link = b; cause = c }) })) v)
