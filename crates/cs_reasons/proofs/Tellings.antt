-- The reasons that are listed grow by one.
use Rattle.std.proofs.Common.{◌≡◌, ℕ, ◌<◌, ◌+◌, ⊎_elim, inl, inr, List, [], ◌∷◌, ◌++◌, length, take, map, Option, Some, None, ap, ◌∙◌, sym, subst, refl, arith}
use Rattle.std.specs.Prelude.{slice_get, Contains}
use Rattle.std.proofs.lemmas.Option.{slice_get_within, get_or_from_slice_get, slice_get_read}
use Rattle.cs_table.specs.Judged.{IsEarlier}
use Rattle.cs_reasons.specs.Told.{pair_of, entry_of}
use Rattle.cs_reasons.specs.Listed.{IsTold, AreTold}
use Rattle.cs_reasons.specs.declared.reasons.Link.{Link}
use Rattle.cs_reasons.specs.declared.reasons.Reason.{Reason}
use Rattle.cs_reasons.specs.declared.reasons.Reasons.{Reasons}
use Rattle.cs_reasons.proofs.Links.{More, PairsStay, last_stays}
use Rattle.cs_reasons.proofs.Lists.{at_front, at_end, at_either, length_more, take_more, take_same, length_taken, taken_all, map_agrees, map_more, length_mapped}
use Rattle.cs_reasons.proofs.Ups.{last_is}

module _ {A : Type 0} where
  pub contains : (xs : List A) (k : ℕ) (x : A) → slice_get xs k ≡ Some x → Contains xs x
  contains xs k x e = (k, slice_get_within xs k x e, get_or_from_slice_get xs k x x e)

  pub contained : (xs : List A) (x : A) (h : Contains xs x) → slice_get xs h.0 ≡ Some x
  contained xs x h = slice_get_read xs (length xs) h.0 x refl h.1 (sym h.2)

module _ {C : Type 0} (leads_to : C → Option (ℕ × ℕ)) (R : ℕ → ℕ → Type 0) (D : (ℕ × ℕ) × C → Type 0) (most : ℕ) (all : List ((ℕ × ℕ) × C)) (rs : Reasons C) (told : AreTold leads_to R D most all rs) where
  same_entries : (links : List (Link C)) → PairsStay rs.links.items links → map (entry_of links) rs.told.items ≡ map (entry_of rs.links.items) rs.told.items
  same_entries links stay = map_agrees (entry_of links) (entry_of rs.links.items) rs.told.items (λ k t e. ap (λ p. (p, t.cause)) (stay.1 t.link (told.within k t e)))

  -- links may be added
  pub relinked : (now : Reasons C) → now.count ≡ rs.count → now.told.items ≡ rs.told.items → PairsStay rs.links.items now.links.items → AreTold leads_to R D most all now
  relinked now count same stay = record {
    sound = told.sound;
    complete = told.complete;
    once = told.once;
    in_order = told.in_order;
    within = λ k t e. let h = told.within k t (subst (λ ts. slice_get ts k ≡ Some t) same e) in let l = stay.0 in omega arith;
    told = ap (λ ts. map (entry_of now.links.items) ts) same ∙ same_entries now.links.items stay ∙ told.told;
    count = count ∙ told.count;
  }

  module _ (n k : ℕ) (c : C) where
    abbrev x : (ℕ × ℕ) × C
    x = ((n, k), c)

    -- a cause that leads to a pair is no reason
    pub pair_done : (p : ℕ × ℕ) → leads_to c ≡ Some p → AreTold leads_to R (More D x) most all rs
    pair_done p lead = record {
      sound = λ j e at. let h = told.sound j e at in (inl h.0, h.1);
      complete = λ e d leaf. ⊎_elim
          (λ (h : D e). told.complete e h leaf)
          (λ (h : e ≡ x). let f = sym lead ∙ ap (λ z. leads_to z.1) (sym h) ∙ leaf in absurd (cc))
          d;
      once = told.once;
      in_order = told.in_order;
      within = told.within;
      told = told.told;
      count = told.count;
    }

    module _ (leaf : leads_to c ≡ None) (fresh : ¬ (D x)) (behind : (e : (ℕ × ℕ) × C) → D e → ¬ (IsEarlier n k e.0.0 e.0.1)) where
      abbrev pub more : List ((ℕ × ℕ) × C)
      more = all ++ x ∷ []

      sounds : (j : ℕ) (e : (ℕ × ℕ) × C) → slice_get more j ≡ Some e → More D x e × (leads_to e.1 ≡ None)
      sounds j e at = ⊎_elim
          (λ (h : slice_get all j ≡ Some e). let s = told.sound j e h in (inl s.0, s.1))
          (λ (h : (j ≡ length all) × (e ≡ x)). (inr h.1, ap (λ z. leads_to z.1) h.1 ∙ leaf))
          (at_either all x j e at)

      completes : (e : (ℕ × ℕ) × C) → More D x e → leads_to e.1 ≡ None → Contains more e
      completes e d none = ⊎_elim
          (λ (h : D e). let i = told.complete e h none in contains more i.0 e (at_front all (x ∷ []) i.0 e (contained all e i)))
          (λ (h : e ≡ x). contains more (length all) e (at_end all x ∙ ap (λ z. Some z) (sym h)))
          d

      not_x : (j : ℕ) (e : (ℕ × ℕ) × C) → slice_get all j ≡ Some e → e ≡ x → ⊥
      not_x j e at s = fresh (subst D s (told.sound j e at).0)

      onces : (i j : ℕ) (e : (ℕ × ℕ) × C) → slice_get more i ≡ Some e → slice_get more j ≡ Some e → i ≡ j
      onces i j e it jt = ⊎_elim
          (λ (h : slice_get all i ≡ Some e). ⊎_elim
          (λ (m : slice_get all j ≡ Some e). told.once i j e h m)
          (λ (m : (j ≡ length all) × (e ≡ x)). absurd (not_x i e h m.1))
          (at_either all x j e jt))
          (λ (h : (i ≡ length all) × (e ≡ x)). ⊎_elim
          (λ (m : slice_get all j ≡ Some e). absurd (not_x j e m h.1))
          (λ (m : (j ≡ length all) × (e ≡ x)). h.0 ∙ sym m.0)
          (at_either all x j e jt))
          (at_either all x i e it)

      -- the last entry is of the pair n, k, before which or at which all that is done is
      in_orders : (i j : ℕ) (e g : (ℕ × ℕ) × C) → i < j → slice_get more i ≡ Some e → slice_get more j ≡ Some g → ¬ (IsEarlier g.0.0 g.0.1 e.0.0 e.0.1)
      in_orders i j e g lt it jt = ⊎_elim
          (λ (h : slice_get all i ≡ Some e). ⊎_elim
          (λ (m : slice_get all j ≡ Some g). told.in_order i j e g lt h m)
          (λ (m : (j ≡ length all) × (g ≡ x)). subst (λ (z : (ℕ × ℕ) × C). ¬ (IsEarlier z.0.0 z.0.1 e.0.0 e.0.1)) (sym m.1) (behind e (told.sound i e h).0))
          (at_either all x j g jt))
          (λ (h : (i ≡ length all) × (e ≡ x)). ⊎_elim
          (λ (m : slice_get all j ≡ Some g). let l = slice_get_within all j g m in let s = h.0 in absurd (omega arith))
          (λ (m : (j ≡ length all) × (g ≡ x)). let s = h.0 in let t = m.0 in absurd (omega arith))
          (at_either all x j g jt))
          (at_either all x i e it)

      length_told : length rs.told.items ≡ length (take most all)
      length_told = sym (length_mapped (entry_of rs.links.items) rs.told.items) ∙ ap (λ ts. length ts) told.told

      counted : (now : Reasons C) → now.count ≡ rs.count + 1 → now.count ≡ length more
      counted now e = let m = told.count in let l = length_more all x in omega arith

      pub leaf_done : (now : Reasons C) → IsTold most n k c rs now → AreTold leads_to R (More D x) most more now
      leaf_done now (count, inl h) = record {
        sound = sounds;
        complete = completes;
        once = onces;
        in_order = in_orders;
        within = λ j t e. subst (λ ls. t.link < length ls) (sym h.1) (told.within j t (subst (λ ts. slice_get ts j ≡ Some t) h.2 e));
        told = ap (λ ts. map (entry_of now.links.items) ts) h.2 ∙ ap (λ ls. map (entry_of ls) rs.told.items) h.1 ∙ told.told
            ∙ sym (take_same most all x (taken_all most all (let l = h.0 in let m = length_told in omega arith)));
        count = counted now count;
      }
      leaf_done now (count, inr h) =
          let a = h.0 in
          let stay = last_stays rs.links.items now.links.items n k a h.2 in
          let is = last_is rs.links.items now.links.items n k a h.2 in
          let t : Reason C = record { link = a; cause = c } in
          record {
            sound = sounds;
            complete = completes;
            once = onces;
            in_order = in_orders;
            within = λ j s e. ⊎_elim
                (λ (m : slice_get rs.told.items j ≡ Some s). let l = told.within j s m in let w = stay.0 in omega arith)
                (λ (m : (j ≡ length rs.told.items) × (s ≡ t)). subst (λ (z : Reason C). z.link < length now.links.items) (sym m.1) (slice_get_within now.links.items a is.0 is.1))
                (at_either rs.told.items t j s (subst (λ ts. slice_get ts j ≡ Some s) h.3 e));
            told = ap (λ ts. map (entry_of now.links.items) ts) h.3 ∙ map_more (entry_of now.links.items) rs.told.items t
                ∙ ap (λ es. es ++ entry_of now.links.items t ∷ []) (same_entries now.links.items stay ∙ told.told)
                ∙ ap (λ p. take most all ++ (p, c) ∷ []) (ap (λ o. pair_of o) is.1 ∙ ap (λ z. (z, is.0.rule)) is.2 ∙ ap (λ z. (n, z)) is.3)
                ∙ take_more most all x (length_taken most all (let l = h.1 in let m = length_told in omega arith));
            count = counted now count;
          }
