-- What is told of reasons over numbers is told of reasons by the meaning.
use Rattle.std.proofs.Common.{◌≡◌, ◌<◌, ◌⊎◌, inl, inr, ⊎_elim, ℕ, zero, suc, Bool, true, false, true≢false, not, ◌||◌, List, [], ◌∷◌, ◌++◌, Option, Some, None, Contains, length, map, take, get_or, ◌+◌, refl, sym, ap, ap₂, ◌∙◌, subst}
use Rattle.std.specs.Prelude.{slice_get}
use Rattle.std.specs.List.{AllZip, list_any}
use Rattle.std.proofs.lemmas.List.{length-map, map-append, take-map, take_more}
use Rattle.std.proofs.lemmas.List.Folds.{list_any-append}
use Rattle.std.proofs.lemmas.Option.{same_Some, slice_get-get_or}
use Rattle.cs_document.specs.Document.{Document, null, boolean, IsDocument}
use Rattle.cs_document.specs.Opened.{Opened}
use Rattle.cs_flat.specs.Nodes.{node_at}
use Rattle.cs_flat.specs.Listed.{values, document_in}
use Rattle.cs_table.specs.Judged.{AllVerdicts, IsEarlier}
use Rattle.cs_reasons.specs.Reasons as reason
use Rattle.cs_reasons.specs.Reasons.{IsReached, IsReason, IsFollowed}
use Rattle.cs_reasons.specs.Told.{pair_at, entry_of, chain_to, IsUnder, AreReasons}
use Rattle.cs_reasons.specs.declared.reasons.Link.{Link}
use Rattle.cs_reasons.specs.declared.reasons.Up.{Up}
use Rattle.cs_reasons.specs.declared.reasons.Reason.{Reason}
use Rattle.cs_reasons.specs.declared.reasons.Reasons.{Reasons}
use Rattle.cs_reasons.specs.declared.telling.Telling.{Telling}
use Rattle.cs_rules.specs.Pointers.{At}
use Rattle.cs_profile.specs.Constraint.{Constraint}
use Rattle.cs_validate.specs.Numbering.{schema_at}
use Rattle.cs_validate.specs.Rules.{AreRules}
use Rattle.cs_validity_reasons.specs.Closest.{IsGoneInto as Goes, IsFollowedTo, stay, go, HasNoneChosen, AreOfChosen}
use Rattle.cs_validity_reasons.specs.Causes as cause
use Rattle.cs_validity_reasons.specs.Causes.{Cause}
use Rattle.cs_validity_reasons.specs.NumberedCauses.{NumberedCause, IsNumberedCause}
use Rattle.cs_validity_reasons.specs.Renamed.{IsUpRenamed, IsLinkRenamed, IsReasonRenamed, AreRenamed}
use Rattle.cs_validity_reasons.specs.Why.{Way, by_alternative, is_by_alternative, way_of, led, steps_of, IsWhyNot, IsWhy, IsTold, itself, none}
use Rattle.cs_validity_reasons.specs.WhyTold.{ValidCause, cause_of, ways_of, ways_to, numbered_entry, value_of, schema_of, meant, LeadTo, IsToldWhy}
use Rattle.cs_validity_reasons.proofs.Contained.{place_of, at_place, got_map, got_map_back}
use Rattle.cs_validity_reasons.proofs.Pointed.{refused_at}
use Rattle.cs_validity_reasons.proofs.Chains.{IsChain, start, more, IsUnderBy, AreLinkedBy, chain_to_link}
use Rattle.cs_validity_reasons.proofs.Whys.{IsSetting, IsNumberedChain, ways_more, number_why, refused_by_chain, leads_by_chain, why_by_chain, why_has_reason}

got_taken : {X : Type 0} (n : ℕ) (xs : List X) (k : ℕ) (x : X) → slice_get (take n xs) k ≡ Some x → slice_get xs k ≡ Some x
got_taken zero xs k x e = cc
got_taken (suc n) [] k x e = e
got_taken (suc n) (y ∷ xs) zero x e = e
got_taken (suc n) (y ∷ xs) (suc k) x e = got_taken n xs k x e

-- what stands beside an element of the second of two lists
beside : {X Y : Type 0} (P : X → Y → Type 0) (xs : List X) (ys : List Y) → AllZip P xs ys → (k : ℕ) (y : Y) → slice_get ys k ≡ Some y → (x : X) × (slice_get xs k ≡ Some x) × P x y
beside P [] [] h k y e = cc
beside P [] (z ∷ ys) h k y e = absurd h
beside P (x ∷ xs) [] h k y e = absurd h
beside P (x ∷ xs) (z ∷ ys) h zero y e = (x, refl, subst (P x) (let p : z ≡ y = cc in p) h.0)
beside P (x ∷ xs) (z ∷ ys) h (suc k) y e = beside P xs ys h.1 k y e

zip_length : {X Y : Type 0} (P : X → Y → Type 0) (xs : List X) (ys : List Y) → AllZip P xs ys → length xs ≡ length ys
zip_length P [] [] h = refl
zip_length P [] (y ∷ ys) h = absurd h
zip_length P (x ∷ xs) [] h = absurd h
zip_length P (x ∷ xs) (y ∷ ys) h = ap suc (zip_length P xs ys h.1)

-- one more of each
pub zip_push : {X Y : Type 0} (P : X → Y → Type 0) (xs : List X) (ys : List Y) (x : X) (y : Y) → AllZip P xs ys → P x y → AllZip P (xs ++ x ∷ []) (ys ++ y ∷ [])
zip_push P [] [] x y h p = (p, tt)
zip_push P [] (z ∷ ys) x y h p = absurd h
zip_push P (z ∷ xs) [] x y h p = absurd h
zip_push P (z ∷ xs) (w ∷ ys) x y h p = (h.0, zip_push P xs ys x y h.1 p)

-- one more of those in front
pub zip_more : {X Y : Type 0} (P : X → Y → Type 0) (xs : List X) (ys zs : List Y) (i : ℕ) (d : X) (y : Y) → i < length xs → zs ≡ ys ++ y ∷ [] → AllZip P (take i xs) ys → P (get_or xs i d) y → AllZip P (take (i + 1) xs) zs
zip_more P xs ys zs i d y l grown h p =
    subst (λ fs. AllZip P fs zs) (sym (take_more xs i d l)) (subst (AllZip P (take i xs ++ get_or xs i d ∷ [])) (sym grown) (zip_push P (take i xs) ys (get_or xs i d) y h p))

-- those that stand beside each other in another way
pub zip_map : {X Y : Type 0} (P Q : X → Y → Type 0) → ((x : X) (y : Y) → P x y → Q x y) → (xs : List X) (ys : List Y) → AllZip P xs ys → AllZip Q xs ys
zip_map P Q f [] [] h = tt
zip_map P Q f [] (y ∷ ys) h = absurd h
zip_map P Q f (x ∷ xs) [] h = absurd h
zip_map P Q f (x ∷ xs) (y ∷ ys) h = (f x y h.0, zip_map P Q f xs ys h.1)

-- ---- causes of any form that name causes over numbers

-- by the pair of which a cause is: these are all, and they lead where those lead
pub record AreNamed {C : Type 0} (leads_to : C → Option (ℕ × ℕ)) (is_cause : ℕ → ℕ → C → Type 0) (named : ℕ × ℕ → C → NumberedCause) (f : AllVerdicts) (xs : List (Opened ℕ)) (asked : List (Constraint ℕ ℕ)) : Type 0 where
  pub sound : (i r : ℕ) (c : C) → is_cause i r c → IsNumberedCause f xs asked i r (named (i, r) c)
  pub leads : (i r : ℕ) (c : C) → is_cause i r c → leads_to c ≡ led i (named (i, r) c)
  pub complete : (i r : ℕ) (n : NumberedCause) → IsNumberedCause f xs asked i r n → (c : C) × is_cause i r c × (named (i, r) c ≡ n)

-- alternatives are told of one by one, or there is none on these ways
abbrev pub IsGoneInto : Bool → List Way → Type 0
IsGoneInto one_by_one ways = (one_by_one || not (list_any is_by_alternative ways)) ≡ true

both_gone_into : (t a b : Bool) → (t || not (a || b)) ≡ true → ((t || not a) ≡ true) × ((t || not b) ≡ true)
both_gone_into true a b e = (refl, refl)
both_gone_into false true b e = cc
both_gone_into false false b e = (refl, e)

parts_gone_into : (t : Bool) (ways rest : List Way) → IsGoneInto t (ways ++ rest) → IsGoneInto t ways × IsGoneInto t rest
parts_gone_into t ways rest e =
    both_gone_into t (list_any is_by_alternative ways) (list_any is_by_alternative rest) (ap (λ b. t || not b) (sym (list_any-append is_by_alternative ways rest)) ∙ e)

none_to_go : (t : Bool) → IsGoneInto t []
none_to_go true = refl
none_to_go false = refl

no_way : (i : ℕ) (n : NumberedCause) → led i n ≡ None → way_of n ≡ []
no_way i (cause.reference s) e = cc
no_way i (cause.part k s) e = cc
no_way i (cause.alternative k s) e = cc
no_way i (cause.property k y s) e = cc
no_way i (cause.additional k y s) e = cc
no_way i (cause.prefix k y s) e = cc
no_way i (cause.items k y s) e = cc
no_way i _ e = refl

-- an alternative leads into a chosen pair; and no alternative of a pair does
abbrev pub IsInto : AllVerdicts → ℕ → NumberedCause → Type 0
IsInto chosen i (cause.alternative k s) = chosen i s ≡ true
IsInto chosen i n = Unit {0}

abbrev pub AreUnchosen : {C : Type 0} → (ℕ → ℕ → C → Type 0) → (ℕ × ℕ → C → NumberedCause) → AllVerdicts → ℕ → ℕ → Type 0
AreUnchosen {C} is_cause named chosen j q = (d : C) (k p : ℕ) → is_cause j q d → named (j, q) d ≡ cause.alternative k p → chosen j p ≡ false

-- what is followed: causes that lead somewhere; and leaves, or that there are alternatives where these aren't told of one by one
pub record AreFollowed {C : Type 0} (leads_to : C → Option (ℕ × ℕ)) (is_cause followed : ℕ → ℕ → C → Type 0) (named : ℕ × ℕ → C → NumberedCause) (one_by_one : Bool) : Type 0 where
  pub follows : (j q : ℕ) (c : C) (p : ℕ × ℕ) → followed j q c → leads_to c ≡ Some p → is_cause j q c
  pub ends : (j q : ℕ) (c : C) → followed j q c → leads_to c ≡ None
      → is_cause j q c ⊎ ((one_by_one ≡ false) × (named (j, q) c ≡ cause.no_alternative) × (a : C) × (k : ℕ) × (p : ℕ) × is_cause j q a × (named (j, q) a ≡ cause.alternative k p))
  pub over : (j q : ℕ) (c : C) → is_cause j q c → IsGoneInto one_by_one (way_of (named (j, q) c)) → followed j q c
  -- of alternatives those that were chosen are followed, and everything else; or where none was chosen, that there are some
  pub chosen : AllVerdicts
  pub into : (j q : ℕ) (c : C) → is_cause j q c → IsInto chosen j (named (j, q) c) → followed j q c
  pub led_into : (j q : ℕ) (c : C) (p : ℕ × ℕ) → followed j q c → leads_to c ≡ Some p → IsInto chosen j (named (j, q) c)
  pub without : (j q : ℕ) (a : C) (k p : ℕ) → is_cause j q a → named (j, q) a ≡ cause.alternative k p → AreUnchosen is_cause named chosen j q
      → (c : C) × followed j q c × (leads_to c ≡ None) × (named (j, q) c ≡ cause.no_alternative)

-- what is followed at a pair differs where the causes over numbers do
abbrev pub AreDistinct : {C : Type 0} → (ℕ → ℕ → C → Type 0) → (ℕ × ℕ → C → NumberedCause) → Type 0
AreDistinct {C} followed named = (j q : ℕ) (c d : C) → followed j q c → followed j q d → named (j, q) c ≡ named (j, q) d → c ≡ d

-- another form of what is followed at a pair: it names the same cause over numbers
abbrev pub says : {C : Type 0} → (ℕ → ℕ → C → Type 0) → (ℕ × ℕ → C → NumberedCause) → ℕ × ℕ → C → ValidCause → Type 0
says followed named p c d = followed p.0 p.1 c → cause_of d ≡ named p c

module _ {C : Type 0} (followed : ℕ → ℕ → C → Type 0) (named : ℕ × ℕ → C → NumberedCause) where
  -- an entry with the cause over numbers
  abbrev pub numbered_by : (ℕ × ℕ) × C → (ℕ × ℕ) × NumberedCause
  numbered_by e = (e.0, named e.0 e.1)

  -- the pairs of links stay
  same_pair : (links ls : List (Link C)) (ms : List (Link ValidCause)) → AllZip (IsLinkRenamed (says followed named) links) ls ms → (k : ℕ) → pair_at ms k ≡ pair_at ls k
  same_pair links [] [] h k = refl
  same_pair links [] (m ∷ ms) h k = absurd h
  same_pair links (l ∷ ls) [] h k = absurd h
  same_pair links (l ∷ ls) (m ∷ ms) h zero = ap₂ (λ a b. (a, b)) h.0.item h.0.rule
  same_pair links (l ∷ ls) (m ∷ ms) h (suc k) = same_pair links ls ms h.1 k

  same_told : (ls : List (Link C)) (ss : Reasons ValidCause) → ((k : ℕ) → pair_at ss.links.items k ≡ pair_at ls k) → (ts : List (Reason C)) (us : List (Reason ValidCause))
      → ((k : ℕ) (t : Reason C) → slice_get ts k ≡ Some t → followed (pair_at ls t.link).0 (pair_at ls t.link).1 t.cause) → AllZip (IsReasonRenamed (says followed named) ls) ts us
      → map (numbered_entry ss) us ≡ map numbered_by (map (entry_of ls) ts)
  same_told ls ss pairs [] [] at h = refl
  same_told ls ss pairs [] (u ∷ us) at h = absurd h
  same_told ls ss pairs (t ∷ ts) [] at h = absurd h
  same_told ls ss pairs (t ∷ ts) (u ∷ us) at h =
      let pair : pair_at ss.links.items u.link ≡ pair_at ls t.link = pairs u.link ∙ ap (pair_at ls) h.0.link in
      ap₂ ◌∷◌ (ap₂ (λ (p : ℕ × ℕ) (n : NumberedCause). (p, n)) pair (h.0.cause (at 0 t refl))) (same_told ls ss pairs ts us (λ k v e. at (suc k) v e) h.1)

module _ (R : Document) (xs : List (Opened ℕ)) (all : List Document) (asked : List (Constraint ℕ ℕ)) (f : AllVerdicts) (V : Document → Document → Bool) (setting : IsSetting R xs all asked f V)
    {C : Type 0} (leads_to : C → Option (ℕ × ℕ)) (is_cause followed : ℕ → ℕ → C → Type 0) (named : ℕ × ℕ → C → NumberedCause) (names : AreNamed leads_to is_cause named f xs asked)
    (telling : Telling) (are : AreFollowed leads_to is_cause followed named telling.all) (i r : ℕ) where
  abbrev Numbered : List NumberedCause → ℕ × ℕ → Type 0
  Numbered ns p = IsNumberedChain f xs asked i r ns p.0 p.1

  -- ---- chains

  followed_leads : (j q : ℕ) (c : C) (p : ℕ × ℕ) → followed j q c → leads_to c ≡ Some p → led j (named (j, q) c) ≡ Some p
  followed_leads j q c p h e = sym (names.leads j q c (are.follows j q c p h e)) ∙ e

  chain_of_reached : {j q : ℕ} → IsReached leads_to followed i r j q → (ns : List NumberedCause) × Numbered ns (j, q)
  chain_of_reached reason.first = ([], start)
  chain_of_reached (reason.next {j} {q} {k} {s} {c} h a l) =
      let b = chain_of_reached h in (b.0 ++ named (j, q) c ∷ [], more b.1 (names.sound j q c (are.follows j q c (k, s) a l)) (followed_leads j q c (k, s) a l))

  reached_of_chain : {ns : List NumberedCause} {j q : ℕ} → Numbered ns (j, q) → IsGoneInto telling.all (ways_of ns) → IsReached leads_to followed i r j q
  reached_of_chain start on = reason.first
  reached_of_chain (more {cs = ns} {j} {q} {k} {s} {c = n} h a l) on =
      let c = names.complete j q n a in
      let parts = parts_gone_into telling.all (ways_of ns) (way_of n) (subst (IsGoneInto telling.all) (ways_more ns n) on) in
      reason.next (reached_of_chain h parts.0) (are.over j q c.0 c.1 (subst (λ m. IsGoneInto telling.all (way_of m)) (sym c.2) parts.1)) (names.leads j q c.0 c.1 ∙ ap (led j) c.2 ∙ l)

  -- ---- links, with causes in another form

  abbrev LinkedBy : List (Link ValidCause) → Type 0
  LinkedBy ms = AreLinkedBy (λ j d. led j (cause_of d)) (λ j q d. IsNumberedCause f xs asked j q (cause_of d)) i r ms

  abbrev UnderBy : List (Link ValidCause) → ℕ → ℕ × ℕ → Option (Up ValidCause) → Type 0
  UnderBy ms = IsUnderBy (λ j d. led j (cause_of d)) (λ j q d. IsNumberedCause f xs asked j q (cause_of d)) i r ms

  module _ (ls : List (Link C)) (ms : List (Link ValidCause)) (same : AllZip (IsLinkRenamed (says followed named) ls) ls ms) where
    pairs : (k : ℕ) → pair_at ms k ≡ pair_at ls k
    pairs k = same_pair followed named ls ls ms same k

    under : (k : ℕ) (p : ℕ × ℕ) (u : Option (Up C)) (v : Option (Up ValidCause)) → IsUpRenamed (says followed named) ls u v → IsUnder leads_to followed i r ls k p u → UnderBy ms k p v
    under k p None None h a = a
    under k p None (Some v) h a = absurd h
    under k p (Some u) None h a = absurd h
    under k p (Some u) (Some v) h a =
        let pair : pair_at ls u.link ≡ pair_at ms v.link = ap (pair_at ls) (sym h.0) ∙ sym (pairs v.link) in
        let at = pair_at ls u.link in
        let sound = names.sound at.0 at.1 u.cause (are.follows at.0 at.1 u.cause p a.2 a.3) in
        let leads = followed_leads at.0 at.1 u.cause p a.2 a.3 in
        let here : IsNumberedCause f xs asked at.0 at.1 (cause_of v.cause) = subst (IsNumberedCause f xs asked at.0 at.1) (sym (h.1 a.2)) sound in
        let led_here : led at.0 (cause_of v.cause) ≡ Some p = ap (led at.0) (h.1 a.2) ∙ leads in (
          subst (λ n. k < n) (sym h.0) a.0,
          subst (λ n. n < length ms) (sym h.0) (subst (λ n. u.link < n) (zip_length (IsLinkRenamed (says followed named) ls) ls ms same) a.1),
          subst (λ (q : ℕ × ℕ). IsNumberedCause f xs asked q.0 q.1 (cause_of v.cause)) pair here,
          subst (λ (q : ℕ × ℕ). led q.0 (cause_of v.cause) ≡ Some p) pair led_here,
        )

    linked_by : ((k : ℕ) (l : Link C) → slice_get ls k ≡ Some l → IsUnder leads_to followed i r ls k (l.item, l.rule) l.up) → LinkedBy ms
    linked_by linked k m e =
        let l = beside (IsLinkRenamed (says followed named) ls) ls ms same k m e in
        let pair : (l.0.item, l.0.rule) ≡ (m.item, m.rule) = ap₂ (λ (a b : ℕ). (a, b)) (sym l.2.item) (sym l.2.rule) in
        under k (m.item, m.rule) l.0.up m.up l.2.up (subst (λ (p : ℕ × ℕ). IsUnder leads_to followed i r ls k p l.0.up) pair (linked k l.0 l.1))

  -- causes in another form, as causes over numbers
  chain_of_causes : {cs : List ValidCause} {j q : ℕ} → IsChain (λ j d. led j (cause_of d)) (λ j q d. IsNumberedCause f xs asked j q (cause_of d)) i r cs j q → Numbered (map cause_of cs) (j, q)
  chain_of_causes start = start
  chain_of_causes (more {cs} {j} {q} {k} {s} {c} h a l) =
      subst (λ ns. Numbered ns (k, s)) (sym (map-append cause_of cs (c ∷ []))) (more (chain_of_causes h) a l)

  module _ (i_within : i < length xs) (r_within : r < length all) (is_root : schema_at all r ≡ R) (is_last : node_at (values xs) i ≡ document_in xs) (refused : V R (document_in xs) ≡ false) (fits : IsDocument (document_in xs)) where
    abbrev Told : List Way → ℕ × ℕ → NumberedCause → Type 0
    Told ways p n = IsTold R V R (document_in xs) telling.all ways (schema_of all xs p) (value_of all xs p) (meant all xs n)

    -- the same from the pair of the document and the root
    abbrev ToldBelow : List Way → ℕ × ℕ → NumberedCause → Type 0
    ToldBelow ways p n = IsTold R V (schema_at all r) (node_at (values xs) i) telling.all ways (schema_of all xs p) (value_of all xs p) (meant all xs n)

    abbrev Leads : List Way → ℕ × ℕ → Type 0
    Leads ways p = LeadTo all xs V asked i r ways p

    refused_pair : V (schema_at all r) (node_at (values xs) i) ≡ false
    refused_pair = ap (λ s. V s (node_at (values xs) i)) is_root ∙ ap (V R) is_last ∙ refused

    told_below : {ns : List NumberedCause} {j q : ℕ} {c : C} → Numbered ns (j, q) → followed j q c → leads_to c ≡ None → ToldBelow (ways_of ns) (j, q) (named (j, q) c)
    told_below {ns} {j} {q} {c} h a e =
        elim (are.ends j q c a e) [
          | inl b ↦ itself (why_by_chain R xs all asked f V setting i r refused_pair h (names.sound j q c b) (sym (names.leads j q c b) ∙ e))
          | inr b ↦
              let no = refused_by_chain R xs all asked f V setting i r refused_pair h in
              let why = number_why R xs all asked f V setting j q (named (j, q) b.2) (names.sound j q b.2 b.5) in
              let given : IsWhyNot R V (schema_at all q) (node_at (values xs) j) (cause.alternative b.3 (schema_at all b.4)) =
              subst (λ n. IsWhyNot R V (schema_at all q) (node_at (values xs) j) (meant all xs n)) b.6 why in
              subst (λ n. ToldBelow (ways_of ns) (j, q) n) (sym b.1) (none b.0 no given)
        ]

    told_by_chain : {ns : List NumberedCause} {j q : ℕ} {c : C} → Numbered ns (j, q) → followed j q c → leads_to c ≡ None → Told (ways_of ns) (j, q) (named (j, q) c)
    told_by_chain {ns} {j} {q} {c} h a e =
        let rooted = subst (λ s. IsTold R V s (node_at (values xs) i) telling.all (ways_of ns) (schema_at all q) (node_at (values xs) j) (meant all xs (named (j, q) c))) is_root (told_below h a e) in
        subst (λ x. IsTold R V R x telling.all (ways_of ns) (schema_at all q) (node_at (values xs) j) (meant all xs (named (j, q) c))) is_last rooted

    told_there : {one_by_one : Bool} {ways : List Way} {s x : Document} {c : Cause Document Document Document} → IsTold R V R (document_in xs) one_by_one ways s x c → At (steps_of ways) (document_in xs) x
    told_there (itself h) = refused_at R V R (document_in xs) fits h.refused
    told_there (none e h a) = refused_at R V R (document_in xs) fits h

    module _ (rs : Reasons C) (reasons : AreReasons leads_to followed i r telling.most rs) (ss : Reasons ValidCause) (same : AreRenamed (says followed named) rs ss) (distinct : AreDistinct followed named) where
      abbrev all_numbered : List ((ℕ × ℕ) × NumberedCause)
      all_numbered = map (numbered_by followed named) reasons.all

      entry_at : (k : ℕ) (t : Reason C) → slice_get rs.told.items k ≡ Some t → slice_get reasons.all k ≡ Some (entry_of rs.links.items t)
      entry_at k t e =
          got_taken telling.most reasons.all k (entry_of rs.links.items t) (ap (λ es. slice_get es k) (sym reasons.told) ∙ got_map (entry_of rs.links.items) rs.told.items k t e)

      within : (u : Reason ValidCause) (k : ℕ) → slice_get ss.told.items k ≡ Some u → u.link < length ss.links.items
      within u k e =
          let b = beside (IsReasonRenamed (says followed named) rs.links.items) rs.told.items ss.told.items same.told k u e in
          subst (λ n. n < length ss.links.items) (sym b.2.link)
          (subst (λ n. b.0.link < n) (zip_length (IsLinkRenamed (says followed named) rs.links.items) rs.links.items ss.links.items same.links) (reasons.within k b.0 b.1))

      chain_there : (u : Reason ValidCause) (k : ℕ) → slice_get ss.told.items k ≡ Some u → Numbered (map cause_of (chain_to ss.links.items u.link)) (pair_at ss.links.items u.link)
      chain_there u k e =
          let linked = linked_by rs.links.items ss.links.items same.links reasons.linked in
          chain_of_causes (chain_to_link (λ j d. led j (cause_of d)) (λ j q d. IsNumberedCause f xs asked j q (cause_of d)) i r ss.links.items linked u.link (within u k e))

      told_of : (k : ℕ) (u : Reason ValidCause) → slice_get ss.told.items k ≡ Some u → Told (ways_to ss u.link) (pair_at ss.links.items u.link) (cause_of u.cause)
      told_of k u e =
          let b = beside (IsReasonRenamed (says followed named) rs.links.items) rs.told.items ss.told.items same.told k u e in
          let t = b.0 in
          let s = reasons.sound k (entry_of rs.links.items t) (entry_at k t b.1) in
          let pair : pair_at ss.links.items u.link ≡ pair_at rs.links.items t.link = pairs rs.links.items ss.links.items same.links u.link ∙ ap (pair_at rs.links.items) b.2.link in
          let there : Numbered (map cause_of (chain_to ss.links.items u.link)) (pair_at rs.links.items t.link) = subst (Numbered (map cause_of (chain_to ss.links.items u.link))) pair (chain_there u k e) in
          let told : Told (ways_to ss u.link) (pair_at rs.links.items t.link) (named (pair_at rs.links.items t.link) t.cause) = told_by_chain there s.cause s.leaf in
          subst (λ p. Told (ways_to ss u.link) p (cause_of u.cause)) (sym pair) (subst (Told (ways_to ss u.link) (pair_at rs.links.items t.link)) (sym (b.2.cause s.cause)) told)

      sound_of : (k : ℕ) (e : (ℕ × ℕ) × NumberedCause) → slice_get all_numbered k ≡ Some e → (ways : List Way) × Leads ways e.0 × Told ways e.0 e.1
      sound_of k e h =
          let b = got_map_back (numbered_by followed named) reasons.all k e h in
          let s = reasons.sound k b.0 b.1 in
          let c = chain_of_reached s.reached in
          let told : Told (ways_of c.0) b.0.0 (named b.0.0 b.0.1) = told_by_chain c.1 s.cause s.leaf in
          (ways_of c.0, subst (λ (z : (ℕ × ℕ) × NumberedCause). Leads (ways_of c.0) z.0) b.2 (leads_by_chain R xs all asked f V setting i r c.1), subst (λ (z : (ℕ × ℕ) × NumberedCause). Told (ways_of c.0) z.0 z.1) b.2 told)

      once_of : (j k : ℕ) (e : (ℕ × ℕ) × NumberedCause) → slice_get all_numbered j ≡ Some e → slice_get all_numbered k ≡ Some e → j ≡ k
      once_of j k e g h =
          let a = got_map_back (numbered_by followed named) reasons.all j e g in
          let b = got_map_back (numbered_by followed named) reasons.all k e h in
          let s = reasons.sound j a.0 a.1 in
          let t = reasons.sound k b.0 b.1 in
          let pair : b.0.0 ≡ a.0.0 = ap (λ (z : (ℕ × ℕ) × NumberedCause). z.0) (b.2 ∙ sym a.2) in
          let other : followed a.0.0.0 a.0.0.1 b.0.1 = subst (λ (p : ℕ × ℕ). followed p.0 p.1 b.0.1) pair t.cause in
          let causes : named a.0.0 a.0.1 ≡ named a.0.0 b.0.1 =
          ap (λ (z : (ℕ × ℕ) × NumberedCause). z.1) (a.2 ∙ sym b.2) ∙ ap (λ p. named p b.0.1) pair in
          let cause : a.0.1 ≡ b.0.1 = distinct a.0.0.0 a.0.0.1 a.0.1 b.0.1 s.cause other causes in
          let entry : b.0 ≡ a.0 = ap₂ (λ (p : ℕ × ℕ) (c : C). (p, c)) pair (sym cause) in
          reasons.once j k a.0 a.1 (b.1 ∙ ap (λ z. Some z) entry)

      in_order_of : (j k : ℕ) (e g : (ℕ × ℕ) × NumberedCause) → j < k → slice_get all_numbered j ≡ Some e → slice_get all_numbered k ≡ Some g → ¬ (IsEarlier g.0.0 g.0.1 e.0.0 e.0.1)
      in_order_of j k e g l a b earlier =
          let x = got_map_back (numbered_by followed named) reasons.all j e a in
          let y = got_map_back (numbered_by followed named) reasons.all k g b in
          let first : e.0 ≡ x.0.0 = ap (λ (z : (ℕ × ℕ) × NumberedCause). z.0) (sym x.2) in
          let second : g.0 ≡ y.0.0 = ap (λ (z : (ℕ × ℕ) × NumberedCause). z.0) (sym y.2) in
          let here : IsEarlier g.0.0 g.0.1 x.0.0.0 x.0.0.1 = subst (λ (p : ℕ × ℕ). IsEarlier g.0.0 g.0.1 p.0 p.1) first earlier in
          reasons.in_order j k x.0 y.0 l x.1 y.1 (subst (λ (p : ℕ × ℕ). IsEarlier p.0 p.1 x.0.0.0 x.0.0.1) second here)

      complete_of : (ways : List Way) (s x : Document) (c : Cause Document Document Document) → IsWhy R V R (document_in xs) ways s x c → IsGoneInto telling.all ways
          → (e : (ℕ × ℕ) × NumberedCause) × Contains all_numbered e × Leads ways e.0 × (schema_of all xs e.0 ≡ s) × (value_of all xs e.0 ≡ x) × (meant all xs e.1 ≡ c)
      complete_of ways s x c why on =
          let rooted = subst (λ z. IsWhy R V z (document_in xs) ways s x c) (sym is_root) why in
          let here : IsWhy R V (schema_at all r) (node_at (values xs) i) ways s x c = subst (λ z. IsWhy R V (schema_at all r) z ways s x c) (sym is_last) rooted in
          let h = why_has_reason R xs all asked f V setting i r i_within r_within ways s x c here in
          let d = names.complete h.there.item h.there.rule h.leaf h.cause in
          let e : (ℕ × ℕ) × C = ((h.there.item, h.there.rule), d.0) in
          let given : IsReason leads_to followed i r e =
          record {
            reached = reached_of_chain h.there.chain (subst (IsGoneInto telling.all) (sym h.there.same) on);
            cause = are.over h.there.item h.there.rule d.0 d.1 (subst (IsGoneInto telling.all) (sym (ap way_of d.2 ∙ no_way h.there.item h.leaf h.nowhere)) (none_to_go telling.all));
            leaf = names.leads h.there.item h.there.rule d.0 d.1 ∙ ap (led h.there.item) d.2 ∙ h.nowhere;
          } in
          let p = place_of reasons.all e (reasons.complete e given) in
          (numbered_by followed named e, at_place all_numbered (numbered_by followed named e) p.0 (got_map (numbered_by followed named) reasons.all p.0 e p.1), subst (λ w. Leads w (h.there.item, h.there.rule)) h.there.same (leads_by_chain R xs all asked f V setting i r h.there.chain), h.there.schema, h.there.value, ap (meant all xs) d.2 ∙ h.means)

      -- ---- of alternatives the chosen ones

      abbrev To : ℕ → ℕ → Type 0
      To = IsFollowedTo f xs asked are.chosen i r

      same_into : (j : ℕ) (n : NumberedCause) → IsInto are.chosen j n → Goes f xs asked are.chosen j n
      same_into j (cause.alternative k s) h = h
      same_into j (cause.reference s) h = tt
      same_into j (cause.part k s) h = tt
      same_into j (cause.property k y s) h = tt
      same_into j (cause.additional k y s) h = tt
      same_into j (cause.prefix k y s) h = tt
      same_into j (cause.items k y s) h = tt
      same_into j cause.never_valid h = tt
      same_into j cause.no_alternative h = tt
      same_into j (cause.missing k) h = tt
      same_into j (cause.by_keyword w) h = tt

      back_into : (j : ℕ) (n : NumberedCause) → Goes f xs asked are.chosen j n → IsInto are.chosen j n
      back_into j (cause.alternative k s) h = h
      back_into j (cause.reference s) h = tt
      back_into j (cause.part k s) h = tt
      back_into j (cause.property k y s) h = tt
      back_into j (cause.additional k y s) h = tt
      back_into j (cause.prefix k y s) h = tt
      back_into j (cause.items k y s) h = tt
      back_into j cause.never_valid h = tt
      back_into j cause.no_alternative h = tt
      back_into j (cause.missing k) h = tt
      back_into j (cause.by_keyword w) h = tt

      leaf_into : (j : ℕ) (n : NumberedCause) → led j n ≡ None → IsInto are.chosen j n
      leaf_into j (cause.alternative k s) h = cc
      leaf_into j (cause.reference s) h = cc
      leaf_into j (cause.part k s) h = cc
      leaf_into j (cause.property k y s) h = cc
      leaf_into j (cause.additional k y s) h = cc
      leaf_into j (cause.prefix k y s) h = cc
      leaf_into j (cause.items k y s) h = cc
      leaf_into j cause.never_valid h = tt
      leaf_into j cause.no_alternative h = tt
      leaf_into j (cause.missing k) h = tt
      leaf_into j (cause.by_keyword w) h = tt

      to_reached : {j q : ℕ} → To j q → IsReached leads_to followed i r j q
      to_reached stay = reason.first
      to_reached (go {j = j} {q = q} {k = k} {s = s} {c = n} h is into end) =
          let c = names.complete j q n is in
          reason.next (to_reached h) (are.into j q c.0 c.1 (subst (IsInto are.chosen j) (sym c.2) (back_into j n into))) (names.leads j q c.0 c.1 ∙ ap (led j) c.2 ∙ end)

      from_reached : {j q : ℕ} → IsReached leads_to followed i r j q → To j q
      from_reached reason.first = stay
      from_reached (reason.next {j} {q} {k} {s} {c} h a l) =
          go (from_reached h) (names.sound j q c (are.follows j q c (k, s) a l)) (same_into j (named (j, q) c) (are.led_into j q c (k, s) a l)) (followed_leads j q c (k, s) a l)

      contained : (e : (ℕ × ℕ) × C) → IsReason leads_to followed i r e → Contains all_numbered (numbered_by followed named e)
      contained e h =
          let p = place_of reasons.all e (reasons.complete e h) in
          at_place all_numbered (numbered_by followed named e) p.0 (got_map (numbered_by followed named) reasons.all p.0 e p.1)

      leaves_of : (j q : ℕ) (n : NumberedCause) → To j q → IsNumberedCause f xs asked j q n → led j n ≡ None → Contains all_numbered ((j, q), n)
      leaves_of j q n t is nowhere =
          let c = names.complete j q n is in
          let given : IsReason leads_to followed i r ((j, q), c.0) = record { reached = to_reached t; cause = are.into j q c.0 c.1 (subst (IsInto are.chosen j) (sym c.2) (leaf_into j n nowhere)); leaf = names.leads j q c.0 c.1 ∙ ap (led j) c.2 ∙ nowhere } in
          subst (λ m. Contains all_numbered ((j, q), m)) c.2 (contained ((j, q), c.0) given)

      none_of : (j q k s : ℕ) → To j q → IsNumberedCause f xs asked j q (cause.alternative k s) → HasNoneChosen f xs asked are.chosen j q → Contains all_numbered ((j, q), cause.no_alternative)
      none_of j q k s t is unchosen =
          let c = names.complete j q (cause.alternative k s) is in
          let w = are.without j q c.0 k s c.1 c.2 (λ d m p one e. unchosen m p (subst (IsNumberedCause f xs asked j q) e (names.sound j q d one))) in
          subst (λ m. Contains all_numbered ((j, q), m)) w.3 (contained ((j, q), w.0) (record { reached = to_reached t; cause = w.1; leaf = w.2 }))

      only_of : (k : ℕ) (e : (ℕ × ℕ) × NumberedCause) → slice_get all_numbered k ≡ Some e → To e.0.0 e.0.1
      only_of k e h =
          let b = got_map_back (numbered_by followed named) reasons.all k e h in
          subst (λ (z : (ℕ × ℕ) × NumberedCause). To z.0.0 z.0.1) b.2 (from_reached (reasons.sound k b.0 b.1).reached)

      of_chosen : AreOfChosen V all xs asked i r all_numbered
      of_chosen = record { verdicts = f; by_meaning = setting.agree; chosen = are.chosen; only = only_of; leaves = leaves_of; none = none_of }

      pub tells : AreRules R all → IsToldWhy R V xs telling ss
      tells rules = record {
        rules = all;
        are = rules;
        asked = asked;
        numbering = setting.numbering;
        root = r;
        found = slice_get-get_or all r (boolean false) r_within ∙ ap (λ s. Some s) is_root;
        whole = i;
        last = slice_get-get_or (values xs) i null (subst (λ n. i < n) setting.are.count i_within) ∙ ap (λ x. Some x) is_last;
        true_of = told_of;
        leads = λ k t e. leads_by_chain R xs all asked f V setting i r (chain_there t k e);
        there = λ k t e. told_there (told_of k t e);
        all = all_numbered;
        sound = sound_of;
        told = same_told followed named rs.links.items ss (pairs rs.links.items ss.links.items same.links) rs.told.items ss.told.items (λ k t e. (reasons.sound k (entry_of rs.links.items t) (entry_at k t e)).cause) same.told ∙ ap (map (numbered_by followed named)) reasons.told ∙ sym (take-map (numbered_by followed named) telling.most reasons.all);
        count = same.count ∙ reasons.count ∙ sym (length-map reasons.all (numbered_by followed named));
        some = subst (λ n. 0 < n) (sym (length-map reasons.all (numbered_by followed named))) reasons.some;
        once = once_of;
        in_order = in_order_of;
        complete = complete_of;
        closest = of_chosen;
      }

-- ---- the two ways of telling

into_any : (i : ℕ) (n : NumberedCause) → IsInto (λ j q. true) i n
into_any i (cause.alternative k s) = refl
into_any i (cause.reference s) = tt
into_any i (cause.part k s) = tt
into_any i (cause.property k y s) = tt
into_any i (cause.additional k y s) = tt
into_any i (cause.prefix k y s) = tt
into_any i (cause.items k y s) = tt
into_any i cause.never_valid = tt
into_any i cause.no_alternative = tt
into_any i (cause.missing k) = tt
into_any i (cause.by_keyword w) = tt

module _ {C : Type 0} (leads_to : C → Option (ℕ × ℕ)) (is_cause : ℕ → ℕ → C → Type 0) (named : ℕ × ℕ → C → NumberedCause) where
  -- every cause is followed
  pub all_followed : (one_by_one : Bool) → AreFollowed leads_to is_cause is_cause named one_by_one
  all_followed one_by_one =
      record {
        follows = λ j q c p a l. a;
        ends = λ j q c a l. inl a;
        over = λ j q c a e. a;
        chosen = λ j q. true;
        into = λ j q c a e. a;
        led_into = λ j q c p a l. into_any j (named (j, q) c);
        without = λ j q a k p is e rest. absurd (true≢false (rest a k p is e));
      }

  -- of alternatives the closest ones
  module _ (is_alternative : C → Bool) (no_one : C) (chosen : AllVerdicts) (nowhere : leads_to no_one ≡ None) (is_none : (p : ℕ × ℕ) → named p no_one ≡ cause.no_alternative)
      (only : (p : ℕ × ℕ) (c : C) → named p c ≡ cause.no_alternative → c ≡ no_one)
      (alternatives : (p : ℕ × ℕ) (c : C) → is_alternative c ≡ true → (k : ℕ) × (q : ℕ) × (named p c ≡ cause.alternative k q))
      (shown : (p : ℕ × ℕ) (c : C) (k q : ℕ) → named p c ≡ cause.alternative k q → is_alternative c ≡ true) (leads : (j q : ℕ) (c : C) → is_cause j q c → leads_to c ≡ led j (named (j, q) c)) where
    abbrev Followed : ℕ → ℕ → C → Type 0
    Followed = IsFollowed leads_to is_cause is_alternative no_one chosen

    follows_causes : (j q : ℕ) (c : C) (p : ℕ × ℕ) → Followed j q c → leads_to c ≡ Some p → is_cause j q c
    follows_causes j q c p (reason.other a b) l = a
    follows_causes j q c p (reason.alternative a b m h) l = a
    follows_causes j q c p (reason.unchosen a b h) l = absurd (let e : None ≡ Some p = sym nowhere ∙ l in cc)

    ends_at_causes : (j q : ℕ) (c : C) → Followed j q c → leads_to c ≡ None
        → is_cause j q c ⊎ ((false ≡ false) × (named (j, q) c ≡ cause.no_alternative) × (a : C) × (k : ℕ) × (p : ℕ) × is_cause j q a × (named (j, q) a ≡ cause.alternative k p))
    ends_at_causes j q c (reason.other a b) l = inl a
    ends_at_causes j q c (reason.alternative a b m h) l = inl a
    ends_at_causes j q c (reason.unchosen {c = d} a b h) l = let p = alternatives (j, q) d b in inr (refl, is_none (j, q), d, p.0, p.1, a, p.2)

    others_followed : (j q : ℕ) (c : C) → is_cause j q c → IsGoneInto false (way_of (named (j, q) c)) → Followed j q c
    others_followed j q c a e = by (is_alternative c) refl
      where
        by : (b : Bool) → is_alternative c ≡ b → Followed j q c
        by true h =
            let p = alternatives (j, q) c h in
            let ways : way_of (named (j, q) c) ≡ by_alternative p.0 ∷ [] = ap way_of p.2 in
            let wrong : false ≡ true = sym (ap (λ ws. not (list_any is_by_alternative ws)) ways) ∙ e in
            cc
        by false h = reason.other a h

    cause_or_none : (j q : ℕ) (c : C) → Followed j q c → is_cause j q c ⊎ (c ≡ no_one)
    cause_or_none j q c (reason.other a b) = inl a
    cause_or_none j q c (reason.alternative a b m h) = inl a
    cause_or_none j q c (reason.unchosen a b h) = inr refl

    pub closest_distinct : AreDistinct is_cause named → AreDistinct Followed named
    closest_distinct distinct j q c d g h e =
        ⊎_elim
        (λ (a : is_cause j q c).
        ⊎_elim
        (λ (b : is_cause j q d). distinct j q c d a b e)
        (λ (b : d ≡ no_one). only (j, q) c (e ∙ ap (named (j, q)) b ∙ is_none (j, q)) ∙ sym b)
        (cause_or_none j q d h))
        (λ (a : c ≡ no_one). a ∙ sym (only (j, q) d (sym e ∙ ap (named (j, q)) a ∙ is_none (j, q))))
        (cause_or_none j q c g)

    -- where an alternative leads
    led_there : (j q : ℕ) (c : C) (k s : ℕ) → is_cause j q c → named (j, q) c ≡ cause.alternative k s → leads_to c ≡ Some (j, s)
    led_there j q c k s a e = leads j q c a ∙ ap (led j) e

    chosen_followed : (j q : ℕ) (c : C) → is_cause j q c → IsInto chosen j (named (j, q) c) → (b : Bool) → is_alternative c ≡ b → Followed j q c
    chosen_followed j q c a into false h = reason.other a h
    chosen_followed j q c a into true h =
        let p = alternatives (j, q) c h in
        reason.alternative a h (led_there j q c p.0 p.1 a p.2) (subst (IsInto chosen j) p.2 into)

    other_into : (j q : ℕ) (c : C) (n : NumberedCause) → named (j, q) c ≡ n → is_alternative c ≡ false → IsInto chosen j n
    other_into j q c (cause.alternative k s) e h = absurd (true≢false (sym (shown (j, q) c k s e) ∙ h))
    other_into j q c (cause.reference s) e h = tt
    other_into j q c (cause.part k s) e h = tt
    other_into j q c (cause.property k y s) e h = tt
    other_into j q c (cause.additional k y s) e h = tt
    other_into j q c (cause.prefix k y s) e h = tt
    other_into j q c (cause.items k y s) e h = tt
    other_into j q c cause.never_valid e h = tt
    other_into j q c cause.no_alternative e h = tt
    other_into j q c (cause.missing k) e h = tt
    other_into j q c (cause.by_keyword w) e h = tt

    followed_into : (j q : ℕ) (c : C) (p : ℕ × ℕ) → Followed j q c → leads_to c ≡ Some p → IsInto chosen j (named (j, q) c)
    followed_into j q c p (reason.other a b) l = other_into j q c (named (j, q) c) refl b
    followed_into j q c p (reason.alternative {j = m} {q = s} a b to h) l =
        let n = alternatives (j, q) c b in
        let same = same_Some (m, s) (j, n.1) (sym to ∙ led_there j q c n.0 n.1 a n.2) in
        let into : IsInto chosen j (cause.alternative n.0 n.1) = subst (λ (x : ℕ × ℕ). chosen x.0 x.1 ≡ true) same h in
        subst (IsInto chosen j) (sym n.2) into
    followed_into j q c p (reason.unchosen a b h) l = absurd (let e : None ≡ Some p = sym nowhere ∙ l in cc)

    none_followed : (j q : ℕ) (a : C) (k p : ℕ) → is_cause j q a → named (j, q) a ≡ cause.alternative k p → AreUnchosen is_cause named chosen j q
        → (c : C) × Followed j q c × (leads_to c ≡ None) × (named (j, q) c ≡ cause.no_alternative)
    none_followed j q a k p is e without =
        let rest : (d : C) (m s : ℕ) → is_cause j q d → is_alternative d ≡ true → leads_to d ≡ Some (m, s) → chosen m s ≡ false = λ d m s one alt to.
        let n = alternatives (j, q) d alt in
        let same = same_Some (j, n.1) (m, s) (sym (led_there j q d n.0 n.1 one n.2) ∙ to) in
        subst (λ (x : ℕ × ℕ). chosen x.0 x.1 ≡ false) same (without d n.0 n.1 one n.2) in
        (no_one, reason.unchosen is (shown (j, q) a k p e) rest, nowhere, is_none (j, q))

    pub closest_followed : AreFollowed leads_to is_cause Followed named false
    closest_followed = record {
      follows = follows_causes;
      ends = ends_at_causes;
      over = others_followed;
      chosen = chosen;
      into = λ j q c a into. chosen_followed j q c a into (is_alternative c) refl;
      led_into = followed_into;
      without = none_followed;
    }
