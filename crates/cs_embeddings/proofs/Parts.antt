-- What is made of parts one after another, and why it isn't made.
use Rattle.std.proofs.Common.{◌≡◌, ℕ, suc, ◌+◌, ◌<◌, ◌≤◌, max, List, [], ◌∷◌, ◌++◌, map, take, drop, length, get_or, refl, sym, ap, ap₂, ◌∙◌, subst, arith}
use Rattle.std.proofs.lemmas.Grind.{flat_map-append}
use Rattle.std.proofs.lemmas.List.{map-append, take-append-drop, take_more, take_all}
use Rattle.std.specs.List.{flat_map, AllByRecursion}
use Rattle.cs_embeddings.proofs.Firsts.{first_left}
use Rattle.cs_embeddings.proofs.Walks.{at_place}
use Rattle.cs_embeddings.specs.Made.{IsNoRoom, IsMade}
use Rattle.cs_embeddings.specs.declared.fault.EmbeddingFault.{EmbeddingFault}
use Rattle.cs_embeddings.specs.declared.fault.EmbeddingFault.TheVariants.{OutOfMemory, UnknownName, NoStruct, Reopened, TooHigh, TooLarge}

-- ---- lists

pub take_at : {X : Type 0} (xs : List X) (i : ℕ) (x : X) → i < length xs → x ≡ get_or xs i x → take (i + 1) xs ≡ take i xs ++ x ∷ []
take_at xs i x l is = take_more xs i x l ∙ ap (λ y. take i xs ++ y ∷ []) (sym is)

-- what holds of all holds of the part that is left, and of its first element
pub all_left : {X : Type 0} (P : X → Type 0) (xs : List X) (i : ℕ) → AllByRecursion P xs → AllByRecursion P (drop i xs)
all_left P xs i h = right P (take i xs) (drop i xs) (subst (AllByRecursion P) (sym (take-append-drop i xs)) h)
  where
    right : {X : Type 0} (P : X → Type 0) (xs ys : List X) → AllByRecursion P (xs ++ ys) → AllByRecursion P ys
    right P [] ys h = h
    right P (x ∷ xs) ys h = right P xs ys h.1

pub all_at : {X : Type 0} (P : X → Type 0) (xs : List X) (i : ℕ) (x : X) → i < length xs → x ≡ get_or xs i x → AllByRecursion P xs → P x
all_at P xs i x l is h = (subst (AllByRecursion P) (at_place xs i x l is) (all_left P xs i h)).0

-- ---- two parts

pub no_room_left : (e : EmbeddingFault) (file levels nodes high large high' large' : ℕ) (clashes clashes' : List ℕ)
    → IsNoRoom e file levels nodes high large clashes → IsNoRoom e file levels nodes (max high high') (large + large') (clashes ++ clashes')
no_room_left OutOfMemory file levels nodes high large high' large' clashes clashes' h = tt
no_room_left (Reopened f o) file levels nodes high large high' large' clashes clashes' h = (h.0, first_left clashes clashes' o h.1)
no_room_left (TooHigh f) file levels nodes high large high' large' clashes clashes' h = (h.0, omega arith)
no_room_left TooLarge file levels nodes high large high' large' clashes clashes' h = omega arith
no_room_left (UnknownName f o) file levels nodes high large high' large' clashes clashes' h = absurd h
no_room_left (NoStruct f o) file levels nodes high large high' large' clashes clashes' h = absurd h

pub no_room_right : (e : EmbeddingFault) (file levels nodes rest high large high' large' : ℕ) (clashes clashes' : List ℕ) → rest + large ≡ nodes → clashes ≡ []
    → IsNoRoom e file levels rest high' large' clashes' → IsNoRoom e file levels nodes (max high high') (large + large') (clashes ++ clashes')
no_room_right OutOfMemory file levels nodes rest high large high' large' clashes clashes' left apart h = tt
no_room_right (Reopened f o) file levels nodes rest high large high' large' clashes clashes' left apart h = (h.0, rw apart h.1)
no_room_right (TooHigh f) file levels nodes rest high large high' large' clashes clashes' left apart h = (h.0, omega arith)
no_room_right TooLarge file levels nodes rest high large high' large' clashes clashes' left apart h = omega arith
no_room_right (UnknownName f o) file levels nodes rest high large high' large' clashes clashes' left apart h = absurd h
no_room_right (NoStruct f o) file levels nodes rest high large high' large' clashes clashes' left apart h = absurd h

-- ---- what has parts

-- a level below there are no more levels than literals inside of one another
pub lower : (levels below n : ℕ) → suc below ≡ levels → levels ≤ n → below ≤ n
lower levels below n l deep = omega arith

pub no_room_inside : (e : EmbeddingFault) (file levels below nodes rest high large : ℕ) (clashes : List ℕ) → suc below ≡ levels → suc rest ≡ nodes
    → IsNoRoom e file below rest high large clashes → IsNoRoom e file levels nodes (suc high) (1 + large) clashes
no_room_inside OutOfMemory file levels below nodes rest high large clashes l n h = tt
no_room_inside (Reopened f o) file levels below nodes rest high large clashes l n h = h
no_room_inside (TooHigh f) file levels below nodes rest high large clashes l n h = (h.0, omega arith)
no_room_inside TooLarge file levels below nodes rest high large clashes l n h = omega arith
no_room_inside (UnknownName f o) file levels below nodes rest high large clashes l n h = absurd h
no_room_inside (NoStruct f o) file levels below nodes rest high large clashes l n h = absurd h

pub no_room_below : (e : EmbeddingFault) (file levels below nodes high large : ℕ) (clashes : List ℕ) → suc below ≡ levels
    → IsNoRoom e file below nodes high large clashes → IsNoRoom e file levels nodes (suc high) large clashes
no_room_below OutOfMemory file levels below nodes high large clashes l h = tt
no_room_below (Reopened f o) file levels below nodes high large clashes l h = h
no_room_below (TooHigh f) file levels below nodes high large clashes l h = (h.0, omega arith)
no_room_below TooLarge file levels below nodes high large clashes l h = h
no_room_below (UnknownName f o) file levels below nodes high large clashes l h = absurd h
no_room_below (NoStruct f o) file levels below nodes high large clashes l h = absurd h

module _ {T U : Type 0} (levels below : ℕ) (lower : suc below ≡ levels) (nodes rest high large : ℕ) (x meant : T) (clashes : List ℕ) (f : T → U) (y : U)
    (is : y ≡ f x) where
  pub made_inside : (more : ℕ) → suc nodes ≡ more → IsMade below nodes rest high large x meant clashes
      → IsMade levels more rest (suc high) (1 + large) y (f meant) clashes
  made_inside more fewer h = record { made = is ∙ ap f h.made; low = let l = h.low in omega arith; left = let l = h.left in omega arith; apart = h.apart }

  pub made_below : IsMade below nodes rest high large x meant clashes → IsMade levels nodes rest (suc high) large y (f meant) clashes
  made_below h = record { made = is ∙ ap f h.made; low = let l = h.low in omega arith; left = h.left; apart = h.apart }

-- ---- many parts

module _ {X : Type 0} where
  abbrev pub highest : (X → ℕ) → List X → ℕ
  highest high [] = 0
  highest high (x ∷ xs) = max (high x) (highest high xs)

  abbrev pub total : (X → ℕ) → List X → ℕ
  total large [] = 0
  total large (x ∷ xs) = large x + total large xs

  highest-append : (high : X → ℕ) (xs ys : List X) → highest high (xs ++ ys) ≡ max (highest high xs) (highest high ys)
  highest-append high [] ys = omega arith
  highest-append high (x ∷ xs) ys = let h = highest-append high xs ys in omega arith

  total-append : (large : X → ℕ) (xs ys : List X) → total large (xs ++ ys) ≡ total large xs + total large ys
  total-append large [] ys = omega arith
  total-append large (x ∷ xs) ys = let h = total-append large xs ys in omega arith

-- the elements ys are made of the elements xs, which are so high and so large each
pub record AreMade {X Y T : Type 0} (view : Y → T) (own : X → T) (high large : X → ℕ) (clashes : X → List ℕ) (levels nodes rest : ℕ) (xs : List X)
    (ys : List Y) : Type 0 where
  pub made : map view ys ≡ map own xs
  pub low : highest high xs ≤ levels
  pub left : rest + total large xs ≡ nodes
  pub apart : flat_map clashes xs ≡ []

module _ {X Y T : Type 0} (view : Y → T) (own : X → T) (high large : X → ℕ) (clashes : X → List ℕ) (levels nodes : ℕ) where
  pub none_made : AreMade view own high large clashes levels nodes nodes [] []
  none_made = record { made = refl; low = omega arith; left = omega arith; apart = refl }

  push_made : (rest rest' : ℕ) (xs : List X) (ys : List Y) (x : X) (y : Y) → AreMade view own high large clashes levels nodes rest xs ys
      → IsMade levels rest rest' (high x) (large x) (view y) (own x) (clashes x)
      → AreMade view own high large clashes levels nodes rest' (xs ++ x ∷ []) (ys ++ y ∷ [])
  push_made rest rest' xs ys x y before one = record {
    made = map-append view ys (y ∷ []) ∙ ap₂ (λ zs z. zs ++ z ∷ []) before.made one.made ∙ sym (map-append own xs (x ∷ []));
    low = let a = before.low in let b = one.low in omega (arith, highest-append high xs (x ∷ []));
    left = let a = before.left in let b = one.left in omega (arith, total-append large xs (x ∷ []));
    apart = flat_map-append clashes xs (x ∷ []) ∙ ap₂ (λ zs z. zs ++ (z ++ [])) before.apart one.apart;
  }

  module _ (xs : List X) (i : ℕ) where
    pub one_made : (x : X) → i < length xs → x ≡ get_or xs i x → (rest rest' : ℕ) (ys zs : List Y) (y : Y) → zs ≡ ys ++ y ∷ []
        → AreMade view own high large clashes levels nodes rest (take i xs) ys → IsMade levels rest rest' (high x) (large x) (view y) (own x) (clashes x)
        → AreMade view own high large clashes levels nodes rest' (take (i + 1) xs) zs
    one_made x l is rest rest' ys zs y grown before one = rw (grown, take_at xs i x l is) (push_made rest rest' (take i xs) ys x y before one)

    pub all_made : length xs ≤ i → (rest : ℕ) (ys : List Y) → AreMade view own high large clashes levels nodes rest (take i xs) ys
        → AreMade view own high large clashes levels nodes rest xs ys
    all_made l rest ys h = subst (λ zs. AreMade view own high large clashes levels nodes rest zs ys) (take_all i xs l) h

    -- one of them isn't made
    pub none_more : (x : X) → i < length xs → x ≡ get_or xs i x → (rest : ℕ) (ys : List Y)
        → AreMade view own high large clashes levels nodes rest (take i xs) ys → (e : EmbeddingFault) (file : ℕ)
        → IsNoRoom e file levels rest (high x) (large x) (clashes x) → IsNoRoom e file levels nodes (highest high xs) (total large xs) (flat_map clashes xs)
    none_more x l is rest ys before e file here =
        let after = drop (i + 1) xs in
        let one = no_room_left e file levels rest (high x) (large x) (highest high after) (total large after) (clashes x) (flat_map clashes after) here in
        let both = no_room_right e file levels nodes rest (highest high (take i xs)) (total large (take i xs)) (highest high (x ∷ after))
        (total large (x ∷ after)) (flat_map clashes (take i xs)) (flat_map clashes (x ∷ after)) before.left before.apart one in
        let whole : take i xs ++ x ∷ after ≡ xs = ap (λ ys. take i xs ++ ys) (sym (at_place xs i x l is)) ∙ take-append-drop i xs in
        subst (λ ys. IsNoRoom e file levels nodes (highest high ys) (total large ys) (flat_map clashes ys)) whole
        (rw (highest-append high (take i xs) (x ∷ after), total-append large (take i xs) (x ∷ after), flat_map-append clashes (take i xs) (x ∷ after)) both)
