-- Numbers that labels get, and rows that get labels, one after another.
use Rattle.std.proofs.Common.{◌≡◌, ℕ, suc, ◌<◌, ◌≤◌, Bool, true, false, ◌&&◌, ◌||◌, cond, List, [], length, get_or, Option, Some, None, refl, sym, ap, ap₂, ◌∙◌, subst, Vec, Global, arith}
use Rattle.std.proofs.Math.Bool.{or_assoc, or-false}
use Rattle.std.proofs.lemmas.Bool.{both_ways}
use Rattle.std.proofs.lemmas.Bool.Decides.{nat_tests}
use Rattle.std.proofs.lemmas.Slice.Eq.{bytes_eq-Decides}
use Rattle.std.specs.Prelude.{◌==◌}
use Rattle.std.specs.Borrow.{Bor}
use Rattle.std.specs.BTreeMap.{BTreeMap, get_by}
use Rattle.std.specs.Cmp.Lexicographic.{slice_cmp}
use Rattle.std.specs.Map.{update}
use Rattle.std.specs.Ordering.{nat_cmp}
use Rattle.std.specs.Str.{bytes_eq}
use Rattle.cs_grammar.specs.Tree.{Tree, DefinitionTree}
use Rattle.cs_grammar.specs.Bodies.{bodies}
use Rattle.cs_embeddings.specs.Held.{or_else}
use Rattle.cs_embeddings.specs.Narrowed.{declares}
use Rattle.cs_embeddings.specs.NarrowedTable.{ToldOf, number_in, number_of, AreNumbers, has_at, has_label, IsRow, Keeps, Grows, Adds, TellsRow, TellsRows, TellsLabels}
use Rattle.cs_embeddings.specs.declared.labels.Labels.{Labels}
use Rattle.cs_embeddings.specs.declared.numbers.Numbers.{Numbers}
use Rattle.cs_embeddings.proofs.RowSteps.{behind}
use Rattle.cs_embeddings.proofs.NarrowedSteps.{declares_step, declares_stepped, declares_form, told_at}

-- ---- numbers

-- the number of the label s among those that came last
abbrev pub own_at : List ℕ → Numbers → Option ℕ
own_at s n = get_by (λ k. slice_cmp nat_cmp s k.now) n.own

pub grows_same : (n : Numbers) → Grows n n
grows_same n = record { keeps = record { more = omega arith; same = λ row l s. refl }; below = refl }

pub grows_on : (a b c : Numbers) → Grows a b → Grows b c → Grows a c
grows_on a b c g h =
    let more : a.count ≤ c.count = omega (arith, g.keeps.more, h.keeps.more) in
    record {
      keeps = record {
        more = more;
        same = λ row l s. let long : length row ≤ b.count = omega (arith, l, g.keeps.more) in h.keeps.same row long s ∙ g.keeps.same row l s;
      };
      below = h.below ∙ g.below;
    }

-- the same numbers, in another form
module _ (m n : Numbers) (same : (s : List ℕ) → number_of n s ≡ number_of m s) (count : n.count ≡ m.count) where
  pub numbers_as : AreNumbers m → AreNumbers n
  numbers_as are = record {
    low = λ s i is. let less = are.low s i (sym (same s) ∙ is) in omega (arith, less, count);
    apart = λ s t i is also. are.apart s t i (sym (same s) ∙ is) (sym (same t) ∙ also);
  }

  pub keeps_as : Keeps m n
  keeps_as = record { more = omega (arith, count); same = λ row l s. ap (has_at row) (same s) }

pub or_nothing : (o : Option ℕ) → or_else o None ≡ o
or_nothing None = refl
or_nothing (Some i) = refl

-- what was last is below, and nothing came after it
module _ (m n : Numbers) (alone : m.below ≡ None) (below : (s : List ℕ) → number_in n.below s ≡ own_at s m)
    (empty : n.own.entries ≡ []) (count : n.count ≡ m.count) where
  above_same : (s : List ℕ) → number_of n s ≡ number_of m s
  above_same s =
      let nothing : own_at s n ≡ None = rw empty refl in
      ap₂ or_else (below s) nothing ∙ or_nothing (own_at s m) ∙ sym (ap (λ b. or_else (number_in b s) (own_at s m)) alone)

  pub above_numbers : AreNumbers m → AreNumbers n
  above_numbers = numbers_as m n above_same count

  pub above_keeps : Keeps m n
  above_keeps = keeps_as m n above_same count

or_none : (o a : Option ℕ) → or_else o a ≡ None → o ≡ None
or_none None a h = refl
or_none (Some i) a h = cc

-- the label t, which has none, gets the next number
module _ (m n : Numbers) (t : List ℕ) (none : number_of m t ≡ None) (below : n.below ≡ m.below) (count : n.count ≡ suc m.count)
    (put : (s : List ℕ) → number_of n s ≡ cond (bytes_eq t s) (Some m.count) (number_of m s)) where
  here_at : (s : List ℕ) → bytes_eq t s ≡ true → number_of n s ≡ Some m.count
  here_at s h = put s ∙ ap (λ b. cond b (Some m.count) (number_of m s)) h

  other_at : (s : List ℕ) → bytes_eq t s ≡ false → number_of n s ≡ number_of m s
  other_at s h = put s ∙ ap (λ b. cond b (Some m.count) (number_of m s)) h

  pub next_has : number_of n t ≡ Some m.count
  next_has = here_at t ((bytes_eq-Decides t t).1 refl)

  pub next_grows : Grows m n
  next_grows = record {
    keeps = record { more = omega (arith, count); same = λ row l s. by row l s (bytes_eq t s) refl };
    below = below;
  }
    where
      by : (row : List Bool) → length row ≤ m.count → (s : List ℕ) (b : Bool) → bytes_eq t s ≡ b → has_label n row s ≡ has_label m row s
      by row l s true h =
          ap (has_at row) (here_at s h) ∙ behind row m.count l
          ∙ sym (ap (λ u. has_at row (number_of m u)) (sym ((bytes_eq-Decides t s).0 h)) ∙ ap (has_at row) none)
      by row l s false h = ap (has_at row) (other_at s h)

  pub next_numbers : AreNumbers m → AreNumbers n
  next_numbers are = record {
    low = λ s i is. low s i (bytes_eq t s) refl is;
    apart = λ s u i is also. apart s u i (bytes_eq t s) (bytes_eq t u) refl refl is also;
  }
    where
      is_next : (s : List ℕ) (i : ℕ) → bytes_eq t s ≡ true → number_of n s ≡ Some i → m.count ≡ i
      is_next s i h is = let same : Some m.count ≡ Some i = sym (here_at s h) ∙ is in cc

      low : (s : List ℕ) (i : ℕ) (b : Bool) → bytes_eq t s ≡ b → number_of n s ≡ Some i → i < n.count
      low s i true h is = let same = is_next s i h is in omega (arith, same, count)
      low s i false h is = let less = are.low s i (sym (other_at s h) ∙ is) in omega (arith, less, count)

      apart : (s u : List ℕ) (i : ℕ) (b c : Bool) → bytes_eq t s ≡ b → bytes_eq t u ≡ c → number_of n s ≡ Some i → number_of n u ≡ Some i → bytes_eq s u ≡ true
      apart s u i true true h k is also = (bytes_eq-Decides s u).1 (sym ((bytes_eq-Decides t s).0 h) ∙ (bytes_eq-Decides t u).0 k)
      apart s u i true false h k is also =
          let same = is_next s i h is in
          let less = are.low u i (sym (other_at u k) ∙ also) in
          absurd (omega (arith, same, less))
      apart s u i false true h k is also =
          let same = is_next u i k also in
          let less = are.low s i (sym (other_at s h) ∙ is) in
          absurd (omega (arith, same, less))
      apart s u i false false h k is also = are.apart s u i (sym (other_at s h) ∙ is) (sym (other_at u k) ∙ also)

-- t, which had none, gets the number k
pub put_number : (m n : Numbers) (t : List ℕ) (k : ℕ) → number_of m t ≡ None → n.below ≡ m.below
    → ((s : List ℕ) → own_at s n ≡ update bytes_eq (λ u. own_at u m) t (Some k) s) → (s : List ℕ)
    → number_of n s ≡ cond (bytes_eq t s) (Some k) (number_of m s)
put_number m n t k none below puts s = by (bytes_eq t s) refl
  where
    by : (b : Bool) → bytes_eq t s ≡ b → number_of n s ≡ cond b (Some k) (number_of m s)
    by true h =
        let same : s ≡ t = sym ((bytes_eq-Decides t s).0 h) in
        let nothing : number_in m.below s ≡ None = ap (number_in m.below) same ∙ or_none (number_in m.below t) (own_at t m) none in
        ap₂ or_else (ap (λ b. number_in b s) below ∙ nothing) (puts s ∙ ap (λ b. cond b (Some k) (own_at s m)) h)
    by false h = ap₂ or_else (ap (λ b. number_in b s) below) (puts s ∙ ap (λ b. cond b (Some k) (own_at s m)) h)

-- ---- what a row gets

module _ (m n : Numbers) (old new : List Bool) where
  -- what it has or `after` says, it had before or `before` says
  pub record Goes (before after : List ℕ → Bool) : Type 0 where
    pub is : IsRow n new
    pub grows : Grows m n
    pub has : (s : List ℕ) → (has_label n new s || after s) ≡ (has_label m old s || before s)

  pub goes_done : (before after : List ℕ → Bool) → Goes before after → ((s : List ℕ) → after s ≡ false) → Adds m n old new before
  goes_done before after g none = record {
    is = g.is;
    grows = g.grows;
    has = λ s. sym (or-false (has_label n new s)) ∙ ap (λ b. has_label n new s || b) (sym (none s)) ∙ g.has s;
  }

  -- what is added, said in other words
  pub adds_as : (f g : List ℕ → Bool) → ((s : List ℕ) → f s ≡ g s) → Adds m n old new f → Adds m n old new g
  adds_as f g same a = record { is = a.is; grows = a.grows; has = λ s. a.has s ∙ ap (λ b. has_label m old s || b) (same s) }

-- what is added, of the same numbers and the same row
pub adds_over : (m n k : Numbers) (old new row : List Bool) (f g : List ℕ → Bool) → n ≡ k → new ≡ row → ((s : List ℕ) → f s ≡ g s)
    → Adds m k old row f → Adds m n old new g
adds_over m n k old new row f g numbers rows same a =
    subst (λ o. Adds m o old new g) (sym numbers) (subst (λ r. Adds m k old r g) (sym rows) (adds_as m k old row f g same a))

pub goes_start : (n : Numbers) (row : List Bool) (f : List ℕ → Bool) → IsRow n row → Goes n n row row f f
goes_start n row f is = record { is = is; grows = grows_same n; has = λ s. refl }

pub goes_on : (m k n : Numbers) (old mid new : List Bool) (before left after own : List ℕ → Bool) → Goes m k old mid before left → Adds k n mid new own
    → ((s : List ℕ) → left s ≡ (own s || after s)) → Goes m n old new before after
goes_on m k n old mid new before left after own g a cut = record {
  is = a.is;
  grows = grows_on m k n g.grows a.grows;
  has = λ s.
      ap (λ b. b || after s) (a.has s) ∙ or_assoc (has_label k mid s) (own s) (after s)
      ∙ ap (λ b. has_label k mid s || b) (sym (cut s)) ∙ g.has s;
}

-- nothing is added
pub adds_none : (n : Numbers) (row : List Bool) (f : List ℕ → Bool) → ((s : List ℕ) → f s ≡ false) → IsRow n row → Adds n n row row f
adds_none n row f none is =
    record { is = is; grows = grows_same n; has = λ s. sym (or-false (has_label n row s)) ∙ ap (λ b. has_label n row s || b) (sym (none s)) }

nothing_at : (o : Option ℕ) → has_at [] o ≡ false
nothing_at None = refl
nothing_at (Some i) = refl

pub has_nothing : (n : Numbers) (s : List ℕ) → has_label n [] s ≡ false
has_nothing n s = nothing_at (number_of n s)

-- a row that had nothing has what is added
pub has_added : (m n : Numbers) (row : List Bool) (f : List ℕ → Bool) → Adds m n [] row f → (s : List ℕ) → has_label n row s ≡ f s
has_added m n row f a s = a.has s ∙ ap (λ b. b || f s) (has_nothing m s)

-- the label t is added, which has the number i
pub label_adds : (m n : Numbers) (old new : List Bool) (t : List ℕ) (i : ℕ) → IsRow m old → AreNumbers n → Grows m n → number_of n t ≡ Some i
    → ((most : ℕ) → length old ≤ most → i < most → length new ≤ most)
    → ((j : ℕ) → get_or new j false ≡ (get_or old j false || j == i)) → Adds m n old new (λ s. bytes_eq t s)
label_adds m n old new t i is are grows at short has = record {
  is = (are, short n.count (omega (arith, is.1, grows.keeps.more)) (are.low t i at));
  grows = grows;
  has = λ s. by s (number_of n s) (bytes_eq t s) refl refl ∙ ap (λ b. b || bytes_eq t s) (grows.keeps.same old is.1 s);
}
  where
    at_same : (s : List ℕ) → bytes_eq t s ≡ true → number_of n s ≡ Some i
    at_same s h = ap (number_of n) (sym ((bytes_eq-Decides t s).0 h)) ∙ at

    is_number : (s : List ℕ) (j : ℕ) (b : Bool) → number_of n s ≡ Some j → bytes_eq t s ≡ b → (j == i) ≡ b
    is_number s j true e h = let same : Some i ≡ Some j = sym (at_same s h) ∙ e in let is_same : i ≡ j = cc in grind (arith, nat_tests, is_same)
    is_number s j false e h = differs (j == i) refl
      where
        differs : (b : Bool) → (j == i) ≡ b → b ≡ false
        differs false k = refl
        differs true k =
            let is_same : i ≡ j = grind (arith, nat_tests, k) in
            absurd (both_ways (bytes_eq t s) h (are.apart t s j (at ∙ ap Some is_same) e))

    by : (s : List ℕ) (o : Option ℕ) (b : Bool) → number_of n s ≡ o → bytes_eq t s ≡ b
        → has_at new (number_of n s) ≡ (has_at old (number_of n s) || bytes_eq t s)
    by s None true e h = let none : Some i ≡ None = sym (at_same s h) ∙ e in cc
    by s None false e h = ap (has_at new) e ∙ sym (ap₂ (λ a b. a || b) (ap (has_at old) e) h)
    by s (Some j) b e h =
        ap (has_at new) e ∙ has j ∙ ap₂ (λ a c. a || c) (sym (ap (has_at old) e)) (is_number s j b e h ∙ sym h)

at_united : (old new other : List Bool) → ((j : ℕ) → get_or new j false ≡ (get_or old j false || get_or other j false)) → (o : Option ℕ)
    → has_at new o ≡ (has_at old o || has_at other o)
at_united old new other has None = refl
at_united old new other has (Some j) = has j

-- the labels of another row are added
pub row_adds : (m n : Numbers) (old new other : List Bool) (f : List ℕ → Bool) → IsRow m old → AreNumbers n → Grows m n → length other ≤ n.count
    → ((s : List ℕ) → has_label n other s ≡ f s) → ((most : ℕ) → length old ≤ most → length other ≤ most → length new ≤ most)
    → ((j : ℕ) → get_or new j false ≡ (get_or old j false || get_or other j false)) → Adds m n old new f
row_adds m n old new other f is are grows low tells short has = record {
  is = (are, short n.count (omega (arith, is.1, grows.keeps.more)) low);
  grows = grows;
  has = λ s. at_united old new other has (number_of n s) ∙ ap₂ (λ a b. a || b) (grows.keeps.same old is.1 s) (tells s);
}

-- ---- rows that are met

-- a row has what `before` says but for what `after` doesn't say
pub record Meets (m n : Numbers) (row : List Bool) (before after : List ℕ → Bool) : Type 0 where
  pub is : IsRow n row
  pub grows : Grows m n
  pub has : (s : List ℕ) → (has_label n row s && after s) ≡ before s

at_met : (old new other : List Bool) → ((j : ℕ) → get_or new j false ≡ (get_or old j false && get_or other j false)) → (o : Option ℕ)
    → has_at new o ≡ (has_at old o && has_at other o)
at_met old new other has None = refl
at_met old new other has (Some j) = has j

and_over : (a b c : Bool) → ((a && b) && c) ≡ (a && (b && c))
and_over true b c = refl
and_over false b c = refl

pub meets_start : (m n : Numbers) (row : List Bool) (own before after : List ℕ → Bool) → Adds m n [] row own → ((s : List ℕ) → before s ≡ (own s && after s))
    → Meets n n row before after
meets_start m n row own before after a cut =
    record { is = a.is; grows = grows_same n; has = λ s. ap (λ b. b && after s) (has_added m n row own a s) ∙ sym (cut s) }

pub meets_on : (m k n : Numbers) (old new other : List Bool) (before left after own : List ℕ → Bool) → Meets m k old before left → Adds k n [] other own
    → ((s : List ℕ) → left s ≡ (own s && after s)) → length new ≡ length old
    → ((j : ℕ) → get_or new j false ≡ (get_or old j false && get_or other j false)) → Meets m n new before after
meets_on m k n old new other before left after own g a cut long has = record {
  is = (a.is.0, omega (arith, g.is.1, a.grows.keeps.more, long));
  grows = grows_on m k n g.grows a.grows;
  has = λ s.
      ap (λ b. b && after s) (at_met old new other has (number_of n s) ∙ ap₂ (λ b c. b && c) (a.grows.keeps.same old g.is.1 s) (has_added k n other own a s))
      ∙ and_over (has_label k old s) (own s) (after s)
      ∙ ap (λ b. has_label k old s && b) (sym (cut s)) ∙ g.has s;
}

and_all : (b : Bool) → (b && true) ≡ b
and_all true = refl
and_all false = refl

pub meets_done : (m n : Numbers) (row : List Bool) (before after : List ℕ → Bool) → Meets m n row before after → ((s : List ℕ) → after s ≡ true)
    → (s : List ℕ) → has_label n row s ≡ before s
meets_done m n row before after g all s = sym (and_all (has_label n row s)) ∙ ap (λ b. has_label n row s && b) (sym (all s)) ∙ g.has s

-- ---- what is told, by more numbers

told_map : {X : Type 0} (Good Also : X → List Tree → Type 0) → ((x : X) (es : List Tree) → Good x es → Also x es) → (o : Option X) (es : List Tree)
    → ToldOf Good o es → ToldOf Also o es
told_map Good Also more None es h = tt
told_map Good Also more (Some x) es h = more x es h

pub rows_grow : (m n : Numbers) (rows : BTreeMap (Bor (List ℕ)) (Vec Bool Global)) (ds : List DefinitionTree) → Keeps m n
    → TellsRows m rows ds → TellsRows n rows ds
rows_grow m n rows ds g told t =
    told_map (TellsRow m ds) (TellsRow n ds)
    (λ row es h. (omega (arith, h.0, g.more), λ k can s. g.same row.items h.0 s ∙ h.1 k can s))
    (told_at (TellsRow m ds) ds t rows) (bodies t ds) (told t)

pub labels_grow : (l : Labels) (m n : Numbers) (ds : List DefinitionTree) → AreNumbers n → Grows m n → TellsLabels l m ds → TellsLabels l n ds
labels_grow l m n ds are g told = record { numbers = are; bodies = told.bodies; rows = rows_grow m n l.rows.now ds g.keeps told.rows }

-- ---- an expression

-- where nothing is declared in a step
pub adds_nothing : (ds : List DefinitionTree) (n left : ℕ) (e : Tree) (m : Numbers) (row : List Bool) → n ≡ suc left
    → ((s : List ℕ) → declares_step ds s (declares ds left s) e ≡ false) → IsRow m row → Adds m m row row (λ s. declares ds n s e)
adds_nothing ds n left e m row one none is =
    adds_none m row (λ s. declares ds n s e) (λ s. sym (declares_stepped ds n left s e one) ∙ none s) is

-- where a form says what is declared
pub adds_form : (ds : List DefinitionTree) (n left : ℕ) (e f : Tree) (m k : Numbers) (old new : List Bool) → n ≡ suc left → e ≡ f
    → Adds m k old new (λ s. declares_step ds s (declares ds left s) f) → Adds m k old new (λ s. declares ds n s e)
adds_form ds n left e f m k old new one is =
    adds_as m k old new (λ s. declares_step ds s (declares ds left s) f) (λ s. declares ds n s e) (λ s. declares_form ds n left s e f one is)
