-- What the first edition spelled nests as it did, so it is spelled still.
use Rattle.std.proofs.Common.{◌≡◌, ℕ, ◌≤◌, max, Bool, true, false, ◌&&◌, ◌||◌, List, [], ◌∷◌, refl, sym, ap, subst}
use Rattle.std.proofs.lemmas.Bool.{false≢true}
use Rattle.cs_grammar.specs.Tree.{FileTree}
use Rattle.cs_grammar.specs.TokenWords.{words}
use Rattle.cs_grammar.specs.Words.{Word, Words, close_list, colon, question, bang}
use Rattle.cs_syntax.specs.Answer.{IsSpelled}
use Rattle.cs_syntax.specs.Earlier.{is_short_earlier, behind_earlier, nesting_from_earlier, earlier_nesting, IsSpelledEarlier}
use Rattle.cs_syntax.specs.Nesting.{OpenLevels, ends_with_chained_label, ends_with_chained_string, is_short, counted_if, behind, nesting_at, nesting_from, nesting, most_nested}
use Rattle.cs_syntax.proofs.DefaultWords.{cut_narrow}
use Rattle.cs_syntax.proofs.LabelledWords.{goes_on, closes, begins, Apart, words_apart}

turned : (a b : Bool) → a && b ≡ false → b && a ≡ false
turned true true h = h
turned true false h = refl
turned false true h = refl
turned false false h = refl

-- ---- the words before a place, the newest first

-- the newest isn't a mark behind a `]`
abbrev Ready : Words → Type 0
Ready [] = Unit {0}
Ready (w ∷ before) = goes_on w && begins closes before ≡ false

no_string : (before : Words) → begins closes before ≡ false → ends_with_chained_string before ≡ false
no_string [] h = refl
no_string (close_list o ∷ before) h = absurd (false≢true (sym h))
no_string (w ∷ before) h = refl

or_left : (a b : Bool) → b ≡ false → a ≡ a || b
or_left true b h = refl
or_left false b h = sym h

short_same : (before : Words) → begins closes before ≡ false → is_short_earlier before ≡ is_short before
short_same [] h = refl
short_same (question o ∷ before) h = refl
short_same (bang o ∷ before) h = refl
short_same (w ∷ before) h = or_left (ends_with_chained_label (w ∷ before)) (ends_with_chained_string (w ∷ before)) (no_string (w ∷ before) h)

behind_same : (before : Words) (w : Word) (ns : OpenLevels) → Ready before → goes_on w && begins closes before ≡ false → behind_earlier before w ns ≡ behind before w ns
behind_same before (colon o) ns ready h = ap (λ b. counted_if b ns) (short_same before h)
behind_same before _ ns ready h = refl

-- ---- all words

nesting_same : (before ts : Words) (ns : OpenLevels) → Ready before → begins closes before && begins goes_on ts ≡ false → Apart ts → nesting_from_earlier before ns ts ≡ nesting_from before ns ts
nesting_same before [] ns ready link h = refl
nesting_same before (w ∷ ts) ns ready link h =
    let now = turned (begins closes before) (goes_on w) link in
    ap (max (nesting_at ns)) (subst (λ ms. nesting_from_earlier (w ∷ before) ms ts ≡ nesting_from (w ∷ before) (behind before w ns) ts) (sym (behind_same before w ns ready now)) (nesting_same (w ∷ before) ts (behind before w ns) now h.0 h.1))

-- where no `]` is directly before a colon or a mark, words nest as they did
pub same_nesting : (ts : Words) → Apart ts → earlier_nesting ts ≡ nesting ts
same_nesting ts h = nesting_same [] ts (0 ∷ []) tt refl h

pub still_spelled : (source : List ℕ) (f : FileTree) → IsSpelledEarlier source f → IsSpelled source f
still_spelled source f h = record {
  tokens = h.tokens;
  cut = h.cut;
  nested = subst (λ n. n ≤ most_nested) (same_nesting (words h.tokens) (words_apart f (words h.tokens) h.spelled (cut_narrow h.cut) h.labelled)) h.nested;
  spelled = h.spelled;
  low = h.low;
}
