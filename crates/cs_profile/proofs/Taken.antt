-- The keywords that are taken are keywords of the profile.
use Rattle.std.proofs.Common.{◌≡◌, ℕ, Bool, true, false, List, Option, Some, None, refl, ap, if◌then◌else◌}
use Rattle.std.specs.Option.{option_and_then}
use Rattle.cs_document.specs.Document.{under}
use Rattle.cs_profile.specs.Keywords.{keywords, is_in}
use Rattle.cs_profile.specs.declared.keyword.Keyword.{Keyword}
use Rattle.cs_profile.specs.declared.keyword.Keyword.TheVariants as keyword
use Rattle.cs_profile.specs.declared.keyword.Vocabulary.{Vocabulary}
use Rattle.cs_profile.specs.declared.keyword.Vocabulary.TheVariants as vocabulary
use Rattle.cs_profile.specs.declared.keyword.Form.{Form}
use Rattle.cs_profile.specs.Shapes.{form_at, form_in, taken_at, taken_in}

taken_word : (taken : Vocabulary) (root : Bool) (o : Option Keyword) (f : Form) → option_and_then (taken_in taken root) o ≡ Some f → option_and_then (form_in root) o ≡ Some f
taken_word taken root None f e = cc
taken_word taken root (Some w) f e = by (is_in taken w) e
  where
    by : (t : Bool) → (if t then form_in root w else None) ≡ Some f → form_in root w ≡ Some f
    by true e = e
    by false e = cc

pub taken_form : (taken : Vocabulary) (root : Bool) (k : List ℕ) (f : Form) → taken_at taken root k ≡ Some f → form_at root k ≡ Some f
taken_form taken root k f e = taken_word taken root (under k keywords) f e

none_word : (taken : Vocabulary) (root : Bool) (o : Option Keyword) → option_and_then (form_in root) o ≡ None → option_and_then (taken_in taken root) o ≡ None
none_word taken root None e = refl
none_word taken root (Some w) e = by (is_in taken w)
  where
    by : (t : Bool) → (if t then form_in root w else None) ≡ None
    by true = e
    by false = refl

pub taken_none : (taken : Vocabulary) (root : Bool) (k : List ℕ) → form_at root k ≡ None → taken_at taken root k ≡ None
taken_none taken root k e = none_word taken root (under k keywords) e

in_wide : (w : Keyword) → is_in vocabulary.Wide w ≡ true
in_wide keyword.Comment = refl
in_wide _ = refl

wide_word : (root : Bool) (o : Option Keyword) → option_and_then (taken_in vocabulary.Wide root) o ≡ option_and_then (form_in root) o
wide_word root None = refl
wide_word root (Some w) = ap (λ t. if t then form_in root w else None) (in_wide w)

pub wide_form : (root : Bool) (k : List ℕ) → taken_at vocabulary.Wide root k ≡ form_at root k
wide_form root k = wide_word root (under k keywords)
