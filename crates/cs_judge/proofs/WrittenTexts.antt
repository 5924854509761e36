-- Texts that are written or held, one behind another.
use Rattle.std.proofs.Common.{◌≡◌, ℕ, List, [], ◌++◌, Option, Result, Err, sym, ap, subst, ◌∙◌, append-nil}
use Rattle.std.specs.Io.KnownBytes.{Appends}
use Rattle.std.proofs.KnownBytes.{Appends-trans}
use Rattle.cs_judge.specs.Lines.{Hands}
use Rattle.cs_judge.specs.Writing.{Writes, WritesSome, Holds, HoldsSome}
use Rattle.cs_judge.proofs.LineLists.{on_ok, on_err, hands_both, hands_more}
use Rattle.cs_judge.proofs.LineRuns.{front_of_both, front_written}
use Rattle.cs_tool.specs.Streams.{AppendsFront}
use Rattle.cs_tool.specs.declared.fault.Fault.{Fault}
use Rattle.cs_tool.specs.declared.fault.Fault.TheVariants.{WriteFailed}

module _ {T : Type 0} (r : Result T Fault) (old new : Option (List ℕ)) where
  -- a write failed
  pub writes_front : (e : Fault) (text : List ℕ) → r ≡ Err e → e ≡ WriteFailed → AppendsFront old new text → Writes r old new text
  writes_front e text is kind front = subst (λ q. Writes q old new text) (sym is) (record { all = tt; front = front; kind = ap Err kind })

  pub holds_front : (e : Fault) (text held : List ℕ) → r ≡ Err e → e ≡ WriteFailed → AppendsFront old new text → Holds r old new text held
  holds_front e text held is kind front = subst (λ q. Holds q old new text held) (sym is) (record { all = tt; front = front; kind = ap Err kind })

  pub writes_some_front : (IsText : List ℕ → Type 0) (e : Fault) (text : List ℕ) → r ≡ Err e → e ≡ WriteFailed → IsText text → AppendsFront old new text → WritesSome r old new IsText
  writes_some_front IsText e text is kind it front = subst (λ q. WritesSome q old new IsText) (sym is) (record { all = tt; front = (text, it, front); kind = ap Err kind })

  pub writes_same : (text other : List ℕ) → text ≡ other → Writes r old new text → Writes r old new other
  writes_same text other same w = subst (Writes r old new) same w

  pub holds_same : (text other held : List ℕ) → text ≡ other → Holds r old new text held → Holds r old new other held
  holds_same text other held same h = subst (λ t. Holds r old new t held) same h

  -- the text is one of them
  pub writes_one : (IsText : List ℕ → Type 0) (text : List ℕ) → IsText text → Writes r old new text → WritesSome r old new IsText
  writes_one IsText text it w = record { all = on_ok r (λ a. (text, it, a)) w.all; front = on_err r (λ a. (text, it, a)) w.front; kind = w.kind }

  -- each of these texts is one of those
  pub writes_weaker : (IsText IsOther : List ℕ → Type 0) → ((text : List ℕ) → IsText text → IsOther text) → WritesSome r old new IsText → WritesSome r old new IsOther
  writes_weaker IsText IsOther other w = record { all = on_ok r (λ a. (a.0, other a.0 a.1, a.2)) w.all; front = on_err r (λ a. (a.0, other a.0 a.1, a.2)) w.front; kind = w.kind }

  pub holds_one : (IsText : List ℕ → Type 0) (before held text : List ℕ) → IsText text → Holds r old new (before ++ text) held → HoldsSome r old new before held IsText
  holds_one IsText before held text it h = record { all = on_ok r (λ a. (text, it, a)) h.all; front = on_err r (λ a. (text, it, a)) h.front; kind = h.kind }

-- one text is written, and then another one
pub writes_both : {T : Type 0} (r : Result T Fault) (old mid new : Option (List ℕ)) (first second : List ℕ) → Appends old mid first → Writes r mid new second → Writes r old new (first ++ second)
writes_both r old mid new first second a w = record { all = on_ok r (Appends-trans old mid new first second a) w.all; front = on_err r (front_of_both old mid new first second a) w.front; kind = w.kind }

-- what was held and one text are held, and then another one
pub holds_both : {T : Type 0} (r : Result T Fault) (old mid new : Option (List ℕ)) (first second between held : List ℕ) → Hands old mid first between → Holds r mid new (between ++ second) held → Holds r old new (first ++ second) held
holds_both r old mid new first second between held h w = record {
  all = on_ok r (hands_more old mid new first between second held h) w.all;
  front = on_err r (front_written old mid new (first ++ second) (between ++ second) (hands_both old mid first between second h)) w.front;
  kind = w.kind;
}

-- a text is written behind another one, and nothing is held
pub writes_alone : {T : Type 0} (r : Result T Fault) (old mid new : Option (List ℕ)) (first second kept : List ℕ) → Appends old mid first → kept ≡ [] → Writes r mid new second → Holds r old new (first ++ second) kept
writes_alone r old mid new first second kept f empty w = record {
  all = on_ok r (λ a. (first ++ second, Appends-trans old mid new first second f a, sym (ap (λ t. first ++ second ++ t) empty ∙ append-nil (first ++ second)))) w.all;
  front = on_err r (front_of_both old mid new first second f) w.front;
  kind = w.kind;
}
