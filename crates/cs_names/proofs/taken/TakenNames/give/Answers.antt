use Rattle.std.proofs.Common.{◌≡◌, ℕ, Bool, List, true, false, ◌||◌, cond, refl, ap, ◌∙◌, string_bytes}
use Rattle.std.proofs.lemmas.Map.Text.{btree_set_updates_text}
use Rattle.std.specs.BTreeSet as sorted
use Rattle.std.specs.Str.{bytes_eq}
use Rattle.cs_names.specs.Taken.{is_named}
use Rattle.cs_names.proofs.Free.{behind_more, named_more}
use Rattle.cs_names.proofs.taken.TakenNames.give.Goals as goal

-- what is put in, or was there
put_or_there : (there b : Bool) → cond b true there ≡ (there || b)
put_or_there true true = refl
put_or_there true false = refl
put_or_there false true = refl
put_or_there false false = refl

pub returns : goal.returns
returns c all given told =
    let n = string_bytes c.args.name in
    let m = c.args.self.now.given in
    let more : List ℕ → Bool = (λ s. given s || bytes_eq n s) in
    record {
      files = told.files;
      since = λ s. btree_set_updates_text n m c.insert.new.self _ c.in_ok-insert.ensures.updates s
          ∙ put_or_there (sorted.contains_text m s) (bytes_eq n s) ∙ ap (λ b. b || bytes_eq n s) (told.since s);
      numbers = λ s k at. behind_more (is_named all given) (is_named all more) (named_more all given n) s k (told.numbers s k at);
    }
