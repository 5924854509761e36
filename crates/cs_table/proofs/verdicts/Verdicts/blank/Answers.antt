use Rattle.std.proofs.Common.{ℕ, List, ◌*◌, ◌-◌, ◌++◌, take, replicate, refl, ap₂, ◌∙◌, rules}
use Rattle.cs_table.proofs.Bits.{length-kept, all_blank}
use Rattle.cs_table.proofs.verdicts.Verdicts.blank.Goals as goal

pub returns-clause-found : goal.returns-clause-found
returns-clause-found c =
    let bytes = c.resize.new.self.items in
    let width = c.div_ceil-width.result in
    let n = c.args.items * width in
    let none = c.in_ok-reserve_exact.ensures.items ∙ c.clear.ensures.items in
    let zero = c.in_ok-reserve_exact.ensures.len ∙ c.clear.ensures.len in
    record {
      items = refl;
      rules = refl;
      count = length-kept bytes width c.args.items c.args.rules;
      blank = all_blank bytes width c.args.items c.args.rules (c.in_ok-resize.ensures.items ∙ ap₂ (λ (xs : List ℕ) k. take n xs ++ replicate {A = ℕ} (n - k) 0) none zero ∙ search rules);
    }
