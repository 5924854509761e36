use Rattle.std.proofs.Common.{rules, ◌≡◌, true, cond, sym, ap, subst, ◌∙◌, string_bytes}
use Rattle.std.proofs.lemmas.Map.Text.{btree_map_updates_text}
use Rattle.cs_names.specs.Lifted.{first_free, all_numbers}
use Rattle.cs_names.specs.Taken.{IsBehind, is_named}
use Rattle.cs_names.proofs.Free.{numbers_put}
use Rattle.cs_names.proofs.taken.TakenNames.free.Goals as goal

pub returns-clause-found : goal.returns-clause-found
returns-clause-found c all given told =
    let f = is_named all given in
    let w = string_bytes c.args.wanted in
    let taken : c.is_taken.result ≡ true = search (rules, c.if-not-is_taken.false) in
    let is : f w ≡ true = ap f (sym c.deref.ensures) ∙ sym (c.is_taken.ensures all given told) ∙ taken in
    let behind = subst (λ s. IsBehind f s c.first_number-first.result) (c.deref-2.ensures ∙ sym c.deref-3.ensures) (c.first_number-first.ensures all given told) in
    c.in_ok-number.ensures.found all given told behind ∙ ap (λ s. first_free f s 1 all_numbers) c.deref-3.ensures ∙ sym (ap (λ b. cond b (first_free f w 1 all_numbers) w) is)

pub returns-clause-kept : goal.returns-clause-kept
returns-clause-kept c all given told =
    let f = is_named all given in
    let w = string_bytes c.args.wanted in
    let m = c.args.self.now.numbers in
    let behind = subst (λ s. IsBehind f s c.first_number-first.result) (c.deref-2.ensures ∙ sym c.deref-3.ensures) (c.first_number-first.ensures all given told) in
    let next = subst (λ s. IsBehind f s c.in_ok-number.number) c.deref-3.ensures (c.in_ok-number.ensures.behind all given told behind) in
    record {
      files = told.files;
      since = told.since;
      numbers = numbers_put f m c.insert.new.self w c.in_ok-number.number (btree_map_updates_text w m c.insert.new.self _ c.in_ok-insert.ensures.updates) told.numbers next;
    }
