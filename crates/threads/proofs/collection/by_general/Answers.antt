-- The ends are sorted by their generals.
use Rattle.std.proofs.Common.{rules, ◌≡◌, length, ap, sym, subst, ◌∙◌}
use Rattle.std.proofs.lemmas.List.Sorted.{answers_always}
use Rattle.threads.specs.Answers.{AreAscending}
use Rattle.threads.specs.declared.general_end.GeneralEnd.{GeneralEnd}
use Rattle.threads.proofs.Popped.{refilled}
use Rattle.threads.proofs.collection.by_general.Goals as goal

pub returns-clause-ascending : goal.returns-clause-ascending
returns-clause-ascending c =
    let sorted : AreAscending c.sort_unstable_by_key.new.self = c.sort_unstable_by_key.ensures.sorted (λ (end : GeneralEnd). end.general) (answers_always _ _ _ (λ f a r g called. search rules)) in
    let same : c.deref_mut.result.now ≡ c.args.ends.items = search rules in
    subst AreAscending (sym (refilled c.args.ends.items c.sort_unstable_by_key.new.self (c.sort_unstable_by_key.ensures.len ∙ ap length same))) sorted
