use Rattle.std.proofs.Common.{◌≡◌, ◌≤◌, true, map, sym, ap, ◌∙◌, arith, refl}
use Rattle.std.specs.Prelude.{count_by, string_bytes}
use Rattle.combine.specs.Rule.{combined_by}
use Rattle.label.specs.Labels.{on, generals}
use Rattle.label.specs.Lieutenants.{lieutenants}
use Rattle.book.specs.Grammar.{is_within}
use Rattle.book.specs.Table.{AreNumbersWithin}
use Rattle.book.specs.Trees.{tree_of}
use Rattle.book.proofs.Reread.{limits, within}
use Rattle.lies.specs.Asked.{first_asked}
use Rattle.lies.specs.BreakTrees.{messages_of}
use Rattle.lies.specs.Commanders.{IsFoundUnder}
use Rattle.lies.proofs.BreakLemmas.{IsBreak, break_is}
use Rattle.lies.proofs.CodeLemmas.{count_few}
use Rattle.lies.proofs.SearchLemmas.{asked_tolerated, found_shortest, listed_many}
use Rattle.lies.proofs.TableLemmas.{table_is, within_all}
use Rattle.lies.proofs.break_table.shortest_break.Goals as goal

pub returns-in-Some-clause-broken : goal.returns-in-Some-clause-broken
returns-in-Some-clause-broken c =
    let first : is_within c.args.generals c.args.bound (first_asked c.args.commander) ≡ true = sym (c.is_within.ensures ∙ ap (is_within c.args.generals c.args.bound) c.unwrap_or.ensures) ∙ c.if-not-is_within.false in
    let is : IsFoundUnder (combined_by c.args.rule) c.args.generals c.args.bound c.args.commander c.loop-count.count c.in-Some.under = rw c.in-Some.is at c.in_ok-under.ensures.found in
    let inside : AreNumbersWithin c.args.generals c.args.bound c.in-Some.under.commander = within_all c.args.generals c.args.bound (first_asked c.args.commander) c.in-Some.under.commander first is.asked.general in
    let least = rw c.in-Some.is at c.in_ok-under.ensures.least in
    let b : IsBreak (combined_by c.args.rule) c.args.generals c.args.bound c.in-Some.under.commander c.in-Some.under.found.traitors.items c.in-Some.under.found.success.attempt c.in-Some.under.found.success.attacks =
    break_is (combined_by c.args.rule) c.args.generals c.args.bound c.in-Some.under.commander c.in-Some.under.found.traitors.items c.in-Some.under.found.success is.among.succeeds
    in
    let many = listed_many (combined_by c.args.rule) c.args.generals c.args.bound c.in-Some.under.commander c.loop-count.count c.in-Some.under.found is.among in
    let end = c.min-count-end.ensures in
    let test = c.loop-count-test.true in
    let few : count_by (on c.in-Some.under.found.traitors.items) (generals c.args.generals) ≤ c.args.most = omega arith in
    table_is c.args.rule c.args.generals c.args.bound c.args.commander c.in-Some.under.commander c.args.most b.order c.in-Some.under.found.traitors.items (messages_of (combined_by c.args.rule) c.args.generals c.args.bound c.in-Some.under.commander c.in-Some.under.found)
    (map (tree_of c.args.generals c.args.bound c.in-Some.under.commander (messages_of (combined_by c.args.rule) c.args.generals c.args.bound c.in-Some.under.commander c.in-Some.under.found)) (lieutenants c.args.generals c.in-Some.under.commander)) (string_bytes c.in_ok-table.table)
    (within c.args.generals c.args.bound c.in-Some.under.commander inside) b.orders b.breaks few is.asked
    (λ d asked. found_shortest c.args.rule c.args.generals c.args.bound d c.in-Some.under.commander c.loop-count.count c.in-Some.under.found asked.general (λ k l. c.loop-count.invariant k l d asked) is.among (λ t e. least d t asked e)) refl c.in_ok-table.ensures

pub returns-clause-tolerates : goal.returns-clause-tolerates
returns-clause-tolerates c =
    let first : is_within c.args.generals c.args.bound (first_asked c.args.commander) ≡ true = sym (c.is_within.ensures ∙ ap (is_within c.args.generals c.args.bound) c.unwrap_or.ensures) ∙ c.if-not-is_within.false in
    let inside : AreNumbersWithin c.args.generals c.args.bound (first_asked c.args.commander) = limits c.args.generals c.args.bound (first_asked c.args.commander) first in
    let end = c.min-count-end.ensures in
    let test = c.loop-count-test.false in
    asked_tolerated c.args.rule c.args.generals c.args.bound c.args.commander c.args.most inside.present
    (λ k le d asked t e. c.loop-count.invariant k (let few = count_few c.args.generals t in let last = c.loop-count.auto.count-end in omega arith) d asked t e)
