use Rattle.std.proofs.Common.{ℕ, ◌+◌, ◌≤◌, ◌∙◌, List, ap, refl, subst, arith}
use Rattle.std.specs.Prelude.{flat_map}
use Rattle.std.specs.Io.KnownBytes.{Appends}
use Rattle.surveys.specs.Account.{Account}
use Rattle.surveys.specs.Accounting.{account_text}
use Rattle.surveyor.specs.Kept.{Gains, campaign_files}
use Rattle.surveyor.specs.Printed.{kept_seeds}
use Rattle.surveyor.proofs.AccountLemmas.{accounts_begin, accounts_end, accounts_go, findings}
use Rattle.surveyor.proofs.accounts.accounted.Goals as goal

pub loop-next-init : goal.loop-next-init
loop-next-init g c =
    accounts_begin c.args.asked.now c.args.family.now (g.O.Output.contents c.args.out.now) (g.O.Output.contents c.put_head.new.out) (g.K.Keeper.files c.args.keeper.now) c.args.asked.now.first refl c.requires.asked.ordered c.in_ok-put_head.ensures.written

pub loop-next-preserved : goal.loop-next-preserved
loop-next-preserved g c =
    let s = c.args.asked.now in
    let now = g.O.Output.contents c.loop-next.out in
    let later = g.O.Output.contents c.put_accounts.new.out in
    let a = c.min-until.ensures in
    let b = c.saturating_add.ensures in
    let t = c.loop-next-test.true in
    let m = c.at_once-many.ensures.least in
    let i = c.requires.asked.inside in
    let low : c.loop-next.next ≤ c.min-until.result = omega arith in
    let high : c.min-until.result ≤ s.last + 1 = omega arith in
    accounts_go s c.args.family.now (g.O.Output.contents c.args.out.now) now later (g.K.Keeper.files c.args.keeper.now) (g.K.Keeper.files c.loop-next.keeper) (g.K.Keeper.files c.keep_all.new.keeper) c.loop-next.next c.min-until.result c.in-Ok.found.items
    c.loop-next.invariant low high c.in-Ok.ensures.accounts
    (subst (λ (l : List Account). Appends now later (flat_map account_text l)) c.as_slice.ensures.value c.in_ok-put_accounts.ensures.written)
    (subst (λ (l : List ℕ). Gains (g.K.Keeper.files c.loop-next.keeper) (g.K.Keeper.files c.keep_all.new.keeper) (campaign_files s.keep c.args.family.now l))
    (c.as_slice-in-loop-next-3.ensures.value ∙ (c.in_ok-seeds.ensures ∙ ap (kept_seeds s.keeps_all) (c.as_slice-in-loop-next-2.ensures.value ∙ (c.in_ok-findings.ensures ∙ ap findings c.as_slice-in-loop-next.ensures.value)))) c.in_ok-keep_all.ensures.kept)

pub returns-clause-printed : goal.returns-clause-printed
returns-clause-printed g c =
    let s = c.args.asked.now in
    let t = c.loop-next-test.false in
    let done : s.last + 1 ≤ c.loop-next.next = omega arith in
    accounts_end s c.args.family.now (g.O.Output.contents c.args.out.now) (g.O.Output.contents c.loop-next.out) (g.K.Keeper.files c.args.keeper.now) (g.K.Keeper.files c.loop-next.keeper) c.loop-next.next c.requires.shape c.loop-next.invariant done
