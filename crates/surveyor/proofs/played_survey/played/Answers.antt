use Rattle.std.proofs.Common.{ℕ, ◌+◌, ◌^◌, ◌<◌, ◌≤◌, ◌≡◌, ◌∙◌, ◌++◌, List, length, ap, subst, arith}
use Rattle.std.proofs.lemmas.Result.{on_ok_weaker}
use Rattle.std.specs.Io.KnownBytes.{Appends}
use Rattle.surveys.specs.declared.finding.Finding.{Finding}
use Rattle.surveys.specs.Running.{counts_of}
use Rattle.surveyor.specs.Kept.{Gains, campaign_files}
use Rattle.surveyor.specs.Printed.{counts_text, kept_seeds, lines_in}
use Rattle.surveyor.proofs.Going.{ends, goes}
use Rattle.surveyor.proofs.played_survey.played.Goals as goal

pub loop-next-preserved : goal.loop-next-preserved
loop-next-preserved g c =
    let s = c.args.asked.now in
    let now = g.O.Output.contents c.loop-next.out in
    let later = g.O.Output.contents c.put_lines.new.out in
    let a = c.min-until.ensures in
    let b = c.saturating_add.ensures in
    let t = c.loop-next-test.true in
    let m = c.at_once-many.ensures.least in
    let i = c.requires.asked.inside in
    let low : c.loop-next.next ≤ c.min-until.result = omega arith in
    let high : c.min-until.result ≤ s.last + 1 = omega arith in
    goes s c.args.family.now (g.O.Output.contents c.args.out.now) now later (g.K.Keeper.files c.args.keeper.now) (g.K.Keeper.files c.loop-next.keeper) (g.K.Keeper.files c.keep_all.new.keeper) c.loop-next.next c.min-until.result c.loop-next.counts c.in-Ok.found.items c.add.new.self
    c.loop-next.invariant low high c.requires.asked.inside c.in-Ok.ensures.found
    (subst (λ (l : List Finding). Appends now later (lines_in s.shape l)) c.as_slice.ensures.value c.in_ok-put_lines.ensures.written)
    (subst (λ (l : List Finding). (before : List Finding) → c.loop-next.counts ≡ counts_of before → length before + length l < 2 ^ 64 → c.add.new.self ≡ counts_of (before ++ l)) c.as_slice-in-loop-next-3.ensures.value c.in_ok-add.ensures.added)
    (subst (λ (l : List ℕ). Gains (g.K.Keeper.files c.loop-next.keeper) (g.K.Keeper.files c.keep_all.new.keeper) (campaign_files s.keep c.args.family.now l))
    (c.as_slice-in-loop-next-2.ensures.value ∙ (c.in_ok-seeds.ensures ∙ ap (kept_seeds s.keeps_all) c.as_slice-in-loop-next.ensures.value)) c.in_ok-keep_all.ensures.kept)

pub returns-clause-printed : goal.returns-clause-printed
returns-clause-printed g c =
    let s = c.args.asked.now in
    let now = g.O.Output.contents c.loop-next.out in
    let last = g.O.Output.contents c.put_summary.new.out in
    let t = c.loop-next-test.false in
    let done : s.last + 1 ≤ c.loop-next.next = omega arith in
    on_ok_weaker c.put_summary.result
    (λ (told : Appends now last (counts_text s.shape c.loop-next.counts)).
    ends s c.args.family.now (g.O.Output.contents c.args.out.now) now last (g.K.Keeper.files c.args.keeper.now) (g.K.Keeper.files c.loop-next.keeper) c.loop-next.next c.loop-next.counts c.requires.shape c.requires.counted c.loop-next.invariant done told)
    c.put_summary.ensures.written
