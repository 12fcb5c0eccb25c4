-- The scenario is written first. A failed write reports the name of its file.
use Rattle.std.proofs.Common.{◌∙◌, ◌+◌, arith, length}
use Rattle.byzlab.specs.Kept.{IsKeptIn, Tells}
use Rattle.byzlab.proofs.KeptLemmas.{handed_on, scenario_first, scenario_is_kept, schedule_is_kept}
use Rattle.byzlab.proofs.kept_files.keep.Goals as goal

pub returns-in_err-keep_file-clause-unkept : goal.returns-in_err-keep_file-clause-unkept
returns-in_err-keep_file-clause-unkept c =
    let told = rw c.in_err-keep_file.was at c.keep_file.ensures.unkept in
    handed_on (Tells (IsKeptIn c.args.folder.now (length c.args.schedules.now))) _ c.in_err-keep_file.field-0.0 c.from_residual-in_err-keep_file.ensures.1
    (scenario_is_kept c.args.folder.now _ (length c.args.schedules.now) c.in_err-keep_file.field-0.0 (c.as_str.ensures.value ∙ c.in_ok-name.ensures.ok) told)

pub loop-before-init : goal.loop-before-init
loop-before-init c =
    scenario_first c.args.folder.now c.args.scenario.now c.as_str.result.now c.args.schedules.now c.new-files.result.items c.keep_file.new.files.items
    c.new-files.ensures.items (c.as_str.ensures.value ∙ c.in_ok-name.ensures.ok) c.in_ok-keep_file.ensures.kept

pub returns-in_err-keep_file-2-clause-unkept : goal.returns-in_err-keep_file-2-clause-unkept
returns-in_err-keep_file-2-clause-unkept c =
    let told = rw c.in_err-keep_file-2.was at c.keep_file-in-loop-before.ensures.unkept in
    handed_on (Tells (IsKeptIn c.args.folder.now (length c.args.schedules.now))) _ c.in_err-keep_file-2.field-0.0 c.from_residual-in_err-keep_file-2.ensures.1
    (schedule_is_kept c.args.folder.now _ (length c.args.schedules.now) (c.loop-before.before + 1) c.in_err-keep_file-2.field-0.0 (omega arith) (omega arith) (c.as_str-in-loop-before.ensures.value ∙ c.in_ok-name-2.ensures) told)
