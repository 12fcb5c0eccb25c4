use Rattle.std.proofs.lemmas.Result.{err_from_is_err_and}
use Rattle.cli_tasks.proofs.Files.{files_on, untaken_of}
use Rattle.cli_tasks.proofs.prepared_scenario.read_all.Goals as goal

pub loop-file-preserved : goal.loop-file-preserved
loop-file-preserved g c =
    files_on (g.D.Folder.bytes c.args.folder.now) c.args.named.now c.loop-file.file-index c.file-item.result c.loop-file.files.items c.push.new.files.items c.in_ok-beside.field-0 c.loop-file-test.true c.file-item.is
    c.loop-file.invariant c.in_ok-beside.ensures.file c.in_ok-push.ensures

pub returns-in_err-beside-clause-untaken : goal.returns-in_err-beside-clause-untaken
returns-in_err-beside-clause-untaken g c =
    let p = err_from_is_err_and c.from_residual-in_err-beside.result c.from_residual-in_err-beside.ensures.1 in
    rw (p.1, p.2) (untaken_of (g.D.Folder.bytes c.args.folder.now) (g.D.Folder.fails c.args.folder.now) c.args.named.now c.loop-file.file-index c.file-item.result c.loop-file.files.items c.in_err-beside.field-0.0 c.loop-file-test.true c.file-item.is c.loop-file.invariant c.in_err-beside.ensures.untaken)
