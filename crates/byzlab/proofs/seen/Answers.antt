use Rattle.std.proofs.Common.{◌∙◌}
use Rattle.std.specs.List.{each_same}
use Rattle.byzlab.proofs.SeenLemmas.{refused_told}
use Rattle.byzlab.proofs.seen.Goals as goal

pub returns-in-Ok-with_files-clause-rejected : goal.returns-in-Ok-with_files-clause-rejected
returns-in-Ok-with_files-clause-rejected g c =
    let named = rw c.in-Err-2.is at c.in_ok-input-in-Ok-with_files.ensures.named in
    let told = rw c.in-Err-2.is at c.in_ok-input-in-Ok-with_files.ensures.told in
    refused_told c.args.request.now.no_files (g.R.Read.remaining c.args.file) (g.D.Folder.bytes c.args.folder.now) c.args.request.now.task c.in-Ok.bytes.items c.as_slice.result.now
    c.in-Ok-with_files.bytes.items c.in-Err-2.told.line (rw c.in-Ok.is at c.in_ok-bytes.ensures.whole) c.in-Ok-with_files.ensures.seen
    (c.as_slice.ensures.value ∙ each_same c.in-Ok.bytes.items c.in_ok-own.own.items c.in_ok-own.ensures.cases.0) named told
