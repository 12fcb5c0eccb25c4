use Rattle.streams.specs.Reading.{IsWithin}
use Rattle.streams.specs.declared.bounded_read.Within.TheVariants.{Longer}
use Rattle.cli_tasks.proofs.ReadLemmas.{long_first}
use Rattle.cli_tasks.proofs.reader.read_program.Goals as goal

pub returns-in-Ok-Longer-clause-fault : goal.returns-in-Ok-Longer-clause-fault
returns-in-Ok-Longer-clause-fault g c =
    let within : IsWithin 32768 (g.R.Source.bytes c.args.source) (Longer c.in-Ok-Longer.front c.in-Ok-Longer.number) = rw c.in-Ok-Longer.field-0-is at c.in-Ok-Longer.ensures.within in
    long_first _ c.args.task.now (g.R.Source.bytes c.args.source) c.in-Ok-Longer.number c.in-Ok-Longer.front.items c.too_long.result c.args.file c.unjudged.result c.requires
    within.1 c.too_long.ensures (rw c.as_slice.ensures.value at c.unjudged.ensures)
