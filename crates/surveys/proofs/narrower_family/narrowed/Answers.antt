use Rattle.surveys.proofs.Narrowing.{same_plots}
use Rattle.surveys.proofs.narrower_family.narrowed.Goals as goal

pub returns : goal.returns
returns c =
    let same = rw c.adversary.ensures at c.in_ok-adversary_copied.ensures in
    rw (c.new.ensures, c.only.ensures, c.only-2.ensures, c.only-3.ensures, c.commander.ensures, c.orders.ensures, c.grid.ensures, c.manner.ensures, c.patience.ensures)
    (same_plots c.args.family.now c.args.generals c.args.bound c.args.traitors c.in_ok-adversary_copied.field-0 same)
