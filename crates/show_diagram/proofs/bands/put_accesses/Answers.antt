use Rattle.std.proofs.Common.{arith}
use Rattle.std.specs.String.{string_bytes}
use Rattle.show_diagram.proofs.FoldLemmas.{access_more, accesses_all}
use Rattle.show_diagram.proofs.bands.put_accesses.Goals as goal

pub loop-place-preserved : goal.loop-place-preserved
loop-place-preserved c =
    access_more c.args.generals c.args.round c.loop-place.place c.args.accesses.now c.index-accesses-place.result (string_bytes c.loop-place.out) (string_bytes c.put_access.new.out) _
    (let l = c.loop-place-test.true in omega arith) c.index-accesses-place.is c.loop-place.invariant (rw (c.access_top.ensures, c.accesses_before-before.ensures) at c.in_ok-put_access.ensures)

pub returns : goal.returns
returns c =
    accesses_all c.args.generals c.args.round c.loop-place.place c.args.accesses.now (string_bytes c.loop-place.out) _
    (let l = c.loop-place-test.false in omega arith) c.loop-place.invariant
