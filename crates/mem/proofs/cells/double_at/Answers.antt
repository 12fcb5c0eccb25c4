-- The number of the two parts.
use Rattle.std.proofs.Common.{◌≡◌, ◌+◌, ◌*◌, take, drop, None, Ok, arith, rules}
use Rattle.mem.specs.Reading.{Reads, number_in}
use Rattle.mem.proofs.Numbers.{reads_high, reads_number}
use Rattle.mem.proofs.cells.double_at.Goals as goal

pub returns-in_err-high : goal.returns-in_err-high
returns-in_err-high c =
    let h : Reads c.args.stack.now c.args.place 8 None = reads_high c.args.stack.now c.args.place 4 4 c.in_ok-low.low (omega arith) c.in_ok-low.ensures c.in_err-high.ensures in
    search rules

pub returns : goal.returns
returns c =
    let h : number_in (take 8 (drop c.args.place c.args.stack.now)) ≡ Ok (c.in_ok-low.low + 4294967296 * c.in_ok-high.high) =
    reads_number c.args.stack.now c.args.place 4 4 c.in_ok-low.low c.in_ok-high.high (omega arith) c.in_ok-low.ensures c.in_ok-high.ensures in
    cc
