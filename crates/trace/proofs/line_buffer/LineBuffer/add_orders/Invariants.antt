use Rattle.std.proofs.Common.{◌≡◌, ◌≤◌, ◌+◌, ◌*◌, ◌++◌, map, take, length}
use Rattle.trace.specs.Text.{further, place}
use Rattle.trace.proofs.line_buffer.LineBuffer.add_orders.Given as goal

abbrev pub invariant-loop-order : goal.invariant-loop-order
invariant-loop-order l =
    (take l.count l.self-inside.bytes ≡ l.fn.self ++ further (map place (take l.order-index l.orders)))
    × (l.count ≤ length l.fn.self + 11 * l.order-index)
    × (length l.self-inside.bytes ≡ 1024)
