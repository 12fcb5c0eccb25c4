use Rattle.std.proofs.Common.{ℕ, List, map, take}
use Rattle.signed.specs.Entries.{received}
use Rattle.signed.specs.Sending.{added_by, dispatch_of, AreFirst}
use Rattle.signed.proofs.acceptance.add_sending.Given as goal

abbrev pub invariant-loop-chain : goal.invariant-loop-chain
invariant-loop-chain l =
    (seen : List ℕ) → AreFirst l.initial.orders.items seen → AreFirst l.orders.items (added_by l.number l.general seen (received l.general (map dispatch_of (take l.chain-index l.chain-items))))
