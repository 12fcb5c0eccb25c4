use Rattle.std.proofs.Common.{◌≡◌, ◌^◌, ◌%◌, ◌*◌, ◌<◌, subst, if◌then◌else◌, Bool}
use Rattle.std.specs.Prelude.{◌==◌}
use Rattle.std.specs.Int.{bit_at}
use Rattle.absmem.proofs.HoldingBits.{bit_of_block, holding_set}
use Rattle.absmem.proofs.blocks.Blocks.set.Goals as goal

pub invariant_of-self : goal.invariant_of-self
invariant_of-self c =
    let small : c.put-self-inside.result < 2 ^ 64 = c.put-self-inside.type_inv in
    holding_set c.self.inside.holding c.put-self-inside.result (1 * 2 ^ c.args.b % 18446744073709551616) c.args.b c.self.inside.spills c.args.spill c.self.invariant small c.requires
    (bit_of_block c.args.b c.requires)
    (λ i lt. subst (λ (test : Bool). bit_at c.put-self-inside.result i ≡ (if bit_at (1 * 2 ^ c.args.b % 18446744073709551616) i == 1 then (if test then 1 else 0) else bit_at c.self.inside.holding i))
    c.holds.ensures (c.put-self-inside.ensures i lt))
