use Rattle.std.proofs.Common.{◌≡◌, ◌+◌, inl, subst, w32, ℤ, pos, ◌+ℤ◌}
use Rattle.std.proofs.lemmas.Int.{to_z-of_z}
use Rattle.verify.proofs.pass.pass_jump.Goals as goal

pub flow-requires : goal.flow-requires
flow-requires c = c.requires.edges c.forward_target.result (inl
    (subst (λ (distance : ℤ). pos c.forward_target.result ≡ pos (c.args.unit + 1) +ℤ distance) (to_z-of_z w32 c.args.distance c.ranges.distance) c.forward_target.ensures))
