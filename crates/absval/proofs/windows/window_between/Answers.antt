use Rattle.std.proofs.Common.{pos, ◌+◌, ◌≤◌, ℤ, ◌+ℤ◌, ap₂, ◌∙◌, arith}
use Rattle.std.specs.Int.{w16, w32}
use Rattle.std.proofs.lemmas.Int.{to_z-of_z}
use Rattle.semantics.specs.Memory.{room_of}
use Rattle.absval.specs.Windows.{base_of}
use Rattle.absval.proofs.Inside.{window_lies}
use Rattle.absval.proofs.windows.window_between.Goals as goal

pub returns-clause-holds : goal.returns-clause-holds
returns-clause-holds c o ge le =
    let fits : c.in_ok-last.last + c.args.size ≤ room_of c.args.region = omega (arith, c.room.ensures.room) in
    window_lies c.args.region c.args.size c.in_ok-first.first c.in_ok-last.last c.args.low c.args.high o c.args.distance
    (c.in_ok-first.ensures.place ∙ ap₂ (λ (y z : ℤ). (y +ℤ z) +ℤ pos (base_of c.args.region)) (to_z-of_z w32 c.args.low c.ranges.low) (to_z-of_z w16 c.args.distance c.ranges.distance))
    (c.in_ok-last.ensures.place ∙ ap₂ (λ (y z : ℤ). (y +ℤ z) +ℤ pos (base_of c.args.region)) (to_z-of_z w32 c.args.high c.ranges.high) (to_z-of_z w16 c.args.distance c.ranges.distance)) ge le fits
