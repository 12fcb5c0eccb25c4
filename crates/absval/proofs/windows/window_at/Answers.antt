use Rattle.std.proofs.Common.{◌≡◌, pos, ◌+◌, ◌-◌, ◌≤◌, ℕ, ℤ, ◌+ℤ◌, ap₂, ◌∙◌, subst, arith}
use Rattle.std.specs.Int.{w16, w32}
use Rattle.std.proofs.lemmas.Int.{to_z-of_z}
use Rattle.semantics.specs.Memory.{room_of, window}
use Rattle.absval.specs.Windows.{base_of, LiesIn}
use Rattle.absval.proofs.Inside.{window_lies}
use Rattle.absval.proofs.windows.window_at.Goals as goal

pub returns-clause-holds : goal.returns-clause-holds
returns-clause-holds c o ge le =
    let place = c.in_ok-place.place in
    let fits : place + c.args.size ≤ room_of c.args.region = omega (arith, c.room.ensures.room) in
    let all : (place - place) + c.args.size ≡ c.args.size = omega arith in
    let at = c.in_ok-place.ensures.place ∙ ap₂ (λ (y z : ℤ). (y +ℤ z) +ℤ pos (base_of c.args.region)) (to_z-of_z w32 c.args.offset c.ranges.offset) (to_z-of_z w16 c.args.distance c.ranges.distance) in
    subst (λ (n : ℕ). LiesIn place n c.args.size (window c.args.region (o +ℤ c.args.distance) c.args.size)) all
    (window_lies c.args.region c.args.size place place c.args.offset c.args.offset o c.args.distance at at ge le fits)
