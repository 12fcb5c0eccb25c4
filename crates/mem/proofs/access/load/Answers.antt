-- The value at the window's index.
use Rattle.std.proofs.Common.{◌≡◌, ℕ, ℤ, Ok, subst}
use Rattle.std.specs.Int.{w16}
use Rattle.std.proofs.lemmas.Int.{to_z-of_z}
use Rattle.insn.specs.Insn.{bytes_of}
use Rattle.semantics.specs.declared.value.Region.{Region}
use Rattle.mem.specs.Places.{place_at}
use Rattle.mem.proofs.Loading.{loads}
use Rattle.mem.proofs.access.load.Goals as goal

pub returns : goal.returns
returns c =
    let size = bytes_of c.args.size in
    let p : Region × ℕ = (c.in_ok-region.region, c.in_ok-region.place) in
    loads c.args.context.now c.args.stack.now size c.args.base c.args.distance p c.value_in.result
    (subst (λ (d : ℤ). place_at c.args.base d size ≡ Ok p) (to_z-of_z w16 c.args.distance c.ranges.distance) c.in_ok-region.ensures.answer) c.value_in.ensures
