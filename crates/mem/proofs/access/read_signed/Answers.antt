-- The number at the window's index, sign-extended.
use Rattle.std.proofs.Common.{◌≡◌, ◌∙◌, ap, sym, subst, ℕ}
use Rattle.std.specs.Prelude.{Result, IsOk, Ok}
use Rattle.insn.specs.Insn.{bytes_of}
use Rattle.semantics.specs.declared.value.Region.{Region}
use Rattle.semantics.specs.declared.value.Value.{Value}
use Rattle.semantics.specs.declared.value.Value.TheVariants.{Number}
use Rattle.semantics.specs.State.{Cause}
use Rattle.mem.specs.Places.{part_at}
use Rattle.mem.specs.Reading.{number_in}
use Rattle.mem.proofs.Loading.{as_passed, read_signed_at, extended, ok_extended, context_number}
use Rattle.mem.proofs.access.read_signed.Goals as goal
use Rattle.mem.proofs.access.read_signed.Goals.{in-Stack, in-Context}

pub known_number-number-requires-clause-known : goal.known_number-number-requires-clause-known
known_number-number-requires-clause-known c =
    let n = bytes_of c.size_of-size.result in
    let at = read_signed_at c.args.context.now c.args.stack.now c.args.part n c.args.region c.args.offset c.args.distance c.known_place-place.result c.size_of-size.ensures (as_passed c.args.region c.args.offset c.args.distance n c.known_place-place.result c.ranges.offset c.ranges.distance c.known_place-place.ensures.place) in
    let known = ok_extended c.args.part _ (subst (λ (r : Result Value Cause). IsOk r) at c.requires) in
    subst (λ (g : Region). IsOk (number_in (part_at c.args.context.now c.args.stack.now n (g, c.known_place-place.result)))) c.in-Stack.is known

pub returns : goal.returns
returns c =
    let n = bytes_of c.size_of-size.result in
    let place = c.known_place-place.result in
    let at = read_signed_at c.args.context.now c.args.stack.now c.args.part n c.args.region c.args.offset c.args.distance place c.size_of-size.ensures (as_passed c.args.region c.args.offset c.args.distance n c.known_place-place.result c.ranges.offset c.ranges.distance c.known_place-place.ensures.place) in
    let number : number_in (part_at c.args.context.now c.args.stack.now n (c.args.region, place)) ≡ Ok c.match-region.number =
    elim c.match-region.branch [
      | in-Stack w ↦ ap (λ (g : Region). number_in (part_at c.args.context.now c.args.stack.now n (g, place))) w.in-Stack.is ∙ (w.known_number-number.ensures ∙ ap (λ (m : ℕ). Ok m) (sym w.number-is))
      | in-Context w ↦
          ap (λ (g : Region). number_in (part_at c.args.context.now c.args.stack.now n (g, place))) w.in-Context.is
          ∙ (context_number c.args.context.now place n ∙ ap (λ (m : ℕ). Ok m) (sym w.number-number.ensures ∙ sym w.number-is))
    ] in
    at ∙ (ap (extended c.args.part) number ∙ ap (λ (m : ℕ). Ok (Number m)) (sym c.sign_extend.ensures))
