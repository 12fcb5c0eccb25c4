-- The number at the window's index, sign-extended.
use Rattle.std.proofs.Common.{◌≡◌, ℤ, ℕ, Ok, Err, subst, rules, sym, ap, ◌∙◌}
use Rattle.std.specs.Int.{w16}
use Rattle.std.proofs.lemmas.Int.{to_z-of_z}
use Rattle.insn.specs.Insn.{bytes_of}
use Rattle.semantics.specs.declared.value.Region.{Region}
use Rattle.semantics.specs.declared.value.Value.TheVariants.{Number}
use Rattle.semantics.specs.Memory.{loaded_signed}
use Rattle.mem.specs.Answers.{cause_of}
use Rattle.mem.specs.Places.{place_at}
use Rattle.mem.proofs.Loading.{loads_signed}
use Rattle.mem.proofs.access.load_signed.Goals as goal

pub returns-in_err-number : goal.returns-in_err-number
returns-in_err-number c =
    let size = bytes_of c.size_of-size.result in
    let p : Region × ℕ = (c.in_ok-region.region, c.in_ok-region.place) in
    let h : loaded_signed c.args.context.now c.args.stack.now c.args.part c.args.base c.args.distance ≡ Err (cause_of c.in_err-number.field-0.0) =
    loads_signed c.args.context.now c.args.stack.now size c.args.part c.args.base c.args.distance p _ c.size_of-size.ensures
    (subst (λ (d : ℤ). place_at c.args.base d size ≡ Ok p) (to_z-of_z w16 c.args.distance c.ranges.distance) c.in_ok-region.ensures.answer) c.in_err-number.ensures in
    search rules

pub returns : goal.returns
returns c =
    let size = bytes_of c.size_of-size.result in
    let p : Region × ℕ = (c.in_ok-region.region, c.in_ok-region.place) in
    loads_signed c.args.context.now c.args.stack.now size c.args.part c.args.base c.args.distance p _ c.size_of-size.ensures
    (subst (λ (d : ℤ). place_at c.args.base d size ≡ Ok p) (to_z-of_z w16 c.args.distance c.ranges.distance) c.in_ok-region.ensures.answer) c.in_ok-number.ensures
    ∙ ap (λ (n : ℕ). Ok (Number n)) (sym c.sign_extend.ensures)
