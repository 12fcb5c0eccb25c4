-- The first cell decides.
use Rattle.std.proofs.Common.{◌≡◌, ◌∙◌, sym, subst, ℤ, true, false, take, drop, to_z, of_z, rules}
use Rattle.std.specs.Prelude.{Ok}
use Rattle.std.specs.Int.{w32}
use Rattle.std.proofs.lemmas.Int.{to_z-of_z}
use Rattle.insn.specs.Insn.{bytes_of}
use Rattle.semantics.specs.declared.value.Value.TheVariants.{Pointer}
use Rattle.semantics.specs.Memory.{value_in, are_pieces}
use Rattle.mem.proofs.FirstCell.{nothing_in, pointer_in, no_pointer_in, inside, too_few}
use Rattle.mem.proofs.stack.Stack.value.Goals as goal

pub returns-in-Empty : goal.returns-in-Empty
returns-in-Empty c = nothing_in c.args.self.now c.args.place c.args.size (inside c.args.size (c.recall.ensures) c.requires) (sym c.in-Empty.is ∙ c.cell.ensures)

pub returns-then-are_pieces : goal.returns-then-are_pieces
returns-then-are_pieces c =
    let e : to_z w32 (of_z w32 c.in-Piece.offset) ≡ c.in-Piece.offset = to_z-of_z w32 c.in-Piece.offset (search rules) in
    subst (λ (o : ℤ). value_in (take (bytes_of c.args.size) (drop c.args.place c.args.self.now)) ≡ Ok (Pointer c.in-Piece.region o)) (sym e)
    (pointer_in c.args.self.now c.args.place c.in-Piece.field-0 c.in-Piece.region c.in-Piece.offset c.args.size (inside c.args.size (c.recall.ensures) c.requires) (sym c.in-Piece.is ∙ c.cell.ensures)
    (rw c.in-Double.is (subst (λ (o : ℤ). are_pieces c.in-Piece.region o 0 (take 8 (drop c.args.place c.args.self.now)) ≡ true) e (sym c.are_pieces.ensures ∙ c.if-are_pieces.true))))

pub returns-else-are_pieces : goal.returns-else-are_pieces
returns-else-are_pieces c =
    let e : to_z w32 (of_z w32 c.in-Piece.offset) ≡ c.in-Piece.offset = to_z-of_z w32 c.in-Piece.offset (search rules) in
    no_pointer_in c.args.self.now c.args.place c.in-Piece.field-0 c.in-Piece.region c.in-Piece.offset c.args.size (inside c.args.size (c.recall.ensures) c.requires) (sym c.in-Piece.is ∙ c.cell.ensures)
    (rw c.in-Double.is (subst (λ (o : ℤ). are_pieces c.in-Piece.region o 0 (take 8 (drop c.args.place c.args.self.now)) ≡ false) e (sym c.are_pieces.ensures ∙ c.if-are_pieces.false)))

pub returns-in_default : goal.returns-in_default
returns-in_default c =
    no_pointer_in c.args.self.now c.args.place c.in-Piece.field-0 c.in-Piece.region c.in-Piece.offset c.args.size (inside c.args.size (c.recall.ensures) c.requires) (sym c.in-Piece.is ∙ c.cell.ensures)
    (too_few c.args.self.now c.args.place c.in-Piece.region c.in-Piece.offset c.args.size c.requires c.recall.ensures c.in_default.not-Double)
