-- Piece after piece.
use Rattle.std.proofs.Common.{◌≡◌, ℤ, arith, ap, sym, ◌∙◌, subst, false, true, List, take, drop, to_z, of_z}
use Rattle.std.specs.Int.{w32}
use Rattle.std.proofs.lemmas.Int.{to_z-of_z}
use Rattle.semantics.specs.declared.value.Cell.{Cell}
use Rattle.semantics.specs.declared.value.Cell.TheVariants.{Empty}
use Rattle.semantics.specs.Memory.{are_pieces}
use Rattle.mem.specs.Reading.{is_piece}
use Rattle.mem.proofs.StoredPointers.{rest_all, rest_empty, piece_right, piece_wrong}
use Rattle.mem.proofs.cells.are_pieces.Goals as goal

pub loop-i-init : goal.loop-i-init
loop-i-init c = ap (λ (l : List Cell). are_pieces c.args.region (to_z w32 (of_z w32 c.args.offset)) 0 l) (rest_all c.args.stack.now c.args.place)

pub returns-then-not-is_piece : goal.returns-then-not-is_piece
returns-then-not-is_piece c =
    subst (λ (o : ℤ). false ≡ are_pieces c.args.region o 0 (take 8 (drop c.args.place c.args.stack.now))) (to_z-of_z w32 c.args.offset c.ranges.offset)
    (piece_wrong c.args.stack.now c.args.place c.loop-i.i c.args.region (to_z w32 (of_z w32 c.args.offset)) Empty c.is_piece.result (omega arith) (omega arith) (c.is_piece.ensures ∙ ap (is_piece c.loop-i.i c.args.region (to_z w32 (of_z w32 c.args.offset))) c.cell.ensures) c.if-not-is_piece.true c.loop-i.invariant)

pub loop-i-preserved : goal.loop-i-preserved
loop-i-preserved c =
    piece_right c.args.stack.now c.args.place c.loop-i.i c.args.region (to_z w32 (of_z w32 c.args.offset)) Empty c.is_piece.result (omega arith) (omega arith) (c.is_piece.ensures ∙ ap (is_piece c.loop-i.i c.args.region (to_z w32 (of_z w32 c.args.offset))) c.cell.ensures) c.if-not-is_piece.false c.loop-i.invariant

pub returns : goal.returns
returns c =
    let all : c.loop-i.i ≡ 8 = omega arith in
    subst (λ (o : ℤ). true ≡ are_pieces c.args.region o 0 (take 8 (drop c.args.place c.args.stack.now))) (to_z-of_z w32 c.args.offset c.ranges.offset)
    (sym (c.loop-i.invariant ∙ rest_empty c.args.stack.now c.args.place c.loop-i.i c.args.region (to_z w32 (of_z w32 c.args.offset)) all))
