use Rattle.board.proofs.Keeping.{kept_begun}
use Rattle.board.proofs.board.Board.new.Goals as goal

pub invariant_of-result : goal.invariant_of-result
invariant_of-result c = kept_begun c.args.words c.new.result.items c.new.ensures.items c.recall_board.ensures
