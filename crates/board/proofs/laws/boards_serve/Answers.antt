use Rattle.board.proofs.Asking.{asks_within}
use Rattle.board.proofs.Serving.{reply_fits, next_board}
use Rattle.board.proofs.laws.boards_serve.Goals as goal

pub returns : goal.returns
returns c = record {
  answers = λ words program context shape s asked request board e. reply_fits words request board (asks_within program context shape s asked request e);
  stays = λ words program context shape s asked request board e. next_board words request board (asks_within program context shape s asked request e);
}
