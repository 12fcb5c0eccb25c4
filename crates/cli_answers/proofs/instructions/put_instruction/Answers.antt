use Rattle.cli_answers.proofs.ItemLemmas.{instruction_cut}
use Rattle.cli_answers.proofs.instructions.put_instruction.Goals as goal

pub returns : goal.returns
returns c = rw (← instruction_cut c.args.text.now _ _ _ _ _ c.parted.ensures.front c.parted.ensures.back c.piece.ensures.first) c.put_parts.ensures
