use Rattle.text.specs.Parts.{left_len}
use Rattle.book.proofs.message_label.+prolonged.Given as goal

abbrev pub decreases-prolonged : goal.decreases-prolonged
decreases-prolonged l = left_len l.rest
