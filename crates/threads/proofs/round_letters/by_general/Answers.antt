-- The letters are sorted by their generals.
use Rattle.std.proofs.Common.{rules}
use Rattle.std.proofs.lemmas.List.Sorted.{answers_always}
use Rattle.round.specs.Letters.{Letter}
use Rattle.threads.proofs.round_letters.by_general.Goals as goal

pub returns-clause-ascending : goal.returns-clause-ascending
returns-clause-ascending c = c.sort_unstable_by_key.ensures.sorted (λ (l : Letter). l.general) (answers_always _ _ _ (λ f a r g called. search rules))
