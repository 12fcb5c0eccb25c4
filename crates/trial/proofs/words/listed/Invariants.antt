use Rattle.std.proofs.Common.{◌≡◌, drop, length}
use Rattle.std.specs.Prelude.{replicate}
use Rattle.semantics.specs.Limits.{board_words}
use Rattle.toml.specs.View.{items_view}
use Rattle.trial.specs.Checks.{over, set_word}
use Rattle.trial.proofs.words.listed.Given as goal

abbrev pub invariant-loop-index : goal.invariant-loop-index
invariant-loop-index l = record {
  all : length l.words ≡ board_words;
  rest : over set_word l.index l.words (items_view (drop l.index l.values)) ≡ over set_word 0 (replicate board_words 0) (items_view l.values);
}
