use Rattle.std.proofs.Common.{◌≡◌, drop, false, map}
use Rattle.cli_words.specs.Asked.{words_of}
use Rattle.cli_words.specs.Several.{onto, parted, parted_of}
use Rattle.cli_words.specs.Subcommand.{flag_of}
use Rattle.cli_words.proofs.file_words.parted.Given as goal

abbrev pub invariant-loop-index : goal.invariant-loop-index
invariant-loop-index l =
    onto (parted_of l.parts) (parted (map flag_of l.flags) l.is_value (words_of (drop l.index l.words))) ≡ parted (map flag_of l.flags) false (words_of l.fn.words)
