use Rattle.std.proofs.Common.{◌≡◌, map, take}
use Rattle.cli_words.specs.Asked.{words_of}
use Rattle.cli_words.specs.Several.{request_of, singles}
use Rattle.cli_words.proofs.SeveralLemmas.{texts}
use Rattle.cli_words.proofs.file_words.Parts.singles.Given as goal

abbrev pub invariant-loop-file : goal.invariant-loop-file
invariant-loop-file l =
    texts l.requests.items ≡ map (request_of l.name (words_of l.self.kept.items)) (singles (words_of (take l.file-index l.self.files.items)))
