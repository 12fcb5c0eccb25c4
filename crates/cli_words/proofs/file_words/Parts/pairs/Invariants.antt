use Rattle.std.proofs.Common.{◌≡◌, ◌++◌, length, map}
use Rattle.cli_words.specs.Asked.{words_of}
use Rattle.cli_words.specs.Several.{pairs, request_of}
use Rattle.cli_words.proofs.SeveralLemmas.{texts}
use Rattle.cli_words.proofs.file_words.Parts.pairs.Given as goal

abbrev pub invariant-loop-rest : goal.invariant-loop-rest
invariant-loop-rest l =
    let asked = map (request_of l.name (words_of l.self.kept.items)) in
    texts l.requests.items ++ asked (pairs (words_of l.rest)) ≡ asked (pairs (words_of l.self.files.items))

abbrev pub decreases-loop-rest : goal.decreases-loop-rest
decreases-loop-rest l = length l.rest
