use Rattle.std.proofs.Common.{◌≡◌, ◌++◌, drop, map}
use Rattle.std.specs.List.{flat_map}
use Rattle.std.specs.String.{string_bytes}
use Rattle.show_diagram.specs.Words.{piece_words}
use Rattle.show_diagram.proofs.words.put_sentence.Given as goal

abbrev pub invariant-loop-piece : goal.invariant-loop-piece
invariant-loop-piece l =
    string_bytes l.out ++ flat_map (piece_words l.numbers) (map (λ p. (p.0.now, p.1)) (drop l.piece-index l.sentence))
    ≡ string_bytes l.fn.out ++ flat_map (piece_words l.numbers) (map (λ p. (p.0.now, p.1)) l.sentence)
