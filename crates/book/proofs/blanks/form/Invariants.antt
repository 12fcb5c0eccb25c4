use Rattle.std.proofs.Common.{◌≡◌, ◌++◌, ◌∷◌, []}
use Rattle.std.specs.List.{flat_map, range_with_len}
use Rattle.std.specs.String.{string_bytes}
use Rattle.book.specs.Forms.{blank, place_lines, head_text}
use Rattle.book.proofs.blanks.form.Given as goal

abbrev pub invariant-loop-more : goal.invariant-loop-more
invariant-loop-more l = string_bytes l.text ≡ head_text l.fn.generals l.fn.bound l.fn.commander ++ flat_map (λ k. place_lines blank l.fn.generals k (l.fn.commander ∷ [])) (range_with_len 0 l.more)
