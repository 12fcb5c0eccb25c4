use Rattle.std.proofs.Common.{◌≡◌, ◌-◌, ◌++◌, ◌∷◌, []}
use Rattle.std.specs.List.{flat_map}
use Rattle.std.specs.String.{string_bytes}
use Rattle.label.specs.Labels.{others}
use Rattle.book.specs.Forms.{blank, place_lines}
use Rattle.book.proofs.blanks.+push_blanks.Given as goal

abbrev pub decreases-push_blanks : goal.decreases-push_blanks
decreases-push_blanks l = l.more

abbrev pub invariant-loop-general : goal.invariant-loop-general
invariant-loop-general l = string_bytes l.text ≡ string_bytes l.fn.text ++ flat_map (λ j. place_lines blank l.generals (l.more - 1) (l.label ++ j ∷ [])) (others l.general l.label)
