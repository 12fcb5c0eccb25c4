use Rattle.std.proofs.Common.{◌≡◌, ◌++◌}
use Rattle.std.specs.List.{flat_map}
use Rattle.std.specs.String.{string_bytes}
use Rattle.label.specs.Labels.{others}
use Rattle.book.specs.Forms.{blank, place_line}
use Rattle.book.proofs.blanks.push_receivers.Given as goal

abbrev pub invariant-loop-receiver : goal.invariant-loop-receiver
invariant-loop-receiver l = string_bytes l.text ≡ string_bytes l.fn.text ++ flat_map (λ p. place_line (l.label) p (blank (l.label) p)) (others l.receiver l.label)
