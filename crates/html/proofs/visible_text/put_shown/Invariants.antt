use Rattle.std.proofs.Common.{◌≡◌, ◌++◌}
use Rattle.std.specs.Str.{encode_utf8_all}
use Rattle.std.specs.String.{string_bytes}
use Rattle.html.specs.Escaped.{escaped}
use Rattle.html.specs.Visible.{visible}
use Rattle.html.proofs.visible_text.put_shown.Given as goal

-- The characters so far are shown.
abbrev pub invariant-loop-character : goal.invariant-loop-character
invariant-loop-character l = string_bytes l.out ≡ string_bytes l.fn.out ++ encode_utf8_all (escaped (visible l.yielded))
