use Rattle.std.specs.Fmt.{HasWritten, IsPlainFormatter}
use Rattle.std.specs.List.{flat_map}
use Rattle.std.specs.Str.{encode_utf8_all}
use Rattle.streams.specs.Escapes.{displayed}
use Rattle.streams.proofs.escaped.put_text.Given as goal

-- The characters so far are written as they should be.
abbrev pub invariant-loop-character : goal.invariant-loop-character
invariant-loop-character g l =
    IsPlainFormatter l.initial.f →
    HasWritten g.W.Write.write_str_gives l.initial.f (encode_utf8_all (flat_map (displayed l.fn.kept) l.yielded)) l.f
