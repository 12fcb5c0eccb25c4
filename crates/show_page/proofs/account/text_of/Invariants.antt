use Rattle.std.proofs.Common.{◌≡◌, encode_utf8, flat_map, take}
use Rattle.std.specs.String.{string_bytes}
use Rattle.show_page.proofs.account.text_of.Given as goal

abbrev pub invariant-loop-byte : goal.invariant-loop-byte
invariant-loop-byte l = string_bytes l.text ≡ flat_map encode_utf8 (take l.byte-index l.bytes)
