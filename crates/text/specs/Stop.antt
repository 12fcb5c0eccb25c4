-- Defines stops: the kinds of bytes at which a text is cut.
use Rattle.std.specs.Prelude.{ℕ, Bool, ◌==◌, ◌&&◌, ◌||◌, not, nat_le}
use Rattle.text.specs.declared.stop.Stop.{Stop}
use Rattle.text.specs.declared.stop.Stop.TheVariants.{Byte, Blank, Solid, Sign}

-- Checks whether a number is from `low` to `high`, both included.
abbrev pub is_within : ℕ → ℕ → ℕ → Bool
is_within low high c = nat_le low c && nat_le c high

-- Checks whether a byte is a space or a tab.
abbrev pub is_blank : ℕ → Bool
is_blank c = c == 32 || c == 9

-- Checks whether a byte is of the kind of the stop, so that a text is cut there.
abbrev pub is_stop : Stop → ℕ → Bool
is_stop (Byte end) c = c == end
is_stop Blank c = is_blank c
is_stop Solid c = not (is_blank c)
is_stop Sign c = c == 43 || c == 45

-- The stop at a line feed, where a line ends.
abbrev pub feed : Stop
feed = Byte 10

-- The stop at a space, where a word ends.
abbrev pub space : Stop
space = Byte 32

-- The stop at a comma.
abbrev pub comma : Stop
comma = Byte 44

-- The stop at a dot.
abbrev pub dot : Stop
dot = Byte 46

-- The stop at a colon.
abbrev pub colon : Stop
colon = Byte 58

-- The stop at a semicolon.
abbrev pub semicolon : Stop
semicolon = Byte 59
