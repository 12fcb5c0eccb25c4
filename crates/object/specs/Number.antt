-- Little-endian numbers and ranges of bytes that may be past the end.
use Rattle.std.specs.Prelude.{ℕ, ◌+◌, List, [], length, take, drop, nat_le, if◌then◌else◌}
use Rattle.word.specs.Bytes.{little_number}

-- Returns the little-endian number in the `size` bytes from index `place` on, or 0 if there are fewer bytes.
abbrev pub number_at : ℕ → ℕ → List ℕ → ℕ
number_at size place bytes =
    if nat_le (place + size) (length bytes) then little_number (take size (drop place bytes)) else 0

-- Returns the `size` bytes from index `start` on, or no bytes if there are fewer.
abbrev pub window : ℕ → ℕ → List ℕ → List ℕ
window start size bytes = if nat_le (start + size) (length bytes) then take size (drop start bytes) else []
