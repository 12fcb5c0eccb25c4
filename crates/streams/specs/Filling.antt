-- Defines which bytes were written to a file, and under which name, according to a record.
use Rattle.std.specs.Prelude.{ℕ, ◌≡◌, List, string_bytes}
use Rattle.streams.specs.declared.filled_file.Filled.{Filled}

-- Returns the name of the file and the bytes written to it, from a record that they were written.
abbrev pub file_of : {O : Type 0} → Filled O → List ℕ × List ℕ
file_of filled = (string_bytes filled.name, filled.bytes.now)

abbrev pub IsFilledBy : {O : Type 0} → List ℕ → List ℕ → Filled O → Type 0
IsFilledBy name bytes filled = file_of filled ≡ (name, bytes)
