-- What the code returns for a text that was parsed, and for a table that was printed (own).
use Rattle.std.specs.Prelude.{◌≡◌, Option, Some, None, Result, Ok, Err}
use Rattle.std.specs.declared.alloc.AllocError.{AllocError}
use Rattle.toml.specs.Errors.{IsMemory}
use Rattle.toml.specs.declared.de.error.Error.{Error}
use Rattle.toml.specs.declared.ser.error.Error.{Error as PrintError}
use Rattle.toml.specs.declared.ser.error.Error.TheVariants as unprinted

-- States that the second result has the parsed document, `None` if the text is not TOML, or out of memory.
abbrev pub IsDocumentOf : {T : Type 0} → Result T Error → Result (Option T) AllocError → Type 0
IsDocumentOf (Ok document) (Ok (Some own)) = own ≡ document
IsDocumentOf (Err error) (Ok None) = ¬ IsMemory error
IsDocumentOf (Err error) (Err _) = IsMemory error
IsDocumentOf _ _ = ⊥

-- States that the second result has the printed text, `None` if TOML cannot write a date, or out of memory.
abbrev pub IsTextBy : {T : Type 0} → Result T PrintError → Result (Option T) AllocError → Type 0
IsTextBy (Ok text) (Ok (Some own)) = own ≡ text
IsTextBy (Err error) (Ok None) = error ≡ unprinted.DateInvalid
IsTextBy (Err error) (Err _) = error ≡ unprinted.OutOfMemory
IsTextBy _ _ = ⊥
