-- The names of helpers.
use Rattle.std.specs.Prelude.{ℕ, List, [], slice_index_or}
use denote.Enum.Declared.{tag_of}
use Rattle.asm.specs.Helper.{helpers}
use Rattle.semantics.specs.contracts.request.Helper.{the_type}
use Rattle.semantics.specs.declared.request.Helper.{Helper}

-- Returns the name of a helper, from the assembler's list of names in the order of the helpers.
unfoldable pub helper_name : Helper → List ℕ
helper_name helper = slice_index_or helpers (tag_of the_type helper) []
