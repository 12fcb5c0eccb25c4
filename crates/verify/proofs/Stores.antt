-- What stores do to a stack (own).
use Rattle.std.specs.Prelude.{◌≡◌, List, length, Result, Ok, Err}
use Rattle.semantics.specs.declared.value.Cell.{Cell}
use Rattle.semantics.specs.State.{Cause}
use Rattle.absmem.specs.Known.{Known}
use Rattle.absmem.specs.Describes.{Describes as StackDescribes}

-- There are 512 cells, and what is known describes them.
abbrev pub Leads : Known → Result (List Cell) Cause → Type 0
Leads known (Ok cells) = StackDescribes known cells × (length cells ≡ 512)
Leads known (Err cause) = ⊥
