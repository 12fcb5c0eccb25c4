-- The bytes of an object that are needed to run its line number program.
use Rattle.std.specs.Prelude.{◌≤◌, length}
use Rattle.object.specs.declared.source.LineSections.{LineSections}
use Rattle.object.specs.Origin.{origin_of}
use Rattle.object.specs.Rows.{Origins}

-- Returns the address that an operand means, if it is in the function's section.
abbrev pub origins_of : LineSections → Origins
origins_of source place =
    origin_of source.bytes.now source.symbols.now source.section source.size source.relocations.now place

-- States that relocations have 16 to 24 bytes each, and at most 65,536 bytes together.
pub record IsSource (source : LineSections) : Type 0 where
  pub least : 16 ≤ source.size
  pub most : source.size ≤ 24
  pub few : length source.relocations.now ≤ 65536
