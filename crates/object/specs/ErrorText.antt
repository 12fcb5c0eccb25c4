-- The text of a fault of an object.
use Rattle.std.specs.Prelude.{ℕ, List, ◌++◌, codes}
use Rattle.std.specs.Fmt.{decimal}
use Rattle.object.specs.declared.fault.Damage.{Damage}
use Rattle.object.specs.declared.fault.Damage.TheVariants.{Sections, Section, Symbol, Relocations}
use Rattle.object.specs.declared.fault.ObjectFault.{ObjectFault}
use Rattle.object.specs.declared.fault.ObjectFault.TheVariants.{NoObject, Damaged, NoFunction, Several, Names, Leaves}

-- Returns where an object is damaged, as text.
abbrev pub place_of : Damage → List ℕ
place_of Sections = codes "sections"
place_of (Section index) = codes "section " ++ decimal index
place_of (Symbol index) = codes "symbol " ++ decimal index
place_of (Relocations index) = codes "relocations " ++ decimal index

-- Returns the text of a fault: its code, and where the object is damaged or at which unit the fault is.
abbrev pub told : ObjectFault → List ℕ
told NoObject = codes "O1"
told (Damaged damage) = codes "O2 " ++ place_of damage
told NoFunction = codes "O3"
told Several = codes "O4"
told (Names unit) = codes "O5 unit " ++ decimal unit
told (Leaves unit) = codes "O6 unit " ++ decimal unit
