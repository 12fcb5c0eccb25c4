-- Defines the bytecode that an ELF object has for an entry, and the numbers and places of objects' faults for C.
use Rattle.std.specs.Prelude.{ℕ, ◌≡◌, ◌<◌, ◌≤◌, ◌==◌, if◌then◌else◌, List, [], ◌++◌, length, drop}
use Rattle.std.specs.Prelude.{Option, Some, None, Ok, Err}
use Rattle.object.specs.declared.fault.Damage.{Damage}
use Rattle.object.specs.declared.fault.Damage.TheVariants as damages
use Rattle.object.specs.declared.fault.ObjectFault.{ObjectFault}
use Rattle.object.specs.declared.fault.ObjectFault.TheVariants as faults
use Rattle.object.specs.Entry.{entry_of}
use Rattle.object.specs.Sentences.{sentence_of}

-- Returns the name of the entry, or `None` if the name is empty.
abbrev pub given : List ℕ → Option (List ℕ)
given name = if length name == 0 then None else Some name

-- States that the object has this bytecode for its entry: the function with this name or, if the name is empty, the
-- only global function.
abbrev pub IsEntry : List ℕ → List ℕ → List ℕ → Type 0
IsEntry object name code = entry_of object (given name) ≡ Ok code

-- States that the object has no bytecode for the entry with this name, and that this is its first fault.
abbrev pub HasFault : List ℕ → List ℕ → ObjectFault → Type 0
HasFault object name fault = entry_of object (given name) ≡ Err fault

-- Returns the number of a damage for C.
abbrev pub damage_number : Damage → ℕ
damage_number damages.Sections = 202
damage_number (damages.Section index) = 207
damage_number (damages.Symbol index) = 208
damage_number (damages.Relocations index) = 209

-- Returns the index of the damaged section or symbol, or 0 if the header is damaged.
abbrev pub damage_place : Damage → ℕ
damage_place damages.Sections = 0
damage_place (damages.Section index) = index
damage_place (damages.Symbol index) = index
damage_place (damages.Relocations index) = index

-- Returns the number of an object's fault for C: 201 to 206 for the faults O1 to O6, and for O2 that of the damage.
abbrev pub object_number : ObjectFault → ℕ
object_number faults.NoObject = 201
object_number (faults.Damaged damage) = damage_number damage
object_number faults.NoFunction = 203
object_number faults.Several = 204
object_number (faults.Names unit) = 205
object_number (faults.Leaves unit) = 206

-- Returns the place of an object's fault: where the object is damaged, or the unit of the entry's code with the fault,
-- and 0 for other faults.
abbrev pub object_place : ObjectFault → ℕ
object_place faults.NoObject = 0
object_place (faults.Damaged damage) = damage_place damage
object_place faults.NoFunction = 0
object_place faults.Several = 0
object_place (faults.Names unit) = unit
object_place (faults.Leaves unit) = unit

-- Returns the sentence that describes the fault of an object with this number. It is empty if there is no such fault.
abbrev pub object_message : ℕ → List ℕ
object_message number =
    if number == 201 then sentence_of faults.NoObject
    else if number == 202 then sentence_of (faults.Damaged damages.Sections)
    else if number == 203 then sentence_of faults.NoFunction
    else if number == 204 then sentence_of faults.Several
    else if number == 205 then sentence_of (faults.Names 0)
    else if number == 206 then sentence_of (faults.Leaves 0)
    else if number == 207 then sentence_of (faults.Damaged (damages.Section 0))
    else if number == 208 then sentence_of (faults.Damaged (damages.Symbol 0))
    else if number == 209 then sentence_of (faults.Damaged (damages.Relocations 0))
    else []

-- States that the object has no bytecode for the entry with this name. Its first fault has this number, and is at this
-- place.
pub record IsFaulty (object name : List ℕ) (number place : ℕ) : Type 0 where
  pub fault : ObjectFault
  pub first : HasFault object name fault
  pub numbered : number ≡ object_number fault
  pub placed : place ≡ object_place fault

-- States that the entry's bytecode was written to the beginning of a buffer. The buffer contained `before` and now
-- contains `after`, and `needed` is the length of the bytecode.
pub record GivesProgram (object name before after : List ℕ) (needed : ℕ) : Type 0 where
  pub code : List ℕ
  pub is : IsEntry object name code
  pub needs : needed ≡ length code
  pub fits : length code ≤ length before
  pub written : after ≡ code ++ drop (length code) before

-- States that the entry's bytecode is longer than a buffer of `room` bytes, and that `needed` is its length.
pub record NeedsRoom (object name : List ℕ) (room needed : ℕ) : Type 0 where
  pub code : List ℕ
  pub is : IsEntry object name code
  pub needs : needed ≡ length code
  pub short : room < length code
