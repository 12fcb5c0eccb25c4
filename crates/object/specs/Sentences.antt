-- The sentences that explain faults of objects.
use Rattle.std.specs.Prelude.{ℕ, List, codes}
use Rattle.object.specs.declared.fault.Damage.TheVariants.{Sections, Section, Symbol, Relocations}
use Rattle.object.specs.declared.fault.ObjectFault.{ObjectFault}
use Rattle.object.specs.declared.fault.ObjectFault.TheVariants.{NoObject, Damaged, NoFunction, Several, Names, Leaves}

-- Returns a sentence that says what a fault means, and what to do about it.
abbrev pub sentence_of : ObjectFault → List ℕ
sentence_of NoObject = codes "this is not a relocatable 64-bit little-endian ELF object for BPF (machine 247)"
sentence_of (Damaged Sections) = codes "the header is cut off, or the section headers are not within the file"
sentence_of (Damaged (Section place)) = codes "the bytes of this section are not within the file"
sentence_of (Damaged (Symbol place)) =
    codes "the name of this function is not among the strings, or its code is not within its section"
sentence_of (Damaged (Relocations place)) = codes "the relocations of this section name a symbol that does not exist"
sentence_of NoFunction = codes "there is no function with this name, or no global function"
sentence_of Several = codes "there are several functions: name the program's with `--entry` (in a scenario, `entry`)"
sentence_of (Names place) = codes
    "the entry uses data, or a function that is not in the object: put arrays on the stack, and call helpers by number"
sentence_of (Leaves place) =
    codes "the entry calls or names another function: make that one `static inline`, so that only one is left"
