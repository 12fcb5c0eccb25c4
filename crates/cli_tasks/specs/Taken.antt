-- Defines the files that a scenario names, as they are read, and the report on a file that cannot be used (own).
use Rattle.std.specs.Prelude.{ℕ, ◌≡◌, ◌≤◌, ◌⊎◌, List, ◌∷◌, ◌++◌, Option, None, Some, Ok, Err, IfSome, IsUtf8, codes, length, string_bytes}
use Rattle.std.specs.List.{AllZip}
use Rattle.std.specs.Fmt.{decimal}
use Rattle.std.specs.declared.io.ErrorKind.{ErrorKind}
use Rattle.std.specs.declared.io.ErrorKind.TheVariants.{OutOfMemory}
use Rattle.hex.specs.Hex.{encode_lower}
use Rattle.object.specs.declared.fault.ObjectFault.{ObjectFault}
use Rattle.object.specs.Entry.{entry_of}
use Rattle.object.specs.Sentences.{sentence_of}
use Rattle.object.specs.ErrorText.{told}
use Rattle.streams.specs.Names.{shown}
use Rattle.scenario.specs.declared.reference_key.ReferenceKey.{ReferenceKey}
use Rattle.scenario.specs.declared.reference_key.ReferenceKey.TheVariants.{Assembly, Bytecode, Object}
use Rattle.scenario.specs.Asking.{Asked}
use Rattle.scenario.specs.ReferenceNames.{File, reference_of}
use Rattle.cli_tasks.specs.declared.named_files.FileProblem.{FileProblem}
use Rattle.cli_tasks.specs.declared.named_files.FileProblem.TheVariants.{Told, Memory}

-- States that `text` takes the place of the name of a file with these bytes. For assembly it is the text of the file,
-- for bytecode the file in hexadecimal digits, and for an ELF object the code of the function in hexadecimal digits.
abbrev pub IsTextOf : ReferenceKey → Option (List ℕ) → List ℕ → List ℕ → Type 0
IsTextOf Assembly function bytes text = text ≡ bytes
IsTextOf Bytecode function bytes text = text ≡ encode_lower bytes
IsTextOf Object function bytes text = (code : List ℕ) × (entry_of bytes function ≡ Ok code) × (text ≡ encode_lower code)

-- Returns the function that the scenario names in a file. Only an ELF object can have one.
abbrev pub function_in : ReferenceKey → Option (List ℕ) → Option (List ℕ)
function_in Object function = function
function_in key function = None

-- States that `f` is the file that the scenario names, read from these bytes.
pub record IsFile (a : Asked) (bytes : List ℕ) (f : File) : Type 0 where
  pub key : f.key ≡ a.key
  pub name : f.name ≡ a.name
  pub function : f.function ≡ function_in a.key a.function
  pub text : IsTextOf a.key a.function bytes f.text

-- States that these are the bytes of the file with this name, if its bytes are known.
abbrev pub AreBytes : (List ℕ → Option (List ℕ)) → List ℕ → List ℕ → Type 0
AreBytes known name bytes = IfSome (known name) (λ own. bytes ≡ own)

-- Returns the most bytes that a file under this key may have: 32,768 for bytecode, as for the longest program, 262,144
-- for assembly, and 1,048,576 for an ELF object.
abbrev pub most_bytes : ReferenceKey → ℕ
most_bytes Assembly = 262144
most_bytes Bytecode = 32768
most_bytes Object = 1048576

-- States that `f` is the file that the scenario names, read from all bytes of the file with its name. There are no more
-- bytes than such a file may have.
abbrev pub IsBeside : (List ℕ → Option (List ℕ)) → Asked → File → Type 0
IsBeside known a f =
    (bytes : List ℕ) × (length bytes ≤ most_bytes a.key) × AreBytes known a.name bytes × IsFile a bytes f

-- Returns the two lines which report that a file could not be read (`fault` is `read`) or is not UTF-8 (`fault` is
-- `text`). `name` is the file's name as it is printed.
abbrev pub fault_lines : ℕ → ReferenceKey → List ℕ → List ℕ → List ℕ
fault_lines index key fault name =
    codes "fault " ++ fault ++ codes " " ++ name ++ codes "\nit is named by traitor[" ++ decimal index ++ codes "]."
    ++ reference_of key

-- Returns the two lines which report that the file that the scenario names could not be read (`fault` is `read`) or is
-- not UTF-8 (`fault` is `text`). `name` is the file's name as it is printed.
abbrev pub fault_told : Asked → List ℕ → List ℕ → List ℕ
fault_told a fault name = fault_lines a.index a.key fault name

-- Returns the three lines that report this fault of an ELF object. `name` is the file's name as it is printed.
abbrev pub refused_lines : ℕ → ReferenceKey → ObjectFault → List ℕ → List ℕ
refused_lines index key fault name =
    codes "refused " ++ told fault ++ codes "\n" ++ sentence_of fault ++ codes "\n" ++ name
    ++ codes " is named by traitor["
    ++ decimal index ++ codes "]." ++ reference_of key

-- Returns the three lines that report this fault of the ELF object that the scenario names. `name` is the file's name
-- as it is printed.
abbrev pub refused_told : Asked → ObjectFault → List ℕ → List ℕ
refused_told a fault name = refused_lines a.index a.key fault name

-- States that `text` is the lines that `lines` makes with the file's name as it is printed. If the name has both a
-- control character and characters beyond ASCII, nothing is stated.
abbrev pub IsNamed : Asked → (List ℕ → List ℕ) → List ℕ → Type 0
IsNamed a lines text = IfSome (shown a.name) (λ name. text ≡ lines name)

-- States that `text` reports the fault of a named file with these bytes: an assembly file is not UTF-8, or an ELF
-- object has no code for the function.
abbrev pub IsFaultIn : Asked → List ℕ → List ℕ → Type 0
IsFaultIn a bytes text =
    ((a.key ≡ Assembly) × (IsUtf8 bytes → ⊥) × IsNamed a (fault_told a (codes "text")) text)
    ⊎ ((fault : ObjectFault) × (a.key ≡ Object) × (entry_of bytes a.function ≡ Err fault)
    × IsNamed a (refused_told a fault) text)

-- States that `text` reports why the file that the scenario names cannot be used: reading it failed with an error of
-- this kind, or its bytes have a fault.
abbrev pub IsFaultOf : (List ℕ → Option (List ℕ)) → (List ℕ → ErrorKind → Type 0) → Asked → List ℕ → Option ErrorKind →
    Type 0
IsFaultOf known fails a text (Some kind) = fails a.name kind × IsNamed a (fault_told a (codes "read")) text
IsFaultOf known fails a text None = (bytes : List ℕ) × AreBytes known a.name bytes × IsFaultIn a bytes text

-- States that this is the problem of a named file that cannot be used, or that memory ran out.
abbrev pub IsUntakenOf : (List ℕ → Option (List ℕ)) → (List ℕ → ErrorKind → Type 0) → Asked → FileProblem → Type 0
IsUntakenOf known fails a (Told lines kind) = IsFaultOf known fails a (string_bytes lines) kind
IsUntakenOf known fails a Memory = Unit {0}

-- States that this is the problem of a named file that could not be read because of an error of this kind. The problem
-- is `Memory` only if memory ran out while the file was read.
abbrev pub IsUnread : Asked → ErrorKind → FileProblem → Type 0
IsUnread a failed (Told lines kind) =
    (kind ≡ Some failed) × IsNamed a (fault_told a (codes "read")) (string_bytes lines)
IsUnread a failed Memory = failed ≡ OutOfMemory

-- States that this is the problem of a named file with these bytes that cannot be used, or that memory ran out.
abbrev pub IsUntakenIn : Asked → List ℕ → FileProblem → Type 0
IsUntakenIn a bytes (Told lines kind) = (kind ≡ None) × IsFaultIn a bytes (string_bytes lines)
IsUntakenIn a bytes Memory = Unit {0}

-- States that this is the problem of the first file in `asked` that cannot be used, or that memory ran out. All files
-- before it can be used.
abbrev pub IsUntaken : (List ℕ → Option (List ℕ)) → (List ℕ → ErrorKind → Type 0) → List Asked → FileProblem → Type 0
IsUntaken known fails asked (Told lines kind) =
    (before : List Asked) × (a : Asked) × (rest : List Asked) × (files : List File) × (asked ≡ before ++ a ∷ rest)
    × AllZip (IsBeside known) before files × IsFaultOf known fails a (string_bytes lines) kind
IsUntaken known fails asked Memory = Unit {0}
