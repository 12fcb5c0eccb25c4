-- Defines which failure results from which cause (docs/FORMATS.md, "Surveys").
use Rattle.std.specs.Prelude.{⊤, ℕ, ◌≡◌, ◌≢◌, ◌<◌, ◌⊎◌, ◌++◌, Bool, true, List, [], ◌∷◌, String, codes, get_or, length, decimal, Option, None, Some, Err, IfSome, IsSomeAnd, string_bytes}
use Rattle.std.specs.Global.{Global}
use Rattle.std.specs.List.{All, AllZip, Any}
use Rattle.std.specs.Fmt.{◌++?◌}
use Rattle.std.specs.declared.io.ErrorKind.{ErrorKind}
use Rattle.std.specs.declared.io.ErrorKind.TheVariants.{AlreadyExists, InvalidData, OutOfMemory}
use Rattle.asm.specs.ErrorText as asm_text
use Rattle.asm.specs.Program.{program_of, said}
use Rattle.asm.specs.declared.fault.AsmError.{AsmError}
use Rattle.asm.specs.declared.fault.AsmError.TheVariants as asm
use Rattle.streams.specs.Names.{shown}
use Rattle.surveys.specs.Parts.{IsFaulty, IsPart}
use Rattle.surveys.specs.declared.finding.Finding.{Finding}
use Rattle.surveys.specs.declared.parts.PartError.{PartError}
use Rattle.surveys.specs.declared.parts.PartError.TheVariants as part
use Rattle.verify.specs.ErrorText as verifier_text
use Rattle.verify.specs.Judgement.{judged}
use Rattle.verify.specs.declared.error.VerifyError.{VerifyError}
use Rattle.verify.specs.declared.error.VerifyError.TheVariants as verifier
use Rattle.surveyor.specs.declared.task.Merge.{Merge}
use Rattle.surveyor.specs.declared.fault.SurveyFailure.{SurveyFailure}
use Rattle.surveyor.specs.declared.fault.SurveyFailure.TheVariants.{Unread, NotText, Unwritten, Refused, Words, Memory}
use Rattle.surveyor.specs.Summed.{joined, span_of}
use Rattle.surveyor.specs.Words.{IsProgramOf}

-- States that this is the failure for a file with this name that cannot be read: it names the file, or memory ran out.
abbrev pub IsUnread : List ℕ → SurveyFailure → Type 0
IsUnread name (Unread own) = string_bytes own ≡ name
IsUnread name Memory = ⊤
IsUnread name _ = ⊥

-- States that this is the failure for a standard output that cannot be written: it names no file, or memory ran out.
abbrev pub IsUnprinted : SurveyFailure → Type 0
IsUnprinted (Unwritten None) = ⊤
IsUnprinted Memory = ⊤
IsUnprinted _ = ⊥

-- Returns the failure for a standard output that cannot be written because of an error of this kind.
abbrev pub unprinted : ErrorKind → SurveyFailure
unprinted OutOfMemory = Memory
unprinted _ = Unwritten None

-- Returns the failure for an error of this kind that does not concern a file: the command line is not UTF-8, standard
-- output cannot be written, or memory ran out.
abbrev pub failure_of : ErrorKind → SurveyFailure
failure_of OutOfMemory = Memory
failure_of InvalidData = Words
failure_of _ = Unwritten None

-- ---- a file of assembly

-- States that a text is not a program that the verifier accepts.
abbrev pub IsNoProgram : List ℕ → Type 0
IsNoProgram text = (hex : List ℕ) → IsProgramOf text hex → ⊥

-- Returns the line that reports an error of the assembler.
abbrev pub asm_line : AsmError → List ℕ
asm_line error = codes "refused " ++ asm_text.told error

-- Returns the line that reports an error of the verifier.
abbrev pub verifier_line : VerifyError → List ℕ
verifier_line error = codes "refused " ++ verifier_text.told error

-- States that the assembler rejects a text, and that this line reports its error. The error is not that memory ran out.
abbrev pub IsAsmLine : List ℕ → List ℕ → Type 0
IsAsmLine text line = (error : AsmError) × (error ≢ asm.Memory) × (said text ≡ Err error) × (line ≡ asm_line error)

-- States that the verifier rejects the program of a text, and that this line reports its error. The error is not that
-- memory ran out.
abbrev pub IsVerifierLine : List ℕ → List ℕ → Type 0
IsVerifierLine text line = (error : VerifyError) × (error ≢ verifier.Memory)
    × IsSomeAnd (program_of text) (λ program. judged program ≡ Some error) × (line ≡ verifier_line error)

-- States that a text is not a program that the verifier accepts, and that this line reports the error of the assembler
-- or the verifier.
abbrev pub IsRefusedBy : List ℕ → List ℕ → Type 0
IsRefusedBy text line = IsNoProgram text × (IsAsmLine text line ⊎ IsVerifierLine text line)

-- States that this is the failure for a text that is not a program that the verifier accepts: it has the line that
-- reports the error, or memory ran out.
abbrev pub IsRefusedText : List ℕ → SurveyFailure → Type 0
IsRefusedText text (Refused line) = IsRefusedBy text (string_bytes line)
IsRefusedText text Memory = ⊤
IsRefusedText text _ = ⊥

-- States that this is the failure for an error of the assembler. If the assembler ran out of memory, the failure is
-- `Memory`.
abbrev pub IsUnsaid : AsmError → SurveyFailure → Type 0
IsUnsaid error (Refused line) = (error ≢ asm.Memory) × (string_bytes line ≡ asm_line error)
IsUnsaid error Memory = ⊤
IsUnsaid error _ = ⊥

-- States that this is the failure for an error of the verifier. If the verifier ran out of memory, the failure is
-- `Memory`.
abbrev pub IsUnsound : VerifyError → SurveyFailure → Type 0
IsUnsound error (Refused line) = (error ≢ verifier.Memory) × (string_bytes line ≡ verifier_line error)
IsUnsound error Memory = ⊤
IsUnsound error _ = ⊥

-- States that the value of `--adversary` names a file: it is not `lies`, `silent` or `collude`.
pub record IsFile (word : List ℕ) : Type 0 where
  pub lies : word ≢ codes "lies"
  pub silent : word ≢ codes "silent"
  pub collude : word ≢ codes "collude"

-- States that this is the failure for a file of assembly with this name: it cannot be read, is not UTF-8, contains no
-- program that the verifier accepts, or memory ran out.
abbrev pub IsUntaken : List ℕ → SurveyFailure → Type 0
IsUntaken name (Unread own) = string_bytes own ≡ name
IsUntaken name (NotText own) = string_bytes own ≡ name
IsUntaken name (Refused line) = (text : List ℕ) × IsRefusedBy text (string_bytes line)
IsUntaken name Memory = ⊤
IsUntaken name _ = ⊥

-- ---- a folder

-- Returns the name of the file that is created and removed to check whether files can be written to a folder.
abbrev pub tried_name : List ℕ → ℕ → List ℕ
tried_name folder number = folder ++ (codes "/." ++ (decimal number ++ codes ".survey.new"))

-- States that this is the failure for a file that cannot be written: it names the file or its temporary name `beside`,
-- or memory ran out.
abbrev pub IsUnkept : List ℕ → List ℕ → SurveyFailure → Type 0
IsUnkept name beside (Unwritten (Some own)) = (string_bytes own ≡ name) ⊎ (string_bytes own ≡ beside)
IsUnkept name beside Memory = ⊤
IsUnkept name beside _ = ⊥

-- Returns the failure for a file that cannot be written because of an error of this kind. It names the temporary file
-- `beside` if that exists already, and otherwise the file itself.
abbrev pub unwritten : ErrorKind → String Global → String Global → SurveyFailure
unwritten OutOfMemory name beside = Memory
unwritten AlreadyExists name beside = Unwritten (Some beside)
unwritten _ name beside = Unwritten (Some name)

-- States that this is the failure for some file with a campaign that cannot be written: it names a file, or memory ran
-- out.
abbrev pub IsUnkeptIn : SurveyFailure → Type 0
IsUnkeptIn (Unwritten (Some name)) = ⊤
IsUnkeptIn Memory = ⊤
IsUnkeptIn _ = ⊥

-- States that this is the failure while campaigns are written to a folder: it names a file, or memory ran out. If there
-- is no folder, it cannot name a file.
abbrev pub IsKeptIn : Bool → SurveyFailure → Type 0
IsKeptIn is_kept (Unwritten (Some name)) = is_kept ≡ true
IsKeptIn is_kept Memory = ⊤
IsKeptIn is_kept _ = ⊥

-- ---- files that are summed

-- Returns the line that reports why the file `name` is rejected. `first` is the first file that has lines. Returns
-- `None` if memory ran out, or if it is not known how a name is displayed.
abbrev pub part_line : List ℕ → List ℕ → PartError → Option (List ℕ)
part_line name first (part.Line n) =
    Some (codes "refused ") ++? shown name ++? Some (codes " line ") ++? Some (decimal n)
part_line name first (part.Family n) = Some (codes "refused ") ++? shown name ++? Some (codes " line ")
    ++? Some (decimal n) ++? Some (codes ": its family differs from that of ") ++? shown first
part_line name first (part.Seed n seed) = Some (codes "refused ") ++? shown name ++? Some (codes " line ")
    ++? Some (decimal n) ++? Some (codes ": seed ") ++? Some (decimal seed) ++? Some (codes " is not one of --seeds")
part_line name first part.Memory = None

-- States that this line reports why the file `name` is rejected. `first` is the first file that has lines. Nothing is
-- stated about the line if it is not known how a name is displayed.
abbrev pub IsPartLine : List ℕ → List ℕ → PartError → List ℕ → Type 0
IsPartLine name first error line =
    (error ≢ part.Memory) × IfSome (part_line name first error) (λ told. line ≡ told)

-- States that this is the failure for a file of which a line is rejected: it has the line that reports this error, or
-- memory ran out.
abbrev pub IsNoPart : List ℕ → List ℕ → PartError → SurveyFailure → Type 0
IsNoPart name first error (Refused line) = IsPartLine name first error (string_bytes line)
IsNoPart name first error Memory = ⊤
IsNoPart name first error _ = ⊥

-- States that one of the files that are summed has this name.
abbrev pub IsNameIn : Merge → List ℕ → Type 0
IsNameIn m name = Any (λ own. string_bytes own ≡ name) m.names.items

-- States that the file at this index of the list has this name.
abbrev pub IsNameAt : Merge → ℕ → List ℕ → Type 0
IsNameAt m place name = (own : String Global) × (place < length m.names.items)
    × (get_or m.names.items place own ≡ own) × (string_bytes own ≡ name)

-- Defines which file sets the family of the survey, and by which head (its first line). `texts` are the files before
-- `name`. It is the first of them that is not empty, or `name` itself if all are empty and there is no head yet.
pub data IsFirst (m : Merge) (texts : List (List ℕ)) (name : List ℕ) : List ℕ → List ℕ → Type 0 where
  itself : All (λ text. text ≡ []) texts → IsFirst m texts name [] name
  earlier : (empty rest : List (List ℕ)) (text head first : List ℕ) → texts ≡ empty ++ text ∷ rest
      → All (λ t. t ≡ []) empty → text ≢ [] → IsNameAt m (length empty) first → IsFirst m texts name head first

-- States that a file is rejected, and that this line reports why. The files before it are parts of one survey, and
-- `error` says what is wrong with its text.
pub record IsRefusedFile (m : Merge) (line : List ℕ) : Type 0 where
  pub texts : List (List ℕ)
  pub parts : List (List Finding)
  pub head : List ℕ
  pub each : AllZip (IsPart head) texts parts
  pub name : List ℕ
  pub named : IsNameAt m (length texts) name
  pub first : List ℕ
  pub begins : IsFirst m texts name head first
  pub text : List ℕ
  pub error : PartError
  pub after : List ℕ
  pub found : List Finding
  pub wrong : IsFaulty head after text (span_of m.seeds).0 (span_of m.seeds).1 (joined parts) found error
  pub told : IsPartLine name first error line

-- States that this failure can occur while the files are read: one of them cannot be read, a line is rejected, or
-- memory ran out.
abbrev pub IsUntold : Merge → SurveyFailure → Type 0
IsUntold m (Unread name) = IsNameIn m (string_bytes name)
IsUntold m (Refused line) = IsRefusedFile m (string_bytes line)
IsUntold m Memory = ⊤
IsUntold m _ = ⊥

-- States that this failure can keep `--sum` from being finished: it occurs while the files are read, or standard output
-- cannot be written.
abbrev pub IsUnsummed : Merge → SurveyFailure → Type 0
IsUnsummed m (Unwritten None) = ⊤
IsUnsummed m (Unwritten (Some name)) = ⊥
IsUnsummed m fault = IsUntold m fault
