-- How the values of the assembler's code relate to the definitions.
use Rattle.std.specs.Prelude.{ℕ, ◌≡◌, List, map, Option, Some, None, Result, Ok, Err}
use Rattle.std.proofs.Common.{Bor}
use Rattle.std.specs.Option.{ok_or}
use Rattle.asm.specs.declared.fault.AsmFault.{AsmFault}
use Rattle.asm.specs.declared.fault.AsmFault.TheVariants as faults
use Rattle.asm.specs.declared.fault.LineError.{LineError}
use Rattle.asm.specs.declared.fault.LineError.TheVariants as failures
use Rattle.asm.specs.declared.operand.Aim.{Aim}
use Rattle.asm.specs.declared.operand.Aim.TheVariants as aims
use Rattle.asm.specs.declared.draft.DraftInstruction.{DraftInstruction}
use Rattle.asm.specs.declared.draft.DraftInstruction.TheVariants as drafts
use Rattle.asm.specs.declared.draft.Statement.{Statement}
use Rattle.asm.specs.declared.draft.Kept.{Kept}
use Rattle.asm.specs.Operand.{Goal, Away, Named}
use Rattle.asm.specs.Statement.{Source, Plain, Jump, LongJump, Branch}
use Rattle.asm.specs.Line.{Outline}
use Rattle.asm.specs.Program.{Placed}

-- States that the code's option is the defined one, if `view` is applied to its value.
abbrev pub GivesOption : {X Y : Type 0} → (X → Y) → Option X → Option Y → Type 0
GivesOption view None read = read ≡ None
GivesOption view (Some x) read = read ≡ Some (view x)

-- States that the code's result is the defined one, if `view` is applied to its value. Errors are the same.
abbrev pub GivesResult : {X Y E : Type 0} → (X → Y) → Result X E → Result Y E → Type 0
GivesResult view (Err e) read = read ≡ Err e
GivesResult view (Ok x) read = read ≡ Ok (view x)

-- States that the error is the defined fault, or out of memory.
abbrev pub Fails : {Y : Type 0} → LineError → Result Y AsmFault → Type 0
Fails failures.Memory read = Unit {0}
Fails (failures.Fault f) read = read ≡ Err f

-- Returns the target of a jump. If it is a name, the code stores the name separately.
abbrev pub aim_view : Aim → List ℕ → Goal
aim_view (aims.Away n) name = Away n
aim_view aims.Named name = Named name

-- Returns an instruction. If it jumps to a name, the code stores the name separately.
abbrev pub draft_view : DraftInstruction → List ℕ → Source
draft_view (drafts.Plain insn) name = Plain insn
draft_view (drafts.Jump aim) name = Jump (aim_view aim name)
draft_view (drafts.LongJump aim) name = LongJump (aim_view aim name)
draft_view (drafts.Branch width condition dst operand aim) name = Branch width condition dst operand (aim_view aim name)

-- Returns an instruction, with the name that the code stores next to it.
abbrev pub source_view : Statement → Source
source_view s = draft_view s.draft s.name.now

-- Returns a stored instruction and its line.
abbrev pub kept_view : Kept → Placed
kept_view kept = record { source = source_view kept.statement; line = kept.line }

-- Returns the instruction, if there is one.
abbrev pub statement_view : Option Statement → Option Source
statement_view None = None
statement_view (Some s) = Some (source_view s)

-- States that the code has found the defined words or, if there are none, fails with the fault `Line` (A1) or is out of
-- memory.
abbrev pub GivesWords : {X : Type 0} → List (Bor (List ℕ)) → Result X LineError → Option (List (List ℕ)) → Type 0
GivesWords words (Err e) read = Fails e (ok_or read faults.Line)
GivesWords words (Ok x) read = read ≡ Some (map (λ r. r.now) words)

-- Returns the bytes of the name, if there is one.
abbrev pub name_view : Option (Bor (List ℕ)) → Option (List ℕ)
name_view None = None
name_view (Some name) = Some name.now

-- States that the code has found what the line contains or, if the line has a wrong form, fails with the fault `Line`
-- (A1) or is out of memory.
abbrev pub GivesOutline : List (Bor (List ℕ)) → Result (Option (Bor (List ℕ))) LineError → Option Outline → Type 0
GivesOutline words (Err e) read = Fails e (ok_or read faults.Line)
GivesOutline words (Ok name) read = read ≡ Some (record { name = name_view name; words = map (λ r. r.now) words })
