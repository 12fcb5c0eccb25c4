-- Edits that may mend a fault. One is offered as a help only if the verifier gets past the rejected instruction in the
-- edited program (own).
use Rattle.std.specs.Prelude.{ℕ, ℤ, zero, suc, pos, ◌+◌, ◌==◌, if◌then◌else◌, List, [], ◌∷◌, ◌++◌, Option, Some, None, option_and_then, codes, decimal, map, slice_get}
use Rattle.word.specs.declared.Width.TheVariants.{W64}
use Rattle.word.specs.declared.Operation.TheVariants.{Add, And, Move}
use Rattle.insn.specs.declared.insn.Insn.{Insn}
use Rattle.insn.specs.declared.insn.Insn.TheVariants.{Arithmetic, Exit}
use Rattle.insn.specs.declared.insn.Operand.TheVariants.{Register, Immediate}
use Rattle.insn.specs.Program.{instruction_at}
use Rattle.asm.specs.Printing.{insn_text}
use Rattle.absval.specs.declared.value.AbsVal.{AbsVal}
use Rattle.absval.specs.declared.value.AbsVal.TheVariants.{Number}
use Rattle.reaching.specs.declared.mark.UnitMark.{UnitMark}
use Rattle.reaching.specs.declared.edits.Edit.{Edit}
use Rattle.reaching.specs.declared.edits.Edit.TheVariants.{Before, Instead, Moved}
use Rattle.reaching.specs.declared.edits.Trial.{Trial}
use Rattle.reaching.specs.declared.edits.Trial.TheVariants.{Refused, Passes, Accepted}
use Rattle.reaching.specs.Marks.{is_open}
use Rattle.reaching.specs.Mends.{grown, wide, tried}
use Rattle.explain.specs.declared.sentence.Sentence.{Sentence}
use Rattle.explain.specs.declared.sentence.Sentence.TheVariants as sentence
use Rattle.explain.specs.declared.sentence.RegisterMisuse.{RegisterMisuse}
use Rattle.explain.specs.declared.sentence.RegisterMisuse.TheVariants as misuse
use Rattle.explain.specs.declared.sentence.AccessMisuse.{AccessMisuse}
use Rattle.explain.specs.declared.sentence.AccessMisuse.TheVariants as access
use Rattle.explain.specs.declared.sentence.Misfit.{Misfit}
use Rattle.explain.specs.declared.sentence.Misfit.TheVariants as misfit
use Rattle.explain.specs.Origins.{last_set}
use Rattle.explain.specs.declared.edit_choices.Choice.{Choice}
use Rattle.explain.specs.declared.edit_choices.Choice.TheVariants.{Mask, One, Either, Exchanged}

-- ---- which edits are tried for a sentence, and at which unit

-- Chooses to mask register `r` before the instruction at `unit`.
abbrev pub mask_at : ℕ → ℕ → Option (ℕ × Choice)
mask_at unit r = Some (unit, Mask r)

-- Chooses to mask the number by which the instruction at `unit` moves a pointer, if it is in a register.
abbrev pub moving_mask : ℕ → Insn → Option (ℕ × Choice)
moving_mask unit (Arithmetic w operation dst (Register src)) = mask_at unit src
moving_mask unit i = None

-- Chooses to add the number to the pointer, instead of the pointer to the number.
abbrev pub exchanged : ℕ → Insn → Option (ℕ × Choice)
exchanged unit (Arithmetic W64 Add dst (Register src)) = Some (unit, Exchanged dst src)
exchanged unit i = None

-- Returns the register to which an instruction copies all 64 bits of register `r`, if it does.
abbrev pub copy_of : ℕ → Insn → Option ℕ
copy_of r (Arithmetic W64 Move dst (Register src)) = if src == r then Some dst else None
copy_of r i = None

-- Returns the register to which the instruction at `unit` copies `r`, if a path leads from it to the rejected
-- instruction on which `r` is not set.
abbrev pub copy_at : List Insn → List UnitMark → ℕ → ℕ → Option ℕ
copy_at program marks r unit =
    if is_open (slice_get marks unit) then option_and_then (copy_of r) (instruction_at program unit) else None

-- Returns the first register if there is one, and otherwise the second.
abbrev pub or_else : Option ℕ → Option ℕ → Option ℕ
or_else (Some copy) other = Some copy
or_else None other = other

-- Returns the register to which `r` was last copied below unit `n`, of the copies from which a path leads to the
-- rejected instruction on which `r` is not set.
unfoldable pub last_copy : List Insn → List UnitMark → ℕ → ℕ → Option ℕ
last_copy program marks r zero = None
last_copy program marks r (suc n) = or_else (copy_at program marks r n) (last_copy program marks r n)

-- Chooses edits for a sum or difference of a pointer and the number in `r`: to use the copy of the number, which the
-- program may have tested, or else to mask the number. Without a copy, only the mask is tried.
abbrev pub by_copy : ℕ → Insn → ℕ → Option ℕ → Option (ℕ × Choice)
by_copy unit (Arithmetic w operation dst operand) r (Some copy) =
    Some (unit, Either (Instead operation dst (Register copy)) r)
by_copy unit i r copy = mask_at unit r

-- Chooses to set r0 to 0 before the instruction at `unit`.
abbrev pub zero_before : ℕ → Option (ℕ × Choice)
zero_before unit = Some (unit, One (Before Move 0 (Immediate (pos 0))))

-- Chooses to set r0 to 0 before the instruction at `unit`, if it is the exit.
abbrev pub zero_at_exit : ℕ → Insn → Option (ℕ × Choice)
zero_at_exit unit Exit = zero_before unit
zero_at_exit unit i = None

-- Chooses edits for a register that the instruction at `unit` misuses.
abbrev pub for_misuse : List Insn → List UnitMark → ℕ → Insn → RegisterMisuse → Option (ℕ × Choice)
for_misuse program marks unit i (misuse.EitherSign r value) = by_copy unit i r (last_copy program marks r unit)
for_misuse program marks unit i (misuse.Far r region span) = moving_mask unit i
for_misuse program marks unit i (misuse.Computed r value) = exchanged unit i
for_misuse program marks unit i (misuse.Exit value) = zero_before unit
for_misuse program marks unit i (misuse.Unset r) = zero_at_exit unit i
for_misuse program marks unit i m = None

-- Chooses to mask an argument that may be too large, if it is a number.
abbrev pub for_argument : ℕ → ℕ → AbsVal → Option (ℕ × Choice)
for_argument unit r (Number n) = mask_at unit r
for_argument unit r value = None

-- Chooses edits for a call that does not fit its helper.
abbrev pub for_misfit : ℕ → Misfit → Option (ℕ × Choice)
for_misfit unit (misfit.Above called r value most) = for_argument unit r value
for_misfit unit m = None

-- Chooses to mask the number by which the instruction at `unit` moves a pointer.
abbrev pub moved_at : List Insn → ℕ → Option (ℕ × Choice)
moved_at program unit = option_and_then (moving_mask unit) (instruction_at program unit)

-- Chooses edits for an access outside its region: to mask the number that last moved the pointer.
abbrev pub for_access : List Insn → List UnitMark → ℕ → AccessMisuse → Option (ℕ × Choice)
for_access program marks unit (access.Outside r region span) = option_and_then (moved_at program) (last_set marks unit)
for_access program marks unit a = None

-- Chooses the edits to try for a sentence, and the unit at which they are made.
abbrev pub wanted : List Insn → List UnitMark → ℕ → Insn → Sentence → Option (ℕ × Choice)
wanted program marks unit i (sentence.Structure s) = None
wanted program marks unit i (sentence.Register m) = for_misuse program marks unit i m
wanted program marks unit i (sentence.Memory a) = for_access program marks unit a
wanted program marks unit i (sentence.Call m) = for_misfit unit m

-- ---- how the edits are tried

-- The masks, the widest first.
abbrev pub masks : List ℕ
masks = 63 ∷ 31 ∷ 15 ∷ 7 ∷ 3 ∷ 1 ∷ []

-- Returns the edits that insert a mask of register `r`.
abbrev pub masks_of : ℕ → List Edit
masks_of r = map (λ m. Before And r (Immediate (pos m))) masks

-- Returns the edits that mask a number and add it to a pointer, instead of the pointer to the number.
abbrev pub moves_of : ℕ → ℕ → List Edit
moves_of number pointer = map (λ m. Moved (Some (pos m)) number pointer) masks

-- Returns the edits of a choice, in the order in which they are tried.
abbrev pub edits_of : Choice → List Edit
edits_of (Mask r) = masks_of r
edits_of (One edit) = edit ∷ []
edits_of (Either edit r) = edit ∷ masks_of r
edits_of (Exchanged number pointer) =
    Instead Add pointer (Register number) ∷ Moved None number pointer ∷ moves_of number pointer

-- An edit, and how far the verifier gets with it.
abbrev pub Help : Type 0
Help = Edit × Trial

-- Returns the other edit if the program is accepted with it, and otherwise this one, with which the verifier only gets
-- past the fault.
abbrev pub accepted_or : Edit → Option Help → Option Help
accepted_or edit (Some (other, Accepted)) = Some (other, Accepted)
accepted_or edit rest = Some (edit, Passes)

-- Returns the better of an edit and the best of the later ones: the first with which the program is accepted, or else
-- the first with which the verifier gets past the fault.
abbrev pub better : Edit → Trial → Option Help → Option Help
better edit Accepted rest = Some (edit, Accepted)
better edit Passes rest = accepted_or edit rest
better edit Refused rest = rest

-- Returns the first edit with which the program is accepted, or else the first with which the verifier gets past the
-- rejected instruction. The edit is made at `place`, and may move that instruction, at `unit`, one unit further.
abbrev pub best : List Insn → ℕ → ℕ → List Edit → Option Help
best program place unit [] = None
best program place unit (edit ∷ edits) =
    better edit (tried edit place program (unit + grown edit)) (best program place unit edits)

-- ---- text

-- Writes an instruction in backquotes.
unfoldable pub quoted : Insn → List ℕ
quoted i = codes "`" ++ insn_text i ++ codes "`"

-- Writes the instruction that masks a number, if there is a mask.
abbrev pub mask_text : Option ℤ → ℕ → List ℕ
mask_text None number = []
mask_text (Some mask) number = quoted (wide And number (Immediate mask)) ++ codes ", "

-- Writes two instructions: the sum of a number and a pointer, in the pointer's register, and a copy of it in the
-- number's register.
unfoldable pub sum_text : ℕ → ℕ → List ℕ
sum_text number pointer =
    quoted (wide Add pointer (Register number)) ++ codes " and " ++ quoted (wide Move number (Register pointer))

-- Writes the instructions of an edit, and whether they come before a unit or replace it. The unit's number must follow.
abbrev pub edit_text : Edit → List ℕ
edit_text (Before operation dst operand) = quoted (wide operation dst operand) ++ codes " before"
edit_text (Instead operation dst operand) = quoted (wide operation dst operand) ++ codes " in place of"
edit_text (Moved mask number pointer) = mask_text mask number ++ sum_text number pointer ++ codes " in place of"

-- Writes how far the verifier gets with an edit.
abbrev pub trial_text : Trial → List ℕ
trial_text Accepted = codes " the program is accepted"
trial_text Passes = codes " this passes"
trial_text Refused = []

-- Writes the help line, if an edit helps.
abbrev pub told_help : ℕ → Option Help → List ℕ
told_help place None = []
told_help place (Some help) =
    codes "\nhelp: with " ++ edit_text help.0 ++ codes " unit " ++ decimal place ++ trial_text help.1

-- Writes the help line for the best of the edits to try, if there are any.
abbrev pub help_on : List Insn → ℕ → Option (ℕ × Choice) → List ℕ
help_on program unit None = []
help_on program unit (Some want) = told_help want.0 (best program want.0 unit (edits_of want.1))
