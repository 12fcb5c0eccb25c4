-- The helper calls of a program with the helpers' names, as assembly writes them.
use Rattle.std.specs.Prelude.{ℕ, List, [], ◌++◌, codes, Option, None, Some}
use Rattle.explain.specs.Names.{helper_name}
use Rattle.explain.specs.Units.{Writing}
use Rattle.insn.specs.declared.insn.Insn.{Insn}
use Rattle.insn.specs.declared.insn.Insn.TheVariants.{Call}
use Rattle.insn.specs.Program.{instruction_at}
use Rattle.semantics.specs.Call.{helper_of}
use Rattle.semantics.specs.declared.request.Helper.{Helper}

-- Writes a call of the helper, such as `call sway`. If there is no such helper, writes nothing, so that the call is
-- written with its number.
abbrev pub call_of : Option Helper → List ℕ
call_of None = []
call_of (Some helper) = codes "call " ++ helper_name helper

-- Writes an instruction that is a call of a helper, such as `call sway`. Writes nothing for another instruction, which
-- is written as usual.
abbrev pub call_text : Insn → List ℕ
call_text (Call number) = call_of (helper_of number)
call_text _ = []

abbrev pub call_if : Option Insn → List ℕ
call_if None = []
call_if (Some i) = call_text i

-- Returns for each unit of a program the text of its call, such as `call sway`, or an empty text.
unfoldable pub named_calls : List Insn → Writing
named_calls program unit = ([], call_if (instruction_at program unit))
