-- The line of one step in a trace: the instruction, what it read, and what it wrote.
use Rattle.std.specs.Prelude.{ℕ, zero, suc, List, [], ◌∷◌, ◌++◌, codes, decimal, slice_index, Option, Some, None}
use Rattle.insn.specs.declared.insn.Insn.{Insn}
use Rattle.insn.specs.declared.insn.Insn.TheVariants.{Arithmetic, Negate, SignExtend, Swap, LoadImmediate, Jump, LongJump, Branch, Load, LoadSigned, Store, Call, Exit}
use Rattle.semantics.specs.declared.value.Value.{Value}
use Rattle.semantics.specs.declared.request.Request.{Request}
use Rattle.board.specs.Wording.{span_asked}
use Rattle.semantics.specs.State.{value_at}
use Rattle.asm.specs.Printing.{insn_text}
use Rattle.helper.specs.Reads.{read_by}
use Rattle.trial.specs.Values.{register_told, place_told}

-- The definitions down to `before_told` write the first part of the line, with the state before the step.

-- Writes a register that an instruction reads and its value, such as ` ; r1 5`.
abbrev pub read_told : List Value → Option ℕ → List ℕ
read_told registers None = []
read_told registers (Some r) = codes " ; " ++ register_told registers r

-- Writes the registers that an instruction reads, at most three, and their values.
abbrev pub reads_told : List Value → List (Option ℕ) → List ℕ
reads_told registers (first ∷ second ∷ third ∷ []) =
    read_told registers first ++ read_told registers second ++ read_told registers third
reads_told registers _ = []

-- Writes where an instruction stores, such as ` -> stack -8`, or nothing if it is not a store.
abbrev pub stored_told : List Value → Insn → List ℕ
stored_told registers (Store size base offset source) = place_told offset (value_at registers base)
stored_told registers i = []

-- Writes the first part of the line: the unit, the instruction, the registers that it reads, and where it stores.
abbrev pub before_told : ℕ → List Value → Insn → List ℕ
before_told unit registers i =
    decimal unit ++ codes " " ++ insn_text i ++ reads_told registers (read_by i) ++ stored_told registers i

-- The remaining definitions write the second part of the line, with the state after the step.

-- Writes a register that an instruction wrote and its value, such as ` -> r0 1`.
abbrev pub wrote : List Value → ℕ → List ℕ
wrote registers r = codes " -> " ++ register_told registers r

-- Writes the unit at which the program continues after a jump, such as ` -> unit 7`.
abbrev pub went : ℕ → List ℕ
went unit = codes " -> unit " ++ decimal unit

-- Writes the second part of the line: the register that the instruction wrote (r0 for a call), or the unit after a
-- jump.
abbrev pub after_told : ℕ → List Value → Insn → List ℕ
after_told unit registers (Arithmetic w operation dst operand) = wrote registers dst
after_told unit registers (Negate w dst) = wrote registers dst
after_told unit registers (SignExtend w part dst src) = wrote registers dst
after_told unit registers (Swap order size dst) = wrote registers dst
after_told unit registers (LoadImmediate dst number) = wrote registers dst
after_told unit registers (Load size dst base offset) = wrote registers dst
after_told unit registers (LoadSigned part dst base offset) = wrote registers dst
after_told unit registers (Call helper) = wrote registers 0
after_told unit registers (Jump distance) = went unit
after_told unit registers (LongJump distance) = went unit
after_told unit registers (Branch w condition dst operand distance) = went unit
after_told unit registers (Store size base offset source) = []
after_told unit registers Exit = []

-- Writes the board's word with index `slot` and its values before (`words`) and after (`left`) a request.
abbrev pub word_told : ℕ → List ℕ → List ℕ → List ℕ
word_told slot words left =
    codes " ; word " ++ decimal slot ++ codes " " ++ decimal (slice_index words slot) ++ codes " to "
    ++ decimal (slice_index left slot)

-- Writes n words of the board from index `slot` on, and their values before (`words`) and after (`left`) a request.
unfoldable pub words_told : ℕ → ℕ → List ℕ → List ℕ → List ℕ
words_told slot zero words left = []
words_told slot (suc n) words left = word_told slot words left ++ words_told (suc slot) n words left

-- Writes the words of the board that a request uses, and their values before (`words`) and after (`left`) it.
abbrev pub request_told : Request → List ℕ → List ℕ → List ℕ
request_told request words left = let span = span_asked request in words_told span.0 span.1 words left
