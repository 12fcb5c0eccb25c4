-- Defines the sentences that describe statuses and faults for C.
use Rattle.std.specs.Prelude.{ℕ, ◌-◌, ◌==◌, if◌then◌else◌, List, [], ◌∷◌, codes, slice_index_or}
use Rattle.capi.specs.Objects.{object_message}

-- The sentences for the statuses, from 0 on.
abbrev pub statuses : List (List ℕ)
statuses =
    codes "the call has done its work"
    ∷ codes "the bytes spell no program"
    ∷ codes "the program is rejected"
    ∷ codes "out of memory"
    ∷ codes "the context has the wrong length"
    ∷ codes "no program is loaded"
    ∷ codes "a helper is called that is not allowed"
    ∷ codes "the object has no program for this entry"
    ∷ codes "the buffer is too short for the program"
    ∷ []

-- The sentences for the faults of bytecode, by their numbers. No fault has number 0.
abbrev pub misspellings : List (List ℕ)
misspellings =
    []
    ∷ codes "the length is not a multiple of 8"
    ∷ codes "no instruction has this opcode"
    ∷ codes "an unused field, or a reserved bit of a wide instruction, is not zero"
    ∷ codes "the second half of a wide instruction is missing"
    ∷ codes "a register above r10 is used"
    ∷ codes "this instruction of the standard is not supported"
    ∷ codes "an operand that selects the instruction has a wrong value"
    ∷ codes "a program has 1 to 4,096 units"
    ∷ []

-- The sentences for the reasons why the verifier rejects a program. Reason V1, which has number 101 in C, is at index
-- 1.
abbrev pub rejections : List (List ℕ)
rejections =
    []
    ∷ codes "a jump leads to its own unit or backward"
    ∷ codes "a jump leads past the end"
    ∷ codes "a jump leads into the second half of a wide instruction"
    ∷ codes "the last instruction is not the exit"
    ∷ codes "a register is read that may be unset, or of different kinds on different paths"
    ∷ codes "the frame pointer is written"
    ∷ codes "a pointer is misused, or a number is used as an address"
    ∷ codes "an access may leave its region"
    ∷ codes "a stack cell is read that may be unset"
    ∷ codes "the context is written"
    ∷ codes "a helper is called that does not exist"
    ∷ codes "a helper is called with an argument that it does not accept"
    ∷ codes "the program ends with a pointer in r0"
    ∷ []

-- Returns the sentence that describes a status. For status 1 and 2, a rejected program, and 7, an object without the
-- program, it describes instead the fault with this number. The sentence is empty if there is no such status or fault.
abbrev pub message : ℕ → ℕ → List ℕ
message status number =
    if status == 1 then slice_index_or misspellings number []
    else if status == 2 then slice_index_or rejections (number - 100) []
    else if status == 7 then object_message number
    else slice_index_or statuses status []
