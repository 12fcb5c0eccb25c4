-- The operands of instructions: registers, numbers, memory operands and jump targets.
use Rattle.std.specs.Prelude.{ℕ, ◌-◌, ◌^◌, List, [], ◌∷◌, Bool, true, false, ◌==◌, ◌&&◌, ◌||◌, nat_lt, if◌then◌else◌, Option, Some, None, length, drop, take, slice_index}
use Rattle.text.specs.declared.stop.Stop.TheVariants.{Sign}
use Rattle.text.specs.Options.{◌>>=◌}
use Rattle.text.specs.Stop.{is_within}
use Rattle.text.specs.Parts.{before, from}
use Rattle.text.specs.Number.{magnitude_of}
use Rattle.insn.specs.declared.insn.Operand.{Operand}
use Rattle.insn.specs.declared.insn.Operand.TheVariants.{Register, Immediate}
use Rattle.asm.specs.declared.number.Number.{Number}
use Rattle.asm.specs.declared.operand.Raw.{Raw}
use Rattle.asm.specs.declared.operand.Raw.TheVariants as raws
use Rattle.asm.specs.Number.{number_of, signed_within}

-- Returns the register that a text is, `r0` to `r10`.
unfoldable pub register_of : List ℕ → Option ℕ
register_of [] = None
register_of (r ∷ []) = None
register_of (r ∷ a ∷ []) = if r == 114 && is_within 48 57 a then Some (a - 48) else None
register_of (r ∷ a ∷ b ∷ []) = if r == 114 && a == 49 && b == 48 then Some 10 else None
register_of (r ∷ a ∷ b ∷ c ∷ rest) = None

-- Returns the operand that a text is: a register or a number.
unfoldable pub raw_of : List ℕ → Option Raw
raw_of text = if slice_index text 0 == 114 then (register_of text >>= λ r. Some (raws.Register r))
    else (number_of text >>= λ n. Some (raws.Number n))

-- Returns the operand for an instruction. A number must fit in 32 bits.
unfoldable pub fitted : Raw → Option Operand
fitted (raws.Register r) = Some (Register r)
fitted (raws.Number n) = signed_within (2 ^ 31) n >>= λ z. Some (Immediate z)

-- Returns the number that a text such as `+8` or `-8` is.
unfoldable pub signed_of : List ℕ → Option Number
signed_of text =
    if slice_index text 0 == 43
    then (magnitude_of (drop 1 text) >>= λ n. Some (record { negative = false; magnitude = n }))
    else if slice_index text 0 == 45
    then (magnitude_of (drop 1 text) >>= λ n. Some (record { negative = true; magnitude = n }))
    else None

-- Returns the offset that a text such as `+8` or `-8` is. An empty text means 0.
abbrev pub offset_of : List ℕ → Option Number
offset_of text = if length text == 0 then Some (record { negative = false; magnitude = 0 }) else signed_of text

-- Returns the text between square brackets.
abbrev pub inside : List ℕ → Option (List ℕ)
inside text =
    if nat_lt (length text) 2 then None
    else if slice_index text 0 == 91 && slice_index text (length text - 1) == 93
    then Some (take (length text - 2) (drop 1 text)) else None

-- Returns the register and the offset of a memory operand such as `[r1]`, `[r1+8]` or `[r10-8]`.
unfoldable pub place_of : List ℕ → Option (ℕ × Number)
place_of text =
    inside text >>= λ inner. register_of (before Sign inner) >>= λ r. offset_of (from Sign inner) >>= λ n. Some (r, n)

-- Returns whether the byte is a letter or `_`.
abbrev pub is_letter : ℕ → Bool
is_letter c = is_within 97 122 c || is_within 65 90 c || c == 95

-- Returns whether the text has only letters, digits and `_`.
abbrev pub are_name : List ℕ → Bool
are_name [] = true
are_name (c ∷ cs) = (is_letter c || is_within 48 57 c) && are_name cs

-- Returns whether the text is a name: a letter or `_`, then letters, digits or `_`.
abbrev pub is_name : List ℕ → Bool
is_name text = is_letter (slice_index text 0) && are_name text

-- The target of a jump: a distance in units, or a name.
pub data Goal : Type 0 where
  Away : Number → Goal
  Named : List ℕ → Goal

-- Returns the jump target that a text is: a name, or a distance such as `+2`.
unfoldable pub goal_of : List ℕ → Option Goal
goal_of text = if is_letter (slice_index text 0) then (if are_name text then Some (Named text) else None)
    else (signed_of text >>= λ n. Some (Away n))
