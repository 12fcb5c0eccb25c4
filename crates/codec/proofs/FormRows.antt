-- The table of opcodes, row by row.
use Rattle.std.proofs.Common.{◌≡◌, ◌<◌, ℕ, List, map, get_or, sym, ap, subst, ◌∙◌, arith}
use Rattle.std.specs.List.{range_with_len}
use Rattle.std.proofs.lemmas.List.FromFn.{get_or-map-range_with_len}
use Rattle.codec.specs.declared.form.Form.{Form}
use Rattle.codec.specs.Form.{form_of, IsOpcode}
use Rattle.codec.proofs.OpcodeLaws.{form_opcode}

-- If the rows are right, each entry of the table is.
pub row_form : (rows : List Form) (n : ℕ) (d : Form) → rows ≡ map form_of (range_with_len 0 256) → n < 256 → get_or rows n d ≡ form_of n
row_form rows n d are few = ap (λ (r : List Form). get_or r n d) are ∙ get_or-map-range_with_len form_of 0 256 n n d few (omega arith)

-- Each row has the opcode of its kind of instruction.
pub row_opcode : (rows : List Form) (n : ℕ) (d : Form) → rows ≡ map form_of (range_with_len 0 256) → n < 256 → IsOpcode (get_or rows n d) n
row_opcode rows n d are few = subst (λ (form : Form). IsOpcode form n) (sym (row_form rows n d are few)) (form_opcode n)
