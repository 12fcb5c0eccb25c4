-- How the reader checks the label in a line, number by number.
use Rattle.std.specs.Prelude.{ℕ, ◌==◌, ◌&&◌, not, nat_lt, nat_le, if◌then◌else◌, List, [], ◌∷◌, ◌++◌, length, Option, Some, None, Result, Ok, Err}
use Rattle.text.specs.Options.{◌>>=◌}
use Rattle.text.specs.Stop.{space, dot}
use Rattle.text.specs.Parts.{pieces}
use Rattle.text.specs.Number.{decimal_of}
use Rattle.label.specs.Labels.{on}
use Rattle.book.specs.declared.fault.TableFault.{TableFault}
use Rattle.book.specs.declared.fault.TableFault.TheVariants.{Line, Place}
use Rattle.book.specs.Table.{MessageTable}
use Rattle.book.specs.Grammar.{numbers_of, tell_parts, order_in}

-- Returns the label `w` extended by these generals. There is none if a number is not a general or is already on the
-- label, or if the label gets more than `m + 1` generals.
unfoldable pub prolonged_label : ℕ → ℕ → List ℕ → List ℕ → Option (List ℕ)
prolonged_label n m w [] = Some w
prolonged_label n m w (j ∷ js) =
    if nat_le (length w) m && nat_lt j n && not (on w j) then prolonged_label n m (w ++ j ∷ []) js else None

-- Returns the label that these numbers are. The first must be the commander.
unfoldable pub begun_label : MessageTable → List ℕ → Option (List ℕ)
begun_label t [] = None
begun_label t (c ∷ js) = if c == t.commander then prolonged_label t.generals t.bound (t.commander ∷ []) js else None

-- Returns the label that these numbers are, or `None` if they are no label of the campaign or `p` is not a receiver of
-- it.
unfoldable pub placed_label : MessageTable → List ℕ → ℕ → Option (List ℕ)
placed_label t w p = if nat_lt p t.generals then (begun_label t w >>= λ v. if on v p then None else Some v) else None

-- Returns the label, or the fault `Place` if there is none.
abbrev pub label_or : Option (List ℕ) → Result (List ℕ) TableFault
label_or None = Err Place
label_or (Some w) = Ok w

-- Returns the label of a word that was split into numbers. The fault is `Line` if it does not consist of numbers, and
-- `Place` if they are not a label.
abbrev pub numbers_or : (List ℕ → Option (List ℕ)) → Option (List ℕ) → Result (List ℕ) TableFault
numbers_or label None = Err Line
numbers_or label (Some ns) = label_or (label ns)

-- Returns the label that a word of a line is, or its fault.
unfoldable pub label_read : MessageTable → List ℕ → Result (List ℕ) TableFault
label_read t part = numbers_or (begun_label t) (numbers_of (pieces dot part))

-- Returns the word for the label of a line, its receiver and its order.
unfoldable pub shape_of : List ℕ → Option (List ℕ × ℕ × ℕ)
shape_of line = tell_parts (pieces space line) >>= λ parts. decimal_of parts.1 >>= λ p. order_in parts.2 >>= λ v. Some
    (parts.0, p, v)
