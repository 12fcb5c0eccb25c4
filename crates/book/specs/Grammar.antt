-- The text of a message table: a line with the campaign's numbers and its rule, then a line for each message.
use Rattle.std.specs.Prelude.{ℕ, suc, ◌+◌, ◌^◌, ◌&&◌, not, nat_lt, nat_le, Bool, if◌then◌else◌, List, [], ◌∷◌, ◌++◌, length, bytes_eq, codes, Option, Some, None, Result, Ok, Err}
use Rattle.std.specs.List.{list_all, list_any}
use Rattle.combine.specs.declared.campaign_rule.Rule.{Rule}
use Rattle.combine.specs.Names.{default_rule, rule_named}
use Rattle.text.specs.Options.{◌>>=◌}
use Rattle.text.specs.Stop.{space, dot}
use Rattle.text.specs.Parts.{pieces, lines_of}
use Rattle.text.specs.Number.{decimal_of}
use Rattle.label.specs.Labels.{on, is_distinct}
use Rattle.label.specs.Space.{begins_with}
use Rattle.book.specs.declared.message.Message.{Message}
use Rattle.book.specs.declared.fault.TableFault.{TableFault}
use Rattle.book.specs.declared.fault.TableFault.TheVariants.{Line, Range, Place, Twice}
use Rattle.book.specs.declared.fault.TableError.{TableError}
use Rattle.book.specs.declared.fault.TableError.TheVariants.{At}
use Rattle.book.specs.Table.{MessageTable, is_about}

-- Returns the rule named at the end of a first line, or the default rule if none is named.
abbrev pub rule_parts : List (List ℕ) → Option Rule
rule_parts [] = Some default_rule
rule_parts (word ∷ name ∷ []) = if bytes_eq word (codes "rule") then rule_named name else None
rule_parts _ = None

-- Returns the words for the three numbers in `generals N bound M commander C`, and the rule that may follow as `rule
-- NAME`.
abbrev pub head_parts : List (List ℕ) → Option (List ℕ × List ℕ × List ℕ × Rule)
head_parts (first ∷ n ∷ second ∷ m ∷ third ∷ c ∷ rest) =
    if bytes_eq first (codes "generals") && bytes_eq second (codes "bound") && bytes_eq third (codes "commander")
    then (rule_parts rest >>= λ rule. Some (n, m, c, rule)) else None
head_parts _ = None

-- Returns the three numbers of a first line and its rule, or `None` if the line does not have the required form.
unfoldable pub head_of : List ℕ → Option (ℕ × ℕ × ℕ × Rule)
head_of line = head_parts (pieces space line) >>= λ parts. decimal_of parts.0 >>= λ n. decimal_of parts.1 >>= λ m.
    decimal_of parts.2 >>= λ c. Some (n, m, c, parts.3)

-- Checks whether a campaign's numbers are within their limits: 2 to 13 generals, a bound of 0 to 4 that is at most the
-- number of generals minus 2, and a commander who is one of the generals.
abbrev pub is_within : ℕ → ℕ → ℕ → Bool
is_within n m c = nat_le n 13 && nat_le m 4 && nat_le (m + 2) n && nat_lt c n

-- Returns the table of a first line, without messages, or the fault of the line.
abbrev pub opened : Option (ℕ × ℕ × ℕ × Rule) → Result MessageTable TableError
opened None = Err (At Line 1)
opened (Some head) =
    if is_within head.0 head.1 head.2
    then Ok (record { generals = head.0; bound = head.1; commander = head.2; rule = head.3; messages = [] })
    else Err (At Range 1)

-- Returns the words for the label, the receiver and the order in a line `tell LABEL RECEIVER V`.
abbrev pub tell_parts : List (List ℕ) → Option (List ℕ × List ℕ × List ℕ)
tell_parts (word ∷ label ∷ receiver ∷ order ∷ []) =
    if bytes_eq word (codes "tell") then Some (label, receiver, order) else None
tell_parts _ = None

-- Returns the decimal numbers that these words are, or `None` if one is not a decimal number.
abbrev pub numbers_of : List (List ℕ) → Option (List ℕ)
numbers_of [] = Some []
numbers_of (part ∷ parts) = decimal_of part >>= λ n. numbers_of parts >>= λ ns. Some (n ∷ ns)

-- Returns the order that a word is, or `None` if it is not a decimal number below 2^32.
unfoldable pub order_in : List ℕ → Option ℕ
order_in part = decimal_of part >>= λ v. if nat_lt v (2 ^ 32) then Some v else None

-- Returns the message of a line, or `None` if the line does not have the required form. Whether there is such a label
-- and receiver in the campaign is not checked.
unfoldable pub message_of : List ℕ → Option Message
message_of line = tell_parts (pieces space line) >>= λ parts. numbers_of (pieces dot parts.0) >>= λ w.
    decimal_of parts.1 >>= λ p. order_in parts.2 >>= λ v.
    Some (record { label = w; receiver = p; order = v })

-- Checks whether `w` is a label of the campaign with at most `bound + 1` generals, and `p` is a general who is not on
-- it.
abbrev pub is_place : MessageTable → List ℕ → ℕ → Bool
is_place t w p =
    is_distinct w && begins_with t.commander w && list_all (λ x. nat_lt x t.generals) w
    && nat_le (length w) (t.bound + 1) && nat_lt p t.generals && not (on w p)

-- Returns the message of a line after the first, or its first fault. The faults are, in this order: the line does not
-- have the required form, there is no such label or receiver in the campaign, or an earlier line has both.
abbrev pub checked : MessageTable → Option Message → Result Message TableFault
checked t None = Err Line
checked t (Some said) = if is_place t said.label said.receiver
    then (if list_any (is_about said.label said.receiver) t.messages then Err Twice else Ok said) else Err Place

-- Adds the line's number to a fault.
abbrev pub at_line : {A : Type 0} → ℕ → Result A TableFault → Result A TableError
at_line number (Ok x) = Ok x
at_line number (Err fault) = Err (At fault number)

-- Applies the next step of reading to the value of a result, or returns the fault.
abbrev pub faultless : {A B : Type 0} → Result A TableError → (A → Result B TableError) → Result B TableError
faultless (Ok x) f = f x
faultless (Err e) f = Err e

-- Returns the table with one message appended.
abbrev pub with_message : MessageTable → Message → MessageTable
with_message t said = record t { messages = t.messages ++ said ∷ [] }

-- Reads the lines after the first into the table, in order. `number` is the number of the first of them.
abbrev pub lines_told : MessageTable → ℕ → List (List ℕ) → Result MessageTable TableError
lines_told t number [] = Ok t
lines_told t number (line ∷ lines) = faultless (at_line number (checked t (message_of line)))
    (λ said. lines_told (with_message t said) (suc number) lines)

-- Returns the table that these lines are, or the first fault. An empty text has no first line and is rejected.
abbrev pub told_by_lines : List (List ℕ) → Result MessageTable TableError
told_by_lines [] = Err (At Line 1)
told_by_lines (line ∷ lines) = faultless (opened (head_of line)) (λ t. lines_told t 2 lines)

-- Returns the table that a text is, or the first fault.
unfoldable pub table_told : List ℕ → Result MessageTable TableError
table_told text = told_by_lines (lines_of text)
