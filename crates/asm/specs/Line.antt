-- Lines of assembly, of the form `[NAME:] [MNEMONIC OPERANDS] [; COMMENT]`.
use Rattle.std.specs.Prelude.{ℕ, List, [], ◌∷◌, ◌++◌, Bool, true, ◌==◌, ◌&&◌, ◌||◌, not, nat_lt, if◌then◌else◌, Option, Some, None, length, drop}
use Rattle.text.specs.declared.stop.Stop.TheVariants.{Blank, Solid}
use Rattle.text.specs.Options.{◌>>=◌}
use Rattle.text.specs.Stop.{is_within, comma, colon, semicolon}
use Rattle.text.specs.Parts.{until, before, from, pieces}
use Rattle.asm.specs.Operand.{is_letter, is_name}

-- Returns whether the text has only ASCII characters and no carriage return.
abbrev pub is_token : List ℕ → Bool
is_token [] = true
is_token (c ∷ cs) = nat_lt c 128 && not (c == 13) && is_token cs

-- Returns whether the text has only letters, digits, `_` and `.`.
abbrev pub is_word : List ℕ → Bool
is_word [] = true
is_word (c ∷ cs) = (is_letter c || is_within 48 57 c || c == 46) && is_word cs

-- Returns whether the text has only spaces and tabs.
abbrev pub is_all_blank : List ℕ → Bool
is_all_blank text = length (from Solid text) == 0

-- Returns the single word at the beginning of a text, after which only spaces and tabs may follow.
abbrev pub one_word : List ℕ → Option (List ℕ)
one_word solid =
    if length (before Blank solid) == 0 then None
    else if is_all_blank (from Blank solid) && is_token (before Blank solid) then Some (before Blank solid) else None

-- Returns an operand without the spaces and tabs around it. It must be a single word.
abbrev pub token_of : List ℕ → Option (List ℕ)
token_of piece = one_word (from Solid piece)

-- Returns the words `done`, and then the operands in these pieces.
abbrev pub tokens_on : List (List ℕ) → List (List ℕ) → Option (List (List ℕ))
tokens_on done [] = Some done
tokens_on done (piece ∷ pieces) = token_of piece >>= λ token. tokens_on (done ++ token ∷ []) pieces

-- Returns the words of a line without its name and comment: the mnemonic, and the operands, which commas separate.
unfoldable pub line_words : List ℕ → Option (List (List ℕ))
line_words body =
    if length body == 0 then Some []
    else if is_word (before Blank body) then
    if is_all_blank (from Blank body) then Some (before Blank body ∷ [])
    else tokens_on (before Blank body ∷ []) (pieces comma (from Blank body))
    else None

-- What a line contains: its name, if it has one, and the words of its instruction.
pub record Outline : Type 0 where
  pub name : Option (List ℕ)
  pub words : List (List ℕ)

-- Returns what a line contains that begins with a name and a colon.
unfoldable pub named : List ℕ → Option Outline
named code =
    if is_name (before colon code)
    then (line_words (from Solid (drop 1 (from colon code))) >>= λ words. Some (record {
      name =
          Some (before colon code);
      words = words;
    }))
    else None

-- Returns what a line without its comment contains. It has a name if there is a colon in its first word.
unfoldable pub outlined : List ℕ → Option Outline
outlined code =
    if nat_lt (until colon (before Blank code)) (length (before Blank code)) then named code
    else (line_words code >>= λ words. Some (record { name = None; words = words }))

-- Returns what a line contains.
unfoldable pub outline_of : List ℕ → Option Outline
outline_of line = outlined (from Solid (before semicolon line))
