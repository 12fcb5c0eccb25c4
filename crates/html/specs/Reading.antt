-- Defines what an XML reader reads from text without tags (XML 1.0, productions 14, 66 and 68).
use Rattle.std.specs.Prelude.{ℕ, ◌==◌, if◌then◌else◌, List, [], ◌∷◌, ◌++◌, codes, bytes_eq, Option, None, Some, option_map}

-- Returns the character that the reference with this name means, for example `<` for `lt`. Only the references that
-- this crate writes are defined.
abbrev pub meaning : List ℕ → Option ℕ
meaning name =
    if bytes_eq name (codes "amp") then Some 38
    else if bytes_eq name (codes "lt") then Some 60
    else if bytes_eq name (codes "gt") then Some 62
    else if bytes_eq name (codes "quot") then Some 34
    else if bytes_eq name (codes "#39") then Some 39
    else if bytes_eq name (codes "#9") then Some 9
    else if bytes_eq name (codes "#10") then Some 10
    else if bytes_eq name (codes "#13") then Some 13
    else None

-- Puts a character before the following ones that were read. Returns `None` if either could not be read.
abbrev pub onto : Option ℕ → Option (List ℕ) → Option (List ℕ)
onto None rest = None
onto (Some c) rest = option_map (λ cs. c ∷ cs) rest

-- Returns the characters that an XML reader reads from a text, or `None` if it has a tag or an unfinished reference.
-- The state is `None` outside of references. Within one it is the part of the name read so far. A reference ends with a
-- semicolon.
abbrev pub read : Option (List ℕ) → List ℕ → Option (List ℕ)
read None [] = Some []
read (Some name) [] = None
read None (c ∷ cs) = if c == 38 then read (Some []) cs else if c == 60 then None else onto (Some c) (read None cs)
read (Some name) (c ∷ cs) = if c == 59 then onto (meaning name) (read None cs) else read (Some (name ++ c ∷ [])) cs
