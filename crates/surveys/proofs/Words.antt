-- How the words of a line are found and parsed. It follows that results with the same line are equal.
use Rattle.std.specs.Prelude.{ℕ, ◌^◌, Bool, true, false, if◌then◌else◌, List, drop, bytes_eq, codes, Option, None, Some}
use Rattle.text.specs.Options.{◌>>=◌}
use Rattle.text.specs.Parts.{before, from}
use Rattle.text.specs.Stop.{colon, comma}
use Rattle.text.specs.declared.stop.Stop.{Stop}
use Rattle.text.specs.declared.stop.Stop.TheVariants.{Byte}
use Rattle.surveys.specs.declared.finding.Finding.{Finding}
use Rattle.surveys.specs.Lines.{number_told}

-- The word from the first colon up to the stop, and the text from the stop on.
abbrev pub word : Stop → List ℕ → List ℕ
word stop bytes = before stop (drop 1 (from colon bytes))

abbrev pub rest : Stop → List ℕ → List ℕ
rest stop bytes = from stop (drop 1 (from colon bytes))

abbrev pub flag_told : List ℕ → Option Bool
flag_told bytes =
    if bytes_eq bytes (codes "true") then Some true else if bytes_eq bytes (codes "false") then Some false else None

abbrev pub answer_told : List ℕ → Option (Option Bool)
answer_told bytes = if bytes_eq bytes (codes "null") then Some None else flag_told bytes >>= λ b. Some (Some b)

-- The result that these words describe, in the order of the line.
unfoldable pub found_by : List ℕ → List ℕ → List ℕ → List ℕ → List ℕ → List ℕ → List ℕ → Option Finding
found_by alike bound generals kept obeyed seed traitors =
    flag_told alike >>= λ a.
    number_told 256 bound >>= λ m.
    number_told 256 generals >>= λ n.
    flag_told kept >>= λ k.
    answer_told obeyed >>= λ o.
    number_told (2 ^ 64) seed >>= λ s.
    number_told (2 ^ 64) traitors >>= λ t.
    Some (record {
      seed = s;
      generals = n;
      bound = m;
      traitors = t;
      verdict = record { alike = a; obeyed = o; bound = k };
    })

-- The result that the words after the colons of a line describe. The fifth word says what kind of line it is.
unfoldable pub line_told : List ℕ → Option Finding
line_told a =
    let b = rest comma a in
    let c = rest comma b in
    let d = rest comma c in
    let e = rest comma d in
    let f = rest comma e in
    let g = rest comma f in
    let h = rest comma g in
    found_by (word comma a) (word comma b) (word comma c) (word comma d) (word comma f) (word comma g)
    (word (Byte 125) h)
