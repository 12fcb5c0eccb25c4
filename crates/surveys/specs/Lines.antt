-- The line of a campaign in a survey: a JSON object (RFC 8259) whose members are in ascending order of their names.
use Rattle.std.specs.Prelude.{ℕ, ◌≡◌, ◌<◌, ◌^◌, ◌==◌, nat_lt, if◌then◌else◌, not, Bool, true, false, List, ◌∷◌, ◌++◌, decimal, codes, Option, None, Some}
use Rattle.std.specs.List.{list_all}
use Rattle.text.specs.Number.{decimal_of}
use Rattle.text.specs.Options.{◌>>=◌}
use Rattle.surveys.specs.declared.finding.Finding.{Finding}

-- Writes `true` or `false`.
abbrev pub flag_text : Bool → List ℕ
flag_text true = codes "true"
flag_text false = codes "false"

-- Writes `true` or `false`, or `null` if there is no answer.
abbrev pub answer_text : Option Bool → List ℕ
answer_text None = codes "null"
answer_text (Some b) = flag_text b

-- Writes a JSON member: `front`, which is the text before its colon, the colon and `word`, and then `behind`, the text
-- after it.
abbrev pub member : List ℕ → List ℕ → List ℕ → List ℕ
member front word behind = front ++ 58 ∷ (word ++ behind)

-- Writes the result of a campaign as a line: a JSON object and a line feed.
abbrev pub line_text : Finding → List ℕ
line_text f =
    member (codes "{\"alike\"") (flag_text f.verdict.alike)
    (member (codes ",\"bound\"") (decimal f.bound)
    (member (codes ",\"generals\"") (decimal f.generals)
    (member (codes ",\"kept\"") (flag_text f.verdict.bound)
    (member (codes ",\"line\"") (codes "\"campaign\"")
    (member (codes ",\"obeyed\"") (answer_text f.verdict.obeyed)
    (member (codes ",\"seed\"") (decimal f.seed)
    (member (codes ",\"traitors\"") (decimal f.traitors) (codes "}\n"))))))))

-- States that the numbers of a campaign's result are within the ranges of their types in the code.
pub record AreNumbers (f : Finding) : Type 0 where
  pub seed : f.seed < 2 ^ 64
  pub generals : f.generals < 256
  pub bound : f.bound < 256
  pub traitors : f.traitors < 2 ^ 64

-- States that the bytes begin with a JSON member. `word` is between the first colon and the next byte `ends`, and
-- `behind` is what follows that byte.
pub record HasMember (ends : ℕ) (bytes word behind : List ℕ) : Type 0 where
  pub front : List ℕ
  pub plain : list_all (λ c. not (c == 58)) front ≡ true
  pub short : list_all (λ c. not (c == ends)) word ≡ true
  pub whole : bytes ≡ member front word (ends ∷ behind)

-- Parses a decimal number below `limit`. Returns `None` for another word.
abbrev pub number_told : ℕ → List ℕ → Option ℕ
number_told limit word = decimal_of word >>= λ n. if nat_lt n limit then Some n else None

-- States that the seven texts are the values in a campaign's line, in the order of the line.
pub record AreWords (f : Finding) (a m n k o s t : List ℕ) : Type 0 where
  pub alike : a ≡ flag_text f.verdict.alike
  pub bound : m ≡ decimal f.bound
  pub generals : n ≡ decimal f.generals
  pub kept : k ≡ flag_text f.verdict.bound
  pub obeyed : o ≡ answer_text f.verdict.obeyed
  pub seed : s ≡ decimal f.seed
  pub traitors : t ≡ decimal f.traitors

-- Writes the first half of a campaign's line: the opening brace of the JSON object, and its members `alike`, `bound`,
-- `generals` and `kept`.
abbrev pub front_text : Finding → List ℕ
front_text f =
    codes "{\"alike\":" ++ (flag_text f.verdict.alike ++ (codes ",\"bound\":" ++ (decimal f.bound
    ++ (codes ",\"generals\":" ++ (decimal f.generals ++ (codes ",\"kept\":" ++ flag_text f.verdict.bound))))))

-- Writes the second half of a campaign's line: the members `line`, `obeyed`, `seed` and `traitors`, the closing brace
-- of the JSON object, and a line feed.
abbrev pub back_text : Finding → List ℕ
back_text f =
    codes ",\"line\":\"campaign\",\"obeyed\":"
    ++ (answer_text f.verdict.obeyed ++ (codes ",\"seed\":" ++ (decimal f.seed
    ++ (codes ",\"traitors\":" ++ (decimal f.traitors ++ codes "}\n")))))
