-- The line of a unit that cannot be decoded is assembled to its bytes.
use Rattle.std.proofs.Common.{◌≡◌, ◌∙◌, ℕ, List, [], ◌∷◌, ◌++◌, length, refl, sym, ap, append_assoc}
use Rattle.std.specs.Prelude.{not, codes, Ok}
use Rattle.hex.specs.Hex.{encode_lower, lower_digits, decode_sized}
use Rattle.hex.proofs.HexLemmas.{decode_sized-encode_lower}
use Rattle.text.specs.declared.stop.Stop.TheVariants.{Blank}
use Rattle.text.specs.Stop.{is_stop, semicolon, feed}
use Rattle.text.specs.Parts.{before}
use Rattle.text.proofs.BytesLemmas.{all-append}
use Rattle.text.proofs.CutLemmas.{Lacks, before-append, from-append}
use Rattle.asm.specs.Reading.{in_bytes, eight_of, unit_in, raw_in, line_bytes}
use Rattle.asm.proofs.ByteLemmas.{AreBytes, is_bytes, digits_pass}

-- The digits are neither white space nor a semicolon.
digits_lack_blank : (unit : List ℕ) → AreBytes unit → Lacks Blank (encode_lower unit)
digits_lack_blank unit are = digits_pass (λ c. not (is_stop Blank c)) lower_digits unit refl refl are

digits_lack_semicolon : (unit : List ℕ) → AreBytes unit → Lacks semicolon (encode_lower unit)
digits_lack_semicolon unit are = digits_pass (λ c. not (is_stop semicolon c)) lower_digits unit refl refl are

digits_lack_feed : (unit : List ℕ) → AreBytes unit → Lacks feed (encode_lower unit)
digits_lack_feed unit are = digits_pass (λ c. not (is_stop feed c)) lower_digits unit refl refl are

-- The text before the comment.
abbrev front : List ℕ → List ℕ
front digits = codes ".unit 0x" ++ (digits ++ 32 ∷ [])

front_lacks : (digits : List ℕ) → Lacks semicolon digits → Lacks semicolon (front digits)
front_lacks digits lacks =
    all-append (λ c. not (is_stop semicolon c)) (codes ".unit 0x") (digits ++ 32 ∷ []) refl
    (all-append (λ c. not (is_stop semicolon c)) digits (32 ∷ []) lacks refl)

-- The comment is cut off.
cut_off : (digits comment : List ℕ) → Lacks semicolon digits → before semicolon (codes ".unit 0x" ++ (digits ++ 32 ∷ 59 ∷ comment)) ≡ front digits
cut_off digits comment lacks =
    ap (λ (t : List ℕ). before semicolon (codes ".unit 0x" ++ t)) (sym (append_assoc digits (32 ∷ []) (59 ∷ comment)))
    ∙ before-append semicolon (front digits) 59 comment (front_lacks digits lacks) refl

-- White space after the number.
unit_in-front : (number : List ℕ) → Lacks Blank number → unit_in (number ++ 32 ∷ []) ≡ eight_of number
unit_in-front number lacks = rw (from-append Blank number 32 [] lacks refl, before-append Blank number 32 [] lacks refl) refl

number_lacks : (digits : List ℕ) → Lacks Blank digits → Lacks Blank (48 ∷ 120 ∷ digits)
number_lacks digits lacks = lacks

dotted_line : (rest : List ℕ) → line_bytes (46 ∷ rest) ≡ raw_in (before semicolon (46 ∷ rest))
dotted_line rest = refl

raw_in-front : (digits : List ℕ) → raw_in (front digits) ≡ unit_in ((48 ∷ 120 ∷ digits) ++ 32 ∷ [])
raw_in-front digits = refl

eight_of-digits : (digits : List ℕ) → eight_of (48 ∷ 120 ∷ digits) ≡ in_bytes (decode_sized digits 8)
eight_of-digits digits = refl

-- The line is assembled to its bytes.
pub raw_says : (unit comment : List ℕ) → length unit ≡ 8 → AreBytes unit → line_bytes (codes ".unit 0x" ++ (encode_lower unit ++ 32 ∷ 59 ∷ comment)) ≡ Ok unit
raw_says unit comment eight are =
    let digits : List ℕ = encode_lower unit in
    dotted_line (codes "unit 0x" ++ (digits ++ 32 ∷ 59 ∷ comment))
    ∙ (ap raw_in (cut_off digits comment (digits_lack_semicolon unit are))
    ∙ (raw_in-front digits
    ∙ (unit_in-front (48 ∷ 120 ∷ digits) (number_lacks digits (digits_lack_blank unit are))
    ∙ (eight_of-digits digits
    ∙ ap in_bytes (decode_sized-encode_lower unit 8 eight (is_bytes unit are))))))

-- There is no line feed in it.
pub raw_lacks_feed : (unit comment : List ℕ) → AreBytes unit → Lacks feed comment → Lacks feed (codes ".unit 0x" ++ (encode_lower unit ++ 32 ∷ 59 ∷ comment))
raw_lacks_feed unit comment are lacks =
    all-append (λ c. not (is_stop feed c)) (codes ".unit 0x") (encode_lower unit ++ 32 ∷ 59 ∷ comment) refl
    (all-append (λ c. not (is_stop feed c)) (encode_lower unit) (32 ∷ 59 ∷ comment) (digits_lack_feed unit are) lacks)
